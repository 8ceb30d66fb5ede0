-- Entries by their slots: what a change at one slot does to counts and to what is found.
use Rattle.std.proofs.Common.{◌≡◌, ◌≢◌, ℕ, zero, suc, ◌+◌, ◌<◌, ◌≤◌, ◌==◌, ◌&&◌, ◌||◌, Bool, true, false, List, [], ◌∷◌, ◌++◌, length, refl, sym, ap, ◌∙◌, subst, arith, if◌then◌else◌, Some, None, Option, IsSome, IfSome, is_some, nat_lt}
use lib.ListN.{get_or, set}
use Rattle.std.proofs.lemmas.Bool.{lt-ltb}
use Rattle.bs_tree.specs.SortingLaws.{by_cases}
use Rattle.bs_core.specs.Keys.{Key}
use Rattle.bs_core.specs.Machine.{at_place}
use Rattle.bs_core.proofs.Basics.{by_test}
use Rattle.bs_stripe.specs.Places.{entry_at, how_many, has_key, find_from, keyed, all_taken, is_dense, new_entry, added}
use Rattle.bs_stripe.specs.Chains.{entry_in, next_in, entries, next_at}
use Rattle.bs_stripe.specs.declared.place.Entry.{Entry}
use Rattle.bs_stripe.specs.declared.place.Place.{Place}
use Rattle.bs_stripe.specs.declared.place.Place.TheVariants.{Taken, Vacant}

-- ---- counts
pub count_place : (f : Option Entry → Bool) (s : ℕ) (G : Option Entry → Option Entry) (es : List (Option Entry)) → s < length es
    → how_many f (at_place s G es) + (if f (entry_at s es) then 1 else 0) ≡ how_many f es + (if f (G (entry_at s es)) then 1 else 0)
count_place f s G [] h = absurd (omega arith)
count_place f zero G (x ∷ xs) h = omega arith
count_place f (suc s) G (x ∷ xs) h = let r = count_place f s G xs (omega arith) in omega arith

pub count_push : (f : Option Entry → Bool) (es : List (Option Entry)) (x : Option Entry) → how_many f (es ++ x ∷ []) ≡ how_many f es + (if f x then 1 else 0)
count_push f [] x = omega arith
count_push f (y ∷ ys) x = let r = count_push f ys x in omega arith

pub count_small : (f : Option Entry → Bool) (es : List (Option Entry)) → how_many f es ≤ length es
count_small f [] = omega arith
count_small f (x ∷ xs) = let r = count_small f xs in elim (f x) as (λ b. (if b then 1 else 0) + how_many f xs ≤ suc (length xs)) [ true ↦ omega arith | false ↦ omega arith ]

-- ---- what is found
pub find_same : (i : ℕ) (k : Key) (s : ℕ) (G : Option Entry → Option Entry) (es : List (Option Entry)) → has_key k (G (entry_at s es)) ≡ has_key k (entry_at s es) → find_from i k (at_place s G es) ≡ find_from i k es
find_same i k s G [] h = refl
find_same i k zero G (x ∷ xs) h = ap (λ (b : Bool). if b then Some i else find_from (i + 1) k xs) h
find_same i k (suc s) G (x ∷ xs) h = ap (λ (o : Option ℕ). if has_key k x then Some i else o) (find_same (i + 1) k s G xs h)

pub find_none : (i : ℕ) (k : Key) (es : List (Option Entry)) → keyed k es ≡ 0 → find_from i k es ≡ None
find_none i k [] h = refl
find_none i k (x ∷ xs) h = by_cases (has_key k x)
    (λ e. let r : (if true then 1 else 0) + keyed k xs ≡ 0 = subst (λ b. (if b then 1 else 0) + keyed k xs ≡ 0) e h in absurd (omega arith))
    (λ e. let r : (if false then 1 else 0) + keyed k xs ≡ 0 = subst (λ b. (if b then 1 else 0) + keyed k xs ≡ 0) e h in
    subst (λ b. (if b then Some i else find_from (i + 1) k xs) ≡ None) (sym e) (find_none (i + 1) k xs (omega arith)))

pub none_found : (i : ℕ) (k : Key) (es : List (Option Entry)) → find_from i k es ≡ None → keyed k es ≡ 0
none_found i k [] h = refl
none_found i k (x ∷ xs) h = by_cases (has_key k x)
    (λ e. let r : Some i ≡ None = subst (λ b. (if b then Some i else find_from (i + 1) k xs) ≡ None) e h in absurd (cc))
    (λ e. let r = none_found (i + 1) k xs (subst (λ b. (if b then Some i else find_from (i + 1) k xs) ≡ None) e h) in
    subst (λ b. (if b then 1 else 0) + keyed k xs ≡ 0) (sym e) (omega arith))

pub find_put : (i : ℕ) (k : Key) (s : ℕ) (x : Option Entry) (es : List (Option Entry)) → keyed k es ≡ 0 → s < length es → has_key k x ≡ true → find_from i k (at_place s (λ _. x) es) ≡ Some (i + s)
find_put i k s x [] none lt has = absurd (omega arith)
find_put i k zero x (y ∷ ys) none lt has = subst (λ b. (if b then Some i else find_from (i + 1) k ys) ≡ Some (i + 0)) (sym has) (ap (λ (j : ℕ). Some j) (let e : i ≡ i + 0 = omega arith in e))
find_put i k (suc s) x (y ∷ ys) none lt has = by_cases (has_key k y)
    (λ e. let r : (if true then 1 else 0) + keyed k ys ≡ 0 = subst (λ b. (if b then 1 else 0) + keyed k ys ≡ 0) e none in absurd (omega arith))
    (λ e. let r : (if false then 1 else 0) + keyed k ys ≡ 0 = subst (λ b. (if b then 1 else 0) + keyed k ys ≡ 0) e none in
    subst (λ b. (if b then Some i else find_from (i + 1) k (at_place s (λ _. x) ys)) ≡ Some (i + suc s)) (sym e)
    (find_put (i + 1) k s x ys (omega arith) (omega arith) has ∙ ap (λ (j : ℕ). Some j) (let q : (i + 1) + s ≡ i + suc s = omega arith in q)))

pub find_last : (i : ℕ) (k : Key) (x : Option Entry) (es : List (Option Entry)) → keyed k es ≡ 0 → has_key k x ≡ true → find_from i k (es ++ x ∷ []) ≡ Some (i + length es)
find_last i k x [] none has = subst (λ b. (if b then Some i else None) ≡ Some (i + 0)) (sym has) (ap (λ (j : ℕ). Some j) (let e : i ≡ i + 0 = omega arith in e))
find_last i k x (y ∷ ys) none has = by_cases (has_key k y)
    (λ e. let r : (if true then 1 else 0) + keyed k ys ≡ 0 = subst (λ b. (if b then 1 else 0) + keyed k ys ≡ 0) e none in absurd (omega arith))
    (λ e. let r : (if false then 1 else 0) + keyed k ys ≡ 0 = subst (λ b. (if b then 1 else 0) + keyed k ys ≡ 0) e none in
    subst (λ b. (if b then Some i else find_from (i + 1) k (ys ++ x ∷ [])) ≡ Some (i + suc (length ys))) (sym e)
    (find_last (i + 1) k x ys (omega arith) has ∙ ap (λ (j : ℕ). Some j) (let q : (i + 1) + length ys ≡ i + suc (length ys) = omega arith in q)))

pub find_before : (i : ℕ) (k : Key) (x : Option Entry) (es : List (Option Entry)) → has_key k x ≡ false → find_from i k (es ++ x ∷ []) ≡ find_from i k es
find_before i k x [] no_key = subst (λ b. (if b then Some i else None) ≡ None) (sym no_key) refl
find_before i k x (y ∷ ys) no_key = ap (λ (o : Option ℕ). if has_key k y then Some i else o) (find_before (i + 1) k x ys no_key)

-- ---- entries of places
pub long : (ps : List Place) → length (entries ps) ≡ length ps
long [] = refl
long (p ∷ ps) = ap suc (long ps)

pub in_range : (s : ℕ) (ps : List Place) → IsSome (entry_at s (entries ps)) → s < length ps
in_range s [] h = absurd (cc)
in_range zero (p ∷ ps) h = omega arith
in_range (suc s) (p ∷ ps) h = let r = in_range s ps h in omega arith

pub entry_here : (s : ℕ) (ps : List Place) (d : Place) → s < length ps → d ≡ get_or ps s d → entry_at s (entries ps) ≡ entry_in d
entry_here s [] d h e = absurd (omega arith)
entry_here zero (p ∷ ps) d h e = ap entry_in (sym e)
entry_here (suc s) (p ∷ ps) d h e = entry_here s ps d (omega arith) e

pub next_here : (s : ℕ) (ps : List Place) (d : Place) → s < length ps → d ≡ get_or ps s d → next_at s ps ≡ next_in d
next_here s [] d h e = absurd (omega arith)
next_here zero (p ∷ ps) d h e = ap next_in (sym e)
next_here (suc s) (p ∷ ps) d h e = next_here s ps d (omega arith) e

pub entries_set : (s : ℕ) (ps : List Place) (y : Place) (G : Option Entry → Option Entry) → s < length ps → entry_in y ≡ G (entry_at s (entries ps)) → entries (set ps s y) ≡ at_place s G (entries ps)
entries_set s [] y G h e = absurd (omega arith)
entries_set zero (p ∷ ps) y G h e = ap (λ (x : Option Entry). x ∷ entries ps) e
entries_set (suc s) (p ∷ ps) y G h e = ap (λ (xs : List (Option Entry)). entry_in p ∷ xs) (entries_set s ps y G (omega arith) e)

pub entries_push : (ps : List Place) (y : Place) → entries (ps ++ y ∷ []) ≡ entries ps ++ entry_in y ∷ []
entries_push [] y = refl
entries_push (p ∷ ps) y = ap (λ (xs : List (Option Entry)). entry_in p ∷ xs) (entries_push ps y)

pub next_set : (s : ℕ) (ps : List Place) (y : Place) → s < length ps → next_at s (set ps s y) ≡ next_in y
next_set s [] y h = absurd (omega arith)
next_set zero (p ∷ ps) y h = refl
next_set (suc s) (p ∷ ps) y h = next_set s ps y (omega arith)

pub next_else : (t s : ℕ) (ps : List Place) (y : Place) → t ≢ s → next_at t (set ps s y) ≡ next_at t ps
next_else t s [] y n = refl
next_else zero zero (p ∷ ps) y n = absurd (n refl)
next_else zero (suc s) (p ∷ ps) y n = refl
next_else (suc t) zero (p ∷ ps) y n = refl
next_else (suc t) (suc s) (p ∷ ps) y n = next_else t s ps y (λ e. n (ap suc e))

pub next_push : (t : ℕ) (ps : List Place) (y : Place) → next_in y ≡ None → next_at t (ps ++ y ∷ []) ≡ next_at t ps
next_push zero [] y e = e
next_push (suc t) [] y e = refl
next_push zero (p ∷ ps) y e = refl
next_push (suc t) (p ∷ ps) y e = next_push t ps y e

pub vacant_in : (s : ℕ) (ps : List Place) (n : Option ℕ) → next_at s ps ≡ Some n → (s < length ps) × (entry_at s (entries ps) ≡ None)
vacant_in s [] n e = absurd (cc)
vacant_in zero (Taken x ∷ ps) n e = absurd (cc)
vacant_in zero (Vacant m ∷ ps) n e = (omega arith, refl)
vacant_in (suc s) (p ∷ ps) n e = let r = vacant_in s ps n e in let q = r.0 in (omega arith, r.1)

pub full : (ps : List Place) → ((t : ℕ) → is_some (next_at t ps) ≡ false) → all_taken (entries ps) ≡ true
full [] h = refl
full (Taken x ∷ ps) h = full ps (λ t. h (suc t))
full (Vacant m ∷ ps) h = let r : true ≡ false = h 0 in absurd (cc)

past : (es : List (Option Entry)) → entry_at (length es) es ≡ None
past [] = refl
past (x ∷ xs) = past xs

-- ---- a new entry
pub dense_below : (s : ℕ) (es : List (Option Entry)) → s < length es → is_dense s es ≡ true
dense_below s es h = ap (λ (b : Bool). b || ((s == length es) && all_taken es)) (lt-ltb s (length es) h)

pub dense_last : (s : ℕ) (es : List (Option Entry)) → s ≡ length es → all_taken es ≡ true → is_dense s es ≡ true
dense_last s es e h = by_test s (length es) (λ b. (nat_lt s (length es) || (b && all_taken es)) ≡ true)
    (λ _. elim (nat_lt s (length es)) as (λ b. (b || all_taken es) ≡ true) [ true ↦ refl | false ↦ h ])
    (λ n. absurd (n e))

pub vacant_last : (s : ℕ) (es : List (Option Entry)) → s ≡ length es → entry_at s es ≡ None
vacant_last s es e = ap (λ (t : ℕ). entry_at t es) e ∙ past es

pub added_below : (s : ℕ) (k : Key) (es : List (Option Entry)) → s < length es → at_place s (λ _. new_entry k) es ≡ added s k es
added_below s k es h = by_test s (length es) (λ b. at_place s (λ _. new_entry k) es ≡ (if b then es ++ new_entry k ∷ [] else at_place s (λ _. new_entry k) es)) (λ e. absurd (omega arith)) (λ _. refl)

pub added_last : (s : ℕ) (k : Key) (es : List (Option Entry)) → s ≡ length es → es ++ new_entry k ∷ [] ≡ added s k es
added_last s k es e = by_test s (length es) (λ b. es ++ new_entry k ∷ [] ≡ (if b then es ++ new_entry k ∷ [] else at_place s (λ _. new_entry k) es)) (λ _. refl) (λ n. absurd (n e))

-- ---- what is found has an entry
has_some : (k : Key) (x : Option Entry) → has_key k x ≡ true → is_some x ≡ true
has_some k None h = absurd (cc)
has_some k (Some e) h = refl

pub find_in : (i : ℕ) (k : Key) (es : List (Option Entry)) (t : ℕ) → find_from i k es ≡ Some t → (s : ℕ) × (t ≡ i + s) × (has_key k (entry_at s es) ≡ true)
find_in i k [] t h = absurd (cc)
find_in i k (x ∷ xs) t h = by_cases (has_key k x)
    (λ e.
    let r : Some i ≡ Some t = subst (λ b. (if b then Some i else find_from (i + 1) k xs) ≡ Some t) e h in
    let q : i ≡ t = cc in (0, omega arith, e))
    (λ e.
    let r = find_in (i + 1) k xs t (subst (λ b. (if b then Some i else find_from (i + 1) k xs) ≡ Some t) e h) in
    let q = r.1 in (suc r.0, omega arith, r.2))

pub found_taken : (k : Key) (es : List (Option Entry)) (o : Option ℕ) → o ≡ find_from 0 k es → IfSome o (λ s. IsSome (entry_at s es))
found_taken k es None h = tt
found_taken k es (Some t) h =
    let r = find_in 0 k es t (sym h) in
    let q : t ≡ r.0 = let z = r.1 in omega arith in
    subst (λ s. is_some (entry_at s es) ≡ true) (sym q) (has_some k (entry_at r.0 es) r.2)

pub out_of_range : (s : ℕ) (ps : List Place) → length ps ≤ s → is_some (entry_at s (entries ps)) ≡ false
out_of_range s [] h = refl
out_of_range zero (p ∷ ps) h = absurd (omega arith)
out_of_range (suc s) (p ∷ ps) h = out_of_range s ps (omega arith)

put_here : (s : ℕ) (x : Option Entry) (es : List (Option Entry)) → s < length es → entry_at s (at_place s (λ _. x) es) ≡ x
put_here s x [] h = absurd (omega arith)
put_here zero x (y ∷ ys) h = refl
put_here (suc s) x (y ∷ ys) h = put_here s x ys (omega arith)

push_here : (x : Option Entry) (es : List (Option Entry)) → entry_at (length es) (es ++ x ∷ []) ≡ x
push_here x [] = refl
push_here x (y ∷ ys) = push_here x ys

pub added_here : (s : ℕ) (k : Key) (es : List (Option Entry)) → s ≤ length es → entry_at s (added s k es) ≡ new_entry k
added_here s k es h = by_test s (length es) (λ b. entry_at s (if b then es ++ new_entry k ∷ [] else at_place s (λ _. new_entry k) es) ≡ new_entry k)
    (λ e. ap (λ (t : ℕ). entry_at t (es ++ new_entry k ∷ [])) e ∙ push_here (new_entry k) es)
    (λ n. put_here s (new_entry k) es (omega arith))

pub count_at : (k : Key) (s : ℕ) (es : List (Option Entry)) → has_key k (entry_at s es) ≡ true → 1 ≤ keyed k es
count_at k s [] h = absurd (cc)
count_at k zero (x ∷ xs) h = subst (λ b. 1 ≤ (if b then 1 else 0) + keyed k xs) (sym h) (omega arith)
count_at k (suc s) (x ∷ xs) h = let r = count_at k s xs h in elim (has_key k x) as (λ b. 1 ≤ (if b then 1 else 0) + keyed k xs) [ true ↦ omega arith | false ↦ omega arith ]

pub taken_range : (k : Key) (s : ℕ) (es : List (Option Entry)) → has_key k (entry_at s es) ≡ true → s < length es
taken_range k s [] h = absurd (cc)
taken_range k zero (x ∷ xs) h = omega arith
taken_range k (suc s) (x ∷ xs) h = let r = taken_range k s xs h in omega arith
