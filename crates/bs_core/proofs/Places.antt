-- The first place that passes, and what recursions over a list find there.
use Rattle.std.proofs.Common.{◌≡◌, ◌≢◌, ℕ, zero, suc, ◌+◌, ◌-◌, ◌<◌, ◌≤◌, ◌==◌, ◌&&◌, ◌||◌, Bool, true, false, cond, List, [], ◌∷◌, ◌++◌, length, take, drop, refl, sym, ap, ap₂, ◌∙◌, subst, arith, if◌then◌else◌, Some, None}
use Rattle.std.specs.Prelude.{nat_lt, is_some, not}
use mathlib.Core.Logic.{dite}
use native.Mathlib.Decide.{ℕ_discrete}
use Rattle.std.specs.List.{position, position_or_len, remove, slice_get}
use Rattle.std.proofs.Common.{append-nil, append_assoc}
use lib.ListN.{get_or, set}
use Rattle.std.proofs.lemmas.Option.{slice_get-get_or}
use Rattle.std.proofs.lemmas.Bool.{lt-ltb, le-ltb, ltb-true, ltb-false}
use Rattle.bs_tree.specs.Code.{same_code, child_codes}
use Rattle.bs_tree.specs.SortingLaws.{by_cases}
use Rattle.bs_core.specs.Codes.{Code, same, children}
use Rattle.bs_core.specs.Machine.{most, is_name, times, code_at, without, coded, name_of, without_code, slots, codes, is_entry, lower, lower_in, raise_in, one_more, freed, freed_by, has_all, taken, left, linked, pair, is_full_below, is_dense, at_place, list_at, table_at}
use Rattle.bs_core.proofs.Basics.{by_test, children_is}
use Rattle.bs_core.proofs.May.{both_true}
use Rattle.bs_core.specs.declared.name.Name.{Name}
use Rattle.bs_core.specs.declared.table.Held.{Held}
use Rattle.bs_core.specs.declared.table.Entry.{Entry}
use Rattle.bs_core.specs.declared.table.Table.{Table}

-- what is so at the first place that passes, or where there is none
abbrev pub Finds : {A : Type 0} → (A → Bool) → List A → (ℕ → Type 0) → Type 0 → Type 0
Finds p l Hit Miss = (position_or_len p l < length l → Hit (position_or_len p l)) × (length l ≤ position_or_len p l → Miss)

pub found_at : {A : Type 0} (p : A → Bool) (l : List A) (Hit : ℕ → Type 0) (Miss : Type 0) (i : ℕ) → Finds p l Hit Miss → position p l ≡ Some i → (i < length l) × Hit i
found_at p l Hit Miss i f h =
    let k = position_or_len p l in
    by_cases (nat_lt k (length l))
    (λ e.
    let a : Some k ≡ Some i = subst (λ b. cond b (Some k) None ≡ Some i) e h in
    let q : k ≡ i = cc in
    let lt = ltb-true k (length l) e in
    (subst (λ j. j < length l) q lt, subst Hit q (f.0 lt)))
    (λ e. let a : None ≡ Some i = subst (λ b. cond b (Some k) None ≡ Some i) e h in absurd (cc))

pub not_found : {A : Type 0} (p : A → Bool) (l : List A) (Hit : ℕ → Type 0) (Miss : Type 0) → Finds p l Hit Miss → position p l ≡ None → Miss
not_found p l Hit Miss f h =
    let k = position_or_len p l in
    by_cases (nat_lt k (length l))
    (λ e. let a : Some k ≡ None = subst (λ b. cond b (Some k) None ≡ None) e h in absurd (cc))
    (λ e. f.1 (ltb-false k (length l) e))

pub is_found : {A : Type 0} (p : A → Bool) (l : List A) (Hit : ℕ → Type 0) (Miss : Type 0) (t : Bool) → Finds p l Hit Miss → ((k : ℕ) → Hit k → t ≡ true) → (Miss → t ≡ false) → is_some (position p l) ≡ t
is_found p l Hit Miss t f hit miss =
    let k = position_or_len p l in
    by_cases (nat_lt k (length l))
    (λ e. subst (λ b. is_some (cond b (Some k) None) ≡ t) (sym e) (sym (hit k (f.0 (ltb-true k (length l) e)))))
    (λ e. subst (λ b. is_some (cond b (Some k) None) ≡ t) (sym e) (sym (miss (f.1 (ltb-false k (length l) e)))))

-- ---- pairs by name
abbrev pub NameHit : Name → List Held → ℕ → Type 0
NameHit n l k = (nat_lt 0 (times n l) ≡ true) × (without n l ≡ remove l k) × ((d : Held) → code_at n l ≡ (get_or l k d).code)

abbrev pub NameMiss : Name → List Held → Type 0
NameMiss n l = (nat_lt 0 (times n l) ≡ false) × (without n l ≡ l) × (code_at n l ≡ (1, 0) ∷ [])

pub by_name : (n : Name) (l : List Held) → Finds (λ (p : Held). is_name n p.name) l (NameHit n l) (NameMiss n l)
by_name n [] = (λ h. absurd (omega arith), λ h. (refl, refl, refl))
by_name n (p ∷ ps) =
    let k = position_or_len (λ (q : Held). is_name n q.name) ps in
    let r = by_name n ps in
    let z : times n ps ≡ 0 + times n ps = omega arith in
    let F : Bool → ℕ → Type 0 = λ b j. (
    let w = if b then ps else p ∷ without n ps in
    let t = (if b then 1 else 0) + times n ps in
    (j < suc (length ps) → (nat_lt 0 t ≡ true) × (w ≡ remove (p ∷ ps) j) × ((d : Held) → (if b then p.code else code_at n ps) ≡ (get_or (p ∷ ps) j d).code))
    × (suc (length ps) ≤ j → (nat_lt 0 t ≡ false) × (w ≡ p ∷ ps) × ((if b then p.code else code_at n ps) ≡ (1, 0) ∷ []))) in
    let up : suc k ≡ 1 + k = omega arith in
    elim (is_name n p.name) as (λ b. F b (cond (not b) (1 + k) 0)) [
      | true ↦ (λ h. (lt-ltb 0 (1 + times n ps) (omega arith), refl, λ d. refl), λ h. absurd (omega arith))
      | false ↦ subst (F false) up (λ h. let a = r.0 (omega arith) in (subst (λ j. nat_lt 0 j ≡ true) z a.0, ap (λ (qs : List Held). p ∷ qs) a.1, a.2), λ h. let a = r.1 (omega arith) in (subst (λ j. nat_lt 0 j ≡ false) z a.0, ap (λ (qs : List Held). p ∷ qs) a.1, a.2))
    ]

-- ---- pairs by code
abbrev pub CodeHit : Code → List Held → ℕ → Type 0
CodeHit c l k = (nat_lt 0 (coded c l) ≡ true) × (without_code c l ≡ remove l k) × ((d : Held) → name_of c l ≡ (get_or l k d).name)

same_found : (c : Code) (l : List Held) → Finds (λ (p : Held). same c p.code) l (CodeHit c l) (nat_lt 0 (coded c l) ≡ false)
same_found c [] = (λ h. absurd (omega arith), λ h. refl)
same_found c (p ∷ ps) =
    let k = position_or_len (λ (q : Held). same c q.code) ps in
    let r = same_found c ps in
    let z : coded c ps ≡ 0 + coded c ps = omega arith in
    let F : Bool → ℕ → Type 0 = λ b j. (
    let w = if b then ps else p ∷ without_code c ps in
    let t = (if b then 1 else 0) + coded c ps in
    (j < suc (length ps) → (nat_lt 0 t ≡ true) × (w ≡ remove (p ∷ ps) j) × ((d : Held) → (if b then p.name else name_of c ps) ≡ (get_or (p ∷ ps) j d).name))
    × (suc (length ps) ≤ j → nat_lt 0 t ≡ false)) in
    let up : suc k ≡ 1 + k = omega arith in
    elim (same c p.code) as (λ b. F b (cond (not b) (1 + k) 0)) [
      | true ↦ (λ h. (lt-ltb 0 (1 + coded c ps) (omega arith), refl, λ d. refl), λ h. absurd (omega arith))
      | false ↦ subst (F false) up (λ h. let a = r.0 (omega arith) in (subst (λ j. nat_lt 0 j ≡ true) z a.0, ap (λ (qs : List Held). p ∷ qs) a.1, a.2), λ h. subst (λ j. nat_lt 0 j ≡ false) z (r.1 (omega arith)))
    ]

-- ---- entries by slot
abbrev pub SlotHit : ℕ → List Entry → ℕ → Type 0
SlotHit s l k = (nat_lt 0 (slots s l) ≡ true) × ((d : Entry) → lower_in s l ≡ take k l ++ (lower (get_or l k d) ++ drop (suc k) l)) × ((d : Entry) → freed s l ≡ freed_by (get_or l k d))

abbrev pub SlotMiss : ℕ → List Entry → Type 0
SlotMiss s l = (nat_lt 0 (slots s l) ≡ false) × (lower_in s l ≡ l) × (freed s l ≡ [])

pub by_slot : (s : ℕ) (l : List Entry) → Finds (λ (e : Entry). s == e.slot) l (SlotHit s l) (SlotMiss s l)
by_slot s [] = (λ h. absurd (omega arith), λ h. (refl, refl, refl))
by_slot s (p ∷ ps) =
    let k = position_or_len (λ (q : Entry). s == q.slot) ps in
    let r = by_slot s ps in
    let z : slots s ps ≡ 0 + slots s ps = omega arith in
    let F : Bool → ℕ → Type 0 = λ b j. (
    let w = if b then lower p ++ ps else p ∷ lower_in s ps in
    let t = (if b then 1 else 0) + slots s ps in
    let v = if b then freed_by p else freed s ps in
    (j < suc (length ps) → (nat_lt 0 t ≡ true) × ((d : Entry) → w ≡ take j (p ∷ ps) ++ (lower (get_or (p ∷ ps) j d) ++ drop (suc j) (p ∷ ps))) × ((d : Entry) → v ≡ freed_by (get_or (p ∷ ps) j d)))
    × (suc (length ps) ≤ j → (nat_lt 0 t ≡ false) × (w ≡ p ∷ ps) × (v ≡ []))) in
    let up : suc k ≡ 1 + k = omega arith in
    elim (s == p.slot) as (λ b. F b (cond (not b) (1 + k) 0)) [
      | true ↦ (λ h. (lt-ltb 0 (1 + slots s ps) (omega arith), λ d. refl, λ d. refl), λ h. absurd (omega arith))
      | false ↦ subst (F false) up (λ h. let a = r.0 (omega arith) in (subst (λ j. nat_lt 0 j ≡ true) z a.0, λ d. ap (λ (qs : List Entry). p ∷ qs) (a.1 d), a.2), λ h. let a = r.1 (omega arith) in (subst (λ j. nat_lt 0 j ≡ false) z a.0, ap (λ (qs : List Entry). p ∷ qs) a.1, a.2))
    ]

-- ---- entries by code, and by both
pub same_entry_found : (c : Code) (l : List Entry) → Finds (λ (e : Entry). same c e.code) l (λ _. nat_lt 0 (codes c l) ≡ true) (nat_lt 0 (codes c l) ≡ false)
same_entry_found c [] = (λ h. absurd (omega arith), λ h. refl)
same_entry_found c (p ∷ ps) =
    let k = position_or_len (λ (q : Entry). same c q.code) ps in
    let r = same_entry_found c ps in
    let z : codes c ps ≡ 0 + codes c ps = omega arith in
    let F : Bool → ℕ → Type 0 = λ b j. (
    let t = (if b then 1 else 0) + codes c ps in
    (j < suc (length ps) → nat_lt 0 t ≡ true) × (suc (length ps) ≤ j → nat_lt 0 t ≡ false)) in
    let up : suc k ≡ 1 + k = omega arith in
    elim (same c p.code) as (λ b. F b (cond (not b) (1 + k) 0)) [
      | true ↦ (λ h. lt-ltb 0 (1 + codes c ps) (omega arith), λ h. absurd (omega arith))
      | false ↦ subst (F false) up (λ h. subst (λ j. nat_lt 0 j ≡ true) z (r.0 (omega arith)), λ h. subst (λ j. nat_lt 0 j ≡ false) z (r.1 (omega arith)))
    ]

both_found : (s : ℕ) (c : Code) (l : List Entry) → Finds (λ (e : Entry). (s == e.slot) && same c e.code) l (λ _. is_entry s c l ≡ true) (is_entry s c l ≡ false)
both_found s c [] = (λ h. absurd (omega arith), λ h. refl)
both_found s c (p ∷ ps) =
    let k = position_or_len (λ (q : Entry). (s == q.slot) && same c q.code) ps in
    let r = both_found s c ps in
    let rest = is_entry s c ps in
    let miss : (1 + k < suc (length ps) → rest ≡ true) × (suc (length ps) ≤ 1 + k → rest ≡ false) = (λ h. r.0 (omega arith), λ h. r.1 (omega arith)) in
    elim (s == p.slot) as (λ a. (cond (not (a && same c p.code)) (1 + k) 0 < suc (length ps) → ((a && same c p.code) || rest) ≡ true)
    × (suc (length ps) ≤ cond (not (a && same c p.code)) (1 + k) 0 → ((a && same c p.code) || rest) ≡ false)) [
      | true ↦ elim (same c p.code) as (λ b. (cond (not b) (1 + k) 0 < suc (length ps) → (b || rest) ≡ true) × (suc (length ps) ≤ cond (not b) (1 + k) 0 → (b || rest) ≡ false)) [
        | true ↦ (λ h. refl, λ h. absurd (omega arith))
        | false ↦ miss
      ]
      | false ↦ miss
    ]

-- ---- the same by the test that the code runs
same_is : same ≡ same_code
unfolding same
same_is = refl

pub by_code : (c : Code) (l : List Held) → Finds (λ (p : Held). same_code c p.code) l (CodeHit c l) (nat_lt 0 (coded c l) ≡ false)
by_code c l = subst (λ (f : Code → Code → Bool). Finds (λ (p : Held). f c p.code) l (CodeHit c l) (nat_lt 0 (coded c l) ≡ false)) same_is (same_found c l)

pub by_entry_code : (c : Code) (l : List Entry) → Finds (λ (e : Entry). same_code c e.code) l (λ _. nat_lt 0 (codes c l) ≡ true) (nat_lt 0 (codes c l) ≡ false)
by_entry_code c l = subst (λ (f : Code → Code → Bool). Finds (λ (e : Entry). f c e.code) l (λ _. nat_lt 0 (codes c l) ≡ true) (nat_lt 0 (codes c l) ≡ false)) same_is (same_entry_found c l)

pub by_entry : (s : ℕ) (c : Code) (l : List Entry) → Finds (λ (e : Entry). (s == e.slot) && same_code c e.code) l (λ _. is_entry s c l ≡ true) (is_entry s c l ≡ false)
by_entry s c l = subst (λ (f : Code → Code → Bool). Finds (λ (e : Entry). (s == e.slot) && f c e.code) l (λ _. is_entry s c l ≡ true) (is_entry s c l ≡ false)) same_is (both_found s c l)

-- ---- one more at each entry of a slot
abbrev pub more : Entry → Entry
more e = record { slot = e.slot; code = e.code; links = e.links; count = one_more e.count }

pub raise_past : (s i : ℕ) (es : List Entry) (d : Entry) → i < length es → s ≢ (get_or es i d).slot
    → take (suc i) es ++ raise_in s (drop (suc i) es) ≡ take i es ++ raise_in s (drop i es)
raise_past s i [] d h n = absurd (omega arith)
raise_past s zero (x ∷ xs) d h n = by_test s x.slot (λ b. x ∷ raise_in s xs ≡ (if b then more x else x) ∷ raise_in s xs) (λ e. absurd (n e)) (λ _. refl)
raise_past s (suc i) (x ∷ xs) d h n = ap (λ (ys : List Entry). x ∷ ys) (raise_past s i xs d (omega arith) n)

pub raise_here : (s i : ℕ) (es : List Entry) (d : Entry) → i < length es → s ≡ (get_or es i d).slot
    → take (suc i) (set es i (more (get_or es i d))) ++ raise_in s (drop (suc i) (set es i (more (get_or es i d)))) ≡ take i es ++ raise_in s (drop i es)
raise_here s i [] d h e = absurd (omega arith)
raise_here s zero (x ∷ xs) d h e = by_test s x.slot (λ b. more x ∷ raise_in s xs ≡ (if b then more x else x) ∷ raise_in s xs) (λ _. refl) (λ n. absurd (n e))
raise_here s (suc i) (x ∷ xs) d h e = ap (λ (ys : List Entry). x ∷ ys) (raise_here s i xs d (omega arith) e)

-- ---- each slot below
pub not_full : (k n : ℕ) (es : List Entry) → k < n → nat_lt 0 (slots k es) ≡ false → is_full_below n es ≡ false
not_full k zero es h v = absurd (omega arith)
not_full k (suc n) es h v = dite (ℕ_discrete k n)
    (λ e. let w : nat_lt 0 (slots n es) ≡ false = subst (λ j. nat_lt 0 (slots j es) ≡ false) e v in subst (λ b. (b && is_full_below n es) ≡ false) (sym w) refl)
    (λ e. let r = not_full k n es (omega arith) v in elim (nat_lt 0 (slots n es)) as (λ b. (b && is_full_below n es) ≡ false) [ true ↦ r | false ↦ refl ])

-- ---- what the code does to the entry that it found
pub lower_gone : (s k : ℕ) (es : List Entry) (d : Entry) → SlotHit s es k → (get_or es k d).count ≡ 1 → lower_in s es ≡ remove es k
lower_gone s k es d h e = h.1 d ∙ ap (λ (w : List Entry). take k es ++ (w ++ drop (suc k) es)) (by_test (get_or es k d).count 1 (λ b. (if b then [] else (if (get_or es k d).count == most then get_or es k d ∷ [] else record { slot = (get_or es k d).slot; code = (get_or es k d).code; links = (get_or es k d).links; count = (get_or es k d).count - 1 } ∷ [])) ≡ []) (λ _. refl) (λ n. absurd (n e)))

abbrev pub less : Entry → Entry
less e = record { slot = e.slot; code = e.code; links = e.links; count = e.count - 1 }

set_is : (k : ℕ) (es : List Entry) (y : Entry) → k < length es → take k es ++ (y ∷ drop (suc k) es) ≡ set es k y
set_is k [] y h = absurd (omega arith)
set_is zero (x ∷ xs) y h = refl
set_is (suc k) (x ∷ xs) y h = ap (λ (w : List Entry). x ∷ w) (set_is k xs y (omega arith))

same_set : (k : ℕ) (es : List Entry) (d : Entry) → set es k (get_or es k d) ≡ es
same_set k [] d = refl
same_set zero (x ∷ xs) d = refl
same_set (suc k) (x ∷ xs) d = ap (λ (w : List Entry). x ∷ w) (same_set k xs d)

pub lower_less : (s k : ℕ) (es : List Entry) (d : Entry) → k < length es → SlotHit s es k → (get_or es k d).count ≢ 1 → (get_or es k d).count ≢ most → lower_in s es ≡ set es k (less (get_or es k d))
lower_less s k es d lt h one few = h.1 d
    ∙ ap (λ (w : List Entry). take k es ++ (w ++ drop (suc k) es)) (by_test (get_or es k d).count 1 (λ b. (if b then [] else (if (get_or es k d).count == most then get_or es k d ∷ [] else less (get_or es k d) ∷ [])) ≡ less (get_or es k d) ∷ []) (λ e. absurd (one e))
    (λ _. by_test (get_or es k d).count most (λ b. (if b then get_or es k d ∷ [] else less (get_or es k d) ∷ []) ≡ less (get_or es k d) ∷ []) (λ e. absurd (few e)) (λ _. refl)))
    ∙ set_is k es (less (get_or es k d)) lt

pub lower_most : (s k : ℕ) (es : List Entry) (d : Entry) → k < length es → SlotHit s es k → (get_or es k d).count ≡ most → lower_in s es ≡ es
lower_most s k es d lt h full = h.1 d
    ∙ ap (λ (w : List Entry). take k es ++ (w ++ drop (suc k) es)) (by_test (get_or es k d).count 1 (λ b. (if b then [] else (if (get_or es k d).count == most then get_or es k d ∷ [] else less (get_or es k d) ∷ [])) ≡ get_or es k d ∷ []) (λ e. absurd (omega arith))
    (λ _. by_test (get_or es k d).count most (λ b. (if b then get_or es k d ∷ [] else less (get_or es k d) ∷ []) ≡ get_or es k d ∷ []) (λ _. refl) (λ n. absurd (n full))))
    ∙ set_is k es (get_or es k d) lt ∙ same_set k es d

pub found_same : (es : List Entry) (k : ℕ) (d d' : Entry) → k < length es → get_or es k d ≡ get_or es k d'
found_same [] k d d' h = absurd (omega arith)
found_same (x ∷ xs) zero d d' h = refl
found_same (x ∷ xs) (suc k) d d' h = found_same xs k d d' (omega arith)

-- ---- as many entries as slots below a full mark
abbrev below : ℕ → List Entry → ℕ
below zero es = 0
below (suc s) es = slots s es + below s es

below_one : (m : ℕ) (e : Entry) (es : List Entry) → below m (e ∷ es) ≤ below m es + (if nat_lt e.slot m then 1 else 0)
below_one zero e es = omega arith
below_one (suc s) e es =
    let r = below_one s e es in
    by_test s e.slot (λ b. ((if b then 1 else 0) + slots s es) + below s (e ∷ es) ≤ (slots s es + below s es) + (if nat_lt e.slot (suc s) then 1 else 0))
    (λ q.
    let no : nat_lt e.slot s ≡ false = le-ltb e.slot s (omega arith) in
    let yes : nat_lt e.slot (suc s) ≡ true = lt-ltb e.slot (suc s) (omega arith) in
    let r' : below s (e ∷ es) ≤ below s es + 0 = subst (λ b. below s (e ∷ es) ≤ below s es + (if b then 1 else 0)) no r in
    subst (λ b. (1 + slots s es) + below s (e ∷ es) ≤ (slots s es + below s es) + (if b then 1 else 0)) (sym yes) (omega arith))
    (λ q. by_cases (nat_lt e.slot s)
    (λ y.
    let yes : nat_lt e.slot (suc s) ≡ true = lt-ltb e.slot (suc s) (let l = ltb-true e.slot s y in omega arith) in
    let r' : below s (e ∷ es) ≤ below s es + 1 = subst (λ b. below s (e ∷ es) ≤ below s es + (if b then 1 else 0)) y r in
    subst (λ b. (0 + slots s es) + below s (e ∷ es) ≤ (slots s es + below s es) + (if b then 1 else 0)) (sym yes) (omega arith))
    (λ y.
    let r' : below s (e ∷ es) ≤ below s es + 0 = subst (λ b. below s (e ∷ es) ≤ below s es + (if b then 1 else 0)) y r in
    omega arith))

below_length : (m : ℕ) (es : List Entry) → below m es ≤ length es
below_length zero [] = omega arith
below_length (suc m) [] = let r = below_length m [] in omega arith
below_length m (e ∷ es) =
    let r = below_length m es in
    let q = below_one m e es in
    let z : (if nat_lt e.slot m then 1 else 0) ≤ 1 = elim (nat_lt e.slot m) as (λ b. (if b then 1 else 0) ≤ 1) [ true ↦ omega arith | false ↦ omega arith ] in omega arith

full_below : (m : ℕ) (es : List Entry) → is_full_below m es ≡ true → m ≤ below m es
full_below zero es h = omega arith
full_below (suc s) es h =
    let b = both_true (nat_lt 0 (slots s es)) (is_full_below s es) h in
    let r = full_below s es b.1 in
    let q = ltb-true 0 (slots s es) b.0 in omega arith

pub full_long : (m : ℕ) (es : List Entry) → is_full_below m es ≡ true → m ≤ length es
full_long m es h = let a = full_below m es h in let b = below_length m es in omega arith

-- a dense slot at the mark is at most the number of entries
pub dense_long : (s : ℕ) (t : Table) → is_dense s t ≡ true → s ≡ t.mark → s ≤ length t.entries
dense_long s t h e = by_cases (nat_lt s t.mark)
    (λ y. let l = ltb-true s t.mark y in absurd (omega arith))
    (λ n.
    let r : ((s == t.mark) && is_full_below t.mark t.entries) ≡ true = subst (λ b. (b || ((s == t.mark) && is_full_below t.mark t.entries)) ≡ true) n h in
    let k = full_long t.mark t.entries (both_true (s == t.mark) (is_full_below t.mark t.entries) r).1 in omega arith)

-- ---- writes at a place
pub set_place : {A : Type 0} (i : ℕ) (F : A → A) (xs : List A) (d : A) → i < length xs → set xs i (F (get_or xs i d)) ≡ at_place i F xs
set_place i F [] d h = absurd (omega arith)
set_place zero F (x ∷ xs) d h = refl
set_place {A} (suc i) F (x ∷ xs) d h = ap (λ (ys : List A). x ∷ ys) (set_place i F xs d (omega arith))

pub list_get : (i : ℕ) (ls : List (List Held)) (d : List Held) → i < length ls → get_or ls i d ≡ list_at i ls
list_get i [] d h = absurd (omega arith)
list_get zero (l ∷ ls) d h = refl
list_get (suc i) (l ∷ ls) d h = list_get i ls d (omega arith)

pub table_get : (i : ℕ) (ts : List Table) (d : Table) → i < length ts → get_or ts i d ≡ table_at i ts
table_get i [] d h = absurd (omega arith)
table_get zero (t ∷ ts) d h = refl
table_get (suc i) (t ∷ ts) d h = table_get i ts d (omega arith)

-- ---- a list from a place on
pub drop_at : {A : Type 0} (xs : List A) (i : ℕ) (x : A) → slice_get xs i ≡ Some x → drop i xs ≡ x ∷ drop (i + 1) xs
drop_at {A} xs i x h = subst (λ j. drop i xs ≡ x ∷ drop j xs) (let e : suc i ≡ i + 1 = omega arith in e) (onward xs i x h)
  where
    onward : (xs : List A) (i : ℕ) (x : A) → slice_get xs i ≡ Some x → drop i xs ≡ x ∷ drop (suc i) xs
    onward [] i x h = absurd (cc)
    onward (y ∷ ys) zero x h = let e : y ≡ x = cc in ap (λ (z : A). z ∷ ys) e
    onward (y ∷ ys) (suc i) x h = onward ys i x h

pub drop_past : {A : Type 0} (xs : List A) (i : ℕ) → length xs ≤ i → drop i xs ≡ []
drop_past [] zero h = refl
drop_past [] (suc i) h = refl
drop_past (x ∷ xs) zero h = absurd (omega arith)
drop_past (x ∷ xs) (suc i) h = drop_past xs i (omega arith)

-- ---- one child more
pub record IsTaking (i : ℕ) (cs : List Code) (l : List Held) (xs : List Name) (rest : List Held) : Type 0 where
  pub all : has_all (drop i cs) rest ≡ has_all cs l
  pub names : xs ++ taken (drop i cs) rest ≡ taken cs l
  pub others : left (drop i cs) rest ≡ left cs l

pub taking_begins : (cs : List Code) (l : List Held) (xs : List Name) (rest : List Held) → xs ≡ [] → rest ≡ l → IsTaking 0 cs l xs rest
taking_begins cs l xs rest e r = record {
  all = ap (has_all cs) r;
  names = ap (λ (ys : List Name). ys ++ taken cs rest) e ∙ ap (taken cs) r;
  others = ap (left cs) r;
}

pub taking_lacks : (i : ℕ) (cs : List Code) (l : List Held) (xs : List Name) (rest : List Held) (c : Code) → IsTaking i cs l xs rest → slice_get cs i ≡ Some c → nat_lt 0 (coded c rest) ≡ false → has_all cs l ≡ false
taking_lacks i cs l xs rest c t at none =
    sym t.all ∙ ap (λ (ds : List Code). has_all ds rest) (drop_at cs i c at) ∙ ap (λ (b : Bool). b && has_all (drop (i + 1) cs) (without_code c rest)) none

pub taking_more : (i k : ℕ) (cs : List Code) (l : List Held) (xs : List Name) (rest : List Held) (c : Code) (d : Held) (xs' : List Name) (rest' : List Held) → IsTaking i cs l xs rest → slice_get cs i ≡ Some c → CodeHit c rest k
    → xs' ≡ xs ++ (get_or rest k d).name ∷ [] → rest' ≡ remove rest k → IsTaking (i + 1) cs l xs' rest'
taking_more i k cs l xs rest c d xs' rest' t at h e r =
    let ds = drop (i + 1) cs in
    let on = drop_at cs i c at in
    let same : without_code c rest ≡ rest' = h.1 ∙ sym r in
    let x = name_of c rest in
    let put : xs' ≡ xs ++ x ∷ [] = e ∙ ap (λ (y : Name). xs ++ y ∷ []) (sym (h.2 d)) in record {
      all = sym (ap (λ (ds : List Code). has_all ds rest) on ∙ ap (λ (b : Bool). b && has_all ds (without_code c rest)) h.0 ∙ ap (has_all ds) same) ∙ t.all;
      names = ap (λ (ys : List Name). ys ++ taken ds rest') put ∙ append_assoc xs (x ∷ []) (taken ds rest') ∙ sym (ap (λ (ds : List Code). xs ++ taken ds rest) on ∙ ap (λ (m : List Held). xs ++ (x ∷ taken ds m)) same) ∙ t.names;
      others = sym (ap (λ (ds : List Code). left ds rest) on ∙ ap (left ds) same) ∙ t.others;
    }

pub taking_ends : (i : ℕ) (cs : List Code) (l : List Held) (xs : List Name) (rest : List Held) → IsTaking i cs l xs rest → length cs ≤ i → (has_all cs l ≡ true) × (xs ≡ taken cs l) × (rest ≡ left cs l)
taking_ends i cs l xs rest t h =
    let e = drop_past cs i h in (
      sym t.all ∙ ap (λ (ds : List Code). has_all ds rest) e,
      sym (append-nil xs) ∙ sym (ap (λ (ds : List Code). xs ++ taken ds rest) e) ∙ t.names,
      sym (ap (λ (ds : List Code). left ds rest) e) ∙ t.others,
    )

-- ---- one link more
pub linked_past : (xs : List Name) (cs : List Code) (i : ℕ) → length cs ≤ i → linked (drop i xs) (drop i cs) ≡ []
linked_past xs cs i h = ap (linked (drop i xs)) (drop_past cs i h) ∙ none (drop i xs)
  where
    none : (ys : List Name) → linked ys [] ≡ []
    none [] = refl
    none (y ∷ ys) = refl

pub linked_more : (i : ℕ) (xs : List Name) (cs : List Code) (d : Name) (c : Code) (ps ps' whole : List Held) → i < length xs → slice_get cs i ≡ Some c → ps ++ linked (drop i xs) (drop i cs) ≡ whole → ps' ≡ ps ++ pair (get_or xs i d) c ∷ []
    → ps' ++ linked (drop (i + 1) xs) (drop (i + 1) cs) ≡ whole
linked_more i xs cs d c ps ps' whole lt at h e =
    let x = get_or xs i d in
    let a = drop_at xs i x (slice_get-get_or xs i d lt) in
    let b = drop_at cs i c at in
    let more = linked (drop (i + 1) xs) (drop (i + 1) cs) in
    ap (λ (qs : List Held). qs ++ more) e ∙ append_assoc ps (pair x c ∷ []) more ∙ ap (λ (qs : List Held). ps ++ qs) (sym (ap₂ linked a b)) ∙ h

-- ---- the links of an entry that leaves
pub freed_one : (e : Entry) → e.count ≡ 1 → freed_by e ≡ linked e.links (child_codes e.code)
freed_one e h = by_test e.count 1 (λ b. (if b then linked e.links (children e.code) else []) ≡ linked e.links (child_codes e.code)) (λ _. ap (linked e.links) (children_is e.code)) (λ n. absurd (n h))

pub freed_none : (e : Entry) → e.count ≢ 1 → freed_by e ≡ []
freed_none e h = by_test e.count 1 (λ b. (if b then linked e.links (children e.code) else []) ≡ []) (λ q. absurd (h q)) (λ _. refl)
