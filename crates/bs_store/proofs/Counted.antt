-- The entries of a store are as many as the different codes among the subtrees of what is held.
use Rattle.std.proofs.Common.{◌≡◌, ◌≢◌, ℕ, zero, suc, ◌+◌, ◌<◌, ◌≤◌, ◌==◌, true, false, List, [], ◌∷◌, ◌++◌, length, refl, sym, ap, ◌∙◌, subst, arith, inl, inr, if◌then◌else◌}
use mathlib.Core.Option.{some, some-ne-none, some-injective}
use lib.ListN.{get_elem?}
use Rattle.bs_tree.specs.declared.TheConstants.{MAX_NODES}
use Rattle.bs_core.specs.Codes.{Code, children, same, stripe_of}
use Rattle.bs_core.specs.Machine.{State, most, pair, codes}
use Rattle.bs_core.specs.Canonical.{Each, Counts, Stands, Canonical, every, link_lists}
use Rattle.bs_core.specs.declared.table.Held.{Held}
use Rattle.bs_core.specs.declared.table.Entry.{Entry}
use Rattle.bs_core.specs.declared.table.Table.{Table}
use Rattle.bs_core.proofs.Basics.{by_test, code_test}
use Rattle.bs_core.proofs.Counting.{slot_name}
use Rattle.bs_core.proofs.Links.{each_front}
use Rattle.bs_core.proofs.Agree.{each_at, entry_of}
use Rattle.bs_store.specs.Closing.{count_code, different, subtrees, every_child, codes_in, all_codes_in, held_codes, lists_codes, wanted}
use Rattle.bs_store.proofs.Closes.{Kid, Rooted, up, down, count_append}

abbrev pub cut_one : ℕ → ℕ
cut_one n = if n == 0 then 0 else 1

-- a list that has each code of another once is as long as the other has different codes
abbrev hit_code : Code → Code → ℕ
hit_code x y = if same x y then 1 else 0

hit_code_same : (x : Code) → hit_code x x ≡ 1
hit_code_same x = code_test x x (λ b. (if b then 1 else 0) ≡ suc zero) (λ _. refl) (λ n. absurd (n refl))

without_one : Code → List Code → List Code
without_one x [] = []
without_one x (y ∷ ys) = if same x y then ys else y ∷ without_one x ys

count_without : (x y : Code) (ys : List Code) → 0 < count_code x ys → count_code y (without_one x ys) + hit_code y x ≡ count_code y ys
unfolding without_one
count_without x y [] h = absurd (omega arith)
count_without x y (z ∷ zs) h = code_test x z (λ b. 0 < (if b then 1 else 0) + count_code x zs → count_code y (if b then zs else z ∷ without_one x zs) + hit_code y x ≡ hit_code y z + count_code y zs)
    (λ e _. let s : hit_code y x ≡ hit_code y z = ap (hit_code y) e in omega arith)
    (λ n q. let r = count_without x y zs (omega arith) in omega arith)
    h

length_without_one : (x : Code) (ys : List Code) → 0 < count_code x ys → length (without_one x ys) + 1 ≡ length ys
unfolding without_one
length_without_one x [] h = absurd (omega arith)
length_without_one x (z ∷ zs) h = elim (same x z) as (λ b. 0 < (if b then 1 else 0) + count_code x zs → length (if b then zs else z ∷ without_one x zs) + 1 ≡ suc (length zs)) [ true ↦ (λ _. omega arith) | false ↦ (λ q. let r = length_without_one x zs (omega arith) in omega arith) ] h

pub cut_zero : (n : ℕ) → n ≡ 0 → cut_one n ≡ 0
cut_zero n e = by_test n 0 (λ b. (if b then 0 else 1) ≡ zero) (λ _. refl) (λ q. absurd (q e))

pub cut_more : (n : ℕ) → 0 < n → cut_one n ≡ 1
cut_more n h = by_test n 0 (λ b. (if b then 0 else 1) ≡ suc zero) (λ e. absurd (omega arith)) (λ _. refl)

empty_of : (es : List Code) → ((y : Code) → count_code y es ≡ 0) → length es ≡ 0
empty_of [] h = refl
empty_of (e ∷ es) h = let z = h e in let s = hit_code_same e in absurd (omega arith)

-- a list that has each name of another once is as long as the other has different names
pub different_is : (xs es : List Code) → ((y : Code) → count_code y es ≡ cut_one (count_code y xs)) → length es ≡ different xs
different_is [] es h = empty_of es h
different_is (x ∷ xs) es h = by_test (count_code x xs) 0 (λ b. length es ≡ (if b then 1 else 0) + different xs)
    (λ e.
    let here : 0 < count_code x es = let z = h x in let s = hit_code_same x in let q = cut_more (hit_code x x + count_code x xs) (omega arith) in omega arith in
    let r = different_is xs (without_one x es) (λ y. rest e here y) in
    let l = length_without_one x es here in omega arith)
    (λ n. let r = different_is xs es (λ y. h y ∙ again n y) in omega arith)
  where
    rest : count_code x xs ≡ 0 → 0 < count_code x es → (y : Code) → count_code y (without_one x es) ≡ cut_one (count_code y xs)
    rest e here y = let w = count_without x y es here in let z = h y in
        code_test y x (λ b. count_code y (without_one x es) + (if b then 1 else 0) ≡ count_code y es → count_code y es ≡ cut_one ((if b then 1 else 0) + count_code y xs) → count_code y (without_one x es) ≡ cut_one (count_code y xs))
        (λ q w' z'. let v : count_code y xs ≡ 0 = ap (λ k. count_code k xs) q ∙ e in let a = cut_zero (count_code y xs) v in let b = cut_more (1 + count_code y xs) (omega arith) in omega arith)
        (λ q w' z'. let b : cut_one (0 + count_code y xs) ≡ cut_one (count_code y xs) = ap cut_one (let i : 0 + count_code y xs ≡ count_code y xs = omega arith in i) in omega arith)
        w z

    again : count_code x xs ≢ 0 → (y : Code) → cut_one (hit_code y x + count_code y xs) ≡ cut_one (count_code y xs)
    again n y = code_test y x (λ b. cut_one ((if b then 1 else 0) + count_code y xs) ≡ cut_one (count_code y xs))
        (λ q. let v : count_code y xs ≡ count_code x xs = ap (λ k. count_code k xs) q in let a = cut_more (1 + count_code y xs) (omega arith) in let b = cut_more (count_code y xs) (omega arith) in omega arith)
        (λ q. ap cut_one (let i : 0 + count_code y xs ≡ count_code y xs = omega arith in i))

-- what a list has
count_kid : (c : Code) (xs : List Code) → 1 ≤ count_code c xs → Kid c xs
count_kid c [] h = absurd (omega arith)
count_kid c (x ∷ xs) h = code_test c x (λ b. 1 ≤ (if b then 1 else 0) + count_code c xs → Kid c (x ∷ xs)) (λ q _. (zero, ap some (sym q))) (λ _ z. let r = count_kid c xs (omega arith) in (suc r.0, r.1)) h

kid_count : (c : Code) (xs : List Code) → Kid c xs → 1 ≤ count_code c xs
kid_count c [] k = absurd (some-ne-none c (sym k.1))
kid_count c (x ∷ xs) (zero, at) = let s = hit_code_same c in let q : hit_code c x ≡ hit_code c c = ap (hit_code c) (some-injective x c at) in omega arith
kid_count c (x ∷ xs) (suc i, at) = let r = kid_count c xs (i, at) in omega arith

every_in : (f : Code → List Code) (c d : Code) (cs : List Code) → 1 ≤ count_code d cs → 1 ≤ count_code c (f d) → 1 ≤ count_code c (every_child f cs)
every_in f c d [] h k = absurd (omega arith)
every_in f c d (x ∷ xs) h k =
    let a = count_append c (f x) (every_child f xs) in
    code_test d x (λ b. 1 ≤ (if b then 1 else 0) + count_code d xs → 1 ≤ count_code c (f x ++ every_child f xs))
    (λ q _. let r : count_code c (f d) ≡ count_code c (f x) = ap (λ y. count_code c (f y)) q in omega arith)
    (λ _ z. let r = every_in f c d xs (omega arith) k in omega arith)
    h

every_out : (f : Code → List Code) (c : Code) (cs : List Code) → 1 ≤ count_code c (every_child f cs) → (d : Code) × (1 ≤ count_code d cs) × (1 ≤ count_code c (f d))
every_out f c [] h = absurd (omega arith)
every_out f c (x ∷ xs) h =
    let a = count_append c (f x) (every_child f xs) in
    by_test (count_code c (f x)) 0 (λ b. (d : Code) × (1 ≤ count_code d (x ∷ xs)) × (1 ≤ count_code c (f d)))
    (λ q. let r = every_out f c xs (omega arith) in (r.0, (let z = r.1 in omega arith), r.2))
    (λ q. (x, (let s = hit_code_same x in omega arith), omega arith))

-- a child of a subtree is one
sub_kid : (m : ℕ) (h d k : Code) → 1 ≤ count_code d (subtrees m h) → Kid k (children d) → 1 ≤ count_code k (subtrees (suc m) h)
sub_kid zero h d k i kid = absurd (omega arith)
sub_kid (suc m) h d k i kid =
    code_test d h (λ b. 1 ≤ (if b then 1 else 0) + count_code d (every_child (subtrees m) (children h)) → 1 ≤ hit_code k h + count_code k (every_child (subtrees (suc m)) (children h)))
    (λ q _.
    let mine = kid_count k (children h) (subst (λ y. Kid k (children y)) q kid) in
    let self : 1 ≤ count_code k (subtrees (suc m) k) = (let s = hit_code_same k in omega arith) in
    let r = every_in (subtrees (suc m)) k k (children h) mine self in omega arith)
    (λ _ z.
    let o = every_out (subtrees m) d (children h) (omega arith) in
    let r = every_in (subtrees (suc m)) k o.0 (children h) o.1 (sub_kid m o.0 d k o.2 kid) in omega arith)
    i

-- a code that is rooted is a subtree of a held one
rooted_sub : (ls : List (List Held)) (m : ℕ) (c : Code) → Rooted ls m c → (h : Code) × (1 ≤ count_code h (lists_codes ls)) × (1 ≤ count_code c (subtrees m h))
rooted_sub ls zero c r = absurd r
rooted_sub ls (suc m) c (inl h) = (c, h, (let s = hit_code_same c in omega arith))
rooted_sub ls (suc m) c (inr (d, kid, r)) = let q = rooted_sub ls m d r in (q.0, q.1, sub_kid m q.0 d c q.2 kid)

same_count : (k : Code) (es : List Entry) → count_code k (codes_in es) ≡ codes k es
same_count k [] = refl
same_count k (e ∷ es) = ap (λ x. hit_code k e.code + x) (same_count k es)

entry_code : (j : ℕ) (es : List Entry) (e : Entry) → get_elem? es j ≡ some e → 1 ≤ count_code e.code (codes_in es)
entry_code j [] e at = absurd (some-ne-none e (sym at))
entry_code zero (x ∷ xs) e at = let s = hit_code_same e.code in let q : hit_code e.code x.code ≡ hit_code e.code e.code = ap (λ (y : Entry). hit_code e.code y.code) (some-injective x e at) in omega arith
entry_code (suc j) (x ∷ xs) e at = let r = entry_code j xs e at in omega arith

pub code_entry : (es : List Entry) (k : Code) → 1 ≤ count_code k (codes_in es) → (e : Entry) × (j : ℕ) × (get_elem? es j ≡ some e) × (e.code ≡ k)
code_entry [] k h = absurd (omega arith)
code_entry (e ∷ es) k h = code_test k e.code (λ b. 1 ≤ (if b then 1 else 0) + count_code k (codes_in es) → (x : Entry) × (j : ℕ) × (get_elem? (e ∷ es) j ≡ some x) × (x.code ≡ k))
    (λ q _. (e, zero, refl, sym q))
    (λ _ z. let r = code_entry es k (omega arith) in (r.0, suc r.1, r.2, r.3))
    h

-- over all tables: a code has one entry
all_once : (n : ℕ) (k : Code) (off : ℕ) (ts : List Table) → ((i : ℕ) (t : Table) → get_elem? ts i ≡ some t → (codes k t.entries ≤ 1) × (1 ≤ codes k t.entries → stripe_of n k ≡ off + i)) → (count_code k (all_codes_in ts) ≤ 1) × (1 ≤ count_code k (all_codes_in ts) → off ≤ stripe_of n k)
all_once n k off [] h = (omega arith, λ z. absurd (omega arith))
all_once n k off (t ∷ ts) h =
    let a = count_append k (codes_in t.entries) (all_codes_in ts) in
    let b = same_count k t.entries in
    let x = h zero t refl in
    let r = all_once n k (off + 1) ts (λ i u at. let y = h (suc i) u at in (y.0, λ z. let w = y.1 z in omega arith)) in
    by_test (codes k t.entries) 0 (λ b. (count_code k (codes_in t.entries ++ all_codes_in ts) ≤ 1) × (1 ≤ count_code k (codes_in t.entries ++ all_codes_in ts) → off ≤ stripe_of n k))
    (λ q. let y = r.0 in (omega arith, λ z. let w = r.1 (omega arith) in omega arith))
    (λ q.
    let s = x.1 (omega arith) in
    let l = x.0 in
    by_test (count_code k (all_codes_in ts)) 0 (λ b. (count_code k (codes_in t.entries ++ all_codes_in ts) ≤ 1) × (1 ≤ count_code k (codes_in t.entries ++ all_codes_in ts) → off ≤ stripe_of n k)) (λ q'. (omega arith, λ _. omega arith)) (λ q'. let w = r.1 (omega arith) in absurd (omega arith)))

pub all_at : (k : Code) (ts : List Table) → 1 ≤ count_code k (all_codes_in ts) → (i : ℕ) × (t : Table) × (get_elem? ts i ≡ some t) × (1 ≤ count_code k (codes_in t.entries))
all_at k [] h = absurd (omega arith)
all_at k (t ∷ ts) h =
    let a = count_append k (codes_in t.entries) (all_codes_in ts) in
    by_test (count_code k (codes_in t.entries)) 0 (λ b. (i : ℕ) × (u : Table) × (get_elem? (t ∷ ts) i ≡ some u) × (1 ≤ count_code k (codes_in u.entries))) (λ q. let r = all_at k ts (omega arith) in (suc r.0, r.1, r.2, r.3)) (λ q. (zero, t, refl, omega arith))

at_all : (k : Code) (i : ℕ) (ts : List Table) (t : Table) → get_elem? ts i ≡ some t → 1 ≤ count_code k (codes_in t.entries) → 1 ≤ count_code k (all_codes_in ts)
at_all k i [] t at h = absurd (some-ne-none t (sym at))
at_all k zero (x ∷ xs) t at h = let a = count_append k (codes_in x.entries) (all_codes_in xs) in let q : count_code k (codes_in x.entries) ≡ count_code k (codes_in t.entries) = ap (λ (y : Table). count_code k (codes_in y.entries)) (some-injective x t at) in omega arith
at_all k (suc i) (x ∷ xs) t at h = let a = count_append k (codes_in x.entries) (all_codes_in xs) in let r = at_all k i xs t at h in omega arith

-- a list that has each code of another is at least as long as the other has different codes
pub different_within : (xs es : List Code) → ((y : Code) → 1 ≤ count_code y xs → 1 ≤ count_code y es) → different xs ≤ length es
different_within [] es h = omega arith
different_within (x ∷ xs) es h = by_test (count_code x xs) 0 (λ b. (if b then 1 else 0) + different xs ≤ length es)
    (λ e.
    let here = h x (let s = hit_code_same x in omega arith) in
    let r = different_within xs (without_one x es) (λ y k. still e here y k) in
    let l = length_without_one x es here in omega arith)
    (λ n. let r = different_within xs es (λ y k. h y (omega arith)) in omega arith)
  where
    still : count_code x xs ≡ 0 → 0 < count_code x es → (y : Code) → 1 ≤ count_code y xs → 1 ≤ count_code y (without_one x es)
    still e here y k =
        let w = count_without x y es here in
        let z = h y (omega arith) in
        code_test y x (λ b. count_code y (without_one x es) + (if b then 1 else 0) ≡ count_code y es → 1 ≤ count_code y (without_one x es))
        (λ q _. let v : count_code y xs ≡ count_code x xs = ap (λ (c : Code). count_code c xs) q in absurd (omega arith))
        (λ _ w'. omega arith)
        w

module _ (n : ℕ) (g : State) (c : Canonical n g) where
  abbrev StandsFor : Code → Type 0
  StandsFor k = (p : Held) × Stands g.tables p × (p.code ≡ k)

  sub_code : (m : ℕ) (h k : Code) → StandsFor h → 1 ≤ count_code k (subtrees m h) → StandsFor k
  sub_code zero h k s i = absurd (omega arith)
  sub_code (suc m) h k s i = code_test k h (λ b. 1 ≤ (if b then 1 else 0) + count_code k (every_child (subtrees m) (children h)) → StandsFor k)
      (λ q _. (s.0, s.1, s.2 ∙ sym q))
      (λ _ z.
      let o = every_out (subtrees m) k (children h) (omega arith) in
      let kid = count_kid o.0 (children h) o.1 in
      let d = down n g c s.0 o.0 s.1 (subst (λ y. Kid o.0 (children y)) (sym s.2) kid) in
      sub_code m o.0 k d o.2)
      i

  held_code : (ls : List (List Held)) (k : Code) → Each (Each (Stands g.tables)) ls → 1 ≤ count_code k (lists_codes ls) → StandsFor k
  held_code [] k e h = absurd (omega arith)
  held_code (l ∷ ls) k e h =
      let a = count_append k (held_codes l) (lists_codes ls) in
      by_test (count_code k (held_codes l)) 0 (λ b. StandsFor k) (λ q. held_code ls k e.1 (omega arith)) (λ q. one l e.0 (omega arith))
    where
      one : (ps : List Held) → Each (Stands g.tables) ps → 1 ≤ count_code k (held_codes ps) → StandsFor k
      one [] e h = absurd (omega arith)
      one (p ∷ ps) e h = code_test k p.code (λ b. 1 ≤ (if b then 1 else 0) + count_code k (held_codes ps) → StandsFor k) (λ q _. (p, e.0, sym q)) (λ _ z. one ps e.1 (omega arith)) h

  -- each wanted code has an entry
  back : (y : Code) → 1 ≤ count_code y (wanted g.lists) → 1 ≤ count_code y (all_codes_in g.tables)
  back y h =
      let o = every_out (subtrees (suc MAX_NODES)) y (lists_codes g.lists) h in
      let d = sub_code (suc MAX_NODES) o.0 y (held_code g.lists o.0 (each_front (Each (Stands g.tables)) g.lists (link_lists g.tables) c.pairs) o.1) o.2 in
      let e = entry_code d.1.2.0 d.1.0.entries d.1.2.1 d.1.2.2 in
      let q : d.1.2.1.code ≡ y = d.1.2.4 ∙ d.2 in
      at_all y d.0.name.stripe g.tables d.1.0 d.1.1 (subst (λ k. 1 ≤ count_code k (codes_in d.1.0.entries)) q e)

  -- in every state a store has at least the wanted codes
  pub closing_least : different (wanted g.lists) ≤ length (all_codes_in g.tables)
  closing_least = different_within (wanted g.lists) (all_codes_in g.tables) back

module _ (n : ℕ) (g : State) (c : Canonical n g) (few : (i : ℕ) (t : Table) → get_elem? g.tables i ≡ some t → Each (λ (e : Entry). e.count ≢ most) t.entries) where
  small : (q : Held) → Stands g.tables q → length q.code ≤ MAX_NODES
  small q h = let e = (entry_of n g q c h).sound.small in subst (λ (y : Code). length y ≤ MAX_NODES) h.2.4 e

  pub once : (y : Code) → (count_code y (all_codes_in g.tables) ≤ 1) × (1 ≤ count_code y (all_codes_in g.tables) → 0 ≤ stripe_of n y)
  once y = all_once n y 0 g.tables (λ i t at.
      let o = c.tables i t at in (
        o.codes_differ y,
        λ z.
            let e = code_entry t.entries y (let s = same_count y t.entries in omega arith) in
            let k = each_at (Counts n i t.mark (every g)) t.entries e.1 e.0 o.entries e.2 in
            let w : stripe_of n y ≡ i = ap (stripe_of n) (sym e.3) ∙ k.here in omega arith,
      ))

  -- each entry's code is wanted
  out : (y : Code) → 1 ≤ count_code y (all_codes_in g.tables) → 1 ≤ count_code y (wanted g.lists)
  out y h =
      let a = all_at y g.tables h in
      let e = code_entry a.1.entries y a.3 in
      let p : Held = pair (slot_name a.0 e.0.slot) y in
      let stands : Stands g.tables p = (a.1, a.2, (e.1, e.0, e.2, refl, e.3)) in
      let r = rooted_sub g.lists (suc MAX_NODES) y (up n g c few (suc MAX_NODES) MAX_NODES p small stands (omega arith)) in
      every_in (subtrees (suc MAX_NODES)) y r.0 (lists_codes g.lists) r.1 r.2

  -- where no count is the greatest, a store has exactly the wanted codes, each once
  pub closing_count : length (all_codes_in g.tables) ≡ different (wanted g.lists)
  closing_count = different_is (wanted g.lists) (all_codes_in g.tables) (λ y. by_test (count_code y (wanted g.lists)) 0 (λ b. count_code y (all_codes_in g.tables) ≡ (if b then 0 else 1))
      (λ q. by_test (count_code y (all_codes_in g.tables)) 0 (λ b. count_code y (all_codes_in g.tables) ≡ 0) (λ z. z) (λ z. let w = out y (omega arith) in absurd (omega arith)))
      (λ q. let w = back n g c y (omega arith) in let o = (once y).0 in omega arith))
