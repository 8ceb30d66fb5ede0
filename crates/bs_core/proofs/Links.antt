-- Links as lists of pairs.
use Rattle.std.proofs.Common.{◌≡◌, ℕ, zero, suc, ◌+◌, ◌-◌, ◌<◌, ◌==◌, true, false, List, [], ◌∷◌, ◌++◌, length, refl, sym, ap, ◌∙◌, subst, arith, if◌then◌else◌}
use mathlib.Core.Option.{some, some-ne-none, some-injective}
use lib.ListN.{get_elem?}
use Rattle.bs_core.specs.declared.name.Name.{Name}
use Rattle.bs_core.specs.declared.table.Held.{Held}
use Rattle.bs_core.specs.declared.table.Entry.{Entry}
use Rattle.bs_core.specs.declared.table.Table.{Table}
use Rattle.bs_core.specs.Codes.{Code, same}
use Rattle.bs_core.specs.Machine.{most, times, pair, one_more, raise_in, lower, lower_in, at_place, State, list_at, table_at, links_of, linked, freed, taken, left, without_code, name_of, coded, HasAll}
use Rattle.bs_core.specs.Canonical.{Each, all_times, links_each, link_lists, every}
use Rattle.bs_core.proofs.Basics.{code_test}
use Rattle.bs_core.proofs.Pairs.{hit, each_join, at_count, each_place_at}

pub all_times_append : (x : Name) (ls ms : List (List Held)) → all_times x (ls ++ ms) ≡ all_times x ls + all_times x ms
all_times_append x [] ms = omega arith
all_times_append x (l ∷ ls) ms = let r = all_times_append x ls ms in omega arith

module _ {A : Type 0} (P : A → Type 0) where
  pub each_front : (xs ys : List A) → Each P (xs ++ ys) → Each P xs
  each_front [] ys h = tt
  each_front (x ∷ xs) ys h = (h.0, each_front xs ys h.1)

  pub each_back : (xs ys : List A) → Each P (xs ++ ys) → Each P ys
  each_back [] ys h = h
  each_back (x ∷ xs) ys h = each_back xs ys h.1

pub table_is : (s : ℕ) (tables : List Table) (t : Table) → get_elem? tables s ≡ some t → table_at s tables ≡ t
table_is s [] t at = absurd (some-ne-none t (sym at))
table_is zero (x ∷ xs) t at = some-injective x t at
table_is (suc s) (x ∷ xs) t at = table_is s xs t at

pub table_there : (s : ℕ) (tables : List Table) → s < length tables → get_elem? tables s ≡ some (table_at s tables)
table_there s [] h = absurd (omega arith)
table_there zero (x ∷ xs) h = refl
table_there (suc s) (x ∷ xs) h = table_there s xs (omega arith)

-- the links of a changed table
pub link_count : (x : Name) (s : ℕ) (T : Table → Table) (tables : List Table) (t : Table) → get_elem? tables s ≡ some t → all_times x (link_lists (at_place s T tables)) + all_times x (links_each t.entries) ≡ all_times x (link_lists tables) + all_times x (links_each (T t).entries)
link_count x s T [] t at = absurd (some-ne-none t (sym at))
link_count x zero T (y ∷ ys) t at =
    let a = all_times_append x (links_each (T y).entries) (link_lists ys) in
    let b = all_times_append x (links_each y.entries) (link_lists ys) in
    let e : y ≡ t = some-injective y t at in
    let c : all_times x (links_each (T y).entries) ≡ all_times x (links_each (T t).entries) = ap (λ (z : Table). all_times x (links_each (T z).entries)) e in
    let d : all_times x (links_each y.entries) ≡ all_times x (links_each t.entries) = ap (λ (z : Table). all_times x (links_each z.entries)) e in omega arith
link_count x (suc s) T (y ∷ ys) t at =
    let a = all_times_append x (links_each y.entries) (link_lists (at_place s T ys)) in
    let b = all_times_append x (links_each y.entries) (link_lists ys) in
    let r = link_count x s T ys t at in omega arith

module _ (Q : List Held → Type 0) where
  pub links_from : (s : ℕ) (tables : List Table) (t : Table) → get_elem? tables s ≡ some t → Each Q (link_lists tables) → Each Q (links_each t.entries)
  links_from s [] t at h = absurd (some-ne-none t (sym at))
  links_from zero (y ∷ ys) t at h = subst (λ (z : Table). Each Q (links_each z.entries)) (some-injective y t at) (each_front Q (links_each y.entries) (link_lists ys) h)
  links_from (suc s) (y ∷ ys) t at h = links_from s ys t at (each_back Q (links_each y.entries) (link_lists ys) h)

  pub link_each : (s : ℕ) (T : Table → Table) (tables : List Table) (t : Table) → get_elem? tables s ≡ some t → Each Q (links_each (T t).entries) → Each Q (link_lists tables) → Each Q (link_lists (at_place s T tables))
  link_each s T [] t at n h = absurd (some-ne-none t (sym at))
  link_each zero T (y ∷ ys) t at n h = each_join Q (links_each (T y).entries) (link_lists ys) (subst (λ (z : Table). Each Q (links_each (T z).entries)) (sym (some-injective y t at)) n) (each_back Q (links_each y.entries) (link_lists ys) h)
  link_each (suc s) T (y ∷ ys) t at n h = each_join Q (links_each y.entries) (link_lists (at_place s T ys)) (each_front Q (links_each y.entries) (link_lists ys) h) (link_each s T ys t at n (each_back Q (links_each y.entries) (link_lists ys) h))

  pub lower_each : (s : ℕ) (es : List Entry) → Each Q (links_each es) → Each Q (links_each (lower_in s es))
  lower_each s [] h = tt
  lower_each s (e ∷ es) h = elim (s == e.slot) as (λ b. Each Q (links_each (if b then lower e ++ es else e ∷ lower_in s es))) [
    | true ↦ elim (e.count == 1) as (λ b. Each Q (links_each ((if b then [] else (if e.count == most then e ∷ [] else record { slot = e.slot; code = e.code; links = e.links; count = e.count - 1 } ∷ [])) ++ es))) [
      | true ↦ h.1
      | false ↦ elim (e.count == most) as (λ b. Each Q (links_each ((if b then e ∷ [] else record { slot = e.slot; code = e.code; links = e.links; count = e.count - 1 } ∷ []) ++ es))) [ true ↦ h | false ↦ h ]
    ]
    | false ↦ (h.0, lower_each s es h.1)
  ]

  pub freed_each : (s : ℕ) (es : List Entry) → Q [] → Each Q (links_each es) → Q (freed s es)
  freed_each s [] z h = z
  freed_each s (e ∷ es) z h = elim (s == e.slot) as (λ b. Q (if b then (if e.count == 1 then links_of e else []) else freed s es)) [
    | true ↦ elim (e.count == 1) as (λ b. Q (if b then links_of e else [])) [ true ↦ h.0 | false ↦ z ]
    | false ↦ freed_each s es z h.1
  ]

pub links_raise : (s : ℕ) (es : List Entry) → links_each (raise_in s es) ≡ links_each es
links_raise s [] = refl
links_raise s (e ∷ es) =
    let q : links_of (if s == e.slot then record { slot = e.slot; code = e.code; links = e.links; count = one_more e.count } else e) ≡ links_of e = elim (s == e.slot) as (λ b. links_of (if b then record { slot = e.slot; code = e.code; links = e.links; count = one_more e.count } else e) ≡ links_of e) [ true ↦ refl | false ↦ refl ] in
    ap (λ (l : List Held). l ∷ links_each (raise_in s es)) q ∙ ap (λ (ls : List (List Held)). links_of e ∷ ls) (links_raise s es)

pub links_append : (es fs : List Entry) → links_each (es ++ fs) ≡ links_each es ++ links_each fs
links_append [] fs = refl
links_append (e ∷ es) fs = ap (λ (ls : List (List Held)). links_of e ∷ ls) (links_append es fs)

pub lower_links : (x : Name) (s : ℕ) (es : List Entry) → all_times x (links_each (lower_in s es)) + times x (freed s es) ≡ all_times x (links_each es)
lower_links x s [] = omega arith
lower_links x s (e ∷ es) = elim (s == e.slot) as (λ b. all_times x (links_each (if b then lower e ++ es else e ∷ lower_in s es)) + times x (if b then (if e.count == 1 then links_of e else []) else freed s es) ≡ times x (links_of e) + all_times x (links_each es)) [
  | true ↦ elim (e.count == 1) as (λ b. all_times x (links_each ((if b then [] else (if e.count == most then e ∷ [] else record { slot = e.slot; code = e.code; links = e.links; count = e.count - 1 } ∷ [])) ++ es)) + times x (if b then links_of e else []) ≡ times x (links_of e) + all_times x (links_each es)) [
    | true ↦ omega arith
    | false ↦ elim (e.count == most) as (λ b. all_times x (links_each ((if b then e ∷ [] else record { slot = e.slot; code = e.code; links = e.links; count = e.count - 1 } ∷ []) ++ es)) + 0 ≡ times x (links_of e) + all_times x (links_each es)) [ true ↦ omega arith | false ↦ omega arith ]
  ]
  | false ↦ (let r = lower_links x s es in omega arith)
]

-- children's pairs
pub one_code : (x : Name) (c : Code) (l : List Held) → 0 < coded c l → times x (without_code c l) + hit x (name_of c l) ≡ times x l
one_code x c [] h = absurd (omega arith)
one_code x c (p ∷ ps) h = elim (same c p.code) as (λ b. 0 < (if b then 1 else 0) + coded c ps → times x (if b then ps else p ∷ without_code c ps) + hit x (if b then p.name else name_of c ps) ≡ hit x p.name + times x ps) [
  | true ↦ (λ z. omega arith)
  | false ↦ (λ z. let r = one_code x c ps (omega arith) in omega arith)
] h

pub all_codes : (x : Name) (cs : List Code) (l : List Held) → HasAll cs l → times x (left cs l) + times x (linked (taken cs l) cs) ≡ times x l
all_codes x [] l h = omega arith
all_codes x (c ∷ cs) l h = let r = all_codes x cs (without_code c l) h.1 in let q = one_code x c l h.0 in omega arith

pub taken_long : (cs : List Code) (l : List Held) → length (taken cs l) ≡ length cs
taken_long [] l = refl
taken_long (c ∷ cs) l = ap suc (taken_long cs (without_code c l))

module _ (P : Held → Type 0) where
  pub each_without_code : (c : Code) (l : List Held) → Each P l → Each P (without_code c l)
  each_without_code c [] h = tt
  each_without_code c (p ∷ ps) h = elim (same c p.code) as (λ b. Each P (if b then ps else p ∷ without_code c ps)) [ true ↦ h.1 | false ↦ (h.0, each_without_code c ps h.1) ]

  pub each_left : (cs : List Code) (l : List Held) → Each P l → Each P (left cs l)
  each_left [] l h = h
  each_left (c ∷ cs) l h = each_left cs (without_code c l) (each_without_code c l h)

  pub named : (c : Code) (l : List Held) → 0 < coded c l → Each P l → P (pair (name_of c l) c)
  named c [] z h = absurd (omega arith)
  named c (p ∷ ps) z h = code_test c p.code (λ b. 0 < (if b then 1 else 0) + coded c ps → P (pair (if b then p.name else name_of c ps) c))
      (λ q z. subst (λ k. P (pair p.name k)) (sym q) h.0)
      (λ q z. named c ps (omega arith) h.1)
      z

  pub each_taken : (cs : List Code) (l : List Held) → HasAll cs l → Each P l → Each P (linked (taken cs l) cs)
  each_taken [] l z h = tt
  each_taken (c ∷ cs) l z h = (named c l z.0 h, each_taken cs (without_code c l) z.1 (each_without_code c l h))

-- a party's list and a stripe's table change together
abbrev pub turn : ℕ → (Table → Table) → ℕ → (List Held → List Held) → State → State
turn s T p f g = record { tables = at_place s T g.tables; lists = at_place p f g.lists }

pub every_count : (x : Name) (s : ℕ) (T : Table → Table) (p : ℕ) (f : List Held → List Held) (g : State) (t : Table) → get_elem? g.tables s ≡ some t → p < length g.lists
    → all_times x (every (turn s T p f g)) + (times x (list_at p g.lists) + all_times x (links_each t.entries)) ≡ all_times x (every g) + (times x (f (list_at p g.lists)) + all_times x (links_each (T t).entries))
every_count x s T p f g t at within =
    let a = all_times_append x (at_place p f g.lists) (link_lists (at_place s T g.tables)) in
    let b = all_times_append x g.lists (link_lists g.tables) in
    let c = at_count x p f g.lists within in
    let d = link_count x s T g.tables t at in omega arith

pub every_each : (P : Held → Type 0) (s : ℕ) (T : Table → Table) (p : ℕ) (f : List Held → List Held) (g : State) (t : Table) → get_elem? g.tables s ≡ some t
    → (Each P (list_at p g.lists) → Each (Each P) (links_each t.entries) → Each P (f (list_at p g.lists)))
    → (Each P (list_at p g.lists) → Each (Each P) (links_each t.entries) → Each (Each P) (links_each (T t).entries))
    → Each P (list_at p g.lists) → Each (Each P) (every g) → Each (Each P) (every (turn s T p f g))
every_each P s T p f g t at list links l h =
    let hl = each_front (Each P) g.lists (link_lists g.tables) h in
    let hk = each_back (Each P) g.lists (link_lists g.tables) h in
    let k = links_from (Each P) s g.tables t at hk in
    each_join (Each P) (at_place p f g.lists) (link_lists (at_place s T g.tables)) (each_place_at P p f g.lists (λ _. list l k) hl) (link_each (Each P) s T g.tables t at (links l k) hk)
