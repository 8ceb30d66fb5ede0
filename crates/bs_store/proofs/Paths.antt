-- Links and paths stay when others change.
use Rattle.std.proofs.Common.{◌≡◌, ℕ, zero, suc, ◌+◌, ◌-◌, ◌≤◌, ◌==◌, true, false, List, [], ◌∷◌, ◌++◌, refl, sym, ap, ◌∙◌, subst, arith, if◌then◌else◌}
use mathlib.Core.Option.{some, some-ne-none, some-injective}
use mathlib.Core.Logic.{dite}
use native.Mathlib.Decide.{ℕ_discrete}
use lib.ListN.{get_elem?}
use Rattle.bs_core.proofs.Agree.{each_at}
use Rattle.bs_core.proofs.Basics.{by_test, at_place_here, at_place_else}
use Rattle.bs_core.proofs.Links.{table_is, each_back, links_from}
use Rattle.bs_core.proofs.Pairs.{each_join, has_slots}
use Rattle.bs_core.specs.Canonical.{Each, links_each, link_lists, Has, Stands, Canonical}
use Rattle.bs_core.specs.Codes.{Code, children}
use Rattle.bs_core.specs.Machine.{most, one_more, raise_in, lower, lower_in, lowered, raised, added, interned, new_entry, at_place, State, table_at, linked, slots, codes}
use Rattle.bs_core.specs.declared.name.Name.{Name}
use Rattle.bs_core.specs.declared.table.Entry.{Entry}
use Rattle.bs_core.specs.declared.table.Held.{Held}
use Rattle.bs_core.specs.declared.table.Table.{Table}
use Rattle.bs_store.specs.Rule.{links_at, held_by, Among, LinkOf, Trail, Path, Paths, played}
use Rattle.bs_store.specs.declared.view.Hand.{Hand}

-- the path of a hand of the state
abbrev pub path_at : ℕ → List Hand → List Held
path_at k [] = []
path_at zero (h ∷ hs) = h.path
path_at (suc k) (h ∷ hs) = path_at k hs

-- the links of an entry that stands
no_slot : (s : ℕ) (e : Entry) (es : List Entry) → s ≡ e.slot → (if s == e.slot then 1 else 0) + slots s es ≤ 1 → slots s es ≡ 0
no_slot s e es q = by_test s e.slot (λ b. (if b then 1 else 0) + slots s es ≤ 1 → slots s es ≡ zero) (λ _ z. omega arith) (λ n. absurd (n q))

pub links_here : (Q : List Held → Type 0) (s : ℕ) (c : Code) (es : List Entry) → slots s es ≤ 1 → Has s c es → Each Q (links_each es) → Q (linked (links_at s es) (children c))
links_here Q s c [] one h e = absurd (some-ne-none h.1 (sym h.2))
links_here Q s c (x ∷ xs) one (zero, y, at, a, b) e =
    let q = some-injective x y at in
    let here : s ≡ x.slot = sym a ∙ sym (ap (λ (z : Entry). z.slot) q) in
    let code : x.code ≡ c = ap (λ (z : Entry). z.code) q ∙ b in
    by_test s x.slot (λ u. Q (linked (if u then x.links else links_at s xs) (children c))) (λ _. subst (λ k. Q (linked x.links (children k))) code e.0) (λ n. absurd (n here))
links_here Q s c (x ∷ xs) one (suc k, y, at, a, b) e =
    let h : Has s c xs = (k, y, at, a, b) in
    let many = has_slots s c xs h in
    by_test s x.slot (λ u. Q (linked (if u then x.links else links_at s xs) (children c))) (λ q. let z = no_slot s x xs q one in absurd (omega arith)) (λ n. links_here Q s c xs (by_test s x.slot (λ u. (if u then 1 else 0) + slots s xs ≤ 1 → slots s xs ≤ 1) (λ _ z. omega arith) (λ _ z. omega arith) one) h e.1)

pub link_stands : (n : ℕ) (g : State) (q p : Held) → Canonical n g → Stands g.tables q → LinkOf g.tables q p → Stands g.tables p
link_stands n g q p c h l =
    let t = h.0 in
    let o = c.tables q.name.stripe t h.1 in
    let S = Stands g.tables in
    let all = links_from (Each S) q.name.stripe g.tables t h.1 (each_back (Each S) g.lists (link_lists g.tables) c.pairs) in
    let mine = links_here (Each S) q.name.slot q.code t.entries (o.slots_differ q.name.slot) h.2 all in
    let is : table_at q.name.stripe g.tables ≡ t = table_is q.name.stripe g.tables t h.1 in
    let l' = subst (λ (y : Table). Among p (linked (links_at q.name.slot y.entries) (children q.code))) is l in
    each_at S (linked (links_at q.name.slot t.entries) (children q.code)) l'.0 p mine l'.1

-- the links of an entry that stays
abbrev pub KeepsLinks : (Table → Table) → Table → Type 0
KeepsLinks T t = (x : ℕ) → 1 ≤ slots x t.entries → slots x t.entries ≤ 1 → 1 ≤ slots x (T t).entries → links_at x (T t).entries ≡ links_at x t.entries

raise_links : (x s : ℕ) (es : List Entry) → links_at x (raise_in s es) ≡ links_at x es
raise_links x s [] = refl
raise_links x s (e ∷ es) = let r = raise_links x s es in elim (s == e.slot) as (λ u. links_at x ((if u then record { slot = e.slot; code = e.code; links = e.links; count = one_more e.count } else e) ∷ raise_in s es) ≡ links_at x (e ∷ es)) [
  | true ↦ ap (λ (l : List Name). if x == e.slot then e.links else l) r
  | false ↦ ap (λ (l : List Name). if x == e.slot then e.links else l) r
]

pub raised_links : (s : ℕ) (t : Table) → KeepsLinks (raised s) t
raised_links s t x a b c = raise_links x s t.entries

lower_links_at : (x s : ℕ) (es : List Entry) → slots x es ≤ 1 → 1 ≤ slots x (lower_in s es) → links_at x (lower_in s es) ≡ links_at x es
lower_links_at x s [] a b = refl
lower_links_at x s (e ∷ es) a b = elim (s == e.slot) as (λ u. 1 ≤ slots x (if u then lower e ++ es else e ∷ lower_in s es) → links_at x (if u then lower e ++ es else e ∷ lower_in s es) ≡ links_at x (e ∷ es)) [
  | true ↦ elim (e.count == 1) as (λ u. 1 ≤ slots x ((if u then [] else (if e.count == most then e ∷ [] else record { slot = e.slot; code = e.code; links = e.links; count = e.count - 1 } ∷ [])) ++ es) → links_at x ((if u then [] else (if e.count == most then e ∷ [] else record { slot = e.slot; code = e.code; links = e.links; count = e.count - 1 } ∷ [])) ++ es) ≡ links_at x (e ∷ es)) [
    | true ↦ (λ z. by_test x e.slot (λ u. links_at x es ≡ (if u then e.links else links_at x es)) (λ q. let k = no_slot x e es q a in absurd (omega arith)) (λ _. refl))
    | false ↦ elim (e.count == most) as (λ u. 1 ≤ slots x ((if u then e ∷ [] else record { slot = e.slot; code = e.code; links = e.links; count = e.count - 1 } ∷ []) ++ es) → links_at x ((if u then e ∷ [] else record { slot = e.slot; code = e.code; links = e.links; count = e.count - 1 } ∷ []) ++ es) ≡ links_at x (e ∷ es)) [ true ↦ (λ _. refl) | false ↦ (λ _. refl) ]
  ]
  | false ↦ (λ z. by_test x e.slot (λ u. (if u then 1 else 0) + slots x es ≤ 1 → 1 ≤ (if u then 1 else 0) + slots x (lower_in s es) → (if u then e.links else links_at x (lower_in s es)) ≡ (if u then e.links else links_at x es)) (λ _ _ _. refl) (λ _ a' b'. lower_links_at x s es (omega arith) (omega arith)) a z)
] b

pub lowered_links : (s : ℕ) (t : Table) → KeepsLinks (lowered s) t
lowered_links s t x a b c = lower_links_at x s t.entries b c

append_links_at : (x : ℕ) (es fs : List Entry) → 1 ≤ slots x es → links_at x (es ++ fs) ≡ links_at x es
append_links_at x [] fs h = absurd (omega arith)
append_links_at x (e ∷ es) fs h = by_test x e.slot (λ u. 1 ≤ (if u then 1 else 0) + slots x es → (if u then e.links else links_at x (es ++ fs)) ≡ (if u then e.links else links_at x es)) (λ _ _. refl) (λ _ z. append_links_at x es fs (omega arith)) h

pub interned_links : (s : ℕ) (c : Code) (xs : List Name) (t : Table) → KeepsLinks (interned s c xs) t
interned_links s c xs t x a b d = elim (codes c t.entries == 0) as (λ u. links_at x (if u then added s c xs t else raised s t).entries ≡ links_at x t.entries) [ true ↦ append_links_at x t.entries (new_entry s c xs ∷ []) a | false ↦ raise_links x s t.entries ]

module _ (n s : ℕ) (T : Table → Table) (g : State) (ls' : List (List Held)) (c : Canonical n g) (keep : (t : Table) → get_elem? g.tables s ≡ some t → KeepsLinks T t) where
  abbrev next : State
  next = record { tables = at_place s T g.tables; lists = ls' }

  link_keeps : (q p : Held) → Stands g.tables q → Stands next.tables q → LinkOf g.tables q p → LinkOf next.tables q p
  link_keeps q p h h' l =
      let is = table_is q.name.stripe g.tables h.0 h.1 in
      let is' = table_is q.name.stripe next.tables h'.0 h'.1 in
      dite (ℕ_discrete q.name.stripe s)
      (λ e.
      let t = h.0 in
      let at : get_elem? g.tables s ≡ some t = subst (λ k. get_elem? g.tables k ≡ some t) e h.1 in
      let there : get_elem? next.tables q.name.stripe ≡ some (T t) = subst (λ k. get_elem? next.tables k ≡ some (T t)) (sym e) (at_place_here T s g.tables t at) in
      let new : h'.0 ≡ T t = some-injective h'.0 (T t) (sym h'.1 ∙ there) in
      let has' : Has q.name.slot q.code (T t).entries = subst (λ (y : Table). Has q.name.slot q.code y.entries) new h'.2 in
      let k = keep t at q.name.slot (has_slots q.name.slot q.code t.entries h.2) ((c.tables q.name.stripe t h.1).slots_differ q.name.slot) (has_slots q.name.slot q.code (T t).entries has') in
      let all : links_at q.name.slot (table_at q.name.stripe next.tables).entries ≡ links_at q.name.slot (table_at q.name.stripe g.tables).entries =
      ap (λ (y : Table). links_at q.name.slot y.entries) (is' ∙ new) ∙ k ∙ ap (λ (y : Table). links_at q.name.slot y.entries) (sym is) in
      subst (λ (xs : List Name). Among p (linked xs (children q.code))) (sym all) l)
      (λ e.
      let same : h.0 ≡ h'.0 = some-injective h.0 h'.0 (sym h.1 ∙ sym (at_place_else T s q.name.stripe g.tables e) ∙ h'.1) in
      subst (λ (y : Table). Among p (linked (links_at q.name.slot y.entries) (children q.code))) (is ∙ same ∙ sym is') l)

  trail_keeps : (c' : Canonical n next) (seen ps : List Held) → Each (Stands g.tables) seen → Each (Stands next.tables) seen → Trail g.tables seen ps → Trail next.tables seen ps
  trail_keeps c' seen [] h h' t = tt
  trail_keeps c' seen (p ∷ ps) h h' ((q, (i, at), l), t) =
      let sq = each_at (Stands g.tables) seen i q h at in
      let sq' = each_at (Stands next.tables) seen i q h' at in
      let l' = link_keeps q p sq sq' l in
      let sp = link_stands n g q p c sq l in
      let sp' = link_stands n next q p c' sq' l' in
      ((q, (i, at), l'), trail_keeps c' (seen ++ p ∷ []) ps (each_join (Stands g.tables) seen (p ∷ []) h (sp, tt)) (each_join (Stands next.tables) seen (p ∷ []) h' (sp', tt)) t)

  path_keeps : (c' : Canonical n next) (held path : List Held) → Each (Stands g.tables) held → Each (Stands next.tables) held → Path g.tables held path → Path next.tables held path
  path_keeps c' held [] h h' t = tt
  path_keeps c' held (p ∷ ps) h h' ((i, at), t) = ((i, at), trail_keeps c' (p ∷ []) ps (each_at (Stands g.tables) held i p h at, tt) (each_at (Stands next.tables) held i p h' at, tt) t)

  -- each pass but one keeps its list, and that one has no path
  pub paths_place : (c' : Canonical n next) (k gain : ℕ) (f : List Held → List Held) (hs : List Hand) → path_at k hs ≡ [] → Each (Each (Stands g.tables)) (held_by hs) → Each (Each (Stands next.tables)) (held_by (at_place k (played gain f) hs)) → Paths g.tables hs → Paths next.tables (at_place k (played gain f) hs)
  paths_place c' k gain f [] z h h' p = tt
  paths_place c' zero gain f (x ∷ xs) z h h' p = (subst (λ (l : List Held). Path next.tables (f x.held) l) (sym z) tt, all xs h.1 h'.1 p.1)
    where
      all : (ys : List Hand) → Each (Each (Stands g.tables)) (held_by ys) → Each (Each (Stands next.tables)) (held_by ys) → Paths g.tables ys → Paths next.tables ys
      all [] h h' p = tt
      all (y ∷ ys) h h' p = (path_keeps c' y.held y.path h.0 h'.0 p.0, all ys h.1 h'.1 p.1)
  paths_place c' (suc k) gain f (x ∷ xs) z h h' p = (path_keeps c' x.held x.path h.0 h'.0 p.0, paths_place c' k gain f xs z h.1 h'.1 p.1)
