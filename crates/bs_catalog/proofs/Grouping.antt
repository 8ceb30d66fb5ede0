-- Keys with equal neighbours as one, and what is gathered of rows.
use Rattle.std.proofs.Common.{◌≡◌, ℕ, zero, suc, ◌+◌, ◌-◌, ◌<◌, ◌⊎◌, inl, inr, List, [], ◌∷◌, ◌++◌, map, take, length, refl, ap, ap₂, sym, ◌∙◌, subst, arith, append_assoc, append-nil, IsPermutation}
use Rattle.std.specs.Prelude.{replicate, slice_range}
use Rattle.std.specs.List.{AllByRecursion}
use Rattle.std.proofs.lemmas.List.{map-append, take_all}
use Rattle.std.proofs.lemmas.List.Sorted.{IsPermutation-map, All-permutation}
use Rattle.std.proofs.lemmas.List.Elements.{All-from_recursion, recursion_from_All}
use Rattle.bs_tree.specs.Tree.{Tree}
use Rattle.bs_tree.specs.Canonical.{canonical_of, level_sequence}
use Rattle.bs_tree.specs.Code.{tree_of}
use Rattle.bs_split.specs.Splitting.{Cuts, cuts, init}
use Rattle.bs_part.specs.Partition.{node, Pieces, pieces, tail}
use Rattle.bs_tree.specs.Tree.{forest}
use Rattle.bs_catalog.specs.Shelf.{Code, AreRows, split_rows, part_rows, rows_at}
use Rattle.bs_catalog.specs.Memo.{Extends, HoldsRows}
use Rattle.bs_catalog.specs.Gathered.{Shows, gathered_key, expanded, AreGathered}
use Rattle.bs_catalog.specs.Forests.{IsSequence, AreSequences, key_of, HasKeys, AreGroups, groups_at, HoldsGroups, OneForgotten}
use Rattle.bs_catalog.specs.declared.gathering.Gathered.{Gathered}
use Rattle.bs_catalog.specs.declared.gathering.Key.{Key}
use Rattle.bs_catalog.proofs.RowLaws.{codes, cut_row, piece_row, split_rows_at, part_rows_at}
use Rattle.bs_catalog.proofs.Forests.{all_map, all_join, all_parts, keys_stay, shown_stays}

-- ---- groups
abbrev Shown : List Code → List (List ℕ) → Key → Type 0
Shown cs all key = Shows cs all key.row (key_of key)

abbrev ShownGroup : List Code → List (List ℕ) → Gathered → Type 0
ShownGroup cs all g = Shows cs all g.row (gathered_key g)

expanded_append : (xs ys : List Gathered) → expanded (xs ++ ys) ≡ expanded xs ++ expanded ys
expanded_append [] ys = refl
expanded_append (x ∷ xs) ys =
    ap (λ (ks : List (ℕ × ℕ)). replicate x.times (gathered_key x) ++ ks) (expanded_append xs ys)
    ∙ sym (append_assoc (replicate x.times (gathered_key x)) (expanded xs) (expanded ys))

one_more : (n : ℕ) (key : ℕ × ℕ) → replicate (n + 1) key ≡ replicate n key ++ key ∷ []
one_more zero key = refl
one_more (suc n) key =
    let e : suc n + 1 ≡ suc (n + 1) = omega arith in
    ap (λ (m : ℕ). replicate m key) e ∙ ap (λ (ks : List (ℕ × ℕ)). key ∷ ks) (one_more n key)

pub groups_none : AreGroups [] []
groups_none = record { same = refl; some = tt; shown = λ cs all h. tt }

pub groups_one : (key : Key) (g : Gathered) → gathered_key g ≡ key_of key → g.row ≡ key.row → g.times ≡ 1 → AreGroups (key ∷ []) (g ∷ [])
groups_one key g ek er et = record {
  same = sym (ap (λ (ks : List (ℕ × ℕ)). ks ++ []) (ap₂ (λ (n : ℕ) (k : ℕ × ℕ). replicate n k) et ek));
  some = ((let p : 0 < g.times = omega (arith, et) in p), tt);
  shown = λ cs all h. (subst (λ (k : ℕ × ℕ). Shows cs all g.row k) (sym ek) (subst (λ (n : ℕ). Shows cs all n (key_of key)) (sym er) h.0), tt);
}

-- one more group
pub groups_next : (keys : List Key) (gs : List Gathered) (key : Key) (g : Gathered) → gathered_key g ≡ key_of key → g.row ≡ key.row → g.times ≡ 1 → AreGroups keys gs
    → AreGroups (keys ++ key ∷ []) (gs ++ g ∷ [])
groups_next keys gs key g ek er et h =
    let o = groups_one key g ek er et in record {
      same = map-append key_of keys (key ∷ []) ∙ ap₂ (λ (a b : List (ℕ × ℕ)). a ++ b) h.same o.same ∙ sym (expanded_append gs (g ∷ []));
      some = all_join (λ (x : Gathered). 0 < x.times) gs (g ∷ []) h.some o.some;
      shown = λ cs all s.
          let p = all_parts (Shown cs all) keys (key ∷ []) s in
          all_join (ShownGroup cs all) gs (g ∷ []) (h.shown cs all p.0) (o.shown cs all p.1);
    }

-- one more of the last group
pub groups_more : (keys : List Key) (gs : List Gathered) (key : Key) (g g' : Gathered) → gathered_key g ≡ key_of key → gathered_key g' ≡ gathered_key g → g'.row ≡ g.row → g'.times ≡ g.times + 1
    → AreGroups keys (gs ++ g ∷ []) → AreGroups (keys ++ key ∷ []) (gs ++ g' ∷ [])
groups_more keys gs key g g' ek eg er et h =
    let last : expanded (g' ∷ []) ≡ expanded (g ∷ []) ++ key_of key ∷ [] =
    append-nil (replicate g'.times (gathered_key g')) ∙ ap₂ (λ (n : ℕ) (k : ℕ × ℕ). replicate n k) et eg ∙ one_more g.times (gathered_key g)
    ∙ ap₂ (λ (ks : List (ℕ × ℕ)) (k : ℕ × ℕ). ks ++ k ∷ []) (sym (append-nil (replicate g.times (gathered_key g)))) ek in
    let some = all_parts (λ (x : Gathered). 0 < x.times) gs (g ∷ []) h.some in record {
      same =
          map-append key_of keys (key ∷ []) ∙ ap (λ (ks : List (ℕ × ℕ)). ks ++ key_of key ∷ []) (h.same ∙ expanded_append gs (g ∷ []))
          ∙ append_assoc (expanded gs) (expanded (g ∷ [])) (key_of key ∷ [])
          ∙ ap (λ (ks : List (ℕ × ℕ)). expanded gs ++ ks) (sym last) ∙ sym (expanded_append gs (g' ∷ []));
      some = all_join (λ (x : Gathered). 0 < x.times) gs (g' ∷ []) some.0 ((let p : 0 < g'.times = omega (arith, et) in p), tt);
      shown = λ cs all s.
          let p = all_parts (Shown cs all) keys (key ∷ []) s in
          let q = all_parts (ShownGroup cs all) gs (g ∷ []) (h.shown cs all p.0) in
          all_join (ShownGroup cs all) gs (g' ∷ []) q.0
          (subst (λ (k : ℕ × ℕ). Shows cs all g'.row k) (sym eg) (subst (λ (n : ℕ). Shows cs all n (gathered_key g)) (sym er) q.1.0), tt);
    }

-- ---- what is gathered
pub gathered_from : (cs : List Code) (all rows : List (List ℕ)) (keys sorted : List Key) (gs : List Gathered) → HasKeys cs all rows keys → IsPermutation keys sorted → AreGroups sorted gs
    → AreGathered cs all rows gs
gathered_from cs all rows keys sorted gs h p g = record {
  keys = map key_of keys;
  each = h.each;
  same = subst (λ (ks : List (ℕ × ℕ)). IsPermutation (map key_of keys) ks) g.same (IsPermutation-map key_of keys sorted p);
  some = g.some;
  shown = g.shown cs all (recursion_from_All (Shown cs all) sorted (All-permutation (Shown cs all) keys sorted p (All-from_recursion (Shown cs all) keys h.shown)));
}

pub gathered_stays : (cs cs' : List Code) (all rows : List (List ℕ)) (gs : List Gathered) → Extends cs cs' → AreGathered cs all rows gs → AreGathered cs' all rows gs
gathered_stays cs cs' all rows gs e h = record {
  keys = h.keys;
  each = keys_stay cs cs' e rows h.keys h.each;
  same = h.same;
  some = h.some;
  shown = all_map (ShownGroup cs all) (ShownGroup cs' all) (λ g s. shown_stays cs cs' e all g.row (gathered_key g) s) gs h.shown;
}

-- ---- the rows of a tree are of canonical sequences
sequence_of : (t : Tree) → IsSequence (level_sequence (canonical_of t))
sequence_of t = record { tree = t; is = refl }

sequences_of : (ts : List Tree) → AllByRecursion IsSequence (codes ts)
sequences_of [] = tt
sequences_of (t ∷ ts) = (sequence_of t, sequences_of ts)

cut_sequences : (c : ℕ) (ks : List Cuts) → AreSequences (map (cut_row c) ks)
cut_sequences c [] = tt
cut_sequences c (k ∷ ks) = ((sequence_of (node c k.kept), sequences_of k.cut), cut_sequences c ks)

piece_sequences : (c : ℕ) (ps : List Pieces) → AreSequences (map (piece_row c) ps)
piece_sequences c [] = tt
piece_sequences c (p ∷ ps) = ((sequence_of (node 0 (forest p.hung)), (sequence_of (node c p.joined), sequences_of p.parts)), piece_sequences c ps)

pub split_sequences : (s : Code) → AreSequences (split_rows s)
split_sequences s = let t = tree_of s in subst AreSequences (sym (split_rows_at t s refl)) (cut_sequences t.colour (cuts t.below))

pub part_sequences : (s : Code) → AreSequences (part_rows s)
part_sequences s = let t = tree_of s in subst AreSequences (sym (part_rows_at t s refl)) (piece_sequences t.colour (pieces t.below))

-- ---- all rows but the first, and but the last
pub tail_is : (rows : List (List ℕ)) → slice_range rows 1 (length rows) ≡ tail rows
tail_is [] = refl
tail_is (row ∷ rows) = take_all (suc (length rows) - 1) rows (omega arith)

pub init_is : (rows : List (List ℕ)) → slice_range rows 0 (length rows - 1) ≡ init rows
init_is [] = refl
init_is (row ∷ []) = refl
init_is (row ∷ (next ∷ rows)) =
    let e : suc (suc (length rows)) - 1 - 0 ≡ suc (suc (length rows) - 1 - 0) = omega arith in
    ap (λ (n : ℕ). take n (row ∷ (next ∷ rows))) e ∙ ap (λ (rs : List (List ℕ)). row ∷ rs) (init_is (next ∷ rows))

-- ---- by number
module _ (part : List (List ℕ) → List (List ℕ)) where
  pub groups_stay : (cs cs' : List Code) (lists : List (List (List ℕ))) (groups : List (List Gathered)) → Extends cs cs' → HoldsGroups part cs lists groups → HoldsGroups part cs' lists groups
  groups_stay cs cs' lists groups e h = λ n some. gathered_stays cs cs' (rows_at lists n) (part (rows_at lists n)) (groups_at groups n) e (h n some)

  -- other rows at a number of which nothing is gathered
  pub groups_forgotten : (cs : List Code) (old new : List (List (List ℕ))) (groups groups' : List (List Gathered)) (number : ℕ) (rows : List (List ℕ)) → HoldsGroups part cs old groups
      → ((n : ℕ) → (rows_at new n ≡ rows_at old n) ⊎ ((n ≡ number) × (rows_at new n ≡ rows))) → OneForgotten groups groups' number → HoldsGroups part cs new groups'
  groups_forgotten cs old new groups groups' number rows h o f = λ n some.
      elim (f.others n) [
        | inl e ↦ elim (o n) [
          | inl q ↦
              let held : AreGathered cs (rows_at old n) (part (rows_at old n)) (groups_at groups n) = h n (subst (λ (gs : List Gathered). 0 < length gs) e some) in
              let here : AreGathered cs (rows_at old n) (part (rows_at old n)) (groups_at groups' n) = subst (λ (gs : List Gathered). AreGathered cs (rows_at old n) (part (rows_at old n)) gs) (sym e) held in
              subst (λ (rs : List (List ℕ)). AreGathered cs rs (part rs) (groups_at groups' n)) (sym q) here
          | inr q ↦
              let no : groups_at groups' n ≡ [] = ap (groups_at groups') q.0 ∙ f.forgotten in
              absurd (omega (arith, ap length no, some))
        ]
        | inr e ↦ absurd (omega (arith, ap length e, some))
      ]

  pub groups_put : (cs : List Code) (lists : List (List (List ℕ))) (groups groups' : List (List Gathered)) (number : ℕ) (gs : List Gathered) → HoldsGroups part cs lists groups
      → ((n : ℕ) → (groups_at groups' n ≡ groups_at groups n) ⊎ ((n ≡ number) × (groups_at groups' n ≡ gs)))
      → AreGathered cs (rows_at lists number) (part (rows_at lists number)) gs → HoldsGroups part cs lists groups'
  groups_put cs lists groups groups' number gs h o g = λ n some.
      elim (o n) [
        | inl e ↦ subst (λ (xs : List Gathered). AreGathered cs (rows_at lists n) (part (rows_at lists n)) xs) (sym e) (h n (subst (λ (xs : List Gathered). 0 < length xs) e some))
        | inr e ↦
            subst (λ (m : ℕ). AreGathered cs (rows_at lists m) (part (rows_at lists m)) (groups_at groups' n)) (sym e.0)
            (subst (λ (xs : List Gathered). AreGathered cs (rows_at lists number) (part (rows_at lists number)) xs) (sym e.1) g)
      ]

  -- what a call gathers of the rows of a number
  pub gathered_here : (f : Code → List (List Code)) → ((s : Code) → AreSequences (f s)) → (old new : List Code) (lists : List (List (List ℕ))) (number start end : ℕ) (rows : List (List ℕ)) (gs : List Gathered)
      → HoldsRows f old lists → 0 < length (rows_at lists number) → rows_at lists number ≡ rows → slice_range rows start end ≡ part rows
      → ((codes : List (List Code)) → AreRows old rows codes → AreSequences codes → AreGathered new rows (slice_range rows start end) gs)
      → AreGathered new (rows_at lists number) (part (rows_at lists number)) gs
  gathered_here f all old new lists number start end rows gs h some e r g =
      let held = h number some in
      let here : AreGathered new rows (part rows) gs =
      subst (λ (rs : List (List ℕ)). AreGathered new rows rs gs) r (g (f held.code) (subst (λ (rs : List (List ℕ)). AreRows old rs (f held.code)) e held.rows_are) (all held.code)) in
      subst (λ (rs : List (List ℕ)). AreGathered new rs (part rs) gs) (sym e) here
