-- A root over codes in decreasing order is a code, and they are its children.
use Rattle.std.proofs.Common.{◌≡◌, ℕ, ◌<◌, List, [], ◌∷◌, length, map, sum, refl, ap, ap₂, subst, sym, ◌∙◌, arith, IsPermutation, IsSorted, All}
use Rattle.std.specs.Ordering.{flip_args}
use Rattle.std.proofs.lemmas.List.Elements.{All-head, All-tail}
use Rattle.std.proofs.lemmas.List.Sums.{sum_by-cons}
use Rattle.std.proofs.lemmas.List.Sorted.{IsPermutation-refl}
use Rattle.bs_tree.specs.Tree.{Tree, nodes, forest, Coloured}
use Rattle.bs_tree.specs.Canonical.{canonical_sequence, canonical_of, sequence_cmp}
use Rattle.bs_tree.specs.Code.{IsCode, tree_of, child_codes, root_colour, joined}
use Rattle.bs_tree.proofs.Joins.{sequences}
use Rattle.bs_tree.specs.SubtreeLaws.{tree_of-level_sequence}
use Rattle.bs_tree.proofs.CodeOf.{joined_is, canon_is_code, sorted_codes}
use Rattle.bs_tree.proofs.CodeFacts.{code_within, code_kids, all_sequences}
use Rattle.bs_tree.specs.declared.TheConstants.{MAX_NODES}

trees_of : (cs : List (List (ℕ × ℕ))) → All IsCode cs → map canonical_sequence (map tree_of cs) ≡ cs
trees_of [] h = refl
trees_of (c ∷ cs) h = ap₂ (λ (x : List (ℕ × ℕ)) (xs : List (List (ℕ × ℕ))). x ∷ xs) (All-head IsCode c cs h).canonical (trees_of cs (All-tail IsCode c cs h))

trees_within : (cs : List (List (ℕ × ℕ))) → All IsCode cs → (nodes (forest (map tree_of cs)) ≡ sum (map length cs)) × Coloured 4 (forest (map tree_of cs))
trees_within [] h = (refl, tt)
trees_within (c ∷ cs) h =
    let w = code_within c (All-head IsCode c cs h) in
    let r = trees_within cs (All-tail IsCode c cs h) in
    (omega (arith, w.0, r.0, sum_by-cons (λ (k : ℕ). k) (length c) (map length cs)), (w.1, w.2, r.1))

pub joined_code : (colour : ℕ) (cs : List (List (ℕ × ℕ))) → colour < 4 → All IsCode cs → IsSorted (flip_args sequence_cmp) cs → sum (map length cs) < MAX_NODES
    → IsCode (joined colour cs) × (root_colour (joined colour cs) ≡ colour) × (child_codes (joined colour cs) ≡ cs)
joined_code colour cs low codes down small =
    let ts = map tree_of cs in
    let t : Tree = record { colour = colour; below = forest ts } in
    let w = trees_within cs codes in
    let p : IsPermutation (map canonical_sequence ts) cs = subst (λ (xs : List (List (ℕ × ℕ))). IsPermutation xs cs) (sym (trees_of cs codes)) (IsPermutation-refl cs) in
    let e : joined colour cs ≡ canonical_sequence t = joined_is t ts cs refl p down in
    let code : IsCode (canonical_sequence t) = canon_is_code t (omega (arith, w.0)) low w.1 in
    let back : tree_of (joined colour cs) ≡ canonical_of t = ap tree_of e ∙ tree_of-level_sequence (canonical_of t) in
    let is_code : IsCode (joined colour cs) = subst IsCode (sym e) code in (
      is_code,
      ap (λ (u : Tree). u.colour) back,
      all_sequences (tree_of (joined colour cs)).below (code_kids (joined colour cs) is_code) ∙ ap (λ (u : Tree). sequences u.below) back ∙ sym (sorted_codes ts cs p down),
    )
