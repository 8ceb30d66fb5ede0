-- Sequences and the trees that they describe.
use Rattle.std.proofs.Common.{◌≡◌, ℕ, suc, zero, ◌+◌, ◌≤◌, ◌<◌, List, [], ◌∷◌, ◌++◌, length, take, get_or, map, All, refl, ap, ap₂, subst, sym, ◌∙◌, arith, append_assoc, append-nil, length-append, IsTrue}
use Rattle.std.proofs.lemmas.List.{take_more, map-append}
use Rattle.std.specs.List.{AllByRecursion}
use Rattle.std.proofs.lemmas.List.Elements.{All-nil, All-cons, All-append}
use Rattle.bs_tree.specs.Tree.{Forest, none, grow, Tree, nodes, trees}
use Rattle.bs_tree.specs.Canonical.{level_sequence, level_sequence_at}
use Rattle.bs_tree.specs.Canonical.{sorted, canonical_sequence}
use Rattle.bs_tree.specs.Code.{IsCode, tree_of, deeper, all_deeper, joined}
use Rattle.bs_tree.specs.Isomorphic.{isomorphic}
use Rattle.bs_tree.proofs.Canon.{isomorphic_canonical}
use Rattle.bs_tree.specs.SortingLaws.{sorted-sorted}
use Rattle.bs_tree.specs.SubtreeLaws.{tree_of-level_sequence, length-level_sequence_at}
use Rattle.bs_tree.specs.declared.TheConstants.{MAX_NODES}

pub canonical_sequence-tree_of : (t : Tree) → canonical_sequence (tree_of (canonical_sequence t)) ≡ canonical_sequence t
canonical_sequence-tree_of t =
    let s : Tree = record { colour = t.colour; below = sorted t.below } in
    ap canonical_sequence (tree_of-level_sequence s) ∙ ap (λ (f : Forest). let u : Tree = record { colour = t.colour; below = f } in level_sequence u) (sorted-sorted t.below)

pub isomorphic-tree_of : (t : Tree) → IsTrue (isomorphic t (tree_of (canonical_sequence t)))
isomorphic-tree_of t =
    let s : Tree = record { colour = t.colour; below = sorted t.below } in
    ap (isomorphic t) (tree_of-level_sequence s) ∙ isomorphic_canonical t

-- ---- one level deeper
pub deeper-level_sequence_at : (l : ℕ) (f : Forest) → deeper (level_sequence_at l f) ≡ level_sequence_at (suc l) f
deeper-level_sequence_at l none = refl
deeper-level_sequence_at l (grow c kids rest) =
    ap (λ (ps : List (ℕ × ℕ)). (suc l, c) ∷ ps)
    (map-append (λ (p : ℕ × ℕ). (suc p.0, p.1)) (level_sequence_at (suc l) kids) (level_sequence_at l rest)
    ∙ ap₂ (λ (xs ys : List (ℕ × ℕ)). xs ++ ys) (deeper-level_sequence_at (suc l) kids) (deeper-level_sequence_at l rest))

abbrev pub sequences : Forest → List (List (ℕ × ℕ))
sequences f = map level_sequence (trees f)

pub all_deeper-sequences : (f : Forest) → all_deeper (sequences f) ≡ level_sequence_at 2 f
all_deeper-sequences none = refl
all_deeper-sequences (grow c kids rest) =
    ap (λ (ps : List (ℕ × ℕ)). (2, c) ∷ ps) (ap₂ (λ (xs ys : List (ℕ × ℕ)). xs ++ ys) (deeper-level_sequence_at 2 kids) (all_deeper-sequences rest))

pub joined-sequences : (t : Tree) → joined t.colour (sequences (sorted t.below)) ≡ canonical_sequence t
joined-sequences t = ap (λ (ps : List (ℕ × ℕ)). (1, t.colour) ∷ ps) (all_deeper-sequences (sorted t.below))

-- ---- the loop that joins
pub all_deeper-append : (xs ys : List (List (ℕ × ℕ))) → all_deeper (xs ++ ys) ≡ all_deeper xs ++ all_deeper ys
all_deeper-append [] ys = refl
all_deeper-append (x ∷ xs) ys = ap (λ (ps : List (ℕ × ℕ)). deeper x ++ ps) (all_deeper-append xs ys) ∙ sym (append_assoc (deeper x) (all_deeper xs) (all_deeper ys))

pub joined_more : (c : ℕ) (cs : List (List (ℕ × ℕ))) (i : ℕ) (d : List (ℕ × ℕ)) → i < length cs → joined c (take (i + 1) cs) ≡ joined c (take i cs) ++ deeper (get_or cs i d)
joined_more c cs i d h = ap (λ (ps : List (ℕ × ℕ)). (1, c) ∷ ps)
    (ap all_deeper (take_more cs i d h) ∙ all_deeper-append (take i cs) (get_or cs i d ∷ []) ∙ ap (λ (ps : List (ℕ × ℕ)). all_deeper (take i cs) ++ ps) (append-nil (deeper (get_or cs i d))))

-- ---- levels
pub level_bound : (l n : ℕ) (f : Forest) → 0 < l → l + nodes f ≤ suc n → All (λ (p : ℕ × ℕ). (0 < p.0) × (p.0 ≤ n)) (level_sequence_at l f)
level_bound l n none k h = All-nil (λ (p : ℕ × ℕ). (0 < p.0) × (p.0 ≤ n))
level_bound l n (grow c kids rest) k h =
    let P : ℕ × ℕ → Type 0 = λ p. (0 < p.0) × (p.0 ≤ n) in
    All-cons P (l, c) (level_sequence_at (suc l) kids ++ level_sequence_at l rest) (k, omega arith)
    (All-append P (level_sequence_at (suc l) kids) (level_sequence_at l rest) (level_bound (suc l) n kids (omega arith) (omega arith)) (level_bound l n rest k (omega arith)))

pub code_levels : (s : List (ℕ × ℕ)) → IsCode s → All (λ (p : ℕ × ℕ). (0 < p.0) × (p.0 ≤ MAX_NODES)) s
code_levels s h =
    let t = tree_of s in
    let P : ℕ × ℕ → Type 0 = λ p. (0 < p.0) × (p.0 ≤ MAX_NODES) in
    let size : length s ≡ suc (nodes (sorted t.below)) = ap length (sym h.canonical) ∙ ap suc (length-level_sequence_at 2 (sorted t.below)) in
    subst (All P) h.canonical
    (All-cons P (1, t.colour) (level_sequence_at 2 (sorted t.below)) (omega arith, omega arith)
    (level_bound 2 MAX_NODES (sorted t.below) (omega arith) (omega (arith, h.small))))

pub code_colours : (s : List (ℕ × ℕ)) → AllByRecursion (λ (p : ℕ × ℕ). p.1 < 4) s → All (λ (p : ℕ × ℕ). p.1 < 4) s
code_colours [] h = All-nil (λ (p : ℕ × ℕ). p.1 < 4)
code_colours (p ∷ ps) h = All-cons (λ (p : ℕ × ℕ). p.1 < 4) p ps h.0 (code_colours ps h.1)

length-deeper : (ps : List (ℕ × ℕ)) → length (deeper ps) ≡ length ps
length-deeper [] = refl
length-deeper (p ∷ ps) = ap suc (length-deeper ps)

-- a part that is joined
pub length-joined_more : (c : ℕ) (cs : List (List (ℕ × ℕ))) (i : ℕ) (d : List (ℕ × ℕ)) → i < length cs → length (joined c (take i cs)) + length (get_or cs i d) ≤ length (joined c cs)
length-joined_more c [] i d h = absurd (omega arith)
length-joined_more c (x ∷ xs) zero d h =
    omega (arith, length-append (deeper x) (all_deeper xs), length-deeper x)
length-joined_more c (x ∷ xs) (suc i) d h =
    omega (arith, length-joined_more c xs i d (omega arith), length-append (deeper x) (all_deeper xs), length-append (deeper x) (all_deeper (take i xs)))
