-- The pairs of one child of a code, the number of children, and the product of the sizes of all subtrees.
use Rattle.std.proofs.Common.{◌≡◌, ℕ, suc, zero, ◌+◌, ◌-◌, ◌*◌, ◌≤◌, ◌<◌, ◌^◌, true, cond, eqb, ltb, List, [], ◌∷◌, ◌++◌, length, take, map, drop, slice_get, Some, option_map, refl, ap, ap₂, subst, sym, ◌∙◌, arith, append_assoc, append-nil, length-drop, count_by, All, mul-pos}
use Rattle.std.specs.List.{prefix_len}
use Rattle.std.proofs.lemmas.Bool.{eq-eqb, ne_eqb, le-ltb, ltb-false}
use Rattle.std.proofs.lemmas.List.{length-map, drop_more, take_all}
use Rattle.std.proofs.lemmas.List.Elements.{All-nil, All-cons, All-append}
use Rattle.std.proofs.lemmas.List.Recursion.{is_count_by}
use Rattle.std.proofs.lemmas.Option.{slice_get-map}
use Rattle.bs_tree.specs.Tree.{Forest, none, grow, Tree, nodes, trees}
use Rattle.bs_tree.specs.Canonical.{level_sequence, level_sequence_at, canonical_sequence, sorted}
use Rattle.bs_tree.specs.Numbers.{density, density_of}
use Rattle.bs_tree.specs.Code.{IsCode, tree_of, child_codes, deeper}
use Rattle.bs_tree.specs.Subtrees.{forest_at, subtree_of, level_below, first_count, raised, sizes, IsSubtree}
use Rattle.bs_tree.specs.SortingLaws.{by_cases}
use Rattle.bs_tree.proofs.Joins.{deeper-level_sequence_at}
use Rattle.bs_tree.specs.SubtreeLaws.{length-level_sequence_at}
use Rattle.bs_tree.proofs.CodeOf.{canon_is_code}
use Rattle.bs_tree.proofs.Bounds.{left_le, small_numbers}
use Rattle.bs_tree.specs.SortingLaws.{nodes-sorted}
use Rattle.bs_tree.proofs.Trees.{length_le-nodes, forest-trees}
use Rattle.bs_tree.specs.SubtreeLaws.{IsRest, step, start, subtree_within, greater_run}
use Rattle.bs_tree.proofs.CodeFacts.{code_subtree, code_written, code_within, child_written}
use Rattle.bs_tree.specs.declared.TheConstants.{MAX_NODES}

-- ---- passing over the first trees
-- the trees of what is left are those from a place on
pub record IsFrom (ps rest : List (ℕ × ℕ)) (place : ℕ) : Type 0 where
  pub rest_is : IsRest ps rest
  pub trees_are : trees (forest_at (level_below ps) rest) ≡ drop place (trees (subtree_of ps).below)

pub from_start : (ps : List (ℕ × ℕ)) → IsSubtree ps → IsFrom ps (drop 1 ps) 0
from_start ps h = let s = start ps h in record { rest_is = s.0; trees_are = ap trees s.1 }

some_left : (ps rest : List (ℕ × ℕ)) (place : ℕ) → IsFrom ps rest place → place < length (trees (subtree_of ps).below) → 0 < length rest
some_left ps [] place h lt = absurd (
    let ts = trees (subtree_of ps).below in
    let e : [] ≡ drop place ts = h.trees_are in
    let n : 0 ≡ length (drop place ts) = ap length e in
    omega (arith, n, length-drop place ts)
    )
some_left ps (p ∷ rest) place h lt = omega arith

drop_one : (xs : List Tree) (place : ℕ) (t : Tree) (ts : List Tree) → t ∷ ts ≡ drop place xs → (slice_get xs place ≡ Some t) × (ts ≡ drop (place + 1) xs)
drop_one [] place t ts e = absurd (let n : suc (length ts) ≡ length (drop place []) = ap length e in omega (arith, n, length-drop {A = Tree} place []))
drop_one (x ∷ xs) zero t ts e = (let same : t ≡ x = cc in ap (λ (u : Tree). Some u) (sym same), let same : ts ≡ xs = cc in same)
drop_one (x ∷ xs) (suc place) t ts e =
    let r = drop_one xs place t ts e in
    let n : suc (place + 1) ≡ suc place + 1 = omega arith in
    (r.0, r.1 ∙ ap (λ (i : ℕ). drop i (x ∷ xs)) n)

pub record IsChild (ps first : List (ℕ × ℕ)) (place : ℕ) : Type 0 where
  pub subtree : IsSubtree first
  pub is : slice_get (trees (subtree_of ps).below) place ≡ Some (subtree_of first)
  pub level : level_below first ≡ suc (level_below ps)

pub child_here : (ps rest : List (ℕ × ℕ)) (place : ℕ) → IsFrom ps rest place → place < length (trees (subtree_of ps).below)
    → (0 < length rest) × (first_count rest ≤ length rest) × IsChild ps (take (first_count rest) rest) place × IsFrom ps (drop (first_count rest) rest) (place + 1)
child_here ps rest place h lt =
    let some = some_left ps rest place h lt in
    let s = step ps rest h.rest_is some in
    let d = drop_one (trees (subtree_of ps).below) place _ _ (sym s.parts ∙ h.trees_are) in
    (some, s.fits, record { subtree = s.subtree; is = d.0; level = s.level }, record { rest_is = s.more; trees_are = d.1 })

-- ---- one level less
raised-deeper : (ps : List (ℕ × ℕ)) → raised (deeper ps) ≡ ps
raised-deeper [] = refl
raised-deeper (p ∷ ps) = ap₂ (λ (l : ℕ) (qs : List (ℕ × ℕ)). let q : ℕ × ℕ = (l, p.1) in q ∷ qs) (let e : suc p.0 - 1 ≡ p.0 = omega arith in e) (raised-deeper ps)

pub raised-level_sequence_at : (l : ℕ) (f : Forest) → raised (level_sequence_at (suc l) f) ≡ level_sequence_at l f
raised-level_sequence_at l f = ap raised (sym (deeper-level_sequence_at l f)) ∙ raised-deeper (level_sequence_at l f)

pub raised_subtree : (ps : List (ℕ × ℕ)) → IsSubtree ps → level_below ps ≡ 3 → raised ps ≡ level_sequence (subtree_of ps)
raised_subtree [] h e = absurd (let k = h.some in omega arith)
raised_subtree (p ∷ ps) h e =
    let f = forest_at (suc p.0) ps in
    let two : p.0 ≡ 2 = omega arith in
    let below : raised ps ≡ level_sequence_at 2 f =
    ap raised (sym h.shape) ∙ ap (λ (l : ℕ). raised (level_sequence_at (suc l) f)) two ∙ raised-level_sequence_at 2 f in
    ap₂ (λ (l : ℕ) (qs : List (ℕ × ℕ)). let q : ℕ × ℕ = (l - 1, p.1) in q ∷ qs) two below

levels_from : (l m : ℕ) (f : Forest) → l < m → All (λ (p : ℕ × ℕ). l < p.0) (level_sequence_at m f)
levels_from l m none h = All-nil (λ (p : ℕ × ℕ). l < p.0)
levels_from l m (grow c kids rest) h =
    let P : ℕ × ℕ → Type 0 = λ p. l < p.0 in
    All-cons P (m, c) (level_sequence_at (suc m) kids ++ level_sequence_at m rest) h
    (All-append P (level_sequence_at (suc m) kids) (level_sequence_at m rest) (levels_from l (suc m) kids (omega arith)) (levels_from l m rest h))

pub subtree_levels : (ps : List (ℕ × ℕ)) → IsSubtree ps → level_below ps ≡ 3 → All (λ (p : ℕ × ℕ). 0 < p.0) ps
subtree_levels [] h e = All-nil (λ (p : ℕ × ℕ). 0 < p.0)
subtree_levels (p ∷ ps) h e =
    All-cons (λ (p : ℕ × ℕ). 0 < p.0) p ps (omega arith)
    (subst (All (λ (p : ℕ × ℕ). 0 < p.0)) h.shape (levels_from 0 (suc p.0) (forest_at (suc p.0) ps) (omega arith)))

-- ---- the child of a code
pub code_level_below : (s : List (ℕ × ℕ)) → IsCode s → level_below s ≡ 2
code_level_below s h = ap level_below (sym (code_written s h))

pub child_code : (s first : List (ℕ × ℕ)) (place : ℕ) → IsCode s → IsChild s first place → (slice_get (child_codes s) place ≡ Some (raised first)) × IsCode (raised first)
child_code s first place h c =
    let k = code_subtree s h in
    let t = subtree_of first in
    let at : slice_get (trees (tree_of s).below) place ≡ Some t = subst (λ (u : Tree). slice_get (trees u.below) place ≡ Some t) k.1 c.is in
    let level : level_below first ≡ 3 = c.level ∙ ap suc (code_level_below s h) in
    let e : raised first ≡ canonical_sequence t = raised_subtree first c.subtree level ∙ sym (child_written s place t h at) in
    let w = subtree_within first c.subtree in
    let code : IsCode (canonical_sequence t) = canon_is_code t (let m = c.subtree.small in omega (arith, w.0)) w.1 w.2 in (
      slice_get-map canonical_sequence (trees (tree_of s).below) place ∙ ap (option_map canonical_sequence) at ∙ ap (λ (x : List (ℕ × ℕ)). Some x) (sym e),
      subst IsCode (sym e) code,
    )

pub child_place : (s : List (ℕ × ℕ)) (place : ℕ) → IsCode s → place < length (child_codes s) → place < length (trees (subtree_of s).below)
child_place s place h lt =
    let k = code_subtree s h in
    let e : length (trees (subtree_of s).below) ≡ length (trees (tree_of s).below) = ap (λ (u : Tree). length (trees u.below)) k.1 in
    omega (arith, lt, e, length-map (trees (tree_of s).below) canonical_sequence)

-- ---- the number of children
abbrev count_level : ℕ → List (ℕ × ℕ) → ℕ
count_level l [] = 0
count_level l (p ∷ ps) = cond (eqb p.0 l) (1 + count_level l ps) (count_level l ps)

count_above : (l m : ℕ) (f : Forest) (x : List (ℕ × ℕ)) → l < m → count_level l (level_sequence_at m f ++ x) ≡ count_level l x
count_above l m none x h = refl
count_above l m (grow c kids rest) x h =
    rw (ne_eqb m l (λ e. omega arith), append_assoc (level_sequence_at (suc m) kids) (level_sequence_at m rest) x)
    (count_above l (suc m) kids (level_sequence_at m rest ++ x) (omega arith) ∙ count_above l m rest x h)

count_here : (l : ℕ) (f : Forest) → count_level l (level_sequence_at l f) ≡ length (trees f)
count_here l none = refl
count_here l (grow c kids rest) =
    rw (eq-eqb l l refl) (omega (arith, count_above l (suc l) kids (level_sequence_at l rest) (omega arith), count_here l rest))

pub children_counted : (s : List (ℕ × ℕ)) → IsCode s → count_by (λ p. eqb p.0 2) s ≡ length (child_codes s)
children_counted s h =
    let t = tree_of s in
    let e : count_level 2 s ≡ length (trees t.below) = ap (count_level 2) (sym (code_written s h)) ∙ count_here 2 t.below in
    sym (is_count_by (count_level 2) (λ p. eqb p.0 2) refl (λ p ps. refl) s) ∙ e ∙ sym (length-map (trees t.below) canonical_sequence)

-- ---- the product of the sizes
sizes_forest : (l : ℕ) (f : Forest) (x : List (ℕ × ℕ)) → (prefix_len (λ (q : ℕ × ℕ). ltb l q.0) x ≡ 0) → sizes (level_sequence_at l f ++ x) ≡ density_of f * sizes x
sizes_forest l none x h = omega arith
sizes_forest l (grow c kids rest) x h =
    let tail = level_sequence_at l rest ++ x in
    let low : prefix_len (λ (q : ℕ × ℕ). ltb l q.0) tail ≡ 0 = low_tail rest in
    let lower : prefix_len (λ (q : ℕ × ℕ). ltb (suc l) q.0) tail ≡ 0 = lower_tail rest in
    let run : prefix_len (λ (q : ℕ × ℕ). ltb l q.0) (level_sequence_at (suc l) kids ++ tail) ≡ nodes kids = greater_run l (suc l) kids tail (omega arith) ∙ ap (λ (n : ℕ). nodes kids + n) low ∙ (let z : nodes kids + 0 ≡ nodes kids = omega arith in z) in
    let a : sizes (level_sequence_at (suc l) kids ++ tail) ≡ density_of kids * sizes tail = sizes_forest (suc l) kids tail lower in
    let b : sizes tail ≡ density_of rest * sizes x = sizes_forest l rest x h in
    rw append_assoc (ap₂ (λ (m n : ℕ). suc m * n) run (a ∙ ap (λ (n : ℕ). density_of kids * n) b) ∙ omega arith)
  where
    not_more : (m : ℕ) (y : List (ℕ × ℕ)) → prefix_len (λ (q : ℕ × ℕ). ltb m q.0) y ≡ 0 → prefix_len (λ (q : ℕ × ℕ). ltb (suc m) q.0) y ≡ 0
    not_more m [] e = refl
    not_more m (q ∷ y) e =
        by_cases (ltb m q.0)
        (λ k. absurd (let z : cond true (1 + prefix_len (λ (r : ℕ × ℕ). ltb m r.0) y) 0 ≡ 0 = rw k at e in omega arith))
        (λ k. rw (le-ltb (suc m) q.0 (let g = ltb-false m q.0 k in omega arith)) refl)

    low_tail : (g : Forest) → prefix_len (λ (q : ℕ × ℕ). ltb l q.0) (level_sequence_at l g ++ x) ≡ 0
    low_tail none = h
    low_tail (grow d below more) = rw (le-ltb l l (omega arith)) refl

    lower_tail : (g : Forest) → prefix_len (λ (q : ℕ × ℕ). ltb (suc l) q.0) (level_sequence_at l g ++ x) ≡ 0
    lower_tail g = not_more l (level_sequence_at l g ++ x) (low_tail g)

pub sizes_are : (ps : List (ℕ × ℕ)) → IsSubtree ps → sizes ps ≡ density (subtree_of ps)
sizes_are [] h = absurd (let k = h.some in omega arith)
sizes_are (p ∷ ps) h =
    let f = forest_at (suc p.0) ps in
    let s = level_sequence_at (suc p.0) f in
    let run : prefix_len (λ (q : ℕ × ℕ). ltb p.0 q.0) s ≡ nodes f =
    ap (prefix_len (λ (q : ℕ × ℕ). ltb p.0 q.0)) (sym (append-nil s)) ∙ greater_run p.0 (suc p.0) f [] (omega arith) ∙ (let z : nodes f + 0 ≡ nodes f = omega arith in z) in
    let all : sizes s ≡ density_of f = ap sizes (sym (append-nil s)) ∙ sizes_forest (suc p.0) f [] refl ∙ (let z : density_of f * 1 ≡ density_of f = omega arith in z) in
    subst (λ (qs : List (ℕ × ℕ)). suc (prefix_len (λ (q : ℕ × ℕ). ltb p.0 q.0) qs) * sizes qs ≡ suc (nodes f) * density_of f) h.shape
    (ap₂ (λ (m n : ℕ). suc m * n) run all)

sizes_pos : (ps : List (ℕ × ℕ)) → 0 < sizes ps
sizes_pos [] = omega arith
sizes_pos (p ∷ ps) = mul-pos (omega arith) (sizes_pos ps)

-- one more node
pub sizes_more : (ps : List (ℕ × ℕ)) (i : ℕ) → i < length ps → sizes (drop i ps) ≡ first_count (drop i ps) * sizes (drop (i + 1) ps)
sizes_more ps i h = rw (drop_more ps i (0, 0) h) refl

pub sizes_step : (p i total : ℕ) (ps : List (ℕ × ℕ)) → i < length ps → p * sizes (drop i ps) ≡ total
    → (p * first_count (drop i ps) ≤ total) × ((p * first_count (drop i ps)) * sizes (drop (i + 1) ps) ≡ total)
sizes_step p i total ps h e =
    let n = first_count (drop i ps) in
    let r = sizes (drop (i + 1) ps) in
    let m : p * (n * r) ≡ total = ap (λ (k : ℕ). p * k) (sym (sizes_more ps i h)) ∙ e in
    (left_le p n r total (sizes_pos (drop (i + 1) ps)) m, (let z : (p * n) * r ≡ p * (n * r) = omega arith in z) ∙ m)

pub rest_of_all : (ps : List (ℕ × ℕ)) (i : ℕ) → take (length ps - i) (drop i ps) ≡ drop i ps
rest_of_all ps i = take_all (length ps - i) (drop i ps) (omega (arith, length-drop i ps))

-- ---- the density of a code
pub code_sizes : (s : List (ℕ × ℕ)) → IsCode s → sizes s ≡ density (tree_of s)
code_sizes s h = let k = code_subtree s h in sizes_are s k.0 ∙ ap density k.1

pub code_density_fits : (s : List (ℕ × ℕ)) → IsCode s → sizes s < 2 ^ 64
code_density_fits s h =
    let w = code_within s h in
    let m = (small_numbers (tree_of s) (omega (arith, w.0, h.small))).1 in
    omega (arith, code_sizes s h, m)

pub code_sizes_pos : (s : List (ℕ × ℕ)) → 0 < sizes s
code_sizes_pos s = sizes_pos s

pub few_children : (s : List (ℕ × ℕ)) → IsCode s → length (child_codes s) < MAX_NODES
few_children s h =
    let w = code_within s h in
    let below = (tree_of s).below in
    let e : length (trees below) ≤ nodes below = let k = length_le-nodes (trees below) in rw forest-trees at k in
    omega (arith, length-map (trees below) canonical_sequence, e, w.0, h.small)

child_size : (f : Forest) (place : ℕ) (c : List (ℕ × ℕ)) → slice_get (map canonical_sequence (trees f)) place ≡ Some c → length c ≤ nodes f
child_size none place c e = cc
child_size (grow d kids rest) zero c e =
    let t : Tree = record { colour = d; below = kids } in
    let same : canonical_sequence t ≡ c = cc in
    let size : length (canonical_sequence t) ≡ suc (nodes (sorted kids)) = ap suc (length-level_sequence_at 2 (sorted kids)) in
    subst (λ (s : List (ℕ × ℕ)). length s ≤ suc (nodes kids) + nodes rest) same (omega (arith, size, nodes-sorted kids))
child_size (grow d kids rest) (suc place) c e = omega (arith, child_size rest place c e)

pub child_smaller : (s : List (ℕ × ℕ)) (place : ℕ) (c : List (ℕ × ℕ)) → IsCode s → slice_get (child_codes s) place ≡ Some c → length c < length s
child_smaller s place c h e = let w = code_within s h in omega (arith, child_size (tree_of s).below place c e, w.0)
