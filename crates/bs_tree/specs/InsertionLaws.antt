-- Inserting the tree of each node, from the last to the first, gives the canonical sequence.
use Rattle.std.proofs.Common.{◌≡◌, ℕ, suc, zero, ◌+◌, ◌-◌, ◌≤◌, ◌<◌, cond, List, [], ◌∷◌, ◌++◌, length, take, drop, refl, ap, ap₂, subst, sym, ◌∙◌, arith, append_assoc, append-nil, length-append}
use Rattle.std.specs.Ordering.{nat_cmp, is_gt, ordering_then}
use Rattle.std.specs.declared.cmp.Ordering.{Ordering}
use Rattle.std.specs.declared.cmp.Ordering.TheVariants.{Less}
use Rattle.std.proofs.lemmas.Bool.Decides.{nat_tests}
use Rattle.std.proofs.lemmas.List.{map-append}
use Rattle.bs_tree.specs.Tree.{Forest, none, grow, Tree, nodes}
use Rattle.bs_tree.specs.Canonical.{level_sequence, level_sequence_at, canonical_sequence, sequence_cmp, tree_cmp, is_above, insert, sorted}
use Rattle.bs_tree.specs.Subtrees.{subtree_of, first_count, IsSubtree}
use Rattle.bs_tree.specs.Insertion.{from_level, greater_within, greater_count, moved, first_inserted, inserted}
use Rattle.bs_tree.specs.OrderLaws.{compare_is, nat_cmp-same}
use Rattle.bs_tree.specs.SortingLaws.{by_cases}
use Rattle.bs_tree.specs.SubtreeLaws.{IsLow, low_rest, run_of, take_kids, drop_kids, sequence_from, length-level_sequence_at}

abbrev Pairs : Type 0
Pairs = List (ℕ × ℕ)

-- ---- the tree that a list begins with
first_is : (l : ℕ) (t : Tree) (f : Forest) (z : Pairs) → IsLow l z
    → first_count (sequence_from l t ++ (level_sequence_at l f ++ z)) ≡ suc (nodes t.below)
first_is l t f z low = ap suc (run_of l t.below f z low)

take_tree : (l : ℕ) (t : Tree) (y : Pairs) → take (suc (nodes t.below)) (sequence_from l t ++ y) ≡ sequence_from l t
take_tree l t y = ap (λ (ps : Pairs). (l, t.colour) ∷ ps) (take_kids (suc l) t.below y)

drop_tree : (l : ℕ) (t : Tree) (y : Pairs) → drop (suc (nodes t.below)) (sequence_from l t ++ y) ≡ y
drop_tree l t y = drop_kids (suc l) t.below y

-- the order of sequences is that of trees, at any level
sequences_cmp : (l : ℕ) (t u : Tree) → sequence_cmp (sequence_from l t) (sequence_from l u) ≡ tree_cmp t u
sequences_cmp l t u = rw nat_cmp-same (ap (ordering_then (nat_cmp t.colour u.colour)) (compare_is (suc l) t.below u.below))

less : (m n : ℕ) → m < n → nat_cmp m n ≡ Less
less m n h = grind (arith, nat_tests)

-- no tree of a lower level is greater
low_none : (l fuel : ℕ) (t : Tree) (z : Pairs) → IsLow l z → greater_within fuel (sequence_from l t) z ≡ 0
low_none l zero t z h = refl
low_none l (suc fuel) t [] h = refl
low_none l (suc fuel) t (p ∷ z) h = rw (less p.0 l h) refl

take_past : (xs ys : Pairs) (m : ℕ) → take (length xs + m) (xs ++ ys) ≡ xs ++ take m ys
take_past [] ys m = ap (λ (n : ℕ). take n ys) (omega arith)
take_past (x ∷ xs) ys m =
    let e : suc (length xs) + m ≡ suc (length xs + m) = omega arith in
    ap (λ (n : ℕ). take n (x ∷ (xs ++ ys))) e ∙ ap (λ (zs : Pairs). x ∷ zs) (take_past xs ys m)

drop_past : (xs ys : Pairs) (m : ℕ) → drop (length xs + m) (xs ++ ys) ≡ drop m ys
drop_past [] ys m = ap (λ (n : ℕ). drop n ys) (omega arith)
drop_past (x ∷ xs) ys m =
    let e : suc (length xs) + m ≡ suc (length xs + m) = omega arith in
    ap (λ (n : ℕ). drop n (x ∷ (xs ++ ys))) e ∙ drop_past xs ys m

-- ---- one tree put in
-- s put behind the first m pairs
abbrev split : ℕ → Pairs → Pairs → Pairs
split m s ps = take m ps ++ (s ++ drop m ps)

split_past : (xs s ys : Pairs) (m : ℕ) → split (length xs + m) s (xs ++ ys) ≡ xs ++ split m s ys
split_past xs s ys m =
    ap₂ (λ (a b : Pairs). a ++ (s ++ b)) (take_past xs ys m) (drop_past xs ys m) ∙ append_assoc xs (take m ys) (s ++ drop m ys)

-- whether the first tree u is passed on the way to the place of t
count_at : (l : ℕ) (t u : Tree) (fuel : ℕ) (more : Forest) (z : Pairs) → IsLow l z
    → (let y = level_sequence_at l more ++ z in
    greater_within (suc fuel) (sequence_from l t) (sequence_from l u ++ y)
    ≡ cond (is_above u t) (suc (nodes u.below) + greater_within fuel (sequence_from l t) y) 0)
count_at l t u fuel more z low =
    let s = sequence_from l t in
    let y = level_sequence_at l more ++ z in
    let ps = sequence_from l u ++ y in
    let n = suc (nodes u.below) in
    ap (λ (i : ℕ). cond (is_gt (sequence_cmp (take i ps) s)) (i + greater_within fuel s (drop i ps)) 0) (first_is l u more z low)
    ∙ ap₂ (λ (a b : Pairs). cond (is_gt (sequence_cmp a s)) (n + greater_within fuel s b) 0) (take_tree l u y) (drop_tree l u y)
    ∙ ap (λ (o : Ordering). cond (is_gt o) (n + greater_within fuel s y) 0) (sequences_cmp l u t)

put_in : (l : ℕ) (t : Tree) (fuel : ℕ) (f : Forest) (z : Pairs) → nodes f ≤ fuel → IsLow l z
    → (let ps = level_sequence_at l f ++ z in
    split (greater_within fuel (sequence_from l t) ps) (sequence_from l t) ps ≡ level_sequence_at l (insert t f) ++ z)
put_in l t fuel none z h low =
    ap (λ (m : ℕ). split m (sequence_from l t) z) (low_none l fuel t z low)
    ∙ ap (λ (qs : Pairs). (l, t.colour) ∷ (qs ++ z)) (sym (append-nil (level_sequence_at (suc l) t.below)))
put_in l t zero (grow d below more) z h low = absurd (omega arith)
put_in l t (suc fuel) (grow d below more) z h low =
    let u : Tree = record { colour = d; below = below } in
    let s = sequence_from l t in
    let su = sequence_from l u in
    let y = level_sequence_at l more ++ z in
    let e : level_sequence_at l (grow d below more) ++ z ≡ su ++ y =
    ap (λ (qs : Pairs). (l, d) ∷ qs) (append_assoc (level_sequence_at (suc l) below) (level_sequence_at l more) z) in
    let n : suc (nodes below) ≡ length su = ap suc (sym (length-level_sequence_at (suc l) below)) in
    let m = greater_within fuel s y in
    let count = count_at l t u fuel more z low in
    ap (λ (ps : Pairs). split (greater_within (suc fuel) s ps) s ps) e
    ∙ ap (λ (i : ℕ). split i s (su ++ y)) count
    ∙ by_cases (is_above u t)
    (λ k. rw k (ap (λ (i : ℕ). split (i + m) s (su ++ y)) n ∙ split_past su s y m
    ∙ ap (λ (qs : Pairs). su ++ qs) (put_in l t fuel more z (omega arith) low)
    ∙ ap (λ (qs : Pairs). (l, d) ∷ qs) (sym (append_assoc (level_sequence_at (suc l) below) (level_sequence_at l (insert t more)) z))))
    (λ k. rw k (ap (λ (qs : Pairs). s ++ qs) (sym e)
    ∙ ap (λ (qs : Pairs). (l, t.colour) ∷ qs) (sym (append_assoc (level_sequence_at (suc l) t.below) (level_sequence_at l (grow d below more)) z))))

pub first_inserted_is : (l : ℕ) (t : Tree) (f : Forest) (z : Pairs) → IsLow l z
    → first_inserted (sequence_from l t ++ (level_sequence_at l f ++ z)) ≡ level_sequence_at l (insert t f) ++ z
first_inserted_is l t f z low =
    let y = level_sequence_at l f ++ z in
    let ps = sequence_from l t ++ y in
    ap (λ (n : ℕ). moved n (greater_count (take n ps) (drop n ps)) ps) (first_is l t f z low)
    ∙ ap₂ (λ (a b : Pairs). take (greater_count a b) b ++ (a ++ drop (greater_count a b) b)) (take_tree l t y) (drop_tree l t y)
    ∙ put_in l t (length y) f z (omega (arith, length-append (level_sequence_at l f) z, length-level_sequence_at l f)) low

-- ---- the tree of each node put in
pub inserted_sequence : (l : ℕ) (f : Forest) (x : Pairs) → IsLow l (inserted x) → inserted (level_sequence_at l f ++ x) ≡ level_sequence_at l (sorted f) ++ inserted x
inserted_sequence l none x low = refl
inserted_sequence l (grow c kids rest) x low =
    let y = level_sequence_at l rest ++ x in
    let later : inserted y ≡ level_sequence_at l (sorted rest) ++ inserted x = inserted_sequence l rest x low in
    let low_later : IsLow (suc l) (inserted y) = subst (IsLow (suc l)) (sym later) (low_rest l (sorted rest) (inserted x) low) in
    let below : inserted (level_sequence_at (suc l) kids ++ y) ≡ level_sequence_at (suc l) (sorted kids) ++ inserted y = inserted_sequence (suc l) kids y low_later in
    ap (λ (qs : Pairs). first_inserted ((l, c) ∷ inserted qs)) (append_assoc (level_sequence_at (suc l) kids) (level_sequence_at l rest) x)
    ∙ ap (λ (qs : Pairs). first_inserted ((l, c) ∷ qs)) (below ∙ ap (λ (qs : Pairs). level_sequence_at (suc l) (sorted kids) ++ qs) later)
    ∙ first_inserted_is l (record { colour = c; below = sorted kids }) (sorted rest) (inserted x) low

alone : (t : Tree) → level_sequence_at 1 (grow t.colour t.below none) ++ [] ≡ level_sequence t
alone t = append-nil _ ∙ ap (λ (qs : Pairs). (1, t.colour) ∷ qs) (append-nil (level_sequence_at 2 t.below))

pub inserted_is : (t : Tree) → inserted (level_sequence t) ≡ canonical_sequence t
inserted_is t = sym (ap inserted (alone t)) ∙ inserted_sequence 1 (grow t.colour t.below none) [] tt ∙ alone (record { colour = t.colour; below = sorted t.below })

-- ---- levels counted from 1
from_level-sequence : (l m k : ℕ) (f : Forest) → m ≡ l + k → from_level l (level_sequence_at m f) ≡ level_sequence_at (suc k) f
from_level-sequence l m k none e = refl
from_level-sequence l m k (grow c kids rest) e =
    ap₂ (λ (n : ℕ) (qs : Pairs). (suc n, c) ∷ qs) (let d : m - l ≡ k = omega arith in d)
    (map-append (λ (p : ℕ × ℕ). (suc (p.0 - l), p.1)) (level_sequence_at (suc m) kids) (level_sequence_at m rest)
    ∙ ap₂ (λ (xs ys : Pairs). xs ++ ys) (from_level-sequence l (suc m) (suc k) kids (omega arith)) (from_level-sequence l m k rest e))

pub from_level_is : (p : ℕ × ℕ) (ps : Pairs) → IsSubtree (p ∷ ps) → from_level p.0 (p ∷ ps) ≡ level_sequence (subtree_of (p ∷ ps))
from_level_is p ps h =
    ap₂ (λ (n : ℕ) (qs : Pairs). (suc n, p.1) ∷ qs) (let d : p.0 - p.0 ≡ 0 = omega arith in d)
    (ap (from_level p.0) (sym h.shape) ∙ from_level-sequence p.0 (suc p.0) 1 (subtree_of (p ∷ ps)).below (omega arith))
