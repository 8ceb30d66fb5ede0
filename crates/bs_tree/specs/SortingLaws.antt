-- The canonical form is the greatest, and the same for isomorphic trees.
use Rattle.std.proofs.Common.{◌≡◌, ℕ, suc, ◌+◌, List, [], ◌∷◌, ◌++◌, map, arith, Bool, true, false, cond, refl, ap, ap₂, subst, sym, ◌∙◌}
use Rattle.std.specs.declared.cmp.Ordering.{Ordering}
use Rattle.std.specs.declared.cmp.Ordering.TheVariants.{Less, Equal, Greater}
use Rattle.std.specs.Ordering.{ordering_then, ordering_reverse, is_gt, is_eq}
use Rattle.std.specs.Cmp.{IsTotalOrder}
use Rattle.std.proofs.lemmas.Cmp.{nat_cmp_total, tied_itself, on_total, then_total, upto}
use Rattle.bs_tree.specs.Tree.{Forest, none, grow, Tree, nodes, order, forest}
use Rattle.bs_tree.specs.Canonical.{compare, tree_cmp, is_above, insert, sorted, canonical_of}
use Rattle.bs_tree.specs.OrderLaws.{compare_total, same_from_compare, then-equal_both, nat_cmp-equal}

pub tree_total : IsTotalOrder tree_cmp
tree_total = then_total (on_total (λ (t : Tree). t.colour) nat_cmp_total) (on_total (λ (t : Tree). t.below) compare_total)

pub same_tree : (t u : Tree) → tree_cmp t u ≡ Equal → t ≡ u
same_tree t u h =
    let e = then-equal_both _ _ h in
    let c = nat_cmp-equal t.colour u.colour e.0 in
    let f = same_from_compare t.below u.below e.1 in
    ap₂ (λ (n : ℕ) (g : Forest). let v : Tree = record { colour = n; below = g } in v) c f

pub by_cases : {G : Type 0} (b : Bool) → (b ≡ true → G) → (b ≡ false → G) → G
by_cases true p q = p refl
by_cases false p q = q refl

gt_greater : (o : Ordering) → is_gt o ≡ true → o ≡ Greater
gt_greater Less h = cc
gt_greater Equal h = cc
gt_greater Greater h = refl

neither : (o : Ordering) → is_gt o ≡ false → is_gt (ordering_reverse o) ≡ false → o ≡ Equal
neither Less h k = cc
neither Equal h k = refl
neither Greater h k = cc

below_less : (t u : Tree) → is_above t u ≡ true → tree_cmp u t ≡ Less
below_less t u h = tree_total.antisymm u t ∙ ap ordering_reverse (gt_greater _ h)

-- no two trees are each above the other
pub not_both : (t u : Tree) → is_above t u ≡ true → is_above u t ≡ false
not_both t u h = ap is_gt (below_less t u h)

same_from_neither : (t u : Tree) → is_above t u ≡ false → is_above u t ≡ false → t ≡ u
same_from_neither t u h k = same_tree t u (neither _ h (ap is_gt (sym (tree_total.antisymm u t)) ∙ k))

above_by : (v t u : Tree) → is_above v t ≡ true → is_above v u ≡ false → is_above u t ≡ true
above_by v t u h k =
    by_cases (is_above u t) (λ e. e) (λ e.
    let w : is_above v t ≡ false = upto tree_total v u t k e in cc)

unfoldable pub IsUpto : Forest → Forest → Type 0
IsUpto f g = is_gt (compare f g) ≡ false

pub upto_refl : (f : Forest) → IsUpto f f
unfolding IsUpto
upto_refl f = ap is_gt (tied_itself compare_total f)

pub upto_trans : (f g h : Forest) → IsUpto f g → IsUpto g h → IsUpto f h
unfolding IsUpto
upto_trans f g h p q = upto compare_total f g h p q

gt_then : (a b a' b' : Ordering) → is_gt (ordering_then a b) ≡ false → is_gt a ≡ false
gt_then Less b a' b' h = refl
gt_then Equal b a' b' h = refl
gt_then Greater b a' b' h = cc

then_upto : (a b : Ordering) → is_gt a ≡ false → is_gt b ≡ false → is_gt (ordering_then a b) ≡ false
then_upto Less b h k = refl
then_upto Equal b h k = k
then_upto Greater b h k = cc

pub grow_upto : (c : ℕ) (kids kids' rest rest' : Forest) → IsUpto kids kids' → IsUpto rest rest' → IsUpto (grow c kids rest) (grow c kids' rest')
unfolding IsUpto
grow_upto c kids kids' rest rest' h k =
    rw (tied_itself nat_cmp_total c) (then_upto (compare kids kids') (compare rest rest') h k)

-- a tree that goes behind greater ones gives a list that is no smaller
pub upto_insert : (t : Tree) (f : Forest) → IsUpto (grow t.colour t.below f) (insert t f)
unfolding IsUpto
upto_insert t none = upto_refl (grow t.colour t.below none)
upto_insert t (grow d below more) =
    let u : Tree = record { colour = d; below = below } in
    by_cases (is_above u t)
    (λ e. rw (e, below_less u t e) refl)
    (λ e. rw e (upto_refl (grow t.colour t.below (grow d below more))))

pub upto_sorted : (f : Forest) → IsUpto f (sorted f)
upto_sorted none = upto_refl none
upto_sorted (grow c kids rest) =
    upto_trans (grow c kids rest) (grow c (sorted kids) (sorted rest)) (sorted (grow c kids rest))
    (grow_upto c kids (sorted kids) rest (sorted rest) (upto_sorted kids) (upto_sorted rest))
    (upto_insert (record { colour = c; below = sorted kids }) (sorted rest))

-- the order in which two trees are put in does not matter
pub insert_comm : (t u : Tree) (f : Forest) → insert t (insert u f) ≡ insert u (insert t f)
insert_comm t u none =
    by_cases (is_above u t)
    (λ e. rw (e, not_both u t e) refl)
    (λ e. by_cases (is_above t u)
    (λ k. rw (e, k) refl)
    (λ k. rw (same_from_neither t u k e) refl))
insert_comm t u (grow d below more) =
    let v : Tree = record { colour = d; below = below } in
    by_cases (is_above v t)
    (λ vt. by_cases (is_above v u)
    (λ vu. simp (vt, vu) (ap (grow d below) (insert_comm t u more)))
    (λ vu. let ut = above_by v t u vt vu in simp (vt, vu, ut)))
    (λ vt. by_cases (is_above v u)
    (λ vu. let tu = above_by v u t vu vt in simp (vt, vu, tu))
    (λ vu. by_cases (is_above u t)
    (λ ut. let tu = not_both u t ut in simp (vt, vu, ut, tu))
    (λ ut. by_cases (is_above t u)
    (λ tu. simp (vt, vu, ut, tu))
    (λ tu. let P : Tree → Type 0 = λ w. insert t (insert w (grow d below more)) ≡ insert w (insert t (grow d below more)) in subst P (same_from_neither t u tu ut) refl))))

-- ---- trees that are one as multisets have one canonical form
-- without the first tree that equals t
abbrev without : Tree → Forest → Forest
without t none = none
without t (grow d below more) =
    cond (is_eq (tree_cmp (record { colour = d; below = below }) t)) more (grow d below (without t more))

without-insert : (t : Tree) (f : Forest) → without t (insert t f) ≡ f
without-insert t none = rw (tied_itself tree_total t) refl
without-insert t (grow d below more) =
    let v : Tree = record { colour = d; below = below } in
    by_cases (is_above v t)
    (λ e. let g : tree_cmp v t ≡ Greater = gt_greater _ e in let ih = without-insert t more in simp (e, g, ih))
    (λ e. let g : tree_cmp t t ≡ Equal = tied_itself tree_total t in simp (e, g))

pub insert_inj : (t : Tree) (f g : Forest) → insert t f ≡ insert t g → f ≡ g
insert_inj t f g h = sym (without-insert t f) ∙ ap (without t) h ∙ without-insert t g

-- ---- the canonical form is its own canonical form
sorted-insert : (t : Tree) (f : Forest) → sorted (insert t f) ≡ insert (canonical_of t) (sorted f)
sorted-insert t none = refl
sorted-insert t (grow d below more) =
    by_cases (is_above (record { colour = d; below = below }) t)
    (λ e. rw e (ap (insert (record { colour = d; below = sorted below })) (sorted-insert t more) ∙ insert_comm (record { colour = d; below = sorted below }) (canonical_of t) (sorted more)))
    (λ e. rw e refl)

pub sorted-sorted : (f : Forest) → sorted (sorted f) ≡ sorted f
sorted-sorted none = refl
sorted-sorted (grow c kids rest) =
    sorted-insert (record { colour = c; below = sorted kids }) (sorted rest)
    ∙ ap₂ (λ (x y : Forest). let v : Tree = record { colour = c; below = x } in insert v y) (sorted-sorted kids) (sorted-sorted rest)

abbrev pub IsCanonical : Tree → Type 0
IsCanonical t = canonical_of t ≡ t

pub canonical_twice : (t : Tree) → IsCanonical (canonical_of t)
canonical_twice t = ap (λ (f : Forest). let u : Tree = record { colour = t.colour; below = f } in u) (sorted-sorted t.below)

-- ---- the number of nodes
nodes-insert : (t : Tree) (f : Forest) → nodes (insert t f) ≡ order t + nodes f
nodes-insert t none = refl
nodes-insert t (grow d below more) =
    by_cases (is_above (record { colour = d; below = below }) t)
    (λ e. rw e (ap (λ (i : ℕ). suc (nodes below) + i) (nodes-insert t more) ∙ omega arith))
    (λ e. rw e refl)

pub nodes-sorted : (f : Forest) → nodes (sorted f) ≡ nodes f
nodes-sorted none = refl
nodes-sorted (grow c kids rest) =
    nodes-insert (record { colour = c; below = sorted kids }) (sorted rest) ∙ ap₂ (λ (i j : ℕ). suc i + j) (nodes-sorted kids) (nodes-sorted rest)

pub order-canonical_of : (t : Tree) → order (canonical_of t) ≡ order t
order-canonical_of t = ap suc (nodes-sorted t.below)

pub nodes-append : (ts us : List Tree) → nodes (forest (ts ++ us)) ≡ nodes (forest ts) + nodes (forest us)
nodes-append [] us = omega arith
nodes-append (t ∷ ts) us = omega (arith, nodes-append ts us)

pub nodes-canonical_of : (ts : List Tree) → nodes (forest (map canonical_of ts)) ≡ nodes (forest ts)
nodes-canonical_of [] = refl
nodes-canonical_of (t ∷ ts) = omega (arith, order-canonical_of t, nodes-canonical_of ts)
