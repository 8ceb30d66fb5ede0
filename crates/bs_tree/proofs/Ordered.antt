-- Lists of trees in which the children of each node stand in decreasing order.
use Rattle.std.proofs.Common.{◌≡◌, ℕ, true, false, refl, ap, ap₂, sym, ◌∙◌}
use Rattle.std.specs.declared.cmp.Ordering.{Ordering}
use Rattle.std.specs.declared.cmp.Ordering.TheVariants.{Less, Equal, Greater}
use Rattle.std.specs.Ordering.{is_gt}
use Rattle.std.proofs.lemmas.Cmp.{tied_itself}
use Rattle.bs_tree.specs.Tree.{Forest, none, grow, Tree}
use Rattle.bs_tree.specs.Isomorphic.{isomorphic}
use Rattle.bs_tree.specs.Canonical.{tree_cmp, is_above, insert, sorted}
use Rattle.bs_tree.specs.Numbers.{count_alike}
use Rattle.bs_tree.specs.SortingLaws.{by_cases, not_both, tree_total}
use Rattle.bs_tree.proofs.Canon.{alike}

-- the first tree of the list, if there is one, is not above this one
abbrev pub IsLast : Tree → Forest → Type 0
IsLast t none = Unit {0}
IsLast t (grow d below more) = is_above (record { colour = d; below = below }) t ≡ false

abbrev pub IsOrdered : Forest → Type 0
IsOrdered none = Unit {0}
IsOrdered (grow c kids rest) = IsOrdered kids × IsLast (record { colour = c; below = kids }) rest × IsOrdered rest

last_insert : (u t : Tree) (f : Forest) → is_above t u ≡ false → IsLast u f → IsLast u (insert t f)
last_insert u t none h k = h
last_insert u t (grow d below more) h k =
    by_cases (is_above (record { colour = d; below = below }) t) (λ e. rw e k) (λ e. rw e h)

ordered-insert : (t : Tree) (f : Forest) → IsOrdered t.below → IsOrdered f → IsOrdered (insert t f)
ordered-insert t none a h = (a, tt, tt)
ordered-insert t (grow d below more) a h =
    let u : Tree = record { colour = d; below = below } in
    by_cases (is_above u t)
    (λ e. rw e (h.0, last_insert u t more (not_both u t e) h.1, ordered-insert t more a h.2))
    (λ e. rw e (a, e, h))

pub ordered-sorted : (f : Forest) → IsOrdered (sorted f)
ordered-sorted none = tt
ordered-sorted (grow c kids rest) = ordered-insert (record { colour = c; below = sorted kids }) (sorted rest) (ordered-sorted kids) (ordered-sorted rest)

insert_first : (t : Tree) (f : Forest) → IsLast t f → insert t f ≡ grow t.colour t.below f
insert_first t none h = refl
insert_first t (grow d below more) h = rw h refl

pub sorted-ordered : (f : Forest) → IsOrdered f → sorted f ≡ f
sorted-ordered none h = refl
sorted-ordered (grow c kids rest) h =
    ap₂ (λ (k r : Forest). let t : Tree = record { colour = c; below = k } in insert t r) (sorted-ordered kids h.0) (sorted-ordered rest h.2)
    ∙ insert_first (record { colour = c; below = kids }) rest h.1

-- ---- trees below one
abbrev pub IsBelow : Tree → Forest → Type 0
IsBelow t none = Unit {0}
IsBelow t (grow d below more) = tree_cmp (record { colour = d; below = below }) t ≡ Less

less_by : (v u t : Tree) (o : Ordering) → tree_cmp v u ≡ o → is_gt o ≡ false → tree_cmp u t ≡ Less → tree_cmp v t ≡ Less
less_by v u t Less e h k = tree_total.trans v u t e k
less_by v u t Equal e h k = tree_total.congr v u t e ∙ k
less_by v u t Greater e h k = cc

below_more : (t u : Tree) (f : Forest) → tree_cmp u t ≡ Less → IsLast u f → IsBelow t f
below_more t u none h k = tt
below_more t u (grow d below more) h k = let v : Tree = record { colour = d; below = below } in less_by v u t (tree_cmp v u) refl k h

-- trees in order that are isomorphic are equal
alike_same : (t u : Tree) → IsOrdered t.below → IsOrdered u.below → isomorphic t u ≡ true → t ≡ u
alike_same t u h k e =
    let a = alike t u e in
    ap₂ (λ (n : ℕ) (f : Forest). let v : Tree = record { colour = n; below = f } in v) a.colours (sym (sorted-ordered t.below h) ∙ a.lists ∙ sorted-ordered u.below k)

below_unlike : (t u : Tree) → IsOrdered t.below → IsOrdered u.below → tree_cmp u t ≡ Less → isomorphic t u ≡ false
below_unlike t u h k e =
    by_cases (isomorphic t u)
    (λ y. let z : tree_cmp u t ≡ Equal = ap (tree_cmp u) (alike_same t u h k y) ∙ tied_itself tree_total u in cc)
    (λ n. n)

pub count_below : (t : Tree) (f : Forest) → IsOrdered t.below → IsOrdered f → IsBelow t f → count_alike t f ≡ 0
count_below t none a h k = refl
count_below t (grow d below more) a h k =
    let u : Tree = record { colour = d; below = below } in
    rw (below_unlike t u a h.0 k) (count_below t more a h.2 (below_more t u more k h.1))
