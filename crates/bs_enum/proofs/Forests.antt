-- The level sequence of a tree decreases place by place exactly where the tree is in its canonical form.
use Rattle.std.proofs.Common.{◌≡◌, ℕ, suc, zero, ◌<◌, ◌≤◌, ◌+◌, ◌⊎◌, inl, inr, List, [], ◌∷◌, ◌++◌, length, Bool, true, false, cond, ◌&&◌, IsTrue, ◌↔◌, refl, ap, ap₂, subst, sym, ◌∙◌, arith, append_assoc, append-nil, leb, eqb}
use Rattle.std.specs.declared.cmp.Ordering.{Ordering}
use Rattle.std.specs.declared.cmp.Ordering.TheVariants.{Less, Equal, Greater}
use Rattle.std.specs.Ordering.{nat_cmp, ordering_then, ordering_reverse, is_gt, is_eq}
use Rattle.std.specs.List.{AllByRecursion}
use Rattle.std.proofs.lemmas.Bool.{and_parts, and_from, le-leb, eq-eqb}
use Rattle.std.proofs.lemmas.Cmp.{tied_itself}
use Rattle.bs_tree.specs.Tree.{Forest, none, grow, Tree, order, nodes, Coloured, IsColoured}
use Rattle.bs_tree.specs.Canonical.{level_sequence, level_sequence_at, sequence_cmp, compare, tree_cmp, is_above, insert, sorted, canonical_sequence, canonical_of}
use Rattle.bs_tree.specs.Code.{tree_of, has_valid_levels, follows, same_code}
use Rattle.bs_tree.specs.OrderLaws.{compare_onto, sequence_total}
use Rattle.bs_tree.specs.SortingLaws.{by_cases, tree_total}
use Rattle.bs_tree.proofs.Canon.{pair_sequence_equal}
use Rattle.bs_tree.specs.SortingLaws.{sorted-sorted}
use Rattle.bs_tree.proofs.Joins.{canonical_sequence-tree_of}
use Rattle.bs_tree.specs.SubtreeLaws.{length-level_sequence_at}
use Rattle.bs_tree.proofs.Levels.{written_again, levels_valid}
use Rattle.bs_tree.specs.SortingLaws.{nodes-sorted}
use Rattle.bs_tree.proofs.CodeOf.{coloured-sorted}
use Rattle.bs_enum.proofs.Lists.{all_append, all_first, all_last}
use Rattle.bs_enum.specs.AllTrees.{is_canonical}
use Rattle.bs_enum.proofs.Orders.{Upto, upto_from, cmp_upto}
use Rattle.bs_enum.proofs.Siblings.{after, Decreases, after_here, after_passes, after_none}
use Rattle.bs_enum.proofs.Steps.{Member}

-- nothing, or a list that begins below this level
abbrev IsLow : ℕ → List (ℕ × ℕ) → Type 0
IsLow l [] = Unit {0}
IsLow l (x ∷ xs) = x.0 < l

low_more : (l : ℕ) (x : List (ℕ × ℕ)) → IsLow l x → IsLow (suc l) x
low_more l [] h = tt
low_more l (p ∷ xs) h = omega arith

low_rest : (l : ℕ) (f : Forest) (x : List (ℕ × ℕ)) → IsLow l x → IsLow (suc l) (level_sequence_at l f ++ x)
low_rest l none x h = low_more l x h
low_rest l (grow c kids rest) x h = omega arith

-- the comparison with a common end is that of the forests
onto : (l : ℕ) (f g : Forest) (x : List (ℕ × ℕ)) → IsLow l x
    → sequence_cmp (level_sequence_at l f ++ x) (level_sequence_at l g ++ x) ≡ ordering_then (compare f g) (sequence_cmp x x)
onto l f g [] h = compare_onto l f g [] [] tt tt
onto l f g (y ∷ ys) h = compare_onto l f g (y ∷ ys) (y ∷ ys) h h

then-equal : (o : Ordering) → ordering_then o Equal ≡ o
then-equal Less = refl
then-equal Equal = refl
then-equal Greater = refl

onto_itself : (l : ℕ) (f g : Forest) (x : List (ℕ × ℕ)) → IsLow l x → sequence_cmp (level_sequence_at l f ++ x) (level_sequence_at l g ++ x) ≡ compare f g
onto_itself l f g x h = onto l f g x h ∙ ap (ordering_then (compare f g)) (tied_itself sequence_total x) ∙ then-equal (compare f g)

-- behind a node's children come its later siblings
after_low : (l : ℕ) (x : List (ℕ × ℕ)) → IsLow (suc l) x → after l x ≡ x
after_low l [] h = refl
after_low l (y ∷ ys) h = after_here l y ys (omega arith)

deep_sequence : (l m : ℕ) (f : Forest) → l < m → AllByRecursion (λ p. l < p.0) (level_sequence_at m f)
deep_sequence l m none h = tt
deep_sequence l m (grow c kids rest) h =
    (h, all_append (λ p. l < p.0) (level_sequence_at (suc m) kids) (level_sequence_at m rest) (deep_sequence l (suc m) kids (omega arith)) (deep_sequence l m rest h))

after_kids : (l : ℕ) (kids rest : Forest) (x : List (ℕ × ℕ)) → IsLow l x
    → after l ((level_sequence_at (suc l) kids ++ level_sequence_at l rest) ++ x) ≡ level_sequence_at l rest ++ x
after_kids l kids rest x h =
    ap (after l) (append_assoc (level_sequence_at (suc l) kids) (level_sequence_at l rest) x)
    ∙ after_passes l (level_sequence_at (suc l) kids) (level_sequence_at l rest ++ x) (after_none l (level_sequence_at (suc l) kids) (deep_sequence l (suc l) kids (omega arith)))
    ∙ after_low l (level_sequence_at l rest ++ x) (low_rest l rest x h)

-- ---- lists of trees in decreasing order, and those of their children
abbrev Ordered : Forest → Type 0
Ordered none = Unit {0}
Ordered (grow c kids rest) = Ordered kids × Ordered rest × (is_gt (compare rest (grow c kids rest)) ≡ false)

-- the first tree is at most t
abbrev HeadUpto : Tree → Forest → Type 0
HeadUpto t none = Unit {0}
HeadUpto t (grow d below more) = is_above (record { colour = d; below = below }) t ≡ false

then_first : (a b : Ordering) → is_gt (ordering_then a b) ≡ false → is_gt a ≡ false
then_first Less b h = refl
then_first Equal b h = refl
then_first Greater b h = h

then_both : (a b : Ordering) → is_gt a ≡ false → is_gt b ≡ false → is_gt (ordering_then a b) ≡ false
then_both Less b h k = refl
then_both Equal b h k = k
then_both Greater b h k = h

gt_back : (o : Ordering) → is_gt o ≡ true → is_gt (ordering_reverse o) ≡ false
gt_back Less h = cc
gt_back Equal h = cc
gt_back Greater h = refl

not_both : (t u : Tree) → is_above t u ≡ true → is_above u t ≡ false
not_both t u h = ap is_gt (tree_total.antisymm u t) ∙ gt_back (tree_cmp t u) h

head_compared : (t : Tree) (f : Forest) → HeadUpto t f → Ordered f → is_gt (compare f (grow t.colour t.below f)) ≡ false
head_compared t none h o = refl
head_compared t (grow d below more) h o = then_both (tree_cmp (record { colour = d; below = below }) t) (compare more (grow d below more)) h o.2

head_of : (t : Tree) (f : Forest) → is_gt (compare f (grow t.colour t.below f)) ≡ false → HeadUpto t f
head_of t none h = tt
head_of t (grow d below more) h = then_first (tree_cmp (record { colour = d; below = below }) t) (compare more (grow d below more)) h

insert_head : (t u : Tree) (f : Forest) → HeadUpto u f → is_above t u ≡ false → HeadUpto u (insert t f)
insert_head t u none h k = k
insert_head t u (grow d below more) h k = by_cases (is_above (record { colour = d; below = below }) t) (λ e. rw e h) (λ e. rw e k)

insert_ordered : (t : Tree) (f : Forest) → Ordered t.below → Ordered f → Ordered (insert t f)
insert_ordered t none h o = (h, tt, refl)
insert_ordered t (grow d below more) h o =
    let u : Tree = record { colour = d; below = below } in
    let later = insert_ordered t more h o.1 in
    by_cases (is_above u t)
    (λ e. rw e (o.0, later, head_compared u (insert t more) (insert_head t u more (head_of u more o.2) (not_both u t e)) later))
    (λ e. rw e (h, o, head_compared t (grow d below more) e o))

ordered_sorted : (f : Forest) → Ordered (sorted f)
ordered_sorted none = tt
ordered_sorted (grow c kids rest) = insert_ordered (record { colour = c; below = sorted kids }) (sorted rest) (ordered_sorted kids) (ordered_sorted rest)

insert_first : (t : Tree) (f : Forest) → HeadUpto t f → insert t f ≡ grow t.colour t.below f
insert_first t none h = refl
insert_first t (grow d below more) h = rw h refl

-- ---- from trees to places
decreases : (k l last : ℕ) (f : Forest) (x : List (ℕ × ℕ)) → 2 ≤ l → l ≤ suc last → Ordered f → Coloured k f → IsLow l x → ((v : ℕ) → l ≤ suc v → Decreases k v x)
    → Decreases k last (level_sequence_at l f ++ x)
decreases k l last none x n m o c h d = d last m
decreases k l last (grow a kids rest) x n m o c h d =
    let rest_upto : Upto (level_sequence_at l rest ++ x) (level_sequence_at l (grow a kids rest) ++ x) =
    upto_from (level_sequence_at l rest ++ x) (level_sequence_at l (grow a kids rest) ++ x) (ap is_gt (onto_itself l rest (grow a kids rest) x h) ∙ o.2)
    in
    let later : (v : ℕ) → suc l ≤ suc v → Decreases k v (level_sequence_at l rest ++ x) = λ v e. decreases k l v rest x n (omega arith) o.1 c.2 h d in (
      n,
      m,
      c.0,
      subst (λ (w : List (ℕ × ℕ)). Upto w (level_sequence_at l (grow a kids rest) ++ x)) (sym (after_kids l kids rest x h)) rest_upto,
      subst (Decreases k l) (sym (append_assoc (level_sequence_at (suc l) kids) (level_sequence_at l rest) x))
          (decreases k (suc l) l kids (level_sequence_at l rest ++ x) (omega arith) (omega arith) o.0 c.1 (low_rest l rest x h) later),
    )

member_ordered : (k : ℕ) (t : Tree) → Ordered t.below → IsColoured k t → Member k (level_sequence t)
member_ordered k t o c =
    (refl, c.0, subst (Decreases k 1) (append-nil (level_sequence_at 2 t.below)) (decreases k 2 1 t.below [] (omega arith) (omega arith) o c.1 tt (λ _ _. tt)))

pub member_canonical : (k : ℕ) (t : Tree) → IsColoured k t → Member k (canonical_sequence t)
member_canonical k t c = member_ordered k (canonical_of t) (ordered_sorted t.below) (c.0, coloured-sorted k t.below c.1)

-- ---- from places to trees
record IsOrdered (k : ℕ) (f : Forest) (x : List (ℕ × ℕ)) : Type 0 where
  fixed : sorted f ≡ f
  coloured : Coloured k f
  last : ℕ
  behind : Decreases k last x

ordered : (k l last : ℕ) (f : Forest) (x : List (ℕ × ℕ)) → IsLow l x → Decreases k last (level_sequence_at l f ++ x) → IsOrdered k f x
ordered k l last none x h d = record { fixed = refl; coloured = tt; last = last; behind = d }
ordered k l last (grow c kids rest) x h d =
    let t : Tree = record { colour = c; below = kids } in
    let inner = subst (Decreases k l) (append_assoc (level_sequence_at (suc l) kids) (level_sequence_at l rest) x) d.4 in
    let a : IsOrdered k kids (level_sequence_at l rest ++ x) = ordered k (suc l) l kids (level_sequence_at l rest ++ x) (low_rest l rest x h) inner in
    let b : IsOrdered k rest x = ordered k l a.last rest x h a.behind in
    let small : Upto (level_sequence_at l rest ++ x) (level_sequence_at l (grow c kids rest) ++ x) =
    subst (λ (w : List (ℕ × ℕ)). Upto w (level_sequence_at l (grow c kids rest) ++ x)) (after_kids l kids rest x h) d.3
    in
    let head : HeadUpto t rest =
    head_of t rest (ap is_gt (sym (onto_itself l rest (grow c kids rest) x h)) ∙ cmp_upto (level_sequence_at l rest ++ x) (level_sequence_at l (grow c kids rest) ++ x) small)
    in
    record {
      fixed = ap₂ (λ (f g : Forest). insert (record { colour = c; below = f }) g) a.fixed b.fixed ∙ insert_first t rest head;
      coloured = (d.2, a.coloured, b.coloured);
      last = b.last;
      behind = b.behind;
    }

decreases_follows : (k last : ℕ) (xs : List (ℕ × ℕ)) → Decreases k last xs → follows last xs ≡ true
decreases_follows k last [] h = refl
decreases_follows k last (x ∷ xs) h =
    and_from (leb 2 x.0) _ (le-leb 2 x.0 h.0) (and_from (leb x.0 (suc last)) _ (le-leb x.0 (suc last) h.1) (decreases_follows k x.0 xs h.4))

member_valid : (k : ℕ) (s : List (ℕ × ℕ)) → Member k s → has_valid_levels s ≡ true
member_valid k [] h = absurd h
member_valid k (r ∷ rest) h = and_from (eqb r.0 1) _ (eq-eqb r.0 1 h.0) (decreases_follows k 1 rest h.2)

-- what a member is the canonical sequence of
pub record IsOfTree (k : ℕ) (s : List (ℕ × ℕ)) (t : Tree) : Type 0 where
  pub canonical : canonical_sequence t ≡ s
  pub coloured : IsColoured k t
  pub order_is : order t ≡ length s

member_written : (k : ℕ) (t : Tree) → Member k (level_sequence t) → IsOfTree k (level_sequence t) t
member_written k t h =
    let o : IsOrdered k t.below [] = ordered k 2 1 t.below [] tt (subst (Decreases k 1) (sym (append-nil (level_sequence_at 2 t.below))) h.2) in
    record {
      canonical = ap (λ (f : Forest). let u : Tree = record { colour = t.colour; below = f } in level_sequence u) o.fixed;
      coloured = (h.1, o.coloured);
      order_is = ap suc (sym (length-level_sequence_at 2 t.below));
    }

pub member_tree : (k : ℕ) (s : List (ℕ × ℕ)) → Member k s → IsOfTree k s (tree_of s)
member_tree k s h =
    let e = written_again s (member_valid k s h) in
    subst (λ (w : List (ℕ × ℕ)). IsOfTree k w (tree_of s)) e (member_written k (tree_of s) (subst (Member k) (sym e) h))

-- ---- the test
eq_equal : (o : Ordering) → is_eq o ≡ true → o ≡ Equal
eq_equal Less h = cc
eq_equal Equal h = refl
eq_equal Greater h = cc

pub canonical_from : (s : List (ℕ × ℕ)) → is_canonical s ≡ true → canonical_sequence (tree_of s) ≡ s
canonical_from s h =
    let p = and_parts (has_valid_levels s) (same_code (canonical_sequence (tree_of s)) s) h in
    pair_sequence_equal (canonical_sequence (tree_of s)) s (eq_equal (sequence_cmp (canonical_sequence (tree_of s)) s) p.1)

pub canonical_to : (t : Tree) (s : List (ℕ × ℕ)) → canonical_sequence t ≡ s → is_canonical s ≡ true
canonical_to t s e =
    let valid : has_valid_levels s ≡ true = subst (λ (w : List (ℕ × ℕ)). has_valid_levels w ≡ true) e (levels_valid (canonical_of t)) in
    let fixed : canonical_sequence (tree_of s) ≡ s = subst (λ (w : List (ℕ × ℕ)). canonical_sequence (tree_of w) ≡ w) e (canonical_sequence-tree_of t) in
    and_from (has_valid_levels s) _ valid (subst (λ (w : List (ℕ × ℕ)). same_code w s ≡ true) (sym fixed) (ap is_eq (tied_itself sequence_total s)))

-- colours of a level sequence are those of the tree
coloured_from : (k l : ℕ) (f : Forest) → AllByRecursion (λ p. p.1 < k) (level_sequence_at l f) → Coloured k f
coloured_from k l none h = tt
coloured_from k l (grow c kids rest) h = (
  h.0,
  coloured_from k (suc l) kids (all_first (λ p. p.1 < k) (level_sequence_at (suc l) kids) (level_sequence_at l rest) h.1),
  coloured_from k l rest (all_last (λ p. p.1 < k) (level_sequence_at (suc l) kids) (level_sequence_at l rest) h.1),
)

coloured_sequence : (k : ℕ) (t : Tree) → AllByRecursion (λ p. p.1 < k) (level_sequence t) → IsColoured k t
coloured_sequence k t h = (h.0, coloured_from k 2 t.below h.1)

-- the members are the canonical sequences with these colours
pub member_from : (k : ℕ) (s : List (ℕ × ℕ)) → is_canonical s ≡ true → AllByRecursion (λ p. p.1 < k) s → Member k s
member_from k s h c =
    let e = canonical_from s h in
    let t = canonical_of (tree_of s) in
    subst (Member k) e (member_ordered k t (ordered_sorted (tree_of s).below) (coloured_sequence k t (subst (AllByRecursion (λ p. p.1 < k)) (sym e) c)))

pub member_is_canonical : (k : ℕ) (s : List (ℕ × ℕ)) → Member k s → is_canonical s ≡ true
member_is_canonical k s h = let m = member_tree k s h in canonical_to (tree_of s) s m.canonical
