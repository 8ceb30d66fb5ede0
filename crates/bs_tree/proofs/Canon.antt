-- The canonical sequence is the greatest, and tells trees apart.
use Rattle.std.proofs.Common.{◌≡◌, ℕ, List, [], ◌∷◌, Bool, true, false, ◌&&◌, refl, ap, ap₂, subst, sym, ◌∙◌, arith, eqb, IsTrue}
use Rattle.std.specs.declared.cmp.Ordering.{Ordering}
use Rattle.std.specs.declared.cmp.Ordering.TheVariants.{Less, Equal, Greater}
use Rattle.std.specs.Ordering.{nat_cmp, ordering_then, ordering_reverse, is_gt, is_le}
use Rattle.std.proofs.lemmas.Cmp.{tied_itself, nat_cmp_total}
use Rattle.std.proofs.lemmas.Bool.Decides.{nat_tests}
use Rattle.bs_tree.specs.Tree.{Forest, none, grow, Tree}
use Rattle.bs_tree.specs.Canonical.{level_sequence, level_sequence_at}
use Rattle.bs_tree.specs.Canonical.{tree_cmp, sorted, canonical_sequence, IsCanonicalSequence, compare, sequence_cmp}
use Rattle.bs_tree.specs.Isomorphic.{isomorphic}
use Rattle.bs_tree.specs.OrderLaws.{compare_is, same_from_compare, sequence_total, then-equal_both, nat_cmp-equal}
use Rattle.bs_tree.specs.SortingLaws.{upto_sorted, sorted-sorted, IsUpto, same_tree}
use Rattle.bs_tree.proofs.Isomorphic.{sorted_from_isomorphic, isomorphic_from_sorted}

-- ---- isomorphic trees
eqb_same : (a b : ℕ) → eqb a b ≡ true → a ≡ b
eqb_same a b h = grind (arith, nat_tests)

eqb_refl : (a : ℕ) → eqb a a ≡ true
eqb_refl a = grind (arith, nat_tests)

and_both : (a b : Bool) → (a && b) ≡ true → (a ≡ true) × (b ≡ true)
and_both true b h = (refl, h)
and_both false b h = cc

pub record IsAlike (t u : Tree) : Type 0 where
  pub colours : t.colour ≡ u.colour
  pub lists : sorted t.below ≡ sorted u.below

pub alike : (t u : Tree) → isomorphic t u ≡ true → IsAlike t u
alike t u h =
    let b = and_both _ _ h in
    record { colours = eqb_same _ _ b.0; lists = sorted_from_isomorphic t.below u.below b.1 }

pub isomorphic_from : (t u : Tree) → IsAlike t u → isomorphic t u ≡ true
isomorphic_from t u a =
    let e = isomorphic_from_sorted t.below u.below a.lists in
    rw (e, a.colours, eqb_refl u.colour) refl

pub isomorphic_refl : (t : Tree) → isomorphic t t ≡ true
isomorphic_refl t = isomorphic_from t t (record { colours = refl; lists = refl })

pub isomorphic_sym : (t u : Tree) → isomorphic t u ≡ true → isomorphic u t ≡ true
isomorphic_sym t u h = let a = alike t u h in isomorphic_from u t (record { colours = sym a.colours; lists = sym a.lists })

pub isomorphic_trans : (t u v : Tree) → isomorphic t u ≡ true → isomorphic u v ≡ true → isomorphic t v ≡ true
isomorphic_trans t u v h k =
    let a = alike t u h in
    let b = alike u v k in
    isomorphic_from t v (record { colours = a.colours ∙ b.colours; lists = a.lists ∙ b.lists })

-- ---- sequences
pub sequence_cmp-level_sequence : (t u : Tree) → sequence_cmp (level_sequence t) (level_sequence u) ≡ tree_cmp t u
sequence_cmp-level_sequence t u = ap (ordering_then (nat_cmp t.colour u.colour)) (compare_is 2 t.below u.below)

pub same_from_sequence : (l : ℕ) (f g : Forest) → level_sequence_at l f ≡ level_sequence_at l g → f ≡ g
same_from_sequence l f g h =
    same_from_compare f g (sym (compare_is l f g) ∙ ap (sequence_cmp (level_sequence_at l f)) (sym h) ∙ tied_itself sequence_total (level_sequence_at l f))

le_from_gt : (o : Ordering) → is_gt o ≡ false → is_le o ≡ true
le_from_gt Less h = refl
le_from_gt Equal h = refl
le_from_gt Greater h = cc

pub canon_is : (t : Tree) → IsCanonicalSequence t (canonical_sequence t)
unfolding IsUpto
canon_is t =
    let s : Tree = record { colour = t.colour; below = sorted t.below } in
    record {
      reached = (s, isomorphic_from t s (record { colours = refl; lists = sym (sorted-sorted t.below) }), refl);
      greatest = λ u h.
          let a = alike t u h in
          let up : is_gt (compare u.below (sorted t.below)) ≡ false = ap (λ x. is_gt (compare u.below x)) a.lists ∙ upto_sorted u.below in
          let same : nat_cmp u.colour t.colour ≡ Equal = ap (λ n. nat_cmp n t.colour) (sym a.colours) ∙ tied_itself nat_cmp_total t.colour in
          le_from_gt _ (ap is_gt (sequence_cmp-level_sequence u s) ∙ rw same up);
    }

-- ---- the law: isomorphic exactly where the canonical sequences are equal
below_both : (o : Ordering) → is_le o ≡ true → is_le (ordering_reverse o) ≡ true → o ≡ Equal
below_both Less h k = cc
below_both Equal h k = refl
below_both Greater h k = cc

pub same_tree_from_sequence : (t u : Tree) → level_sequence t ≡ level_sequence u → t ≡ u
same_tree_from_sequence t u h = same_tree t u (sym (sequence_cmp-level_sequence t u) ∙ ap (sequence_cmp (level_sequence t)) (sym h) ∙ tied_itself sequence_total (level_sequence t))

pub isomorphic_from_canon : (t u : Tree) (s r : List (ℕ × ℕ)) → IsCanonicalSequence t s → IsCanonicalSequence u r → s ≡ r → IsTrue (isomorphic t u)
isomorphic_from_canon t u s r a b e =
    let v : Tree = a.reached.0 in
    let w : Tree = b.reached.0 in
    let vw : v ≡ w = same_tree_from_sequence v w (a.reached.2 ∙ e ∙ sym b.reached.2) in
    let tw : isomorphic t w ≡ true = subst (λ (x : Tree). isomorphic t x ≡ true) vw a.reached.1 in
    isomorphic_trans t w u tw (isomorphic_sym u w b.reached.1)

pub pair_sequence_equal : (s r : List (ℕ × ℕ)) → sequence_cmp s r ≡ Equal → s ≡ r
pair_sequence_equal [] [] h = refl
pair_sequence_equal [] (y ∷ ys) h = cc
pair_sequence_equal (x ∷ xs) [] h = cc
pair_sequence_equal (x ∷ xs) (y ∷ ys) h =
    let a = then-equal_both _ _ h in
    let b = then-equal_both _ _ a.0 in
    let e0 = nat_cmp-equal x.0 y.0 b.0 in
    let e1 = nat_cmp-equal x.1 y.1 b.1 in
    let ih = pair_sequence_equal xs ys a.1 in
    ap₂ (λ (p : ℕ × ℕ) (ps : List (ℕ × ℕ)). p ∷ ps) (ap₂ (λ (m n : ℕ). let p : ℕ × ℕ = (m, n) in p) e0 e1) ih

pub canon_from_isomorphic : (t u : Tree) (s r : List (ℕ × ℕ)) → IsCanonicalSequence t s → IsCanonicalSequence u r → IsTrue (isomorphic t u) → s ≡ r
canon_from_isomorphic t u s r a b h =
    let v : Tree = a.reached.0 in
    let w : Tree = b.reached.0 in
    let uv : isomorphic u v ≡ true = isomorphic_trans u t v (isomorphic_sym t u h) a.reached.1 in
    let tw : isomorphic t w ≡ true = isomorphic_trans t u w h b.reached.1 in
    let p : is_le (sequence_cmp s r) ≡ true = subst (λ (x : List (ℕ × ℕ)). is_le (sequence_cmp x r) ≡ true) a.reached.2 (b.greatest v uv) in
    let q : is_le (sequence_cmp r s) ≡ true = subst (λ (x : List (ℕ × ℕ)). is_le (sequence_cmp x s) ≡ true) b.reached.2 (a.greatest w tw) in
    pair_sequence_equal s r (below_both _ p (ap is_le (sym (sequence_total.antisymm r s)) ∙ q))

-- there is one canonical sequence
pub canon_only : (t : Tree) (s : List (ℕ × ℕ)) → IsCanonicalSequence t s → s ≡ canonical_sequence t
canon_only t s a = canon_from_isomorphic t t s (canonical_sequence t) a (canon_is t) (isomorphic_refl t)

-- a tree is isomorphic to its canonical form
pub isomorphic_canonical : (t : Tree) → isomorphic t (record { colour = t.colour; below = sorted t.below }) ≡ true
isomorphic_canonical t = isomorphic_from t (record { colour = t.colour; below = sorted t.below }) (record { colours = refl; lists = sym (sorted-sorted t.below) })

-- examples, computed
leaf_of : ℕ → Tree
leaf_of c = record { colour = c; below = none }

cherry : canonical_sequence (record { colour = 0; below = grow 0 none (grow 1 (grow 0 none none) (grow 0 none none)) }) ≡ ((1, 0) ∷ (2, 1) ∷ (3, 0) ∷ (2, 0) ∷ (2, 0) ∷ [])
cherry = refl

swapped : isomorphic (record { colour = 0; below = grow 0 none (grow 1 none none) }) (record { colour = 0; below = grow 1 none (grow 0 none none) }) ≡ true
swapped = refl

other_colours : isomorphic (record { colour = 0; below = grow 0 none (grow 1 none none) }) (record { colour = 0; below = grow 1 none (grow 1 none none) }) ≡ false
other_colours = refl
