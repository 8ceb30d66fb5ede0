-- A relation that the operations keep is kept by every series.
use Rattle.std.proofs.Common.{ℕ, suc, zero, ◌∙◌, Option, Some, None, replicate, arith}
use Rattle.bs_frac.specs.Fraction.{IsReduced, whole}
use Rattle.bs_frac.specs.Written.{Arithmetic}
use Rattle.bs_tree.specs.Tree.{Forest, none, grow, Tree, order}
use Rattle.bs_tree.specs.Numbers.{density}
use Rattle.bs_split.specs.Splitting.{Split, splits, init}
use Rattle.bs_part.specs.Partition.{Part, parts, leaf, tail}
use Rattle.bs_series.specs.Series.{Series, exact, identity, method, compose, inverse, adjoint, average, substitute, modified, modifying, scale, empty_value}
use Rattle.bs_series.specs.Value.{within, at_kept, split_term, part_term, inverse_step, inverse_of, signed_by, solved_step, exact_value, average_values, arity, valued}
use Rattle.bs_frac.proofs.Products.{zero_reduced, one_reduced}
use Rattle.bs_series.proofs.Solved.{exact_fraction}
use Rattle.std.specs.List.{fold}
use Rattle.bs_frac.specs.Written.{Keeps}
use Rattle.bs_frac.proofs.WrittenSums.{keeps_fold_map}
use Rattle.bs_frac.proofs.GcdLaws.{gcd-one, gcd-swap}
use Rattle.bs_series.specs.Laws.{HasReducedFactors}

exact_reduced : (t : Tree) → IsReduced (exact_value t)
exact_reduced t = record { positive = exact_fraction t; coprime = gcd-one (density t) }

whole_reduced : (n : ℕ) → IsReduced (whole n)
whole_reduced n = record { positive = omega arith; coprime = gcd-swap n 1 ∙ gcd-one n }

module _ (A B : Arithmetic) (R : A.Number → B.Number → Type 0) (k : Keeps A B R) where
  one : R (A.of (whole 1)) (B.of (whole 1))
  one = k.of (whole 1) one_reduced

  nil : R (A.of (whole 0)) (B.of (whole 0))
  nil = k.of (whole 0) zero_reduced

  keeps_within : (z : A.Number) (w : B.Number) (f : (Tree → A.Number) → Tree → A.Number) (g : (Tree → B.Number) → Tree → B.Number) → R z w
      → ((x : Tree → A.Number) (y : Tree → B.Number) → ((u : Tree) → R (x u) (y u)) → (t : Tree) → R (f x t) (g y t))
      → (n : ℕ) (t : Tree) → R (within n z f t) (within n w g t)
  keeps_within z w f g e h zero t = e
  keeps_within z w f g e h (suc n) t = h (within n z f) (within n w g) (λ u. keeps_within z w f g e h n u) t

  -- ---- the average vector field method
  child_numbers : (n : ℕ) → R (A.of (whole (suc n))) (B.of (whole (suc n)))
  child_numbers n = k.of (whole (suc n)) (whole_reduced (suc n))

  keeps_averages : (f : Forest) (z : A.Number) (w : B.Number) → R z w → R (fold A.product z (average_values A f)) (fold B.product w (average_values B f))
  keeps_averages none z w e = e
  keeps_averages (grow c kids rest) z w e =
      keeps_averages rest _ _ (k.product z _ w _ e
      (k.quotient (fold A.product (A.of (whole 1)) (average_values A kids)) _ (fold B.product (B.of (whole 1)) (average_values B kids)) _ (keeps_averages kids _ _ one) (child_numbers (arity kids))))

  module _ (a : Tree → A.Number) (a' : Tree → B.Number) (ha : (t : Tree) → R (a t) (a' t)) where
    keeps_split : (z : A.Number) (w : B.Number) → R z w → (b : Tree → A.Number) (b' : Tree → B.Number) → ((t : Tree) → R (b t) (b' t))
        → (s : Split) → R (split_term A a z b s) (split_term B a' w b' s)
    keeps_split z w e b b' hb s =
        keeps_fold_map A B R A.product B.product k.product a a' ha s.forest _ _ (k.product (A.of (whole 1)) (at_kept A z b s.kept) (B.of (whole 1)) (at_kept B w b' s.kept) one (kept s.kept))
      where
        kept : (o : Option Tree) → R (at_kept A z b o) (at_kept B w b' o)
        kept None = e
        kept (Some t) = hb t

    keeps_part : (b : Tree → A.Number) (b' : Tree → B.Number) → ((t : Tree) → R (b t) (b' t)) → (p : Part) → R (part_term A a b p) (part_term B a' b' p)
    keeps_part b b' hb p =
        keeps_fold_map A B R A.product B.product k.product b b' hb p.parts _ _ (k.product (A.of (whole 1)) (a p.skeleton) (B.of (whole 1)) (a' p.skeleton) one (ha p.skeleton))

    keeps_inverse : (t : Tree) → R (inverse_of A a t) (inverse_of B a' t)
    keeps_inverse t = keeps_within (A.of (whole 0)) (B.of (whole 0)) (inverse_step A a) (inverse_step B a') nil
        (λ x y h u. keeps_fold_map A B R A.difference B.difference k.difference (split_term A a (A.of (whole 1)) x) (split_term B a' (B.of (whole 1)) y) (keeps_split (A.of (whole 1)) (B.of (whole 1)) one x y h) (init (splits u)) _ _ nil)
        (order t) t

  keeps_solved : (o : Tree → A.Number) (o' : Tree → B.Number) → ((t : Tree) → R (o t) (o' t)) → (a : Tree → A.Number) (a' : Tree → B.Number) → ((t : Tree) → R (a t) (a' t))
      → (x : Tree → A.Number) (y : Tree → B.Number) → ((t : Tree) → R (x t) (y t)) → (t : Tree) → R (solved_step A o a x t) (solved_step B o' a' y t)
  keeps_solved o o' ho a a' ha x y h t =
      keeps_fold_map A B R A.difference B.difference k.difference (part_term A o x) (part_term B o' y) (keeps_part o o' ho x y h) (tail (parts t)) _ _ (k.sum (A.of (whole 0)) (A.product (A.of (whole 1)) (a t)) (B.of (whole 0)) (B.product (B.of (whole 1)) (a' t)) nil (k.product (A.of (whole 1)) (a t) (B.of (whole 1)) (a' t) one (ha t)))

  empty_reduced : (s : Series) → IsReduced (empty_value s)
  empty_reduced (exact c) = one_reduced
  empty_reduced (identity c) = one_reduced
  empty_reduced (method n j) = one_reduced
  empty_reduced (compose a b) = empty_reduced b
  empty_reduced (inverse a) = one_reduced
  empty_reduced (adjoint a) = one_reduced
  empty_reduced (average k) = one_reduced
  empty_reduced (substitute b a) = empty_reduced a
  empty_reduced (modified a) = zero_reduced
  empty_reduced (modifying a) = zero_reduced
  empty_reduced (scale a c) = empty_reduced a

  module _ (weight : ℕ → Tree → A.Number) (weight' : ℕ → Tree → B.Number) (hw : (n : ℕ) (t : Tree) → R (weight n t) (weight' n t)) where
    pub keeps_value : (s : Series) → HasReducedFactors s → (t : Tree) → R (valued A weight s t) (valued B weight' s t)
    keeps_value (exact c) m t = k.of (exact_value t) (exact_reduced t)
    keeps_value (identity c) m t = nil
    keeps_value (method n j) m t = hw n t
    keeps_value (compose a b) m t =
        keeps_fold_map A B R A.sum B.sum k.sum (split_term A (valued A weight a) (A.of (empty_value b)) (valued A weight b)) (split_term B (valued B weight' a) (B.of (empty_value b)) (valued B weight' b))
        (keeps_split (valued A weight a) (valued B weight' a) (λ u. keeps_value a m.0 u) (A.of (empty_value b)) (B.of (empty_value b)) (k.of (empty_value b) (empty_reduced b)) (valued A weight b) (valued B weight' b) (λ u. keeps_value b m.1 u))
        (splits t) _ _ nil
    keeps_value (inverse a) m t = keeps_inverse (valued A weight a) (valued B weight' a) (λ u. keeps_value a m u) t
    keeps_value (adjoint a) m t =
        keeps_inverse (λ u. signed_by A (order u) (valued A weight a u)) (λ u. signed_by B (order u) (valued B weight' a u)) (λ u. turn (order u) _ _ (keeps_value a m u)) t
      where
        turn : (n : ℕ) (x : A.Number) (y : B.Number) → R x y → R (signed_by A n x) (signed_by B n y)
        turn zero x y h = h
        turn (suc n) x y h = k.opposite (signed_by A n x) (signed_by B n y) (turn n x y h)
    keeps_value (average c) m t =
        k.quotient (fold A.product (A.of (whole 1)) (average_values A t.below)) _ (fold B.product (B.of (whole 1)) (average_values B t.below)) _ (keeps_averages t.below _ _ one) (child_numbers (arity t.below))
    keeps_value (substitute b a) m t =
        keeps_fold_map A B R A.sum B.sum k.sum (part_term A (valued A weight a) (valued A weight b)) (part_term B (valued B weight' a) (valued B weight' b))
        (keeps_part (valued A weight a) (valued B weight' a) (λ u. keeps_value a m.1 u) (valued A weight b) (valued B weight' b) (λ u. keeps_value b m.0 u))
        (parts t) _ _ nil
    keeps_value (modified a) m t =
        keeps_within (A.of (whole 0)) (B.of (whole 0)) (solved_step A (λ u. A.of (exact_value u)) (valued A weight a)) (solved_step B (λ u. B.of (exact_value u)) (valued B weight' a)) nil
        (keeps_solved (λ u. A.of (exact_value u)) (λ u. B.of (exact_value u)) (λ u. k.of (exact_value u) (exact_reduced u)) (valued A weight a) (valued B weight' a) (λ u. keeps_value a m u)) (order t) t
    keeps_value (modifying a) m t =
        keeps_within (A.of (whole 0)) (B.of (whole 0))
        (λ b u. A.quotient (solved_step A (valued A weight a) (λ v. A.of (exact_value v)) b u) (valued A weight a leaf))
        (λ b u. B.quotient (solved_step B (valued B weight' a) (λ v. B.of (exact_value v)) b u) (valued B weight' a leaf)) nil
        (λ x y h u. k.quotient (solved_step A (valued A weight a) (λ v. A.of (exact_value v)) x u) (valued A weight a leaf) (solved_step B (valued B weight' a) (λ v. B.of (exact_value v)) y u) (valued B weight' a leaf)
        (keeps_solved (valued A weight a) (valued B weight' a) (λ v. keeps_value a m v) (λ v. A.of (exact_value v)) (λ v. B.of (exact_value v)) (λ v. k.of (exact_value v) (exact_reduced v)) x y h u) (keeps_value a m leaf)) (order t) t
    keeps_value (scale a c) m t =
        k.sum (A.of (whole 0)) _ (B.of (whole 0)) _ nil (powers (order t) _ _ (k.product (A.of (whole 1)) (valued A weight a t) (B.of (whole 1)) (valued B weight' a t) one (keeps_value a m.0 t)))
      where
        powers : (n : ℕ) (z : A.Number) (w : B.Number) → R z w → R (fold A.product z (replicate n (A.of c))) (fold B.product w (replicate n (B.of c)))
        powers zero z w e = e
        powers (suc n) z w e = powers n (A.product z (A.of c)) (B.product w (B.of c)) (k.product z (A.of c) w (B.of c) e (k.of c m.1))
