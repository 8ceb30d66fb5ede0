-- The adjoint is (-1)^n times the inverse at a tree of order n, over any numbers where signs come out of products and differences.
use Rattle.std.proofs.Common.{◌≡◌, ℕ, suc, zero, ◌+◌, List, [], ◌∷◌, map, Option, Some, None, arith, refl, sym, ◌∙◌, ap, subst}
use Rattle.bs_frac.specs.Fraction.{whole}
use Rattle.bs_frac.specs.Written.{Arithmetic, less_all}
use Rattle.bs_tree.specs.Tree.{Tree, order}
use Rattle.bs_split.specs.Splitting.{Split, splits, init}
use Rattle.bs_series.specs.Value.{within, at_kept, split_term, inverse_step, inverse_of, signed_by, adjoint_of}
use Rattle.bs_tree.specs.ListLaws.{all_front}
use Rattle.bs_split.specs.SplittingLaws.{split_shape, order_kept, orders, split_balanced}
use Rattle.std.specs.List.{fold, AllByRecursion}

pub record HasSigns (A : Arithmetic) : Type 0 where
  pub zero_stays : A.opposite (A.of (whole 0)) ≡ A.of (whole 0)
  pub product_left : (x y : A.Number) → A.product (A.opposite x) y ≡ A.opposite (A.product x y)
  pub product_right : (x y : A.Number) → A.product x (A.opposite y) ≡ A.opposite (A.product x y)
  pub difference : (x y : A.Number) → A.difference (A.opposite x) (A.opposite y) ≡ A.opposite (A.difference x y)

module _ (A : Arithmetic) (law : HasSigns A) where
  abbrev sgn : ℕ → A.Number → A.Number
  sgn = signed_by A

  sgn_add : (m n : ℕ) (x : A.Number) → sgn (m + n) x ≡ sgn m (sgn n x)
  sgn_add zero n x = let e : zero + n ≡ n = omega arith in ap (λ i. sgn i x) e
  sgn_add (suc m) n x = let e : suc m + n ≡ suc (m + n) = omega arith in ap (λ i. sgn i x) e ∙ ap A.opposite (sgn_add m n x)

  sgn_zero : (n : ℕ) → sgn n (A.of (whole 0)) ≡ A.of (whole 0)
  sgn_zero zero = refl
  sgn_zero (suc n) = ap A.opposite (sgn_zero n) ∙ law.zero_stays

  sgn_left : (m : ℕ) (x y : A.Number) → A.product (sgn m x) y ≡ sgn m (A.product x y)
  sgn_left zero x y = refl
  sgn_left (suc m) x y = law.product_left (sgn m x) y ∙ ap A.opposite (sgn_left m x y)

  sgn_right : (n : ℕ) (x y : A.Number) → A.product x (sgn n y) ≡ sgn n (A.product x y)
  sgn_right zero x y = refl
  sgn_right (suc n) x y = law.product_right x (sgn n y) ∙ ap A.opposite (sgn_right n x y)

  sgn_difference : (n : ℕ) (x y : A.Number) → A.difference (sgn n x) (sgn n y) ≡ sgn n (A.difference x y)
  sgn_difference zero x y = refl
  sgn_difference (suc n) x y = law.difference (sgn n x) (sgn n y) ∙ ap A.opposite (sgn_difference n x y)

  module _ (a : Tree → A.Number) where
    abbrev turned : Tree → A.Number
    turned t = sgn (order t) (a t)

    products : (ts : List Tree) (m : ℕ) (z : A.Number) → fold A.product (sgn m z) (map turned ts) ≡ sgn (m + orders ts) (fold A.product z (map a ts))
    products [] m z = let e : m + 0 ≡ m = omega arith in ap (λ i. sgn i z) (sym e)
    products (t ∷ ts) m z =
        ap (λ v. fold A.product v (map turned ts)) (sgn_right (order t) (sgn m z) (a t) ∙ ap (sgn (order t)) (sgn_left m z (a t)) ∙ sym (sgn_add (order t) m (A.product z (a t))))
        ∙ products ts (order t + m) (A.product z (a t))
        ∙ (let e : (order t + m) + orders ts ≡ m + orders (t ∷ ts) = omega arith in ap (λ i. sgn i (fold A.product (A.product z (a t)) (map a ts))) e)

    differences : (n : ℕ) (f g : Split → A.Number) (ss : List Split) (z : A.Number) → AllByRecursion (λ s. f s ≡ sgn n (g s)) ss
        → less_all A (sgn n z) (map f ss) ≡ sgn n (less_all A z (map g ss))
    differences n f g [] z h = refl
    differences n f g (s ∷ ss) z h = ap (λ v. less_all A v (map f ss)) (ap (A.difference (sgn n z)) h.0 ∙ sgn_difference n z (g s)) ∙ differences n f g ss (A.difference z (g s)) h.1

    abbrev one : A.Number
    one = A.of (whole 1)

    signed_within : (n : ℕ) (t : Tree) → within n (A.of (whole 0)) (inverse_step A turned) t ≡ sgn (order t) (within n (A.of (whole 0)) (inverse_step A a) t)
    signed_within zero t = sym (sgn_zero (order t))
    signed_within (suc n) t =
        let x = within n (A.of (whole 0)) (inverse_step A turned) in
        let y = within n (A.of (whole 0)) (inverse_step A a) in
        let s = split_shape t in
        let b : AllByRecursion (λ s. order_kept s.kept + orders s.forest ≡ order t) (init (splits t)) =
        subst (λ is. AllByRecursion (λ s. order_kept s.kept + orders s.forest ≡ order t) is) (sym s.init_is)
        (all_front (λ s. order_kept s.kept + orders s.forest ≡ order t) s.before _ (subst (λ is. AllByRecursion (λ s. order_kept s.kept + orders s.forest ≡ order t) is) s.is (split_balanced t))) in
        ap (λ v. less_all A v (map (split_term A turned one x) (init (splits t)))) (sym (sgn_zero (order t)))
        ∙ differences (order t) (split_term A turned one x) (split_term A a one y) (init (splits t)) (A.of (whole 0)) (each x y (λ u. signed_within n u) (init (splits t)) b)
      where
        kept : (x y : Tree → A.Number) → ((u : Tree) → x u ≡ sgn (order u) (y u)) → (o : Option Tree) → at_kept A one x o ≡ sgn (order_kept o) (at_kept A one y o)
        kept x y h None = refl
        kept x y h (Some u) = h u

        each : (x y : Tree → A.Number) → ((u : Tree) → x u ≡ sgn (order u) (y u)) → (ss : List Split) → AllByRecursion (λ s. order_kept s.kept + orders s.forest ≡ order t) ss
            → AllByRecursion (λ s. split_term A turned one x s ≡ sgn (order t) (split_term A a one y s)) ss
        each x y h [] b = tt
        each x y h (s ∷ ss) b = (
          ap (λ v. fold A.product v (map turned s.forest)) (ap (A.product one) (kept x y h s.kept) ∙ sgn_right (order_kept s.kept) one (at_kept A one y s.kept))
              ∙ products s.forest (order_kept s.kept) (A.product one (at_kept A one y s.kept))
              ∙ ap (λ i. sgn i (split_term A a one y s)) b.0,
          each x y h ss b.1,
        )

    pub adjoint_is : (t : Tree) → adjoint_of A a t ≡ sgn (order t) (inverse_of A a t)
    adjoint_is t = signed_within (order t) t
