-- The inverse solves its equation, and it alone.
use Rattle.std.proofs.Common.{◌≡◌, ℕ, ◌≤◌, List, [], ◌∷◌, map, Option, Some, None, refl, sym, ◌∙◌, ap, ap₂, subst}
use Rattle.bs_frac.specs.Fraction.{Fraction, SameFraction, sum_of, product_of, opposite_of, whole}
use Rattle.bs_frac.specs.Written.{Arithmetic, exactly, product_all, sum_onto, less_all}
use Rattle.bs_tree.specs.Tree.{Tree, order}
use Rattle.bs_split.specs.Splitting.{Split, splits, init}
use Rattle.bs_series.specs.Value.{at_kept, split_term, composed, inverse_step, inverse_of}
use Rattle.bs_frac.proofs.Same.{same_refl, same_sym, same_trans, sum_same, product_same}
use Rattle.bs_tree.specs.SortingLaws.{IsCanonical}
use Rattle.bs_tree.specs.ListLaws.{all_both, all_any, map_same}
use Rattle.std.proofs.lemmas.List.{map-append}
use Rattle.std.proofs.lemmas.List.Sums.{fold-append}
use Rattle.bs_split.specs.SplittingLaws.{OnSome, split_shape, KeepsSmaller}
use Rattle.bs_series.proofs.Totals.{IsFraction, sum_onto_fraction, less_all_fraction, product_from_fraction, less_all_total, less_map_same, product_map_same, back_to_zero, taken_over}
use Rattle.bs_series.proofs.Solve.{IsLocal, IsLocalSame, solution_unfold, within_keeps, unique}
use Rattle.std.specs.List.{AllByRecursion}
use Rattle.bs_series.proofs.Totals.{one_fraction, zero_fraction}

-- ---- the rule reads smaller trees alone, over any kind of number
module _ (A : Arithmetic) (a : Tree → A.Number) where
  pub inverse_local : IsLocal (inverse_step A a)
  inverse_local x y t h =
      let s = split_shape t in
      let one = A.of (whole 1) in
      let term : (Tree → A.Number) → Split → A.Number = split_term A a one in
      let same : map (term x) s.before ≡ map (term y) s.before =
      map_same (term x) (term y) s.before (all_both (λ i. OnSome (KeepsSmaller (order t)) i.kept) (λ _. Unit {0}) (λ i. term x i ≡ term y i)
      (λ i k _. ap (λ v. product_all A (v ∷ map a i.forest)) (kept one i.kept k)) s.before s.smaller (all_any (λ _. Unit {0}) (λ _. tt) s.before)) in
      ap (λ is. less_all A (A.of (whole 0)) (map (term x) is)) s.init_is ∙ ap (less_all A (A.of (whole 0))) same ∙ sym (ap (λ is. less_all A (A.of (whole 0)) (map (term y) is)) s.init_is)
    where
      kept : (one : A.Number) (o : Option Tree) → OnSome (KeepsSmaller (order t)) o → at_kept A one x o ≡ at_kept A one y o
      kept one None k = refl
      kept one (Some u) k = h u k.smaller

module _ (a : Tree → Fraction) (fine : (t : Tree) → IsFraction (a t)) where
  abbrev term : (Tree → Fraction) → Split → Fraction
  term = split_term exactly a (whole 1)

  term_fraction : (x : Tree → Fraction) → ((u : Tree) → IsFraction (x u)) → (s : Split) → IsFraction (term x s)
  term_fraction x h s = product_from_fraction (whole 1) (at_kept exactly (whole 1) x s.kept ∷ map a s.forest) one_fraction (kept s.kept, each s.forest)
    where
      kept : (o : Option Tree) → IsFraction (at_kept exactly (whole 1) x o)
      kept None = one_fraction
      kept (Some u) = h u

      each : (ts : List Tree) → AllByRecursion IsFraction (map a ts)
      each [] = tt
      each (t ∷ ts) = (fine t, each ts)

  terms_fraction : (x : Tree → Fraction) → ((u : Tree) → IsFraction (x u)) → (ss : List Split) → AllByRecursion IsFraction (map (term x) ss)
  terms_fraction x h [] = tt
  terms_fraction x h (s ∷ ss) = (term_fraction x h s, terms_fraction x h ss)

  pub inverse_fraction : (t : Tree) → IsFraction (inverse_of exactly a t)
  inverse_fraction t = within_keeps IsFraction (whole 0) (inverse_step exactly a) zero_fraction
      (λ x h u. less_all_fraction (whole 0) (map (term x) (init (splits u))) zero_fraction (terms_fraction x h (init (splits u)))) (order t) t

  -- the sum over all splittings is that of all but the last, and the last's term
  composed_is : (x : Tree → Fraction) (t : Tree) → IsCanonical t
      → composed exactly a (whole 1) x t ≡ sum_of (sum_onto exactly (whole 0) (map (term x) (init (splits t)))) (product_of (whole 1) (x t))
  composed_is x t c =
      let s = split_shape t in
      ap (λ is. sum_onto exactly (whole 0) (map (term x) is)) s.is
      ∙ ap (sum_onto exactly (whole 0)) (map-append (term x) s.before _)
      ∙ fold-append sum_of (whole 0) (map (term x) s.before) _
      ∙ ap₂ (λ is (u : Tree). sum_of (sum_onto exactly (whole 0) (map (term x) is)) (product_of (whole 1) (x u))) (sym s.init_is) c

  pub inverse_solves : (t : Tree) → IsCanonical t → SameFraction (composed exactly a (whole 1) (inverse_of exactly a) t) (whole 0)
  inverse_solves t c =
      let x = inverse_of exactly a in
      let ts = map (term x) (init (splits t)) in
      let s = sum_onto exactly (whole 0) ts in
      let all : AllByRecursion IsFraction ts = terms_fraction x inverse_fraction (init (splits t)) in
      let hs : IsFraction s = sum_onto_fraction (whole 0) ts zero_fraction all in
      let e : x t ≡ less_all exactly (whole 0) ts = solution_unfold (whole 0) (inverse_step exactly a) (inverse_local exactly a) t in
      let k : SameFraction (x t) (sum_of (whole 0) (opposite_of s)) = subst (λ v. SameFraction v (sum_of (whole 0) (opposite_of s))) (sym e) (less_all_total (whole 0) ts zero_fraction all) in
      subst (λ v. SameFraction v (whole 0)) (sym (composed_is x t c))
      (same_trans (sum_same (same_refl s hs) (product_same (same_refl (whole 1) one_fraction) k)) (back_to_zero s hs))

  pub inverse_local_same : IsLocalSame (inverse_step exactly a)
  inverse_local_same x y t c h =
      let s = split_shape t in
      less_map_same (term x) (term y) (init (splits t)) (whole 0) (whole 0) (same_refl (whole 0) zero_fraction)
      (subst (λ is. AllByRecursion (λ i. SameFraction (term x i) (term y i)) is) (sym s.init_is)
      (all_both (λ i. OnSome (KeepsSmaller (order t)) i.kept) (λ _. Unit {0}) (λ i. SameFraction (term x i) (term y i)) one_term s.before s.smaller (all_any (λ _. Unit {0}) (λ _. tt) s.before)))
    where
      kept : (o : Option Tree) → OnSome (KeepsSmaller (order t)) o → SameFraction (at_kept exactly (whole 1) x o) (at_kept exactly (whole 1) y o)
      kept None k = same_refl (whole 1) one_fraction
      kept (Some u) k = h u k.canonical k.smaller

      one_term : (i : Split) → OnSome (KeepsSmaller (order t)) i.kept → Unit {0} → SameFraction (term x i) (term y i)
      one_term i k _ = product_map_same a a i.forest _ _ (product_same (same_refl (whole 1) one_fraction) (kept i.kept k)) (all_any (λ u. SameFraction (a u) (a u)) (λ u. same_refl (a u) (fine u)) i.forest)

  -- a map of the trees to order n that solves the equation agrees with the inverse there
  pub inverse_unique : (n : ℕ) (y : Tree → Fraction) → ((u : Tree) → IsFraction (y u))
      → ((t : Tree) → IsCanonical t → order t ≤ n → SameFraction (composed exactly a (whole 1) y t) (whole 0))
      → (t : Tree) → IsCanonical t → order t ≤ n → SameFraction (y t) (inverse_of exactly a t)
  inverse_unique n y fy solves =
      unique (whole 0) (inverse_step exactly a) (inverse_local exactly a) inverse_local_same n y
      (λ t c k.
      let ts = map (term y) (init (splits t)) in
      let all : AllByRecursion IsFraction ts = terms_fraction y fy (init (splits t)) in
      let hs : IsFraction (sum_onto exactly (whole 0) ts) = sum_onto_fraction (whole 0) ts zero_fraction all in
      let e : SameFraction (sum_of (sum_onto exactly (whole 0) ts) (product_of (whole 1) (y t))) (whole 0) = subst (λ v. SameFraction v (whole 0)) (composed_is y t c) (solves t c k) in
      same_trans (taken_over (sum_onto exactly (whole 0) ts) hs (y t) (fy t) e) (same_sym (less_all_total (whole 0) ts zero_fraction all)))
