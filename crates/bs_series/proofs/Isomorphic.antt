-- The value of a series at a tree is that at its canonical tree.
use Rattle.std.proofs.Common.{◌≡◌, ℕ, zero, suc, ◌*◌, ◌+◌, List, [], ◌∷◌, replicate, arith, sym, ◌∙◌, ap₂, subst, mul-pos}
use Rattle.std.specs.List.{AllByRecursion, fold}
use Rattle.bs_frac.specs.Fraction.{Fraction, SameFraction, product_of, whole}
use Rattle.bs_frac.specs.Written.{exactly}
use Rattle.bs_frac.proofs.Same.{same_refl, same_sym, same_trans, sum_same, product_same, product_one}
use Rattle.bs_tree.specs.Tree.{Forest, none, grow, Tree, order}
use Rattle.bs_tree.specs.Canonical.{sorted, canonical_of}
use Rattle.bs_tree.specs.SortingLaws.{order-canonical_of}
use Rattle.bs_tableau.specs.Table.{Table, IsBegun, matrix_entry, weight_entry, first_row, all_stages}
use Rattle.bs_tableau.specs.ElementaryWeight.{elementary_weight}
use Rattle.bs_tableau.specs.WrittenWeight.{edge_sum, edge_sums, stage_value, written_weight}
use Rattle.bs_tableau.proofs.MapSums.{written_is_weight}
use Rattle.bs_tableau.proofs.Totals.{IsFraction, zero_fraction, one_fraction, sum_by_fraction, product_assoc}
use Rattle.bs_series.specs.Series.{Series, exact, identity, average, method, compose, inverse, adjoint, substitute, modified, modifying, scale, empty_value}
use Rattle.bs_series.specs.Value.{unit_fraction, over_arities, average_value, signed_by, table_at, value}
use Rattle.bs_series.specs.Laws.{HasReducedFactors, ValuesAgreeOnIsomorphic}
use Rattle.bs_series.proofs.Averages.{arity-sorted, arities-sorted, arities-pos, exact_average}
use Rattle.bs_series.proofs.Written.{entry_reduced}
use Rattle.bs_series.proofs.Shuffles.{from_equal, each_same, product_over, product_over_fraction, product_over_insert}
use Rattle.bs_series.proofs.Shuffled.{composed_canonical, substituted_canonical}
use Rattle.bs_series.proofs.Everywhere.{AtCanonical, from_canonical, exact_canonical, inverse_canonical, modified_canonical, modifying_canonical}

-- ---- the weight of a method
module _ (t : Table) (entries : (c i j : ℕ) → IsFraction (matrix_entry t c i j)) (weights : (c j : ℕ) → IsFraction (weight_entry t c j)) where
  abbrev child_sum : ℕ → Tree → Fraction
  child_sum i u = edge_sum exactly t u.colour i (stage_value exactly t u.below)

  edges_fraction : (f : Forest) (i : ℕ) (z : Fraction) → IsFraction z → IsFraction (fold product_of z (edge_sums exactly t f i))
  edges_fraction none i z h = h
  edges_fraction (grow c kids rest) i z h =
      let v : ℕ → Fraction = λ j. product_of (product_of (whole 1) (matrix_entry t c i j)) (stage_value exactly t kids j) in
      edges_fraction rest i (product_of z (edge_sum exactly t c i (stage_value exactly t kids)))
      (mul-pos h (sum_by_fraction v (λ j. mul-pos (mul-pos one_fraction (entries c i j)) (edges_fraction kids j (whole 1) one_fraction)) (all_stages t)))

  stage_fraction : (f : Forest) (j : ℕ) → IsFraction (stage_value exactly t f j)
  stage_fraction f j = edges_fraction f j (whole 1) one_fraction

  child_sum_fraction : (i : ℕ) (u : Tree) → IsFraction (child_sum i u)
  child_sum_fraction i u =
      let v : ℕ → Fraction = λ j. product_of (product_of (whole 1) (matrix_entry t u.colour i j)) (stage_value exactly t u.below j) in
      sum_by_fraction v (λ j. mul-pos (mul-pos one_fraction (entries u.colour i j)) (stage_fraction u.below j)) (all_stages t)

  as_product : (f : Forest) (i : ℕ) (z : Fraction) → IsFraction z → SameFraction (fold product_of z (edge_sums exactly t f i)) (product_of z (product_over (child_sum i) f))
  as_product none i z h = same_sym (product_one z h)
  as_product (grow c kids rest) i z h =
      let u : Tree = record { colour = c; below = kids } in
      let e = child_sum i u in
      let he = child_sum_fraction i u in
      same_trans (as_product rest i (product_of z e) (mul-pos h he)) (product_assoc z e (product_over (child_sum i) rest) h he (product_over_fraction (child_sum i) (child_sum_fraction i) rest))

  stage_same : (f g : Forest) (j : ℕ) → SameFraction (product_over (child_sum j) f) (product_over (child_sum j) g) → SameFraction (stage_value exactly t f j) (stage_value exactly t g j)
  stage_same f g j h =
      same_trans (as_product f j (whole 1) one_fraction) (same_trans (product_same (same_refl (whole 1) one_fraction) h) (same_sym (as_product g j (whole 1) one_fraction)))

  product_sorted : (f : Forest) (i : ℕ) → SameFraction (product_over (child_sum i) (sorted f)) (product_over (child_sum i) f)
  product_sorted none i = same_refl (whole 1) one_fraction
  product_sorted (grow c kids rest) i =
      let u : Tree = record { colour = c; below = sorted kids } in
      same_trans (product_over_insert (child_sum i) (child_sum_fraction i) u (sorted rest))
      (product_same
      (each_same (λ j. product_of (product_of (whole 1) (matrix_entry t c i j)) (stage_value exactly t (sorted kids) j)) (λ j. product_of (product_of (whole 1) (matrix_entry t c i j)) (stage_value exactly t kids j))
      (λ j. product_same (same_refl (product_of (whole 1) (matrix_entry t c i j)) (mul-pos one_fraction (entries c i j))) (stage_same (sorted kids) kids j (product_sorted kids j))) (all_stages t))
      (product_sorted rest i))

  written_canonical : AtCanonical (written_weight exactly t)
  written_canonical u =
      let c = u.colour in
      each_same (λ j. product_of (product_of (whole 1) (weight_entry t c j)) (stage_value exactly t (sorted u.below) j)) (λ j. product_of (product_of (whole 1) (weight_entry t c j)) (stage_value exactly t u.below j))
      (λ j. product_same (same_refl (product_of (whole 1) (weight_entry t c j)) (mul-pos one_fraction (weights c j))) (stage_same (sorted u.below) u.below j (product_sorted u.below j))) (all_stages t)

  weight_canonical : AtCanonical (elementary_weight t)
  weight_canonical u =
      same_trans (same_sym (written_is_weight t entries weights (canonical_of u))) (same_trans (written_canonical u) (written_is_weight t entries weights u))

method_canonical : (tables : List Table) → AllByRecursion IsBegun tables → (n : ℕ) → AtCanonical (λ u. elementary_weight (table_at tables n) u)
method_canonical [] h n u = same_refl (whole 0) zero_fraction
method_canonical (t ∷ ts) h zero u =
    let fine = entry_reduced t h.0 in
    weight_canonical t (λ c i j. (fine (first_row t c + i) j).positive) (λ c j. (fine (first_row t c + t.stages) j).positive) u
method_canonical (t ∷ ts) h (suc n) u = method_canonical ts h.1 n u

-- ---- the other series
average_canonical : AtCanonical (average_value exactly)
average_canonical t =
    let e : over_arities (canonical_of t) ≡ over_arities t = ap₂ (λ (m n : ℕ). unit_fraction (suc m * n)) (arity-sorted t.below) (arities-sorted t.below) in
    let h : IsFraction (average_value exactly (canonical_of t)) = subst IsFraction (sym (exact_average (canonical_of t))) (mul-pos (omega arith) (arities-pos (canonical_of t).below)) in
    from_equal (exact_average (canonical_of t) ∙ e ∙ sym (exact_average t)) h

empty_fraction : (s : Series) → IsFraction (empty_value s)
empty_fraction (exact k) = one_fraction
empty_fraction (identity k) = one_fraction
empty_fraction (average k) = one_fraction
empty_fraction (method n k) = one_fraction
empty_fraction (compose a b) = empty_fraction b
empty_fraction (inverse a) = one_fraction
empty_fraction (adjoint a) = one_fraction
empty_fraction (substitute b a) = empty_fraction a
empty_fraction (modified a) = zero_fraction
empty_fraction (modifying a) = zero_fraction
empty_fraction (scale a c) = empty_fraction a

signed_fraction : (n : ℕ) (x : Fraction) → IsFraction x → IsFraction (signed_by exactly n x)
signed_fraction zero x h = h
signed_fraction (suc n) x h = signed_fraction n x h

powers : (c : Fraction) → IsFraction c → (n : ℕ) (z w : Fraction) → SameFraction z w → SameFraction (fold product_of z (replicate n c)) (fold product_of w (replicate n c))
powers c h zero z w e = e
powers c h (suc n) z w e = powers c h n (product_of z c) (product_of w c) (product_same e (same_refl c h))

pub value_canonical : (tables : List Table) → AllByRecursion IsBegun tables → (s : Series) → HasReducedFactors s → AtCanonical (value tables s)
value_canonical tables begun (exact k) m t = exact_canonical t
value_canonical tables begun (identity k) m t = same_refl (whole 0) zero_fraction
value_canonical tables begun (average k) m t = average_canonical t
value_canonical tables begun (method n k) m t = method_canonical tables begun n t
value_canonical tables begun (compose a b) m t =
    composed_canonical (value tables a) (λ u. (value_canonical tables begun a m.0 u).right) (empty_value b) (empty_fraction b) (value tables b) (λ u. (value_canonical tables begun b m.1 u).right) t
value_canonical tables begun (inverse a) m t = inverse_canonical (value tables a) (λ u. (value_canonical tables begun a m u).right) t
value_canonical tables begun (adjoint a) m t =
    inverse_canonical (λ u. signed_by exactly (order u) (value tables a u)) (λ u. signed_fraction (order u) (value tables a u) (value_canonical tables begun a m u).right) t
value_canonical tables begun (substitute b a) m t =
    substituted_canonical (value tables a) (λ u. (value_canonical tables begun a m.1 u).right) (value tables b) (λ u. (value_canonical tables begun b m.0 u).right) t
value_canonical tables begun (modified a) m t =
    modified_canonical (value tables a) (λ u. (value_canonical tables begun a m u).right) (λ u. value_canonical tables begun a m u) t
value_canonical tables begun (modifying a) m t = modifying_canonical (value tables a) (λ u. (value_canonical tables begun a m u).right) t
value_canonical tables begun (scale a c) m t =
    let u = canonical_of t in
    let x = product_of (whole 1) (value tables a u) in
    let y = product_of (whole 1) (value tables a t) in
    let e : SameFraction x y = product_same (same_refl (whole 1) one_fraction) (value_canonical tables begun a m.0 t) in
    let p : SameFraction (fold product_of x (replicate (order u) c)) (fold product_of y (replicate (order t) c)) =
    subst (λ (n : ℕ). SameFraction (fold product_of x (replicate n c)) (fold product_of y (replicate (order t) c))) (sym (order-canonical_of t)) (powers c m.1.positive (order t) x y e) in
    sum_same (same_refl (whole 0) zero_fraction) p

pub values_agree : ValuesAgreeOnIsomorphic
values_agree tables begun s m = from_canonical (value tables s) (value_canonical tables begun s m)
