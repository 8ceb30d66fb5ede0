-- A written value that is no Overflow is the value, and the signs of the adjoint.
use Rattle.std.proofs.Common.{ℕ, suc, zero, List, [], ◌∷◌, get_or, arith}
use Rattle.std.specs.List.{AllByRecursion}
use Rattle.bs_frac.specs.Fraction.{Fraction, IsReduced, SameFraction, whole}
use Rattle.bs_frac.specs.Written.{exactly, checked, Agrees}
use Rattle.bs_frac.specs.declared.coef.Coef.{Coef}
use Rattle.bs_frac.specs.declared.coef.Coef.TheVariants.{Value, Overflow}
use Rattle.bs_frac.proofs.Same.{same_refl}
use Rattle.bs_frac.proofs.Products.{zero_reduced}
use Rattle.bs_frac.proofs.WrittenSums.{checked_agrees}
use Rattle.bs_tree.specs.Tree.{Tree}
use Rattle.bs_tableau.specs.Table.{Table, IsRow, IsBegun, entry}
use Rattle.bs_tableau.specs.ElementaryWeight.{elementary_weight}
use Rattle.bs_tableau.specs.WrittenWeight.{written_weight}
use Rattle.bs_tableau.specs.Laws.{IfValue}
use Rattle.bs_tableau.proofs.CheckedWeights.{weight_kept, written_is_weight_law}
use Rattle.bs_series.specs.Series.{Series}
use Rattle.bs_series.specs.Value.{table_at, value, written}
use Rattle.bs_series.specs.Laws.{HasReducedFactors, WrittenIsValue, AdjointLaw}
use Rattle.bs_series.proofs.Keeps.{keeps_value}
use Rattle.bs_series.proofs.Adjoint.{adjoint_is}
use Rattle.bs_series.proofs.Signs.{exact_signs, checked_signs}

-- ---- each entry of a tableau is reduced, also one past the rows
at_or_zero : (row : List Fraction) (i : ℕ) → AllByRecursion IsReduced row → IsReduced (get_or row i (whole 0))
at_or_zero [] i h = zero_reduced
at_or_zero (x ∷ xs) zero h = h.0
at_or_zero (x ∷ xs) (suc i) h = at_or_zero xs i h.1

row_or_none : (s : ℕ) (rows : List (List Fraction)) (r : ℕ) → AllByRecursion (IsRow s) rows → AllByRecursion IsReduced (get_or rows r [])
row_or_none s [] r h = tt
row_or_none s (x ∷ xs) zero h = h.0.reduced
row_or_none s (x ∷ xs) (suc r) h = row_or_none s xs r h.1

pub entry_reduced : (t : Table) → IsBegun t → (r j : ℕ) → IsReduced (entry t.rows r j)
entry_reduced t h r j = at_or_zero (get_or t.rows r []) j (row_or_none t.stages t.rows r h.each)

-- ---- the written weight agrees with the elementary weight
both_agree : (c : Coef) (u v : Fraction) → Agrees c u → IfValue c (λ x. SameFraction x v) → Agrees c v
both_agree (Value x) u v h k = (h.0, k)
both_agree Overflow u v h k = tt

weight_agrees : (t : Table) → IsBegun t → (tree : Tree) → Agrees (written_weight checked t tree) (elementary_weight t tree)
weight_agrees t h tree =
    both_agree (written_weight checked t tree) (written_weight exactly t tree) (elementary_weight t tree)
    (weight_kept checked exactly Agrees checked_agrees t (entry_reduced t h) tree) (written_is_weight_law t h tree)

weights_agree : (tables : List Table) → AllByRecursion IsBegun tables → (n : ℕ) (tree : Tree) → Agrees (written_weight checked (table_at tables n) tree) (elementary_weight (table_at tables n) tree)
weights_agree [] h n tree = (zero_reduced, same_refl (whole 0) (omega arith))
weights_agree (t ∷ ts) h zero tree = weight_agrees t h.0 tree
weights_agree (t ∷ ts) h (suc n) tree = weights_agree ts h.1 n tree

-- ---- of every series
pub written_agrees : (tables : List Table) → AllByRecursion IsBegun tables → (s : Series) → HasReducedFactors s → (t : Tree) → Agrees (written tables s t) (value tables s t)
written_agrees tables begun s m t =
    keeps_value checked exactly Agrees checked_agrees (λ n u. written_weight checked (table_at tables n) u) (λ n u. elementary_weight (table_at tables n) u)
    (weights_agree tables begun) s m t

if_agrees : (c : Coef) (v : Fraction) → Agrees c v → IfValue c (λ x. IsReduced x × SameFraction x v)
if_agrees (Value x) v h = h
if_agrees Overflow v h = tt

pub written_is_value : WrittenIsValue
written_is_value tables begun s m t = if_agrees (written tables s t) (value tables s t) (written_agrees tables begun s m t)

pub adjoint_law : AdjointLaw
adjoint_law = record {
  exact = λ a t. adjoint_is exactly exact_signs a t;
  written = λ tables a t. adjoint_is checked checked_signs (written tables a) t;
}
