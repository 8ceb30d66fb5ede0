-- Laws of elementary weights.
--
--   IfValue c P     == P holds of the fraction that c is, if it is no overflow
--   WrittenIsWeight == where the written weight is no overflow, it is the elementary weight
--
-- Source: Butcher (2021), elementary weights; the rule on overflow is this project's.
use Rattle.bs_frac.specs.Fraction.{Fraction, SameFraction}
use Rattle.bs_frac.specs.Written.{checked}
use Rattle.bs_frac.specs.declared.coef.Coef.{Coef}
use Rattle.bs_frac.specs.declared.coef.Coef.TheVariants.{Value, Overflow}
use Rattle.bs_tree.specs.Tree.{Tree}
use Rattle.bs_tableau.specs.Table.{Table, IsBegun}
use Rattle.bs_tableau.specs.ElementaryWeight.{elementary_weight}
use Rattle.bs_tableau.specs.WrittenWeight.{written_weight}

-- P of the fraction, where there is one
abbrev pub IfValue : Coef → (Fraction → Type 0) → Type 0
IfValue (Value x) P = P x
IfValue Overflow P = Unit {0}

abbrev pub WrittenIsWeight : Type 0
WrittenIsWeight =
    (t : Table) → IsBegun t → (tree : Tree) → IfValue (written_weight checked t tree) (λ x. SameFraction x (elementary_weight t tree))
