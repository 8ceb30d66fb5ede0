-- What holds of the definitions alone.
--
--   OrderIsMet  == the order that is told is met: for every tree of at most so many nodes, coloured as the method is, the
--                  elementary weight of the method, as the sum over all maps of nodes to stages in fractions without bound, is
--                  one over the density
--
-- Source: Butcher (2021), order conditions; Hairer, Norsett and Wanner (1993), II.2.
use Rattle.std.specs.Prelude.{ℕ, ◌<◌, ◌≤◌, All}
use Rattle.bs_frac.specs.Fraction.{SameFraction}
use Rattle.bs_tree.specs.Code.{tree_of}
use Rattle.bs_enum.specs.AllTrees.{all_trees}
use Rattle.bs_tableau.specs.ElementaryWeight.{elementary_weight}
use Rattle.bs_tableau.specs.Table.{Table, IsBegun}
use Rattle.bs_order.specs.OrderConditions.{target_of, order_of}

abbrev pub OrderIsMet : Type 0
OrderIsMet = (t : Table) → IsBegun t → (p n : ℕ) → 0 < n → n ≤ order_of t p
    → All (λ code. SameFraction (target_of code) (elementary_weight t (tree_of code))) (all_trees n t.colours)
