-- The coefficients that a reply needs.
--
--   need_at s code       == the pairs that the coefficient of s at the tree of a code needs
--   need_to_print s p    == those of the coefficients of s at the trees to order p
--   need_to_compare a b p == those of the comparison of two series to order p
--
-- Source: this project.
use Rattle.std.specs.Prelude.{ℕ, List, ◌++◌, flat_map}
use Rattle.bs_enum.specs.AllTrees.{trees_up_to}
use Rattle.bs_tree.specs.Tree.{Tree as Shape}
use Rattle.bs_tree.specs.Code.{tree_of}
use Rattle.bs_series.specs.Series.{Series, colours_of}
use Rattle.bs_series.specs.SeriesCode.{Code}
use Rattle.bs_series.specs.Needed.{need}

abbrev pub need_at : Series → Code → List (Series × Shape)
need_at s code = need s (tree_of code)

abbrev pub need_both : Series → Series → Code → List (Series × Shape)
need_both a b code = need_at a code ++ need_at b code

abbrev pub need_to_print : Series → ℕ → List (Series × Shape)
need_to_print s p = flat_map (need_at s) (trees_up_to p (colours_of s))

abbrev pub need_to_compare : Series → Series → ℕ → List (Series × Shape)
need_to_compare a b p = flat_map (need_both a b) (trees_up_to p (colours_of a))
