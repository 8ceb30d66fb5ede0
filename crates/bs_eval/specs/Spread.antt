-- The product over the nodes of a tree of one more than the number of their children, by codes.
--
--   spread c    == the product at the tree of a code
--   spreads cs  == the product of those of a list
--
-- Source: this project.
use Rattle.std.specs.Prelude.{ℕ, suc, ◌*◌, List, [], ◌∷◌}
use Rattle.bs_tree.specs.Code.{tree_of}
use Rattle.bs_tree.specs.Tree.{Tree}
use Rattle.bs_series.specs.Value.{arity, arities}

abbrev pub tree_spread : Tree → ℕ
tree_spread t = suc (arity t.below) * arities t.below

abbrev pub spread : List (ℕ × ℕ) → ℕ
spread c = tree_spread (tree_of c)

abbrev pub spreads : List (List (ℕ × ℕ)) → ℕ
spreads [] = 1
spreads (c ∷ cs) = spread c * spreads cs
