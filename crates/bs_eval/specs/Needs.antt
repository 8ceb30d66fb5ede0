-- The pairs that a value needs, and that the machine asks for each but once.
--
--   tree_pair es p   == the expression and the tree of a pair of an id and a code
--   pair_need es p   == the pairs that its value needs
--   IsFresh es of ask ws == where ws are the pairs that wait: a Look is for a pair that the asked one needs, and none of these; a Keep is of none of these;
--                       no two of them are equal
--
-- Source: this project.
use Rattle.std.specs.Prelude.{List, [], ◌∷◌, ◌++◌}
use Rattle.bs_tree.specs.Tree.{Tree}
use Rattle.bs_tree.specs.Code.{tree_of}
use Rattle.bs_series.specs.Series.{Series}
use Rattle.bs_series.specs.Needed.{need, Among, AreApart}
use Rattle.bs_series.specs.Expressions.{series_at}
use Rattle.bs_eval.specs.declared.pair.Pair.{Pair}
use Rattle.bs_eval.specs.declared.eval.Ask.{Ask}
use Rattle.bs_eval.specs.declared.eval.Ask.TheVariants.{Look, Keep, Done}

abbrev pub tree_pair : List Series → Pair → Series × Tree
tree_pair es p = (series_at es p.series, tree_of p.code)

abbrev pub pair_need : List Series → Pair → List (Series × Tree)
pair_need es p = need (series_at es p.series) (tree_of p.code)

abbrev pub IsFresh : List Series → Pair → Ask → List Pair → Type 0
IsFresh es of (Look id code) ws =
    AreApart (ws ++ record { series = id; code = code } ∷ []) × Among (series_at es id, tree_of code) (pair_need es of)
IsFresh es of (Keep id code v) ws = AreApart (ws ++ record { series = id; code = code } ∷ [])
IsFresh es of (Done v) ws = Unit {0}
