-- Names of passes, and the trees that they stand for.
--
--   NamesDecideTrees ps qs == a name of the one list and a name of the other are equal exactly where their trees are isomorphic
--
-- Source: this project's own.
-- The code of a tree is its canonical sequence, so this is said of codes wherever no tree is in sight.
use Rattle.std.specs.Prelude.{◌≡◌, ℕ, ◌↔◌, List, IsTrue}
use mathlib.Core.Option.{some}
use lib.ListN.{get_elem?}
use Rattle.bs_tree.specs.Code.{tree_of}
use Rattle.bs_tree.specs.Isomorphic.{isomorphic}
use Rattle.bs_core.specs.declared.table.Held.{Held}

abbrev pub NamesDecideTrees : List Held → List Held → Type 0
NamesDecideTrees ps qs = (i j : ℕ) (p q : Held) → get_elem? ps i ≡ some p → get_elem? qs j ≡ some q → ((p.name ≡ q.name) ↔ IsTrue (isomorphic (tree_of p.code) (tree_of q.code)))
