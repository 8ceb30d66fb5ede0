use Rattle.std.proofs.Common.{◌≡◌, ◌++◌, length}
use Rattle.bs_tree.specs.Tree.{trees}
use Rattle.bs_tree.specs.Subtrees.{subtree_of, forest_at, level_below}
use Rattle.bs_tree.specs.SubtreeLaws.{IsRest}
use Rattle.bs_tree.proofs.build.+tree_under.Given as goal

abbrev pub decreases-tree_under : goal.decreases-tree_under
decreases-tree_under l = length l.pairs.now

abbrev pub invariant-children : goal.invariant-children
invariant-children l = record {
  rest : IsRest l.fn.pairs l.rest;
  colour : l.tree.colour ≡ (subtree_of l.fn.pairs).colour;
  children : trees l.tree.below ++ trees (forest_at (level_below l.fn.pairs) l.rest) ≡ trees (subtree_of l.fn.pairs).below;
}

abbrev pub decreases-children : goal.decreases-children
decreases-children l = length l.rest
