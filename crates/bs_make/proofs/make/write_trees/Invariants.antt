use Rattle.std.proofs.Common.{◌≡◌, ◌-◌, ◌++◌}
use Rattle.bs_make.specs.Made.{joined, tree_lines, after_trees}
use Rattle.bs_make.proofs.make.write_trees.Given as goal

abbrev pub invariant-trees : goal.invariant-trees
invariant-trees l = record {
  written : l.out.items ++ joined (tree_lines (8 - l.j) l.j l.generator) ≡ l.fn.out.items ++ joined (tree_lines 8 0 l.fn.generator);
  stands : after_trees (8 - l.j) l.generator ≡ after_trees 8 l.fn.generator;
}
