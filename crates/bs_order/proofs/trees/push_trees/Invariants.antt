use Rattle.std.proofs.Common.{◌≡◌, ◌++◌, take, length}
use Rattle.std.specs.Prelude.{flat_map}
use Rattle.bs_reply.specs.Lines.{listed_line}
use Rattle.bs_order.proofs.trees.push_trees.Given as goal

abbrev pub invariant-trees : goal.invariant-trees
invariant-trees l = record {
  written : l.out.items ++ flat_map listed_line l.trees.left ≡ l.fn.out.items ++ flat_map listed_line l.fn.trees.left;
  behind : take (length l.fn.out.items) l.out.items ≡ l.fn.out.items;
}

abbrev pub decreases-trees : goal.decreases-trees
decreases-trees l = length l.trees.left
