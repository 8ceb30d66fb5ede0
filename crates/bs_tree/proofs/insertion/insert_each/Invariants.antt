use Rattle.std.proofs.Common.{◌≡◌, ◌≤◌, ◌++◌, length, take, drop}
use Rattle.bs_tree.specs.Insertion.{inserted}
use Rattle.bs_tree.proofs.insertion.insert_each.Given as goal

abbrev pub invariant-nodes : goal.invariant-nodes
invariant-nodes l = record {
  within : l.node ≤ length l.fn.pairs;
  placed : l.pairs ≡ take l.node l.fn.pairs ++ inserted (drop l.node l.fn.pairs);
}

abbrev pub decreases-nodes : goal.decreases-nodes
decreases-nodes l = l.node
