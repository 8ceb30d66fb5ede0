use Rattle.std.proofs.Common.{◌≡◌, ◌++◌}
use Rattle.bs_enum.specs.Successor.{chain}
use Rattle.bs_enum.proofs.successor.push_chain.Given as goal

abbrev pub invariant-nodes : goal.invariant-nodes
invariant-nodes l = l.pairs ≡ l.initial.pairs ++ chain l.level l.colours l.node
