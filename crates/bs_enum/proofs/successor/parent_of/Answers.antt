use Rattle.std.proofs.Common.{ℕ, ◌≤◌, ◌<◌, arith}
use Rattle.bs_enum.proofs.Loops.{one_back, not_root, some_at}
use Rattle.bs_enum.proofs.successor.parent_of.Goals as goal

pub nodes-preserved : goal.nodes-preserved
nodes-preserved c = record {
  within = omega arith;
  between = one_back (λ (pair : ℕ × ℕ). c.args.level ≤ pair.0) c.args.front.now c.nodes.place (0, 0) c.nodes.invariant.within
      (not_root c.args.level c.args.front.now c.nodes.place (0, 0) c.requires.some c.requires.root c.nodes-test.true) c.nodes-test.true c.nodes.invariant.between;
}

pub returns-clause-above : goal.returns-clause-above
returns-clause-above c = some_at (λ (pair : ℕ × ℕ). pair.0 < c.args.level) c.args.front.now c.nodes.place (0, 0) c.nodes.invariant.within (omega (arith, c.nodes-test.false))
