use Rattle.std.proofs.Common.{◌≡◌, ◌++◌, ◌∷◌, [], ℕ, ◌∙◌, ap, arith, length, length-append}
use Rattle.bs_enum.specs.Successor.{chain}
use Rattle.bs_enum.proofs.Steps.{length-chain}
use Rattle.bs_enum.proofs.Loops.{chain_more}
use Rattle.bs_enum.proofs.successor.push_chain.Goals as goal

pub push-requires : goal.push-requires
push-requires c =
    omega (arith, ap length c.nodes.invariant, length-append c.args.pairs.now (chain c.args.level c.args.colours c.nodes.node), length-chain c.args.level c.args.colours c.nodes.node)

pub nodes-preserved : goal.nodes-preserved
nodes-preserved c = chain_more c.args.pairs.now c.nodes.pairs c.push.new.self c.args.level c.args.colours c.nodes.node c.nodes.invariant
    (c.push.ensures ∙ ap (λ (p : ℕ × ℕ). c.nodes.pairs ++ p ∷ []) c.link.ensures)
