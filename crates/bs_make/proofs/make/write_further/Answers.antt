use Rattle.std.proofs.Common.{◌+◌, ◌∙◌, codes, decimal, sym, append_assoc, arith}
use Rattle.bs_make.proofs.Texts.{levels-more, draws-more}
use Rattle.bs_make.proofs.make.write_further.Goals as goal

pub nodes-preserved : goal.nodes-preserved
nodes-preserved c =
    let h = c.nodes.invariant in
    record {
      some = omega arith;
      few = omega (arith, c.draw-level.ensures.below, h.few);
      written = rw (c.draw-level.ensures.drawn, c.draw-level.ensures.next) (levels-more c.args.count c.nodes.counter c.nodes.level c.nodes.generator c.nodes.out.items c.write_number.new.out.items _ c.nodes-test.true h.written (rw (sym c.draw-level.ensures.drawn) (c.in_ok-write_number.ensures ∙ append_assoc c.nodes.out.items (codes ",") (decimal (2 + c.draw-level.result)))));
      stands = rw c.draw-level.ensures.next (draws-more c.args.count c.nodes.counter c.nodes.generator c.nodes-test.true ∙ h.stands);
    }
