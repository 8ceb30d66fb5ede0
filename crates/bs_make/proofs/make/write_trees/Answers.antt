use Rattle.std.proofs.Common.{◌∙◌, append_assoc, arith}
use Rattle.bs_make.proofs.Texts.{trees-more, trees-after, trees-end, trees_after-end}
use Rattle.bs_make.proofs.make.write_trees.Goals as goal

pub trees-preserved : goal.trees-preserved
trees-preserved c =
    let h = c.trees.invariant in
    record {
      written = rw c.in_ok-write_tree.ensures.stands (trees-more 8 c.trees.j c.trees.generator c.trees.out.items c.write_tree.new.out.items _ (omega (arith, c.trees-test.true)) h.written (c.in_ok-write_tree.ensures.written ∙ append_assoc c.trees.out.items _ _));
      stands = rw c.in_ok-write_tree.ensures.stands (trees-after 8 c.trees.j c.trees.generator (omega (arith, c.trees-test.true)) ∙ h.stands);
    }

pub returns-clause-written : goal.returns-clause-written
returns-clause-written c = trees-end 8 c.trees.j c.trees.generator c.trees.out.items _ c.trees-test.false c.trees.invariant.written

pub returns-clause-stands : goal.returns-clause-stands
returns-clause-stands c = trees_after-end 8 c.trees.j c.trees.generator _ c.trees-test.false c.trees.invariant.stands
