use Rattle.std.proofs.Common.{codes}
use Rattle.bs_frac.specs.Text.{fraction_text}
use Rattle.bs_reply.proofs.TwoValues.{two-behind}
use Rattle.bs_reply.proofs.write.write_equal_empty.Goals as goal

pub returns-clause-written : goal.returns-clause-written
returns-clause-written c =
    two-behind c.extend_from_slice.result c.args.out.now.items (codes "equal no empty ") (fraction_text c.args.left.now) (codes " ") (fraction_text c.args.right.now) (codes "\n") _ _ _
    c.in_ok-write_value.ensures.written c.in_ok-write_value-2.ensures.written c.extend_from_slice.ensures.items
