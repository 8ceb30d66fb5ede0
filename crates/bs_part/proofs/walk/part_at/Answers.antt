use Rattle.std.proofs.Common.{◌∙◌, None, arith}
use Rattle.std.proofs.lemmas.List.{get_or_default}
use Rattle.bs_part.proofs.walk.part_at.Goals as goal

pub returns-in-Some-clause-part : goal.returns-in-Some-clause-part
returns-in-Some-clause-part c =
    c.requires.known c.args.node c.in-Some.part c.requires.node (get_or_default c.args.known.now c.args.node None _ (omega (arith, c.requires.node, c.requires.room)) ∙ c.in-Some.is)
