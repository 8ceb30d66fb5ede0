use Rattle.std.proofs.Common.{arith, add-one}
use Rattle.std.proofs.lemmas.Grind.{common_steps}
use Rattle.bs_script.proofs.Cuts.{lines-at, lines-whole}
use Rattle.bs_script.proofs.cursor.first_line.Goals as goal

pub returns-in-Some-clause-lines : goal.returns-in-Some-clause-lines
returns-in-Some-clause-lines c =
    let at = c.in-Some.at in
    let bytes = c.args.bytes.now in
    rw (add-one at) (grind (arith, common_steps, lines-at bytes at c.in-Some.ensures))

pub returns-in-None-clause-lines : goal.returns-in-None-clause-lines
returns-in-None-clause-lines c =
    let bytes = c.args.bytes.now in
    grind (arith, common_steps, lines-whole bytes c.requires c.in-None.ensures)
