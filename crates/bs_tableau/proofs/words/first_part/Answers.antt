use Rattle.std.proofs.Common.{arith, add-one}
use Rattle.std.proofs.lemmas.Grind.{common_steps}
use Rattle.bs_tableau.proofs.Parts.{words-at, words-whole}
use Rattle.bs_tableau.proofs.words.first_part.Goals as goal

pub returns-in-Some-clause-words : goal.returns-in-Some-clause-words
returns-in-Some-clause-words c =
    let at = c.in-Some.at in
    let text = c.args.text.now in
    rw (add-one at) (grind (arith, common_steps, words-at text at c.in-Some.ensures))

pub returns-in-None-clause-words : goal.returns-in-None-clause-words
returns-in-None-clause-words c =
    let text = c.args.text.now in
    grind (arith, common_steps, words-whole text c.in-None.ensures)
