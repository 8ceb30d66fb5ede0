use Rattle.std.proofs.Common.{refl, get_or}
use Rattle.std.proofs.lemmas.List.{take_rest}
use Rattle.bs_levels.proofs.Pieces.{pieces-at, pieces-none}
use Rattle.bs_levels.proofs.split.split_first.Goals as goal

pub returns-then-byte-eq44-clause-parts : goal.returns-then-byte-eq44-clause-parts
returns-then-byte-eq44-clause-parts c =
    let w = c.args.word.now in
    let i = c.loop-at.at in
    rw take_rest (pieces-at w i (get_or w i 0) c.loop-at-test.true refl c.if-byte-eq44.true c.loop-at.invariant)

pub returns-clause-parts : goal.returns-clause-parts
returns-clause-parts c = pieces-none c.args.word.now c.loop-at.at c.loop-at-test.false c.loop-at.invariant
