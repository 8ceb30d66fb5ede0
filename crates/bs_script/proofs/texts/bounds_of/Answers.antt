use Rattle.std.proofs.Common.{◌<◌, length, arith}
use Rattle.bs_script.proofs.Pieces.{slice_get-pieces, slice_get-pieces-later, ends_rise, ends_rise-later}
use Rattle.bs_script.proofs.texts.bounds_of.Goals as goal

pub returns-then-place-eq0-clause-piece : goal.returns-then-place-eq0-clause-piece
returns-then-place-eq0-clause-piece c = λ text.
    let some : 0 < length c.args.ends.now = omega (arith, c.requires, c.if-place-eq0.true) in
    rw c.if-place-eq0.true (slice_get-pieces text 0 c.args.ends.now 0 some)

pub returns-then-place-eq0-clause-within : goal.returns-then-place-eq0-clause-within
returns-then-place-eq0-clause-within c = λ last h.
    let some : 0 < length c.args.ends.now = omega (arith, c.requires, c.if-place-eq0.true) in
    ends_rise 0 c.args.ends.now last 0 h some

pub returns-else-place-eq0-clause-piece : goal.returns-else-place-eq0-clause-piece
returns-else-place-eq0-clause-piece c = λ text. slice_get-pieces-later text c.args.ends.now c.args.place c.if-place-eq0.false c.requires

pub returns-else-place-eq0-clause-within : goal.returns-else-place-eq0-clause-within
returns-else-place-eq0-clause-within c = λ last h. ends_rise-later c.args.ends.now last c.args.place h c.if-place-eq0.false c.requires
