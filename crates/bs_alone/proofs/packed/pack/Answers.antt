use Rattle.std.proofs.Common.{arith}
use Rattle.bs_alone.proofs.Packing.{reads-back, leaves-room}
use Rattle.bs_alone.proofs.packed.pack.Goals as goal

pub overflow_mul-number : goal.overflow_mul-number
overflow_mul-number c =
    let pairs = c.pairs-pairs.ensures in
    let room = leaves-room c.pairs-pairs.result.now c.places.place c.places.number (pairs.levels, pairs.colours, pairs.small) c.places.invariant.is in
    omega (arith, room)

pub overflow_add-number : goal.overflow_add-number
overflow_add-number c =
    let pairs = c.pairs-pairs.ensures in
    let room = leaves-room c.pairs-pairs.result.now c.places.place c.places.number (pairs.levels, pairs.colours, pairs.small) c.places.invariant.is in
    omega (arith, room, c.from.ensures, c.places-test.element_fits.fits, c.places-test.element_fits2.fits)

pub returns-clause-back : goal.returns-clause-back
returns-clause-back c =
    let pairs = c.pairs-pairs.ensures in
    reads-back c.pairs-pairs.result.now c.args.code.now c.places.place c.places.number (pairs.levels, pairs.colours, pairs.small) pairs.value
    (omega (arith, c.places-test.false)) c.places.invariant.is
