use Rattle.std.proofs.Common.{◌≡◌, sym, ◌≤◌, ◌<◌, Some, length, slice_get, slice_index_or, arith, refl, subst}
use Rattle.std.proofs.lemmas.Option.{slice_get_read}
use Rattle.bs_names.specs.Known.{Tables}
use Rattle.bs_names.proofs.TablesSeen.{seen_found, seen_below, seen_nowhere, number_seen, number_below, number_nowhere, count_seen}
use Rattle.bs_names.proofs.seen.Seen.find.Goals as goal

-- ---- the script has no such name
pub returns-in_err-place-clause-table : goal.returns-in_err-place-clause-table
returns-in_err-place-clause-table c =
    let script = c.self.inside.script.now in
    rw c.from_residual.ensures
    (sym (rw (← c.self.view_is) (seen_nowhere c.args.name.now script.table_names script.tables c.self.inside.above (sym c.in_err-place.ensures))))

pub returns-in_err-place-clause-number : goal.returns-in_err-place-clause-number
returns-in_err-place-clause-number c =
    let script = c.self.inside.script.now in
    rw c.from_residual.ensures
    (sym (rw (← c.self.view_is) (number_nowhere c.args.name.now script.table_names script.tables c.self.inside.above (sym c.in_err-place.ensures))))

-- ---- its tableau stands above
pub returns-then-place-self-clause-table : goal.returns-then-place-self-clause-table
returns-then-place-self-clause-table c =
    let script = c.self.inside.script.now in
    let place = c.in_ok-place.place in
    let table = c.index-tables-place.result in
    let read : table ≡ slice_index_or script.tables place table = rw c.tables.ensures.value at c.index-tables-place.is in
    let here : slice_get script.tables place ≡ Some table =
    slice_get_read script.tables (length script.tables) place table refl (omega (arith, c.if-place-self.true, c.self.invariant)) read in
    sym (rw (← c.self.view_is) (seen_found c.args.name.now script.table_names script.tables c.self.inside.above place table (sym c.in_ok-place.ensures) c.if-place-self.true here))

pub returns-then-place-self-clause-number : goal.returns-then-place-self-clause-number
returns-then-place-self-clause-number c =
    let script = c.self.inside.script.now in
    sym (rw (← c.self.view_is) (number_seen c.args.name.now script.table_names script.tables c.self.inside.above c.in_ok-place.place (sym c.in_ok-place.ensures) c.if-place-self.true (omega (arith, c.if-place-self.true, c.self.invariant))))

pub returns-then-place-self-clause-below : goal.returns-then-place-self-clause-below
returns-then-place-self-clause-below c =
    let script = c.self.inside.script.now in
    let count = count_seen script.table_names script.tables c.self.inside.above c.tables.ensures.sound.named c.self.invariant in
    subst (λ (t : Tables). c.in_ok-place.place < length t) c.self.view_is (omega (arith, c.if-place-self.true, count))

-- ---- or below
pub returns-else-place-self-clause-table : goal.returns-else-place-self-clause-table
returns-else-place-self-clause-table c =
    let script = c.self.inside.script.now in
    let behind : c.self.inside.above ≤ c.in_ok-place.place = omega (arith, c.if-place-self.false) in
    sym (rw (← c.self.view_is) (seen_below c.args.name.now script.table_names script.tables c.self.inside.above c.in_ok-place.place (sym c.in_ok-place.ensures) behind))

pub returns-else-place-self-clause-number : goal.returns-else-place-self-clause-number
returns-else-place-self-clause-number c =
    let script = c.self.inside.script.now in
    let behind : c.self.inside.above ≤ c.in_ok-place.place = omega (arith, c.if-place-self.false) in
    sym (rw (← c.self.view_is) (number_below c.args.name.now script.table_names script.tables c.self.inside.above c.in_ok-place.place (sym c.in_ok-place.ensures) behind))
