use Rattle.std.proofs.Common.{◌≡◌, ◌<◌, List, [], ◌∷◌, ◌++◌, length, sym, ap, ◌∙◌, subst, arith}
use Rattle.bs_tree.specs.Code.{root_colour}
use Rattle.bs_core.specs.Codes.{children}
use Rattle.bs_core.specs.Machine.{times, code_at, linked}
use Rattle.bs_core.specs.declared.table.Held.{Held}
use Rattle.bs_store.specs.declared.view.Hand.{Hand}
use Rattle.bs_store.specs.Rule.{lasts, links_at, pathed}
use Rattle.bs_store.specs.Seats.{OfPass, OfStore, first_hand, hand_of}
use Rattle.bs_store.specs.Reading.{OfReader, entered, kept, step_on}
use Rattle.bs_store.proofs.Readers.{came_in, entered_there, went_out}
use Rattle.bs_store.proofs.reader.look_in.Goals as goal

pub look-colour-requires-clause-last : goal.look-colour-requires-clause-last
look-colour-requires-clause-last g c =
    let x = c.args.next.name in
    let h = hand_of c.reader.inside.badge.views in
    let here = came_in c.args.room.now c.enter_reading.new.self c.take_reading-seat.result.me h x c.take_reading-seat.ensures.1 c.enter_reading.ensures in
    here.last ∙ sym (ap (λ (k : Hand). k ∷ []) here.first)

pub look-colour-requires-clause-there : goal.look-colour-requires-clause-there
look-colour-requires-clause-there g c =
    let x = c.args.next.name in
    let h = hand_of c.reader.inside.badge.views in
    let here = came_in c.args.room.now c.enter_reading.new.self c.take_reading-seat.result.me h x c.take_reading-seat.ensures.1 c.enter_reading.ensures in
    let r = c.args.reader.now in
    let path : (first_hand (lasts c.enter_reading.new.self.hands)).path ≡ entered x r.pass.held r.path = ap (λ (k : Hand). k.path) here.first ∙ ap (λ (o : OfReader). entered x o.pass.held o.path) c.reader.view_is in
    subst (λ (l : List Held). 0 < times x l) (sym path) (entered_there x r.pass.held r.path c.requires.there)

pub leave_reading-seat-requires-clause-last : goal.leave_reading-seat-requires-clause-last
leave_reading-seat-requires-clause-last g c =
    let x = c.args.next.name in
    let h = hand_of c.reader.inside.badge.views in
    let here = came_in c.args.room.now c.enter_reading.new.self c.take_reading-seat.result.me h x c.take_reading-seat.ensures.1 c.enter_reading.ensures in
    here.last ∙ sym (ap (λ (k : Hand). k ∷ []) here.first)

pub leave_reading-seat-requires-clause-there : goal.leave_reading-seat-requires-clause-there
leave_reading-seat-requires-clause-there g c =
    let x = c.args.next.name in
    let h = hand_of c.reader.inside.badge.views in
    let here = came_in c.args.room.now c.enter_reading.new.self c.take_reading-seat.result.me h x c.take_reading-seat.ensures.1 c.enter_reading.ensures in
    let r = c.args.reader.now in
    let path : (first_hand (lasts c.enter_reading.new.self.hands)).path ≡ entered x r.pass.held r.path = ap (λ (k : Hand). k.path) here.first ∙ ap (λ (o : OfReader). entered x o.pass.held o.path) c.reader.view_is in
    subst (λ (l : List Held). 0 < times x l) (sym path) (entered_there x r.pass.held r.path c.requires.there)

pub look-colour-requires-clause-room : goal.look-colour-requires-clause-room
look-colour-requires-clause-room g c =
    let x = c.args.next.name in
    let h = hand_of c.reader.inside.badge.views in
    let here = came_in c.args.room.now c.enter_reading.new.self c.take_reading-seat.result.me h x c.take_reading-seat.ensures.1 c.enter_reading.ensures in
    let r = c.args.reader.now in
    let path : (first_hand (lasts c.enter_reading.new.self.hands)).path ≡ entered x r.pass.held r.path = ap (λ (k : Hand). k.path) here.first ∙ ap (λ (o : OfReader). entered x o.pass.held o.path) c.reader.view_is in
    let long = ap (λ (l : List Held). length (children (code_at x l))) path in
    let room = c.requires.room in omega arith

pub invariant_of-reader : goal.invariant_of-reader
invariant_of-reader g c =
    let x = c.args.next.name in
    let h = hand_of c.reader.inside.badge.views in
    let here = came_in c.args.room.now c.enter_reading.new.self c.take_reading-seat.result.me h x c.take_reading-seat.ensures.1 c.enter_reading.ensures in
    let fh = first_hand (lasts c.enter_reading.new.self.hands) in
    let out = went_out c.into_badge.result.views c.leave_reading-seat.result.me c.reader.inside.number (pathed (step_on x c.look-colour.new.pending.items c.enter_reading.new.self.table fh) fh) c.into_badge.ensures.2 c.leave_reading-seat.ensures.pass.1 c.leave_reading-seat.ensures.pass.2 (ap (λ (k : Hand). k.number) here.first ∙ c.reader.invariant.numbered) in
    out.reader

pub returns-clause-colour : goal.returns-clause-colour
returns-clause-colour g c =
    let x = c.args.next.name in
    let h = hand_of c.reader.inside.badge.views in
    let here = came_in c.args.room.now c.enter_reading.new.self c.take_reading-seat.result.me h x c.take_reading-seat.ensures.1 c.enter_reading.ensures in
    let r = c.args.reader.now in
    let path : (first_hand (lasts c.enter_reading.new.self.hands)).path ≡ entered x r.pass.held r.path = ap (λ (k : Hand). k.path) here.first ∙ ap (λ (o : OfReader). entered x o.pass.held o.path) c.reader.view_is in
    c.look-colour.ensures.colour ∙ ap (λ (l : List Held). root_colour (code_at x l)) path

pub returns-clause-looks : goal.returns-clause-looks
returns-clause-looks g c =
    let x = c.args.next.name in
    let h = hand_of c.reader.inside.badge.views in
    let here = came_in c.args.room.now c.enter_reading.new.self c.take_reading-seat.result.me h x c.take_reading-seat.ensures.1 c.enter_reading.ensures in
    let r = c.args.reader.now in
    let path : (first_hand (lasts c.enter_reading.new.self.hands)).path ≡ entered x r.pass.held r.path = ap (λ (k : Hand). k.path) here.first ∙ ap (λ (o : OfReader). entered x o.pass.held o.path) c.reader.view_is in
    let fh = first_hand (lasts c.enter_reading.new.self.hands) in
    let out = went_out c.into_badge.result.views c.leave_reading-seat.result.me c.reader.inside.number (pathed (step_on x c.look-colour.new.pending.items c.enter_reading.new.self.table fh) fh) c.into_badge.ensures.2 c.leave_reading-seat.ensures.pass.1 c.leave_reading-seat.ensures.pass.2 (ap (λ (k : Hand). k.number) here.first ∙ c.reader.invariant.numbered) in
    let ns = links_at x.slot c.enter_reading.new.self.table.entries in
    record {
      links = ns;
      all = c.look-colour.ensures.all ∙ ap (λ (l : List Held). length (children (code_at x l))) path;
      come = c.look-colour.ensures.links;
      path = ap (λ (k : Hand). k.path) out.is ∙ ap (λ (l : List Held). kept c.look-colour.new.pending.items (l ++ linked ns (children (code_at x l)))) path;
    }

pub returns-clause-pass : goal.returns-clause-pass
returns-clause-pass g c =
    let x = c.args.next.name in
    let h = hand_of c.reader.inside.badge.views in
    let here = came_in c.args.room.now c.enter_reading.new.self c.take_reading-seat.result.me h x c.take_reading-seat.ensures.1 c.enter_reading.ensures in
    let fh = first_hand (lasts c.enter_reading.new.self.hands) in
    let out = went_out c.into_badge.result.views c.leave_reading-seat.result.me c.reader.inside.number (pathed (step_on x c.look-colour.new.pending.items c.enter_reading.new.self.table fh) fh) c.into_badge.ensures.2 c.leave_reading-seat.ensures.pass.1 c.leave_reading-seat.ensures.pass.2 (ap (λ (k : Hand). k.number) here.first ∙ c.reader.invariant.numbered) in
    let store = c.into_badge.ensures.0 ∙ c.leave_reading-seat.ensures.pass.0 ∙ sym c.store.invariant.0 ∙ ap (λ (s : OfStore). s.table) c.store.view_is ∙ sym c.requires.own ∙ sym (ap (λ (o : OfReader). o.pass.store) c.reader.view_is) in
    let held = ap (λ (k : Hand). k.held) out.is ∙ ap (λ (k : Hand). k.held) here.first in
    let gains = ap (λ (k : Hand). k.gains) out.is ∙ ap (λ (k : Hand). k.gains) here.first in
    (λ i. let p : OfPass = record { store = store i; number = c.reader.inside.number; held = held i; gains = gains i } in p) ∙ ap (λ (o : OfReader). o.pass) c.reader.view_is
