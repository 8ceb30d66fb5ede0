use Rattle.std.proofs.Common.{sym, ap, ◌∙◌}
use Rattle.bs_core.specs.Machine.{state_of, after}
use Rattle.bs_core.specs.declared.event.Event.{Event}
use Rattle.bs_core.proofs.Moves.{intern_needs, look_is}
use Rattle.bs_core.proofs.changes.apply.Goals as goal

pub intern-requires-clause-children : goal.intern-requires-clause-children
intern-requires-clause-children c =
    intern_needs c.args.stripes c.in-Intern.party c.in-Intern.code c.in-Intern.name c.args.event.now (state_of c.args.tables.now.items c.args.hands.now.items) c.requires c.in-Intern.is

pub returns-in-Look-clause-ok : goal.returns-in-Look-clause-ok
returns-in-Look-clause-ok c =
    let ts = c.args.tables.now.items in
    let hs = c.args.hands.now.items in
    look_is c.in-Look.party c.in-Look.memo c.in-Look.name ts hs ∙ ap (λ (e : Event). after e (state_of ts hs)) (sym c.in-Look.is)
