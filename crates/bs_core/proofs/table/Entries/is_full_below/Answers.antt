use Rattle.std.proofs.Common.{sym, ◌∙◌}
use Rattle.bs_core.proofs.Places.{not_full}
use Rattle.bs_core.proofs.table.Entries.is_full_below.Goals as goal

pub returns-then-not-has_slot : goal.returns-then-not-has_slot
returns-then-not-has_slot c = sym (not_full c.slots.below c.args.slot c.args.self.now c.slots-test.true (sym c.has_slot.ensures ∙ c.if-not-has_slot.true))
