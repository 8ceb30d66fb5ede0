use Rattle.std.proofs.Common.{◌==◌, ap, ◌∙◌}
use Rattle.std.specs.Prelude.{is_some, nat_lt}
use Rattle.bs_core.specs.Machine.{slots}
use Rattle.bs_core.specs.declared.table.Entry.{Entry}
use Rattle.bs_core.proofs.Places.{is_found, by_slot, SlotHit, SlotMiss}
use Rattle.bs_core.proofs.table.Entries.has_slot.Goals as goal

pub returns : goal.returns
returns c =
    let s = c.args.slot in
    let l = c.args.self.now in
    c.is_some.ensures ∙ ap is_some c.place_of.ensures
    ∙ is_found (λ (p : Entry). s == p.slot) l (SlotHit s l) (SlotMiss s l) (nat_lt 0 (slots s l)) (by_slot s l) (λ k h. h.0) (λ h. h.0)
