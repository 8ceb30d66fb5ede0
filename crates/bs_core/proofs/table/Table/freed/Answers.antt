use Rattle.std.proofs.Common.{◌==◌, ◌∙◌, sym, []}
use Rattle.bs_core.specs.Machine.{new_entry}
use Rattle.bs_core.specs.declared.table.Entry.{Entry}
use Rattle.bs_core.proofs.Basics.{if_ok}
use Rattle.bs_core.proofs.Places.{found_at, not_found, by_slot, SlotHit, SlotMiss}
use Rattle.bs_core.proofs.table.Table.freed.Goals as goal

pub returns-in-Some : goal.returns-in-Some
returns-in-Some c =
    let s = c.args.slot in
    let l = c.args.self.now.entries in
    let d = new_entry 0 [] [] in
    let f = found_at (λ (p : Entry). s == p.slot) l (SlotHit s l) (SlotMiss s l) c.in-Some.place (by_slot s l) (sym c.place_of.ensures ∙ c.in-Some.is) in
    if_ok c.freed_at.result _ _ (λ pairs h. h d ∙ sym (f.1.2 d)) c.freed_at.ensures

pub returns-in-None : goal.returns-in-None
returns-in-None c =
    let s = c.args.slot in
    let l = c.args.self.now.entries in
    c.new.ensures.items ∙ sym (not_found (λ (p : Entry). s == p.slot) l (SlotHit s l) (SlotMiss s l) (by_slot s l) (sym c.place_of.ensures ∙ c.in-None.is)).2
