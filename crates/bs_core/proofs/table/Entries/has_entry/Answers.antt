use Rattle.std.proofs.Common.{◌≡◌, ◌==◌, ◌&&◌, true, false, ap, ◌∙◌}
use Rattle.std.specs.Prelude.{is_some}
use Rattle.std.specs.List.{position}
use Rattle.bs_tree.specs.Code.{same_code}
use Rattle.bs_core.specs.Machine.{is_entry}
use Rattle.bs_core.specs.declared.table.Entry.{Entry}
use Rattle.bs_core.proofs.Places.{is_found, by_entry}
use Rattle.bs_core.proofs.table.Entries.has_entry.Goals as goal

pub returns : goal.returns
returns c =
    let n = c.args.code.now in
    let s = c.args.slot in
    let l = c.args.self.now in
    let e = c.deref.ensures.value ∙ c.self.view_is in
    c.is_some.ensures ∙ ap is_some (c.place_of_entry.ensures ∙ ap (position (λ (p : Entry). (s == p.slot) && same_code n p.code)) e)
    ∙ is_found (λ (p : Entry). (s == p.slot) && same_code n p.code) l (λ _. is_entry s n l ≡ true) (is_entry s n l ≡ false) (is_entry s n l) (by_entry s n l) (λ k h. h) (λ h. h)
