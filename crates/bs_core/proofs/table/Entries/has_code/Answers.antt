use Rattle.std.proofs.Common.{◌≡◌, true, false, ap, ◌∙◌}
use Rattle.std.specs.Prelude.{is_some, nat_lt}
use Rattle.std.specs.List.{position}
use Rattle.bs_tree.specs.Code.{same_code}
use Rattle.bs_core.specs.Machine.{codes}
use Rattle.bs_core.specs.declared.table.Entry.{Entry}
use Rattle.bs_core.proofs.Places.{is_found, by_entry_code}
use Rattle.bs_core.proofs.table.Entries.has_code.Goals as goal

pub returns : goal.returns
returns c =
    let n = c.args.code.now in
    let l = c.args.self.now in
    let e = c.deref.ensures.value ∙ c.self.view_is in
    c.is_some.ensures ∙ ap is_some (c.place_of_code.ensures ∙ ap (position (λ (p : Entry). same_code n p.code)) e)
    ∙ is_found (λ (p : Entry). same_code n p.code) l (λ _. nat_lt 0 (codes n l) ≡ true) (nat_lt 0 (codes n l) ≡ false) (nat_lt 0 (codes n l)) (by_entry_code n l) (λ k h. h) (λ h. h)
