use Rattle.std.proofs.Common.{ap, ◌∙◌}
use Rattle.std.specs.Prelude.{is_some, nat_lt}
use Rattle.std.specs.List.{position}
use Rattle.bs_core.specs.Machine.{is_name, times}
use Rattle.bs_core.specs.declared.table.Held.{Held}
use Rattle.bs_core.proofs.Places.{is_found, by_name, NameHit, NameMiss}
use Rattle.bs_core.proofs.hand.Hand.has.Goals as goal

pub returns : goal.returns
returns c =
    let n = c.args.name in
    let l = c.args.self.now in
    let e = c.deref.ensures.value ∙ c.self.view_is in
    c.is_some.ensures ∙ ap is_some (c.place_of.ensures ∙ ap (position (λ (p : Held). is_name n p.name)) e)
    ∙ is_found (λ (p : Held). is_name n p.name) l (NameHit n l) (NameMiss n l) (nat_lt 0 (times n l)) (by_name n l) (λ k h. h.0) (λ h. h.0)
