use Rattle.std.proofs.Common.{sym, ap, ◌∙◌, List}
use Rattle.std.specs.List.{position, remove}
use Rattle.bs_core.specs.Machine.{is_name}
use Rattle.bs_core.specs.declared.table.Held.{Held}
use Rattle.bs_core.proofs.Places.{found_at, not_found, by_name, NameHit, NameMiss}
use Rattle.bs_core.proofs.hand.Hand.drop_first.Goals as goal

pub returns-in-Some : goal.returns-in-Some
returns-in-Some c =
    let n = c.args.name in
    let l = c.args.self.now in
    let e = c.deref.ensures.value ∙ c.self.view_is in
    let at = sym (c.place_of.ensures ∙ ap (position (λ (p : Held). is_name n p.name)) e) ∙ c.in-Some.is in
    let f = found_at (λ (p : Held). is_name n p.name) l (NameHit n l) (NameMiss n l) c.in-Some.place (by_name n l) at in
    c.remove-gone.ensures.items ∙ ap (λ (k : List Held). remove k c.in-Some.place) c.self.view_is ∙ sym f.1.1

pub returns-in_default : goal.returns-in_default
returns-in_default c =
    let n = c.args.name in
    let l = c.args.self.now in
    let e = c.deref.ensures.value ∙ c.self.view_is in
    let at = sym (c.place_of.ensures ∙ ap (position (λ (p : Held). is_name n p.name)) e) ∙ c.in_default.is in
    sym (not_found (λ (p : Held). is_name n p.name) l (NameHit n l) (NameMiss n l) (by_name n l) at).1
