use Rattle.std.proofs.Common.{◌≡◌, sym, ap, ◌∙◌, List}
use Rattle.std.specs.List.{position}
use lib.ListN.{get_or}
use Rattle.bs_core.specs.Machine.{is_name, code_at}
use Rattle.bs_core.specs.declared.table.Held.{Held}
use Rattle.bs_core.proofs.Places.{found_at, not_found, by_name, NameHit, NameMiss}
use Rattle.bs_core.proofs.hand.Hand.code_of.Goals as goal

pub returns-in-Some : goal.returns-in-Some
returns-in-Some c =
    let n = c.args.name in
    let l = c.args.self.now in
    let e = c.deref.ensures.value ∙ c.self.view_is in
    let at = sym (c.place_of.ensures ∙ ap (position (λ (p : Held). is_name n p.name)) e) ∙ c.in-Some.is in
    let f = found_at (λ (p : Held). is_name n p.name) l (NameHit n l) (NameMiss n l) c.in-Some.place (by_name n l) at in
    let here : c.index.result.now ≡ get_or l c.in-Some.place c.index.result.now = c.index.ensures ∙ ap (λ (k : List Held). get_or k c.in-Some.place c.index.result.now) c.self.view_is in
    let code : c.index.result.now.code ≡ code_at n l = ap (λ (h : Held). h.code) here ∙ sym (f.1.2 c.index.result.now) in
    code

pub returns-in-None : goal.returns-in-None
returns-in-None c =
    let n = c.args.name in
    let l = c.args.self.now in
    let e = c.deref.ensures.value ∙ c.self.view_is in
    let at = sym (c.place_of.ensures ∙ ap (position (λ (p : Held). is_name n p.name)) e) ∙ c.in-None.is in
    let f = not_found (λ (p : Held). is_name n p.name) l (NameHit n l) (NameMiss n l) (by_name n l) at in
    c.leaf.ensures ∙ sym f.2
