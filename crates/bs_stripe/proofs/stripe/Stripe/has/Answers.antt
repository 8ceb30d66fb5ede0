use Rattle.std.proofs.Common.{◌<◌, ◌≤◌, List, Option, ℕ, length, is_some, sym, ap, ◌∙◌, subst}
use Rattle.std.proofs.lemmas.Bool.{le-ltb}
use Rattle.bs_stripe.specs.Places.{entry_at}
use Rattle.bs_stripe.specs.declared.place.Entry.{Entry}
use Rattle.bs_stripe.specs.declared.place.Place.{Place}
use Rattle.bs_stripe.proofs.Slots.{entry_here, out_of_range}
use Rattle.bs_stripe.proofs.stripe.Stripe.has.Goals as goal

pub returns-then-place-len : goal.returns-then-place-len
returns-then-place-len c =
    let ps : List Place = c.self.inside.places.items in
    let s = c.args.slot in
    let lt : s < length ps = subst (λ (n : ℕ). s < n) (c.len.ensures ∙ c.self.inside.places.ok.0) c.if-place-len.true in
    c.is_taken.ensures ∙ ap (λ (x : Option Entry). is_some x) (sym (entry_here s ps c.index.result.now lt c.index.ensures) ∙ ap (entry_at s) c.self.view_is)

pub returns-else-place-len : goal.returns-else-place-len
returns-else-place-len c =
    let ps : List Place = c.self.inside.places.items in
    let s = c.args.slot in
    let le : length ps ≤ s = subst (λ (n : ℕ). n ≤ s) (c.len.ensures ∙ c.self.inside.places.ok.0) c.if-place-len.false in
    le-ltb s c.len.result c.if-place-len.false ∙ sym (out_of_range s ps le) ∙ ap (λ (es : List (Option Entry)). is_some (entry_at s es)) c.self.view_is
