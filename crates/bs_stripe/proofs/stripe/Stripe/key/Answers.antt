use Rattle.std.proofs.Common.{◌≡◌, ◌<◌, List, ℕ, true, false, Option, Some, IsSome, IfSome, is_some, length, refl, sym, ap, ◌∙◌, subst}
use Rattle.bs_stripe.specs.Places.{entry_at}
use Rattle.bs_stripe.specs.Chains.{entry_in}
use Rattle.bs_stripe.specs.declared.place.Entry.{Entry}
use Rattle.bs_stripe.specs.declared.place.Place.{Place}
use Rattle.bs_stripe.proofs.Slots.{in_range, entry_here}
use Rattle.bs_stripe.proofs.stripe.Stripe.key.Goals as goal

pub index-requires : goal.index-requires
index-requires c =
    let ps : List Place = c.self.inside.places.items in
    let s = c.args.slot in
    let lt : s < length ps = in_range s ps (subst (λ (es : List (Option Entry)). IsSome (entry_at s es)) (sym c.self.view_is) c.requires) in
    subst (λ (n : ℕ). s < n) (sym c.self.inside.places.ok.0) lt

pub unreachable-requires : goal.unreachable-requires
unreachable-requires c =
    let ps : List Place = c.self.inside.places.items in
    let s = c.args.slot in
    let lt : s < length ps = in_range s ps (subst (λ (es : List (Option Entry)). IsSome (entry_at s es)) (sym c.self.view_is) c.requires) in
    let d = c.index.result.now in
    let at : entry_at s c.args.self.now ≡ entry_in d = ap (entry_at s) (sym c.self.view_is) ∙ entry_here s ps d lt c.index.ensures in
    let no : false ≡ true = sym (ap (λ (x : Option Entry). is_some x) (at ∙ ap entry_in c.in-Vacant.is)) ∙ c.requires in
    absurd (cc)

pub returns : goal.returns
returns c =
    let ps : List Place = c.self.inside.places.items in
    let s = c.args.slot in
    let lt : s < length ps = in_range s ps (subst (λ (es : List (Option Entry)). IsSome (entry_at s es)) (sym c.self.view_is) c.requires) in
    let d = c.index.result.now in
    let at : entry_at s c.args.self.now ≡ Some c.in-Taken.entry = ap (entry_at s) (sym c.self.view_is) ∙ entry_here s ps d lt c.index.ensures ∙ ap entry_in c.in-Taken.is in
    subst (λ (x : Option Entry). IfSome x (λ e. c.in-Taken.entry.key ≡ e.key)) (sym at) refl
