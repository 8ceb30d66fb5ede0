use Rattle.std.proofs.Common.{◌≡◌, ◌<◌, List, ℕ, Option, IsSome, IfSome, length, sym, ap, ◌∙◌, subst}
use Rattle.bs_stripe.specs.Places.{entry_at}
use Rattle.bs_stripe.specs.Chains.{entry_in, count_in}
use Rattle.bs_stripe.specs.declared.place.Entry.{Entry}
use Rattle.bs_stripe.specs.declared.place.Place.{Place}
use Rattle.bs_stripe.specs.declared.place.Place.TheVariants.{Taken, Vacant}
use Rattle.bs_stripe.proofs.Slots.{in_range, entry_here}
use Rattle.bs_stripe.proofs.stripe.Stripe.count.Goals as goal

pub index-requires : goal.index-requires
index-requires c =
    let ps : List Place = c.self.inside.places.items in
    let s = c.args.slot in
    let lt : s < length ps = in_range s ps (subst (λ (es : List (Option Entry)). IsSome (entry_at s es)) (sym c.self.view_is) c.requires) in
    subst (λ (n : ℕ). s < n) (sym c.self.inside.places.ok.0) lt

pub returns : goal.returns
returns c =
    let ps : List Place = c.self.inside.places.items in
    let s = c.args.slot in
    let lt : s < length ps = in_range s ps (subst (λ (es : List (Option Entry)). IsSome (entry_at s es)) (sym c.self.view_is) c.requires) in
    let d = c.index.result.now in
    let at : entry_at s c.args.self.now ≡ entry_in d = ap (entry_at s) (sym c.self.view_is) ∙ entry_here s ps d lt c.index.ensures in
    subst (λ (x : Option Entry). IfSome x (λ e. c.count_of.result ≡ e.count)) (sym at) (counted d c.count_of.result c.count_of.ensures)
  where
    counted : (d : Place) (n : ℕ) → n ≡ count_in d → IfSome (entry_in d) (λ e. n ≡ e.count)
    counted (Taken e) n h = h
    counted (Vacant m) n h = tt
