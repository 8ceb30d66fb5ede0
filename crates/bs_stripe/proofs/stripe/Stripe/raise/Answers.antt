use Rattle.std.proofs.Common.{◌≡◌, ◌<◌, List, ℕ, Option, IsSome, length, sym, ap, ◌∙◌, subst}
use lib.ListN.{get_or, set}
use Rattle.std.specs.HashMap.{get}
use Rattle.bs_core.specs.KeyEquality.{same_key}
use Rattle.bs_stripe.specs.Places.{entry_at, raise, raised}
use Rattle.bs_stripe.specs.Chains.{entries, raise_in, IsKept}
use Rattle.bs_stripe.specs.declared.place.Entry.{Entry}
use Rattle.bs_stripe.specs.declared.place.Place.{Place}
use Rattle.bs_stripe.proofs.Slots.{in_range, entry_here, entries_set}
use Rattle.bs_stripe.proofs.Keeping.{kept_same, raised_place}
use Rattle.bs_stripe.proofs.stripe.Stripe.raise.Goals as goal

pub index_mut-requires : goal.index_mut-requires
index_mut-requires c =
    let ps : List Place = c.self.inside.places.items in
    let s = c.args.slot in
    let lt : s < length ps = in_range s ps (subst (λ (es : List (Option Entry)). IsSome (entry_at s es)) (sym c.self.view_is) c.requires) in
    subst (λ (n : ℕ). s < n) (sym c.self.inside.places.ok.0) lt

pub invariant_of-self : goal.invariant_of-self
invariant_of-self c =
    let ps : List Place = c.self.inside.places.items in
    let s = c.args.slot in
    let lt : s < length ps = in_range s ps (subst (λ (es : List (Option Entry)). IsSome (entry_at s es)) (sym c.self.view_is) c.requires) in
    let d = c.index_mut.result.now in
    let here : d ≡ get_or ps s d = c.index_mut.ensures.value in
    let p = raised_place d in
    subst (λ (y : Place). IsKept c.self.inside.vacant (set ps s y) (get same_key c.self.inside.slots) c.self.inside.live) (sym c.raise.ensures) (kept_same c.self.inside.vacant ps (get same_key c.self.inside.slots) c.self.inside.live s d (raise_in d) lt here p.0 p.1.0 p.1.1.0 c.self.invariant)

pub returns : goal.returns
returns c =
    let ps : List Place = c.self.inside.places.items in
    let s = c.args.slot in
    let lt : s < length ps = in_range s ps (subst (λ (es : List (Option Entry)). IsSome (entry_at s es)) (sym c.self.view_is) c.requires) in
    let d = c.index_mut.result.now in
    let here : d ≡ get_or ps s d = c.index_mut.ensures.value in
    let p = raised_place d in
    ap (λ (y : Place). entries (set ps s y)) c.raise.ensures
    ∙ entries_set s ps (raise_in d) raise lt (p.1.1.1 ∙ ap raise (sym (entry_here s ps d lt here)))
    ∙ ap (raised s) c.self.view_is
