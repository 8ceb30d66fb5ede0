use Rattle.std.proofs.Common.{◌≡◌, ◌≢◌, ◌<◌, List, ℕ, true, false, Option, Some, IsSome, is_some, length, sym, ap, ◌∙◌, subst}
use lib.ListN.{get_or, set}
use Rattle.std.specs.HashMap.{get}
use Rattle.bs_core.specs.KeyEquality.{same_key}
use Rattle.bs_stripe.specs.Places.{entry_at, lower, lowered, gives, gives_of}
use Rattle.bs_stripe.specs.Chains.{entries, entry_in, less_in, count_in, IsKept}
use Rattle.bs_stripe.specs.declared.place.Entry.{Entry}
use Rattle.bs_stripe.specs.declared.place.Place.{Place}
use Rattle.bs_stripe.specs.declared.place.Place.TheVariants.{Vacant}
use Rattle.bs_stripe.proofs.Slots.{in_range, entry_here, entries_set}
use Rattle.bs_stripe.proofs.Keeping.{kept_same, kept_gone, less_place, gives_kept, gives_gone, lower_gone, read_same}
use Rattle.bs_stripe.proofs.stripe.Stripe.lower.Goals as goal

pub index-requires : goal.index-requires
index-requires c =
    let ps : List Place = c.self.inside.places.items in
    let s = c.args.slot in
    let lt : s < length ps = in_range s ps (subst (λ (es : List (Option Entry)). IsSome (entry_at s es)) (sym c.self.view_is) c.requires) in
    subst (λ (n : ℕ). s < n) (sym c.self.inside.places.ok.0) lt

pub index_mut-requires : goal.index_mut-requires
index_mut-requires c =
    let ps : List Place = c.self.inside.places.items in
    let s = c.args.slot in
    let lt : s < length ps = in_range s ps (subst (λ (es : List (Option Entry)). IsSome (entry_at s es)) (sym c.self.view_is) c.requires) in
    subst (λ (n : ℕ). s < n) (sym c.self.inside.places.ok.0) lt

pub index_mut-requires-2 : goal.index_mut-requires-2
index_mut-requires-2 c =
    let ps : List Place = c.self.inside.places.items in
    let s = c.args.slot in
    let lt : s < length ps = in_range s ps (subst (λ (es : List (Option Entry)). IsSome (entry_at s es)) (sym c.self.view_is) c.requires) in
    subst (λ (n : ℕ). s < n) (sym c.self.inside.places.ok.0) lt

pub invariant_of-self : goal.invariant_of-self
invariant_of-self c =
    let ps : List Place = c.self.inside.places.items in
    let s = c.args.slot in
    let lt : s < length ps = in_range s ps (subst (λ (es : List (Option Entry)). IsSome (entry_at s es)) (sym c.self.view_is) c.requires) in
    let d : Place = c.index_mut.result.now in
    let here : d ≡ get_or ps s d = c.index_mut.ensures.value in
    let same : c.index.result.now ≡ d = read_same s ps c.index.result.now d lt c.index.ensures here in
    let many : count_in d ≢ 1 = λ q. c.if-count_of-ne1.true (c.count_of.ensures ∙ ap count_in same ∙ q) in
    let at : entry_at s (entries ps) ≡ entry_in d = entry_here s ps d lt here in
    let p = less_place d many in
    subst (λ (y : Place). IsKept c.self.inside.vacant (set ps s y) (get same_key c.self.inside.slots) c.self.inside.live) (sym c.lower.ensures)
    (kept_same c.self.inside.vacant ps (get same_key c.self.inside.slots) c.self.inside.live s d (less_in d) lt here p.0 p.1.0 p.1.1.0 c.self.invariant)

pub returns-then-count_of-ne1-clause-state : goal.returns-then-count_of-ne1-clause-state
returns-then-count_of-ne1-clause-state c =
    let ps : List Place = c.self.inside.places.items in
    let s = c.args.slot in
    let lt : s < length ps = in_range s ps (subst (λ (es : List (Option Entry)). IsSome (entry_at s es)) (sym c.self.view_is) c.requires) in
    let d : Place = c.index_mut.result.now in
    let here : d ≡ get_or ps s d = c.index_mut.ensures.value in
    let same : c.index.result.now ≡ d = read_same s ps c.index.result.now d lt c.index.ensures here in
    let many : count_in d ≢ 1 = λ q. c.if-count_of-ne1.true (c.count_of.ensures ∙ ap count_in same ∙ q) in
    let at : entry_at s (entries ps) ≡ entry_in d = entry_here s ps d lt here in
    let p = less_place d many in
    ap (λ (y : Place). entries (set ps s y)) c.lower.ensures
    ∙ entries_set s ps (less_in d) lower lt (p.1.1.1 ∙ ap lower (sym at))
    ∙ ap (lowered s) c.self.view_is

pub returns-then-count_of-ne1-clause-gives : goal.returns-then-count_of-ne1-clause-gives
returns-then-count_of-ne1-clause-gives c =
    let ps : List Place = c.self.inside.places.items in
    let s = c.args.slot in
    let lt : s < length ps = in_range s ps (subst (λ (es : List (Option Entry)). IsSome (entry_at s es)) (sym c.self.view_is) c.requires) in
    let d : Place = c.index_mut.result.now in
    let here : d ≡ get_or ps s d = c.index_mut.ensures.value in
    let same : c.index.result.now ≡ d = read_same s ps c.index.result.now d lt c.index.ensures here in
    let many : count_in d ≢ 1 = λ q. c.if-count_of-ne1.true (c.count_of.ensures ∙ ap count_in same ∙ q) in
    let at : entry_at s (entries ps) ≡ entry_in d = entry_here s ps d lt here in
    gives_kept d many ∙ ap gives_of (sym at) ∙ ap (gives s) c.self.view_is

pub invariant_of-self-in-Some : goal.invariant_of-self-in-Some
invariant_of-self-in-Some c =
    let ps : List Place = c.self.inside.places.items in
    let s = c.args.slot in
    let lt : s < length ps = in_range s ps (subst (λ (es : List (Option Entry)). IsSome (entry_at s es)) (sym c.self.view_is) c.requires) in
    let d : Place = c.index_mut-2.result.now in
    let here : d ≡ get_or ps s d = c.index_mut-2.ensures.value in
    let same : c.index.result.now ≡ d = read_same s ps c.index.result.now d lt c.index.ensures here in
    let one : count_in d ≡ 1 = ap count_in (sym same) ∙ sym c.count_of.ensures ∙ c.if-count_of-ne1.false in
    let at : entry_at s (entries ps) ≡ entry_in d = entry_here s ps d lt here in
    let f = c.self.inside.vacant in
    let g' = get same_key c.remove-slot.new.self in
    subst (λ (y : Place). IsKept (Some s) (set ps s y) g' c.saturating_sub-self-inside.result) (sym c.in-Some.ensures.place)
    (kept_gone f ps (get same_key c.self.inside.slots) g' c.self.inside.live c.saturating_sub-self-inside.result s d c.in-Some.entry lt here c.in-Some.ensures.entry c.remove-slot.ensures.updates.0 c.saturating_sub-self-inside.ensures c.self.invariant)

pub returns-in-Some-clause-state : goal.returns-in-Some-clause-state
returns-in-Some-clause-state c =
    let ps : List Place = c.self.inside.places.items in
    let s = c.args.slot in
    let lt : s < length ps = in_range s ps (subst (λ (es : List (Option Entry)). IsSome (entry_at s es)) (sym c.self.view_is) c.requires) in
    let d : Place = c.index_mut-2.result.now in
    let here : d ≡ get_or ps s d = c.index_mut-2.ensures.value in
    let same : c.index.result.now ≡ d = read_same s ps c.index.result.now d lt c.index.ensures here in
    let one : count_in d ≡ 1 = ap count_in (sym same) ∙ sym c.count_of.ensures ∙ c.if-count_of-ne1.false in
    let at : entry_at s (entries ps) ≡ entry_in d = entry_here s ps d lt here in
    ap (λ (y : Place). entries (set ps s y)) c.in-Some.ensures.place
    ∙ entries_set s ps (Vacant c.self.inside.vacant) lower lt (lower_gone d one ∙ ap lower (sym at))
    ∙ ap (lowered s) c.self.view_is

pub returns-in-Some-clause-gives : goal.returns-in-Some-clause-gives
returns-in-Some-clause-gives c =
    let ps : List Place = c.self.inside.places.items in
    let s = c.args.slot in
    let lt : s < length ps = in_range s ps (subst (λ (es : List (Option Entry)). IsSome (entry_at s es)) (sym c.self.view_is) c.requires) in
    let d : Place = c.index_mut-2.result.now in
    let here : d ≡ get_or ps s d = c.index_mut-2.ensures.value in
    let same : c.index.result.now ≡ d = read_same s ps c.index.result.now d lt c.index.ensures here in
    let one : count_in d ≡ 1 = ap count_in (sym same) ∙ sym c.count_of.ensures ∙ c.if-count_of-ne1.false in
    let at : entry_at s (entries ps) ≡ entry_in d = entry_here s ps d lt here in
    gives_gone d c.in-Some.entry c.in-Some.ensures.entry one ∙ ap gives_of (sym at) ∙ ap (gives s) c.self.view_is

pub returns-in-None-clause-state : goal.returns-in-None-clause-state
returns-in-None-clause-state c =
    let ps : List Place = c.self.inside.places.items in
    let s = c.args.slot in
    let lt : s < length ps = in_range s ps (subst (λ (es : List (Option Entry)). IsSome (entry_at s es)) (sym c.self.view_is) c.requires) in
    let d : Place = c.index_mut-2.result.now in
    let here : d ≡ get_or ps s d = c.index_mut-2.ensures.value in
    let same : c.index.result.now ≡ d = read_same s ps c.index.result.now d lt c.index.ensures here in
    let one : count_in d ≡ 1 = ap count_in (sym same) ∙ sym c.count_of.ensures ∙ c.if-count_of-ne1.false in
    let at : entry_at s (entries ps) ≡ entry_in d = entry_here s ps d lt here in
    let no : false ≡ true = ap (λ (x : Option Entry). is_some x) (c.in-None.ensures.entry ∙ sym at ∙ ap (entry_at s) c.self.view_is) ∙ c.requires in
    absurd (cc)

pub returns-in-None-clause-gives : goal.returns-in-None-clause-gives
returns-in-None-clause-gives c =
    let ps : List Place = c.self.inside.places.items in
    let s = c.args.slot in
    let lt : s < length ps = in_range s ps (subst (λ (es : List (Option Entry)). IsSome (entry_at s es)) (sym c.self.view_is) c.requires) in
    let d : Place = c.index_mut-2.result.now in
    let here : d ≡ get_or ps s d = c.index_mut-2.ensures.value in
    let same : c.index.result.now ≡ d = read_same s ps c.index.result.now d lt c.index.ensures here in
    let one : count_in d ≡ 1 = ap count_in (sym same) ∙ sym c.count_of.ensures ∙ c.if-count_of-ne1.false in
    let at : entry_at s (entries ps) ≡ entry_in d = entry_here s ps d lt here in
    let no : false ≡ true = ap (λ (x : Option Entry). is_some x) (c.in-None.ensures.entry ∙ sym at ∙ ap (entry_at s) c.self.view_is) ∙ c.requires in
    absurd (cc)
