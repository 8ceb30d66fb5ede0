use Rattle.std.proofs.Common.{◌≡◌, ◌<◌, ◌++◌, [], ◌∷◌, List, ℕ, Option, None, IsTrue, length, refl, sym, ap, ap₂, ◌∙◌, subst, arith}
use lib.ListN.{set}
use Rattle.std.specs.HashMap.{get}
use Rattle.std.specs.Map.{lookup}
use Rattle.bs_core.specs.Keys.{Key}
use Rattle.bs_core.specs.KeyEquality.{same_key}
use Rattle.bs_stripe.specs.Places.{entry_at, find, new_entry, added, is_dense}
use Rattle.bs_stripe.specs.Chains.{entries}
use Rattle.bs_stripe.specs.declared.place.Entry.{Entry}
use Rattle.bs_stripe.specs.declared.place.Place.{Place}
use Rattle.bs_stripe.proofs.Slots.{long, entries_set, entries_push, vacant_in, full, dense_below, dense_last, vacant_last, added_below, added_last, added_here}
use Rattle.bs_stripe.proofs.Keeping.{first_vacant, filled_as, no_chain, pushed_as, kept_again, one_key, live_small}
use Rattle.bs_stripe.proofs.stripe.Stripe.add.Goals as goal

pub invariant_of-self : goal.invariant_of-self
invariant_of-self c =
    kept_again c.self.inside.vacant c.self.inside.places.items c.reserve-room.new.places.items (get same_key c.self.inside.slots) (get same_key c.reserve-room.new.slots) c.self.inside.live c.reserve-room.ensures.places
    (λ k. ap (lookup (same_key k)) c.in-Err.ensures.err) c.self.invariant

pub index_mut-requires : goal.index_mut-requires
index_mut-requires c =
    let ps : List Place = c.self.inside.places.items in
    let s = c.in-Some.slot in
    let k : Key = c.args.key in
    let f = c.self.inside.vacant in
    let n = c.self.inside.live in
    let g = get same_key c.self.inside.slots in
    let v = first_vacant f s ps g n c.in-Some.is c.self.invariant in
    let in_it = vacant_in s ps v.0 v.2 in
    subst (λ (m : ℕ). s < m) (sym (c.reserve-room.new.places.ok.0 ∙ ap (λ (qs : List Place). length qs) c.reserve-room.ensures.places)) in_it.0

pub overflow_add-self : goal.overflow_add-self
overflow_add-self c =
    let l = live_small c.self.inside.vacant c.self.inside.places.items (get same_key c.self.inside.slots) c.self.inside.live c.self.invariant in
    let room = c.self.inside.places.small in
    let fits = c.self.inside.places.ok.1 in
    let all = c.self.inside.places.ok.0 in omega arith

pub invariant_of-self-in-Some : goal.invariant_of-self-in-Some
invariant_of-self-in-Some c =
    let ps : List Place = c.self.inside.places.items in
    let s = c.in-Some.slot in
    let k : Key = c.args.key in
    let f = c.self.inside.vacant in
    let n = c.self.inside.live in
    let g = get same_key c.self.inside.slots in
    let v = first_vacant f s ps g n c.in-Some.is c.self.invariant in
    let in_it = vacant_in s ps v.0 v.2 in
    let same : c.reserve-room.new.places.items ≡ ps = c.reserve-room.ensures.places in
    let g' = get same_key c.reserve-room.new.slots in
    let none : find k (entries ps) ≡ None = ap (find k) c.self.view_is ∙ c.requires in
    filled_as f c.fill-self-inside.result ps c.reserve-room.new.places.items g g' n s c.index_mut.result.now c.fill-self-inside.new.place k c.in-Some.is same c.fill-self-inside.ensures.place c.fill-self-inside.ensures.next c.index_mut.ensures.value none c.in_default.ensures.ok.0 c.self.invariant

pub invariant_of-self-in-Err-room : goal.invariant_of-self-in-Err-room
invariant_of-self-in-Err-room c =
    kept_again c.self.inside.vacant c.self.inside.places.items c.reserve-room-in-None.new.places.items (get same_key c.self.inside.slots) (get same_key c.reserve-room-in-None.new.slots) c.self.inside.live c.reserve-room-in-None.ensures.places
    (λ k. ap (lookup (same_key k)) c.in-Err-room.ensures.err) c.self.invariant

pub overflow_add-self-in-None : goal.overflow_add-self-in-None
overflow_add-self-in-None c =
    let l = live_small c.self.inside.vacant c.self.inside.places.items (get same_key c.self.inside.slots) c.self.inside.live c.self.invariant in
    let room = c.self.inside.places.small in
    let fits = c.self.inside.places.ok.1 in
    let all = c.self.inside.places.ok.0 in omega arith

pub invariant_of-self-in-None : goal.invariant_of-self-in-None
invariant_of-self-in-None c =
    let ps : List Place = c.self.inside.places.items in
    let s = c.len-slot.result in
    let k : Key = c.args.key in
    let f = c.self.inside.vacant in
    let n = c.self.inside.live in
    let g = get same_key c.self.inside.slots in
    let last : s ≡ length ps = c.len-slot.ensures ∙ c.self.inside.places.ok.0 in
    let last' : s ≡ length (entries ps) = last ∙ sym (long ps) in
    let items : c.push_reserved.new.self.items ≡ ps ++ one_key k ∷ [] = c.push_reserved.ensures.items ∙ ap (λ (qs : List Place). qs ++ one_key k ∷ []) c.reserve-room-in-None.ensures.places in
    let g' = get same_key c.reserve-room-in-None.new.slots in
    let none : find k (entries ps) ≡ None = ap (find k) c.self.view_is ∙ c.requires in
    pushed_as f ps c.push_reserved.new.self.items g g' n s k c.in-None.is last items none c.in_default-room.ensures.ok.0 c.self.invariant

pub returns-in_default-clause-vacant : goal.returns-in_default-clause-vacant
returns-in_default-clause-vacant c =
    let ps : List Place = c.self.inside.places.items in
    let s = c.in-Some.slot in
    let k : Key = c.args.key in
    let f = c.self.inside.vacant in
    let n = c.self.inside.live in
    let g = get same_key c.self.inside.slots in
    let v = first_vacant f s ps g n c.in-Some.is c.self.invariant in
    let in_it = vacant_in s ps v.0 v.2 in
    ap (entry_at s) (sym c.self.view_is) ∙ in_it.1

pub returns-in_default-clause-dense : goal.returns-in_default-clause-dense
returns-in_default-clause-dense c =
    let ps : List Place = c.self.inside.places.items in
    let s = c.in-Some.slot in
    let k : Key = c.args.key in
    let f = c.self.inside.vacant in
    let n = c.self.inside.live in
    let g = get same_key c.self.inside.slots in
    let v = first_vacant f s ps g n c.in-Some.is c.self.invariant in
    let in_it = vacant_in s ps v.0 v.2 in
    subst (λ (es : List (Option Entry)). IsTrue (is_dense s es)) c.self.view_is (dense_below s (entries ps) (subst (λ (m : ℕ). s < m) (sym (long ps)) in_it.0))

pub returns-in_default-clause-ok : goal.returns-in_default-clause-ok
returns-in_default-clause-ok c =
    let ps : List Place = c.self.inside.places.items in
    let s = c.in-Some.slot in
    let k : Key = c.args.key in
    let f = c.self.inside.vacant in
    let n = c.self.inside.live in
    let g = get same_key c.self.inside.slots in
    let v = first_vacant f s ps g n c.in-Some.is c.self.invariant in
    let in_it = vacant_in s ps v.0 v.2 in
    let same : c.reserve-room.new.places.items ≡ ps = c.reserve-room.ensures.places in
    let g' = get same_key c.reserve-room.new.slots in
    let none : find k (entries ps) ≡ None = ap (find k) c.self.view_is ∙ c.requires in
    ap₂ (λ (qs : List Place) (y : Place). entries (set qs s y)) same c.fill-self-inside.ensures.place
    ∙ entries_set s ps (one_key k) (λ _. new_entry k) in_it.0 refl
    ∙ added_below s k (entries ps) (subst (λ (m : ℕ). s < m) (sym (long ps)) in_it.0)
    ∙ ap (added s k) c.self.view_is

pub returns-in_default-room-clause-vacant : goal.returns-in_default-room-clause-vacant
returns-in_default-room-clause-vacant c =
    let ps : List Place = c.self.inside.places.items in
    let s = c.len-slot.result in
    let k : Key = c.args.key in
    let f = c.self.inside.vacant in
    let n = c.self.inside.live in
    let g = get same_key c.self.inside.slots in
    let last : s ≡ length ps = c.len-slot.ensures ∙ c.self.inside.places.ok.0 in
    let last' : s ≡ length (entries ps) = last ∙ sym (long ps) in
    ap (entry_at s) (sym c.self.view_is) ∙ vacant_last s (entries ps) last'

pub returns-in_default-room-clause-dense : goal.returns-in_default-room-clause-dense
returns-in_default-room-clause-dense c =
    let ps : List Place = c.self.inside.places.items in
    let s = c.len-slot.result in
    let k : Key = c.args.key in
    let f = c.self.inside.vacant in
    let n = c.self.inside.live in
    let g = get same_key c.self.inside.slots in
    let last : s ≡ length ps = c.len-slot.ensures ∙ c.self.inside.places.ok.0 in
    let last' : s ≡ length (entries ps) = last ∙ sym (long ps) in
    subst (λ (es : List (Option Entry)). IsTrue (is_dense s es)) c.self.view_is (dense_last s (entries ps) last' (full ps (no_chain f ps g n c.in-None.is c.self.invariant)))

pub returns-in_default-room-clause-ok : goal.returns-in_default-room-clause-ok
returns-in_default-room-clause-ok c =
    let ps : List Place = c.self.inside.places.items in
    let s = c.len-slot.result in
    let k : Key = c.args.key in
    let f = c.self.inside.vacant in
    let n = c.self.inside.live in
    let g = get same_key c.self.inside.slots in
    let last : s ≡ length ps = c.len-slot.ensures ∙ c.self.inside.places.ok.0 in
    let last' : s ≡ length (entries ps) = last ∙ sym (long ps) in
    let items : c.push_reserved.new.self.items ≡ ps ++ one_key k ∷ [] = c.push_reserved.ensures.items ∙ ap (λ (qs : List Place). qs ++ one_key k ∷ []) c.reserve-room-in-None.ensures.places in
    let g' = get same_key c.reserve-room-in-None.new.slots in
    let none : find k (entries ps) ≡ None = ap (find k) c.self.view_is ∙ c.requires in
    ap entries items ∙ entries_push ps (one_key k) ∙ added_last s k (entries ps) last' ∙ ap (added s k) c.self.view_is

pub returns-in_default-clause-here : goal.returns-in_default-clause-here
returns-in_default-clause-here c =
    let ps : List Place = c.self.inside.places.items in
    let s = c.in-Some.slot in
    let v = first_vacant c.self.inside.vacant s ps (get same_key c.self.inside.slots) c.self.inside.live c.in-Some.is c.self.invariant in
    let lt = (vacant_in s ps v.0 v.2).0 in
    let many : length c.args.self.now ≡ length ps = sym (ap (λ (es : List (Option Entry)). length es) c.self.view_is) ∙ long ps in
    ap (entry_at s) (returns-in_default-clause-ok c) ∙ added_here s c.args.key c.args.self.now (omega arith)

pub returns-in_default-room-clause-here : goal.returns-in_default-room-clause-here
returns-in_default-room-clause-here c =
    let ps : List Place = c.self.inside.places.items in
    let s = c.len-slot.result in
    let last : s ≡ length ps = c.len-slot.ensures ∙ c.self.inside.places.ok.0 in
    let many : length c.args.self.now ≡ length ps = sym (ap (λ (es : List (Option Entry)). length es) c.self.view_is) ∙ long ps in
    ap (entry_at s) (returns-in_default-room-clause-ok c) ∙ added_here s c.args.key c.args.self.now (omega arith)
