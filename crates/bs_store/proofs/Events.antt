-- The change of a view by an event is that event of the machine.
use Rattle.std.proofs.Common.{◌≡◌, ℕ, List, [], ◌∷◌, ◌++◌, set, Bool, true, refl, sym, ap, ap₂, ◌∙◌}
use mathlib.Core.Option.{some}
use lib.ListN.{get_elem?}
use Rattle.bs_core.specs.Machine.{State, Stepped, step, allowed, after, after_by, at_place, stripe_in, party_in, on_table, on_list, on_other, pair, code_at, without, list_at, table_at}
use Rattle.bs_core.specs.declared.event.Event.{Event}
use Rattle.bs_core.specs.declared.event.Event.TheVariants.{Look, Keep, Evict, Intern, Hold, Release, Give}
use Rattle.bs_core.specs.declared.event.Outcome.TheVariants.{Done}
use Rattle.bs_core.specs.declared.table.Held.{Held}
use Rattle.bs_core.specs.declared.table.Table.{Table}
use Rattle.bs_core.proofs.Runs.{stepped}
use Rattle.bs_store.specs.declared.view.Hand.{Hand}
use Rattle.bs_store.specs.declared.view.View.{View}
use Rattle.bs_store.specs.Rule.{Kept, Local, moved, state, held_by, played, list_in, table_in}
use Rattle.bs_store.specs.Events.{IsChange, ChangesAreEvents}
use Rattle.bs_store.proofs.Turns.{turned, held_at_place}
use Rattle.bs_store.proofs.Changes.{one_pass, two_passes, local_allowed, local_good, own_list, own_table}

-- where the event is allowed, the state after it is that of these tables and hands
reaches : (n : ℕ) (e : Event) (g : State) (l : List Held) (t : Table) (ts' : List Table) (hs' : List Hand) → allowed n e g ≡ true → list_at (party_in e) g.lists ≡ l → table_at (stripe_in e) g.tables ≡ t
    → after_by e l t g ≡ state ts' hs' → step n e g ≡ record { state = state ts' hs'; outcome = Done }
reaches n e g l t ts' hs' may is_list is_table is =
    let start : step n e g ≡ stepped true e g = ap (λ (b : Bool). stepped b e g) may in
    let same : after e g ≡ state ts' hs' = ap₂ (λ (k : List Held) (u : Table). after_by e k u g) is_list is_table ∙ is in
    start ∙ ap (λ (s : State). let r : Stepped = record { state = s; outcome = Done } in r) same

module _ (n m id : ℕ) (e : Event) (v : View) (views : List View) (before : Kept n m views) (at : get_elem? views id ≡ some v) (local : Local n e v) where
  -- from the hands after the event
  change_is : (after : Kept n m (set views id (moved e v))) → after.tables ≡ at_place (stripe_in e) (on_table e (list_in (party_in e) v.hands)) before.tables
      → held_by after.hands ≡ on_other e (list_in (party_in e) v.hands) (at_place (party_in e) (on_list e (table_in (stripe_in e) v.tables)) (held_by before.hands))
      → IsChange n m e before.tables before.hands (set views id (moved e v))
  change_is after tables lists = record {
    after = after;
    event = reaches n e (state before.tables before.hands) (list_in (party_in e) v.hands) (table_in (stripe_in e) v.tables) after.tables after.hands (local_allowed n m id e v views local before at)
        (sym (own_list n m id e v views local before at)) (own_table n m id e v views local before at)
        (ap₂ (λ (us : List Table) (ls : List (List Held)). let g : State = record { tables = us; lists = ls } in g) (sym tables) (sym lists));
  }

pub changes_are : ChangesAreEvents
unfolding one_pass turned two_passes
changes_are n m id (Hold p x) v views before at local =
    let e = Hold p x in
    let l = list_in p v.hands in
    let t = table_in x.stripe v.tables in
    change_is n m id e v views before at local
    (one_pass n m id x.stripe p 1 (on_table e l) (on_list e t) v views before at local.stripe local.first (local_good n m id e v views local before at))
    refl
    (held_at_place p 1 (on_list e t) before.hands)
changes_are n m id (Release p x) v views before at local =
    let e = Release p x in
    let l = list_in p v.hands in
    let t = table_in x.stripe v.tables in
    change_is n m id e v views before at local
    (one_pass n m id x.stripe p 0 (on_table e l) (on_list e t) v views before at local.stripe local.first (local_good n m id e v views local before at))
    refl
    (held_at_place p 0 (on_list e t) before.hands)
changes_are n m id (Intern p c x) v views before at local =
    let e = Intern p c x in
    let l = list_in p v.hands in
    let t = table_in x.stripe v.tables in
    change_is n m id e v views before at local
    (one_pass n m id x.stripe p 1 (on_table e l) (on_list e t) v views before at local.stripe local.first (local_good n m id e v views local before at))
    refl
    (held_at_place p 1 (on_list e t) before.hands)
changes_are n m id (Give p q x) v views before at local =
    let e = Give p q x in
    let l = list_in p v.hands in
    let g : List Held → List Held = λ k. k ++ pair x (code_at x l) ∷ [] in
    change_is n m id e v views before at local (two_passes n m id p q x v views local before at) refl
    (held_at_place q 0 g (at_place p (played 0 (without x)) before.hands) ∙ ap (at_place q g) (held_at_place p 0 (without x) before.hands))
changes_are n m id (Look p q x) v views before at local = absurd local.step
changes_are n m id (Keep p q x) v views before at local = absurd local.step
changes_are n m id (Evict q x) v views before at local = absurd local.step
