-- A change is an event of the machine.
--
--   IsChange n m e ts hs new  == the views fit a good state, and the event e, which is allowed, leads to it from the state of ts and hs
--   ChangesAreEvents          == where the rule holds over a list of views, and one of them has what an event needs, the change
--                                of that view by the event is so, from the state that the views fit
--
-- Source: this project's own.
-- The state is that of all stripes and all passes, those that no step reaches too.
use Rattle.std.specs.Prelude.{◌≡◌, ℕ, List, set}
use mathlib.Core.Option.{some}
use lib.ListN.{get_elem?}
use Rattle.bs_core.specs.Machine.{step}
use Rattle.bs_core.specs.declared.table.Table.{Table}
use Rattle.bs_core.specs.declared.event.Event.{Event}
use Rattle.bs_core.specs.declared.event.Outcome.TheVariants.{Done}
use Rattle.bs_store.specs.declared.view.Hand.{Hand}
use Rattle.bs_store.specs.declared.view.View.{View}
use Rattle.bs_store.specs.Rule.{Kept, Local, moved, state}

pub record IsChange (n m : ℕ) (e : Event) (ts : List Table) (hs : List Hand) (new : List View) : Type 0 where
  pub after : Kept n m new
  pub event : step n e (state ts hs) ≡ record { state = state after.tables after.hands; outcome = Done }

abbrev pub ChangesAreEvents : Type 0
ChangesAreEvents =
    (n m id : ℕ) (e : Event) (v : View) (views : List View) → (before : Kept n m views) → get_elem? views id ≡ some v → Local n e v
    → IsChange n m e before.tables before.hands (set views id (moved e v))
