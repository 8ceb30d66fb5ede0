-- A stripe does what the machine does on the table of one stripe. The statements are clauses of a function of the module `laws`.
--
--   of_slot s es      == the key and the count of the entry of a slot in a table; none, where there is no entry
--   kept_of t         == the entries of a table by their slots: what a stripe keeps of it
--   RaisesAlike       == one more at a slot of the table is one more at that slot of what is kept
--   LowersAlike       == one less likewise, where no two entries have the slot
--   AddsAlike         == a new entry at a vacant slot, the mark or one below it, likewise: its key has the code's colour and the links
--   DenseAlike        == a slot is dense in the table exactly where it is in what is kept
--   FindsAlike        == in a canonical state the key that a party has for a code is found at the slot of the code's entry, and only there
--
-- Source: this project's own.
use Rattle.std.specs.Prelude.{◌≡◌, ℕ, zero, suc, ◌+◌, ◌≤◌, ◌==◌, ◌↔◌, List, [], ◌∷◌, Option, Some, None, if◌then◌else◌}
use mathlib.Core.Option.{some}
use lib.ListN.{get_elem?}
use Rattle.bs_tree.specs.Code.{IsCode, root_colour}
use Rattle.bs_core.specs.Codes.{Code, children}
use Rattle.bs_core.specs.Keys.{key_of, key_in}
use Rattle.bs_core.specs.Machine as machine
use Rattle.bs_core.specs.Machine.{State, HasAll, slots, list_at}
use Rattle.bs_core.specs.Canonical.{Canonical, Has}
use Rattle.bs_core.specs.declared.name.Name.{Name}
use Rattle.bs_core.specs.declared.table.Table.{Table}
use Rattle.bs_core.specs.declared.table.Entry as table
use Rattle.bs_stripe.specs.Places.{find, raised, lowered, is_dense, added}
use Rattle.bs_stripe.specs.declared.place.Entry.{Entry}

abbrev pub of_slot : ℕ → List table.Entry → Option Entry
of_slot s [] = None
of_slot s (e ∷ es) = if s == e.slot then Some (record { key = key_in e; count = e.count }) else of_slot s es

abbrev pub slots_from : ℕ → ℕ → List table.Entry → List (Option Entry)
slots_from s zero es = []
slots_from s (suc n) es = of_slot s es ∷ slots_from (s + 1) n es

abbrev pub kept_of : Table → List (Option Entry)
kept_of t = slots_from 0 t.mark t.entries

abbrev pub RaisesAlike : Type 0
RaisesAlike = (s : ℕ) (t : Table) → kept_of (machine.raised s t) ≡ raised s (kept_of t)

abbrev pub LowersAlike : Type 0
LowersAlike = (s : ℕ) (t : Table) → slots s t.entries ≤ 1 → kept_of (machine.lowered s t) ≡ lowered s (kept_of t)

abbrev pub AddsAlike : Type 0
AddsAlike = (s : ℕ) (c : Code) (xs : List Name) (t : Table) → slots s t.entries ≡ 0 → s ≤ t.mark
    → kept_of (machine.added s c xs t) ≡ added s (record { colour = root_colour c; children = xs }) (kept_of t)

abbrev pub DenseAlike : Type 0
DenseAlike = (s : ℕ) (t : Table) → is_dense s (kept_of t) ≡ machine.is_dense s t

abbrev pub FindsAlike : Type 0
FindsAlike =
    (n : ℕ) (g : State) (i k s : ℕ) (t : Table) (c : Code) → Canonical n g → IsCode c → HasAll (children c) (list_at i g.lists) → get_elem? g.tables k ≡ some t
    → ((find (key_of c (list_at i g.lists)) (kept_of t) ≡ Some s) ↔ Has s c t.entries)
