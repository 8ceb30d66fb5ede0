-- Canonical states of a store.
--
--   Each P l           == P of each element
--   all_times x ls     == how many pairs of all these lists have the name x
--   every g            == the lists of the parties, and for each entry the list of its links
--   Counts             == an entry stands in its code's stripe, below the mark, with one link per child; its count is at
--                         least 1, and is the number of pairs and links with its name, or the greatest count
--   Orderly            == each entry of a table so, and their slots and their codes differ
--   Stands tables p    == an entry with the pair's slot in the pair's stripe has the pair's code
--   Canonical n g      == each table is orderly, and each pair and each link stands
--   HasCode e          == the code of an Intern is a code
--
-- Source: this project's own.
use Rattle.std.specs.Prelude.{◌≡◌, ℕ, ◌+◌, ◌<◌, ◌≤◌, ◌⊎◌, List, [], ◌∷◌, ◌++◌, length}
use mathlib.Core.Option.{some}
use lib.ListN.{get_elem?}
use Rattle.bs_tree.specs.Code.{IsCode}
use Rattle.bs_core.specs.Codes.{Code, children, stripe_of}
use Rattle.bs_core.specs.Machine.{State, most, times, slots, codes, links_of}
use Rattle.bs_core.specs.declared.name.Name.{Name}
use Rattle.bs_core.specs.declared.table.Held.{Held}
use Rattle.bs_core.specs.declared.table.Entry.{Entry}
use Rattle.bs_core.specs.declared.table.Table.{Table}
use Rattle.bs_core.specs.declared.event.Event.{Event}
use Rattle.bs_core.specs.declared.event.Event.TheVariants.{Intern, Hold, Release, Give, Look, Keep, Evict}

abbrev pub Each : {A : Type 0} → (A → Type 0) → List A → Type 0
Each P [] = Unit {0}
Each P (x ∷ xs) = P x × Each P xs

abbrev pub all_times : Name → List (List Held) → ℕ
all_times n [] = 0
all_times n (l ∷ ls) = times n l + all_times n ls

abbrev pub links_each : List Entry → List (List Held)
links_each [] = []
links_each (e ∷ es) = links_of e ∷ links_each es

abbrev pub link_lists : List Table → List (List Held)
link_lists [] = []
link_lists (t ∷ ts) = links_each t.entries ++ link_lists ts

abbrev pub every : State → List (List Held)
every g = g.lists ++ link_lists g.tables

pub record Counts (n i mark : ℕ) (lists : List (List Held)) (e : Entry) : Type 0 where
  pub here : stripe_of n e.code ≡ i
  pub sound : IsCode e.code
  pub below : e.slot < mark
  pub full : length e.links ≡ length (children e.code)
  pub positive : 1 ≤ e.count
  pub counted : (e.count ≡ all_times (record { stripe = i; slot = e.slot }) lists) ⊎ (e.count ≡ most)

pub record Orderly (n : ℕ) (lists : List (List Held)) (i : ℕ) (t : Table) : Type 0 where
  pub entries : Each (Counts n i t.mark lists) t.entries
  pub slots_differ : (s : ℕ) → slots s t.entries ≤ 1
  pub codes_differ : (c : Code) → codes c t.entries ≤ 1

abbrev pub Has : ℕ → Code → List Entry → Type 0
Has s c es = (k : ℕ) × (e : Entry) × (get_elem? es k ≡ some e) × (e.slot ≡ s) × (e.code ≡ c)

abbrev pub Stands : List Table → Held → Type 0
Stands tables p = (t : Table) × (get_elem? tables p.name.stripe ≡ some t) × Has p.name.slot p.code t.entries

pub record Canonical (n : ℕ) (g : State) : Type 0 where
  pub tables : (i : ℕ) (t : Table) → get_elem? g.tables i ≡ some t → Orderly n (every g) i t
  pub pairs : Each (Each (Stands g.tables)) (every g)

abbrev pub HasCode : Event → Type 0
HasCode (Intern p c x) = IsCode c
HasCode (Hold p x) = Unit {0}
HasCode (Release p x) = Unit {0}
HasCode (Give p q x) = Unit {0}
HasCode (Look p q x) = Unit {0}
HasCode (Keep p q x) = Unit {0}
HasCode (Evict q x) = Unit {0}
