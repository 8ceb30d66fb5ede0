-- What holds of each single view, wherever the rule holds of all. It is the contract of a function of the module `laws`.
--
--   pairs_of hs          == the pairs of the lists and of the paths of all hands
--   IsEntryOf n i m e    == below the mark m, with a code of the stripe i, and a link in its child's stripe for each child
--   IsTableOf n i t      == the slots of a table differ and its codes differ, and each entry is so
--   AgreesOnNames n v    == the tables of a view are so; each pair stands in its code's stripe, and in the entry of its slot and
--                           code where the view has that table; two pairs, or a link and a pair, have one name exactly where they have one code
--   ViewsAgreeOnNames    == where the rule holds over a list of views, each of them agrees on names
--
-- Source: this project's own.
-- A view that is spent has no table and no hand, and agrees too.
use Rattle.std.specs.Prelude.{◌≡◌, ℕ, ◌<◌, ◌≤◌, ◌↔◌, List, [], ◌∷◌, ◌++◌, length}
use mathlib.Core.Option.{some}
use lib.ListN.{get_elem?}
use Rattle.bs_tree.specs.Code.{IsCode}
use Rattle.bs_core.specs.Codes.{Code, children, stripe_of}
use Rattle.bs_core.specs.Machine.{slots, codes, links_of}
use Rattle.bs_core.specs.Canonical.{Each, Has}
use Rattle.bs_core.specs.declared.table.Held.{Held}
use Rattle.bs_core.specs.declared.table.Entry.{Entry}
use Rattle.bs_core.specs.declared.table.Table.{Table}
use Rattle.bs_store.specs.declared.view.Numbered.{Numbered}
use Rattle.bs_store.specs.declared.view.Hand.{Hand}
use Rattle.bs_store.specs.declared.view.View.{View}
use Rattle.bs_store.specs.Rule.{Kept}

abbrev pub pairs_of : List Hand → List Held
pairs_of [] = []
pairs_of (h ∷ hs) = h.held ++ (h.path ++ pairs_of hs)

abbrev pub InStripe : ℕ → Held → Type 0
InStripe n p = p.name.stripe ≡ stripe_of n p.code

pub record IsEntryOf (n i mark : ℕ) (e : Entry) : Type 0 where
  pub below : e.slot < mark
  pub code : IsCode e.code
  pub stripe : stripe_of n e.code ≡ i
  pub full : length e.links ≡ length (children e.code)
  pub links : Each (InStripe n) (links_of e)

pub record IsTableOf (n i : ℕ) (t : Table) : Type 0 where
  pub slots_differ : (s : ℕ) → slots s t.entries ≤ 1
  pub codes_differ : (c : Code) → codes c t.entries ≤ 1
  pub entries : Each (IsEntryOf n i t.mark) t.entries

pub record AgreesOnNames (n : ℕ) (v : View) : Type 0 where
  pub whole : Each (λ (t : Numbered). IsTableOf n t.number t.table) v.tables
  pub stripes : Each (InStripe n) (pairs_of v.hands)
  pub entries : (i j : ℕ) (t : Numbered) (p : Held) → get_elem? v.tables i ≡ some t → get_elem? (pairs_of v.hands) j ≡ some p → p.name.stripe ≡ t.number → Has p.name.slot p.code t.table.entries
  pub pairs : (i j : ℕ) (p q : Held) → get_elem? (pairs_of v.hands) i ≡ some p → get_elem? (pairs_of v.hands) j ≡ some q → ((p.name ≡ q.name) ↔ (p.code ≡ q.code))
  pub links : (i j k l : ℕ) (t : Numbered) (e : Entry) (q p : Held) → get_elem? v.tables i ≡ some t → get_elem? t.table.entries j ≡ some e → get_elem? (links_of e) k ≡ some q → get_elem? (pairs_of v.hands) l ≡ some p
      → ((q.name ≡ p.name) ↔ (q.code ≡ p.code))

abbrev pub ViewsAgreeOnNames : Type 0
ViewsAgreeOnNames = (n m : ℕ) (views : List View) → Kept n m views → Each (AgreesOnNames n) views
