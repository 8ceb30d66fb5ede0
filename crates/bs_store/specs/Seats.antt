-- What contracts see of a room, a pass and a store.
--
--   no_store           == the table of no store; no_event: an event that no one does
--   InRoom             == a stripe's number and table, and the hands that are inside
--   OfPass             == a pass's store and number, what it holds, and what it gained
--   OfStore            == a store's table, and how many stripes and passes it has; OfDesk: a stripe's number and its store's table
--   table_of k t       == the table t alone, with the number k; first_table ts: the first table of a view
--   room_after e r     == the room after an event; with_hands r hs: the room with these hands
--   alone h            == the view with this hand alone; hand_of views: the first hand of the first view
--   IsPass k views     == there is one view, with one hand, whose number is k and whose path is empty, and it is known
--   Agree ps           == two names of a list are equal exactly where their codes are; AgreeBoth ps qs: one of each list
--   Told hs            == each number is that of at most one hand, and gives its list and its path
--   NewPasses t ps     == each place has the new pass of its number
--   Leaves res c links == after a release: an entry of the code c left and its links are these, or none left and these are none
--   Added k s new t t' == the entry of a key has the slot s and counts one more, or is new there; t and t' are what a stripe keeps
--
-- Source: this project's own.
use Rattle.std.specs.Prelude.{◌≡◌, ℕ, ◌<◌, ◌≤◌, List, [], ◌∷◌, length, slice_get, Some, ◌⊎◌, Bool, true, false, IsTrue, Option, None}
use mathlib.Core.Option.{some}
use lib.ListN.{get_elem?}
use Rattle.atomic_table.specs.Seated.{TableId}
use Rattle.bs_tree.specs.Code.{root_colour}
use Rattle.bs_core.specs.Codes.{Code, children}
use Rattle.bs_core.specs.Keys.{Key}
use Rattle.bs_core.specs.Machine.{linked, no_name, no_table, party_in, on_table}
use Rattle.bs_core.specs.Canonical.{Each}
use Rattle.bs_core.specs.declared.table.Held.{Held}
use Rattle.bs_core.specs.declared.table.Table.{Table}
use Rattle.bs_core.specs.declared.event.Event.{Event}
use Rattle.bs_core.specs.declared.event.Event.TheVariants.{Hold}
use Rattle.bs_stripe.specs.Places.{entry_at, find, raised, is_dense, added}
use Rattle.bs_stripe.specs.declared.place.Entry.{Entry}
use Rattle.bs_stripe.specs.declared.stripe.Lowered.{Lowered}
use Rattle.bs_stripe.specs.declared.stripe.Lowered.TheVariants.{Kept, Gone}
use Rattle.bs_store.specs.declared.view.Numbered.{Numbered}
use Rattle.bs_store.specs.declared.view.Hand.{Hand}
use Rattle.bs_store.specs.declared.view.View.{View}
use Rattle.bs_store.specs.Rule.{view, on_hands, Known, hands_at, list_in, path_in}

abbrev pub no_store : TableId
no_store = record { words = 0; slots = 0; views_name = 0; atom = 0; block = 0; offset = 0; slot_names = [] }

abbrev pub no_event : Event
no_event = Hold 0 no_name

-- ---- what is seen
pub record InRoom : Type 0 where
  pub number : ℕ
  pub table : Table
  pub hands : List Hand

pub record OfPass : Type 0 where
  pub store : TableId
  pub number : ℕ
  pub held : List Held
  pub gains : ℕ

pub record OfStore : Type 0 where
  pub table : TableId
  pub stripes : ℕ
  pub passes : ℕ

pub record OfDesk : Type 0 where
  pub table : TableId
  pub number : ℕ

abbrev pub IsAt : TableId → OfDesk → Type 0
IsAt t d = d.table ≡ t

-- ---- rooms
abbrev pub table_of : ℕ → Table → List Numbered
table_of k t = record { number = k; table = t } ∷ []

abbrev pub first_table : List Numbered → Table
first_table [] = no_table
first_table (t ∷ ts) = t.table

abbrev pub room_after : Event → InRoom → InRoom
room_after e r = record { number = r.number; table = on_table e (list_in (party_in e) r.hands) r.table; hands = on_hands e r.table r.hands }

abbrev pub with_hands : InRoom → List Hand → InRoom
with_hands r hs = record { number = r.number; table = r.table; hands = hs }

abbrev pub Told : List Hand → Type 0
Told hs = Each (λ h. (1 ≤ hands_at h.number hs) × (list_in h.number hs ≡ h.held) × (path_in h.number hs ≡ h.path)) hs × ((k : ℕ) → hands_at k hs ≤ 1)

-- ---- passes
abbrev pub alone : Hand → View
alone h = view [] (h ∷ [])

abbrev pub hand : ℕ → List Held → ℕ → Hand
hand k held gains = record { number = k; held = held; gains = gains; path = [] }

abbrev pub nobody : Hand
nobody = hand 0 [] 0

abbrev pub first_hand : List Hand → Hand
first_hand [] = nobody
first_hand (h ∷ hs) = h

abbrev pub hand_of : List View → Hand
hand_of [] = nobody
hand_of (v ∷ vs) = first_hand v.hands

pub record IsPass (number : ℕ) (views : List View) : Type 0 where
  pub one : views ≡ alone (hand_of views) ∷ []
  pub numbered : (hand_of views).number ≡ number
  pub no_path : (hand_of views).path ≡ []
  pub known : Known (alone (hand_of views))

abbrev pub AgreeBoth : List Held → List Held → Type 0
AgreeBoth ps qs = (i j : ℕ) (p q : Held) → get_elem? ps i ≡ some p → get_elem? qs j ≡ some q → (p.name ≡ q.name → p.code ≡ q.code) × (p.code ≡ q.code → p.name ≡ q.name)

abbrev pub Agree : List Held → Type 0
Agree ps = AgreeBoth ps ps

abbrev pub new_pass : TableId → ℕ → OfPass
new_pass t k = record { store = t; number = k; held = []; gains = 0 }

abbrev pub NewPasses : TableId → List OfPass → Type 0
NewPasses t ps = (i : ℕ) → i < length ps → slice_get ps i ≡ Some (new_pass t i)

-- ---- what a change answers
abbrev pub Leaves : Lowered → Code → List Held → Type 0
Leaves Kept c links = links ≡ []
Leaves (Gone k) c links = (k.colour ≡ root_colour c) × (links ≡ linked k.children (children c)) × (length k.children ≡ length (children c))

abbrev pub Added : Key → ℕ → Bool → List (Option Entry) → List (Option Entry) → Type 0
Added k s new es es' = ((find k es ≡ Some s) × (es' ≡ raised s es) × (new ≡ false)) ⊎ ((find k es ≡ None) × (entry_at s es ≡ None) × IsTrue (is_dense s es) × (es' ≡ added s k es) × (new ≡ true))
