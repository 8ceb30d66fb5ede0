-- The rule that ties all stripes of a store to all of its passes, and what a step tells.
--
--   view ts hs          == the view with these tables and these hands; nothing: with none; both v w: two views in one
--   without_last v      == the view without its last hand; last_hand v: that hand alone
--   all_of n m          == the view with n empty tables and m empty hands
--   tables_at, hands_at == how many tables, and how many hands, of a view have this number
--   total f views       == f of each view, added up; below k n: 1 where k < n, else 0
--   state ts hs         == the state of the machine that these tables and hands are
--   Enough ts hs        == the gains are at least the number of all pairs and links; where a count is the greatest, at least that
--   links_at s es       == the links of the first entry of a slot
--   links_under ts q    == the links of the entry of a pair, with the codes of the pair's children
--   Path ts held ps     == the first pair is held, and each further one is a link of the entry of an earlier one
--   Good n ts hs        == the state is canonical, the gains are enough, and each path is one
--   Fits ts hs v        == each table and each hand of the view is that of the state
--   Kept n m views      == there is a good state of n tables and m hands; each view fits it, and each number stands in one view
--   Known v             == the view fits some good state, and has each hand at most once
--   list_in, path_in    == the list, and the path, of the hand of this number in a view; table_in: the table
--   IsStep e            == an Intern, a Hold, a Release or a Give
--   gain_of e           == by how much an event raises the gains of its party
--   moved e v           == the view after an event
--   Local n e v         == the view has the stripe and the parties of the event, with empty paths, and what it has allows the event
--   Looked, Changed e   == what a look tells, and what the step of an event tells
--
-- Source: this project's own.
-- A state stands nowhere in one place: the views of all seats are its parts.
use Rattle.std.specs.Prelude.{◌≡◌, ℕ, zero, suc, ◌+◌, ◌≤◌, ◌==◌, nat_lt, true, List, [], ◌∷◌, ◌++◌, map, length, if◌then◌else◌}
use mathlib.Core.Option.{some}
use lib.ListN.{get_elem?}
use Rattle.atomic_table.specs.Table.{Step, Me}
use Rattle.bs_core.specs.Codes.{children}
use Rattle.bs_core.specs.Machine.{State, state_of, most, pair, code_at, linked, no_table, table_at, party_in, other_in, stripe_in, needs, on_table, on_list}
use Rattle.bs_core.specs.Canonical.{Each, every, Canonical, HasCode}
use Rattle.bs_core.specs.declared.name.Name.{Name}
use Rattle.bs_core.specs.declared.table.Held.{Held}
use Rattle.bs_core.specs.declared.table.Entry.{Entry}
use Rattle.bs_core.specs.declared.table.Table.{Table}
use Rattle.bs_core.specs.declared.event.Event.{Event}
use Rattle.bs_core.specs.declared.event.Event.TheVariants.{Intern, Hold, Release, Give, Look, Keep, Evict}
use Rattle.bs_store.specs.declared.view.Numbered.{Numbered}
use Rattle.bs_store.specs.declared.view.Hand.{Hand}
use Rattle.bs_store.specs.declared.view.View.{View}

-- ---- views
abbrev pub view : List Numbered → List Hand → View
view tables hands = record { tables = tables; hands = hands }

abbrev pub nothing : View
nothing = view [] []

abbrev pub both : View → View → View
both v w = view (v.tables ++ w.tables) (v.hands ++ w.hands)

abbrev pub front : {A : Type 0} → List A → List A
front [] = []
front (x ∷ []) = []
front (x ∷ y ∷ ys) = x ∷ front (y ∷ ys)

abbrev pub lasts : {A : Type 0} → List A → List A
lasts [] = []
lasts (x ∷ []) = x ∷ []
lasts (x ∷ y ∷ ys) = lasts (y ∷ ys)

abbrev pub without_last : View → View
without_last v = view v.tables (front v.hands)

abbrev pub last_hand : View → View
last_hand v = view [] (lasts v.hands)

abbrev pub rest_of : {A : Type 0} → List A → List A
rest_of [] = []
rest_of (x ∷ xs) = xs

abbrev pub first_of : {A : Type 0} → List A → List A
first_of [] = []
first_of (x ∷ xs) = x ∷ []

abbrev pub new_numbered : ℕ → Numbered
new_numbered i = record { number = i; table = no_table }

abbrev pub new_hand : ℕ → Hand
new_hand i = record { number = i; held = []; gains = 0; path = [] }

-- n of them, by their numbers from i on
abbrev pub new_tables : ℕ → ℕ → List Numbered
new_tables i zero = []
new_tables i (suc n) = new_numbered i ∷ new_tables (suc i) n

abbrev pub new_hands : ℕ → ℕ → List Hand
new_hands i zero = []
new_hands i (suc n) = new_hand i ∷ new_hands (suc i) n

abbrev pub all_of : ℕ → ℕ → View
all_of n m = view (new_tables 0 n) (new_hands 0 m)

abbrev pub tables_at : ℕ → List Numbered → ℕ
tables_at k [] = 0
tables_at k (t ∷ ts) = (if k == t.number then 1 else 0) + tables_at k ts

abbrev pub hands_at : ℕ → List Hand → ℕ
hands_at k [] = 0
hands_at k (h ∷ hs) = (if k == h.number then 1 else 0) + hands_at k hs

abbrev pub total : (View → ℕ) → List View → ℕ
total f [] = 0
total f (v ∷ vs) = f v + total f vs

abbrev pub below : ℕ → ℕ → ℕ
below k n = if nat_lt k n then 1 else 0

-- ---- the state
abbrev pub sum_gains : List Hand → ℕ
sum_gains [] = 0
sum_gains (h ∷ hs) = h.gains + sum_gains hs

abbrev pub held_by : List Hand → List (List Held)
held_by [] = []
held_by (h ∷ hs) = h.held ∷ held_by hs

abbrev pub size : List (List Held) → ℕ
size [] = 0
size (l ∷ ls) = length l + size ls

abbrev pub state : List Table → List Hand → State
state tables hands = state_of tables (held_by hands)

abbrev pub Enough : List Table → List Hand → Type 0
Enough tables hands = (size (every (state tables hands)) ≤ sum_gains hands) × Each (λ (t : Table). Each (λ (e : Entry). e.count ≡ most → most ≤ sum_gains hands) t.entries) tables

-- ---- paths
abbrev pub links_at : ℕ → List Entry → List Name
links_at s [] = []
links_at s (e ∷ es) = if s == e.slot then e.links else links_at s es

-- the pair is one of these
abbrev pub Among : Held → List Held → Type 0
Among p ps = (i : ℕ) × (get_elem? ps i ≡ some p)

abbrev pub links_under : List Table → Held → List Held
links_under tables q = linked (links_at q.name.slot (table_at q.name.stripe tables).entries) (children q.code)

-- p is a link of the entry of q
abbrev pub LinkOf : List Table → Held → Held → Type 0
LinkOf tables q p = Among p (links_under tables q)

-- each pair is a link of the entry of an earlier one
abbrev pub Trail : List Table → List Held → List Held → Type 0
Trail tables seen [] = Unit {0}
Trail tables seen (p ∷ ps) = ((q : Held) × Among q seen × LinkOf tables q p) × Trail tables (seen ++ p ∷ []) ps

abbrev pub Path : List Table → List Held → List Held → Type 0
Path tables held [] = Unit {0}
Path tables held (p ∷ ps) = Among p held × Trail tables (p ∷ []) ps

abbrev pub Paths : List Table → List Hand → Type 0
Paths tables hands = Each (λ (h : Hand). Path tables h.held h.path) hands

-- ---- the rule
pub record Good (n : ℕ) (tables : List Table) (hands : List Hand) : Type 0 where
  pub canonical : Canonical n (state tables hands)
  pub enough : Enough tables hands
  pub paths : Paths tables hands

pub record Fits (ts : List Table) (hs : List Hand) (v : View) : Type 0 where
  pub tables : Each (λ (t : Numbered). get_elem? ts t.number ≡ some t.table) v.tables
  pub hands : Each (λ (h : Hand). get_elem? hs h.number ≡ some h) v.hands

pub record Kept (n m : ℕ) (views : List View) : Type 0 where
  pub tables : List Table
  pub hands : List Hand
  pub tables_long : length tables ≡ n
  pub hands_long : length hands ≡ m
  pub good : Good n tables hands
  pub each : Each (Fits tables hands) views
  pub one_table : (k : ℕ) → total (λ v. tables_at k v.tables) views ≡ below k n
  pub one_hand : (k : ℕ) → total (λ v. hands_at k v.hands) views ≡ below k m

pub record Known (v : View) : Type 0 where
  pub n : ℕ
  pub tables : List Table
  pub hands : List Hand
  pub good : Good n tables hands
  pub fits : Fits tables hands v
  pub once : (k : ℕ) → hands_at k v.hands ≤ 1

abbrev pub Looked : Step (Unit {0}) → Me (Unit {0}) View → ℕ → Me (Unit {0}) View → Type 0
Looked s before found now = (now ≡ before) × Known now.0

-- ---- what a view has
abbrev pub list_in : ℕ → List Hand → List Held
list_in k [] = []
list_in k (h ∷ hs) = if k == h.number then h.held else list_in k hs

abbrev pub path_in : ℕ → List Hand → List Held
path_in k [] = []
path_in k (h ∷ hs) = if k == h.number then h.path else path_in k hs

abbrev pub table_in : ℕ → List Numbered → Table
table_in k [] = no_table
table_in k (t ∷ ts) = if k == t.number then t.table else table_in k ts

-- a hand with another path
abbrev pub pathed : List Held → Hand → Hand
pathed p h = record { number = h.number; held = h.held; gains = h.gains; path = p }

-- ---- events
abbrev pub IsStep : Event → Type 0
IsStep (Intern p c n) = Unit {0}
IsStep (Hold p n) = Unit {0}
IsStep (Release p n) = Unit {0}
IsStep (Give p q n) = Unit {0}
IsStep (Look p q n) = ⊥
IsStep (Keep p q n) = ⊥
IsStep (Evict q n) = ⊥

abbrev pub gain_of : Event → ℕ
gain_of (Intern p c n) = 1
gain_of (Hold p n) = 1
gain_of (Release p n) = 0
gain_of (Give p q n) = 0
gain_of (Look p q n) = 0
gain_of (Keep p q n) = 0
gain_of (Evict q n) = 0

-- a hand whose list and gains change
abbrev pub played : ℕ → (List Held → List Held) → Hand → Hand
played gain f h = record { number = h.number; held = f h.held; gains = h.gains + gain; path = h.path }

abbrev pub on_hand : ℕ → ℕ → (List Held → List Held) → Hand → Hand
on_hand k gain f h = if k == h.number then played gain f h else h

abbrev pub other_hands : Event → List Held → List Hand → List Hand
other_hands (Give p q n) l hs = map (on_hand q 0 (λ k. k ++ pair n (code_at n l) ∷ [])) hs
other_hands (Intern p c n) l hs = hs
other_hands (Hold p n) l hs = hs
other_hands (Release p n) l hs = hs
other_hands (Look p q n) l hs = hs
other_hands (Keep p q n) l hs = hs
other_hands (Evict q n) l hs = hs

-- over the table of the event's stripe
abbrev pub on_hands : Event → Table → List Hand → List Hand
on_hands e t hs = other_hands e (list_in (party_in e) hs) (map (on_hand (party_in e) (gain_of e) (on_list e t)) hs)

abbrev pub on_numbered : ℕ → (Table → Table) → Numbered → Numbered
on_numbered s f t = if s == t.number then record { number = t.number; table = f t.table } else t

-- over the list of the event's party
abbrev pub on_tables : Event → List Held → List Numbered → List Numbered
on_tables e l ts = map (on_numbered (stripe_in e) (on_table e l)) ts

abbrev pub moved : Event → View → View
moved e v = view (on_tables e (list_in (party_in e) v.hands) v.tables) (on_hands e (table_in (stripe_in e) v.tables) v.hands)

abbrev pub Changed : Event → Step (Unit {0}) → Me (Unit {0}) View → ℕ → Me (Unit {0}) View → Type 0
Changed e s before found now = (now.0 ≡ moved e before.0) × (now.1 ≡ before.1) × Known now.0

pub record Local (n : ℕ) (e : Event) (v : View) : Type 0 where
  pub step : IsStep e
  pub stripe : 1 ≤ tables_at (stripe_in e) v.tables
  pub first : 1 ≤ hands_at (party_in e) v.hands
  pub second : 1 ≤ hands_at (other_in e) v.hands
  pub first_path : path_in (party_in e) v.hands ≡ []
  pub second_path : path_in (other_in e) v.hands ≡ []
  pub allows : needs n e (list_in (party_in e) v.hands) (table_in (stripe_in e) v.tables) ≡ true
  pub code : HasCode e
