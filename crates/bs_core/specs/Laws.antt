-- Laws of the store machine. Each is the contract of a function of the module `laws`.
--
--   IsHeld g i p             == the party i has the pair p
--   NamesDecideTrees g       == pairs of any parties have equal names exactly where their trees are isomorphic
--   EventsKeepCanonical      == the opening state is canonical, and each event, allowed or not, keeps a canonical state
--   NamesDecideIsomorphism   == over every list of events: pairs of any parties have equal names exactly where their trees are isomorphic
--   EqualNamesAreEqualCodes  == so in each canonical state, by their codes
--   LiveNamesKeepTheirTrees  == over every list of events in which a name is always held or linked, it keeps its code
--   OtherListsStay           == an event changes no list but those of the parties that it names
--   KeepIsHoldThenGive       == a Hold and then a Give leave the state of one Keep, the first party's list with the same pairs as often
--   NotAllowedChangesNothing == an event that is not allowed changes nothing
--   KeysDecideCodes          == the key that a party has for a code is the key of an entry exactly where the entry has that code
--
-- Source: this project's own.
use Rattle.std.specs.Prelude.{◌≡◌, ◌≢◌, ℕ, ◌+◌, ◌≤◌, ◌↔◌, ◌&&◌, true, List, [], ◌∷◌, IsTrue, if◌then◌else◌}
use mathlib.Core.Option.{some}
use lib.ListN.{get_elem?}
use Rattle.bs_tree.specs.Code.{tree_of, IsCode}
use Rattle.bs_tree.specs.Isomorphic.{isomorphic}
use Rattle.bs_core.specs.Codes.{Code, children, same}
use Rattle.bs_core.specs.Keys.{key_of, key_in}
use Rattle.bs_core.specs.Machine.{State, step, run, opening, allowed, after, is_name, HasAll, list_at, party_in, other_in}
use Rattle.bs_core.specs.Canonical.{Each, Canonical, HasCode, all_times, every}
use Rattle.bs_core.specs.declared.name.Name.{Name}
use Rattle.bs_core.specs.declared.table.Held.{Held}
use Rattle.bs_core.specs.declared.table.Entry.{Entry}
use Rattle.bs_core.specs.declared.table.Table.{Table}
use Rattle.bs_core.specs.declared.event.Event.{Event}
use Rattle.bs_core.specs.declared.event.Event.TheVariants.{Hold, Give, Keep}
use Rattle.bs_core.specs.declared.event.Outcome.TheVariants.{NotAllowed}

abbrev pub IsHeld : State → ℕ → Held → Type 0
IsHeld g i p = (k : ℕ) × (get_elem? (list_at i g.lists) k ≡ some p)

abbrev pub NamesDecideTrees : State → Type 0
NamesDecideTrees g = (i j : ℕ) (p q : Held) → IsHeld g i p → IsHeld g j q → ((p.name ≡ q.name) ↔ IsTrue (isomorphic (tree_of p.code) (tree_of q.code)))

abbrev pub OpeningIsCanonical : Type 0
OpeningIsCanonical = (n m : ℕ) → Canonical n (opening n m)

abbrev pub EventsKeepCanonical : Type 0
EventsKeepCanonical = (n : ℕ) (e : Event) (g : State) → HasCode e → Canonical n g → Canonical n (step n e g).state

abbrev pub EqualNamesAreEqualCodes : Type 0
EqualNamesAreEqualCodes = (n : ℕ) (g : State) (i j : ℕ) (p q : Held) → Canonical n g → IsHeld g i p → IsHeld g j q → ((p.name ≡ q.name) ↔ (p.code ≡ q.code))

abbrev pub NamesDecideIsomorphism : Type 0
NamesDecideIsomorphism =
    (n m : ℕ) (es : List Event) (i j : ℕ) (p q : Held) → Each HasCode es → IsHeld (run n es (opening n m)) i p → IsHeld (run n es (opening n m)) j q
    → ((p.name ≡ q.name) ↔ IsTrue (isomorphic (tree_of p.code) (tree_of q.code)))

-- the name has a pair or a link in each state on the way
abbrev pub LivesThrough : ℕ → Name → List Event → State → Type 0
LivesThrough n x [] g = Unit {0}
LivesThrough n x (e ∷ es) g = (1 ≤ all_times x (every (step n e g).state)) × LivesThrough n x es (step n e g).state

abbrev pub LiveNamesKeepTheirTrees : Type 0
LiveNamesKeepTheirTrees =
    (n m : ℕ) (es fs : List Event) (i j : ℕ) (p q : Held) → Each HasCode es → Each HasCode fs
    → let before = run n es (opening n m) in let later = run n fs before in
    IsHeld before i p → LivesThrough n p.name fs before → IsHeld later j q → p.name ≡ q.name → p.code ≡ q.code

abbrev pub OtherListsStay : Type 0
OtherListsStay = (n : ℕ) (e : Event) (g : State) (i : ℕ) → i ≢ party_in e → i ≢ other_in e → list_at i (step n e g).state.lists ≡ list_at i g.lists

-- how many pairs of a list have this name and this code
abbrev pub often : Name → Code → List Held → ℕ
often x c [] = 0
often x c (p ∷ ps) = (if is_name x p.name && same c p.code then 1 else 0) + often x c ps

pub record IsOneKeep (n p q : ℕ) (x : Name) (g : State) : Type 0 where
  pub hold : allowed n (Hold p x) g ≡ true
  pub give : allowed n (Give p q x) (after (Hold p x) g) ≡ true
  pub tables : (after (Give p q x) (after (Hold p x) g)).tables ≡ (after (Keep p q x) g).tables
  pub others : (i : ℕ) → i ≢ p → list_at i (after (Give p q x) (after (Hold p x) g)).lists ≡ list_at i (after (Keep p q x) g).lists
  pub first : (y : Name) (c : Code) → often y c (list_at p (after (Give p q x) (after (Hold p x) g)).lists) ≡ often y c (list_at p (after (Keep p q x) g).lists)

abbrev pub KeepIsHoldThenGive : Type 0
KeepIsHoldThenGive = (n p q : ℕ) (x : Name) (g : State) → allowed n (Keep p q x) g ≡ true → IsOneKeep n p q x g

abbrev pub NotAllowedChangesNothing : Type 0
NotAllowedChangesNothing = (n : ℕ) (e : Event) (g : State) → (step n e g).outcome ≡ NotAllowed → (step n e g).state ≡ g

abbrev pub KeysDecideCodes : Type 0
KeysDecideCodes =
    (n : ℕ) (g : State) (i s k : ℕ) (t : Table) (e : Entry) (c : Code) → Canonical n g → IsCode c → HasAll (children c) (list_at i g.lists)
    → get_elem? g.tables s ≡ some t → get_elem? t.entries k ≡ some e → ((key_of c (list_at i g.lists) ≡ key_in e) ↔ (c ≡ e.code))
