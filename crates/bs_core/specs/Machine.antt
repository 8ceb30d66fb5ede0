-- A store of trees as a machine over events.
--
--   State                == for each stripe a table, for each party a list of pairs (name, code)
--   state_of ts ls       == the state of these tables and these lists
--   opening n m          == n tables with mark 0 and no entry, m empty lists
--   times x l            == how many pairs of a list have the name x
--   code_at x l          == the code of the first of them, a leaf where there is none; without x l: the list without it
--   coded c l            == how many pairs of a list have the code c; name_of c l, without_code c l: of the first of them
--   HasAll cs l          == the list has a pair for each of these codes, a pair being used once; has_all: the test
--   taken cs l, left cs l   == the names of those pairs, and the other pairs
--   slots s es, codes c es  == how many entries have this slot, this code
--   raised, lowered      == the entry of a slot counts one more, or one less; at 0 it leaves; at the type's end it stays
--   added                == a new entry, at the mark or below it
--   links_of e           == the links of an entry, as pairs with the children's codes
--   freed s es           == those of the entry of this slot, where its count falls to 0
--   is_dense s t         == the slot is below the mark, or is the mark while each slot below it has an entry
--   HasParties m e       == the parties that an event names are below m
--   allowed n e g        == what the event needs is there, among n stripes
--   after e g            == what an allowed event does
--   step n e g           == the state after the event and its outcome; run n es g: the state after a list of events
--
-- Source: this project's own.
-- The first pair is the first in the list, and a pair that comes is appended at the end.
use Rattle.std.specs.Prelude.{ℕ, zero, suc, ◌+◌, ◌-◌, ◌<◌, Bool, true, false, ◌&&◌, ◌||◌, ◌==◌, nat_lt, List, [], ◌∷◌, ◌++◌, length, replicate, if◌then◌else◌}
use Rattle.bs_core.specs.Codes.{Code, children, same, stripe_of}
use Rattle.bs_core.specs.declared.name.Name.{Name}
use Rattle.bs_core.specs.declared.table.Held.{Held}
use Rattle.bs_core.specs.declared.table.Entry.{Entry}
use Rattle.bs_core.specs.declared.table.Table.{Table}
use Rattle.bs_core.specs.declared.event.Event.{Event}
use Rattle.bs_core.specs.declared.event.Event.TheVariants.{Intern, Hold, Release, Give, Look, Keep, Evict}
use Rattle.bs_core.specs.declared.event.Outcome.{Outcome}
use Rattle.bs_core.specs.declared.event.Outcome.TheVariants.{Done, NotAllowed}

pub record State : Type 0 where
  pub tables : List Table
  pub lists : List (List Held)

abbrev pub state_of : List Table → List (List Held) → State
state_of ts ls = record { tables = ts; lists = ls }

-- the greatest count, which stays
abbrev pub most : ℕ
most = 18446744073709551615

-- ---- names
abbrev pub no_name : Name
no_name = record { stripe = 0; slot = 0 }

abbrev pub is_name : Name → Name → Bool
is_name a b = (a.stripe == b.stripe) && (a.slot == b.slot)

abbrev pub pair : Name → Code → Held
pair n c = record { name = n; code = c }

-- ---- a list of pairs, by name
abbrev pub times : Name → List Held → ℕ
times n [] = 0
times n (p ∷ ps) = (if is_name n p.name then 1 else 0) + times n ps

abbrev pub code_at : Name → List Held → Code
code_at n [] = (1, 0) ∷ []
code_at n (p ∷ ps) = if is_name n p.name then p.code else code_at n ps

abbrev pub without : Name → List Held → List Held
without n [] = []
without n (p ∷ ps) = if is_name n p.name then ps else p ∷ without n ps

-- ---- and by code
abbrev pub coded : Code → List Held → ℕ
coded c [] = 0
coded c (p ∷ ps) = (if same c p.code then 1 else 0) + coded c ps

abbrev pub name_of : Code → List Held → Name
name_of c [] = no_name
name_of c (p ∷ ps) = if same c p.code then p.name else name_of c ps

abbrev pub without_code : Code → List Held → List Held
without_code c [] = []
without_code c (p ∷ ps) = if same c p.code then ps else p ∷ without_code c ps

abbrev pub HasAll : List Code → List Held → Type 0
HasAll [] l = Unit {0}
HasAll (c ∷ cs) l = (0 < coded c l) × HasAll cs (without_code c l)

abbrev pub has_all : List Code → List Held → Bool
has_all [] l = true
has_all (c ∷ cs) l = nat_lt 0 (coded c l) && has_all cs (without_code c l)

abbrev pub taken : List Code → List Held → List Name
taken [] l = []
taken (c ∷ cs) l = name_of c l ∷ taken cs (without_code c l)

abbrev pub left : List Code → List Held → List Held
left [] l = l
left (c ∷ cs) l = left cs (without_code c l)

-- ---- entries
abbrev pub one_more : ℕ → ℕ
one_more n = if n == most then n else n + 1

abbrev pub raise_in : ℕ → List Entry → List Entry
raise_in s [] = []
raise_in s (e ∷ es) = (if s == e.slot then record { slot = e.slot; code = e.code; links = e.links; count = one_more e.count } else e) ∷ raise_in s es

-- the entry counts one less, and leaves at 0
abbrev pub lower : Entry → List Entry
lower e = if e.count == 1 then [] else (if e.count == most then e ∷ [] else record { slot = e.slot; code = e.code; links = e.links; count = e.count - 1 } ∷ [])

abbrev pub lower_in : ℕ → List Entry → List Entry
lower_in s [] = []
lower_in s (e ∷ es) = if s == e.slot then lower e ++ es else e ∷ lower_in s es

abbrev pub slots : ℕ → List Entry → ℕ
slots s [] = 0
slots s (e ∷ es) = (if s == e.slot then 1 else 0) + slots s es

abbrev pub codes : Code → List Entry → ℕ
codes c [] = 0
codes c (e ∷ es) = (if same c e.code then 1 else 0) + codes c es

-- an entry has this slot and this code
abbrev pub is_entry : ℕ → Code → List Entry → Bool
is_entry s c [] = false
is_entry s c (e ∷ es) = ((s == e.slot) && same c e.code) || is_entry s c es

-- each slot below this one has an entry
abbrev pub is_full_below : ℕ → List Entry → Bool
is_full_below zero es = true
is_full_below (suc s) es = nat_lt 0 (slots s es) && is_full_below s es

-- links with the codes of the children
abbrev pub linked : List Name → List Code → List Held
linked [] cs = []
linked (x ∷ xs) [] = []
linked (x ∷ xs) (c ∷ cs) = pair x c ∷ linked xs cs

abbrev pub links_of : Entry → List Held
links_of e = linked e.links (children e.code)

-- those of an entry that leaves when its count falls
abbrev pub freed_by : Entry → List Held
freed_by e = if e.count == 1 then links_of e else []

abbrev pub freed : ℕ → List Entry → List Held
freed s [] = []
freed s (e ∷ es) = if s == e.slot then freed_by e else freed s es

-- ---- tables
abbrev pub no_table : Table
no_table = record { mark = 0; entries = [] }

abbrev pub raised : ℕ → Table → Table
raised s t = record { mark = t.mark; entries = raise_in s t.entries }

abbrev pub lowered : ℕ → Table → Table
lowered s t = record { mark = t.mark; entries = lower_in s t.entries }

abbrev pub new_entry : ℕ → Code → List Name → Entry
new_entry s c xs = record { slot = s; code = c; links = xs; count = 1 }

abbrev pub added : ℕ → Code → List Name → Table → Table
added s c xs t = record { mark = (if s == t.mark then s + 1 else t.mark); entries = t.entries ++ new_entry s c xs ∷ [] }

-- the entry of a code counts one more, or comes
abbrev pub interned : ℕ → Code → List Name → Table → Table
interned s c xs t = if codes c t.entries == 0 then added s c xs t else raised s t

abbrev pub is_dense : ℕ → Table → Bool
is_dense s t = nat_lt s t.mark || ((s == t.mark) && is_full_below t.mark t.entries)

-- the entry has this slot and code; or no entry has this code, and the slot is vacant and dense
abbrev pub may_enter : ℕ → Code → Table → Bool
may_enter s c t = is_entry s c t.entries || ((codes c t.entries == 0) && ((slots s t.entries == 0) && is_dense s t))

-- ---- places of a list
abbrev pub at_place : {A : Type 0} → ℕ → (A → A) → List A → List A
at_place i f [] = []
at_place zero f (x ∷ xs) = f x ∷ xs
at_place (suc i) f (x ∷ xs) = x ∷ at_place i f xs

abbrev pub list_at : ℕ → List (List Held) → List Held
list_at i [] = []
list_at zero (l ∷ ls) = l
list_at (suc i) (l ∷ ls) = list_at i ls

abbrev pub table_at : ℕ → List Table → Table
table_at i [] = no_table
table_at zero (t ∷ ts) = t
table_at (suc i) (t ∷ ts) = table_at i ts

-- ---- events
-- the name of an event, its stripe, and its first party
abbrev pub name_in : Event → Name
name_in (Intern p c n) = n
name_in (Hold p n) = n
name_in (Release p n) = n
name_in (Give p q n) = n
name_in (Look p q n) = n
name_in (Keep p q n) = n
name_in (Evict q n) = n

abbrev pub stripe_in : Event → ℕ
stripe_in e = (name_in e).stripe

abbrev pub party_in : Event → ℕ
party_in (Intern p c n) = p
party_in (Hold p n) = p
party_in (Release p n) = p
party_in (Give p q n) = p
party_in (Look p q n) = p
party_in (Keep p q n) = p
party_in (Evict q n) = q

-- the second party that it names; the first, where there is no other
abbrev pub other_in : Event → ℕ
other_in (Intern p c n) = p
other_in (Hold p n) = p
other_in (Release p n) = p
other_in (Give p q n) = q
other_in (Look p q n) = q
other_in (Keep p q n) = q
other_in (Evict q n) = q

-- its parties are below this number
abbrev pub HasParties : ℕ → Event → Type 0
HasParties m e = (party_in e < m) × (other_in e < m)

-- what the event needs of the list of its first party and of the table of its stripe
abbrev pub needs : ℕ → Event → List Held → Table → Bool
needs n (Intern p c x) l t = (x.stripe == stripe_of n c) && (has_all (children c) l && may_enter x.slot c t)
needs n (Hold p x) l t = nat_lt 0 (times x l)
needs n (Release p x) l t = nat_lt 0 (times x l)
needs n (Give p q x) l t = nat_lt 0 (times x l)
needs n (Look p q x) l t = nat_lt 0 (times x l)
needs n (Keep p q x) l t = nat_lt 0 (times x l)
needs n (Evict q x) l t = nat_lt 0 (times x l)

-- its parties and its stripe are there, with what it needs
abbrev pub allowed : ℕ → Event → State → Bool
allowed n e g = nat_lt (party_in e) (length g.lists) && (nat_lt (other_in e) (length g.lists) && (nat_lt (stripe_in e) (length g.tables)
    && needs n e (list_at (party_in e) g.lists) (table_at (stripe_in e) g.tables)))

-- what an event does to the table of its stripe, over the list of its party
abbrev pub on_table : Event → List Held → Table → Table
on_table (Intern p c n) l t = interned n.slot c (taken (children c) l) t
on_table (Hold p n) l t = raised n.slot t
on_table (Release p n) l t = lowered n.slot t
on_table (Give p q n) l t = t
on_table (Look p q n) l t = t
on_table (Keep p q n) l t = raised n.slot t
on_table (Evict q n) l t = lowered n.slot t

-- what an event does to the list of its first party, over the table of its stripe
abbrev pub on_list : Event → Table → List Held → List Held
on_list (Intern p c n) t l = (if codes c t.entries == 0 then left (children c) l else l) ++ pair n c ∷ []
on_list (Hold p n) t l = l ++ pair n (code_at n l) ∷ []
on_list (Release p n) t l = without n l ++ freed n.slot t.entries
on_list (Give p q n) t l = without n l
on_list (Look p q n) t l = l
on_list (Keep p q n) t l = l
on_list (Evict q n) t l = without n l ++ freed n.slot t.entries

-- what comes to the second party, over the list of the first
abbrev pub on_other : Event → List Held → List (List Held) → List (List Held)
on_other (Intern p c n) l ls = ls
on_other (Hold p n) l ls = ls
on_other (Release p n) l ls = ls
on_other (Give p q n) l ls = at_place q (λ k. k ++ pair n (code_at n l) ∷ []) ls
on_other (Look p q n) l ls = ls
on_other (Keep p q n) l ls = at_place q (λ k. k ++ pair n (code_at n l) ∷ []) ls
on_other (Evict q n) l ls = ls

-- the state after an event, where the party has this list and the stripe this table
abbrev pub after_by : Event → List Held → Table → State → State
after_by e l t g = record { tables = at_place (stripe_in e) (on_table e l) g.tables; lists = on_other e l (at_place (party_in e) (on_list e t) g.lists) }

abbrev pub after : Event → State → State
after e g = after_by e (list_at (party_in e) g.lists) (table_at (stripe_in e) g.tables) g

-- ---- runs
pub record Stepped : Type 0 where
  pub state : State
  pub outcome : Outcome

-- where what it needs is missing, nothing changes
abbrev pub step : ℕ → Event → State → Stepped
step n e g = if allowed n e g then record { state = after e g; outcome = Done } else record { state = g; outcome = NotAllowed }

abbrev pub run : ℕ → List Event → State → State
run n [] g = g
run n (e ∷ es) g = run n es (step n e g).state

abbrev pub opening : ℕ → ℕ → State
opening n m = record { tables = replicate n no_table; lists = replicate m [] }

-- the number of entries
abbrev pub live : List Table → ℕ
live [] = 0
live (t ∷ ts) = length t.entries + live ts
