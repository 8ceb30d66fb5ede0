-- How the code of a held name is read along the links of the store's entries, node by node in preorder.
--
--   OfReader            == what is seen of a reader: its pass, and the pairs that it stands on
--   IsReader k views    == there is one view, with one hand, whose number is k, and it is known
--   of_hand t h         == what is seen of a reader whose hand is h, in a store with the table t
--   step_on x ys t h    == the path with which a hand leaves a room, whose table is t, after a look at x with ys left to read
--   There x held path   == the name is that of a pair of the path; of a held pair, where the path is empty
--   entered x held path == the path with which a look begins: the held pair, where it is empty
--   backwards d xs      == the names in inverse order, each to be read at the depth d
--   kept ps l           == the path with which a look ends: empty where nothing is left to read
--   Looks p c xs ys l m == one look at an entry of the code c: its links are to be read next, and stand in the path
--
--   sunk d c            == the pairs of a code, d levels deeper; all_sunk d cs: those of several codes, one after the other
--   Part                == a subtree that is left to read: its name, its depth and its code
--   marks ps            == what the reader keeps of it
--   spelled ps          == the pairs that are left to read, the last part first
--   On held path q      == the part's pair is on the path; where that is empty, it is a held one
--   Reads               == what holds in the middle: what was read and what is left to read are the code
--
-- Source: this project's own.
-- No list of links is copied to memory: the pending names stand in place, and there are at most as many as nodes.
use Rattle.std.specs.Prelude.{◌≡◌, ℕ, ◌+◌, ◌<◌, ◌≤◌, List, [], ◌∷◌, ◌++◌, length}
use Rattle.atomic_table.specs.Seated.{TableId}
use Rattle.bs_tree.specs.Code.{IsCode}
use Rattle.bs_core.specs.Codes.{Code, children}
use Rattle.bs_core.specs.Machine.{times, code_at, pair, linked}
use Rattle.bs_core.specs.Canonical.{Each}
use Rattle.bs_core.specs.Laws.{often}
use Rattle.bs_core.specs.declared.name.Name.{Name}
use Rattle.bs_core.specs.declared.table.Held.{Held}
use Rattle.bs_store.specs.declared.walk_read.Pending.{Pending}
use Rattle.bs_core.specs.declared.table.Table.{Table}
use Rattle.bs_store.specs.declared.view.Hand.{Hand}
use Rattle.bs_store.specs.declared.view.View.{View}
use Rattle.bs_store.specs.Rule.{Known, links_at}
use Rattle.bs_store.specs.Seats.{OfPass, alone, hand_of}

pub record OfReader : Type 0 where
  pub pass : OfPass
  pub path : List Held

pub record IsReader (number : ℕ) (views : List View) : Type 0 where
  pub one : views ≡ alone (hand_of views) ∷ []
  pub numbered : (hand_of views).number ≡ number
  pub known : Known (alone (hand_of views))

abbrev pub of_hand : TableId → ℕ → Hand → OfReader
of_hand t k h = record { pass = record { store = t; number = k; held = h.held; gains = h.gains }; path = h.path }

-- ---- one look
abbrev pub There : Name → List Held → List Held → Type 0
There x held [] = 0 < times x held
There x held (p ∷ ps) = 0 < times x (p ∷ ps)

abbrev pub entered : Name → List Held → List Held → List Held
entered x held [] = pair x (code_at x held) ∷ []
entered x held (p ∷ ps) = p ∷ ps

abbrev pub backwards : ℕ → List Name → List Pending
backwards d [] = []
backwards d (x ∷ xs) = backwards d xs ++ record { name = x; depth = d } ∷ []

abbrev pub kept : List Pending → List Held → List Held
kept [] l = []
kept (x ∷ xs) l = l

abbrev pub step_on : Name → List Pending → Table → Hand → List Held
step_on x ys t h = kept ys (h.path ++ linked (links_at x.slot t.entries) (children (code_at x h.path)))

pub record Looks (next : Pending) (c : Code) (old new : List Pending) (from to : List Held) : Type 0 where
  pub links : List Name
  pub all : length links ≡ length (children c)
  pub come : new ≡ old ++ backwards (next.depth + 1) links
  pub path : to ≡ kept new (from ++ linked links (children c))

-- ---- in the middle of a walk
abbrev pub sunk : ℕ → Code → Code
sunk d [] = []
sunk d (p ∷ ps) = (d + p.0, p.1) ∷ sunk d ps

abbrev pub all_sunk : ℕ → List Code → Code
all_sunk d [] = []
all_sunk d (c ∷ cs) = sunk d c ++ all_sunk d cs

pub record Part : Type 0 where
  pub name : Name
  pub depth : ℕ
  pub code : Code

abbrev pub marks : List Part → List Pending
marks [] = []
marks (p ∷ ps) = record { name = p.name; depth = p.depth } ∷ marks ps

abbrev pub spelled : List Part → Code
spelled [] = []
spelled (p ∷ ps) = spelled ps ++ sunk p.depth p.code

abbrev pub On : List Held → List Held → Part → Type 0
On held [] q = 1 ≤ often q.name q.code held
On held (p ∷ ps) q = 1 ≤ often q.name q.code (p ∷ ps)

pub record Reads (c : Code) (held path : List Held) (read : Code) (pending : List Pending) : Type 0 where
  pub parts : List Part
  pub marked : marks parts ≡ pending
  pub on : Each (On held path) parts
  pub codes : Each (λ q. IsCode q.code) parts
  pub shallow : Each (λ q. q.depth ≤ length read) parts
  pub whole : read ++ spelled parts ≡ c
  pub first : path ≡ [] → length parts ≤ 1
  pub last : pending ≡ [] → path ≡ []
