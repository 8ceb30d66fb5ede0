-- How a stripe keeps its places: a vacant one has the number of the next vacant one.
--
--   entry_in p, next_in p  == the entry of a place; the number after a vacant one
--   entries ps             == the entries of all places
--   next_at s ps           == what the place of a slot has in place of an entry
--   Chain f ss ps          == from f on the vacant slots are ss, each with the number of the next
--   IsKept f ps g n        == the chain from f has each vacant slot once; g finds each key, which no two entries share; n entries
--
-- Source: this project's own.
use Rattle.std.specs.Prelude.{◌≡◌, ℕ, zero, suc, ◌+◌, ◌≤◌, ◌==◌, is_some, List, [], ◌∷◌, Option, Some, None, if◌then◌else◌}
use Rattle.bs_core.specs.Keys.{Key}
use Rattle.bs_core.specs.Machine.{one_more}
use Rattle.bs_stripe.specs.Places.{find, keyed, live, one_less}
use Rattle.bs_stripe.specs.declared.place.Entry.{Entry}
use Rattle.bs_stripe.specs.declared.place.Place.{Place}
use Rattle.bs_stripe.specs.declared.place.Place.TheVariants.{Taken, Vacant}

-- ---- one place
abbrev pub entry_in : Place → Option Entry
entry_in (Taken e) = Some e
entry_in (Vacant n) = None

abbrev pub next_in : Place → Option (Option ℕ)
next_in (Taken e) = None
next_in (Vacant n) = Some n

abbrev pub next_of : Place → Option ℕ
next_of (Taken e) = None
next_of (Vacant n) = n

abbrev pub count_in : Place → ℕ
count_in (Taken e) = e.count
count_in (Vacant n) = 0

abbrev pub raise_in : Place → Place
raise_in (Taken e) = Taken (record { key = e.key; count = one_more e.count })
raise_in (Vacant n) = Vacant n

abbrev pub less_in : Place → Place
less_in (Taken e) = Taken (record { key = e.key; count = one_less e.count })
less_in (Vacant n) = Vacant n

-- ---- all of them
abbrev pub entries : List Place → List (Option Entry)
entries [] = []
entries (p ∷ ps) = entry_in p ∷ entries ps

abbrev pub next_at : ℕ → List Place → Option (Option ℕ)
next_at s [] = None
next_at zero (p ∷ ps) = next_in p
next_at (suc s) (p ∷ ps) = next_at s ps

abbrev pub Chain : Option ℕ → List ℕ → List Place → Type 0
Chain f [] ps = f ≡ None
Chain f (s ∷ ss) ps = (f ≡ Some s) × ((n : Option ℕ) × (next_at s ps ≡ Some n) × Chain n ss ps)

abbrev pub among : ℕ → List ℕ → ℕ
among s [] = 0
among s (t ∷ ts) = (if s == t then 1 else 0) + among s ts

pub record IsKept (first : Option ℕ) (ps : List Place) (found : Key → Option ℕ) (many : ℕ) : Type 0 where
  pub chain : List ℕ
  pub leads : Chain first chain ps
  pub once : (s : ℕ) → among s chain ≡ (if is_some (next_at s ps) then 1 else 0)
  pub finds : (k : Key) → found k ≡ find k (entries ps)
  pub differ : (k : Key) → keyed k (entries ps) ≤ 1
  pub counts : many ≡ live (entries ps)
