-- What contracts see of a stripe of remembered values, and of the whole.
--
--   OfStripe             == a stripe's number, how many stripes there are, its capacity, its entries, the most recently used first,
--                           and its pass
--   with_entries m es    == the stripe with these entries
--   SameStripe m m'      == two moments of a stripe: its numbers, its capacity and its pass's store and number are the same
--   OfMemo               == the numbers of the passes of a memo in their places, and its capacity
--   stripe_for s x       == the stripe of a name among s stripes
--   share_of n i s       == the part of the capacity n that stripe i of s has
--   put m k v            == the entries of a stripe after a value was kept
--   AreRooms n i s cs    == empty tables with room for the shares of the stripes from i on
--   IsEmptyOf t p        == a pass of the store with the table t that holds nothing
--
-- Source: this project's own.
use Rattle.std.specs.Prelude.{◌≡◌, ℕ, suc, ◌+◌, ◌/◌, ◌%◌, max, nat_lt, List, [], ◌∷◌, if◌then◌else◌}
use Rattle.atomic_table.specs.Seated.{TableId}
use Rattle.lru.specs.LruCache.{LruCache, lru_cache, put_entries}
use Rattle.bs_frac.specs.declared.coef.Coef.{Coef}
use Rattle.bs_core.specs.declared.name.Name.{Name}
use Rattle.bs_store.specs.Seats.{OfPass}
use Rattle.bs_store.specs.Walks.{SamePass}
use Rattle.bs_memo.specs.Keys.{OfKey, same_key}

pub record OfStripe : Type 0 where
  pub number : ℕ
  pub stripes : ℕ
  pub capacity : ℕ
  pub entries : List (OfKey × Coef)
  pub pass : OfPass

abbrev pub with_entries : OfStripe → List (OfKey × Coef) → OfStripe
with_entries m es = record { number = m.number; stripes = m.stripes; capacity = m.capacity; entries = es; pass = m.pass }

pub record SameStripe (old new : OfStripe) : Type 0 where
  pub number : new.number ≡ old.number
  pub stripes : new.stripes ≡ old.stripes
  pub capacity : new.capacity ≡ old.capacity
  pub pass : SamePass old.pass new.pass

pub record OfMemo : Type 0 where
  pub numbers : List ℕ
  pub capacity : ℕ

abbrev pub stripe_for : ℕ → Name → ℕ
stripe_for s x = (x.stripe + x.slot % s) % s

abbrev pub share_of : ℕ → ℕ → ℕ → ℕ
share_of n i s = n / s + (if nat_lt i (n % s) then 1 else 0)

abbrev pub put : OfStripe → OfKey → Coef → List (OfKey × Coef)
put m k v = put_entries same_key (lru_cache m.entries m.capacity) k v

abbrev pub AreRooms : ℕ → ℕ → ℕ → List (LruCache OfKey Coef) → Type 0
AreRooms n i s [] = Unit {0}
AreRooms n i s (c ∷ cs) = (c ≡ lru_cache [] (max 1 (share_of n i s))) × AreRooms n (suc i) s cs

abbrev pub IsEmptyOf : TableId → OfPass → Type 0
IsEmptyOf t p = (p.store ≡ t) × (p.held ≡ [])
