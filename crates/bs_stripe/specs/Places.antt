-- The entries of one stripe by their slots.
--
--   List (Option Entry)    == for each slot below the mark its entry, or none where it is vacant
--   entry_at s es          == the entry of a slot; none where it is vacant or not below the mark
--   how_many f es          == how many slots pass a test
--   has_key k x            == there is an entry, and it has the key k
--   find k es              == the first slot whose entry has the key k; keyed k es: how many have it
--   live es                == how many slots have an entry
--   raised, lowered        == the entry of a slot counts one more, or one less; at 0 it leaves; at the type's end it stays
--   gives s es             == what leaves when the entry of a slot counts one less: its key, or nothing
--   is_dense s es          == the slot is below the mark, or is the mark while each slot below it has an entry
--   added s k es           == a new entry at a slot, which may be the mark
--
-- Source: this project's own.
use Rattle.std.specs.Prelude.{ℕ, zero, suc, ◌+◌, ◌-◌, Bool, true, false, ◌==◌, ◌&&◌, ◌||◌, nat_lt, is_some, List, [], ◌∷◌, ◌++◌, length, Option, Some, None, if◌then◌else◌}
use Rattle.bs_core.specs.Keys.{Key}
use Rattle.bs_core.specs.KeyEquality.{same_key}
use Rattle.bs_core.specs.Machine.{most, one_more, at_place}
use Rattle.bs_stripe.specs.declared.place.Entry.{Entry}
use Rattle.bs_stripe.specs.declared.stripe.Lowered.{Lowered}
use Rattle.bs_stripe.specs.declared.stripe.Lowered.TheVariants.{Kept, Gone}

abbrev pub entry_at : ℕ → List (Option Entry) → Option Entry
entry_at s [] = None
entry_at zero (x ∷ xs) = x
entry_at (suc s) (x ∷ xs) = entry_at s xs

abbrev pub how_many : (Option Entry → Bool) → List (Option Entry) → ℕ
how_many f [] = 0
how_many f (x ∷ xs) = (if f x then 1 else 0) + how_many f xs

-- ---- by key
abbrev pub has_key : Key → Option Entry → Bool
has_key k None = false
has_key k (Some e) = same_key k e.key

abbrev pub find_from : ℕ → Key → List (Option Entry) → Option ℕ
find_from i k [] = None
find_from i k (x ∷ xs) = if has_key k x then Some i else find_from (i + 1) k xs

abbrev pub find : Key → List (Option Entry) → Option ℕ
find k es = find_from 0 k es

abbrev pub keyed : Key → List (Option Entry) → ℕ
keyed k es = how_many (has_key k) es

-- ---- by slot
abbrev pub live : List (Option Entry) → ℕ
live es = how_many is_some es

abbrev pub one_less : ℕ → ℕ
one_less n = if n == most then n else n - 1

abbrev pub raise : Option Entry → Option Entry
raise None = None
raise (Some e) = Some (record { key = e.key; count = one_more e.count })

abbrev pub lower : Option Entry → Option Entry
lower None = None
lower (Some e) = if e.count == 1 then None else Some (record { key = e.key; count = one_less e.count })

abbrev pub raised : ℕ → List (Option Entry) → List (Option Entry)
raised s es = at_place s raise es

abbrev pub lowered : ℕ → List (Option Entry) → List (Option Entry)
lowered s es = at_place s lower es

abbrev pub gives_of : Option Entry → Lowered
gives_of None = Kept
gives_of (Some e) = if e.count == 1 then Gone e.key else Kept

abbrev pub gives : ℕ → List (Option Entry) → Lowered
gives s es = gives_of (entry_at s es)

-- ---- a new entry
abbrev pub all_taken : List (Option Entry) → Bool
all_taken [] = true
all_taken (x ∷ xs) = is_some x && all_taken xs

abbrev pub is_dense : ℕ → List (Option Entry) → Bool
is_dense s es = nat_lt s (length es) || ((s == length es) && all_taken es)

abbrev pub new_entry : Key → Option Entry
new_entry k = Some (record { key = k; count = 1 })

abbrev pub added : ℕ → Key → List (Option Entry) → List (Option Entry)
added s k es = if s == length es then es ++ new_entry k ∷ [] else at_place s (λ _. new_entry k) es
