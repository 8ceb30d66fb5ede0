-- A code as one number, by which two codes are compared at once.
--
--   digit pair  == 4 times the level, and the colour
--   packed code == the number with these digits to the base 128, that of the root lowest
--   unpacked n  == the pairs whose digits n has, from the lowest, and at most MAX_NODES of them
--
--   pair_at key      == the pair of a key, which is a series and the number of a code
--   IsKey key        == its number is that of a code
--   AreKeys entries  == all keys of the entries are such
--   sheet_of entries == the sheet of these entries
--
-- Levels are 1 to 16 and colours 0 to 3, so a digit is 4 to 67, and no digit of a code is 0.
--
-- Source: this project.
use Rattle.std.specs.Prelude.{◌≡◌, ℕ, zero, suc, ◌+◌, ◌*◌, ◌/◌, ◌%◌, ◌==◌, List, [], ◌∷◌, map, if◌then◌else◌, refl}
use Rattle.std.specs.FinMap as finite
use Rattle.std.specs.List.{AllByRecursion}
use Rattle.bs_frac.specs.declared.coef.Coef.{Coef}
use Rattle.bs_tree.specs.declared.TheConstants.{MAX_NODES}
use Rattle.bs_series.specs.SeriesCode.{Code}
use Rattle.bs_alone.specs.Sheet.{Sheet}

abbrev pub digit : ℕ × ℕ → ℕ
digit pair = 4 * pair.0 + pair.1

abbrev pub packed : Code → ℕ
packed [] = 0
packed (pair ∷ pairs) = digit pair + 128 * packed pairs

abbrev pub pair_of : ℕ → ℕ × ℕ
pair_of n = (n / 4, n % 4)

abbrev pub unpacked_to : ℕ → ℕ → Code
unpacked_to zero n = []
unpacked_to (suc most) n = if n == 0 then [] else pair_of (n % 128) ∷ unpacked_to most (n / 128)

unfoldable pub unpacked : ℕ → Code
unpacked n = unpacked_to MAX_NODES n

-- ---- the entries of a search tree
abbrev pub pair_at : ℕ × ℕ → ℕ × Code
pair_at key = (key.0, unpacked key.1)

abbrev pub entry_at : (ℕ × ℕ) × Coef → (ℕ × Code) × Coef
entry_at entry = (pair_at entry.0, entry.1)

abbrev pub IsKey : ℕ × ℕ → Type 0
IsKey key = packed (unpacked key.1) ≡ key.1

abbrev pub AreKeys : List ((ℕ × ℕ) × Coef) → Type 0
AreKeys entries = AllByRecursion (λ entry. IsKey entry.0) entries

abbrev pub sheet_of : List ((ℕ × ℕ) × Coef) → Sheet
sheet_of entries = finite.from_entries (map entry_at entries)

-- ---- examples
-- the tree of three nodes with a root of colour 0 over leaves of colours 1 and 0
bush : packed ((1, 0) ∷ (2, 1) ∷ (2, 0) ∷ []) ≡ 132228
bush = refl

bush_again : unpacked 132228 ≡ (1, 0) ∷ (2, 1) ∷ (2, 0) ∷ []
unfolding unpacked
bush_again = refl
