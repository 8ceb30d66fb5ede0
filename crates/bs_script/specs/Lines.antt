-- The lines of an input, with their numbers.
--
--   lines bytes       == the input cut at line feeds; a last line feed begins no further line
--   without_return l  == the line without a carriage return at its end
--   kept_from n ls    == the lines that are not skipped, without that carriage return, each with its number, where the
--                        first of ls has number n
--   Ahead             == the lines that are left, and how many came before them
--   start_of bytes    == all lines of an input
--   kept a            == those of the lines left that are not skipped, with their numbers, which begin at 1
--   last a            == the number of the input's last line, and so of its lines
--   IsFeedAt bytes n  == the first line feed stands at this place
--   IsNext old l new  == l is the next line, without its carriage return
--
-- Source: this project.
-- The code keeps the bytes that are left, and looks for the next line feed in them.
use Rattle.std.specs.Prelude.{ℕ, ◌≡◌, ◌+◌, ◌≢◌, ◌<◌, length, slice_index, List, [], ◌∷◌, ◌==◌, if◌then◌else◌}
use Rattle.std.specs.List.{onto_first}
use Rattle.bs_script.specs.Words.{is_skipped}

abbrev pub lines : List ℕ → List (List ℕ)
lines [] = []
lines (b ∷ bs) = if b == 10 then [] ∷ lines bs else onto_first b (lines bs)

abbrev pub without_return : List ℕ → List ℕ
without_return [] = []
without_return (b ∷ []) = if b == 13 then [] else b ∷ []
without_return (b ∷ c ∷ bs) = b ∷ without_return (c ∷ bs)

abbrev pub kept_from : ℕ → List (List ℕ) → List (ℕ × List ℕ)
kept_from n [] = []
kept_from n (raw ∷ raws) =
    if is_skipped (without_return raw) then kept_from (n + 1) raws
    else (n, without_return raw) ∷ kept_from (n + 1) raws

pub record Ahead : Type 0 where
  pub left : List (List ℕ)
  pub given : ℕ

abbrev pub start_of : List ℕ → Ahead
start_of bytes = record { left = lines bytes; given = 0 }

abbrev pub kept : Ahead → List (ℕ × List ℕ)
kept a = kept_from (a.given + 1) a.left

abbrev pub last : Ahead → ℕ
last a = a.given + length a.left

abbrev pub IsFeedAt : List ℕ → ℕ → Type 0
IsFeedAt bytes n = (n < length bytes) × (slice_index bytes n ≡ 10) × ((k : ℕ) → k < n → slice_index bytes k ≢ 10)

abbrev pub IsNext : Ahead → List ℕ → Ahead → Type 0
IsNext old line new =
    (raw : List ℕ) × (old.left ≡ raw ∷ new.left) × (line ≡ without_return raw) × (new.given ≡ old.given + 1)
