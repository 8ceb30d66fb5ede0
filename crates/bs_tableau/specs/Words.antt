-- The words of a line.
--
--   is_blank b == the byte is a space or a tab
--   words l    == the runs of bytes of a line that are not blanks
--   onto_words r ws == a run of bytes without blanks in front of the words after it; an empty run is no word
--   IsFirstBlank l n == a blank stands at this place of the line, and none before it
--
-- Source: this project.
-- The code walks over the line and keeps what is left of it.
use Rattle.std.specs.Prelude.{◌≡◌, ◌<◌, ℕ, List, [], ◌∷◌, length, slice_index, ◌==◌, Bool, true, false, ◌||◌, filter}
use Rattle.std.specs.List.{slice_split}

-- a space or a tab
abbrev pub is_blank : ℕ → Bool
is_blank b = (b == 32) || (b == 9)

abbrev pub is_filled : List ℕ → Bool
is_filled [] = false
is_filled (b ∷ bs) = true

abbrev pub words : List ℕ → List (List ℕ)
words line = filter is_filled (slice_split is_blank line)

-- a run of bytes without blanks, perhaps empty, in front of the words after it
abbrev pub onto_words : List ℕ → List (List ℕ) → List (List ℕ)
onto_words [] ws = ws
onto_words (b ∷ bs) ws = (b ∷ bs) ∷ ws

-- a blank stands at the place, and none before it
pub record IsFirstBlank (text : List ℕ) (at : ℕ) : Type 0 where
  pub within : at < length text
  pub here : is_blank (slice_index text at) ≡ true
  pub before : (k : ℕ) → k < at → is_blank (slice_index text k) ≡ false
