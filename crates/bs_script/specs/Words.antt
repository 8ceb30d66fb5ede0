-- The bytes and words of a line of a script.
--
--   is_bad b        == the byte is neither a blank nor one of 0x21 to 0x7E
--   has_bad_byte l  == one of the line's bytes is
--   is_skipped l    == the line has blanks alone, or its first byte that is not a blank is `#`
--   is_alone w ws   == the word is the only one
--   number_to m w   == the value of a NUMBER (`0`, or a digit 1 to 9 and any digits) from 1 to m; None of any other word
--
-- Blanks, and the words of a line, are those of a tableau's rows.
--
-- Source: this project.
-- The code keeps no list of a line's words: it goes from word to word.
use Rattle.std.specs.Prelude.{ℕ, List, [], ◌∷◌, ◌==◌, Bool, true, false, ◌||◌, ◌&&◌, not, nat_le, cond, find, Option, Some, None}
use Rattle.std.specs.Str.{bytes_eq}
use Rattle.std.specs.List.{list_any}
use Rattle.bs_frac.specs.Text.{number_within}
use Rattle.bs_tableau.specs.Words.{is_blank}

abbrev pub is_bad : ℕ → Bool
is_bad b = not (is_blank b || (nat_le 33 b && nat_le b 126))

abbrev pub has_bad_byte : List ℕ → Bool
has_bad_byte line = list_any is_bad line

-- what is left of a line after its leading blanks is nothing, or begins with `#`
abbrev pub begins_comment : Option ℕ → Bool
begins_comment None = true
begins_comment (Some b) = b == 35

abbrev pub is_skipped : List ℕ → Bool
is_skipped line = begins_comment (find (λ b. not (is_blank b)) line)

abbrev pub is_alone : List ℕ → List (List ℕ) → Bool
is_alone word [] = false
is_alone word (w ∷ []) = bytes_eq w word
is_alone word (w ∷ v ∷ ws) = false

abbrev pub not_zero : Option ℕ → Option ℕ
not_zero None = None
not_zero (Some n) = cond (n == 0) None (Some n)

abbrev pub number_to : ℕ → List ℕ → Option ℕ
number_to most word = not_zero (number_within most word)
