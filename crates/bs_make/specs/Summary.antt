-- The summary of a made input and of the text that it gives.
--
--   begins_error line           == the line begins with `error `
--   error_count text            == the number of the text's lines that do
--   folded text                 == F, which is 0 at first; each byte of the text sets it to (31 F + byte) mod 2^64
--   summary_lines seed input text == the seven lines
--   summary_text seed input text  == THE SUMMARY of a seed, its input and the text
--
-- Source: this project.
-- The code goes over the pieces of the text once, and keeps three numbers and how much of `error ` stands before the next byte.
use Rattle.std.specs.Prelude.{◌≡◌, ℕ, ◌+◌, ◌*◌, ◌%◌, ◌^◌, Bool, List, [], ◌∷◌, ◌++◌, length, take, fold, count_by, codes, decimal, refl}
use Rattle.std.specs.Str.{bytes_eq}
use Rattle.bs_script.specs.Lines.{lines}
use Rattle.bs_make.specs.Made.{joined}
use Rattle.bs_make.specs.declared.TheConstants.{MADE_SESSIONS, MADE_COMMANDS}

abbrev pub begins_error : List ℕ → Bool
begins_error line = bytes_eq (take 6 line) (codes "error ")

abbrev pub error_count : List ℕ → ℕ
error_count text = count_by begins_error (lines text)

-- F after one more byte
abbrev pub folded_on : ℕ → ℕ → ℕ
folded_on f byte = (31 * f + byte) % 2 ^ 64

abbrev pub folded : List ℕ → ℕ
folded text = fold folded_on 0 text

unfoldable pub summary_lines : ℕ → List ℕ → List ℕ → List (List ℕ)
summary_lines seed input text =
    (codes "seed " ++ decimal seed)
    ∷ (codes "input " ++ decimal (length input))
    ∷ (codes "sessions " ++ decimal MADE_SESSIONS)
    ∷ (codes "commands " ++ decimal (MADE_SESSIONS * MADE_COMMANDS))
    ∷ (codes "reply " ++ decimal (length text))
    ∷ (codes "errors " ++ decimal (error_count text))
    ∷ (codes "fold " ++ decimal (folded text))
    ∷ []

abbrev pub summary_text : ℕ → List ℕ → List ℕ → List ℕ
summary_text seed input text = joined (summary_lines seed input text)

-- two lines begin so, and one has it in its midst
two_errors : error_count (codes "error 3\nno error 3\nerrors\n\nerror 11\nerror") ≡ 2
two_errors = refl

two_bytes : folded (codes "ab") ≡ 31 * 97 + 98
two_bytes = refl
