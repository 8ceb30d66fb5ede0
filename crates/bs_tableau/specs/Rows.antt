-- The lines of a tableau block: for each colour from 0, one line `a F1 .. Fs` for each of the s rows of its matrix,
-- and then one line `b F1 .. Fs`.
--
--   next_letter t    == the first word of the next line of a table that is not whole: `a` or `b`
--   row_of t line    == the row that the line adds, or the first of these faults that applies:
--                       Missing       its first word is not that letter
--                       BadCount      it has not s further words
--                       BadFraction   one of them is not a fraction
--   with_line t line == the table with that row; where there is a fault, the table as it was
--
-- Source: this project.
-- The code counts the words before it reads one, and reads straight into an array.
use Rattle.std.specs.Prelude.{ℕ, ◌+◌, ◌%◌, ◌==◌, List, [], ◌∷◌, length, cond, Option, Some, None, Result, Ok, Err}
use Rattle.std.specs.Str.{bytes_eq}
use Rattle.bs_frac.specs.Fraction.{Fraction}
use Rattle.bs_frac.specs.Text.{fraction_of}
use Rattle.bs_tableau.specs.Words.{words}
use Rattle.bs_tableau.specs.Table.{Table, with_row}
use Rattle.bs_tableau.specs.declared.builder.TableauFault.{TableauFault}
use Rattle.bs_tableau.specs.declared.builder.TableauFault.TheVariants.{Missing, BadCount, BadFraction}

-- after the rows of a matrix its weights
abbrev pub next_letter : Table → ℕ
next_letter t = cond (length t.rows % (t.stages + 1) == t.stages) 98 97

-- one more fraction in front, where both are read
abbrev pub fraction_and : Option Fraction → Result (List Fraction) TableauFault → Result (List Fraction) TableauFault
fraction_and None row = Err BadFraction
fraction_and (Some x) (Err fault) = Err fault
fraction_and (Some x) (Ok row) = Ok (x ∷ row)

abbrev pub fractions_of : List (List ℕ) → Result (List Fraction) TableauFault
fractions_of [] = Ok []
fractions_of (word ∷ words) = fraction_and (fraction_of word) (fractions_of words)

-- the row in these words, of which the first is this letter and `stages` follow
abbrev pub row_in : ℕ → ℕ → List (List ℕ) → Result (List Fraction) TableauFault
row_in letter stages [] = Err Missing
row_in letter stages (word ∷ words) =
    cond (bytes_eq word (letter ∷ [])) (cond (length words == stages) (fractions_of words) (Err BadCount)) (Err Missing)

abbrev pub row_of : Table → List ℕ → Result (List Fraction) TableauFault
row_of t line = row_in (next_letter t) t.stages (words line)

-- the table after the line with this outcome
abbrev pub after_row : Table → Result (List Fraction) TableauFault → Table
after_row t (Ok row) = with_row t row
after_row t (Err fault) = t

abbrev pub with_line : Table → List ℕ → Table
with_line t line = after_row t (row_of t line)

-- whether a row was read, without the row
abbrev pub outcome_of : Result (List Fraction) TableauFault → Result (Unit {0}) TableauFault
outcome_of (Ok row) = Ok tt
outcome_of (Err fault) = Err fault
