-- A text that is read byte by byte, and the numbers that are told of it.
--
--   Tally             == the bytes so far, the lines among them that begin with `error `, F, and how many bytes of `error `
--                        the last line consists of; 6 where they are all there, and 7 where the line is another
--   nothing_read      == the tally before the first byte
--   matched_on n byte == how many bytes of `error ` a line consists of, where it did of n before this byte
--   read_on t byte    == the tally after one more byte
--   read_all t bytes  == the tally after more bytes
--
-- Source: this project. That the tally of a text has the numbers of its summary is proved.
use Rattle.std.specs.Prelude.{ℕ, ◌+◌, List, ◌==◌, if◌then◌else◌, slice_index_or, fold, codes}
use Rattle.bs_make.specs.Summary.{folded_on}

pub record Tally : Type 0 where
  pub bytes : ℕ
  pub errors : ℕ
  pub folding : ℕ
  pub matched : ℕ

abbrev pub nothing_read : Tally
nothing_read = record { bytes = 0; errors = 0; folding = 0; matched = 0 }

-- a line feed stands for the byte behind `error `, since no line has one
unfoldable pub matched_on : ℕ → ℕ → ℕ
matched_on n byte =
    if byte == 10 then 0 else (if byte == slice_index_or (codes "error ") n 10 then n + 1 else 7)

unfoldable pub read_on : Tally → ℕ → Tally
read_on t byte = record {
  bytes = t.bytes + 1;
  errors = t.errors + (if matched_on t.matched byte == 6 then 1 else 0);
  folding = folded_on t.folding byte;
  matched = matched_on t.matched byte;
}

abbrev pub read_all : Tally → List ℕ → Tally
read_all t bytes = fold read_on t bytes
