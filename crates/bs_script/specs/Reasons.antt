-- Why a line is refused, in words.
--
--   reason_text r == the text of a reason
--
-- Source: this project.
use Rattle.std.specs.Prelude.{ℕ, List, codes}
use Rattle.bs_script.specs.declared.reason.Reason.{Reason}
use Rattle.bs_script.specs.declared.reason.Reason.TheVariants.{Byte, Word, Format, TooMany, Name, Count, Fraction, Missing, End}

abbrev pub reason_text : Reason → List ℕ
reason_text Byte = codes "bad byte"
reason_text Word = codes "unknown line"
reason_text Format = codes "unknown format"
reason_text TooMany = codes "too many"
reason_text Name = codes "name taken"
reason_text Count = codes "bad count"
reason_text Fraction = codes "bad fraction"
reason_text Missing = codes "line missing"
reason_text End = codes "end missing"
