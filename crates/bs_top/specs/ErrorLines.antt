-- What is said on errs of a status, and the code that the program ends with.
--
--   error_line s   == the line of a status, with its line feed; nothing where all is done
--   code_of s      == the exit code
--
-- Source: this project.
-- The code writes a line in pieces, so that it takes no memory.
use Rattle.std.specs.Prelude.{ℕ, List, [], ◌++◌, codes, decimal}
use Rattle.bs_script.specs.Reasons.{reason_text}
use Rattle.bs_top.specs.declared.status.Status.{Status}
use Rattle.bs_top.specs.declared.status.Status.TheVariants.{Done, Usage, Refused, ReadFault, WriteFault, NoMemory, TooLong}

abbrev pub error_line : Status → List ℕ
error_line Done = []
error_line Usage = codes "usage: bseries [--workers N] [--memo N] [--make SEED]\n"
error_line (Refused line reason) = codes "bseries: line " ++ decimal line ++ codes ": " ++ reason_text reason ++ codes "\n"
error_line ReadFault = codes "bseries: read failed\n"
error_line WriteFault = codes "bseries: write failed\n"
error_line NoMemory = codes "bseries: out of memory\n"
error_line TooLong = codes "bseries: input too long\n"

abbrev pub code_of : Status → ℕ
code_of Done = 0
code_of Usage = 2
code_of (Refused line reason) = 3
code_of ReadFault = 4
code_of WriteFault = 5
code_of NoMemory = 6
code_of TooLong = 7
