-- The numbers of errors.
--
--   error_number e == the number that the reply to a refused command gives
--   error_of r     == the error of levels and colours that are no tree
--
-- Where several errors apply to a command, the first in this order is given: a first word that is no command, or a third one that is
-- no series; the number of words; a name that stands for nothing; a name that is taken; numbers; levels; colours; sizes; how many trees
-- there are; the value at the empty tree; what has no solution; how deep an expression is; and the length of the replies last.
--
-- Source: this project.
use Rattle.std.specs.Prelude.{ℕ}
use Rattle.bs_levels.specs.Levels.{Refusal, bad_levels, bad_colours, too_large}
use Rattle.bs_command.specs.declared.error.Error.{Error}
use Rattle.bs_command.specs.declared.error.Error.TheVariants.{Command, Words, Name, Taken, Number, Levels, Colours, TooLarge, TooMany, EmptyValue, NotSolvable, Replies, TooDeep}

abbrev pub error_number : Error → ℕ
error_number Command = 1
error_number Words = 2
error_number Name = 3
error_number Taken = 4
error_number Number = 5
error_number Levels = 6
error_number Colours = 7
error_number TooLarge = 8
error_number TooMany = 9
error_number EmptyValue = 10
error_number NotSolvable = 11
error_number Replies = 12
error_number TooDeep = 13

abbrev pub error_of : Refusal → Error
error_of bad_levels = Levels
error_of bad_colours = Colours
error_of too_large = TooLarge
