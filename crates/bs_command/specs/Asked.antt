-- The numbers that the words of a command ask for, and the limits on lists of trees.
--
--   number_from_one word  == the value of a NUMBER from 1 (a digit 1 to 9 and any digits); None of any other word
--   number_to most n      == this number, where there is one and it is at most `most`; or what is wrong
--   order_to word         == the number of nodes that the word asks for
--   colours_to word       == the number of colours that the word asks for; 1 where there is no word
--   trees_asked n k       == the order and the number of colours of a list of trees, or the error
--   order_asked most k n  == the order up to which trees of k colours are gone over, where they are at most `most`; or the error
--   order_shared most j k n == the same for trees of both j and k colours, which have to be the same number
--
-- A word that is no such number comes before a number that is too large; too many colours come before too many nodes, and
-- these before too many trees.
--
-- Source: this project. The code stops reading a number beyond the limit.
use Rattle.std.specs.Prelude.{◌≡◌, ℕ, ◌==◌, ◌&&◌, List, Option, Some, None, Result, Ok, Err, nat_lt, if◌then◌else◌, codes, refl}
use Rattle.std.specs.Str.Parse.{digits_value}
use Rattle.bs_frac.specs.Text.{is_number}
use Rattle.bs_tree.specs.declared.TheConstants.{MAX_NODES, COLOURS}
use Rattle.bs_enum.specs.AllTrees.{trees_to}
use Rattle.bs_enum.specs.declared.TheConstants.{MAX_TREES}
use Rattle.bs_command.specs.declared.error.Error.{Error}
use Rattle.bs_command.specs.declared.error.Error.TheVariants.{Number, Colours, TooLarge, TooMany}
use Rattle.bs_command.specs.declared.number.NumberFault.{NumberFault}
use Rattle.bs_command.specs.declared.number.NumberFault.TheVariants.{NoNumber, AboveLimit}

abbrev pub number_from_one : List ℕ → Option ℕ
number_from_one word = if is_number word && nat_lt 0 (digits_value 10 word) then Some (digits_value 10 word) else None

abbrev pub number_to : ℕ → Option ℕ → Result ℕ NumberFault
number_to most None = Err NoNumber
number_to most (Some n) = if nat_lt most n then Err AboveLimit else Ok n

abbrev pub order_to : List ℕ → Result ℕ NumberFault
order_to word = number_to MAX_NODES (number_from_one word)

abbrev pub colours_to : Option (List ℕ) → Result ℕ NumberFault
colours_to None = Ok 1
colours_to (Some word) = number_to COLOURS (number_from_one word)

-- the order, where the trees to it are not too many
abbrev pub few_to : ℕ → ℕ → ℕ → Result ℕ Error
few_to most k n = if nat_lt most (trees_to n k) then Err TooMany else Ok n

abbrev pub order_asked : ℕ → ℕ → Result ℕ NumberFault → Result ℕ Error
order_asked most k (Err NoNumber) = Err Number
order_asked most k (Err AboveLimit) = Err TooLarge
order_asked most k (Ok n) = few_to most k n

abbrev pub order_shared : ℕ → ℕ → ℕ → Result ℕ NumberFault → Result ℕ Error
order_shared most j k (Err NoNumber) = Err Number
order_shared most j k (Err AboveLimit) = if j == k then Err TooLarge else Err Colours
order_shared most j k (Ok n) = if j == k then few_to most k n else Err Colours

-- both numbers, where the trees are not too many
abbrev pub both_asked : ℕ → Result ℕ Error → Result (ℕ × ℕ) Error
both_asked k (Ok n) = Ok (n, k)
both_asked k (Err error) = Err error

abbrev pub trees_asked : Result ℕ NumberFault → Result ℕ NumberFault → Result (ℕ × ℕ) Error
trees_asked (Err NoNumber) colours = Err Number
trees_asked (Err AboveLimit) (Err NoNumber) = Err Number
trees_asked (Err AboveLimit) (Err AboveLimit) = Err Colours
trees_asked (Err AboveLimit) (Ok k) = Err TooLarge
trees_asked (Ok n) (Err NoNumber) = Err Number
trees_asked (Ok n) (Err AboveLimit) = Err Colours
trees_asked (Ok n) (Ok k) = both_asked k (few_to MAX_TREES k n)

-- ---- examples
none : number_from_one (codes "0") ≡ None
none = refl

leading_zero : number_from_one (codes "01") ≡ None
leading_zero = refl

long : order_to (codes "99999999999999999999999") ≡ Err AboveLimit
long = refl

sixteen : order_to (codes "16") ≡ Ok 16
sixteen = refl
