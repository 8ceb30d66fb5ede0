-- What the words of the command line say, in the words of clap's definitions.
--
--   option id parser         == an option `--id VALUE` that may stand once, whose value the parser checks
--   nameless a               == the command without a program's name before its words
--   app                      == the command: `--workers N` with N from 1 to 64, `--memo N` with N up to 1,048,576, and
--                               `--make SEED` with any seed of 64 bits
--   texts words              == the bytes of each word
--   faults words             == the kinds of refusal that clap names for the words; none where it takes them
--   accepts words            == clap takes the words
--   number text              == the number of a text of digits, which may begin with a plus sign
--   number_of id words       == the number that the option has there, if it stands there
--   workers_of words         == how many workers, if the words say so
--   memo_of words            == how many values may be remembered: 65,536 where the words do not say
--   seed_of words            == the seed of a made input, if the words say that one is to be made
--
-- Source: this project's own, over the definitions of clap: `fault_of`, `takes`, `matches_of`.
-- The code reads the words by clap's parser; specs/Examples has what comes of some words.
use Rattle.std.specs.Prelude.{ℕ, Bool, true, List, map, Option, Some, option_map, unwrap_or, codes, string_bytes, String}
use Rattle.std.specs.declared.alloc.Global.{Global}
use Rattle.std.specs.Str.Parse.{digits_value, without_leading_plus}
use Rattle.clap.specs.Words.{App, Kinds, Rule, Text, fault_of, matches_of, new_app, new_rule, one_of, takes, with_rule}
use Rattle.clap.specs.declared.builder.ArgAction.TheVariants.{Set}
use Rattle.clap.specs.declared.builder.ValueParser.{ValueParser}
use Rattle.clap.specs.declared.builder.ValueParser.TheVariants.{Unsigned}

abbrev pub option : Text → ValueParser → Rule
option id parser = record (new_rule id) { long = Some id; action = Some Set; parser = Some parser }

abbrev pub nameless : App → App
nameless a = record a { top = record a.top { no_binary_name = true } }

abbrev pub app : App
app = with_rule (with_rule (with_rule (nameless (new_app (codes "bseries")))
    (option (codes "workers") (Unsigned 1 64)))
    (option (codes "memo") (Unsigned 0 1048576)))
    (option (codes "make") (Unsigned 0 18446744073709551615))

abbrev pub texts : List (String Global) → List Text
texts words = map (λ word. string_bytes word) words

unfoldable pub faults : List Text → Kinds
faults words = fault_of app words

unfoldable pub accepts : List Text → Bool
accepts words = takes app words

abbrev pub number : Text → ℕ
number text = digits_value 10 (without_leading_plus text)

unfoldable pub number_of : Text → List Text → Option ℕ
number_of id words = option_map number (one_of id (matches_of app words))

abbrev pub workers_of : List Text → Option ℕ
workers_of = number_of (codes "workers")

abbrev pub memo_of : List Text → ℕ
memo_of words = unwrap_or (number_of (codes "memo") words) 65536

abbrev pub seed_of : List Text → Option ℕ
seed_of = number_of (codes "make")
