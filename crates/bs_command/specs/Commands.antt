-- What each command answers: its reply with what is known after it, or the error by which it is refused.
--
--   Outcome                  == what is known after the command and its reply, or the error
--   only, two, one_or_two, two_or_three == the words of a command that has so many
--   taken o f, found o f     == what f answers for the words or for what a name stands for; an error where there are none
--   asked r f                == what f answers for what was asked for, or the error
--   tree_command known ws    == `tree NAME LEVELS [COLOURS]` names a tree
--   drop_command known ws    == `drop NAME` frees the name of a tree
--   same_command known ws    == `same A B` tells whether two trees are isomorphic
--   info_command known ws    == `info T` gives order, symmetry, density and alpha of a tree
--   weight_command ts k ws   == `weight TABLEAU T` gives the elementary weight of a tree, as it is written
--   trees_command known ws   == `trees P [K]` lists the trees of order P with K colours
--   conditions_command ts k ws == `conditions TABLEAU P` lists the order conditions of a method for the trees to order P
--   order_command ts k ws    == `order TABLEAU P` gives the order of a method, as far as P
--   split_command known ws   == `split T` lists the splittings of a tree
--   partition_command known ws == `partition T` lists its partitions
--   series_command ts k ws   == `series NAME KIND ..` names a series: the flow, the identity or the average vector field method of so many
--                               colours, a method, or what an operation makes of series that have names
--   coeff_command ts k ws    == `coeff S T` gives the coefficient of a series at a tree, as it is written
--   print_command ts k ws    == `print S P` gives its coefficients at the trees to order P
--   equal_command ts k ws    == `equal S1 S2 P` compares two series to order P
--   command ts known ws      == what the command of these words answers, where the tableaux ts are seen
--
-- The words ws of a command are those behind its first word. A name that stands for nothing comes before one that is taken.
--
-- Source: this project; the notions are those of the crates below (Butcher 2021; Hairer, Norsett and Wanner 1993).
-- The code is one function a command, which writes the reply as it finds it.
use Rattle.std.specs.Prelude.{ℕ, Bool, List, [], ◌∷◌, length, Option, Some, None, Result, Ok, Err, nat_lt, if◌then◌else◌}
use Rattle.std.specs.List.{list_all}
use Rattle.bs_frac.specs.Fraction.{Fraction}
use Rattle.bs_frac.specs.Text.{fraction_of}
use Rattle.bs_frac.specs.Written.{checked}
use Rattle.bs_tree.specs.Tree.{Tree as Shape}
use Rattle.bs_tree.specs.Isomorphic.{isomorphic}
use Rattle.bs_tree.specs.Canonical.{canonical_sequence}
use Rattle.bs_tree.specs.Numbers.{symmetry, density, alpha}
use Rattle.bs_tree.specs.Code.{tree_of}
use Rattle.bs_levels.specs.Levels.{tree_of_words, Refusal}
use Rattle.bs_tableau.specs.Table.{Table}
use Rattle.bs_tableau.specs.WrittenWeight.{written_weight}
use Rattle.bs_series.specs.Series.{Series, exact, identity, average, method, compose, inverse, adjoint, substitute, modified, modifying, scale, empty_value, colours_of}
use Rattle.bs_series.specs.Value.{table_at}
use Rattle.bs_series.specs.SeriesCode.{written_at}
use Rattle.bs_listing.specs.Items.{split_reply, partition_reply}
use Rattle.bs_reply.specs.Lines.{tree_line, drop_line, same_line, info_line, weight_line, series_line, coeff_line}
use Rattle.bs_command.specs.Errors.{error_of}
use Rattle.bs_names.specs.Names.{at}
use Rattle.bs_names.specs.Known.{Known, Tables, with_tree, without_tree, with_series, is_taken, plain, number_of}
use Rattle.bs_command.specs.Verbs.{verb_of}
use Rattle.bs_command.specs.Asked.{order_to, colours_to, trees_asked, order_asked, order_shared}
use Rattle.bs_order.specs.OrderConditions.{trees_reply, conditions_reply, order_reply}
use Rattle.bs_command.specs.Acceptance.{made_of}
use Rattle.bs_command.specs.Operations.{operation_of}
use Rattle.bs_work.specs.SeriesReplies.{print_reply, equal_reply}
use Rattle.bs_order.specs.declared.TheConstants.{MAX_CONDITIONS}
use Rattle.bs_command.specs.declared.TheConstants.{MAX_COEFF_ORDER}
use Rattle.bs_command.specs.declared.number.NumberFault.{NumberFault}
use Rattle.bs_command.specs.declared.number.NumberFault.TheVariants.{NoNumber, AboveLimit}
use Rattle.bs_command.specs.declared.operation.Operation.{Operation}
use Rattle.bs_command.specs.declared.operation.Operation.TheVariants.{Exact, Identity, Average, Method, Compose, Inverse, Adjoint, Substitute, Modified, Modifying, Scale}
use Rattle.bs_command.specs.declared.verb.Verb.{Verb}
use Rattle.bs_command.specs.declared.verb.Verb.TheVariants.{Tree, Drop, Same, Info, Weight, Trees, Conditions, Order, Split, Partition, Series as Series_, Coeff, Print, Equal}
use Rattle.bs_command.specs.declared.error.Error.{Error}
use Rattle.bs_command.specs.declared.error.Error.TheVariants.{Command, Words, Name, Taken, Number, Colours, TooLarge}

abbrev pub Outcome : Type 0
Outcome = Result (Known × List ℕ) Error

-- ---- words
abbrev pub only : List (List ℕ) → Option (List ℕ)
only [] = None
only (a ∷ []) = Some a
only (a ∷ b ∷ ws) = None

abbrev pub two : List (List ℕ) → Option (List ℕ × List ℕ)
two [] = None
two (a ∷ []) = None
two (a ∷ b ∷ []) = Some (a, b)
two (a ∷ b ∷ c ∷ ws) = None

abbrev pub one_or_two : List (List ℕ) → Option (List ℕ × Option (List ℕ))
one_or_two [] = None
one_or_two (a ∷ []) = Some (a, None)
one_or_two (a ∷ b ∷ []) = Some (a, Some b)
one_or_two (a ∷ b ∷ c ∷ ws) = None

abbrev pub two_or_three : List (List ℕ) → Option (List ℕ × List ℕ × Option (List ℕ))
two_or_three [] = None
two_or_three (a ∷ []) = None
two_or_three (a ∷ b ∷ []) = Some (a, b, None)
two_or_three (a ∷ b ∷ c ∷ []) = Some (a, b, Some c)
two_or_three (a ∷ b ∷ c ∷ d ∷ ws) = None

abbrev pub none_or_one : List (List ℕ) → Option (Option (List ℕ))
none_or_one [] = Some None
none_or_one (a ∷ []) = Some (Some a)
none_or_one (a ∷ b ∷ ws) = None

abbrev pub three : List (List ℕ) → Option (List ℕ × List ℕ × List ℕ)
three [] = None
three (a ∷ []) = None
three (a ∷ b ∷ []) = None
three (a ∷ b ∷ c ∷ []) = Some (a, b, c)
three (a ∷ b ∷ c ∷ d ∷ ws) = None

-- what is answered for these words, where there are so many
abbrev pub taken : {X : Type 0} → Option X → (X → Outcome) → Outcome
taken None answer = Err Words
taken (Some words) answer = answer words

-- what is answered for what a name stands for, where it stands for something
abbrev pub found : {X : Type 0} → Option X → (X → Outcome) → Outcome
found None answer = Err Name
found (Some x) answer = answer x

-- what is answered for what was asked for, where that can be given
abbrev pub asked : {X : Type 0} → Result X Error → (X → Outcome) → Outcome
asked (Err error) answer = Err error
asked (Ok x) answer = answer x

-- ---- tree NAME LEVELS [COLOURS]
abbrev pub tree_made : Known → List ℕ → Result Shape Refusal → Outcome
tree_made known name (Ok t) = Ok (with_tree known name (canonical_sequence t), tree_line name (canonical_sequence t))
tree_made known name (Err refusal) = Err (error_of refusal)

abbrev pub tree_under : Known → List ℕ → List ℕ → Option (List ℕ) → Outcome
tree_under known name levels colours =
    if is_taken known name then Err Taken else tree_made known name (tree_of_words levels colours)

abbrev pub tree_command : Known → List (List ℕ) → Outcome
tree_command known ws = taken (two_or_three ws) (λ w. tree_under known w.0 w.1 w.2)

-- ---- drop NAME
abbrev pub drop_command : Known → List (List ℕ) → Outcome
drop_command known ws =
    taken (only ws) (λ name. found (known.trees name) (λ code. Ok (without_tree known name, drop_line name)))

-- ---- same A B
abbrev pub same_reply : List (ℕ × ℕ) → List (ℕ × ℕ) → List ℕ
same_reply a b = same_line (isomorphic (tree_of a) (tree_of b))

abbrev pub same_command : Known → List (List ℕ) → Outcome
same_command known ws =
    taken (two ws) (λ w. found (known.trees w.0) (λ a. found (known.trees w.1) (λ b. Ok (known, same_reply a b))))

-- ---- info T
abbrev pub info_reply : List (ℕ × ℕ) → List ℕ
info_reply code = let t = tree_of code in info_line code (symmetry t) (density t) (alpha t)

abbrev pub info_command : Known → List (List ℕ) → Outcome
info_command known ws = taken (only ws) (λ name. found (known.trees name) (λ code. Ok (known, info_reply code)))

-- ---- weight TABLEAU T
abbrev pub has_colours : ℕ → List (ℕ × ℕ) → Bool
has_colours colours code = list_all (λ pair. nat_lt pair.1 colours) code

abbrev pub weight_of : Known → Table → List (ℕ × ℕ) → Outcome
weight_of known table code =
    if has_colours table.colours code then Ok (known, weight_line (written_weight checked table (tree_of code))) else Err Colours

abbrev pub weight_command : Tables → Known → List (List ℕ) → Outcome
weight_command tables known ws =
    taken (two ws) (λ w. found (at w.0 tables) (λ table. found (known.trees w.1) (λ code. weight_of known table code)))

-- ---- trees P [K]
abbrev pub trees_command : Known → List (List ℕ) → Outcome
trees_command known ws =
    taken (one_or_two ws) (λ w. asked (trees_asked (order_to w.0) (colours_to w.1)) (λ p. Ok (known, trees_reply p.0 p.1)))

-- ---- conditions TABLEAU P
abbrev pub conditions_of : Known → List ℕ → Table → Outcome
conditions_of known order table =
    asked (order_asked MAX_CONDITIONS table.colours (order_to order)) (λ p. Ok (known, conditions_reply table p))

abbrev pub conditions_command : Tables → Known → List (List ℕ) → Outcome
conditions_command tables known ws = taken (two ws) (λ w. found (at w.0 tables) (λ table. conditions_of known w.1 table))

-- ---- order TABLEAU P
abbrev pub order_under : Known → List ℕ → Table → Outcome
order_under known order table =
    asked (order_asked MAX_CONDITIONS table.colours (order_to order)) (λ p. Ok (known, order_reply table p))

abbrev pub order_command : Tables → Known → List (List ℕ) → Outcome
order_command tables known ws = taken (two ws) (λ w. found (at w.0 tables) (λ table. order_under known w.1 table))

-- ---- split T
abbrev pub split_command : Known → List (List ℕ) → Outcome
split_command known ws = taken (only ws) (λ name. found (known.trees name) (λ code. Ok (known, split_reply code)))

-- ---- partition T
abbrev pub partition_command : Known → List (List ℕ) → Outcome
partition_command known ws = taken (only ws) (λ name. found (known.trees name) (λ code. Ok (known, partition_reply code)))

-- ---- series NAME KIND ..
abbrev pub named : Known → List ℕ → Series → Outcome
named known name s = Ok (with_series known name s, series_line name (empty_value s) (colours_of s))

-- the series, where the name is free
abbrev pub under : Known → List ℕ → Result Series Error → Outcome
under known name made = if is_taken known name then Err Taken else asked made (named known name)

abbrev pub coloured : (ℕ → Series) → Result ℕ NumberFault → Result Series Error
coloured make (Err NoNumber) = Err Number
coloured make (Err AboveLimit) = Err Colours
coloured make (Ok k) = Ok (make k)

abbrev pub scaled : List Table → Series → Option Fraction → Result Series Error
scaled tables s None = Err Number
scaled tables s (Some c) = made_of tables (scale s c)

-- a series of so many colours
abbrev pub of_colours : Known → List ℕ → List (List ℕ) → (ℕ → Series) → Outcome
of_colours known name ws make = taken (none_or_one ws) (λ w. under known name (coloured make (colours_to w)))

-- the series of a tableau
abbrev pub of_tableau : Tables → Known → List ℕ → List (List ℕ) → Outcome
of_tableau tables known name ws =
    taken (only ws) (λ w. found (number_of w tables) (λ n. under known name (Ok (method n (table_at (plain tables) n).colours))))

-- what an operation makes of one series, or of two
abbrev pub of_one : Tables → Known → List ℕ → List (List ℕ) → (Series → Series) → Outcome
of_one tables known name ws make =
    taken (only ws) (λ w. found (known.series w) (λ s. under known name (made_of (plain tables) (make s))))

abbrev pub of_two : Tables → Known → List ℕ → List (List ℕ) → (Series → Series → Series) → Outcome
of_two tables known name ws make =
    taken (two ws) (λ w. found (known.series w.0) (λ s. found (known.series w.1) (λ t. under known name (made_of (plain tables) (make s t)))))

abbrev pub of_factor : Tables → Known → List ℕ → List (List ℕ) → Outcome
of_factor tables known name ws =
    taken (two ws) (λ w. found (known.series w.0) (λ s. under known name (scaled (plain tables) s (fraction_of w.1))))

abbrev pub made_by : Tables → Known → List ℕ → Option Operation → List (List ℕ) → Outcome
made_by tables known name None ws = Err Command
made_by tables known name (Some Exact) ws = of_colours known name ws exact
made_by tables known name (Some Identity) ws = of_colours known name ws identity
made_by tables known name (Some Average) ws = of_colours known name ws average
made_by tables known name (Some Method) ws = of_tableau tables known name ws
made_by tables known name (Some Compose) ws = of_two tables known name ws compose
made_by tables known name (Some Inverse) ws = of_one tables known name ws inverse
made_by tables known name (Some Adjoint) ws = of_one tables known name ws adjoint
made_by tables known name (Some Substitute) ws = of_two tables known name ws substitute
made_by tables known name (Some Modified) ws = of_one tables known name ws modified
made_by tables known name (Some Modifying) ws = of_one tables known name ws modifying
made_by tables known name (Some Scale) ws = of_factor tables known name ws

abbrev pub series_command : Tables → Known → List (List ℕ) → Outcome
series_command tables known [] = Err Words
series_command tables known (name ∷ []) = Err Words
series_command tables known (name ∷ kind ∷ ws) = made_by tables known name (operation_of kind) ws

-- ---- coeff S T
abbrev pub coeff_of : Tables → Known → Series → List (ℕ × ℕ) → Outcome
coeff_of tables known s code =
    if has_colours (colours_of s) code
    then (if nat_lt MAX_COEFF_ORDER (length code) then Err TooLarge else Ok (known, coeff_line (written_at (plain tables) s code)))
    else Err Colours

abbrev pub coeff_command : Tables → Known → List (List ℕ) → Outcome
coeff_command tables known ws =
    taken (two ws) (λ w. found (known.series w.0) (λ s. found (known.trees w.1) (λ code. coeff_of tables known s code)))

-- ---- print S P
abbrev pub print_of : Tables → Known → List ℕ → Series → Outcome
print_of tables known order s =
    asked (order_asked MAX_CONDITIONS (colours_of s) (order_to order)) (λ p. Ok (known, print_reply (plain tables) s p))

abbrev pub print_command : Tables → Known → List (List ℕ) → Outcome
print_command tables known ws = taken (two ws) (λ w. found (known.series w.0) (λ s. print_of tables known w.1 s))

-- ---- equal S1 S2 P
abbrev pub equal_of : Tables → Known → List ℕ → Series → Series → Outcome
equal_of tables known order a b =
    asked (order_shared MAX_CONDITIONS (colours_of a) (colours_of b) (order_to order)) (λ p. Ok (known, equal_reply (plain tables) a b p))

abbrev pub equal_command : Tables → Known → List (List ℕ) → Outcome
equal_command tables known ws =
    taken (three ws) (λ w. found (known.series w.0) (λ a. found (known.series w.1) (λ b. equal_of tables known w.2 a b)))

-- ---- any command
abbrev pub command_of : Tables → Known → Option Verb → List (List ℕ) → Outcome
command_of tables known None ws = Err Command
command_of tables known (Some Tree) ws = tree_command known ws
command_of tables known (Some Drop) ws = drop_command known ws
command_of tables known (Some Same) ws = same_command known ws
command_of tables known (Some Info) ws = info_command known ws
command_of tables known (Some Weight) ws = weight_command tables known ws
command_of tables known (Some Trees) ws = trees_command known ws
command_of tables known (Some Conditions) ws = conditions_command tables known ws
command_of tables known (Some Order) ws = order_command tables known ws
command_of tables known (Some Split) ws = split_command known ws
command_of tables known (Some Partition) ws = partition_command known ws
command_of tables known (Some Series_) ws = series_command tables known ws
command_of tables known (Some Coeff) ws = coeff_command tables known ws
command_of tables known (Some Print) ws = print_command tables known ws
command_of tables known (Some Equal) ws = equal_command tables known ws

unfoldable pub command : Tables → Known → List (List ℕ) → Outcome
command tables known [] = Err Command
command tables known (first ∷ more) = command_of tables known (verb_of first) more
