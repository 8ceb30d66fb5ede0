-- The text of a reply: one line, with its line feed. TREE is the text of a tree, E that of a fraction, COEF a fraction or
-- the word `overflow`, and N a number in decimal without leading zeros.
--
--   coef_text c                   == COEF
--   head_line n                   == `session N`
--   error_line n                  == `error N`
--   tree_line name code           == `tree NAME TREE`
--   drop_line name                == `drop NAME`
--   same_line answer              == `same yes` or `same no`
--   info_line code sym den alpha  == `info TREE order N symmetry N density N alpha N`, where the order is the code's length
--   weight_line c                 == `weight COEF`
--   word_text w                   == the first word of a reply that is a list
--   count_line w n                == `WORD N`, the first line of a list
--   listed_line code              == `TREE`
--   trees_text codes              == ` TREE` for each tree of a list
--   kept_text kept                == `TREE`, or `empty` where nothing is kept
--   split_line kept forest        == `TREE | TREE ..`, or `empty | TREE ..`: what is kept of a tree, and the trees that are cut off
--   part_line skeleton parts      == `TREE | TREE ..`: a skeleton, and the parts that hang on it
--   verdict_text v                == `yes`, `no`, or `unknown`
--   condition_line code c target  == `TREE COEF FRACTION yes`, or `no`, or `unknown`: an order condition and whether it holds
--   order_line n overflow         == `order N`, or `order N overflow`
--   series_line name e k          == `series NAME empty E colours N`
--   coeff_line c                  == `coeff COEF`
--   print_line n e                == `print N empty E`, the first line of a series that is written out
--   term_line code c              == `TREE COEF`
--   equal_yes_line                == `equal yes`
--   equal_empty_line e e'         == `equal no empty E E`
--   difference_text c c'          == `equal no`, or `equal overflow` where one of the two is an overflow
--   equal_at_line code c c'       == `equal no TREE COEF COEF`, or `equal overflow TREE COEF COEF`
--   line_text line                == the text of any line that is written here; those of splittings that keep the root and of partitions are not
--
-- Source: this project's format of replies.
-- The code appends piece by piece, and takes back what it appended where memory runs out.
use Rattle.std.specs.Prelude.{ℕ, Bool, true, false, List, [], ◌∷◌, ◌++◌, length, flat_map, Option, Some, None, decimal, codes}
use Rattle.bs_frac.specs.Fraction.{Fraction}
use Rattle.bs_frac.specs.Text.{fraction_text}
use Rattle.bs_frac.specs.declared.coef.Coef.{Coef}
use Rattle.bs_frac.specs.declared.coef.Coef.TheVariants.{Value, Overflow}
use Rattle.bs_levels.specs.TreeText.{tree_text}
use Rattle.bs_reply.specs.Verdicts.{verdict}
use Rattle.bs_reply.specs.declared.verdict.Verdict.{Verdict}
use Rattle.bs_reply.specs.declared.verdict.Verdict.TheVariants.{Holds, Fails, Unknown}
use Rattle.bs_reply.specs.declared.line.Word.{Word}
use Rattle.bs_reply.specs.declared.line.Word.TheVariants.{Trees, Split, Partition, Conditions}
use Rattle.bs_reply.specs.declared.line.Line.{Line}
use Rattle.bs_reply.specs.declared.line.Line.TheVariants.{Head, Error, Tree, Drop, Same, Info, Weight, Count, Listed, NothingKept, Condition, Order, Series, Coeff, Print, Term, EqualYes, EqualEmpty, EqualAt}

abbrev pub coef_text : Coef → List ℕ
coef_text (Value x) = fraction_text x
coef_text Overflow = codes "overflow"

abbrev pub head_line : ℕ → List ℕ
head_line number = codes "session " ++ decimal number ++ codes "\n"

abbrev pub error_line : ℕ → List ℕ
error_line number = codes "error " ++ decimal number ++ codes "\n"

abbrev pub tree_line : List ℕ → List (ℕ × ℕ) → List ℕ
tree_line name code = codes "tree " ++ name ++ codes " " ++ tree_text code ++ codes "\n"

abbrev pub drop_line : List ℕ → List ℕ
drop_line name = codes "drop " ++ name ++ codes "\n"

abbrev pub same_line : Bool → List ℕ
same_line true = codes "same yes\n"
same_line false = codes "same no\n"

abbrev pub info_line : List (ℕ × ℕ) → ℕ → ℕ → ℕ → List ℕ
info_line code symmetry density alpha =
    codes "info " ++ tree_text code ++ codes " order " ++ decimal (length code) ++ codes " symmetry " ++ decimal symmetry
    ++ codes " density " ++ decimal density ++ codes " alpha " ++ decimal alpha ++ codes "\n"

abbrev pub weight_line : Coef → List ℕ
weight_line coef = codes "weight " ++ coef_text coef ++ codes "\n"

abbrev pub word_text : Word → List ℕ
word_text Trees = codes "trees"
word_text Split = codes "split"
word_text Partition = codes "partition"
word_text Conditions = codes "conditions"

abbrev pub count_line : Word → ℕ → List ℕ
count_line word number = word_text word ++ codes " " ++ decimal number ++ codes "\n"

abbrev pub listed_line : List (ℕ × ℕ) → List ℕ
listed_line code = tree_text code ++ codes "\n"

abbrev pub trees_text : List (List (ℕ × ℕ)) → List ℕ
trees_text trees = flat_map (λ code. codes " " ++ tree_text code) trees

abbrev pub kept_text : Option (List (ℕ × ℕ)) → List ℕ
kept_text None = codes "empty"
kept_text (Some code) = tree_text code

abbrev pub split_line : Option (List (ℕ × ℕ)) → List (List (ℕ × ℕ)) → List ℕ
split_line kept forest = kept_text kept ++ codes " |" ++ trees_text forest ++ codes "\n"

abbrev pub part_line : List (ℕ × ℕ) → List (List (ℕ × ℕ)) → List ℕ
part_line skeleton parts = tree_text skeleton ++ codes " |" ++ trees_text parts ++ codes "\n"

abbrev pub verdict_text : Verdict → List ℕ
verdict_text Holds = codes "yes"
verdict_text Fails = codes "no"
verdict_text Unknown = codes "unknown"

abbrev pub condition_line : List (ℕ × ℕ) → Coef → Fraction → List ℕ
condition_line code coef target =
    tree_text code ++ codes " " ++ coef_text coef ++ codes " " ++ fraction_text target ++ codes " " ++ verdict_text (verdict coef target)
    ++ codes "\n"

abbrev pub order_line : ℕ → Bool → List ℕ
order_line number true = codes "order " ++ decimal number ++ codes " overflow\n"
order_line number false = codes "order " ++ decimal number ++ codes "\n"

abbrev pub series_line : List ℕ → Fraction → ℕ → List ℕ
series_line name empty colours = codes "series " ++ name ++ codes " empty " ++ fraction_text empty ++ codes " colours " ++ decimal colours ++ codes "\n"

abbrev pub coeff_line : Coef → List ℕ
coeff_line coef = codes "coeff " ++ coef_text coef ++ codes "\n"

abbrev pub print_line : ℕ → Fraction → List ℕ
print_line number empty = codes "print " ++ decimal number ++ codes " empty " ++ fraction_text empty ++ codes "\n"

abbrev pub term_line : List (ℕ × ℕ) → Coef → List ℕ
term_line code coef = tree_text code ++ codes " " ++ coef_text coef ++ codes "\n"

abbrev pub equal_yes_line : List ℕ
equal_yes_line = codes "equal yes\n"

abbrev pub equal_empty_line : Fraction → Fraction → List ℕ
equal_empty_line left right = codes "equal no empty " ++ fraction_text left ++ codes " " ++ fraction_text right ++ codes "\n"

abbrev pub difference_text : Coef → Coef → List ℕ
difference_text (Value x) (Value y) = codes "equal no"
difference_text (Value x) Overflow = codes "equal overflow"
difference_text Overflow right = codes "equal overflow"

abbrev pub equal_at_line : List (ℕ × ℕ) → Coef → Coef → List ℕ
equal_at_line code left right =
    difference_text left right ++ codes " " ++ tree_text code ++ codes " " ++ coef_text left ++ codes " " ++ coef_text right ++ codes "\n"

abbrev pub line_text : Line → List ℕ
line_text (Head number) = head_line number
line_text (Error number) = error_line number
line_text (Tree name code) = tree_line name.now code
line_text (Drop name) = drop_line name.now
line_text (Same answer) = same_line answer
line_text (Info code symmetry density alpha) = info_line code symmetry density alpha
line_text (Weight coef) = weight_line coef
line_text (Count word number) = count_line word number
line_text (Listed code) = listed_line code
line_text (NothingKept code) = split_line None (code ∷ [])
line_text (Condition code coef target) = condition_line code coef target
line_text (Order number overflow) = order_line number overflow
line_text (Series name empty colours) = series_line name.now empty colours
line_text (Coeff coef) = coeff_line coef
line_text (Print number empty) = print_line number empty
line_text (Term code coef) = term_line code coef
line_text EqualYes = equal_yes_line
line_text (EqualEmpty left right) = equal_empty_line left right
line_text (EqualAt code left right) = equal_at_line code left right
