-- The lines that a command lists.
--
--   lines_of known ws       == how many lines the command of these words lists behind the number of them: those of the splittings of a tree, or of
--                              its partitions; no other command lists any
--
-- Source: this project.
use Rattle.std.specs.Prelude.{ℕ, List, [], ◌∷◌, length, Option, Some, None}
use Rattle.bs_split.specs.Splitting.{split_codes}
use Rattle.bs_part.specs.Partition.{part_codes}
use Rattle.bs_names.specs.Known.{Known}
use Rattle.bs_command.specs.Commands.{only}
use Rattle.bs_command.specs.Verbs.{verb_of}
use Rattle.bs_command.specs.declared.verb.Verb.{Verb}
use Rattle.bs_command.specs.declared.verb.Verb.TheVariants.{Split, Partition}

abbrev pub lines_found : {X : Type 0} → Option X → (X → ℕ) → ℕ
lines_found None f = 0
lines_found (Some x) f = f x

abbrev pub lines_split : Known → List (List ℕ) → ℕ
lines_split known ws = lines_found (only ws) (λ name. lines_found (known.trees name) (λ code. length (split_codes code)))

abbrev pub lines_parted : Known → List (List ℕ) → ℕ
lines_parted known ws = lines_found (only ws) (λ name. lines_found (known.trees name) (λ code. length (part_codes code)))

abbrev pub lines_by : Known → Option Verb → List (List ℕ) → ℕ
lines_by known (Some Split) ws = lines_split known ws
lines_by known (Some Partition) ws = lines_parted known ws
lines_by known _ ws = 0

unfoldable pub lines_of : Known → List (List ℕ) → ℕ
lines_of known [] = 0
lines_of known (first ∷ more) = lines_by known (verb_of first) more
