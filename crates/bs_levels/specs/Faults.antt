-- What a fault of reading a tree says of the words.
--
--   refusal_of e                 == the refusal of the definitions that e is
--   fault_of e                   == e as a fault of a call that takes memory
--   code_of_words levels colours == the canonical sequence of the tree that the words describe, or why there is none
--   Fails e r                    == e is the refusal that r is; want of memory comes only where r is a tree
--
-- Source: this project.
use Rattle.std.specs.Prelude.{◌≡◌, ℕ, List, Option, Result, Ok, Err, IsOk}
use Rattle.bs_tree.specs.Tree.{Tree}
use Rattle.bs_tree.specs.Canonical.{canonical_sequence}
use Rattle.bs_levels.specs.Levels.{Refusal, bad_levels, bad_colours, too_large, tree_of_words}
use Rattle.bs_levels.specs.declared.read.LevelRefusal.{LevelRefusal}
use Rattle.bs_levels.specs.declared.read.LevelRefusal.TheVariants.{BadLevels as LevelsRefused, BadColours as ColoursRefused, TooLarge as SizeRefused}
use Rattle.bs_levels.specs.declared.read.LevelFault.{LevelFault}
use Rattle.bs_levels.specs.declared.read.LevelFault.TheVariants.{BadLevels, BadColours, TooLarge, Memory}

abbrev pub refusal_of : LevelRefusal → Refusal
refusal_of LevelsRefused = bad_levels
refusal_of ColoursRefused = bad_colours
refusal_of SizeRefused = too_large

abbrev pub fault_of : LevelRefusal → LevelFault
fault_of LevelsRefused = BadLevels
fault_of ColoursRefused = BadColours
fault_of SizeRefused = TooLarge

abbrev pub code_from : Result Tree Refusal → Result (List (ℕ × ℕ)) LevelRefusal
code_from (Ok t) = Ok (canonical_sequence t)
code_from (Err bad_levels) = Err LevelsRefused
code_from (Err bad_colours) = Err ColoursRefused
code_from (Err too_large) = Err SizeRefused

abbrev pub code_of_words : List ℕ → Option (List ℕ) → Result (List (ℕ × ℕ)) LevelRefusal
code_of_words levels colours = code_from (tree_of_words levels colours)

abbrev pub Fails : LevelFault → Result Tree Refusal → Type 0
Fails BadLevels r = r ≡ Err bad_levels
Fails BadColours r = r ≡ Err bad_colours
Fails TooLarge r = r ≡ Err too_large
Fails (Memory e) r = IsOk r
