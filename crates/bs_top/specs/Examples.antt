-- The text of two inputs, computed from the definitions.
use Rattle.std.specs.Prelude.{◌≡◌, [], Ok, Err, codes, refl}
use Rattle.std.specs.Fmt.{digits}
use Rattle.bs_levels.specs.Words.{number_of}
use Rattle.bs_script.specs.Grammar.{moved, placed}
use Rattle.bs_script.specs.declared.reason.Reason.TheVariants.{End}
use Rattle.bs_command.specs.Commands.{command}
use Rattle.bs_top.specs.Output.{text_of}

nothing : text_of [] ≡ Ok []
unfolding text_of
nothing = refl

two_trees : text_of (codes "session\ntree t 1,2,2,3\ntree u 1,2,3,2\nsame t u\ninfo v\nend\n")
    ≡ Ok (codes "session 1\ntree t 1,2,3,2\ntree u 1,2,3,2\nsame yes\nerror 3\n")
unfolding text_of moved placed number_of digits command
two_trees = refl

no_end : text_of (codes "session\ntree t 1\n") ≡ Err (2, End)
unfolding text_of moved placed
no_end = refl
