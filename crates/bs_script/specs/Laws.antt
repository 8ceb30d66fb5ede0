-- Laws of the grammar.
--
--   RefusalRestsOnItsPrefix == where an input is refused at a line for another reason than a missing end, each input
--                              with the same lines up to that one is refused there for that reason
--
-- Source: this project.
use Rattle.std.specs.Prelude.{◌≡◌, ◌≢◌, ℕ, List, ◌++◌, length, Err}
use Rattle.bs_script.specs.Lines.{lines}
use Rattle.bs_script.specs.Grammar.{script}
use Rattle.bs_script.specs.declared.reason.Reason.{Reason}
use Rattle.bs_script.specs.declared.reason.Reason.TheVariants.{End}

abbrev pub RefusalRestsOnItsPrefix : Type 0
RefusalRestsOnItsPrefix =
    (a b : List ℕ) (n : ℕ) (reason : Reason) (front x y : List (List ℕ)) → length front ≡ n → lines a ≡ front ++ x
    → lines b ≡ front ++ y → reason ≢ End → script a ≡ Err (n, reason) → script b ≡ Err (n, reason)
