-- How many turns of the evaluation a command takes at most.
--
--   toil_of known ws == for the command of these words
--
-- A number that falls with each question of a session is made of this: no bound on time.
--
-- Source: this project.
use Rattle.std.specs.Prelude.{ℕ, suc, List, [], ◌∷◌, Option, Some, None, Result, Ok, Err}
use Rattle.bs_eval.specs.Turns.{turns}
use Rattle.bs_names.specs.Known.{Known}
use Rattle.bs_command.specs.Asked.{order_to}
use Rattle.bs_command.specs.Commands.{two, three}
use Rattle.bs_command.specs.Verbs.{verb_of}
use Rattle.bs_work.specs.Works.{turns_to_print, turns_to_compare}
use Rattle.bs_command.specs.declared.number.NumberFault.{NumberFault}
use Rattle.bs_command.specs.declared.verb.Verb.{Verb}
use Rattle.bs_command.specs.declared.verb.Verb.TheVariants.{Tree, Drop, Same, Info, Weight, Trees, Conditions, Order, Split, Partition, Series as Series_, Coeff, Print, Equal}

abbrev pub toil_found : {X : Type 0} → Option X → (X → ℕ) → ℕ
toil_found None f = 0
toil_found (Some x) f = f x

abbrev pub toil_to : Result ℕ NumberFault → (ℕ → ℕ) → ℕ
toil_to (Ok p) f = f p
toil_to (Err fault) f = 0

abbrev pub toil_by : Known → Option Verb → List (List ℕ) → ℕ
toil_by known None ws = 0
toil_by known (Some Tree) ws = 0
toil_by known (Some Drop) ws = 0
toil_by known (Some Same) ws = 0
toil_by known (Some Info) ws = 0
toil_by known (Some Weight) ws = 0
toil_by known (Some Trees) ws = 0
toil_by known (Some Conditions) ws = 0
toil_by known (Some Order) ws = 0
toil_by known (Some Split) ws = 0
toil_by known (Some Partition) ws = 0
toil_by known (Some Series_) ws = 0
toil_by known (Some Coeff) ws =
    toil_found (two ws) (λ w. toil_found (known.series w.0) (λ s. toil_found (known.trees w.1) (λ code. suc (turns s code))))
toil_by known (Some Print) ws =
    toil_found (two ws) (λ w. toil_found (known.series w.0) (λ s. toil_to (order_to w.1) (turns_to_print s)))
toil_by known (Some Equal) ws =
    toil_found (three ws) (λ w. toil_found (known.series w.0) (λ a. toil_found (known.series w.1) (λ b. toil_to (order_to w.2) (turns_to_compare a b))))

unfoldable pub toil_of : Known → List (List ℕ) → ℕ
toil_of known [] = 0
toil_of known (first ∷ more) = toil_by known (verb_of first) more
