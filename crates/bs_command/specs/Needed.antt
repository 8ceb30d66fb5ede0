-- The coefficients that a command needs.
--
--   need_of known ws     == those of `coeff`, `print` and `equal`, where these are the words of the command; no other command needs any
--
-- Source: this project.
use Rattle.std.specs.Prelude.{ℕ, List, [], ◌∷◌, Option, Some, None, Result, Ok, Err}
use Rattle.bs_tree.specs.Tree.{Tree as Shape}
use Rattle.bs_series.specs.Series.{Series}
use Rattle.bs_names.specs.Known.{Known}
use Rattle.bs_command.specs.Asked.{order_to}
use Rattle.bs_command.specs.Commands.{two, three}
use Rattle.bs_command.specs.Verbs.{verb_of}
use Rattle.bs_command.specs.declared.number.NumberFault.{NumberFault}
use Rattle.bs_command.specs.declared.verb.Verb.{Verb}
use Rattle.bs_command.specs.declared.verb.Verb.TheVariants.{Coeff, Print, Equal}
use Rattle.bs_work.specs.Needed.{need_at, need_to_print, need_to_compare}

abbrev pub need_found : {X : Type 0} → Option X → (X → List (Series × Shape)) → List (Series × Shape)
need_found None f = []
need_found (Some x) f = f x

abbrev pub need_to : Result ℕ NumberFault → (ℕ → List (Series × Shape)) → List (Series × Shape)
need_to (Ok p) f = f p
need_to (Err fault) f = []

abbrev pub need_by : Known → Option Verb → List (List ℕ) → List (Series × Shape)
need_by known (Some Coeff) ws =
    need_found (two ws) (λ w. need_found (known.series w.0) (λ s. need_found (known.trees w.1) (λ code. need_at s code)))
need_by known (Some Print) ws =
    need_found (two ws) (λ w. need_found (known.series w.0) (λ s. need_to (order_to w.1) (need_to_print s)))
need_by known (Some Equal) ws =
    need_found (three ws) (λ w. need_found (known.series w.0) (λ a. need_found (known.series w.1) (λ b. need_to (order_to w.2) (need_to_compare a b))))
need_by known _ ws = []

unfoldable pub need_of : Known → List (List ℕ) → List (Series × Shape)
need_of known [] = []
need_of known (first ∷ more) = need_by known (verb_of first) more
