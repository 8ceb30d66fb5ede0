-- A series that is made under a free name: its reply, and what is known behind it.
use Rattle.std.proofs.Common.{◌≡◌, ℕ, ◌||◌, List, Option, Some, None, is_some, Bool, true, false, Ok, refl, sym, ◌∙◌, ap, ap₂}
use Rattle.bs_tableau.specs.Table.{Table}
use Rattle.bs_reply.specs.Lines.{series_line}
use Rattle.bs_series.specs.Series.{Series, empty_value, colours_of}
use Rattle.bs_series.specs.Accepted.{IsAccepted}
use Rattle.bs_series.specs.Expressions.{wanted}
use Rattle.bs_series.specs.declared.kind.Kind.{Kind}
use Rattle.bs_names.specs.Names.{at}
use Rattle.bs_names.specs.Known.{is_taken, with_series}
use Rattle.bs_command.specs.Commands.{asked, named}
use Rattle.bs_names.specs.Space.{Space, known_of}
use Rattle.bs_command.specs.Kinds.{answered}
use Rattle.bs_names.specs.Space.{IsBookOf}
use Rattle.bs_names.specs.declared.live.LiveTree.{LiveTree}
use Rattle.bs_command.proofs.Acceptance.{made-accepted}

neither : (a b : Bool) → (a || b) ≡ false → b ≡ false
neither true b e = cc
neither false b e = e

nothing : {X : Type 0} (o : Option X) → is_some o ≡ false → o ≡ None
nothing None e = refl
nothing (Some x) e = cc

-- a name that is free stands for no series
pub no_series : (space : Space) (name : List ℕ) → is_taken (known_of space) name ≡ false → at name space.series ≡ None
no_series space name free = nothing (at name space.series) (neither (is_some ((known_of space).trees name)) _ free)

-- the same names stand for the same
pub known-stays : (tables : List Table) (old new : Space) → IsBookOf tables old new → known_of old ≡ known_of new
known-stays tables old new is =
    ap₂ (λ (l : List (List ℕ × LiveTree)) (s : List (List ℕ × Series)). known_of (record { live = l; series = s; book = old.book })) (sym is.live) (sym is.series)

-- an accepted series is answered by its line
pub answers : (tables : List Table) (space : Space) (name : List ℕ) (kind : Kind) (s : Series) → s ≡ wanted tables space.book kind → IsAccepted tables (wanted tables space.book kind)
    → answered tables space name kind ≡ Ok (with_series (known_of space) name s, series_line name (empty_value s) (colours_of s))
answers tables space name kind s is accepted =
    ap (λ r. asked r (named (known_of space) name)) (made-accepted tables (wanted tables space.book kind) accepted) ∙ ap (named (known_of space) name) (sym is)
