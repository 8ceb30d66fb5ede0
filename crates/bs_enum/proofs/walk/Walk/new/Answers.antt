use Rattle.std.proofs.Common.{◌≡◌, ◌-◌, ◌∷◌, List, ℕ, ap, subst, sym, ◌∙◌, arith, Some}
use Rattle.bs_enum.specs.Walk.{Ahead, from_here, whole, IsListed}
use Rattle.bs_enum.proofs.Left.{first_listed, all_left}
use Rattle.bs_enum.proofs.walk.Walk.new.Goals as goal

pub invariant_of-result : goal.invariant_of-result
invariant_of-result c = (
  c.requires.few_colours,
  subst (λ (s : List (ℕ × ℕ)). IsListed c.args.order c.args.colours (Some s)) (sym c.first.ensures) (first_listed c.args.order c.args.colours c.requires.some_nodes c.requires.some_colours),
)

pub returns : goal.returns
returns c =
    ap (λ (s : List (ℕ × ℕ)). let a : Ahead = record { order = c.args.order; colours = c.args.colours; left = from_here c.args.order c.args.colours (Some s) } in a) c.first.ensures
    ∙ ap (λ (left : List (List (ℕ × ℕ))). let a : Ahead = record { order = c.args.order; colours = c.args.colours; left = left } in a)
    (all_left c.args.order c.args.colours c.requires.some_nodes c.requires.some_colours)
