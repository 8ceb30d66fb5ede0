use Rattle.std.proofs.Common.{◌≡◌, ◌∷◌, ◌<◌, List, ℕ, ap, subst, sym, ◌∙◌, Some, All, drop, length, slice_get}
use Rattle.bs_enum.specs.Walk.{Ahead, from_here}
use Rattle.bs_enum.proofs.Left.{coming_by_size, coming_colours, coming_next, coming_size, coming_step}
use Rattle.bs_enum.proofs.walk.Walk.next.Goals as goal

pub successor-self-inside-requires-clause-listed : goal.successor-self-inside-requires-clause-listed
successor-self-inside-requires-clause-listed c =
    let a = c.self.inside in coming_by_size a.order a.colours a.coming c.in-Some.code c.self.invariant.1 c.in-Some.is

pub invariant_of-self : goal.invariant_of-self
invariant_of-self c =
    let a = c.self.inside in
    (c.self.invariant.0, coming_next a.order a.colours a.coming c.in-Some.code c.successor-self-inside.result c.self.invariant.1 c.in-Some.is c.successor-self-inside.ensures.listed)

pub returns-clause-tree : goal.returns-clause-tree
returns-clause-tree c =
    let a = c.self.inside in
    let step : from_here a.order a.colours a.coming ≡ c.in-Some.code ∷ from_here a.order a.colours c.successor-self-inside.result =
    coming_step a.order a.colours a.coming c.in-Some.code c.successor-self-inside.result c.self.invariant.1 c.in-Some.is c.successor-self-inside.ensures.next
    in
    sym (ap (λ (w : Ahead). slice_get w.left 0) (sym c.self.view_is) ∙ ap (λ (us : List (List (ℕ × ℕ))). slice_get us 0) step)

pub returns-clause-rest : goal.returns-clause-rest
returns-clause-rest c =
    let a = c.self.inside in
    let step : from_here a.order a.colours a.coming ≡ c.in-Some.code ∷ from_here a.order a.colours c.successor-self-inside.result =
    coming_step a.order a.colours a.coming c.in-Some.code c.successor-self-inside.result c.self.invariant.1 c.in-Some.is c.successor-self-inside.ensures.next
    in
    ap (λ (us : List (List (ℕ × ℕ))). let w : Ahead = record { order = a.order; colours = a.colours; left = us } in w) (sym (ap (drop 1) step))
    ∙ ap (λ (w : Ahead). let v : Ahead = record { order = w.order; colours = w.colours; left = drop 1 w.left } in v) c.self.view_is

pub returns-clause-order : goal.returns-clause-order
returns-clause-order c =
    let a = c.self.inside in
    coming_size a.order a.colours a.coming c.in-Some.code c.self.invariant.1 c.in-Some.is ∙ ap (λ (w : Ahead). w.order) c.self.view_is

pub returns-clause-colours : goal.returns-clause-colours
returns-clause-colours c =
    let a = c.self.inside in
    subst (λ (w : Ahead). All (λ pair. pair.1 < w.colours) c.in-Some.code) c.self.view_is
    (coming_colours a.order a.colours a.coming c.in-Some.code c.self.invariant.1 c.in-Some.is)
