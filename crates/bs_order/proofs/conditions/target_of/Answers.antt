use Rattle.std.proofs.Common.{◌≤◌, ℕ, false, ◌∙◌, ap, arith, pos}
use Rattle.bs_frac.specs.Checked.{largest, checked_fraction}
use Rattle.bs_frac.specs.Fraction.{Fraction}
use Rattle.bs_order.proofs.Walked.{one_over, some_is}
use Rattle.bs_order.proofs.conditions.target_of.Goals as goal

pub returns-in-Ok : goal.returns-in-Ok
returns-in-Ok c =
    let small : c.density.result ≤ largest = omega arith in
    let made = ap (λ (d : ℕ). checked_fraction false 1 d) c.from.ensures ∙ one_over c.density.result small in
    some_is _ _ (c.in-Ok.ensures.value ∙ made) ∙ ap (λ (d : ℕ). let x : Fraction = record { top = pos 1; bottom = d } in x) c.density.ensures.value
