use Rattle.std.proofs.Common.{◌≡◌, ◌∙◌, sym, ap, Some, arith}
use Rattle.bs_command.proofs.Reading.{number-given, number-above, number-zero}
use Rattle.bs_command.proofs.number.number_to.Goals as goal

pub returns-in-Some-clause-value : goal.returns-in-Some-clause-value
returns-in-Some-clause-value c = number-given c.args.most c.in-Some.n c.args.word.now (sym c.number_within.ensures.value ∙ c.in-Some.is) c.if-n-gt0.true

pub returns-in-None-clause-value : goal.returns-in-None-clause-value
returns-in-None-clause-value c = number-above c.args.most c.args.word.now (sym c.number_within.ensures.value ∙ c.in-None.is) (sym c.is_number.ensures ∙ c.if-is_number.true)

pub returns-in_default-clause-value : goal.returns-in_default-clause-value
returns-in_default-clause-value c =
    let zero : c.in-Some.n ≡ 0 = omega (arith, c.if-n-gt0.false) in
    number-zero c.args.most c.args.word.now (sym c.number_within.ensures.value ∙ c.in-Some.is ∙ ap (λ n. Some n) zero)
