use Rattle.std.proofs.Common.{rules, ◌≡◌, length, arith}
use Rattle.bs_frac.specs.Text.{fraction_text}
use Rattle.bs_series.proofs.KeyLaws.{text_short}
use Rattle.bs_series.proofs.key.push_factor.Goals as goal

pub overflow_cast-len : goal.overflow_cast-len
overflow_cast-len c =
    let t = fraction_text c.args.by.now in
    let small = text_short c.args.by.now c.den-den.ensures.within in
    let len : c.len.result ≡ length t = search rules in
    omega (arith, small, len)
