use Rattle.std.proofs.Common.{◌≡◌, ℕ, ◌*◌, ◌^◌, ◌<◌, arith, ◌∙◌, ap₂}
use Rattle.std.specs.Int.{w128, trailing_zeros}
use Rattle.bs_frac.specs.Gcd.{gcd}
use Rattle.bs_frac.proofs.GcdLaws.{gcd-swap, gcd-le}
use Rattle.bs_frac.proofs.OddPart.{binary_split}
use Rattle.std.proofs.Math.Nat.{mod-eq_of_lt}
use Rattle.bs_frac.proofs.gcd.gcd_large.Goals as goal

pub returns-then-a-lt-SMALL : goal.returns-then-a-lt-SMALL
returns-then-a-lt-SMALL c = c.gcd_mixed-then-a-lt-SMALL.ensures ∙ gcd-swap c.args.b c.args.a

pub returns : goal.returns
returns c =
    let a = c.args.a in let b = c.args.b in
    let i = trailing_zeros w128 a in let j = trailing_zeros w128 b in
    let whole : c.gcd_odd_large.result * 2 ^ c.min-twos.result ≡ gcd a b =
    ap₂ (λ (g s : ℕ). g * 2 ^ s) c.gcd_odd_large.ensures c.min-twos.ensures
    ∙ binary_split a b c.odd_part_large.result c.odd_part_large-2.result i j c.odd_part_large.ensures.odd c.odd_part_large-2.ensures.odd c.odd_part_large.ensures.twos c.odd_part_large-2.ensures.twos in
    let least = gcd-le a b (omega arith) in
    mod-eq_of_lt (let h : c.gcd_odd_large.result * 2 ^ c.min-twos.result < 2 ^ 128 = omega arith in h) ∙ whole
