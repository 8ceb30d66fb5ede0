use Rattle.std.proofs.Common.{◌≡◌, ℕ, ◌*◌, ◌^◌, ◌<◌, arith, sym, ◌∙◌, ap, ap₂}
use Rattle.std.specs.Int.{w64, trailing_zeros}
use Rattle.bs_frac.specs.Gcd.{gcd}
use Rattle.bs_frac.proofs.GcdLaws.{gcd-zero, gcd-swap, gcd-le}
use Rattle.bs_frac.proofs.OddPart.{binary_split}
use Rattle.std.proofs.Math.Nat.{mod-eq_of_lt}
use Rattle.bs_frac.proofs.gcd.gcd_small.Goals as goal

pub returns-then-a-eq0 : goal.returns-then-a-eq0
returns-then-a-eq0 c = sym (ap (λ (n : ℕ). gcd n c.args.b) (let e : c.args.a ≡ 0 = c.if-a-eq0.true in e) ∙ gcd-swap 0 c.args.b ∙ gcd-zero c.args.b)

pub returns-then-b-eq0 : goal.returns-then-b-eq0
returns-then-b-eq0 c = sym (ap (gcd c.args.a) (let e : c.args.b ≡ 0 = c.if-b-eq0.true in e) ∙ gcd-zero c.args.a)

pub returns : goal.returns
returns c =
    let a = c.args.a in let b = c.args.b in
    let i = trailing_zeros w64 a in let j = trailing_zeros w64 b in
    let whole : c.gcd_odd.result * 2 ^ c.min-twos.result ≡ gcd a b =
    ap₂ (λ (g s : ℕ). g * 2 ^ s) c.gcd_odd.ensures c.min-twos.ensures
    ∙ binary_split a b c.odd_part.result c.odd_part-2.result i j c.odd_part.ensures.odd c.odd_part-2.ensures.odd c.odd_part.ensures.twos c.odd_part-2.ensures.twos in
    let least = gcd-le a b (omega arith) in
    mod-eq_of_lt (let h : c.gcd_odd.result * 2 ^ c.min-twos.result < 2 ^ 64 = omega arith in h) ∙ whole
