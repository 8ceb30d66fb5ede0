use Rattle.std.proofs.Common.{◌≡◌, ℕ, ◌%◌, sym, ◌∙◌, ap}
use Rattle.bs_frac.specs.Gcd.{gcd}
use Rattle.bs_frac.proofs.GcdLaws.{gcd-mod, gcd-zero, gcd-swap}
use Rattle.bs_frac.proofs.gcd.gcd_mixed.Goals as goal

pub returns-then-b-eq0 : goal.returns-then-b-eq0
returns-then-b-eq0 c = sym (ap (gcd c.args.a) (let e : c.args.b ≡ 0 = c.if-b-eq0.true in e) ∙ gcd-zero c.args.a)

pub returns-else-b-eq0 : goal.returns-else-b-eq0
returns-else-b-eq0 c =
    let a = c.args.a in let b = c.args.b in
    c.from-else-b-eq0.ensures ∙ c.gcd_small.ensures ∙ ap (λ (n : ℕ). gcd (a % n) b) c.from.ensures ∙ gcd-swap (a % b) b ∙ gcd-mod a b
