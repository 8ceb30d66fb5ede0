use Rattle.std.proofs.Common.{◌%◌, ℕ, ap, ap₂, ◌∙◌}
use Rattle.bs_core.specs.Codes.{hash_from}
use Rattle.bs_core.proofs.Basics.{stripe_is}
use Rattle.bs_core.proofs.name.stripe_of.Goals as goal

pub returns-clause-value : goal.returns-clause-value
returns-clause-value c =
    ap₂ (λ (h : ℕ) (n : ℕ). h % n) (c.hash_of.ensures ∙ ap (hash_from 0) c.pairs.ensures.value) c.from.ensures ∙ stripe_is c.args.stripes c.args.code.now
