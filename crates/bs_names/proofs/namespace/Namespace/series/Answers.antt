use Rattle.std.proofs.Common.{◌∙◌, subst}
use Rattle.bs_names.specs.Space.{Finds}
use Rattle.bs_names.proofs.Meant.{finds}
use Rattle.bs_names.proofs.namespace.Namespace.series.Goals as goal

pub returns : goal.returns
returns c =
    subst (λ s. Finds s c.args.name.now c.copied.result) c.self.view_is
    (finds (λ k. k.items) c.self.inside.live c.self.inside.book c.self.inside.series.entries c.args.name.now c.copied.result (c.copied.ensures ∙ c.get.ensures.value) c.self.invariant)
