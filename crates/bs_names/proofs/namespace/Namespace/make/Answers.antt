use Rattle.std.proofs.Common.{◌∙◌, ap, subst}
use Rattle.bs_series.specs.Expressions.{Extends}
use Rattle.bs_names.specs.Space.{Space}
use Rattle.bs_names.proofs.Meant.{meant-stays}
use Rattle.bs_names.proofs.namespace.Namespace.make.Goals as goal

pub returns-clause-rest : goal.returns-clause-rest
returns-clause-rest c = record {
  live = ap (λ s. s.live) c.self.view_is;
  series = meant-stays (λ k. k.items) c.self.inside.book c.make.new.self c.make.ensures.ids_stay c.self.inside.series.entries c.self.invariant ∙ ap (λ s. s.series) c.self.view_is;
  ids_stay = subst (λ (s : Space). Extends s.book c.make.new.self) c.self.view_is c.make.ensures.ids_stay;
  suits = c.make.ensures.suits;
}
