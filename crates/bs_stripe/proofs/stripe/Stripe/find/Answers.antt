use Rattle.std.proofs.Common.{List, Option, IsSome, IfSome, subst, ◌∙◌}
use Rattle.bs_stripe.specs.Places.{entry_at}
use Rattle.bs_stripe.specs.declared.place.Entry.{Entry}
use Rattle.bs_stripe.proofs.Slots.{found_taken}
use Rattle.bs_stripe.proofs.stripe.Stripe.find.Goals as goal

pub returns-clause-taken : goal.returns-clause-taken
returns-clause-taken c =
    let k = c.args.key.now in
    subst (λ (es : List (Option Entry)). IfSome c.copied.result (λ slot. IsSome (entry_at slot es))) c.self.view_is
    (found_taken k _ c.copied.result (c.copied.ensures ∙ c.get.ensures.value ∙ c.self.invariant.finds k))
