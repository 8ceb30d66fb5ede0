use Rattle.std.proofs.Common.{◌∙◌}
use Rattle.bs_top.proofs.Mades.{never_refused}
use Rattle.bs_top.proofs.made.summarize_alone.Goals as goal

pub unreachable-requires : goal.unreachable-requires
unreachable-requires c =
    never_refused c.args.seed _ _ _ _ (c.deref.ensures.value ∙ c.in_ok-input.ensures) c.in-Err-Refused.field-0-is c.in-Err-Refused.ensures
