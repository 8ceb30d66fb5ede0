use Rattle.std.proofs.Common.{◌∙◌, ap}
use Rattle.bs_frac.specs.Written.{coef_of}
use Rattle.bs_frac.specs.Checked.{checked_fraction}
use Rattle.std.proofs.Common.{false}
use Rattle.bs_eval.proofs.Units.{unit_checked}
use Rattle.bs_eval.proofs.direct.unit_fraction.Goals as goal

pub returns : goal.returns
returns c =
    c.of.ensures ∙ ap coef_of (c.new.ensures.value ∙ ap (checked_fraction false 1) c.from.ensures ∙ unit_checked c.args.number c.ranges.number.fits)
