use Rattle.std.proofs.Common.{sym, ap, subst}
use Rattle.bs_alone.specs.Packed.{sheet_of}
use Rattle.bs_alone.specs.Fits.{Fits}
use Rattle.bs_alone.proofs.Fitting.{fits-none}
use Rattle.bs_alone.proofs.sheet.Sheet.new.Goals as goal

pub returns-clause-fits : goal.returns-clause-fits
returns-clause-fits c tables es = subst (Fits tables es) (sym (ap sheet_of c.new.ensures.empty)) (fits-none tables es)
