use Rattle.bs_alone.proofs.Fitting.{fits-none, fits-with, fits-more}
use Rattle.bs_alone.proofs.laws.fitting_is_kept.Goals as goal

pub returns : goal.returns
returns c = record { empty = fits-none; keeps = fits-with; extends = fits-more }
