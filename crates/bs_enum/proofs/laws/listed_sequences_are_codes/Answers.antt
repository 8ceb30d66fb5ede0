use Rattle.bs_enum.proofs.Facts.{listed_are_codes}
use Rattle.bs_enum.proofs.laws.listed_sequences_are_codes.Goals as goal

pub returns : goal.returns
returns c = listed_are_codes
