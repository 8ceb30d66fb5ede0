use Rattle.bs_enum.proofs.Facts.{canonical_is_decided}
use Rattle.bs_enum.proofs.laws.canonical_sequences_are_decided.Goals as goal

pub returns : goal.returns
returns c = canonical_is_decided
