use Rattle.bs_alone.proofs.Pairs as pairs
use Rattle.bs_alone.proofs.laws.keeping_changes_one_pair.Goals as goal

pub returns : goal.returns
returns c = record { found = pairs.found; others = pairs.others; empty = pairs.none_kept }
