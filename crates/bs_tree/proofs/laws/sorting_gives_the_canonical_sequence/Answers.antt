use Rattle.bs_tree.proofs.Canon.{canon_is, canon_only}
use Rattle.bs_tree.proofs.laws.sorting_gives_the_canonical_sequence.Goals as goal

pub returns-clause-greatest : goal.returns-clause-greatest
returns-clause-greatest c = canon_is

pub returns-clause-only : goal.returns-clause-only
returns-clause-only c = canon_only
