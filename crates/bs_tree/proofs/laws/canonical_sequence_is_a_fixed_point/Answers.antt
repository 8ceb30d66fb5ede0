use Rattle.bs_tree.proofs.Joins.{canonical_sequence-tree_of, isomorphic-tree_of}
use Rattle.bs_tree.specs.SubtreeLaws.{tree_of-level_sequence}
use Rattle.bs_tree.proofs.laws.canonical_sequence_is_a_fixed_point.Goals as goal

pub returns-clause-read : goal.returns-clause-read
returns-clause-read c = tree_of-level_sequence

pub returns-clause-fixed : goal.returns-clause-fixed
returns-clause-fixed c = canonical_sequence-tree_of

pub returns-clause-isomorphic : goal.returns-clause-isomorphic
returns-clause-isomorphic c = isomorphic-tree_of
