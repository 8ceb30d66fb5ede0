use Rattle.std.proofs.Common.{◌≡◌, suc, length, refl, ap, ◌∙◌}
use Rattle.bs_tree.specs.Tree.{Tree, order}
use Rattle.bs_tree.specs.Canonical.{canonical_sequence, sorted}
use Rattle.bs_tree.specs.SubtreeLaws.{length-level_sequence_at}
use Rattle.bs_tree.specs.SortingLaws.{nodes-sorted}
use Rattle.bs_reply.proofs.laws.order_said_is_the_trees.Goals as goal

-- a code has one pair for each node
length-canonical_sequence : (t : Tree) → length (canonical_sequence t) ≡ order t
length-canonical_sequence t = ap suc (length-level_sequence_at 2 (sorted t.below) ∙ nodes-sorted t.below)

pub returns : goal.returns
returns c t symmetry density alpha = rw (length-canonical_sequence t) refl
