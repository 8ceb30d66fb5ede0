use Rattle.std.proofs.Common.{◌≡◌, rules}
use Rattle.std.specs.Ordering.{is_lt}
use Rattle.std.proofs.lemmas.Fn.{always_returns_same}
use Rattle.std.proofs.lemmas.List.Sorted.{ranks_by, IsStrictWeakOrder-flip}
use Rattle.bs_tree.specs.Canonical.{canonical_sequence, sequence_cmp}
use Rattle.bs_tree.specs.OrderLaws.{sequence_total}
use Rattle.bs_tree.specs.Tree.{Tree}
use Rattle.bs_tree.proofs.tree.sort_by_code.Goals as goal

pub returns-clause-order : goal.returns-clause-order
returns-clause-order c =
    c.sort_unstable_by.ensures.sorted (λ (x y : Tree). is_lt (sequence_cmp (canonical_sequence y) (canonical_sequence x)))
    (IsStrictWeakOrder-flip (λ (x y : Tree). is_lt (sequence_cmp (canonical_sequence x) (canonical_sequence y))) (ranks_by sequence_total canonical_sequence))
    (always_returns_same _ (λ a r. is_lt r ≡ is_lt (sequence_cmp (canonical_sequence a.1.0.now) (canonical_sequence a.0.now))) _ (λ a r f' k. search rules))
