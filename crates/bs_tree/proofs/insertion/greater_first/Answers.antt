use Rattle.std.proofs.Common.{◌≡◌, ◌∙◌, true, sym, ap}
use Rattle.std.specs.Ordering.{is_le}
use Rattle.bs_tree.specs.Canonical.{sequence_cmp}
use Rattle.bs_tree.proofs.Insertions.{none_first}
use Rattle.bs_tree.proofs.insertion.greater_first.Goals as goal

pub returns-then-is_le-clause-value : goal.returns-then-is_le-clause-value
returns-then-is_le-clause-value c =
    let le : is_le (sequence_cmp c.args.later.now c.args.tree.now) ≡ true = ap is_le (sym c.cmp.ensures) ∙ sym c.is_le.ensures ∙ c.if-is_le.true in
    none_first c.args.later.now c.args.tree.now le
