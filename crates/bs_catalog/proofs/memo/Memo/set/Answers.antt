use Rattle.std.proofs.Common.{ℕ, List, ◌∙◌, ap, arith, refl}
use Rattle.bs_catalog.specs.Memo.{entry}
use Rattle.bs_catalog.proofs.Tables.{one_set}
use Rattle.bs_catalog.proofs.memo.Memo.set.Goals as goal

pub returns : goal.returns
returns c =
    one_set (λ row. row.items) c.grow.new.rows.items _ c.args.first c.args.second c.args.value c.in-Some.row.now c.set_at.new.row
    (λ i j. c.grow.ensures i j ∙ ap (λ (t : List (List ℕ)). entry t i j) c.self.view_is)
    (omega (arith, c.in-Some.ensures.variant.0 refl)) c.in-Some.ensures.item.1 c.set_at.ensures
