use Rattle.std.proofs.Common.{get_or, List, ℕ}
use Rattle.bs_listing.proofs.Fronts.{mapped-more}
use Rattle.bs_listing.proofs.sides.heads_of.Goals as goal

pub rows-preserved : goal.rows-preserved
rows-preserved c =
    mapped-more (λ (row : List ℕ). get_or row 0 0) c.rows.heads.items c.push.new.self.items c.args.rows.now c.rows.place c.get.result.now c.number_at.result c.get.ensures c.rows.invariant
    c.in_ok-push.ensures.items c.number_at.ensures
