use Rattle.std.proofs.Common.{◌≡◌, ap₂, ℕ}
use Rattle.bs_listing.specs.Sides.{crown_of}
use Rattle.bs_listing.specs.declared.sides.Crown.{Crown}
use Rattle.bs_listing.proofs.Fronts.{mapped-more}
use Rattle.bs_listing.proofs.sides.crowns_of.Goals as goal

pub rows-preserved : goal.rows-preserved
rows-preserved c =
    let crown : Crown = record { skeleton = c.number_at-skeleton.result; root = c.number_at-root.result } in
    let is : crown ≡ crown_of c.get-row.result.now =
    ap₂ (λ (a b : ℕ). let x : Crown = record { skeleton = a; root = b } in x) c.number_at-skeleton.ensures c.number_at-root.ensures in
    mapped-more crown_of c.rows.crowns.items c.push.new.self.items c.args.rows.now c.rows.place c.get-row.result.now crown c.get-row.ensures c.rows.invariant c.in_ok-push.ensures.items is
