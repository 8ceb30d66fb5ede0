use Rattle.std.proofs.Common.{sym, subst}
use Rattle.bs_split.specs.Splitting.{init}
use Rattle.bs_catalog.specs.Shelf.{Shelf, Numbers, AreRows, split_rows}
use Rattle.bs_catalog.proofs.Shelving.{holds_put, leaf_split_rows}
use Rattle.bs_catalog.proofs.Grouping.{groups_forgotten}
use Rattle.bs_catalog.proofs.catalog.Catalog.put_leaf_splits.Goals as goal

pub invariant_of-self : goal.invariant_of-self
invariant_of-self c =
    let cs = c.self.inside.arena in
    let s = c.args.code.now in
    let here : Numbers cs c.args.number s = subst (λ (shelf : Shelf). Numbers shelf.codes c.args.number s) (sym c.self.view_is) c.requires.code in
    let rows : AreRows cs c.in_ok-rows.rows (split_rows s) = leaf_split_rows cs c.args.number s c.in_ok-rows.rows c.order-order.ensures.code c.requires.leaf here c.in_ok-rows.ensures in (
      holds_put split_rows cs c.self.inside.split_lists.items c.put_rows.new.lists.items c.args.number c.in_ok-rows.rows s c.self.invariant.0 c.put_rows.ensures.others here rows,
      c.self.invariant.1,
      groups_forgotten init cs c.self.inside.split_lists.items c.put_rows.new.lists.items c.self.inside.split_groups.items c.put_rows.new.groups.items c.args.number c.in_ok-rows.rows
          c.self.invariant.2 c.put_rows.ensures.others c.put_rows.ensures.forgotten,
      c.self.invariant.3,
    )
