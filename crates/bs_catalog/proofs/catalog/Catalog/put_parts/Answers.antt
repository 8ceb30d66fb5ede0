use Rattle.std.proofs.Common.{◌≡◌, ◌<◌, ℕ, List, length, sym, subst}
use Rattle.std.proofs.lemmas.Result.{on_ok_weaker}
use Rattle.bs_split.specs.Splitting.{init}
use Rattle.bs_part.specs.Partition.{tail}
use Rattle.bs_catalog.specs.Shelf.{Shelf, Numbers, AreRows, split_rows, part_rows, rows_at, Grows}
use Rattle.bs_catalog.specs.Making.{without_first}
use Rattle.bs_catalog.proofs.Shelving.{held_long, long_parts, holds_more, holds_put, read_held, part_rows_made, some_part_rows, stays_made}
use Rattle.bs_catalog.proofs.Grouping.{groups_stay, groups_forgotten}
use Rattle.bs_catalog.proofs.catalog.Catalog.put_parts.Goals as goal

pub invariant_of-self : goal.invariant_of-self
invariant_of-self c = (
  holds_more split_rows c.self.inside.arena c.parts_by.new.arena c.self.inside.split_lists.items c.parts_by.ensures.grows c.self.invariant.0,
  holds_more part_rows c.self.inside.arena c.parts_by.new.arena c.self.inside.part_lists.items c.parts_by.ensures.grows c.self.invariant.1,
  groups_stay init c.self.inside.arena c.parts_by.new.arena c.self.inside.split_lists.items c.self.inside.split_groups.items c.parts_by.ensures.grows c.self.invariant.2,
  groups_stay tail c.self.inside.arena c.parts_by.new.arena c.self.inside.part_lists.items c.self.inside.part_groups.items c.parts_by.ensures.grows c.self.invariant.3,
)

pub invariant_of-self-2 : goal.invariant_of-self-2
invariant_of-self-2 c =
    let old = c.self.inside.arena in
    let new = c.parts_by.new.arena in
    let lists = c.self.inside.part_lists.items in
    let s = c.args.code.now in
    let x = c.requires.child.0 in
    let child : Numbers old c.args.child x = subst (λ (shelf : Shelf). Numbers shelf.codes c.args.child x) (sym c.self.view_is) c.requires.child.2 in
    let rest : Numbers old c.args.rest (without_first s) = subst (λ (shelf : Shelf). Numbers shelf.codes c.args.rest (without_first s)) (sym c.self.view_is) c.requires.rest in
    let some_kids : 0 < length (rows_at lists c.args.child) = subst (λ (shelf : Shelf). 0 < length (rows_at shelf.parts c.args.child)) (sym c.self.view_is) c.requires.kids in
    let some_others : 0 < length (rows_at lists c.args.rest) = subst (λ (shelf : Shelf). 0 < length (rows_at shelf.parts c.args.rest)) (sym c.self.view_is) c.requires.others in
    let rows : AreRows new c.in_ok-rows.rows (part_rows s) =
    part_rows_made old new c.index.result.now c.index-2.result.now c.in_ok-rows.rows s x c.order-order.ensures.code c.requires.child.1
    (read_held part_rows old lists c.args.child x c.index.result.now c.self.invariant.1 some_kids c.index.ensures child)
    (read_held part_rows old lists c.args.rest (without_first s) c.index-2.result.now c.self.invariant.1 some_others c.index-2.ensures rest) c.in_ok-rows.ensures.rows in
    let here : Numbers new c.args.number s = c.parts_by.ensures.grows c.args.number s (subst (λ (shelf : Shelf). Numbers shelf.codes c.args.number s) (sym c.self.view_is) c.requires.code) in (
      holds_more split_rows old new c.self.inside.split_lists.items c.parts_by.ensures.grows c.self.invariant.0,
      holds_put part_rows new lists c.put_rows.new.lists.items c.args.number c.in_ok-rows.rows s
          (holds_more part_rows old new lists c.parts_by.ensures.grows c.self.invariant.1) c.put_rows.ensures.others here rows,
      groups_stay init old new c.self.inside.split_lists.items c.self.inside.split_groups.items c.parts_by.ensures.grows c.self.invariant.2,
      groups_forgotten tail new c.self.inside.part_lists.items c.put_rows.new.lists.items c.self.inside.part_groups.items c.put_rows.new.groups.items c.args.number c.in_ok-rows.rows
          (groups_stay tail old new c.self.inside.part_lists.items c.self.inside.part_groups.items c.parts_by.ensures.grows c.self.invariant.3) c.put_rows.ensures.others c.put_rows.ensures.forgotten,
    )

pub returns-clause-grows : goal.returns-clause-grows
returns-clause-grows c =
    let old = c.self.inside.arena in
    let new = c.parts_by.new.arena in
    let lists = c.self.inside.part_lists.items in
    let s = c.args.code.now in
    let x = c.requires.child.0 in
    let child : Numbers old c.args.child x = subst (λ (shelf : Shelf). Numbers shelf.codes c.args.child x) (sym c.self.view_is) c.requires.child.2 in
    let rest : Numbers old c.args.rest (without_first s) = subst (λ (shelf : Shelf). Numbers shelf.codes c.args.rest (without_first s)) (sym c.self.view_is) c.requires.rest in
    let some_kids : 0 < length (rows_at lists c.args.child) = subst (λ (shelf : Shelf). 0 < length (rows_at shelf.parts c.args.child)) (sym c.self.view_is) c.requires.kids in
    let some_others : 0 < length (rows_at lists c.args.rest) = subst (λ (shelf : Shelf). 0 < length (rows_at shelf.parts c.args.rest)) (sym c.self.view_is) c.requires.others in
    let rows : AreRows new c.in_ok-rows.rows (part_rows s) =
    part_rows_made old new c.index.result.now c.index-2.result.now c.in_ok-rows.rows s x c.order-order.ensures.code c.requires.child.1
    (read_held part_rows old lists c.args.child x c.index.result.now c.self.invariant.1 some_kids c.index.ensures child)
    (read_held part_rows old lists c.args.rest (without_first s) c.index-2.result.now c.self.invariant.1 some_others c.index-2.ensures rest) c.in_ok-rows.ensures.rows in
    let some : 0 < length c.in_ok-rows.rows = some_part_rows new c.in_ok-rows.rows s rows in
    let after : Shelf = record { codes = new; splits = c.self.inside.split_lists.items; parts = c.put_rows.new.lists.items } in
    subst (λ (shelf : Shelf). Grows shelf after) c.self.view_is
    (record {
      codes = c.parts_by.ensures.grows;
      splits = λ n h. h;
      parts = stays_made lists c.put_rows.new.lists.items c.args.number c.in_ok-rows.rows some c.put_rows.ensures.others;
    })

pub returns-clause-made : goal.returns-clause-made
returns-clause-made c =
    let old = c.self.inside.arena in
    let new = c.parts_by.new.arena in
    let lists = c.self.inside.part_lists.items in
    let s = c.args.code.now in
    let x = c.requires.child.0 in
    let child : Numbers old c.args.child x = subst (λ (shelf : Shelf). Numbers shelf.codes c.args.child x) (sym c.self.view_is) c.requires.child.2 in
    let rest : Numbers old c.args.rest (without_first s) = subst (λ (shelf : Shelf). Numbers shelf.codes c.args.rest (without_first s)) (sym c.self.view_is) c.requires.rest in
    let some_kids : 0 < length (rows_at lists c.args.child) = subst (λ (shelf : Shelf). 0 < length (rows_at shelf.parts c.args.child)) (sym c.self.view_is) c.requires.kids in
    let some_others : 0 < length (rows_at lists c.args.rest) = subst (λ (shelf : Shelf). 0 < length (rows_at shelf.parts c.args.rest)) (sym c.self.view_is) c.requires.others in
    let rows : AreRows new c.in_ok-rows.rows (part_rows s) =
    part_rows_made old new c.index.result.now c.index-2.result.now c.in_ok-rows.rows s x c.order-order.ensures.code c.requires.child.1
    (read_held part_rows old lists c.args.child x c.index.result.now c.self.invariant.1 some_kids c.index.ensures child)
    (read_held part_rows old lists c.args.rest (without_first s) c.index-2.result.now c.self.invariant.1 some_others c.index-2.ensures rest) c.in_ok-rows.ensures.rows in
    let some : 0 < length c.in_ok-rows.rows = some_part_rows new c.in_ok-rows.rows s rows in
    on_ok_weaker c.put_rows.result
    (λ (e : rows_at c.put_rows.new.lists.items c.args.number ≡ c.in_ok-rows.rows). subst (λ (xs : List (List ℕ)). 0 < length xs) (sym e) some) c.put_rows.ensures.put

pub parts_by-requires-clause-kids : goal.parts_by-requires-clause-kids
parts_by-requires-clause-kids c =
    let some : 0 < length (rows_at c.self.inside.part_lists.items c.args.child) = subst (λ (shelf : Shelf). 0 < length (rows_at shelf.parts c.args.child)) (sym c.self.view_is) c.requires.kids in
    held_long 2 part_rows long_parts c.self.inside.arena c.self.inside.part_lists.items c.args.child c.index.result.now c.self.invariant.1 some c.index.ensures

pub parts_by-requires-clause-rest : goal.parts_by-requires-clause-rest
parts_by-requires-clause-rest c =
    let some : 0 < length (rows_at c.self.inside.part_lists.items c.args.rest) = subst (λ (shelf : Shelf). 0 < length (rows_at shelf.parts c.args.rest)) (sym c.self.view_is) c.requires.others in
    held_long 2 part_rows long_parts c.self.inside.arena c.self.inside.part_lists.items c.args.rest c.index-2.result.now c.self.invariant.1 some c.index-2.ensures
