use Rattle.std.proofs.Common.{◌≡◌, ◌<◌, ◌-◌, ℕ, length, slice_range, ap, sym, ◌∙◌, subst}
use Rattle.bs_split.specs.Splitting.{init}
use Rattle.bs_part.specs.Partition.{tail}
use Rattle.bs_catalog.specs.Shelf.{Shelf, split_rows, part_rows, rows_at}
use Rattle.bs_catalog.proofs.Shelving.{held_long, long_splits, holds_more, read_rows}
use Rattle.bs_catalog.proofs.Grouping.{groups_stay, groups_put, gathered_here, split_sequences, init_is}
use Rattle.bs_catalog.proofs.catalog.Catalog.gather_splits.Goals as goal

pub invariant_of-self : goal.invariant_of-self
invariant_of-self c =
    let s = c.self.inside in let new = c.gather.new.arena in (
      holds_more split_rows s.arena new s.split_lists.items c.gather.ensures.grows c.self.invariant.0,
      holds_more part_rows s.arena new s.part_lists.items c.gather.ensures.grows c.self.invariant.1,
      groups_stay init s.arena new s.split_lists.items s.split_groups.items c.gather.ensures.grows c.self.invariant.2,
      groups_stay tail s.arena new s.part_lists.items s.part_groups.items c.gather.ensures.grows c.self.invariant.3,
    )

pub invariant_of-self-2 : goal.invariant_of-self-2
invariant_of-self-2 c =
    let s = c.self.inside in let new = c.gather.new.arena in
    let lists = s.split_lists.items in let rows = c.index-rows.result.now in
    let some : 0 < length (rows_at lists c.args.number) = subst (λ (shelf : Shelf). 0 < length (rows_at shelf.splits c.args.number)) (sym c.self.view_is) c.requires in
    let read : rows_at lists c.args.number ≡ rows = read_rows lists c.args.number rows c.index-rows.ensures some in
    let range : slice_range rows 0 (c.len-end.result - 1) ≡ init rows = ap (λ (n : ℕ). slice_range rows 0 (n - 1)) c.len-end.ensures ∙ init_is rows in
    let here = gathered_here init split_rows split_sequences s.arena new lists c.args.number 0 (c.len-end.result - 1) rows c.in_ok-groups.groups c.self.invariant.0 some read range c.in_ok-groups.ensures.gathered in (
      holds_more split_rows s.arena new s.split_lists.items c.gather.ensures.grows c.self.invariant.0,
      holds_more part_rows s.arena new s.part_lists.items c.gather.ensures.grows c.self.invariant.1,
      groups_put init new s.split_lists.items s.split_groups.items c.put_groups.new.groups.items c.args.number c.in_ok-groups.groups
          (groups_stay init s.arena new s.split_lists.items s.split_groups.items c.gather.ensures.grows c.self.invariant.2) c.put_groups.ensures here,
      groups_stay tail s.arena new s.part_lists.items s.part_groups.items c.gather.ensures.grows c.self.invariant.3,
    )

pub gather-requires-clause-some : goal.gather-requires-clause-some
gather-requires-clause-some c =
    let some : 0 < length (rows_at c.self.inside.split_lists.items c.args.number) = subst (λ (shelf : Shelf). 0 < length (rows_at shelf.splits c.args.number)) (sym c.self.view_is) c.requires in
    held_long 1 split_rows long_splits c.self.inside.arena c.self.inside.split_lists.items c.args.number c.index-rows.result.now c.self.invariant.0 some c.index-rows.ensures
