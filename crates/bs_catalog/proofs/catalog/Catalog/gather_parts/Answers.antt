use Rattle.std.proofs.Common.{◌≡◌, ◌<◌, length, slice_range, ap, sym, ◌∙◌, subst}
use Rattle.bs_split.specs.Splitting.{init}
use Rattle.bs_part.specs.Partition.{tail}
use Rattle.bs_catalog.specs.Shelf.{Shelf, split_rows, part_rows, rows_at}
use Rattle.bs_catalog.proofs.Shelving.{held_long, some_long, long_parts, holds_more, read_rows}
use Rattle.bs_catalog.proofs.Grouping.{groups_stay, groups_put, gathered_here, part_sequences, tail_is}
use Rattle.bs_catalog.proofs.catalog.Catalog.gather_parts.Goals as goal

pub invariant_of-self : goal.invariant_of-self
invariant_of-self c =
    let s = c.self.inside in let new = c.gather.new.arena in (
      holds_more split_rows s.arena new s.split_lists.items c.gather.ensures.grows c.self.invariant.0,
      holds_more part_rows s.arena new s.part_lists.items c.gather.ensures.grows c.self.invariant.1,
      groups_stay init s.arena new s.split_lists.items s.split_groups.items c.gather.ensures.grows c.self.invariant.2,
      groups_stay tail s.arena new s.part_lists.items s.part_groups.items c.gather.ensures.grows c.self.invariant.3,
    )

pub invariant_of-self-2 : goal.invariant_of-self-2
invariant_of-self-2 c =
    let s = c.self.inside in let new = c.gather.new.arena in
    let lists = s.part_lists.items in let rows = c.index-rows.result.now in
    let some : 0 < length (rows_at lists c.args.number) = subst (λ (shelf : Shelf). 0 < length (rows_at shelf.parts c.args.number)) (sym c.self.view_is) c.requires in
    let read : rows_at lists c.args.number ≡ rows = read_rows lists c.args.number rows c.index-rows.ensures some in
    let range : slice_range rows 1 c.len.result ≡ tail rows = ap (slice_range rows 1) c.len.ensures ∙ tail_is rows in
    let here = gathered_here tail part_rows part_sequences s.arena new lists c.args.number 1 c.len.result rows c.in_ok-groups.groups c.self.invariant.1 some read range c.in_ok-groups.ensures.gathered in (
      holds_more split_rows s.arena new s.split_lists.items c.gather.ensures.grows c.self.invariant.0,
      holds_more part_rows s.arena new s.part_lists.items c.gather.ensures.grows c.self.invariant.1,
      groups_stay init s.arena new s.split_lists.items s.split_groups.items c.gather.ensures.grows c.self.invariant.2,
      groups_put tail new s.part_lists.items s.part_groups.items c.put_groups.new.groups.items c.args.number c.in_ok-groups.groups
          (groups_stay tail s.arena new s.part_lists.items s.part_groups.items c.gather.ensures.grows c.self.invariant.3) c.put_groups.ensures here,
    )

pub gather-requires-clause-some : goal.gather-requires-clause-some
gather-requires-clause-some c =
    let some : 0 < length (rows_at c.self.inside.part_lists.items c.args.number) = subst (λ (shelf : Shelf). 0 < length (rows_at shelf.parts c.args.number)) (sym c.self.view_is) c.requires in
    held_long 1 part_rows (λ s. some_long (part_rows s) (long_parts s)) c.self.inside.arena c.self.inside.part_lists.items c.args.number c.index-rows.result.now c.self.invariant.1 some c.index-rows.ensures
