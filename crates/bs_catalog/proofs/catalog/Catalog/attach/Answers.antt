use Rattle.bs_split.specs.Splitting.{init}
use Rattle.bs_part.specs.Partition.{tail}
use Rattle.bs_catalog.specs.Shelf.{split_rows, part_rows}
use Rattle.bs_catalog.proofs.Shelving.{holds_more}
use Rattle.bs_catalog.proofs.Grouping.{groups_stay}
use Rattle.bs_catalog.proofs.catalog.Catalog.attach.Goals as goal

pub invariant_of-self : goal.invariant_of-self
invariant_of-self c = (
  holds_more split_rows c.self.inside.arena c.attach.new.self c.self.inside.split_lists.items c.attach.ensures.grows c.self.invariant.0,
  holds_more part_rows c.self.inside.arena c.attach.new.self c.self.inside.part_lists.items c.attach.ensures.grows c.self.invariant.1,
  groups_stay init c.self.inside.arena c.attach.new.self c.self.inside.split_lists.items c.self.inside.split_groups.items c.attach.ensures.grows c.self.invariant.2,
  groups_stay tail c.self.inside.arena c.attach.new.self c.self.inside.part_lists.items c.self.inside.part_groups.items c.attach.ensures.grows c.self.invariant.3,
)
