use Rattle.bs_core.specs.Machine.{raised}
use Rattle.bs_core.proofs.Moves.{put_place}
use Rattle.bs_core.proofs.edits.raise_at.Goals as goal

pub returns : goal.returns
returns c = put_place c.from.result c.args.name.stripe (raised c.args.name.slot) c.args.tables.now.items c.index_mut.result.now c.raise.new.self c.from.ensures c.requires c.index_mut.ensures.value c.raise.ensures
