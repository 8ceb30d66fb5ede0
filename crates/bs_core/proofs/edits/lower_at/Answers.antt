use Rattle.bs_core.specs.Machine.{lowered}
use Rattle.bs_core.proofs.Moves.{put_place}
use Rattle.bs_core.proofs.edits.lower_at.Goals as goal

pub returns : goal.returns
returns c = put_place c.from.result c.args.name.stripe (lowered c.args.name.slot) c.args.tables.now.items c.index_mut.result.now c.lower.new.self c.from.ensures c.requires c.index_mut.ensures.value c.lower.ensures
