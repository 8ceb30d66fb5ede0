use Rattle.std.proofs.Common.{refl}
use Rattle.bs_core.specs.Machine.{without}
use Rattle.bs_core.proofs.Moves.{put_place}
use Rattle.bs_core.proofs.edits.drop_at.Goals as goal

pub returns : goal.returns
returns c = put_place c.args.party c.args.party (without c.args.name) c.args.hands.now.items c.index_mut.result.now c.drop_first.new.self refl c.requires c.index_mut.ensures.value c.drop_first.ensures
