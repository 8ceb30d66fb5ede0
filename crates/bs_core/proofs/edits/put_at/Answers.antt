use Rattle.std.proofs.Common.{List, refl}
use Rattle.bs_core.specs.declared.table.Held.{Held}
use Rattle.bs_core.proofs.Moves.{put_place}
use Rattle.bs_core.proofs.edits.put_at.Goals as goal

pub returns : goal.returns
returns c = put_place c.args.party c.args.party (λ (l : List Held). c.args.pairs) c.args.hands.now.items c.index_mut.result.now c.args.pairs refl c.requires c.index_mut.ensures.value refl
