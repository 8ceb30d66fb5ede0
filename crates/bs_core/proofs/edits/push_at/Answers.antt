use Rattle.std.proofs.Common.{◌++◌, [], ◌∷◌, List, refl}
use Rattle.bs_core.specs.declared.table.Held.{Held}
use Rattle.bs_core.proofs.Basics.{on_ok}
use Rattle.bs_core.proofs.Moves.{put_place}
use Rattle.bs_core.proofs.edits.push_at.Goals as goal

pub returns-clause-ok : goal.returns-clause-ok
returns-clause-ok c = on_ok c.push.result (λ h. put_place c.args.party c.args.party (λ (l : List Held). l ++ c.args.pair ∷ []) c.args.hands.now.items c.index_mut.result.now c.push.new.self refl c.requires c.index_mut.ensures.value h) c.push.ensures.ok
