use Rattle.bs_top.specs.Run.{joined}
use Rattle.bs_top.proofs.Mades.{made_of_summary}
use Rattle.bs_top.proofs.run.make.Goals as goal

pub returns-in-Ok-clause-made : goal.returns-in-Ok-clause-made
returns-in-Ok-clause-made g c =
    made_of_summary _ _ _ _ _ _ c.args.seed (joined c.in-Ok.texts.items) c.in-Ok.ensures
    c.put.ensures.either c.put.ensures.done c.put.ensures.done_flushed c.put.ensures.fault c.put.ensures.fault_front c.put.ensures.fault_unflushed c.put.ensures.calm
