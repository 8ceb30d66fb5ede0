use Rattle.bs_top.proofs.Sessions.{few_sessions}
use Rattle.bs_top.proofs.Texts.{text_of-script, text_of-refused, joined-answers}
use Rattle.bs_top.proofs.text.answer_by_workers.Goals as goal

pub run_sessions-requires-clause-few_sessions : goal.run_sessions-requires-clause-few_sessions
run_sessions-requires-clause-few_sessions g c κs within = few_sessions c.args.input.now c.in-Ok.script c.in-Ok.ensures

pub returns-in_ok-run_sessions-in-Ok : goal.returns-in_ok-run_sessions-in-Ok
returns-in_ok-run_sessions-in-Ok g c = text_of-script _ _ _ c.in-Ok.ensures (joined-answers _ _ c.in_ok-run_sessions-in-Ok.ensures)

pub returns-in-Err : goal.returns-in-Err
returns-in-Err g c = text_of-refused _ _ c.in-Err.ensures
