use Rattle.bs_top.proofs.Texts.{text_of-script, text_of-refused}
use Rattle.bs_top.proofs.text.answer_alone.Goals as goal

pub returns-in_ok-write_sessions-in-Ok : goal.returns-in_ok-write_sessions-in-Ok
returns-in_ok-write_sessions-in-Ok c = text_of-script _ _ _ c.in-Ok.ensures c.in_ok-write_sessions-in-Ok.ensures

pub returns-in-Err : goal.returns-in-Err
returns-in-Err c = text_of-refused _ _ c.in-Err.ensures
