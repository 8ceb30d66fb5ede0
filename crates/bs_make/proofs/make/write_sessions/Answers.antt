use Rattle.bs_make.proofs.Texts.{sessions-more, sessions-end}
use Rattle.bs_make.proofs.make.write_sessions.Goals as goal

pub sessions-preserved : goal.sessions-preserved
sessions-preserved c =
    rw c.in_ok-write_session.ensures.stands (sessions-more 64 c.sessions.counter c.sessions.generator c.sessions.out.items c.write_session.new.out.items _ c.sessions-test.true c.sessions.invariant c.in_ok-write_session.ensures.written)

pub returns : goal.returns
returns c = sessions-end 64 c.sessions.counter c.sessions.generator c.sessions.out.items _ c.sessions-test.false c.sessions.invariant
