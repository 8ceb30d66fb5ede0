use Rattle.std.proofs.Common.{◌++◌, take, ◌∙◌}
use Rattle.bs_io.proofs.Joins.{Adds-more, front-more}
use Rattle.bs_io.proofs.sink.write_all.Goals as goal

pub loop-rest-preserved : goal.loop-rest-preserved
loop-rest-preserved g c =
    let was = c.loop-rest.invariant.front in
    let rest = c.loop-rest.rest.now in
    record {
      front = (was.0 ++ take c.in_ok-n.n rest, front-more _ _ _ _ was.1 c.in_ok-n.ensures.within, Adds-more _ _ _ _ _ was.2 c.in_ok-n.ensures.takes);
      calm = c.in_ok-n.ensures.calm ∙ c.loop-rest.invariant.calm;
      flushed = c.in_ok-n.ensures.flushed ∙ c.loop-rest.invariant.flushed;
    }
