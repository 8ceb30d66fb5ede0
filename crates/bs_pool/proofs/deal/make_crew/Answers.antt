use Rattle.std.proofs.Common.{◌<◌, ◌∙◌, length, arith}
use Rattle.bs_pool.specs.Moves.{Gave}
use Rattle.bs_pool.proofs.Lists.{upto_more}
use Rattle.bs_pool.proofs.Deals.{crew_more, none_more}
use Rattle.bs_pool.proofs.deal.make_crew.Goals as goal

pub loop-worker-preserved : goal.loop-worker-preserved
loop-worker-preserved c =
    let i = c.loop-worker.invariant in
    let k = c.loop-worker.worker in
    let v = c.index_mut.result.now in
    let e = c.index_mut.ensures.value in
    let p = c.in_ok-part.ensures in
    let t = c.in_ok-part.field-0 in
    let here : k < length c.args.seats.now.items = let o = c.args.seats.now.ok.0 in let l = c.len-worker-end.ensures in let b = c.loop-worker-test.true in omega arith in record {
      upto = upto_more Gave k c.args.seats.now.items c.loop-worker.seats.items v c.part.new.self i.upto here e (record { beside = p.beside; now = p.now });
      crew = crew_more c.args.seats.now.items k v c.loop-worker.crew.items c.push.new.self.items t here (e ∙ i.upto.rest k v (omega arith)) p.of_it c.in_ok-push.ensures.items i.crew;
      none = λ x. none_more x c.loop-worker.crew.items c.push.new.self.items t c.in_ok-push.ensures.items p.none (i.none x);
    }
