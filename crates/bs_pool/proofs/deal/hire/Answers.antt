use Rattle.std.proofs.Common.{◌<◌, length, refl, arith}
use Rattle.bs_pool.proofs.Deals.{hired_more}
use Rattle.bs_pool.proofs.deal.hire.Goals as goal

pub loop-worker-preserved : goal.loop-worker-preserved
loop-worker-preserved c =
    let k = c.loop-worker.worker in
    let e = c.in_ok-crew.ensures in
    let few : k < 64 = let r = c.requires.many in let l = c.len-worker-end.ensures in let b = c.loop-worker-test.true in omega arith in
    let here : k < length c.make_crew.new.seats.items =
    let o = c.args.seats.now.ok.0 in let l = c.len-worker-end.ensures in let b = c.loop-worker-test.true in let p = e.parted.0 in let q = c.loop-worker.invariant.long in omega arith in
    hired_more k c.args.seats.now.items c.loop-worker.seats.items c.make_crew.new.seats.items c.index_mut.result.now _ c.loop-worker.invariant e.parted few here c.index_mut.ensures.value refl refl refl e.crew.0 e.crew.1
