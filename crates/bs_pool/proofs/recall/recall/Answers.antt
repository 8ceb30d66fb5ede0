use Rattle.std.proofs.Common.{◌<◌, length, refl, ap, ◌∙◌, arith, Vec, Global}
use Rattle.bs_pool.specs.declared.thief.Thief.{Thief}
use Rattle.bs_pool.proofs.Homes.{home_crew, home_more}
use Rattle.bs_pool.proofs.recall.recall.Goals as goal

pub send_home-requires : goal.send_home-requires
send_home-requires c =
    let here : c.loop-worker.worker < length c.loop-worker.seats.items =
    let o = c.args.seats.now.ok.0 in let l = c.len-worker-end.ensures in let b = c.loop-worker-test.true in let q = c.loop-worker.invariant.long in omega arith in
    home_crew c.loop-worker.worker c.args.seats.now.items c.loop-worker.seats.items c.index_mut.result.now _ c.replace-crew.result.items c.loop-worker.invariant here c.index_mut.ensures.value refl
    (ap (λ (u : Vec Thief Global). u.items) c.replace-crew.ensures.value)

pub loop-worker-preserved : goal.loop-worker-preserved
loop-worker-preserved c =
    let here : c.loop-worker.worker < length c.loop-worker.seats.items =
    let o = c.args.seats.now.ok.0 in let l = c.len-worker-end.ensures in let b = c.loop-worker-test.true in let q = c.loop-worker.invariant.long in omega arith in
    home_more c.loop-worker.worker c.args.seats.now.items c.loop-worker.seats.items c.send_home.new.seats.items c.index_mut.result.now _ c.replace-crew.result.items c.loop-worker.invariant here c.index_mut.ensures.value refl refl refl
    (ap (λ (u : Vec Thief Global). u.items) c.replace-crew.ensures.after ∙ c.new.ensures.items) (ap (λ (u : Vec Thief Global). u.items) c.replace-crew.ensures.value) c.send_home.ensures.got c.send_home.ensures.taken
