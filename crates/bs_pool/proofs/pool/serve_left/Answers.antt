use Rattle.std.proofs.Common.{◌<◌, ◌∙◌, length, ap, arith}
use Rattle.std.proofs.lemmas.List.Elements.{All-set}
use Rattle.bs_pool.specs.Seats.{AllDone}
use Rattle.bs_pool.specs.Moves.{Ended}
use Rattle.bs_pool.proofs.Lists.{upto_more}
use Rattle.bs_pool.proofs.Grows.{map_set}
use Rattle.bs_pool.proofs.pool.serve_left.Goals as goal

pub loop-worker-preserved : goal.loop-worker-preserved
loop-worker-preserved g c =
    let i = c.loop-worker.invariant in
    let e = c.serve.ensures in
    let k = c.loop-worker.worker in
    let ls = c.loop-worker.locals.items in
    let ss = c.loop-worker.seats.items in
    let here : k < length c.args.seats.now.items = let o = c.args.seats.now.ok.0 in let l = c.len-worker-end.ensures in let b = c.loop-worker-test.true in omega arith in
    let there : k < length ls =
    let o = c.loop-worker.locals.ok.0 in let l = c.len-worker-end.ensures in let b = c.loop-worker-test.true in let r = c.requires.as_many in let s = i.as_many in omega arith in record {
      good = All-set (g.W.Work.good c.args.work.now) ls k c.serve.new.local e.good i.good;
      number = map_set (g.W.Work.number c.args.work.now) ls k c.index_mut.result.now c.serve.new.local there (e.number ∙ ap (g.W.Work.number c.args.work.now) c.index_mut.ensures.value) ∙ i.number;
      done = All-set (AllDone (g.W.Work.answer c.args.work.now)) ss k c.serve.new.seat e.done i.done;
      upto = upto_more Ended k c.args.seats.now.items ss c.index_mut-in-loop-worker.result.now c.serve.new.seat i.upto here c.index_mut-in-loop-worker.ensures.value (record { grown = e.grown; spent = e.spent });
      long = i.long;
      as_many = i.as_many;
    }
