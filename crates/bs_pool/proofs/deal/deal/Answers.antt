use Rattle.std.proofs.Common.{◌<◌, ◌%◌, length, arith, sym, subst}
use Rattle.std.proofs.lemmas.List.Elements.{All-set}
use Rattle.bs_pool.specs.Seats.{New}
use Rattle.bs_pool.proofs.Deals.{dealt_new, dealt_put}
use Rattle.bs_pool.proofs.deal.deal.Goals as goal

pub loop-job-preserved : goal.loop-job-preserved
loop-job-preserved c =
    let i = c.loop-job.invariant in
    let seats = c.loop-job.seats.items in
    let at = c.loop-job.job % c.len-workers.result in
    let v = c.index_mut.result.now in
    let p = c.in_ok-put.ensures in
    let e = c.index_mut.ensures.value in
    let here : at < length seats = let o = c.loop-job.seats.ok.0 in let s = c.requires.some in let l = c.len-workers.ensures in let j = i.long in omega arith in record {
      long = i.long;
      new = All-set New seats at c.put.new.self (dealt_new _ v c.put.new.self p (subst New (sym e) (i.new at v here))) i.new;
      put = λ x. dealt_put x _ seats at v c.put.new.self here e p (i.put x);
    }
