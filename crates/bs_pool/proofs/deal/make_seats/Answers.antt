use Rattle.std.proofs.Common.{subst, sym, arith, All}
use Rattle.std.proofs.lemmas.List.Elements.{All-push}
use Rattle.bs_pool.specs.Seats.{New}
use Rattle.bs_pool.proofs.Deals.{unput_more}
use Rattle.bs_pool.proofs.deal.make_seats.Goals as goal

pub loop-worker-preserved : goal.loop-worker-preserved
loop-worker-preserved c =
    let i = c.loop-worker.invariant in
    let p = c.in_ok-push.ensures.items in
    let s = c.in_ok-make_seat.field-0 in
    let n = c.in_ok-make_seat.ensures in record {
      long = let l = c.in_ok-push.ensures.len in let j = i.long in omega arith;
      new = subst (All New) (sym p) (All-push New c.loop-worker.seats.items s i.new n.0);
      none = λ x. unput_more x c.loop-worker.seats.items c.push.new.self.items s p n.1 (i.none x);
    }
