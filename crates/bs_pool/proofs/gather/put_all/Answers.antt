use Rattle.std.proofs.Common.{◌≡◌, ◌+◌, ◌∙◌, refl, length, sym, ap, subst, All, rules, arith}
use Rattle.bs_pool.specs.Hands.{times}
use Rattle.bs_pool.specs.Seats.{AllDone, jobs_at, jobs_of_all}
use Rattle.bs_pool.proofs.Lists.{all_first, all_rest}
use Rattle.bs_pool.proofs.Answered.{one_seat_more, none_left, no_seats}
use Rattle.bs_pool.proofs.gather.put_all.Goals as goal

pub loop-seat-init : goal.loop-seat-init
loop-seat-init c =
    let same : c.into_iter-seat-iterator.result.rest.items ≡ c.args.seats.items = search rules in record {
      long = refl;
      placed = λ answer done old. (subst (All (AllDone answer)) (sym same) done, old);
      filled = λ f h. (f, h, λ x. ap (λ l. f x + jobs_of_all x l) same);
    }

pub loop-seat-preserved : goal.loop-seat-preserved
loop-seat-preserved c =
    let i = c.loop-seat.invariant in
    let e = c.put_done.ensures in
    let first = c.in-Some.ensures.steps.0 in record {
      long = e.long ∙ i.long;
      placed = λ answer done old.
          let now = i.placed answer done old in
          (all_rest (AllDone answer) _ _ _ first now.0, e.placed answer (all_first (AllDone answer) _ _ _ first now.0) now.1);
      filled = λ f h.
          let now = i.filled f h in
          ((λ x. now.0 x + times x (jobs_at c.in-Some.seat)), e.filled now.0 now.1, λ x. one_seat_more x _ _ c.in-Some.seat (now.0 x) _ first (now.2 x));
    }

pub returns-clause-filled : goal.returns-clause-filled
returns-clause-filled c = λ f h.
    let now = c.loop-seat.invariant.filled f h in
    let rest = c.loop-seat.seat-iterator.rest in
    let none : length rest.items ≡ 0 = let a = rest.ok.0 in let b = c.in-None.ensures.steps.0 in omega arith in
    none_left f (λ x. jobs_of_all x c.args.seats.items) (λ x. jobs_of_all x rest.items) now.0 c.loop-seat.places.items (λ x. no_seats x rest.items none) now.1 now.2
