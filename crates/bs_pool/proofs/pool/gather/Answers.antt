use Rattle.std.proofs.Common.{◌≡◌, false, All, length, ap, sym, subst, ◌∙◌, arith}
use Rattle.bs_pool.specs.declared.seat.Seat.{Seat}
use Rattle.bs_pool.specs.Answers.{AreAnswers}
use Rattle.bs_pool.specs.Hands.{below}
use Rattle.bs_pool.specs.Seats.{jobs_of_all}
use Rattle.bs_pool.proofs.Answered.{all_filled, none_filled, empty_placed, if_ok_mono}
use Rattle.bs_pool.proofs.pool.gather.Goals as goal

pub complete-requires : goal.complete-requires
complete-requires c =
    let none_short : All (λ (s : Seat). s.short ≡ false) c.args.seats.items = subst (All (λ (s : Seat). s.short ≡ false)) c.deref.ensures.value (c.any_short.ensures c.if-any_short.false) in
    let long : length c.put_all.new.places.items ≡ c.args.places.len = let a = c.put_all.new.places.ok.0 in let b = c.put_all.ensures.long in omega arith in
    all_filled c.put_all.new.places.items (λ x. jobs_of_all x c.args.seats.items) (c.put_all.ensures.filled (λ _. 0) (none_filled c.args.places.items))
    (λ x. c.requires.once none_short x ∙ ap (below x) (sym long))

pub returns : goal.returns
returns c = if_ok_mono _ _ c.complete.result (λ v h answer done.
    subst (λ n. AreAnswers answer n v.items) c.put_all.ensures.long (h answer (c.put_all.ensures.placed answer done (empty_placed answer c.args.places.items c.requires.empty)))) c.complete.ensures
