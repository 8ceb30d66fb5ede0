use Rattle.std.proofs.Common.{◌≡◌, ◌∙◌, ap, rules, map, reverse, take, drop, length, ◌++◌}
use Rattle.bs_pool.specs.Seats.{local_of, seat_of, AllDone}
use Rattle.bs_pool.specs.Moves.{Grown}
use Rattle.bs_pool.proofs.Lists.{all_of_turned, turned_all, turned_same, all_none, written}
use Rattle.bs_pool.proofs.Once.{both_turned}
use Rattle.bs_pool.proofs.pool.work_together.Goals as goal
use Rattle.bs_pool.proofs.pool.work_together.Given as given

pub serve_all-requires-clause-good : goal.serve_all-requires-clause-good
serve_all-requires-clause-good g c κs within = all_of_turned local_of (g.W.Work.good c.args.work.now) c.as_mut_slice.result.now c.args.locals.now.items (ap (λ l. reverse (map local_of l)) c.as_mut_slice.ensures.value ∙ c.sit_down.ensures.locals) c.requires.good

pub serve_all-requires-clause-done : goal.serve_all-requires-clause-done
serve_all-requires-clause-done g c κs within = all_of_turned seat_of (AllDone (g.W.Work.answer c.args.work.now)) c.as_mut_slice.result.now c.args.seats.now.items (ap (λ l. reverse (map seat_of l)) c.as_mut_slice.ensures.value ∙ c.sit_down.ensures.seats) (all_none (g.W.Work.answer c.args.work.now) c.args.seats.now.items c.requires.fresh)

-- the workers that served are those that stand up
served : (g : given.Over) (c : goal.After-destroy_empty g) → take c.sit_down.new.members.len (c.serve_all.new.members ++ drop (length c.serve_all.new.members) c.sit_down.new.members.items) ≡ c.serve_all.new.members
served g c = written c.sit_down.new.members.len c.serve_all.new.members _ (let e = c.as_mut_slice.ensures.len in let f = c.serve_all.auto.members in search rules)

pub returns-clause-good : goal.returns-clause-good
returns-clause-good g c = turned_all local_of (g.W.Work.good c.args.work.now) c.serve_all.new.members c.stand_up.new.locals.items (c.stand_up.ensures.locals ∙ ap (λ l. reverse (map local_of l)) (served g c)) c.serve_all.ensures.good

pub returns-clause-number : goal.returns-clause-number
returns-clause-number g c = turned_same local_of (g.W.Work.number c.args.work.now) c.as_mut_slice.result.now c.serve_all.new.members c.args.locals.now.items c.stand_up.new.locals.items (ap (λ l. reverse (map local_of l)) c.as_mut_slice.ensures.value ∙ c.sit_down.ensures.locals) (c.stand_up.ensures.locals ∙ ap (λ l. reverse (map local_of l)) (served g c)) c.serve_all.ensures.number

pub returns-clause-done : goal.returns-clause-done
returns-clause-done g c = turned_all seat_of (AllDone (g.W.Work.answer c.args.work.now)) c.serve_all.new.members c.stand_up.new.seats.items (c.stand_up.ensures.seats ∙ ap (λ l. reverse (map seat_of l)) (served g c)) c.serve_all.ensures.done

pub returns-clause-grown : goal.returns-clause-grown
returns-clause-grown g c = both_turned seat_of Grown c.as_mut_slice.result.now c.serve_all.new.members c.args.seats.now.items c.stand_up.new.seats.items (ap (λ l. reverse (map seat_of l)) c.as_mut_slice.ensures.value ∙ c.sit_down.ensures.seats) (c.stand_up.ensures.seats ∙ ap (λ l. reverse (map seat_of l)) (served g c)) c.serve_all.ensures.grown
