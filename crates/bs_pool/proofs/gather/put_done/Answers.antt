use Rattle.std.proofs.Common.{◌≡◌, ◌+◌, ◌∙◌, [], ◌∷◌, refl, map, length, sym, ap, subst, All, rules, arith}
use Rattle.bs_pool.specs.Hands.{times}
use Rattle.bs_pool.specs.Seats.{IsDone, job_of}
use Rattle.bs_pool.proofs.Lists.{all_first, all_rest}
use Rattle.bs_pool.proofs.Answered.{one_more, none_left, no_jobs}
use Rattle.bs_pool.proofs.gather.put_done.Goals as goal

pub loop-job-init : goal.loop-job-init
loop-job-init c =
    let same : c.into_iter-job-iterator.result.rest.items ≡ c.args.done.items = search rules in record {
      long = refl;
      placed = λ answer done old. (subst (All (IsDone answer)) (sym same) done, old);
      filled = λ f h. (f, h, λ x. ap (λ l. f x + times x (map job_of l)) same);
    }

pub loop-job-preserved : goal.loop-job-preserved
loop-job-preserved c =
    let i = c.loop-job.invariant in
    let e = c.put_one.ensures in
    let first = c.in-Some.ensures.steps.0 in record {
      long = e.long ∙ i.long;
      placed = λ answer done old.
          let now = i.placed answer done old in
          (all_rest (IsDone answer) _ _ _ first now.0, e.placed answer (all_first (IsDone answer) _ _ _ first now.0) now.1);
      filled = λ f h.
          let now = i.filled f h in
          ((λ x. now.0 x + times x (c.in-Some.job ∷ [])), e.filled now.0 now.1, λ x. one_more x _ _ _ (now.0 x) _ first (now.2 x));
    }

pub returns-clause-filled : goal.returns-clause-filled
returns-clause-filled c = λ f h.
    let now = c.loop-job.invariant.filled f h in
    let rest = c.loop-job.job-iterator.rest in
    let none : length rest.items ≡ 0 = let a = rest.ok.0 in let b = c.in-None.ensures.steps.0 in omega arith in
    none_left f (λ x. times x (map job_of c.args.done.items)) (λ x. times x (map job_of rest.items)) now.0 c.loop-job.places.items (λ x. no_jobs x rest.items none) now.1 now.2
