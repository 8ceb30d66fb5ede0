use Rattle.std.proofs.Common.{◌≡◌, [], ◌∷◌, ◌++◌, ap, subst, ◌∙◌, arith}
use Rattle.std.specs.Prelude.{MatchOption}
use Rattle.crossbeam_deque.specs.Handles.{view, stealer_deque}
use Rattle.bs_pool.specs.declared.thief.Thief.{Thief}
use Rattle.bs_pool.proofs.Grows.{crew_set, stolen}
use Rattle.bs_pool.proofs.take.steal_at.Goals as goal

pub returns-clause-crew : goal.returns-clause-crew
returns-clause-crew g c =
    crew_set c.args.thieves.now.items c.args.victim c.index_mut.result.now c.steal.new.self (let o = c.args.thieves.now.ok.0 in let r = c.requires in omega arith)
    (c.steal.ensures.deque ∙ ap (λ (t : Thief). stealer_deque t.taker) c.index_mut.ensures.value)

pub returns-clause-carried : goal.returns-clause-carried
returns-clause-carried g c = λ x.
    stolen x c.args.thieves.now.items c.args.victim c.index_mut.result.now c.steal.new.self c.steal.result (let o = c.args.thieves.now.ok.0 in let r = c.requires in omega arith)
    (subst (λ (t : Thief). MatchOption c.steal.result ((view c.steal.new.self.pass).taken ≡ (view t.pass).taken) (λ job. (view c.steal.new.self.pass).taken ≡ (view t.pass).taken ++ job ∷ []))
    c.index_mut.ensures.value c.steal.ensures.taken)
