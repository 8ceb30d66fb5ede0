use Rattle.std.proofs.Common.{◌≡◌, List, ℕ, [], ◌∷◌, ◌++◌, subst}
use Rattle.std.proofs.lemmas.Result.{on_ok_weaker}
use Rattle.bs_catalog.specs.declared.way.Way.TheVariants.{CutOff}
use Rattle.bs_catalog.specs.Puts.{Puts}
use Rattle.bs_catalog.proofs.Putting.{put_cut_off, one_of}
use Rattle.bs_catalog.proofs.making.push_cut_off.Goals as goal

pub returns-clause-put : goal.returns-clause-put
returns-clause-put c =
    let kept = c.args.kept.now in
    let row = c.args.row.now in
    let head = c.first_of-head.result in
    let others = c.behind-others.result.now in
    on_ok_weaker c.push.result
    (λ (p : c.push.new.self ≡ c.args.out.now ++ (head ∷ (kept ++ others)) ∷ []).
    subst (λ (r : List ℕ). Puts CutOff c.args.arena.now c.args.arena.now kept r c.args.out.now c.push.new.self) (one_of head row others c.first_of-head.ensures c.behind-others.ensures)
    (put_cut_off c.args.arena.now head kept others c.args.out.now c.push.new.self p))
    c.push.ensures
