use Rattle.std.proofs.Common.{◌≡◌, List, ℕ, [], ◌∷◌, ◌++◌, subst}
use Rattle.std.proofs.lemmas.Result.{on_ok_weaker}
use Rattle.bs_catalog.specs.declared.way.Way.TheVariants.{Keep}
use Rattle.bs_catalog.specs.Puts.{Puts}
use Rattle.bs_catalog.proofs.Putting.{put_kept, one_of}
use Rattle.bs_catalog.proofs.making.push_kept.Goals as goal

pub returns-clause-put : goal.returns-clause-put
returns-clause-put c =
    let kept = c.args.kept.now in
    let row = c.args.row.now in
    let below = c.first_of-below.result in
    let top = c.first_of-top.result in
    let cut = c.behind-cut.result.now in
    let others = c.behind-others.result.now in
    let old = c.args.arena.now in
    let new = c.attach.new.self in
    on_ok_weaker c.push.result
    (λ (p : c.push.new.self ≡ c.args.out.now ++ (c.in_ok-head.head ∷ (cut ++ others)) ∷ []).
    subst (λ (k : List ℕ). Puts Keep old new k row c.args.out.now c.push.new.self) (one_of below kept cut c.first_of-below.ensures c.behind-cut.ensures)
    (subst (λ (r : List ℕ). Puts Keep old new (below ∷ cut) r c.args.out.now c.push.new.self) (one_of top row others c.first_of-top.ensures c.behind-others.ensures)
    (put_kept old new c.in_ok-head.head below top cut others c.args.out.now c.push.new.self c.attach.ensures.grows c.in_ok-head.ensures.is p)))
    c.push.ensures
