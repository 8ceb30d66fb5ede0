use Rattle.std.proofs.Common.{◌≡◌, List, ℕ, [], ◌∷◌, ◌++◌, subst}
use Rattle.std.proofs.lemmas.Result.{on_ok_weaker}
use Rattle.bs_catalog.specs.declared.way.Way.TheVariants.{Sever}
use Rattle.bs_catalog.specs.Puts.{Puts}
use Rattle.bs_catalog.proofs.Putting.{put_severed, one_of, two_of, longer_behind}
use Rattle.bs_catalog.proofs.making.push_severed.Goals as goal

pub first_of-top-requires : goal.first_of-top-requires
first_of-top-requires c = longer_behind 1 c.args.row.now c.behind-roots.result.now c.requires.1 c.behind-roots.ensures

pub returns-clause-put : goal.returns-clause-put
returns-clause-put c =
    let kept = c.args.kept.now in
    let row = c.args.row.now in
    let hung = c.first_of-hung.result in
    let parts = c.behind-parts.result.now in
    let skeleton = c.first_of-skeleton.result in
    let top = c.first_of-top.result in
    let others = c.behind-others.result.now in
    let old = c.args.arena.now in
    let new = c.attach.new.self in
    on_ok_weaker c.push.result
    (λ (p : c.push.new.self ≡ c.args.out.now ++ (c.in_ok-attached.attached ∷ (top ∷ (parts ++ others))) ∷ []).
    subst (λ (k : List ℕ). Puts Sever old new k row c.args.out.now c.push.new.self) (one_of hung kept parts c.first_of-hung.ensures c.behind-parts.ensures)
    (subst (λ (r : List ℕ). Puts Sever old new (hung ∷ parts) r c.args.out.now c.push.new.self)
    (two_of skeleton top row c.behind-roots.result.now others c.first_of-skeleton.ensures c.behind-roots.ensures c.first_of-top.ensures c.behind-others.ensures)
    (put_severed old new c.in_ok-attached.attached hung top skeleton parts others c.args.out.now c.push.new.self
    c.attach.ensures.grows c.in_ok-attached.ensures.is p)))
    c.push.ensures
