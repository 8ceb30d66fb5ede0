use Rattle.std.proofs.Common.{List, [], ◌∷◌, ◌++◌, ◌+◌, refl, sym, subst}
use Rattle.bs_catalog.specs.Forests.{AreGroups}
use Rattle.bs_catalog.specs.declared.gathering.Gathered.{Gathered}
use Rattle.bs_catalog.proofs.Grouping.{groups_more, groups_next}
use Rattle.bs_catalog.proofs.gathering.count.Goals as goal

pub returns-then-joins : goal.returns-then-joins
returns-then-joins c = λ keys h.
    let g = c.args.group.now in
    let g' : Gathered = record { row = g.row; first = g.first; forest = g.forest; times = g.times + 1 } in
    groups_more keys c.args.groups.now.items c.args.key.now g g' (c.if-joins.ensures.key refl) refl refl refl h

pub returns : goal.returns
returns c = λ keys h.
    let key = c.args.key.now in let next = c.alone.result in
    let gs = c.args.groups.now.items ++ c.args.group.now ∷ [] in
    subst (λ (xs : List Gathered). AreGroups (keys ++ key ∷ []) (xs ++ next ∷ [])) (sym c.in_ok-push.ensures.items)
    (groups_next keys gs key next c.alone.ensures.key c.alone.ensures.row c.alone.ensures.times h)
