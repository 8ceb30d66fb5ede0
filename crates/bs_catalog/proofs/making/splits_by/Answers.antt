use Rattle.std.proofs.Common.{sym, subst, List, ℕ, [], ◌∷◌, map}
use Rattle.bs_catalog.specs.Shelf.{AreRows}
use Rattle.bs_catalog.specs.declared.way.Way.TheVariants.{CutOff}
use Rattle.bs_catalog.specs.Making.{made}
use Rattle.bs_catalog.proofs.Putting.{rows_more}
use Rattle.bs_catalog.proofs.making.splits_by.Goals as goal

pub returns-clause-rows : goal.returns-clause-rows
returns-clause-rows c = λ x ks rs hx hk hr.
    let e : AreRows c.args.arena.now c.new-rows.result [] = subst (λ (rows : List (List ℕ)). AreRows c.args.arena.now rows []) (sym c.new-rows.ensures) tt in
    let first = c.in_ok-push_under.ensures.put (x ∷ []) rs [] (hx, tt) hr e in
    c.in_ok-push_all_made.ensures.put ks rs (map (made CutOff (x ∷ [])) rs)
    (rows_more c.args.arena.now c.push_under.new.arena c.args.kids.now ks c.push_under.ensures.grows hk)
    (rows_more c.args.arena.now c.push_under.new.arena c.args.rest.now rs c.push_under.ensures.grows hr) first
