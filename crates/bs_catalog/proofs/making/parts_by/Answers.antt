use Rattle.std.proofs.Common.{sym, subst, List, ℕ, []}
use Rattle.bs_catalog.specs.Shelf.{AreRows}
use Rattle.bs_catalog.specs.declared.way.Way.TheVariants.{Join}
use Rattle.bs_catalog.specs.Making.{all_made}
use Rattle.bs_catalog.proofs.Putting.{rows_more}
use Rattle.bs_catalog.proofs.making.parts_by.Goals as goal

pub returns-clause-rows : goal.returns-clause-rows
returns-clause-rows c = λ ks rs hk hr.
    let e : AreRows c.args.arena.now c.new-rows.result [] = subst (λ (rows : List (List ℕ)). AreRows c.args.arena.now rows []) (sym c.new-rows.ensures) tt in
    let first = c.in_ok-push_all_made.ensures.put ks rs [] hk hr e in
    c.in_ok-push_all_made-2.ensures.put ks rs (all_made Join ks rs)
    (rows_more c.args.arena.now c.push_all_made.new.arena c.args.kids.now ks c.push_all_made.ensures.grows hk)
    (rows_more c.args.arena.now c.push_all_made.new.arena c.args.rest.now rs c.push_all_made.ensures.grows hr) first
