use Rattle.bs_catalog.proofs.Putting.{one_of}
use Rattle.bs_catalog.proofs.Forests.{key_put}
use Rattle.bs_catalog.proofs.gathering.push_key.Goals as goal

pub returns-clause-put : goal.returns-clause-put
returns-clause-put c = λ codes h s.
    let row = c.args.row.now in
    key_put c.args.arena.now c.forest_of.new.arena c.first_of-first.result c.in_ok-forest.forest c.args.place row c.behind.result.now c.args.keys.now.items c.push.new.self.items codes
    (one_of c.first_of-first.result row c.behind.result.now c.first_of-first.ensures c.behind.ensures) c.forest_of.ensures.grows c.in_ok-forest.ensures.is c.in_ok-push.ensures.items h s
