use Rattle.std.proofs.Common.{rules, ◌≡◌, Option, IfSome, sym, ◌∙◌, subst}
use Rattle.std.proofs.lemmas.List.Elements.{All-pop}
use Rattle.bs_store.specs.Seats.{OfPass}
use Rattle.bs_memo.specs.Stripes.{IsEmptyOf}
use Rattle.bs_memo_rows.proofs.tests.kept_and_looked.Goals as goal

pub close_two-requires-clause-second : goal.close_two-requires-clause-second
close_two-requires-clause-second g c =
    let t = g.N.StoreName.table in
    let own : c.in_ok-store.store.table ≡ t = search rules in
    let home = (All-pop (IsEmptyOf t) c.close.result.items c.pop-3.new.self.items c.pop-3.result c.pop-3.ensures.items c.close.ensures.empty).1 in
    let q : IsEmptyOf t c.in-Some.q = subst (λ (o : Option OfPass). IfSome o (IsEmptyOf t)) c.in-Some.is home in
    q.0 ∙ sym own
