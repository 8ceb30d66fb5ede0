use Rattle.std.proofs.Common.{◌≡◌, ◌+◌, ◌<◌, ◌≤◌, ◌==◌, [], ◌∷◌, ◌++◌, List, length, length-append, get_or, sym, ap, ◌∙◌, subst, arith, All}
use Rattle.std.proofs.lemmas.Bool.{eqb-true}
use Rattle.std.proofs.lemmas.List.Elements.{All-append}
use Rattle.bs_store.specs.Seats.{OfPass}
use Rattle.bs_store.specs.Closing.{numbers_of}
use Rattle.bs_memo.specs.Stripes.{IsEmptyOf}
use Rattle.bs_memo.proofs.Filling.{one_all, numbers_home}
use Rattle.bs_memo.proofs.memo.Memo.close.Goals as goal

pub stripes-preserved : goal.stripes-preserved
stripes-preserved g c =
    let i = c.stripes.invariant in
    let p = c.emptied-pass.result in
    let home = c.stripes.home.items in
    let items : c.push_reserved.new.self.items ≡ home ++ p ∷ [] = c.push_reserved.ensures.items in
    let step = ap length c.in-Some.ensures.steps.0 in
    let same : c.number.result ≡ c.index.result.now = eqb-true c.number.result c.index.result.now c.only_if-in-stripes.ensures in
    let rest = i.rest in record {
      yielded = let a = i.yielded in let e = length-append c.stripes.yielded (c.in-Some.stripe ∷ []) in omega arith;
      rest = omega arith;
      numbers = ap numbers_of items ∙ numbers_home c.self.inside.numbers.items c.stripes.place c.index.result.now home p i.numbers (sym c.number.ensures ∙ same ∙ c.index.ensures) (omega arith);
      empty = subst (All (IsEmptyOf g.N.StoreName.table)) (sym items) (All-append (IsEmptyOf g.N.StoreName.table) home (p ∷ []) i.empty (one_all (IsEmptyOf g.N.StoreName.table) p c.emptied-pass.ensures));
      long = let a = i.long in let e = c.push_reserved.ensures.len in omega arith;
      room = let a = i.room in let e = c.push_reserved.ensures.capacity in omega arith;
    }
