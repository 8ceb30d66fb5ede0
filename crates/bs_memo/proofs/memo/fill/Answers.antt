use Rattle.std.proofs.Common.{◌≡◌, ◌+◌, ◌≤◌, [], ◌∷◌, ◌++◌, List, length, length-append, sym, ap, ◌∙◌, arith}
use Rattle.bs_store.specs.Seats.{OfPass}
use Rattle.bs_store.specs.Closing.{numbers_of}
use Rattle.bs_memo.specs.Stripes.{IsEmptyOf}
use Rattle.bs_memo.proofs.Filling.{Cache, rooms_rest, rest_all, numbers_push}
use Rattle.bs_memo.proofs.memo.fill.Goals as goal

pub passes-preserved : goal.passes-preserved
passes-preserved g c =
    let i = c.passes.invariant in
    let p = c.in-Some.pass in
    let popped = c.in-Some-pop_front.ensures.items in
    let step = c.in-Some.ensures.steps.0 in
    let first = c.push_reserved.ensures in
    let second = c.push_reserved-in-passes.ensures in record {
      yielded = let a = i.yielded in let e = length-append c.passes.yielded (p ∷ []) in omega arith;
      left = let a = i.left in let e = ap (length {A = Cache}) popped in omega arith;
      rest = let a = i.rest in let e = ap (length {A = OfPass}) step in omega arith;
      rooms = rooms_rest c.args.capacity c.passes.place c.len-count.result c.passes.caches.items c.pop_front.new.self.items c.in-Some-pop_front.cache i.rooms popped;
      empty = rest_all (IsEmptyOf g.N.StoreName.table) _ _ p step i.empty;
      numbers = first.items ∙ ap (λ l. l ++ c.number.result ∷ []) i.numbers ∙ ap (λ x. numbers_of c.passes.yielded ++ x ∷ []) c.number.ensures ∙ sym (numbers_push c.passes.yielded p);
      counted = let a = i.counted in let e = first.len in omega arith;
      room = let a = i.room in let e = first.capacity in omega arith;
      stripes = let a = i.stripes in let e = second.len in omega arith;
      locks = let a = i.locks in let e = second.capacity in omega arith;
    }
