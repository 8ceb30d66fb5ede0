use Rattle.std.proofs.Common.{◌≡◌, ◌<◌, length, get_or, sym, ◌∙◌, subst, arith}
use Rattle.std.proofs.lemmas.Bool.Decides.{nat_tests}
use Rattle.bs_weight.proofs.Remembering.{recalled}
use Rattle.bs_weight.proofs.memory.Memory.recall.Goals as goal

pub returns-then-eq : goal.returns-then-eq
returns-then-eq c =
    let found = c.in_ok-entry.ensures.lookup in
    let place = c.place-place.result in
    let within : place < length c.deref.result.now = let h = found.0 in grind (arith, nat_tests) in
    let entry = c.in_ok-entry.entry.now in
    let at : entry ≡ get_or c.deref.result.now place entry = found.1 in
    recalled c.args.self.now c.self.inside.table c.self.inside.entries.items place entry c.args.code.now c.self.view_is c.self.invariant
    (subst (λ xs. place < length xs) c.deref.ensures.value within) (subst (λ xs. entry ≡ get_or xs place entry) c.deref.ensures.value at) (sym c.eq.ensures ∙ c.if-eq.true)
