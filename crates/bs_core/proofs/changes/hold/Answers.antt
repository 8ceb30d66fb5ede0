use Rattle.std.proofs.Common.{◌≡◌, ◌++◌, [], ◌∷◌, List, ap, ap₂, ◌∙◌}
use Rattle.bs_core.specs.Machine.{state_of, pair, code_at, list_at, at_place}
use Rattle.bs_core.specs.declared.table.Held.{Held}
use Rattle.bs_core.proofs.Moves.{hold_is}
use Rattle.bs_core.proofs.changes.hold.Goals as goal

pub returns-clause-ok : goal.returns-clause-ok
returns-clause-ok c =
    let hs = c.args.hands.now.items in
    let x = c.args.name in
    let pair_is : c.pair_of-pair.result ≡ pair x (code_at x (list_at c.args.party hs)) = c.pair_of-pair.ensures ∙ ap (λ (ls : List (List Held)). pair x (code_at x (list_at c.args.party ls))) c.deref.ensures.value in
    ap₂ state_of c.raise_at.ensures (c.in_ok-push_at.ensures.ok ∙ ap (λ (d : Held). at_place c.args.party (λ (l : List Held). l ++ d ∷ []) hs) pair_is) ∙ hold_is c.args.party x c.args.tables.now.items hs
