use Rattle.std.proofs.Common.{◌≡◌, ◌<◌, ◌++◌, [], ◌∷◌, List, ℕ, length, sym, ap, ◌∙◌, subst}
use Rattle.bs_core.specs.Machine.{state_of, pair, code_at, list_at, at_place, without}
use Rattle.bs_core.specs.declared.table.Held.{Held}
use Rattle.bs_core.proofs.Basics.{length_at_place}
use Rattle.bs_core.proofs.Moves.{give_is}
use Rattle.bs_core.proofs.changes.give.Goals as goal

pub drop_at-requires : goal.drop_at-requires
drop_at-requires c =
    let long = ap (λ (ls : List (List Held)). length ls) c.in_ok-push_at.ensures.ok ∙ length_at_place (λ (l : List Held). l ++ c.pair_of-pair.result ∷ []) c.args.to c.args.hands.now.items in
    subst (λ (n : ℕ). c.args.from < n) (sym long) c.requires.from

pub returns-clause-ok : goal.returns-clause-ok
returns-clause-ok c =
    let hs = c.args.hands.now.items in
    let x = c.args.name in
    let pair_is : c.pair_of-pair.result ≡ pair x (code_at x (list_at c.args.from hs)) = c.pair_of-pair.ensures ∙ ap (λ (ls : List (List Held)). pair x (code_at x (list_at c.args.from ls))) c.deref.ensures.value in
    ap (state_of c.args.tables.now) (c.drop_at.ensures ∙ ap (at_place c.args.from (without x)) (c.in_ok-push_at.ensures.ok ∙ ap (λ (d : Held). at_place c.args.to (λ (l : List Held). l ++ d ∷ []) hs) pair_is)) ∙ give_is c.args.from c.args.to x c.args.tables.now hs c.requires.pair
