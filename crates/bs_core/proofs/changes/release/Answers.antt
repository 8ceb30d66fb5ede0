use Rattle.std.proofs.Common.{◌≡◌, ◌<◌, ◌++◌, List, ℕ, length, sym, ap, ap₂, ◌∙◌, subst}
use Rattle.bs_core.specs.Machine.{state_of, freed, without, at_place, table_at}
use Rattle.bs_core.specs.declared.table.Held.{Held}
use Rattle.bs_core.specs.declared.table.Table.{Table}
use Rattle.bs_core.proofs.Basics.{length_at_place}
use Rattle.bs_core.proofs.Moves.{table_here, release_is}
use Rattle.bs_core.proofs.changes.release.Goals as goal

pub drop_at-requires : goal.drop_at-requires
drop_at-requires c =
    let long = ap (λ (ls : List (List Held)). length ls) c.in_ok-push_all_at.ensures.ok ∙ length_at_place (λ (l : List Held). l ++ c.deref.result.now) c.args.party c.args.hands.now.items in
    subst (λ (n : ℕ). c.args.party < n) (sym long) c.requires.party

pub returns-clause-ok : goal.returns-clause-ok
returns-clause-ok c =
    let ts = c.args.tables.now.items in
    let hs = c.args.hands.now.items in
    let x = c.args.name in
    let t_is : c.index.result.now ≡ table_at x.stripe ts = table_here c.from.result x.stripe ts c.index.result.now c.from.ensures c.requires.stripe c.index.ensures in
    let links : c.deref.result.now ≡ freed x.slot (table_at x.stripe ts).entries = c.deref.ensures.value ∙ c.in_ok-links.ensures ∙ ap (λ (t : Table). freed x.slot t.entries) t_is in
    let more = c.in_ok-push_all_at.ensures.ok ∙ ap (λ (ks : List Held). at_place c.args.party (λ (l : List Held). l ++ ks) hs) links in
    ap₂ state_of c.lower_at.ensures (c.drop_at.ensures ∙ ap (at_place c.args.party (without x)) more) ∙ release_is c.args.party x ts hs c.requires.pair
