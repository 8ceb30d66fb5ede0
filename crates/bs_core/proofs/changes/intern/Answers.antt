use Rattle.std.proofs.Common.{◌≡◌, ◌++◌, [], ◌∷◌, List, true, false, sym, ap, ap₂, ◌∙◌, subst, arith}
use Rattle.std.specs.Prelude.{nat_lt, IfSome, is_some, Option}
use Rattle.std.proofs.lemmas.Bool.{ltb-true, ltb-false}
use Rattle.bs_tree.specs.Code.{child_codes}
use Rattle.bs_core.specs.Codes.{children}
use Rattle.bs_core.specs.Machine.{state_of, pair, codes, added, taken, left, has_all, at_place, list_at, table_at}
use Rattle.bs_core.specs.declared.name.Name.{Name}
use Rattle.bs_core.specs.declared.table.Held.{Held}
use Rattle.bs_core.specs.declared.table.Table.{Table}
use Rattle.bs_core.specs.declared.hand.Taken.{Taken}
use Rattle.bs_core.proofs.Basics.{children_is}
use Rattle.bs_core.proofs.Moves.{list_here, table_here, intern_found, intern_new, dense_where_new}
use Rattle.bs_core.proofs.changes.intern.Goals as goal

pub returns-then-has_code-clause-ok : goal.returns-then-has_code-clause-ok
returns-then-has_code-clause-ok c =
    let ts = c.args.tables.now.items in
    let hs = c.args.hands.now.items in
    let x = c.args.name in
    let t_is : c.index.result.now ≡ table_at x.stripe ts = table_here c.from.result x.stripe ts c.index.result.now c.from.ensures c.requires.stripe c.index.ensures in
    let k = c.args.code.now in
    let there : nat_lt 0 (codes k (table_at x.stripe ts).entries) ≡ true = sym (c.has_code.ensures ∙ ap (λ (t : Table). nat_lt 0 (codes k t.entries)) t_is) ∙ c.if-has_code.true in
    ap₂ state_of c.raise_at.ensures c.in_ok-push_at.ensures.ok ∙ intern_found c.args.party k x ts hs (ltb-true 0 (codes k (table_at x.stripe ts).entries) there)

pub add_at-requires-clause-dense : goal.add_at-requires-clause-dense
add_at-requires-clause-dense c =
    let ts = c.args.tables.now.items in
    let hs = c.args.hands.now.items in
    let x = c.args.name in
    let t_is : c.index.result.now ≡ table_at x.stripe ts = table_here c.from.result x.stripe ts c.index.result.now c.from.ensures c.requires.stripe c.index.ensures in
    let k = c.args.code.now in
    let none : nat_lt 0 (codes k (table_at x.stripe ts).entries) ≡ false = sym (c.has_code.ensures ∙ ap (λ (t : Table). nat_lt 0 (codes k t.entries)) t_is) ∙ c.if-has_code.false in
    let few = ltb-false 0 (codes k (table_at x.stripe ts).entries) none in
    dense_where_new x.slot k (table_at x.stripe ts) c.requires.slot (omega arith)

pub returns-in_ok-add_at-in-Some-clause-ok : goal.returns-in_ok-add_at-in-Some-clause-ok
returns-in_ok-add_at-in-Some-clause-ok c =
    let ts = c.args.tables.now.items in
    let hs = c.args.hands.now.items in
    let x = c.args.name in
    let t_is : c.index.result.now ≡ table_at x.stripe ts = table_here c.from.result x.stripe ts c.index.result.now c.from.ensures c.requires.stripe c.index.ensures in
    let k = c.args.code.now in
    let none : nat_lt 0 (codes k (table_at x.stripe ts).entries) ≡ false = sym (c.has_code.ensures ∙ ap (λ (t : Table). nat_lt 0 (codes k t.entries)) t_is) ∙ c.if-has_code.false in
    let few = ltb-false 0 (codes k (table_at x.stripe ts).entries) none in
    let l = list_at c.args.party hs in
    let l_is : c.index-2.result.now ≡ l = list_here c.args.party hs c.index-2.result.now c.requires.party c.index-2.ensures in
    let names : c.in-Some.taken.names ≡ taken (children k) l = subst (λ (o : Option Taken). IfSome o (λ t. t.names ≡ taken (child_codes k) c.index-2.result.now)) c.in-Some.is c.in_ok-taken.ensures.names ∙ ap₂ taken (sym (children_is k)) l_is in
    let rest : c.in-Some.taken.rest ≡ left (children k) l = subst (λ (o : Option Taken). IfSome o (λ t. t.rest ≡ left (child_codes k) c.index-2.result.now)) c.in-Some.is c.in_ok-taken.ensures.rest ∙ ap₂ left (sym (children_is k)) l_is in
    let put = c.put_at.ensures ∙ ap (λ (ks : List Held). at_place c.args.party (λ (_ : List Held). ks) hs) (c.in_ok-push-in-Some.ensures.ok ∙ ap (λ (ks : List Held). ks ++ pair x k ∷ []) rest) in
    ap₂ state_of (c.in_ok-add_at-in-Some.ensures.ok ∙ ap (λ (xs : List Name). at_place x.stripe (added x.slot k xs) ts) names) put ∙ intern_new c.args.party k x ts hs (omega arith)

pub returns-in-None-clause-ok : goal.returns-in-None-clause-ok
returns-in-None-clause-ok c =
    let hs = c.args.hands.now.items in
    let k = c.args.code.now in
    let l_is : c.index-2.result.now ≡ list_at c.args.party hs = list_here c.args.party hs c.index-2.result.now c.requires.party c.index-2.ensures in
    let no : false ≡ true = ap (λ (o : Option Taken). is_some o) (sym c.in-None.is) ∙ c.in_ok-taken.ensures.all ∙ ap (has_all (child_codes k)) l_is ∙ c.requires.children in
    absurd (cc)
