use Rattle.std.proofs.Common.{rules, ◌≡◌, ◌<◌, ◌∙◌, ap, sym, subst, arith, length, ℕ, List}
use Rattle.bs_series.specs.Expressions.{IsOnlyAt}
use Rattle.bs_series.specs.declared.book.Node.{Node}
use Rattle.bs_series.proofs.Nodes.{found_at, only_at_seen, is_new, NotBefore, FoundAt}
use Rattle.bs_series.proofs.book.Book.find.Goals as goal

pub returns-then-eq-clause-found : goal.returns-then-eq-clause-found
returns-then-eq-clause-found c =
    let ns = c.self.inside.nodes.items in
    let q : c.node-item.result.kind ≡ c.args.kind.now = search rules in
    let items : c.deref-node-items.result.now ≡ ns = search rules in
    let at : c.node-item.result ≡ Rattle.std.proofs.Common.get_or ns c.nodes.place c.node-item.result = search rules in
    let lt : c.nodes.place < length ns = search rules in
    subst (λ (i : ℕ). FoundAt c.args.self.now i c.args.kind.now) (sym c.of_place.ensures)
    (found_at ns c.args.self.now c.nodes.place c.args.kind.now c.node-item.result c.self.view_is c.self.invariant lt at q)

pub returns-then-eq-clause-once : goal.returns-then-eq-clause-once
returns-then-eq-clause-once c =
    let ns = c.self.inside.nodes.items in
    let q : c.node-item.result.kind ≡ c.args.kind.now = search rules in
    let items : c.deref-node-items.result.now ≡ ns = search rules in
    let at : c.node-item.result ≡ Rattle.std.proofs.Common.get_or ns c.nodes.place c.node-item.result = search rules in
    let lt : c.nodes.place < length ns = search rules in
    subst (λ (i : ℕ). IsOnlyAt c.args.self.now i) (sym c.of_place.ensures)
    (only_at_seen ns c.args.self.now c.nodes.place c.self.view_is c.self.invariant
    (found_at ns c.args.self.now c.nodes.place c.args.kind.now c.node-item.result c.self.view_is c.self.invariant lt at q).0)

pub returns-clause-not_found : goal.returns-clause-not_found
returns-clause-not_found c f =
    let ns = c.self.inside.nodes.items in
    let none : NotBefore (length ns) ns c.args.kind.now =
    subst (λ (xs : List Node). NotBefore (length xs) xs c.args.kind.now) c.deref-node-items.ensures.value (λ j l. c.nodes.invariant j (omega (arith, l, c.nodes-test.false))) in
    is_new ns c.args.self.now c.args.kind.now f c.self.view_is c.self.invariant c.requires none
