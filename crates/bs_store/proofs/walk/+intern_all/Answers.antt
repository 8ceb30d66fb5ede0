use Rattle.std.proofs.Common.{◌≡◌, ◌+◌, ◌≤◌, ◌++◌, ◌∷◌, [], length, List, sym, ap, ◌∙◌, subst, arith}
use Rattle.bs_core.specs.Codes.{Code, children}
use Rattle.bs_core.specs.Machine.{linked}
use Rattle.bs_core.specs.declared.name.Name.{Name}
use Rattle.bs_core.proofs.Basics.{children_is}
use Rattle.bs_store.specs.Walks.{Mores, orders}
use Rattle.bs_store.proofs.Interning.{child_more, child_orders, orders_fit, orders_next, few_of, one_gained}
use Rattle.bs_store.proofs.walk.+intern_all.Goals as goal

pub undo-requires-clause-few : goal.undo-requires-clause-few
undo-requires-clause-few g t c = let a = c.children-test.true in let b = c.arity-place-end.ensures.value in few_of c.args.code.now c.children.names.items c.children.place c.children.invariant.all (omega arith)

pub returns-in-Err-clause-most : goal.returns-in-Err-clause-most
returns-in-Err-clause-most g t c =
    let n = orders_next c.args.code.now c.children.names.items c.children.place c.child-child.result c.known_code.ensures c.children.invariant.all c.child-child.ensures.value in
    let a = c.undo.ensures.gains in
    let b = c.intern_all.ensures.most in
    let d = c.children.invariant.most in omega arith

pub children-preserved : goal.children-preserved
children-preserved g t c =
    let d = c.args.code.now in
    let ks = children d in
    let xs = c.children.names.items in
    let x = c.in-Ok.name in
    let k = c.child-child.result in
    let old = (g.W.NodeSteps.seen c.args.pass.now).held in
    let new = (g.W.NodeSteps.seen c.intern_all.new.pass).held in
    let m = child_more d xs x c.children.place k old (g.W.NodeSteps.seen c.children.pass).held new c.children.invariant.all c.child-child.ensures.value c.children.invariant.pairs c.in-Ok.ensures.ok in
    let o = child_orders d xs x c.children.place k c.children.invariant.all c.child-child.ensures.value in
    let a = c.intern_all.ensures.most in
    let b = c.children.invariant.most in
    let e = c.intern_all.ensures.kept in
    let f = c.children.invariant.kept in
    let is : xs ++ x ∷ [] ≡ c.push.new.self.items = sym c.push.ensures.items in
    record {
      all = c.push.ensures.len ∙ ap (λ i. i + 1) c.children.invariant.all;
      pairs = subst (λ (l : List Name). Mores (linked l ks) old new) is m;
      same = (c.intern_all.ensures.same.0 ∙ c.children.invariant.same.0, c.intern_all.ensures.same.1 ∙ c.children.invariant.same.1);
      kept = omega arith;
      most = subst (λ (l : List Name). (g.W.NodeSteps.seen c.intern_all.new.pass).gains ≤ (g.W.NodeSteps.seen c.args.pass.now).gains + orders (linked l ks)) is (omega arith);
    }

pub intern_node-requires-clause-all : goal.intern_node-requires-clause-all
intern_node-requires-clause-all g t c = let q = ap (λ (cs : List Code). length cs) (children_is c.args.code.now) in let a = c.children.invariant.all in let b = c.children-test.false in let d = c.children.auto.place-end in let e = c.arity-place-end.ensures.value in omega arith

pub returns-clause-most : goal.returns-clause-most
returns-clause-most g t c =
    let a = one_gained c.intern_node.result (g.W.NodeSteps.seen c.children.pass).gains (g.W.NodeSteps.seen c.intern_node.new.pass).gains c.intern_node.ensures.gained c.intern_node.ensures.stayed in
    let b = orders_fit c.args.code.now c.children.names.items c.known_code.ensures in
    let d = c.children.invariant.most in omega arith
