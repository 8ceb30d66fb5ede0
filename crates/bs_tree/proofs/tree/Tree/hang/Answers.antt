use Rattle.std.proofs.Common.{◌≡◌, ap, arith, ◌++◌, ◌∷◌, [], ◌<◌, subst}
use Rattle.bs_tree.specs.Tree.{Tree, order, Coloured}
use Rattle.bs_tree.proofs.Trees.{trees-forest, nodes_push, coloured_push}
use Rattle.bs_tree.proofs.tree.Tree.hang.Goals as goal

pub invariant_of-self : goal.invariant_of-self
invariant_of-self c =
    let xs = c.self.inside.children.items in
    let e : c.push_last.new.children.items ≡ xs ++ c.args.child ∷ [] = c.in-Ok.ensures.ok in
    let i = c.self.invariant in
    let root : c.args.child.colour < 4 = subst (λ (t : Tree). t.colour < 4) c.child.view_is c.child.invariant.root in
    let below : Coloured 4 c.args.child.below = subst (λ (t : Tree). Coloured 4 t.below) c.child.view_is c.child.invariant.coloured in
    record {
      root = i.root;
      coloured = rw e (coloured_push 4 xs c.args.child i.coloured root below);
      small = omega (arith, ap order c.self.view_is);
      count_is = rw e (omega (arith, nodes_push xs c.args.child, i.count_is));
    }

pub returns-in-Ok-clause-ok : goal.returns-in-Ok-clause-ok
returns-in-Ok-clause-ok c =
    let e : c.push_last.new.children.items ≡ c.self.inside.children.items ++ c.args.child ∷ [] = c.in-Ok.ensures.ok in
    rw (← c.self.view_is, e, trees-forest c.self.inside.children.items)
