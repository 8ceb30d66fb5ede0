use Rattle.std.proofs.Common.{◌∙◌, sym, ap, arith, map, take, length}
use Rattle.std.proofs.lemmas.List.{length-map, length-take-le, take_all}
use Rattle.bs_tree.specs.Canonical.{canonical_sequence}
use Rattle.bs_tree.specs.Tree.{trees, Tree}
use Rattle.bs_tree.proofs.Trees.{length_le-nodes, trees-forest}
use Rattle.bs_tree.proofs.tree.Tree.child_codes.Goals as goal

pub push-requires : goal.push-requires
push-requires c =
    let xs = c.deref-child-items.result.now in
    rw c.children.invariant (omega (
      arith,
      length-map (take c.children.child-index xs) canonical_sequence,
      length-take-le c.children.child-index xs,
      ap length c.deref-child-items.ensures.value,
      length_le-nodes c.self.inside.children.items,
      c.self.invariant.small,
      c.self.invariant.count_is,
    ))

pub returns : goal.returns
returns c =
    let xs = c.deref-child-items.result.now in
    c.children.invariant ∙ ap (map canonical_sequence) (take_all c.children.child-index xs (omega arith) ∙ c.deref-child-items.ensures.value ∙ sym (trees-forest c.self.inside.children.items) ∙ ap (λ (t : Tree). trees t.below) c.self.view_is)
