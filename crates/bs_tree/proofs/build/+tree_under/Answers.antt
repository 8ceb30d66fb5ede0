use Rattle.std.proofs.Common.{◌≡◌, ◌∙◌, sym, ap, subst, rules, arith, ◌<◌, ◌≤◌, ◌+◌, List, length, ◌++◌, ◌∷◌, [], append_assoc}
use Rattle.bs_tree.specs.Tree.{Tree, trees, forest, nodes, order}
use Rattle.bs_tree.specs.Subtrees.{subtree_of, forest_at, level_below}
use Rattle.bs_tree.specs.SortingLaws.{nodes-append}
use Rattle.bs_tree.proofs.Trees.{trees-forest, forest-trees}
use Rattle.bs_tree.specs.SubtreeLaws.{step, subtree_within}
use Rattle.bs_tree.proofs.Reading.{step_by, more_trees, whole_tree, Reads, subtree_colour}
use Rattle.bs_tree.proofs.build.+tree_under.Goals as goal

pub leaf-tree-requires : goal.leaf-tree-requires
leaf-tree-requires t c = subtree_colour c.args.pairs.now c.requires.subtree

pub split_at-requires : goal.split_at-requires
split_at-requires t c =
    let some : 0 < length c.children.rest.now = search rules in
    let s = step c.args.pairs.now c.children.rest.now c.children.invariant.rest some in
    omega (arith, c.first_count.ensures.value, s.fits)

pub tree_under-requires : goal.tree_under-requires
tree_under-requires t c =
    let some : 0 < length c.children.rest.now = search rules in
    let s = step_by c.args.pairs.now c.children.rest.now c.first_count.result c.split_at.result.0.now c.split_at.result.1.now c.first_count.ensures.value c.split_at.ensures.front c.split_at.ensures.back c.children.invariant.rest some in
    (let k = s.shorter in omega (arith, k, c.decreases), s.subtree)

-- the first children of a tree, and the next one, fit
fits : (whole tree child : Tree) (later : List Tree) → (trees tree.below ++ child ∷ []) ++ later ≡ trees whole.below → order tree + order child ≤ order whole
fits whole tree child later e =
    omega (arith, ap (λ (ts : List Tree). nodes (forest ts)) e, nodes-append (trees tree.below ++ child ∷ []) later, nodes-append (trees tree.below) (child ∷ []), ap nodes (forest-trees tree.below), ap nodes (forest-trees whole.below))

pub hang-requires : goal.hang-requires
hang-requires t c =
    let some : 0 < length c.children.rest.now = search rules in
    let first = c.split_at.result.0.now in
    let later = c.split_at.result.1.now in
    let ps = c.args.pairs.now in
    let s = step_by ps c.children.rest.now c.first_count.result first later c.first_count.ensures.value c.split_at.ensures.front c.split_at.ensures.back c.children.invariant.rest some in
    let child : c.in_ok-child.child ≡ subtree_of first = search rules in
    let small = c.requires.subtree.small in
    omega (
      arith,
      ap order child,
      (subtree_within ps c.requires.subtree).0,
      small,
      fits (subtree_of ps) c.children.tree (subtree_of first) (trees (forest_at (level_below ps) later)) (more_trees ps c.children.rest.now first later (trees c.children.tree.below) s c.children.invariant.children),
    )

pub children-preserved : goal.children-preserved
children-preserved t c =
    let some : 0 < length c.children.rest.now = search rules in
    let first = c.split_at.result.0.now in
    let later = c.split_at.result.1.now in
    let ps = c.args.pairs.now in
    let s = step_by ps c.children.rest.now c.first_count.result first later c.first_count.ensures.value c.split_at.ensures.front c.split_at.ensures.back c.children.invariant.rest some in
    let grown : c.hang.new.self ≡ (let t : Tree = record { colour = c.children.tree.colour; below = forest (trees c.children.tree.below ++ c.in_ok-child.child ∷ []) } in t) = search rules in
    let child : c.in_ok-child.child ≡ subtree_of first = search rules in
    let below : trees c.hang.new.self.below ≡ trees c.children.tree.below ++ subtree_of first ∷ [] =
    ap (λ (u : Tree). trees u.below) grown ∙ trees-forest (trees c.children.tree.below ++ c.in_ok-child.child ∷ []) ∙ ap (λ (u : Tree). trees c.children.tree.below ++ u ∷ []) child in
    record {
      rest = s.more;
      colour = ap (λ (u : Tree). u.colour) grown ∙ c.children.invariant.colour;
      children = subst (λ (us : List Tree). Reads us ps later) (sym below) (more_trees ps c.children.rest.now first later (trees c.children.tree.below) s c.children.invariant.children);
    }

pub returns : goal.returns
returns t c =
    let none_left : length c.children.rest.now ≡ 0 = search rules in
    whole_tree c.args.pairs.now c.children.rest.now c.children.tree c.requires.subtree none_left c.children.invariant.colour c.children.invariant.children
