use Rattle.std.proofs.Common.{◌≡◌, take, drop, map, length}
use Rattle.bs_tree.specs.Canonical.{canonical_of}
use Rattle.bs_tree.proofs.tree.Tree.+canonical.Given as goal

-- the children before this place are canonical, the later ones are as the loop found them
abbrev pub invariant-children : goal.invariant-children
invariant-children l = record {
  colour : l.self-inside.colour ≡ l.initial.self-inside.colour;
  count : l.self-inside.node_count ≡ l.initial.self-inside.node_count;
  size : length l.self-inside.children.items ≡ length l.initial.self-inside.children.items;
  front : take l.place l.self-inside.children.items ≡ map canonical_of (take l.place l.initial.self-inside.children.items);
  back : drop l.place l.self-inside.children.items ≡ drop l.place l.initial.self-inside.children.items;
}

abbrev pub decreases-canonical : goal.decreases-canonical
decreases-canonical l = goal.size-canonical l
