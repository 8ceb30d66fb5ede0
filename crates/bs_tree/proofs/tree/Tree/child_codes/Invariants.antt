use Rattle.std.proofs.Common.{◌≡◌, map, take}
use Rattle.bs_tree.specs.Canonical.{canonical_sequence}
use Rattle.bs_tree.proofs.tree.Tree.child_codes.Given as goal

abbrev pub invariant-children : goal.invariant-children
invariant-children l = l.codes ≡ map canonical_sequence (take l.child-index l.child-items)
