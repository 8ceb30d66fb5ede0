use Rattle.std.proofs.Common.{◌≡◌, ◌∙◌, sym, subst}
use Rattle.bs_tree.specs.Canonical.{canonical_sequence}
use Rattle.bs_tree.specs.Code.{IsCode}
use Rattle.bs_tree.specs.Subtrees.{subtree_of}
use Rattle.bs_tree.proofs.Insertions.{levels_from, canonical_by}
use Rattle.bs_tree.proofs.Reading.{whole_is_code}
use Rattle.bs_tree.proofs.build.code_of.Goals as goal

pub push_from-requires-clause-levels : goal.push_from-requires-clause-levels
push_from-requires-clause-levels c = levels_from c.args.pairs.now c.requires.subtree

pub of_canonical-requires : goal.of_canonical-requires
of_canonical-requires c =
    let e : c.insert_each.new.self ≡ canonical_sequence (subtree_of c.args.pairs.now) =
    canonical_by c.args.pairs.now c.new-rest.result c.push_from.new.self c.insert_each.new.self c.requires.subtree c.new-rest.ensures c.push_from.ensures c.insert_each.ensures in
    subst IsCode (sym e) (whole_is_code c.args.pairs.now c.requires.subtree)

pub returns : goal.returns
returns c =
    c.of_canonical.ensures
    ∙ canonical_by c.args.pairs.now c.new-rest.result c.push_from.new.self c.insert_each.new.self c.requires.subtree c.new-rest.ensures c.push_from.ensures c.insert_each.ensures
