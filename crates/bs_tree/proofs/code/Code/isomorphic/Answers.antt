use Rattle.std.proofs.Common.{ap, sym, ◌∙◌, subst}
use Rattle.std.specs.Ordering.{is_eq}
use Rattle.bs_tree.specs.Canonical.{canonical_sequence, sequence_cmp}
use Rattle.bs_tree.specs.Code.{IsCode, tree_of}
use Rattle.bs_tree.proofs.CodeOf.{codes_equal}
use Rattle.bs_tree.proofs.code.Code.isomorphic.Goals as goal

pub returns : goal.returns
returns c =
    let a = c.args.self.now in
    let b = c.args.other.now in
    let first = (subst (λ s. IsCode s) c.pairs-left.ensures.value c.pairs-left.ensures.code).canonical in
    let second = (subst (λ s. IsCode s) c.pairs-right.ensures.value c.pairs-right.ensures.code).canonical in
    c.is_eq.ensures
    ∙ ap is_eq (c.cmp.ensures ∙ ap (λ s. sequence_cmp s c.pairs-right.result.now) c.pairs-left.ensures.value ∙ ap (λ s. sequence_cmp a s) c.pairs-right.ensures.value)
    ∙ sym (ap (λ s. is_eq (sequence_cmp s (canonical_sequence (tree_of b)))) first ∙ ap (λ s. is_eq (sequence_cmp a s)) second)
    ∙ codes_equal (tree_of a) (tree_of b)
