use Rattle.std.proofs.Common.{◌≡◌, ◌∙◌, sym, ap, subst, arith, length, ◌++◌, slice_get, Some}
use Rattle.bs_tree.specs.Code.{IsCode, child_codes}
use Rattle.bs_tree.specs.Subtrees.{raised, level_below}
use Rattle.bs_tree.proofs.CodeFacts.{code_subtree}
use Rattle.bs_tree.proofs.Children.{IsChild, child_place, child_code, code_level_below, subtree_levels, child_smaller}
use Rattle.bs_tree.proofs.code.Code.child.Goals as goal

pub child_pairs-requires : goal.child_pairs-requires
child_pairs-requires c =
    let s = c.pairs.result.now in
    record {
      subtree = (code_subtree s c.pairs.ensures.code).0;
      place = child_place s c.args.place c.pairs.ensures.code (rw c.pairs.ensures.value c.requires);
    }

pub push_raised-requires-clause-levels : goal.push_raised-requires-clause-levels
push_raised-requires-clause-levels c =
    let e : level_below c.child_pairs.result.now ≡ 3 = omega (arith, c.child_pairs.ensures.level, code_level_below c.pairs.result.now c.pairs.ensures.code) in
    subtree_levels c.child_pairs.result.now c.child_pairs.ensures.subtree e

pub invariant_of-result : goal.invariant_of-result
invariant_of-result c =
    let s = c.pairs.result.now in
    let first = c.child_pairs.result.now in
    let child : IsChild s first c.args.place = record { subtree = c.child_pairs.ensures.subtree; is = c.child_pairs.ensures.child; level = omega (arith, c.child_pairs.ensures.level) } in
    let e : c.push_raised.new.self ≡ raised first = c.push_raised.ensures ∙ ap (λ ps. ps ++ raised first) c.new-pairs.ensures in
    subst IsCode (sym e) (child_code s first c.args.place c.pairs.ensures.code child).1

pub returns : goal.returns
returns c =
    let s = c.pairs.result.now in
    let first = c.child_pairs.result.now in
    let place = c.args.place in
    let child : IsChild s first place = record { subtree = c.child_pairs.ensures.subtree; is = c.child_pairs.ensures.child; level = omega (arith, c.child_pairs.ensures.level) } in
    let e : c.push_raised.new.self ≡ raised first = c.push_raised.ensures ∙ ap (λ ps. ps ++ raised first) c.new-pairs.ensures in
    let is : slice_get (child_codes s) place ≡ Some c.push_raised.new.self = (child_code s first place c.pairs.ensures.code child).0 ∙ ap (λ ps. Some ps) (sym e) in
    record {
      value = ap (λ ps. slice_get (child_codes ps) place) (sym c.pairs.ensures.value) ∙ is;
      smaller = omega (arith, child_smaller s place c.push_raised.new.self c.pairs.ensures.code is, ap length c.pairs.ensures.value);
    }
