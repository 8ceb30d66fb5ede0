use Rattle.std.proofs.Common.{◌≡◌, ◌∙◌, ◌≤◌, ◌-◌, true, sym, length, arith}
use Rattle.std.proofs.lemmas.List.{length-drop}
use Rattle.std.specs.List.{starts_with}
use Rattle.bs_tree.specs.Subtrees.{same_pair, repeats}
use Rattle.bs_tree.proofs.Children.{rest_of_all}
use Rattle.bs_tree.proofs.Classes.{repeats_more, repeats_end}
use Rattle.bs_tree.proofs.build.repeats.Goals as goal

pub times-preserved : goal.times-preserved
times-preserved c =
    let first = c.args.first.now in
    let rest = c.times.rest.now in
    let begins : starts_with same_pair rest first ≡ true = sym c.begins_with.ensures.value ∙ c.times-test.true in
    let fits : length first ≤ length rest = c.begins_with.ensures.room c.times-test.true in
    rw rest_of_all (record {
      counted = repeats_more (length c.args.pairs.now) c.times.count first rest (repeats first c.args.pairs.now) (let k = c.times.invariant.left in omega (arith, c.requires)) begins c.times.invariant.counted;
      left = omega (arith, length-drop (length first) rest, c.requires, c.times.invariant.left, fits);
    })

pub returns-clause-value : goal.returns-clause-value
returns-clause-value c = omega (arith, c.times.invariant.counted, repeats_end (length c.args.pairs.now - c.times.count) c.args.first.now c.times.rest.now (sym c.begins_with.ensures.value ∙ c.times-test.false))
