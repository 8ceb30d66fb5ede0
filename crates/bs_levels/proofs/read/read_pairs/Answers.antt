use Rattle.std.proofs.Common.{◌≡◌, ℕ, ◌≤◌, List, length, ap, ap₂, sym, ◌∙◌, arith}
use Rattle.std.specs.Option.{option_copied}
use Rattle.std.specs.List.{zip}
use Rattle.bs_tree.specs.Code.{is_level_sequence}
use Rattle.bs_tree.specs.declared.TheConstants.{MAX_NODES}
use Rattle.bs_levels.specs.Levels.{node_count, from_one}
use Rattle.bs_levels.proofs.Pairs.{level_sequence_from, levels_are, colours_are}
use Rattle.bs_levels.proofs.read.read_pairs.Goals as goal

pub returns-clause-sequence : goal.returns-clause-sequence
returns-clause-sequence c =
    let count = c.in-Some.field-0.count in
    let ls = c.in-Some.field-0.numbers.items in
    let cs = c.in-Some-colour_column.colours.items in
    let few : count ≤ MAX_NODES = omega (arith, c.if-count-gt-MAX_NODES.false) in
    let levels = levels_are count ls (ap node_count (sym (c.in-Some.ensures.kept few)) ∙ sym c.in-Some.ensures.counted) in
    let colours = colours_are count (option_copied c.args.colours) cs (c.in-Some-colour_column.ensures.kept few) in
    let small : length ls ≤ MAX_NODES = omega (arith, levels.counted, few) in
    let pairs : c.node_pairs.result.items ≡ zip (from_one ls) cs =
    c.node_pairs.ensures
    ∙ ap₂ (λ (xs ys : List ℕ). zip (from_one xs) ys) c.as_slice.ensures.value c.as_slice-2.ensures.value in
    ap is_level_sequence pairs ∙ level_sequence_from ls cs levels.valid (colours.one_each ∙ sym levels.counted) small colours.small
