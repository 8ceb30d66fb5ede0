use Rattle.std.proofs.Common.{◌≡◌, ◌≤◌, ◌∷◌, ◌<◌, ◌-◌, ◌∙◌, suc, length, map, None, Some, sym, ap, subst, arith}
use Rattle.bs_catalog.specs.Shelf.{part_rows}
use Rattle.bs_eval.specs.Terms.{code_at}
use Rattle.bs_eval.specs.Rules.{IsTermAt, split_steps, part_step, adding, subtracting, every, later, single_step}
use Rattle.bs_catalog.specs.Partition.{tail}
use Rattle.bs_series.specs.Series.{exact}
use Rattle.bs_series.specs.Plan.{at}
use Rattle.bs_eval.specs.declared.term.Operation.TheVariants.{Add}
use Rattle.bs_eval.proofs.Memories.{numbers_in}
use Rattle.bs_eval.proofs.Rows.{RowsAre, split_rows_are, part_rows_are, whole_rows, init_rows}
use Rattle.bs_eval.proofs.SomeItems.{split_rows_some, part_rows_some}
use Rattle.bs_eval.proofs.RuleSteps.{later_term, inner_term, at_last, last_place}
use Rattle.bs_eval.proofs.plan.modifying.Goals as goal

pub term-requires : goal.term-requires
term-requires c =
    let cs = c.args.trees.now.codes in let code = code_at cs c.args.spot.now.tree in
    let ok = part_rows_are cs c.parts-rows.result.now code (c.parts-rows.ensures.rows code (numbers_in cs c.args.spot.now.tree c.requires.tree)) in
    ok.some

pub returns-then-place-len-clause-is : goal.returns-then-place-len-clause-is
returns-then-place-len-clause-is c = λ es.
    let cs = c.args.trees.now.codes in let code = code_at cs c.args.spot.now.tree in
    let ok = part_rows_are cs c.parts-rows.result.now code (c.parts-rows.ensures.rows code (numbers_in cs c.args.spot.now.tree c.requires.tree)) in
    let l = ok.count in let s = part_rows_some code in
    let f = part_step es (later (Some c.args.of) c.args.own) in
    let first = single_step Add (at (exact 1) code) in
    at_last (first ∷ map f (tail (part_rows code))) c.args.place _ (last_place f (part_rows code) first c.args.place s (omega (arith, l, c.len.ensures, c.if-place-len.true)))
    ∙ ap (λ x. Some x) (sym (c.single-then-place-len.ensures.is es cs))

pub returns-clause-is : goal.returns-clause-is
returns-clause-is c = λ es.
    let cs = c.args.trees.now.codes in let code = code_at cs c.args.spot.now.tree in
    let ok = part_rows_are cs c.parts-rows.result.now code (c.parts-rows.ensures.rows code (numbers_in cs c.args.spot.now.tree c.requires.tree)) in
    let l = ok.count in let s = part_rows_some code in
    inner_term es cs (part_step es (later (Some c.args.of) c.args.own)) (part_rows code) _ _ c.args.place c.term.result (omega arith) s (omega (arith, l, c.len.ensures, c.if-place-len.false))
    (subst (λ ls. IsTermAt es cs (map (part_step es (later (Some c.args.of) c.args.own)) ls) c.args.place c.term.result) ok.are (c.term.ensures.is es cs))

pub returns-clause-known : goal.returns-clause-known
returns-clause-known c = λ n a b.
    let cs = c.args.trees.now.codes in let code = code_at cs c.args.spot.now.tree in
    let ok = part_rows_are cs c.parts-rows.result.now code (c.parts-rows.ensures.rows code (numbers_in cs c.args.spot.now.tree c.requires.tree)) in
    c.term.ensures.known n (length cs) (record { outer = b; inner = a }) ok.inside
