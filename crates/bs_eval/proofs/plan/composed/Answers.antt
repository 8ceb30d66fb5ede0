use Rattle.std.proofs.Common.{◌≡◌, ◌≤◌, ◌<◌, ◌-◌, ◌∙◌, suc, length, map, None, Some, sym, ap, subst, arith}
use Rattle.bs_catalog.specs.Shelf.{split_rows}
use Rattle.bs_eval.specs.Terms.{code_at}
use Rattle.bs_eval.specs.Rules.{IsTermAt, split_steps, part_step, adding, subtracting, every, later, single_step}
use Rattle.bs_eval.proofs.Memories.{numbers_in}
use Rattle.bs_eval.proofs.Rows.{RowsAre, split_rows_are, part_rows_are, whole_rows, init_rows}
use Rattle.bs_eval.proofs.SomeItems.{split_rows_some, part_rows_some}
use Rattle.bs_eval.proofs.RuleSteps.{later_term, inner_term, at_last, last_place}
use Rattle.bs_eval.proofs.plan.composed.Goals as goal

pub term-requires-clause-some : goal.term-requires-clause-some
term-requires-clause-some c =
    let cs = c.args.trees.now.codes in let code = code_at cs c.args.tree in
    let ok = split_rows_are cs c.splits-rows.result.now code (c.splits-rows.ensures.rows code (numbers_in cs c.args.tree c.requires.tree)) in
    ok.some

pub returns-clause-is : goal.returns-clause-is
returns-clause-is c = λ es.
    let cs = c.args.trees.now.codes in let code = code_at cs c.args.tree in
    let ok = split_rows_are cs c.splits-rows.result.now code (c.splits-rows.ensures.rows code (numbers_in cs c.args.tree c.requires.tree)) in
    subst (λ ls. IsTermAt es cs (split_steps es (adding c.args.second c.args.empty c.args.first) code ls) c.args.place c.term.result)
    (whole_rows cs c.splits-rows.result.now (split_rows code) c.len.result ok c.len.ensures) (c.term.ensures.is es cs)

pub returns-clause-known : goal.returns-clause-known
returns-clause-known c = λ n a b.
    let cs = c.args.trees.now.codes in let code = code_at cs c.args.tree in
    let ok = split_rows_are cs c.splits-rows.result.now code (c.splits-rows.ensures.rows code (numbers_in cs c.args.tree c.requires.tree)) in
    c.term.ensures.known n (length cs) (record { kept = b; cut = a }) c.requires.tree ok.inside
