use Rattle.std.proofs.Common.{◌≡◌, ◌≤◌, ◌<◌, ◌-◌, ◌∙◌, suc, length, map, None, Some, sym, ap, subst, arith}
use Rattle.bs_catalog.specs.Shelf.{part_rows}
use Rattle.bs_eval.specs.Terms.{code_at}
use Rattle.bs_eval.specs.Rules.{IsTermAt, split_steps, part_step, adding, subtracting, every, later, single_step}
use Rattle.bs_eval.proofs.Memories.{numbers_in}
use Rattle.bs_eval.proofs.Rows.{RowsAre, split_rows_are, part_rows_are, whole_rows, init_rows}
use Rattle.bs_eval.proofs.SomeItems.{split_rows_some, part_rows_some}
use Rattle.bs_eval.proofs.RuleSteps.{later_term, inner_term, at_last, last_place}
use Rattle.bs_eval.proofs.plan.substituted.Goals as goal

pub term-requires : goal.term-requires
term-requires c =
    let cs = c.args.trees.now.codes in let code = code_at cs c.args.tree in
    let ok = part_rows_are cs c.parts.result.now code (c.parts.ensures.rows code (numbers_in cs c.args.tree c.requires.tree)) in
    ok.some

pub returns-clause-is : goal.returns-clause-is
returns-clause-is c = λ es.
    let cs = c.args.trees.now.codes in let code = code_at cs c.args.tree in
    let ok = part_rows_are cs c.parts.result.now code (c.parts.ensures.rows code (numbers_in cs c.args.tree c.requires.tree)) in
    subst (λ ls. IsTermAt es cs (map (part_step es (every c.args.inner c.args.outer)) ls) c.args.place c.term.result) ok.are (c.term.ensures.is es cs)

pub returns-clause-known : goal.returns-clause-known
returns-clause-known c = λ n a b.
    let cs = c.args.trees.now.codes in let code = code_at cs c.args.tree in
    let ok = part_rows_are cs c.parts.result.now code (c.parts.ensures.rows code (numbers_in cs c.args.tree c.requires.tree)) in
    c.term.ensures.known n (length cs) (record { outer = b; inner = a }) ok.inside
