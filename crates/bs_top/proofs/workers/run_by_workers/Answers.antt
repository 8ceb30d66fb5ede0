use Rattle.std.proofs.Common.{rules, ◌≡◌, ◌≤◌, length, Ok, ap, sym, ◌∙◌}
use Rattle.bs_top.specs.Output.{text_of}
use Rattle.bs_top.specs.Run.{joined, ReadsAll}
use Rattle.bs_top.specs.declared.run.TheConstants.{INPUT_LIMIT}
use Rattle.bs_top.proofs.Runs.{run_of_text}
use Rattle.bs_top.proofs.workers.run_by_workers.Goals as goal

pub returns-clause-run : goal.returns-clause-run
returns-clause-run g c =
    let reads : ReadsAll (g.S.Source.left c.args.source.now) c.in-Ok.input.items (g.S.Source.left c.read_all.new.source) = c.in-Ok.ensures.all in
    let short : length c.in-Ok.input.items ≤ INPUT_LIMIT = search rules in
    let most = c.in-Ok.ensures.at_most (search rules) in
    let calm = c.in-Ok.ensures.calm (search rules) in
    let said : text_of c.in-Ok.input.items ≡ Ok (joined c.in-Ok-answer_by_workers.texts.items) = ap text_of (sym c.deref.ensures.value) ∙ c.in-Ok-answer_by_workers.ensures in
    run_of_text _ _ _ _ _ _ _ _ _ _ c.in-Ok.input.items (joined c.in-Ok-answer_by_workers.texts.items) reads short most calm said
    c.put.ensures.either c.put.ensures.done c.put.ensures.done_flushed c.put.ensures.fault c.put.ensures.fault_front c.put.ensures.fault_unflushed c.put.ensures.calm
