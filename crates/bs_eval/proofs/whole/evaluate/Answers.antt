use Rattle.bs_eval.proofs.whole.evaluate.Goals as goal

pub questions-init : goal.questions-init
questions-init g c = (
  c.start-eval.ensures.sound c.args.tables.now c.args.book.now c.requires.known c.requires.coloured,
  c.start-eval.ensures.asked,
  c.start-eval.ensures.held c.args.book.now c.new-memory.result,
  c.new-memory.ensures c.args.tables.now c.args.book.now,
)
