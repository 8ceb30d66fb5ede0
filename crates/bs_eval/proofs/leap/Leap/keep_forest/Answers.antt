use Rattle.bs_catalog.specs.Gathered.{gathered_key}
use Rattle.bs_eval.proofs.Leaps.{shown_row}
use Rattle.bs_eval.proofs.leap.Leap.keep_forest.Goals as goal

pub keep_product-requires-clause-forest : goal.keep_product-requires-clause-forest
keep_product-requires-clause-forest c = (shown_row c.args.trees.now.codes c.args.self.now.rows.now c.args.group.now.row (gathered_key c.args.group.now) c.get-row.result.now c.behind_first.result.now c.requires.shown c.get-row.ensures c.behind_first.ensures).known

pub keep_product-requires-clause-parts : goal.keep_product-requires-clause-parts
keep_product-requires-clause-parts c = (shown_row c.args.trees.now.codes c.args.self.now.rows.now c.args.group.now.row (gathered_key c.args.group.now) c.get-row.result.now c.behind_first.result.now c.requires.shown c.get-row.ensures c.behind_first.ensures).within

pub keep_product-requires-clause-same : goal.keep_product-requires-clause-same
keep_product-requires-clause-same c = (shown_row c.args.trees.now.codes c.args.self.now.rows.now c.args.group.now.row (gathered_key c.args.group.now) c.get-row.result.now c.behind_first.result.now c.requires.shown c.get-row.ensures c.behind_first.ensures).forest
