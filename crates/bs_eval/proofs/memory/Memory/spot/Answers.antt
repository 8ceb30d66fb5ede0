use Rattle.std.proofs.Common.{◌<◌, length, refl, subst}
use Rattle.bs_tree.specs.Code.{IsCode}
use Rattle.bs_catalog.specs.Shelf.{Numbers}
use Rattle.bs_series.specs.Expressions.{series_at}
use Rattle.bs_eval.proofs.Memories.{number_grows, grows_on, rows_grow, number_once}
use Rattle.bs_eval.proofs.memory.Memory.spot.Goals as goal

pub code-requires : goal.code-requires
code-requires c = number_grows c.args.self.now.trees c.make_rows.new.self.trees c.make_rows.ensures.grows c.args.tree c.requires.tree

pub returns-in_err-leaf-clause-grows : goal.returns-in_err-leaf-clause-grows
returns-in_err-leaf-clause-grows c = grows_on c.args.self.now.trees c.make_rows.new.self.trees c.number.new.self c.make_rows.ensures.grows c.number.ensures.grows

pub returns-clause-grows : goal.returns-clause-grows
returns-clause-grows c = grows_on c.args.self.now.trees c.make_rows.new.self.trees c.number.new.self c.make_rows.ensures.grows c.number.ensures.grows

pub returns-clause-spot : goal.returns-clause-spot
returns-clause-spot c = λ code at.
    let mid = c.make_rows.new.self.trees in let new = c.number.new.self in
    let there = c.make_rows.ensures.grows.codes c.args.tree code at in (
      refl,
      refl,
      record {
        coded = subst IsCode (number_once mid.codes c.args.tree c.code.result code c.code.ensures there) c.order-nodes.ensures.code;
        tree = c.number.ensures.grows.codes c.args.tree code there;
        leaf = subst (Numbers new.codes c.in_ok-leaf.leaf) c.leaf.ensures c.in_ok-leaf.ensures.is;
        rows = rows_grow (series_at c.args.book.now c.args.series) mid new c.args.tree c.number.ensures.grows c.in_ok-make_rows.ensures.made;
      },
    )
