use Rattle.std.proofs.Common.{◌≡◌, ◌<◌, List, ◌++◌, length, map, take, replicate, slice_get, slice_index_or, Some, refl, sym, subst}
use Rattle.bs_frac.specs.Gathered.{Gathers}
use Rattle.bs_frac.specs.Written.{Term}
use Rattle.bs_frac.specs.declared.coef.Coef.{Coef}
use Rattle.bs_catalog.specs.Gathered.{expanded, gathered_key}
use Rattle.bs_eval.specs.Leaps.{key_term}
use Rattle.bs_eval.proofs.Leaps.{more_terms, sum_is}
use Rattle.bs_eval.proofs.leap.Leap.sum.Goals as goal

pub groups-preserved : goal.groups-preserved
groups-preserved c = (
  λ tables are. c.add.ensures.values tables (c.groups.invariant.0 tables are),
  λ tables are.
      subst (Gathers c.args.begun.now c.add.new.sum)
      (sym (more_terms tables c.args.book.now c.args.trees.now.codes c.args.self.now.rule c.args.self.now.gathered.now c.groups.place c.group_at-group.result.now c.group_at-group.ensures))
      (c.if-not-add.ensures.gathers tables c.args.begun.now _ (c.groups.invariant.0 tables are) (c.groups.invariant.1 tables are) refl),
)

pub returns-clause-sum : goal.returns-clause-sum
returns-clause-sum c = λ tables steps leap are.
    sum_is tables c.args.book.now c.args.trees.now.codes c.args.self.now.rule c.args.begun.now c.finish.result c.groups.sum c.groups.place steps c.args.self.now leap refl c.groups-test.false (c.groups.invariant.1 tables are) (c.finish.ensures.written c.args.begun.now)
