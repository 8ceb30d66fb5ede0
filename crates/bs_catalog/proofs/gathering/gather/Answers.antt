use Rattle.std.proofs.Common.{List, slice_range, subst}
use Rattle.std.proofs.lemmas.Result.{IfOk-weaker}
use Rattle.bs_catalog.specs.Shelf.{Code, AreRows}
use Rattle.bs_catalog.specs.Gathered.{AreGathered}
use Rattle.bs_catalog.specs.Forests.{AreSequences, AreGroups}
use Rattle.bs_catalog.specs.declared.gathering.Gathered.{Gathered}
use Rattle.bs_catalog.specs.declared.gathering.Key.{Key}
use Rattle.bs_catalog.proofs.Grouping.{gathered_from}
use Rattle.bs_catalog.proofs.gathering.gather.Goals as goal

pub returns-clause-gathered : goal.returns-clause-gathered
returns-clause-gathered c =
    let rows = c.args.rows.now in
    let keys = c.in_ok-keys.keys.items in let sorted = c.sort_unstable.new.self.items in
    IfOk-weaker c.grouped.result (λ (gs : List Gathered). AreGroups c.deref.result.now gs)
    (λ (gs : List Gathered). (lists : List (List Code)) → AreRows c.args.arena.now rows lists → AreSequences lists
    → AreGathered c.keys_between.new.arena rows (slice_range rows c.args.start c.args.end) gs)
    (λ (gs : List Gathered) (h : AreGroups c.deref.result.now gs). λ lists hr hs.
    gathered_from c.keys_between.new.arena rows (slice_range rows c.args.start c.args.end) keys sorted gs (c.in_ok-keys.ensures.are lists hr hs) c.sort_unstable.ensures.permutation
    (subst (λ (ks : List Key). AreGroups ks gs) c.deref.ensures.value h))
    c.grouped.ensures
