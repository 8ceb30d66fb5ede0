use Rattle.std.proofs.Common.{◌≡◌, ◌<◌, ◌+◌, ℕ, List, ◌∙◌, refl, ap, arith}
use Rattle.bs_frac.specs.Written.{checked}
use Rattle.bs_frac.specs.declared.coef.Coef.{Coef}
use Rattle.bs_tree.specs.Code.{tree_of}
use Rattle.bs_tableau.specs.Table.{Table}
use Rattle.bs_weight.specs.Walk.{stage_in}
use Rattle.bs_weight.specs.Remembered.{AreEdgeSums}
use Rattle.bs_weight.proofs.Children.{of_first, one_more, all_children}
use Rattle.bs_weight.proofs.Remembering.{carried}
use Rattle.bs_weight.proofs.memory.Memory.+stage_values.Goals as goal
use Rattle.bs_weight.proofs.memory.Memory.+stage_values.Goals.{in-Some, in-None}

pub children-init : goal.children-init
children-init t c =
    let few = c.stages-stages.ensures.whole.begun.few_stages in
    let stages = ap (λ (w : Table). w.stages) c.self.view_is in
    record { same = refl; values = λ i lt. c.ones-values.ensures.value i (omega (arith, lt, few, stages)) }

pub children-preserved : goal.children-preserved
children-preserved t c =
    let table = c.args.self.now in
    let child = c.child_of-child.result in
    let before = c.children.invariant.same in
    let kept : c.match-recall.self ≡ table =
    elim c.match-recall.branch [
      | in-Some w ↦ w.self-is ∙ before
      | in-None w ↦ w.self-is ∙ w.keep.ensures ∙ w.stage_values-below.ensures.same ∙ before
    ] in
    let stages = c.stages-stages.ensures.value ∙ ap (λ (w : Table). w.stages) c.self.view_is in
    let onto : (values new sums : List Coef) → values ≡ new → AreEdgeSums table child sums
    → ((i : ℕ) → i < c.stages-stages.result → stage_in new i ≡ checked.product (stage_in c.children.values i) (stage_in sums i))
    → (i : ℕ) → i < table.stages → stage_in values i ≡ of_first table (tree_of c.args.code.now).below i (c.children.place + 1) =
    λ values new sums is edge each i lt.
    ap (λ vs. stage_in vs i) is
    ∙ each i (omega (arith, lt, stages))
    ∙ one_more table (tree_of c.args.code.now).below i c.children.place (tree_of child) (stage_in c.children.values i) (stage_in sums i) c.child_of-child.ensures.tree (c.children.invariant.values i lt) (edge i lt) in
    let step : (i : ℕ) → i < table.stages → stage_in c.match-recall.values i ≡ of_first table (tree_of c.args.code.now).below i (c.children.place + 1) =
    elim c.match-recall.branch [
      | in-Some w ↦
          onto c.match-recall.values w.multiply.new.values w.in-Some.entry.now.sums w.values-is (carried table c.children.self child w.in-Some.entry.now w.in-Some.entry.now before refl w.in-Some.ensures) w.multiply.ensures
      | in-None w ↦
          onto c.match-recall.values w.multiply-in-None.new.values w.work_out-entry.result.sums w.values-is
          (carried table w.stage_values-below.new.self child w.work_out-entry.result w.work_out-entry.result (w.stage_values-below.ensures.same ∙ before) refl w.work_out-entry.ensures.sums) w.multiply-in-None.ensures
    ] in
    record { same = kept; values = step }

pub returns-clause-values : goal.returns-clause-values
returns-clause-values t c =
    let end : c.children.place ≡ c.arity-place-end.result = omega (arith, c.children.auto.place-end, c.children-test.false) in
    λ i lt. c.children.invariant.values i lt ∙ all_children c.args.self.now c.args.code.now i c.children.place (end ∙ c.arity-place-end.ensures.value)
