use Rattle.std.proofs.Common.{◌∙◌, ap, arith}
use Rattle.bs_tree.specs.Code.{IsCode}
use Rattle.bs_split.specs.declared.splits.Stage.{Stage}
use Rattle.bs_split.specs.Walk.{left}
use Rattle.bs_split.proofs.Next.{item_of, whole_next, rooted_next, rooted_last}
use Rattle.bs_split.proofs.splits.Splits.next.Goals.{in-Whole, in-Rooted+in-Some, in-Rooted+in-None}
use Rattle.bs_split.proofs.splits.Splits.next.Goals as goal

pub returns-clause-item : goal.returns-clause-item
returns-clause-item g c =
    let code : IsCode c.self.inside.code = assumption (c.self.ranges) in
    elim c.match-self.branch [
      | in-Whole w ↦
          whole_next c.self.inside.stage c.self.inside.code c.self.inside.kept _ c.match-self.self c.match-self.item.kept c.match-self.item.forest
          code w.in-Whole.is c.self.view_is (ap (λ i. i.kept) w.item-is ∙ w.whole-item.ensures.kept) (ap (λ i. i.forest) w.item-is ∙ w.whole-item.ensures.forest) w.self-is
      | in-Rooted+in-Some w ↦
          rooted_next c.self.inside.stage c.self.inside.code c.self.inside.kept w.keep_next.new.kept w.in-Some.node _ c.match-self.self _
          code (let small = w.last_cut.ensures.small in omega (arith, small, c.self.invariant)) w.in-Rooted.is c.self.view_is
          (ap (λ i. item_of i.kept i.forest) w.item-is ∙ w.rooted-item.ensures) w.in-Some.ensures.value w.keep_next.ensures (w.self-is ∙ ap (λ (st : Stage). left st c.self.inside.code w.keep_next.new.kept) w.in-Rooted.is)
      | in-Rooted+in-None w ↦
          rooted_last c.self.inside.stage c.self.inside.code c.self.inside.kept _ c.match-self.self _
          code (let small = w.last_cut.ensures.small in omega (arith, small, c.self.invariant)) w.in-Rooted.is c.self.view_is
          (ap (λ i. item_of i.kept i.forest) w.item-is ∙ w.rooted-item.ensures) w.in-None.ensures.value w.self-is
    ]
