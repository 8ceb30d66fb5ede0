use Rattle.std.proofs.Common.{◌∙◌, ap, sym, subst, arith, Bool, List, length}
use Rattle.bs_tree.specs.Code.{IsCode}
use Rattle.bs_part.specs.Known.{AreKnown}
use Rattle.bs_part.specs.Walk.{left, cut_after}
use Rattle.bs_part.proofs.Counter.{length-cut_after}
use Rattle.bs_part.proofs.Known.{known_after}
use Rattle.bs_part.proofs.Next.{next_some, next_last}
use Rattle.bs_part.proofs.parts.Parts.next.Goals.{in-Some, in-None}
use Rattle.bs_part.proofs.parts.Parts.next.Goals as goal

pub invariant_of-self : goal.invariant_of-self
invariant_of-self g c =
    let s = c.self.inside.code in
    let kept = c.self.inside.kept in
    let node = c.in-Some.node in
    let code : IsCode s = assumption (c.self.ranges) in
    let small = c.last_kept.ensures.small in
    let known : AreKnown s (cut_after node kept) c.forget.new.known =
    known_after s kept c.self.inside.ends node c.part_of-item.new.known c.forget.new.known code (omega (arith, small, c.self.invariant.0)) c.self.invariant.3 c.part_of-item.ensures.known c.forget.ensures.stays in (
      ap length c.cut_next.ensures ∙ length-cut_after node kept ∙ c.self.invariant.0,
      c.self.invariant.1,
      c.forget.ensures.room ∙ c.part_of-item.ensures.room ∙ c.self.invariant.2,
      c.self.invariant.3,
      subst (λ (w : List Bool). AreKnown s w c.forget.new.known) (sym c.cut_next.ensures) known,
    )

pub returns-clause-item : goal.returns-clause-item
returns-clause-item g c =
    let s = c.self.inside.code in
    let kept = c.self.inside.kept in
    let code : IsCode s = assumption (c.self.ranges) in
    elim c.match-last_kept.branch [
      | in-Some w ↦
          next_some c.self.inside.done s kept w.cut_next.new.kept w.in-Some.node c.args.self.now c.match-last_kept.self _
          code (let small = c.last_kept.ensures.small in omega (arith, small, c.self.invariant.0)) c.if-self.false c.self.view_is
          c.part_of-item.ensures.item w.in-Some.ensures.value w.cut_next.ensures (w.self-is ∙ ap (λ (b : Bool). left b s w.cut_next.new.kept) c.if-self.false)
      | in-None w ↦
          next_last c.self.inside.done s kept c.args.self.now c.match-last_kept.self _ c.if-self.false c.self.view_is c.part_of-item.ensures.item w.in-None.ensures.value w.self-is
    ]
