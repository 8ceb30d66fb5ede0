use Rattle.std.proofs.Common.{◌≡◌, ◌∙◌, ◌+◌, ◌-◌, ◌<◌, ℕ, List, Bool, false, true, ap, ap₂, sym, arith, set, length, length-set, replicate}
use Rattle.std.proofs.Math.Seq.{paste}
use Rattle.std.proofs.lemmas.List.Edits.{fill_from_more}
use Rattle.bs_split.proofs.Items.{pasted_is}
use Rattle.bs_split.proofs.walk.keep_next.Goals as goal

pub later-preserved : goal.later-preserved
later-preserved c =
    let d = set c.args.kept.now c.args.node true in
    let at = c.args.node + 1 in
    let k = c.later.place - at in
    let inside : c.later.place < length d = c.later-test.true in
    let from : at + k ≡ c.later.place = omega arith in
    let to : k + 1 ≡ (c.later.place + 1) - at = omega arith in
    ap₂ (λ (xs : List Bool) (i : ℕ). set xs i false) c.later.invariant (sym from)
    ∙ fill_from_more d at k false (omega (arith, inside))
    ∙ ap (λ (i : ℕ). paste d at (replicate i false) i) to

pub returns : goal.returns
returns c = c.later.invariant ∙ pasted_is c.args.kept.now c.args.node (c.later.place - (c.args.node + 1)) c.requires (omega (arith, c.later-test.false, c.later.auto.place, length-set c.args.kept.now c.args.node true))
