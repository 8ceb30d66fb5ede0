use Rattle.std.proofs.Common.{List, ℕ, ◌<◌, take, length, get_or, arith, subst}
use Rattle.bs_catalog.specs.Shelf.{AreNumbers}
use Rattle.bs_catalog.specs.Memo.{Extends}
use Rattle.bs_catalog.proofs.Forests.{forest_next, item_next}
use Rattle.bs_catalog.proofs.gathering.forest_of.Goals as goal

pub trees-preserved : goal.trees-preserved
trees-preserved c =
    let old = c.args.arena.now in let mid = c.trees.arena in let new = c.attach.new.self in
    let trees = c.args.trees.now in let i = c.trees.tree-index in
    let within : i < length trees = omega arith in
    let e : Extends old new = λ n code h. c.attach.ensures.grows n code (c.trees.invariant.0 n code h) in (
      e,
      λ codes h s.
          forest_next old mid new (take i trees) c.trees.forest (get_or trees i 0) c.in_ok-forest.forest codes c.trees.invariant.0 c.attach.ensures.grows c.trees.invariant.1
          c.in_ok-forest.ensures.is (subst (λ (ns : List ℕ). AreNumbers old ns codes) (item_next trees i 0 within) h) s,
    )
