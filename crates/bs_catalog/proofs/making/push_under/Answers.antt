use Rattle.std.proofs.Common.{List, ℕ, sym, subst, take}
use Rattle.bs_catalog.specs.Puts.{AreLong, PutsUnder}
use Rattle.bs_catalog.specs.Memo.{Extends}
use Rattle.bs_catalog.proofs.Putting.{under_more, next_row, all_long}
use Rattle.bs_catalog.proofs.making.push_under.Goals as goal

pub rest-preserved : goal.rest-preserved
rest-preserved c =
    let e : Extends c.args.arena.now c.push_made.new.arena = λ n code h. c.push_made.ensures.grows n code (c.rest.invariant.0 n code h) in
    let next = next_row c.args.rest.now c.rest.place c.get.result.now c.get.ensures in (
      e,
      subst (λ (rest : List (List ℕ)). PutsUnder c.args.way c.args.arena.now c.push_made.new.arena c.args.kept.now rest c.args.out.now c.push_made.new.out) (sym next)
          (under_more c.args.way c.args.arena.now c.rest.arena c.push_made.new.arena c.args.kept.now (take c.rest.place c.args.rest.now) c.get.result.now c.args.out.now c.rest.out c.push_made.new.out
          c.rest.invariant.0 c.rest.invariant.1 c.in_ok-push_made.ensures.put),
    )

pub push_made-requires : goal.push_made-requires
push_made-requires c = all_long (AreLong c.args.way c.args.kept.now) c.args.rest.now c.rest.place c.get.result.now c.requires c.get.ensures
