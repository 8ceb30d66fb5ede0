use Rattle.std.proofs.Common.{List, ℕ, All, sym, subst, take}
use Rattle.bs_catalog.specs.Puts.{AreLong, PutsAll}
use Rattle.bs_catalog.specs.Memo.{Extends}
use Rattle.bs_catalog.proofs.Putting.{all_more, next_row, all_long}
use Rattle.bs_catalog.proofs.making.push_all_made.Goals as goal

pub kids-preserved : goal.kids-preserved
kids-preserved c =
    let e : Extends c.args.arena.now c.push_under.new.arena = λ n code h. c.push_under.ensures.grows n code (c.kids.invariant.0 n code h) in
    let next = next_row c.args.kids.now c.kids.place c.get.result.now c.get.ensures in (
      e,
      subst (λ (kids : List (List ℕ)). PutsAll c.args.way c.args.arena.now c.push_under.new.arena kids c.args.rest.now c.args.out.now c.push_under.new.out) (sym next)
          (all_more c.args.way c.args.arena.now c.kids.arena c.push_under.new.arena (take c.kids.place c.args.kids.now) c.get.result.now c.args.rest.now c.args.out.now c.kids.out c.push_under.new.out
          c.kids.invariant.0 c.kids.invariant.1 c.in_ok-push_under.ensures.put),
    )

pub push_under-requires : goal.push_under-requires
push_under-requires c = all_long (λ (kept : List ℕ). All (AreLong c.args.way kept) c.args.rest.now) c.args.kids.now c.kids.place c.get.result.now c.requires c.get.ensures
