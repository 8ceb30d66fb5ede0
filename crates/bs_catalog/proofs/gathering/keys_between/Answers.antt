use Rattle.std.proofs.Common.{◌≤◌, List, ℕ, length, [], ◌∷◌, slice_range, arith, sym, subst}
use Rattle.bs_catalog.specs.Memo.{Extends}
use Rattle.bs_catalog.specs.Forests.{PutsKey, HasKeys}
use Rattle.bs_catalog.proofs.Putting.{rows_more, all_long}
use Rattle.bs_catalog.proofs.Forests.{codes_of_row, keys_next, range_next}
use Rattle.bs_catalog.proofs.gathering.keys_between.Goals as goal

pub rows-preserved : goal.rows-preserved
rows-preserved c =
    let old = c.args.arena.now in let mid = c.rows.arena in let new = c.push_key.new.arena in
    let rows = c.args.rows.now in let place = c.rows.place in let start = c.args.start in
    let row = c.get.result.now in let keys = c.rows.keys.items in let keys' = c.push_key.new.keys.items in
    let grown : Extends mid new = c.push_key.ensures.grows in
    let e : Extends old new = λ n code h. grown n code (c.rows.invariant.0 n code h) in
    let up : start ≤ place = omega arith in (
      e,
      grown c.in_ok-leaf.leaf ((1, 0) ∷ []) c.rows.invariant.1,
      λ lists hr hs.
          let codes = codes_of_row mid rows lists place row (rows_more old mid rows lists c.rows.invariant.0 hr) hs c.get.ensures in
          let put : PutsKey new row place keys keys' = c.in_ok-push_key.ensures.put codes.codes codes.are codes.sequences in
          subst (λ (rs : List (List ℕ)). HasKeys new rows rs keys') (sym (range_next rows start place row up c.get.ensures))
          (keys_next mid new rows (slice_range rows start place) row place keys keys' grown (c.rows.invariant.2 lists hr hs) c.get.ensures put),
    )

pub push_key-requires-clause-some : goal.push_key-requires-clause-some
push_key-requires-clause-some c = all_long (λ (row : List ℕ). 1 ≤ length row) c.args.rows.now c.rows.place c.get.result.now c.requires.some c.get.ensures
