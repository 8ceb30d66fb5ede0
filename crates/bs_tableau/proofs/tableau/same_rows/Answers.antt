use Rattle.std.proofs.Common.{◌≡◌, ℕ, ◌<◌, [], ap, take, map, get_or, length, sym, ◌∙◌, arith}
use Rattle.std.proofs.lemmas.List.{get_or-map}
use Rattle.bs_tableau.proofs.tableau.same_rows.Goals as goal

pub returns-then-not-same_row : goal.returns-then-not-same_row
returns-then-not-same_row c =
    let s = c.args.stages in
    let i = c.rows.row in
    let left = c.args.left.now in
    let right = c.args.right.now in
    let a : i < length left = omega (arith, c.rows-test.true) in
    let b : i < length right = omega (arith, c.rows-test.true, c.if-left-right.false) in (
      λ h. cc,
      λ e.
          let there : take s (get_or left i c.index-left-row.result) ≡ take s (get_or right i c.index-right-row.result) =
          sym (get_or-map (take s) left i c.index-left-row.result [] a) ∙ ap (λ rows. get_or rows i []) e ∙ get_or-map (take s) right i c.index-right-row.result [] b in
          let same = ap (take s) c.index-left-row.is ∙ there ∙ ap (take s) (sym c.index-right-row.is) in
          sym c.if-not-same_row.true ∙ c.same_row.ensures.1 same,
    )
