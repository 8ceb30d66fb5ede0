use Rattle.std.proofs.Common.{◌≡◌, sym, ap, subst, ◌∙◌, List, ℕ, [], ◌∷◌, ◌++◌}
use Rattle.bs_catalog.specs.Shelf.{Code, Numbers, AreRows}
use Rattle.bs_catalog.proofs.making.leaf_parts.Goals as goal

pub returns-clause-rows : goal.returns-clause-rows
returns-clause-rows c = λ x hx.
    let cs = c.number.new.self in
    let row = c.in_ok-leaf.leaf ∷ (c.args.number ∷ []) in
    let is : c.push.new.self ≡ row ∷ [] = c.in_ok-push.ensures ∙ ap (λ (rows : List (List ℕ)). rows ++ row ∷ []) c.new-rows.ensures in
    let leaf : Numbers cs c.in_ok-leaf.leaf ((1, 0) ∷ []) = subst (λ (code : Code). Numbers cs c.in_ok-leaf.leaf code) c.leaf.ensures c.in_ok-leaf.ensures.is in
    subst (λ (rows : List (List ℕ)). AreRows cs rows ((((1, 0) ∷ []) ∷ (x ∷ [])) ∷ [])) (sym is) ((leaf, (c.number.ensures.grows c.args.number x hx, tt)), tt)
