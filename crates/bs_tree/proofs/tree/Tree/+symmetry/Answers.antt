use Rattle.std.proofs.Common.{◌≡◌, ◌∙◌, refl, sym, ap, arith, ◌+◌, ◌*◌, ◌<◌, ◌≤◌, ℕ, List, map, drop, get_or, length, subst, slice_get, IfSome, count_by}
use Rattle.std.proofs.lemmas.List.{length-map, length-drop}
use Rattle.std.specs.Ordering.{is_eq}
use Rattle.bs_tree.specs.Tree.{forest, trees, Tree, order}
use Rattle.bs_tree.specs.Canonical.{canonical_sequence, sequence_cmp}
use Rattle.bs_tree.specs.Numbers.{symmetry, symmetry_of, count_alike}
use Rattle.bs_tree.proofs.Trees.{trees-forest, length_le-nodes}
use Rattle.bs_tree.proofs.Bounds.{later_is, count_alike-le, symmetry_step, times_le, symmetry_pos, small_numbers, factor_pos}
use Rattle.bs_tree.proofs.tree.Tree.+symmetry.Goals as goal
use Rattle.bs_tree.specs.declared.TheConstants.{MAX_NODES}

codes_is : (cs : List (List (ℕ × ℕ))) (xs ys : List Tree) (t u : Tree) → cs ≡ map canonical_sequence (trees t.below) → u ≡ t → u.below ≡ forest ys → xs ≡ ys → cs ≡ map canonical_sequence xs
codes_is cs xs ys t u e v w z = e ∙ ap (λ (r : Tree). map canonical_sequence (trees r.below)) (sym v) ∙ ap (λ f. map canonical_sequence (trees f)) w ∙ ap (map canonical_sequence) (trees-forest ys ∙ sym z)

pub count_later-later-requires : goal.count_later-later-requires
count_later-later-requires t c =
    let xs = c.deref-child-items.result.now in
    let u : Tree = record { colour = c.self.inside.colour; below = forest c.self.inside.children.items } in
    let e = codes_is c.child_codes-codes.result xs c.self.inside.children.items c.args.self.now u c.child_codes-codes.ensures c.self.view_is refl c.deref-child-items.ensures.value in
    rw e (omega (arith, length-map xs canonical_sequence))

later_of : (cs : List (List (ℕ × ℕ))) (xs : List Tree) (place : ℕ) (d : Tree) (later : ℕ) → cs ≡ map canonical_sequence xs → place < length xs → d ≡ get_or xs place d
    → IfSome (slice_get cs place) (λ code. later ≡ count_by (λ c. is_eq (sequence_cmp c code)) (drop (place + 1) cs)) → later ≡ count_alike d (forest (drop (place + 1) xs))
later_of cs xs place d later e h k p =
    later_is xs place d later h k (subst (λ (zs : List (List (ℕ × ℕ))). IfSome (slice_get zs place) (λ code. later ≡ count_by (λ c. is_eq (sequence_cmp c code)) (drop (place + 1) zs))) e p)

pub scaled-product-requires-clause-later : goal.scaled-product-requires-clause-later
scaled-product-requires-clause-later t c =
    let xs = c.deref-child-items.result.now in
    let u : Tree = record { colour = c.self.inside.colour; below = forest c.self.inside.children.items } in
    let e = codes_is c.child_codes-codes.result xs c.self.inside.children.items c.args.self.now u c.child_codes-codes.ensures c.self.view_is refl c.deref-child-items.ensures.value in
    let l = later_of c.child_codes-codes.result xs c.children.place c.child-item.result c.count_later-later.result e c.children-test.true c.child-item.is c.count_later-later.ensures in
    omega (
      arith,
      l,
      count_alike-le c.child-item.result (drop (c.children.place + 1) xs),
      length-drop (c.children.place + 1) xs,
      ap length c.deref-child-items.ensures.value,
      length_le-nodes c.self.inside.children.items,
      c.self.invariant.small,
      c.self.invariant.count_is,
    )

pub scaled-product-requires-clause-fits : goal.scaled-product-requires-clause-fits
scaled-product-requires-clause-fits t c =
    let xs = c.deref-child-items.result.now in
    let u : Tree = record { colour = c.self.inside.colour; below = forest c.self.inside.children.items } in
    let e = codes_is c.child_codes-codes.result xs c.self.inside.children.items c.args.self.now u c.child_codes-codes.ensures c.self.view_is refl c.deref-child-items.ensures.value in
    let l = later_of c.child_codes-codes.result xs c.children.place c.child-item.result c.count_later-later.result e c.children-test.true c.child-item.is c.count_later-later.ensures in
    let s = symmetry_step c.children.product c.children.place xs c.child-item.result c.args.self.now c.symmetry.result c.count_later-later.result c.children-test.true c.symmetry.ensures.value c.child-item.is l c.children.invariant in
    let small : order c.args.self.now ≤ MAX_NODES = omega (arith, ap order c.self.view_is) in
    omega (arith, times_le (c.children.product * c.symmetry.result * (c.count_later-later.result + 1)) (symmetry_of (forest (drop (c.children.place + 1) xs))) (symmetry c.args.self.now) (symmetry_pos (forest (drop (c.children.place + 1) xs))) s, (small_numbers c.args.self.now small).0)

pub children-preserved : goal.children-preserved
children-preserved t c =
    let xs = c.deref-child-items.result.now in
    let u : Tree = record { colour = c.self.inside.colour; below = forest c.self.inside.children.items } in
    let e = codes_is c.child_codes-codes.result xs c.self.inside.children.items c.args.self.now u c.child_codes-codes.ensures c.self.view_is refl c.deref-child-items.ensures.value in
    let l = later_of c.child_codes-codes.result xs c.children.place c.child-item.result c.count_later-later.result e c.children-test.true c.child-item.is c.count_later-later.ensures in
    let s = symmetry_step c.children.product c.children.place xs c.child-item.result c.args.self.now c.symmetry.result c.count_later-later.result c.children-test.true c.symmetry.ensures.value c.child-item.is l c.children.invariant in
    ap (λ (n : ℕ). n * symmetry_of (forest (drop (c.children.place + 1) xs))) c.scaled-product.ensures ∙ s

pub returns-clause-positive : goal.returns-clause-positive
returns-clause-positive t c =
    factor_pos c.children.product (symmetry_of (forest (drop c.children.place c.deref-child-items.result.now))) (symmetry c.args.self.now) (symmetry_pos c.args.self.now.below) c.children.invariant
