-- Isomorphic trees have equal numbers.
use Rattle.std.proofs.Common.{◌≡◌, ℕ, suc, ◌*◌, ◌/◌, true, refl, ap, ap₂, sym, ◌∙◌, arith, mul-pos}
use Rattle.std.proofs.Math.Nat.{eq_of_mul-eq-mul_right}
use Rattle.bs_tree.specs.Tree.{Forest, none, grow, Tree, nodes, order}
use Rattle.bs_tree.specs.Canonical.{insert, sorted, is_above}
use Rattle.bs_tree.specs.Isomorphic.{isomorphic}
use Rattle.bs_tree.specs.Numbers.{symmetry_of, density_of, symmetry, density, alpha, factorial}
use Rattle.bs_tree.specs.SortingLaws.{by_cases, nodes-sorted}
use Rattle.bs_tree.proofs.Isomorphic.{sorted_tree}
use Rattle.bs_tree.proofs.Canon.{alike}
use Rattle.bs_tree.proofs.Divides.{order_same, weight, weight_is, weight_same}
use Rattle.bs_tree.proofs.Bounds.{density_pos}

density-insert : (t : Tree) (f : Forest) → density_of (insert t f) ≡ density t * density_of f
density-insert t none = refl
density-insert t (grow d below more) =
    by_cases (is_above (record { colour = d; below = below }) t)
    (λ e. rw e (ap (λ (n : ℕ). suc (nodes below) * density_of below * n) (density-insert t more) ∙ omega arith))
    (λ e. rw e refl)

density-sorted : (f : Forest) → density_of (sorted f) ≡ density_of f
density-sorted none = refl
density-sorted (grow c kids rest) =
    density-insert (sorted_tree c kids) (sorted rest)
    ∙ ap₂ (λ (m n : ℕ). suc m * n * density_of (sorted rest)) (nodes-sorted kids) (density-sorted kids)
    ∙ ap (λ (n : ℕ). suc (nodes kids) * density_of kids * n) (density-sorted rest)

pub density_same : (t u : Tree) → isomorphic t u ≡ true → density t ≡ density u
density_same t u h =
    let a = alike t u h in
    ap₂ (λ (m n : ℕ). m * n) (order_same t u h) (sym (density-sorted t.below) ∙ ap density_of a.lists ∙ density-sorted u.below)

weight_is_product : (t : Tree) → symmetry t * density t ≡ weight t
weight_is_product t =
    let e : symmetry_of t.below * (order t * density_of t.below) ≡ order t * (symmetry_of t.below * density_of t.below) = omega arith in
    e ∙ ap (λ (n : ℕ). order t * n) (sym (weight_is t.below))

pub symmetry_same : (t u : Tree) → isomorphic t u ≡ true → symmetry t ≡ symmetry u
symmetry_same t u h =
    let e : symmetry t * density u ≡ symmetry u * density u =
    ap (λ (n : ℕ). symmetry t * n) (sym (density_same t u h)) ∙ weight_is_product t ∙ weight_same t u h ∙ sym (weight_is_product u) in
    eq_of_mul-eq-mul_right (density u) (mul-pos (omega arith) (density_pos u.below)) (symmetry t) (symmetry u) e

pub alpha_same : (t u : Tree) → isomorphic t u ≡ true → alpha t ≡ alpha u
alpha_same t u h =
    ap₂ (λ (m n : ℕ). m / n) (ap factorial (order_same t u h)) (ap₂ (λ (m n : ℕ). m * n) (symmetry_same t u h) (density_same t u h))
