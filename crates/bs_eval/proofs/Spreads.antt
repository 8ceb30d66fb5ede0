-- The product over the nodes of a tree of one more than the number of their children, by the codes of the root's children.
use Rattle.std.proofs.Common.{◌≡◌, ℕ, zero, suc, ◌+◌, ◌*◌, ◌^◌, ◌<◌, ◌≤◌, List, [], ◌∷◌, map, length, drop, Some, slice_get, refl, sym, ◌∙◌, ap, ap₂, subst, arith}
use Rattle.std.proofs.lemmas.Nat.{mul-le}
use Rattle.bs_tree.specs.Tree.{Forest, none, grow, Tree, trees, nodes, order}
use Rattle.bs_tree.specs.Canonical.{canonical_of, canonical_sequence}
use Rattle.bs_tree.specs.Code.{tree_of, child_codes, IsCode}
use Rattle.bs_tree.specs.SubtreeLaws.{tree_of-level_sequence, code_sequence}
use Rattle.bs_series.specs.Value.{arity, arities}
use Rattle.bs_series.proofs.Planned.{length-level_sequence}
use Rattle.bs_series.proofs.Averages.{arity-sorted, arities-sorted, arities-pos, arities_small, pow_small}
use Rattle.bs_eval.specs.Spread.{tree_spread, spread, spreads}
use Rattle.bs_eval.proofs.Lists.{drop_next}

child_spread : (t : Tree) → spread (canonical_sequence t) ≡ tree_spread t
child_spread t = ap tree_spread (tree_of-level_sequence (canonical_of t)) ∙ ap₂ (λ (m n : ℕ). suc m * n) (arity-sorted t.below) (arities-sorted t.below)

children : (f : Forest) → spreads (map canonical_sequence (trees f)) ≡ arities f
children none = refl
children (grow c kids rest) = ap₂ (λ (m n : ℕ). m * n) (child_spread (record { colour = c; below = kids })) (children rest)

counted : (f : Forest) → length (map canonical_sequence (trees f)) ≡ arity f
counted none = refl
counted (grow c kids rest) = ap suc (counted rest)

pub at_first : (code : List (ℕ × ℕ)) (n : ℕ) → n ≡ length (child_codes code) + 1 → n * spreads (child_codes code) ≡ spread code
at_first code n e =
    let a = counted (tree_of code).below in
    ap₂ (λ (i j : ℕ). i * j) (let z : n ≡ suc (arity (tree_of code).below) = omega arith in z) (children (tree_of code).below)

-- ---- it is small
pub spread-pos : (code : List (ℕ × ℕ)) → 0 < spread code
spread-pos code = let f = (tree_of code).below in mul-le 1 1 (suc (arity f)) (arities f) (omega arith) (arities-pos f)

spreads-pos : (cs : List (List (ℕ × ℕ))) → 0 < spreads cs
spreads-pos [] = omega arith
spreads-pos (c ∷ cs) = mul-le 1 1 (spread c) (spreads cs) (spread-pos c) (spreads-pos cs)

pub code_small : (code : List (ℕ × ℕ)) → IsCode code → spread code ≤ 2 ^ 16
code_small code is =
    let a = arities_small (tree_of code).below in
    let b = pow_small (nodes (tree_of code).below) (let e : length code ≡ order (tree_of code) = ap length (sym (code_sequence code is)) ∙ length-level_sequence (tree_of code) in omega (arith, e, is.small)) in
    omega (arith, a, b)

-- ---- one more child
pub at_next : (codes : List (List (ℕ × ℕ))) (k : ℕ) (c : List (ℕ × ℕ)) (product total : ℕ) → slice_get codes k ≡ Some c → product * spreads (drop k codes) ≡ total
    → product * spread c * spreads (drop (k + 1) codes) ≡ total
at_next codes k c product total e h =
    let n = spreads (drop (k + 1) codes) in
    let z : product * spread c * n ≡ product * (spread c * n) = omega arith in
    z ∙ ap (λ (cs : List (List (ℕ × ℕ))). product * spreads cs) (sym (drop_next codes k c e)) ∙ h

pub fits_next : (codes : List (List (ℕ × ℕ))) (k : ℕ) (c : List (ℕ × ℕ)) (product total : ℕ) → slice_get codes k ≡ Some c → product * spreads (drop k codes) ≡ total
    → product * spread c ≤ total
fits_next codes k c product total e h =
    let f = at_next codes k c product total e h in
    let n = spreads (drop (k + 1) codes) in
    let p = mul-le (product * spread c) 1 (product * spread c) n (omega arith) (spreads-pos (drop (k + 1) codes)) in
    subst (λ (m : ℕ). product * spread c ≤ m) f (omega (arith, p))

pub at_end : (codes : List (List (ℕ × ℕ))) (k product total : ℕ) → length codes ≤ k → product * spreads (drop k codes) ≡ total → product ≡ total
at_end codes k product total l h = let z : product * 1 ≡ product = omega arith in sym z ∙ ap (λ (cs : List (List (ℕ × ℕ))). product * spreads cs) (sym (gone codes k l)) ∙ h
  where
    gone : (cs : List (List (ℕ × ℕ))) (k : ℕ) → length cs ≤ k → drop k cs ≡ []
    gone [] zero l = refl
    gone [] (suc k) l = refl
    gone (c ∷ cs) zero l = absurd (omega arith)
    gone (c ∷ cs) (suc k) l = gone cs k (omega arith)
