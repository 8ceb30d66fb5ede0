-- What a value needs: the pair itself and what its plan's factors need, however deep the plans go.
use Rattle.std.proofs.Common.{◌≡◌, ℕ, zero, suc, ◌*◌, ◌<◌, ◌≤◌, List, [], ◌∷◌, Bool, true, false, cond, inl, inr, arith, ◌∙◌, ap, mul-pos}
use Rattle.std.specs.List.{flat_map, AllByRecursion}
use Rattle.std.proofs.Math.Nat.{mul-le-mul_left}
use Rattle.bs_tree.specs.Tree.{Tree, order}
use Rattle.bs_tree.specs.ListLaws.{all_flat_map, flat_map_same, all_implied}
use Rattle.bs_series.specs.Series.{Series, size}
use Rattle.bs_series.specs.Plan.{Factor, fixed, at, turned, plan, plan_factors, IsBelow, OnFactor}
use Rattle.bs_series.specs.PlanItems.{is_looked_up, pair_of, looked_up, needed_within, needed, NeededLaw}
use Rattle.bs_series.proofs.Below.{plan_below, size_pos}

abbrev pub rank : Series → Tree → ℕ
rank s t = size s * order t

pub falls : (s : Series) (t : Tree) (s' : Series) (t' : Tree) → IsBelow s t s' t' → rank s' t' < rank s t
falls s t s' t' (inl h) =
    let a : size s' * order t' ≤ size s' * order t = mul-le-mul_left (size s') h.1 in
    let b : order t * suc (size s') ≤ order t * size s = mul-le-mul_left (order t) (omega (arith, h.0)) in
    omega (arith, a, b)
falls s t s' t' (inr h) =
    let a : size s * suc (order t') ≤ size s * order t = mul-le-mul_left (size s) (omega (arith, h.1)) in
    let e : size s' * order t' ≡ size s * order t' = ap (λ (x : Series). size x * order t') h.0 in
    omega (arith, a, e, size_pos s)

abbrev Falls : Series → Tree → Series × Tree → Type 0
Falls s t p = rank p.0 p.1 < rank s t

pair_falls : (s : Series) (t : Tree) (s' : Series) (t' : Tree) → IsBelow s t s' t' → AllByRecursion (Falls s t) (pair_of s' t')
pair_falls s t s' t' h = go (is_looked_up s')
  where
    go : (b : Bool) → AllByRecursion (Falls s t) (cond b ((s', t') ∷ []) [])
    go true = (falls s t s' t' h, tt)
    go false = tt

factor_falls : (s : Series) (t : Tree) (f : Factor Tree) → OnFactor (IsBelow s t) f → AllByRecursion (Falls s t) (looked_up f)
factor_falls s t (fixed c) h = tt
factor_falls s t (at a u) h = pair_falls s t a u h
factor_falls s t (turned a u) h = pair_falls s t a u h

all_fall : (s : Series) (t : Tree) → AllByRecursion (Falls s t) (flat_map looked_up (plan_factors (plan s t)))
all_fall s t = all_flat_map (Falls s t) looked_up (OnFactor (IsBelow s t)) (factor_falls s t) (plan_factors (plan s t)) (plan_below s t)

rank_pos : (s : Series) (t : Tree) → 0 < rank s t
rank_pos s t = mul-pos (size_pos s) (let h : 0 < order t = omega arith in h)

-- deeper than the plans go there is nothing more
deep_enough : (m n : ℕ) (s : Series) (t : Tree) → rank s t ≤ m → rank s t ≤ n → needed_within m s t ≡ needed_within n s t
deep_enough zero n s t h k = absurd (let p = rank_pos s t in omega (arith, p, h))
deep_enough (suc m) zero s t h k = absurd (let p = rank_pos s t in omega (arith, p, k))
deep_enough (suc m) (suc n) s t h k =
    ap (λ (ps : List (Series × Tree)). (s, t) ∷ ps)
    (flat_map_same (λ p. needed_within m p.0 p.1) (λ p. needed_within n p.0 p.1) (flat_map looked_up (plan_factors (plan s t)))
    (all_implied (Falls s t) (λ p. needed_within m p.0 p.1 ≡ needed_within n p.0 p.1) (λ p l. deep_enough m n p.0 p.1 (omega (arith, h, l)) (omega (arith, k, l)))
    (flat_map looked_up (plan_factors (plan s t))) (all_fall s t)))

pub needed_law : NeededLaw
needed_law s t = go (rank s t) (rank_pos s t) (let h : rank s t ≤ rank s t = omega arith in h)
  where
    go : (n : ℕ) → 0 < n → rank s t ≤ n → needed s t ≡ (s, t) ∷ flat_map (λ p. needed p.0 p.1) (flat_map looked_up (plan_factors (plan s t)))
    go zero h k = absurd (omega (arith, h))
    go (suc n) h k =
        deep_enough (rank s t) (suc n) s t (omega arith) k
        ∙ ap (λ (ps : List (Series × Tree)). (s, t) ∷ ps)
        (flat_map_same (λ p. needed_within n p.0 p.1) (λ p. needed p.0 p.1) (flat_map looked_up (plan_factors (plan s t)))
        (all_implied (Falls s t) (λ p. needed_within n p.0 p.1 ≡ needed p.0 p.1) (λ p l. deep_enough n (rank p.0 p.1) p.0 p.1 (omega (arith, k, l)) (omega arith))
        (flat_map looked_up (plan_factors (plan s t))) (all_fall s t)))
