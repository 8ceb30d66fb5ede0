-- The symmetry times the density divides the factorial of the order.
use Rattle.std.proofs.Common.{◌≡◌, ℕ, suc, zero, ◌+◌, ◌*◌, ◌^◌, ◌≤◌, Bool, true, false, cond, refl, ap, ap₂, sym, ◌∙◌, arith, pow-suc, zero-mul, mul_comm}
use Rattle.std.proofs.Math.Nat.{pow-zero}
use Rattle.std.proofs.lemmas.Nat.{mul-pow}
use Rattle.bs_tree.specs.Tree.{Forest, none, grow, Tree, nodes, order}
use Rattle.bs_tree.specs.Canonical.{insert, sorted, is_above}
use Rattle.bs_tree.specs.Isomorphic.{isomorphic}
use Rattle.bs_tree.specs.Numbers.{count_alike, symmetry_of, density_of, symmetry, density, factorial}
use Rattle.bs_tree.specs.SortingLaws.{by_cases, nodes-sorted, sorted-sorted}
use Rattle.bs_tree.proofs.Isomorphic.{sorted_tree}
use Rattle.bs_tree.proofs.Canon.{isomorphic_refl, isomorphic_sym, isomorphic_trans, isomorphic_from, alike}

-- ---- factorials
add_lem : (a b k m A B F n : ℕ) → suc n ≡ suc a + suc b → F ≡ k * (A * (suc b * B)) → F ≡ m * ((suc a * A) * B) → suc n * F ≡ (k + m) * ((suc a * A) * (suc b * B))
add_lem a b k m A B F n e p q =
    let x : suc a * F ≡ suc a * (k * (A * (suc b * B))) = ap (λ i. suc a * i) p in
    let y : suc b * F ≡ suc b * (m * ((suc a * A) * B)) = ap (λ i. suc b * i) q in
    let z : suc n * F ≡ (suc a + suc b) * F = ap (λ i. i * F) e in
    omega arith

-- the factorials of two numbers divide that of their sum
pub factorial_sum : (n a b : ℕ) → a + b ≡ n → (k : ℕ) × (factorial n ≡ k * (factorial a * factorial b))
factorial_sum n zero b e = (1, let f : b ≡ n = omega arith in ap factorial (sym f) ∙ omega arith)
factorial_sum n (suc a) zero e = (1, let f : suc a ≡ n = omega arith in ap factorial (sym f) ∙ omega arith)
factorial_sum zero (suc a) (suc b) e = absurd (omega arith)
factorial_sum (suc n) (suc a) (suc b) e =
    let p = factorial_sum n a (suc b) (omega arith) in
    let q = factorial_sum n (suc a) b (omega arith) in
    (p.0 + q.0, add_lem a b p.0 q.0 (factorial a) (factorial b) (factorial n) n (omega arith) p.1 q.1)

step_lem : (m k j F G K P q r : ℕ) → suc j ≡ suc m * suc k → F ≡ r * (K * G) → G ≡ q * (P * factorial m)
    → suc j * F ≡ (r * q) * (((suc k * K) * P) * (suc m * factorial m))
step_lem m k j F G K P q r e x y =
    let z : suc j * F ≡ (suc m * suc k) * F = ap (λ i. i * F) e in
    let x' : (suc m * suc k) * F ≡ (suc m * suc k) * (r * (K * G)) = ap (λ i. (suc m * suc k) * i) x in
    let y' : ((suc m * suc k) * (r * K)) * G ≡ ((suc m * suc k) * (r * K)) * (q * (P * factorial m)) = ap (λ i. ((suc m * suc k) * (r * K)) * i) y in
    omega arith

-- m groups of k: (k!)^m m! divides (m k)!
pub factorial_groups : (m k : ℕ) → (q : ℕ) × (factorial (m * suc k) ≡ q * (factorial (suc k) ^ m * factorial m))
factorial_groups zero k = (1, rw (zero-mul, pow-zero) refl)
factorial_groups (suc m) k =
    let p = factorial_groups m k in
    let j = k + m * suc k in
    let s = factorial_sum j k (m * suc k) refl in (
      s.0 * p.0,
      ap factorial (let e : suc m * suc k ≡ suc j = omega arith in e)
          ∙ step_lem m k j (factorial j) (factorial (m * suc k)) (factorial k) (factorial (suc k) ^ m) p.0 s.0 (omega arith) s.1 p.1
          ∙ ap (λ i. (s.0 * p.0) * (i * factorial (suc m))) (sym (pow-suc (factorial (suc k)) m ∙ mul_comm (factorial (suc k) ^ m) (factorial (suc k)))),
    )

-- ---- the weight of a list: its symmetry times its density
abbrev pub weight_of : Forest → ℕ
weight_of none = 1
weight_of (grow c kids rest) = (suc (nodes kids) * weight_of kids) * suc (count_alike (record { colour = c; below = kids }) rest) * weight_of rest

abbrev pub weight : Tree → ℕ
weight t = order t * weight_of t.below

pub weight_is : (f : Forest) → weight_of f ≡ symmetry_of f * density_of f
weight_is none = refl
weight_is (grow c kids rest) =
    let t : Tree = record { colour = c; below = kids } in
    lem (suc (nodes kids)) (weight_of kids) (symmetry_of kids) (density_of kids) (suc (count_alike t rest)) (weight_of rest) (symmetry_of rest) (density_of rest) (weight_is kids) (weight_is rest)
  where
    lem : (n w s d k v p q : ℕ) → w ≡ s * d → v ≡ p * q → (n * w) * k * v ≡ (s * k * p) * (n * d * q)
    lem n w s d k v p q e f = ap₂ (λ i j. (n * i) * k * j) e f ∙ omega arith

-- isomorphic trees are alike to the same trees
iso_same : (t u v : Tree) → isomorphic t u ≡ true → isomorphic t v ≡ isomorphic u v
iso_same t u v h =
    by_cases (isomorphic t v)
    (λ e. let f = isomorphic_trans u t v (isomorphic_sym t u h) e in e ∙ sym f)
    (λ e. by_cases (isomorphic u v)
    (λ k. let f = isomorphic_trans t u v h k in cc)
    (λ k. e ∙ sym k))

pub iso_flip : (t u : Tree) → isomorphic t u ≡ isomorphic u t
iso_flip t u =
    by_cases (isomorphic t u)
    (λ e. let f = isomorphic_sym t u e in e ∙ sym f)
    (λ e. by_cases (isomorphic u t)
    (λ k. let f = isomorphic_sym u t k in cc)
    (λ k. e ∙ sym k))

count_same : (t u : Tree) (f : Forest) → isomorphic t u ≡ true → count_alike t f ≡ count_alike u f
count_same t u none h = refl
count_same t u (grow d below more) h =
    let v : Tree = record { colour = d; below = below } in
    ap₂ (λ (b : Bool) (n : ℕ). cond b (suc n) n) (iso_same t u v h) (count_same t u more h)

abbrev plus : Bool → ℕ → ℕ
plus b n = cond b (suc n) n

plus_swap : (a b : Bool) (n : ℕ) → plus a (plus b n) ≡ plus b (plus a n)
plus_swap true true n = refl
plus_swap true false n = refl
plus_swap false b n = refl

count-insert : (t u : Tree) (f : Forest) → count_alike t (insert u f) ≡ plus (isomorphic t u) (count_alike t f)
count-insert t u none = refl
count-insert t u (grow d below more) =
    let v : Tree = record { colour = d; below = below } in
    by_cases (is_above v u)
    (λ e. rw e (ap (plus (isomorphic t v)) (count-insert t u more) ∙ plus_swap (isomorphic t v) (isomorphic t u) (count_alike t more)))
    (λ e. rw e refl)

iso_sorted : (d : ℕ) (below : Forest) → isomorphic (record { colour = d; below = below }) (sorted_tree d below) ≡ true
iso_sorted d below = isomorphic_from (record { colour = d; below = below }) (sorted_tree d below) (record { colours = refl; lists = sym (sorted-sorted below) })

count-sorted : (t : Tree) (f : Forest) → count_alike t (sorted f) ≡ count_alike t f
count-sorted t none = refl
count-sorted t (grow d below more) =
    let v : Tree = record { colour = d; below = below } in
    let w : Tree = sorted_tree d below in
    count-insert t w (sorted more)
    ∙ ap₂ plus (iso_flip t w ∙ sym (iso_same v w t (iso_sorted d below)) ∙ iso_flip v t) (count-sorted t more)

-- ---- a list and its canonical form weigh the same
swap_true : (wv cv wt ct m : ℕ) → wv * suc cv * (wt * ct * m) ≡ wt * suc cv * (wv * ct * m)
swap_true wv cv wt ct m = omega arith

swap_false : (wv cv wt ct m : ℕ) → wv * cv * (wt * ct * m) ≡ wt * ct * (wv * cv * m)
swap_false wv cv wt ct m = omega arith

weight-insert : (t : Tree) (f : Forest) → weight_of (insert t f) ≡ weight t * suc (count_alike t f) * weight_of f
weight-insert t none = refl
weight-insert t (grow d below more) =
    let v : Tree = record { colour = d; below = below } in
    by_cases (is_above v t)
    (λ e. rw e (
    ap₂ (λ (i j : ℕ). weight v * suc i * j) (count-insert v t more) (weight-insert t more)
    ∙ by_cases (isomorphic t v)
    (λ k. let k' : isomorphic v t ≡ true = iso_flip v t ∙ k in
    let same : count_alike v more ≡ count_alike t more = count_same v t more k' in
    rw (k, k', same) (swap_true (weight v) (suc (count_alike t more)) (weight t) (suc (count_alike t more)) (weight_of more)))
    (λ k. let k' : isomorphic v t ≡ false = iso_flip v t ∙ k in
    rw (k, k') (swap_false (weight v) (suc (count_alike v more)) (weight t) (suc (count_alike t more)) (weight_of more)))))
    (λ e. rw e refl)

weight-sorted : (f : Forest) → weight_of (sorted f) ≡ weight_of f
weight-sorted none = refl
weight-sorted (grow c kids rest) =
    let t : Tree = record { colour = c; below = kids } in
    let u : Tree = sorted_tree c kids in
    let e : count_alike u (sorted rest) ≡ count_alike t rest = count-sorted u rest ∙ sym (count_same t u rest (iso_sorted c kids)) in
    let w : weight u ≡ weight t = ap₂ (λ (i j : ℕ). suc i * j) (nodes-sorted kids) (weight-sorted kids) in
    weight-insert u (sorted rest) ∙ ap₂ (λ (i j : ℕ). i * suc j * weight_of (sorted rest)) w e ∙ ap (λ (i : ℕ). weight t * suc (count_alike t rest) * i) (weight-sorted rest)

pub weight_same : (t u : Tree) → isomorphic t u ≡ true → weight t ≡ weight u
weight_same t u h =
    let a = alike t u h in
    ap₂ (λ (i j : ℕ). suc i * j)
    (sym (nodes-sorted t.below) ∙ ap nodes a.lists ∙ nodes-sorted u.below)
    (sym (weight-sorted t.below) ∙ ap weight_of a.lists ∙ weight-sorted u.below)

pub order_same : (t u : Tree) → isomorphic t u ≡ true → order t ≡ order u
order_same t u h =
    let a = alike t u h in ap suc (sym (nodes-sorted t.below) ∙ ap nodes a.lists ∙ nodes-sorted u.below)

-- ---- the trees of a list that are not isomorphic to t
abbrev others : Tree → Forest → Forest
others t none = none
others t (grow d below more) = cond (isomorphic t (record { colour = d; below = below })) (others t more) (grow d below (others t more))

count-others : (t v : Tree) (f : Forest) → isomorphic t v ≡ false → count_alike v (others t f) ≡ count_alike v f
count-others t v none h = refl
count-others t v (grow d below more) h =
    let w : Tree = record { colour = d; below = below } in
    by_cases (isomorphic t w)
    (λ e. let k : isomorphic v w ≡ false =
    by_cases (isomorphic v w) (λ y. let z = isomorphic_trans t w v e (isomorphic_sym v w y) in let bad : true ≡ false = sym z ∙ h in cc) (λ n. n) in
    rw (e, k) (count-others t v more h))
    (λ e. rw e (ap (plus (isomorphic v w)) (count-others t v more h)))

group_lem : (wt n W P c : ℕ) → wt * suc n * (P * c * W) ≡ (P * wt) * (suc n * c) * W
group_lem wt n W P c = omega arith

rest_lem : (wv cv P c W : ℕ) → wv * cv * (P * c * W) ≡ P * c * (wv * cv * W)
rest_lem wv cv P c W = omega arith

weight_groups : (t : Tree) (f : Forest) → weight_of f ≡ weight t ^ count_alike t f * factorial (count_alike t f) * weight_of (others t f)
weight_groups t none = rw pow-zero refl
weight_groups t (grow d below more) =
    let v : Tree = record { colour = d; below = below } in
    let n = count_alike t more in
    let ih = weight_groups t more in
    by_cases (isomorphic t v)
    (λ e. rw e (
    let c : count_alike v more ≡ n = sym (count_same t v more e) in
    let w : weight v ≡ weight t = sym (weight_same t v e) in
    ap₂ (λ (i j : ℕ). i * suc j * weight_of more) w c ∙ ap (λ (i : ℕ). weight t * suc n * i) ih
    ∙ group_lem (weight t) n (weight_of (others t more)) (weight t ^ n) (factorial n)
    ∙ ap (λ (i : ℕ). i * factorial (suc n) * weight_of (others t more)) (sym (pow-suc (weight t) n))))
    (λ e. rw (e, count-others t v more e) (
    ap (λ (i : ℕ). weight v * suc (count_alike v more) * i) ih
    ∙ rest_lem (weight v) (suc (count_alike v more)) (weight t ^ n) (factorial n) (weight_of (others t more))))

nodes_groups : (t : Tree) (f : Forest) → nodes f ≡ count_alike t f * order t + nodes (others t f)
nodes_groups t none = rw zero-mul refl
nodes_groups t (grow d below more) =
    let v : Tree = record { colour = d; below = below } in
    let ih = nodes_groups t more in
    by_cases (isomorphic t v)
    (λ e. rw e (let o : order v ≡ order t = sym (order_same t v e) in omega arith))
    (λ e. rw e (omega arith))

-- ---- the law
div_lem : (a P c W r G b H s : ℕ) → G ≡ r * (P * c) → H ≡ b * W → a ≡ s * (G * H) → a ≡ (s * r * b) * (P * c * W)
div_lem a P c W r G b H s x y z =
    z ∙ ap₂ (λ (i j : ℕ). s * (i * j)) x y ∙ omega arith

group_out : (g q k w m c : ℕ) → (G F : ℕ) → F ≡ q * w → G ≡ g * (F ^ m * c) → G ≡ (g * q ^ m) * (w ^ m * c)
group_out g q k w m c G F e x = x ∙ ap (λ (i : ℕ). g * (i ^ m * c)) e ∙ ap (λ (i : ℕ). g * (i * c)) (mul-pow q w m) ∙ omega arith

nodes-others : (t : Tree) (f : Forest) → nodes (others t f) ≤ nodes f
nodes-others t f = omega (arith, nodes_groups t f)

first_lem : (k K q w : ℕ) → K ≡ q * w → suc k * K ≡ q * (suc k * w)
first_lem k K q w e = ap (λ (i : ℕ). suc k * i) e ∙ omega arith

pub weight_divides : (fuel : ℕ) (f : Forest) → nodes f ≤ fuel → (q : ℕ) × (factorial (nodes f) ≡ q * weight_of f)
weight_divides fuel none h = (1, refl)
weight_divides zero (grow c kids rest) h = absurd (omega arith)
weight_divides (suc fuel) (grow c kids rest) h =
    let f = grow c kids rest in
    let t : Tree = record { colour = c; below = kids } in
    let m = count_alike t f in
    let k = nodes kids in
    let W = weight_of (others t f) in
    let split = nodes_groups t f in
    let gone : others t f ≡ others t rest = rw (isomorphic_refl t) refl in
    let left : nodes (others t f) ≤ fuel = rw gone (omega (arith, nodes-others t rest)) in
    let one = weight_divides fuel kids (omega arith) in
    let rest' = weight_divides fuel (others t f) left in
    let groups = factorial_groups m k in
    let two = factorial_sum (nodes f) (m * suc k) (nodes (others t f)) (sym split) in
    let first : factorial (suc k) ≡ one.0 * weight t = first_lem k (factorial k) one.0 (weight_of kids) one.1 in
    let grouped = group_out groups.0 one.0 k (weight t) m (factorial m) (factorial (m * suc k)) (factorial (suc k)) first groups.1 in (
      two.0 * (groups.0 * one.0 ^ m) * rest'.0,
      div_lem (factorial (nodes f)) (weight t ^ m) (factorial m) W (groups.0 * one.0 ^ m) (factorial (m * suc k)) rest'.0 (factorial (nodes (others t f))) two.0 grouped rest'.1 two.1
          ∙ ap (λ (i : ℕ). (two.0 * (groups.0 * one.0 ^ m) * rest'.0) * i) (sym (weight_groups t f)),
    )

-- the symmetry times the density divides the factorial of the order
pub symmetry_density_divides : (t : Tree) → (q : ℕ) × (factorial (order t) ≡ q * (symmetry t * density t))
symmetry_density_divides t =
    let d = weight_divides (nodes t.below) t.below (omega arith) in (
      d.0,
      first_lem (nodes t.below) (factorial (nodes t.below)) d.0 (weight_of t.below) d.1
          ∙ ap (λ (i : ℕ). d.0 * (order t * i)) (weight_is t.below) ∙ omega arith,
    )
