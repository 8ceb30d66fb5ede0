-- The average vector field method: its coefficient is 1 over the product of one more than the number of children of each node.
use Rattle.std.proofs.Common.{◌≡◌, ℕ, zero, suc, ◌+◌, ◌-◌, ◌*◌, ◌^◌, ◌<◌, ◌≤◌, Bool, cond, Some, None, arith, refl, sym, ◌∙◌, ap, ap₂, subst}
use Rattle.std.proofs.Math.Nat.{div-one}
use Rattle.std.proofs.lemmas.Bool.{le-leb}
use Rattle.std.proofs.lemmas.Nat.{pow-add, mul-le}
use Rattle.std.specs.List.{fold}
use Rattle.bs_frac.specs.Fraction.{whole}
use Rattle.bs_frac.specs.Checked.{checked_product, cross_gcd, product_top, product_bottom, largest}
use Rattle.bs_frac.specs.Written.{Arithmetic, exactly, checked, coef_of}
use Rattle.bs_frac.specs.declared.coef.Coef.TheVariants.{Value}
use Rattle.bs_frac.proofs.GcdLaws.{gcd-one}
use Rattle.bs_tree.specs.Tree.{Forest, none, grow, Tree, nodes, order}
use Rattle.bs_tree.specs.declared.TheConstants.{MAX_NODES}
use Rattle.bs_tree.specs.Canonical.{is_above, insert, sorted}
use Rattle.bs_tree.specs.SortingLaws.{by_cases}
use Rattle.bs_series.specs.Value.{unit_fraction, arity, arities, over_arities, average_values, average_value}
use Rattle.bs_series.specs.Laws.{AverageLaw}

-- ---- the product of one more than the number of children
pub arities-pos : (f : Forest) → 0 < arities f
arities-pos none = omega arith
arities-pos (grow c kids rest) =
    mul-le 1 1 (suc (arity kids) * arities kids) (arities rest) (mul-le 1 1 (suc (arity kids)) (arities kids) (omega arith) (arities-pos kids)) (arities-pos rest)

double : (a k r : ℕ) → suc (suc a) * (k * r) ≤ k * (2 * (suc a * r))
double a k r =
    let e : k * (2 * (suc a * r)) ≡ suc (suc a) * (k * r) + a * (k * r) = omega arith in
    subst (λ (m : ℕ). suc (suc a) * (k * r) ≤ m) (sym e) (omega arith)

pub arities_small : (f : Forest) → suc (arity f) * arities f ≤ 2 ^ nodes f
arities_small none = omega arith
arities_small (grow c kids rest) =
    let k = suc (arity kids) * arities kids in
    let a = double (arity rest) k (arities rest) in
    let b : k * (2 * (suc (arity rest) * arities rest)) ≤ 2 ^ nodes kids * (2 * 2 ^ nodes rest) = mul-le k (2 * (suc (arity rest) * arities rest)) (2 ^ nodes kids) (2 * 2 ^ nodes rest) (arities_small kids) (mul-le 2 (suc (arity rest) * arities rest) 2 (2 ^ nodes rest) (omega arith) (arities_small rest)) in
    let e : 2 ^ (suc (nodes kids) + nodes rest) ≡ 2 ^ nodes kids * (2 * 2 ^ nodes rest) = pow-add 2 (suc (nodes kids)) (nodes rest) ∙ (let z : 2 ^ suc (nodes kids) ≡ 2 ^ nodes kids * 2 = ap (λ (n : ℕ). 2 ^ n) (let y : suc (nodes kids) ≡ nodes kids + 1 = omega arith in y) ∙ pow-add 2 (nodes kids) 1 in ap (λ (n : ℕ). n * 2 ^ nodes rest) z ∙ (let y : 2 ^ nodes kids * 2 * 2 ^ nodes rest ≡ 2 ^ nodes kids * (2 * 2 ^ nodes rest) = omega arith in y)) in
    subst (λ (m : ℕ). suc (suc (arity rest)) * (k * arities rest) ≤ m) (sym e) (omega (arith, a, b))

pub pow_small : (n : ℕ) → n < 17 → 2 ^ n ≤ 2 ^ 16
pow_small n h = let e = pow-add 2 n (16 - n) in let z : n + (16 - n) ≡ 16 = omega arith in
    subst (λ (m : ℕ). 2 ^ n ≤ 2 ^ m) z (subst (λ (m : ℕ). 2 ^ n ≤ m) (sym e) (let p = mul-le (2 ^ n) 1 (2 ^ n) (2 ^ (16 - n)) (omega arith) (one_le (16 - n)) in omega (arith, p)))
  where
    one_le : (m : ℕ) → 1 ≤ 2 ^ m
    one_le zero = omega arith
    one_le (suc m) = let h = one_le m in let e = pow-add 2 1 m in omega (arith, h, e)

-- ---- it does not change where the children are sorted
arity-insert : (t : Tree) (f : Forest) → arity (insert t f) ≡ suc (arity f)
arity-insert t none = refl
arity-insert t (grow d below more) =
    by_cases (is_above (record { colour = d; below = below }) t)
    (λ e. rw e (ap suc (arity-insert t more)))
    (λ e. rw e refl)

swap_first : (a b c : ℕ) → a * (b * c) ≡ b * (a * c)
swap_first a b c = omega arith

arities-insert : (t : Tree) (f : Forest) → arities (insert t f) ≡ suc (arity t.below) * arities t.below * arities f
arities-insert t none = refl
arities-insert t (grow d below more) =
    by_cases (is_above (record { colour = d; below = below }) t)
    (λ e. rw e (ap (λ (n : ℕ). suc (arity below) * arities below * n) (arities-insert t more) ∙ swap_first (suc (arity below) * arities below) (suc (arity t.below) * arities t.below) (arities more)))
    (λ e. rw e refl)

pub arity-sorted : (f : Forest) → arity (sorted f) ≡ arity f
arity-sorted none = refl
arity-sorted (grow c kids rest) = arity-insert (record { colour = c; below = sorted kids }) (sorted rest) ∙ ap suc (arity-sorted rest)

pub arities-sorted : (f : Forest) → arities (sorted f) ≡ arities f
arities-sorted none = refl
arities-sorted (grow c kids rest) =
    arities-insert (record { colour = c; below = sorted kids }) (sorted rest)
    ∙ ap₂ (λ (m n : ℕ). m * n) (ap₂ (λ (m n : ℕ). suc m * n) (arity-sorted kids) (arities-sorted kids)) (arities-sorted rest)

-- ---- fractions 1/n multiplied and divided, where the bounds of the numbers allow it
module _ (A : Arithmetic) (Fits : ℕ → Type 0) (down : (m n : ℕ) → m ≤ n → Fits n → Fits m)
    (times : (m n : ℕ) → Fits (m * n) → A.product (A.of (unit_fraction m)) (A.of (unit_fraction n)) ≡ A.of (unit_fraction (m * n)))
    (divided : (m n : ℕ) → Fits (m * suc n) → A.quotient (A.of (unit_fraction m)) (A.of (whole (suc n))) ≡ A.of (unit_fraction (m * suc n))) where
  average_product : (f : Forest) (m : ℕ) → 0 < m → Fits (m * arities f) → fold A.product (A.of (unit_fraction m)) (average_values A f) ≡ A.of (unit_fraction (m * arities f))
  average_product none m p h = ap (λ (n : ℕ). A.of (unit_fraction n)) (let z : m ≡ m * 1 = omega arith in z)
  average_product (grow c kids rest) m p h =
      let a = arity kids in
      let k = arities kids in
      let r = arities rest in
      let s = 1 * k * suc a in
      let e : m * s * r ≡ m * (suc a * k * r) = omega arith in
      let all : Fits (m * s * r) = subst Fits (sym e) h in
      let front : Fits (m * s) = down (m * s) (m * s * r) (let z = mul-le (m * s) 1 (m * s) r (omega arith) (arities-pos rest) in omega (arith, z)) all in
      let one : Fits s = down s (m * s) (let z = mul-le 1 s m s p (omega arith) in omega (arith, z)) front in
      let first : Fits (1 * k) = down (1 * k) s (let z = mul-le (1 * k) 1 (1 * k) (suc a) (omega arith) (omega arith) in omega (arith, z)) one in
      let value = ap (λ (x : A.Number). A.quotient x (A.of (whole (suc a)))) (average_product kids 1 (omega arith) first) ∙ divided (1 * k) a one in
      let step = ap (A.product (A.of (unit_fraction m))) value ∙ times m s front in
      let q : 0 < m * s = mul-le 1 1 m s p (mul-le 1 1 (1 * k) (suc a) (let z = arities-pos kids in omega (arith, z)) (omega arith)) in
      ap (λ (x : A.Number). fold A.product x (average_values A rest)) step ∙ average_product rest (m * s) q all ∙ ap (λ (n : ℕ). A.of (unit_fraction n)) e

  average_is : (t : Tree) → Fits (suc (arity t.below) * arities t.below) → average_value A t ≡ A.of (over_arities t)
  average_is t h =
      let a = arity t.below in
      let k = arities t.below in
      let e : 1 * k * suc a ≡ suc a * k = omega arith in
      let all : Fits (1 * k * suc a) = subst Fits (sym e) h in
      let first : Fits (1 * k) = down (1 * k) (1 * k * suc a) (let z = mul-le (1 * k) 1 (1 * k) (suc a) (omega arith) (omega arith) in omega (arith, z)) all in
      ap (λ (x : A.Number). A.quotient x (A.of (whole (suc a)))) (average_product t.below 1 (omega arith) first) ∙ divided (1 * k) a all ∙ ap (λ (n : ℕ). A.of (unit_fraction n)) e

-- ---- without bound
pub exact_average : (t : Tree) → average_value exactly t ≡ over_arities t
exact_average t = average_is exactly (λ _. Unit {0}) (λ m n l h. tt) (λ m n h. refl) (λ m n h. refl) t tt

-- ---- in the written order
checked_times : (m n : ℕ) → m * n ≤ largest → checked_product (unit_fraction m) (unit_fraction n) ≡ Some (unit_fraction (m * n))
unfolding cross_gcd product_top product_bottom
checked_times m n l = rw (gcd-one m, gcd-one n, div-one m, div-one n) (ap (λ (b : Bool). cond b (Some (unit_fraction (m * n))) None) (le-leb (m * n) largest l))

fits_down : (m n : ℕ) → m ≤ n → n ≤ largest → m ≤ largest
fits_down m n l h = omega (arith, l, h)

pub written_average : (t : Tree) → order t ≤ MAX_NODES → average_value checked t ≡ Value (over_arities t)
written_average t h =
    average_is checked (λ n. n ≤ largest) fits_down (λ m n l. ap coef_of (checked_times m n l)) (λ m n l. ap coef_of (checked_times m (suc n) l)) t
    (let a = arities_small t.below in let b = pow_small (nodes t.below) (omega (arith, h)) in omega (arith, a, b))

pub average_law : AverageLaw
average_law = record { exact = exact_average; written = written_average }
