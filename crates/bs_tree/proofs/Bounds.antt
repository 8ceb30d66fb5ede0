-- The symmetry, the density and alpha of a tree of at most MAX_NODES nodes, and products on the way to them.
use Rattle.std.proofs.Common.{◌≡◌, ℕ, suc, zero, ◌+◌, ◌-◌, ◌*◌, ◌^◌, ◌≤◌, ◌<◌, Bool, true, false, cond, List, [], ◌∷◌, length, drop, map, get_or, count_by, slice_get, IfSome, Option, option_map, Some, refl, ap, ap₂, subst, sym, ◌∙◌, arith, mul-pos}
use Rattle.std.proofs.lemmas.List.{drop_more, drop-map}
use Rattle.std.proofs.lemmas.List.Recursion.{is_count_by}
use Rattle.std.proofs.lemmas.Option.{slice_get-map, slice_get_read}
use Rattle.std.specs.Ordering.{is_eq}
use Rattle.std.proofs.Math.Nat.{div-eq_of_eq-mul_left}
use Rattle.bs_tree.specs.Tree.{Forest, none, grow, Tree, order, forest}
use Rattle.bs_tree.specs.Canonical.{sequence_cmp, canonical_sequence}
use Rattle.bs_tree.specs.Isomorphic.{isomorphic}
use Rattle.bs_tree.specs.Numbers.{factorial, symmetry_of, density_of, symmetry, density, alpha, count_alike}
use Rattle.bs_tree.proofs.Divides.{symmetry_density_divides, iso_flip}
use Rattle.bs_tree.proofs.CodeOf.{codes_equal}
use Rattle.bs_tree.specs.declared.TheConstants.{MAX_NODES}

pub factorial_pos : (n : ℕ) → 0 < factorial n
factorial_pos zero = omega arith
factorial_pos (suc n) = mul-pos (omega arith) (factorial_pos n)

grows : (n F : ℕ) → F ≤ suc n * F
grows n F = omega arith

factorial_add : (k n : ℕ) → factorial n ≤ factorial (k + n)
factorial_add zero n = let e : zero + n ≡ n = omega arith in rw e (let h : factorial n ≤ factorial n = omega arith in h)
factorial_add (suc k) n =
    let e : suc k + n ≡ suc (k + n) = omega arith in
    rw e (omega (arith, factorial_add k n, grows (k + n) (factorial (k + n))))

pub factorial_upto : (m n : ℕ) → m ≤ n → factorial m ≤ factorial n
factorial_upto m n h = let e : (n - m) + m ≡ n = omega arith in subst (λ i. factorial m ≤ factorial i) e (factorial_add (n - m) m)

pub symmetry_pos : (f : Forest) → 0 < symmetry_of f
symmetry_pos none = omega arith
symmetry_pos (grow c kids rest) = mul-pos (mul-pos (symmetry_pos kids) (omega arith)) (symmetry_pos rest)

pub density_pos : (f : Forest) → 0 < density_of f
density_pos none = omega arith
density_pos (grow c kids rest) = mul-pos (mul-pos (omega arith) (density_pos kids)) (density_pos rest)

pub tree_density_pos : (t : Tree) → 0 < density t
tree_density_pos t = mul-pos (omega arith) (density_pos t.below)

-- a factor of what is positive
pub factor_pos : (p r total : ℕ) → 0 < total → p * r ≡ total → 0 < p
factor_pos zero r total h e = absurd (let z : total ≡ 0 = sym e ∙ omega arith in omega arith)
factor_pos (suc p) r total h e = omega arith

factor_le : (F q s d : ℕ) → 0 < F → 0 < s → 0 < d → F ≡ q * (s * d) → (s ≤ F) × (d ≤ F)
factor_le F zero s d h a b e = absurd (let z : F ≡ 0 = e ∙ omega arith in omega arith)
factor_le F (suc q) (suc s) (suc d) h a b e = (let z : F ≡ suc q * (suc s * suc d) = e in omega arith, let z : F ≡ suc q * (suc s * suc d) = e in omega arith)
factor_le F (suc q) zero d h a b e = absurd (omega arith)
factor_le F (suc q) (suc s) zero h a b e = absurd (omega arith)

pub factorial_fits : (n : ℕ) → n ≤ MAX_NODES → factorial n < 2 ^ 64
factorial_fits n h =
    let most : factorial MAX_NODES < 2 ^ 64 = omega arith in
    omega (arith, factorial_upto n MAX_NODES h)

pub small_numbers : (t : Tree) → order t ≤ MAX_NODES → (symmetry t < 2 ^ 64) × (density t < 2 ^ 64)
small_numbers t h =
    let d = symmetry_density_divides t in
    let b = factor_le (factorial (order t)) d.0 (symmetry t) (density t) (factorial_pos (order t)) (symmetry_pos t.below) (mul-pos (omega arith) (density_pos t.below)) d.1 in
    let top : factorial (order t) < 2 ^ 64 = factorial_fits (order t) h in
    (omega arith, omega arith)

-- ---- the product of the symmetry and the density
product_pos : (s d : ℕ) → 0 < s → 0 < d → 0 < s * d
product_pos s d h k = mul-pos h k

pub weight_pos : (t : Tree) → 0 < symmetry t * density t
weight_pos t = product_pos (symmetry t) (density t) (symmetry_pos t.below) (mul-pos (omega arith) (density_pos t.below))

-- the symmetry times the density goes alpha times into the factorial of the order
pub alpha_is : (t : Tree) → factorial (order t) ≡ alpha t * (symmetry t * density t)
alpha_is t =
    let d = symmetry_density_divides t in
    let e : alpha t ≡ d.0 = div-eq_of_eq-mul_left (weight_pos t) d.1 in
    d.1 ∙ ap (λ (q : ℕ). q * (symmetry t * density t)) (sym e)

pub alpha_pos : (t : Tree) → 0 < alpha t
alpha_pos t = factor_pos (alpha t) (symmetry t * density t) (factorial (order t)) (factorial_pos (order t)) (sym (alpha_is t))

product_le : (F q w : ℕ) → 0 < F → F ≡ q * w → w ≤ F
product_le F zero w h e = absurd (let z : F ≡ 0 = e ∙ omega arith in omega arith)
product_le F (suc q) w h e = let z : F ≡ w + q * w = e ∙ omega arith in omega arith

pub weight_fits : (t : Tree) → order t ≤ MAX_NODES → symmetry t * density t < 2 ^ 64
weight_fits t h =
    let le : symmetry t * density t ≤ factorial (order t) = product_le (factorial (order t)) (alpha t) (symmetry t * density t) (factorial_pos (order t)) (alpha_is t) in
    omega (arith, factorial_fits (order t) h)

-- ---- a loop over the children
pub density_more : (xs : List Tree) (i : ℕ) (d : Tree) → i < length xs → density_of (forest (drop i xs)) ≡ density (get_or xs i d) * density_of (forest (drop (i + 1) xs))
density_more xs i d h = ap (λ (ys : List Tree). density_of (forest ys)) (drop_more xs i d h)

pub left_le : (p d r total : ℕ) → 0 < r → p * (d * r) ≡ total → p * d ≤ total
left_le p d zero total h e = absurd (omega arith)
left_le p d (suc r) total h e = omega arith

-- ---- later children that are isomorphic
count_lem : (b : Bool) (n : ℕ) → cond b (suc n) n ≡ cond b (1 + n) n
count_lem true n = omega arith
count_lem false n = refl

pub count_codes : (t : Tree) (xs : List Tree) → count_by (λ c. is_eq (sequence_cmp c (canonical_sequence t))) (map canonical_sequence xs) ≡ count_alike t (forest xs)
count_codes t xs = sym (is_count_by counted (λ c. is_eq (sequence_cmp c (canonical_sequence t))) refl (λ c cs. refl) (map canonical_sequence xs)) ∙ same xs
  where
    counted : List (List (ℕ × ℕ)) → ℕ
    counted [] = 0
    counted (c ∷ cs) = cond (is_eq (sequence_cmp c (canonical_sequence t))) (1 + counted cs) (counted cs)

    same : (ys : List Tree) → counted (map canonical_sequence ys) ≡ count_alike t (forest ys)
    same [] = refl
    same (y ∷ ys) =
        ap₂ (λ (b : Bool) (n : ℕ). cond b (1 + n) n) (codes_equal y t ∙ iso_flip y t) (same ys) ∙ sym (count_lem (isomorphic t y) (count_alike t (forest ys)))

pub symmetry_more : (xs : List Tree) (i : ℕ) (d : Tree) → i < length xs
    → symmetry_of (forest (drop i xs)) ≡ (symmetry (get_or xs i d) * suc (count_alike (get_or xs i d) (forest (drop (i + 1) xs)))) * symmetry_of (forest (drop (i + 1) xs))
symmetry_more xs i d h = ap (λ (ys : List Tree). symmetry_of (forest ys)) (drop_more xs i d h)

pub later_is : (xs : List Tree) (place : ℕ) (d : Tree) (later : ℕ) → place < length xs → d ≡ get_or xs place d
    → IfSome (slice_get (map canonical_sequence xs) place) (λ code. later ≡ count_by (λ c. is_eq (sequence_cmp c code)) (drop (place + 1) (map canonical_sequence xs)))
    → later ≡ count_alike d (forest (drop (place + 1) xs))
later_is xs place d later h e k =
    let g : slice_get (map canonical_sequence xs) place ≡ Some (canonical_sequence d) = slice_get-map canonical_sequence xs place ∙ ap (option_map canonical_sequence) (slice_get_read xs (length xs) place d refl h e) in
    let k' : later ≡ count_by (λ c. is_eq (sequence_cmp c (canonical_sequence d))) (drop (place + 1) (map canonical_sequence xs)) =
    subst (λ (o : Option (List (ℕ × ℕ))). IfSome o (λ code. later ≡ count_by (λ c. is_eq (sequence_cmp c code)) (drop (place + 1) (map canonical_sequence xs)))) g k in
    k' ∙ ap (count_by (λ c. is_eq (sequence_cmp c (canonical_sequence d)))) (drop-map canonical_sequence (place + 1) xs) ∙ count_codes d (drop (place + 1) xs)

pub count_alike-le : (t : Tree) (xs : List Tree) → count_alike t (forest xs) ≤ length xs
count_alike-le t [] = omega arith
count_alike-le t (x ∷ xs) = by (isomorphic t x) (count_alike-le t xs)
  where
    by : (b : Bool) → count_alike t (forest xs) ≤ length xs → cond b (suc (count_alike t (forest xs))) (count_alike t (forest xs)) ≤ suc (length xs)
    by true h = omega arith
    by false h = omega arith

-- one step of the product
pub symmetry_step : (p i : ℕ) (xs : List Tree) (d t : Tree) (s later : ℕ) → i < length xs → s ≡ symmetry d → d ≡ get_or xs i d → later ≡ count_alike d (forest (drop (i + 1) xs))
    → p * symmetry_of (forest (drop i xs)) ≡ symmetry t → (p * s * (later + 1)) * symmetry_of (forest (drop (i + 1) xs)) ≡ symmetry t
symmetry_step p i xs d t s later h es ed el inv =
    let rest = symmetry_of (forest (drop (i + 1) xs)) in
    let e1 : symmetry_of (forest (drop i xs)) ≡ (s * suc later) * rest =
    symmetry_more xs i d h ∙ ap₂ (λ (a b : ℕ). (a * suc b) * rest) (ap symmetry (sym ed) ∙ sym es) (ap (λ (u : Tree). count_alike u (forest (drop (i + 1) xs))) (sym ed) ∙ sym el) in
    let e2 : (p * s * (later + 1)) * rest ≡ p * ((s * suc later) * rest) = omega arith in
    e2 ∙ ap (λ (n : ℕ). p * n) (sym e1) ∙ inv

pub times_le : (a r total : ℕ) → 0 < r → a * r ≡ total → a ≤ total
times_le a zero total h e = absurd (omega arith)
times_le a (suc r) total h e = omega arith
