-- Sums over the stages, and values stage by stage.
use Rattle.std.proofs.Common.{◌≡◌, ℕ, zero, suc, ◌+◌, ◌<◌, ◌≤◌, [], ◌∷◌, map, fold, refl, sym, ◌∙◌, ap, ap₂, arith}
use Rattle.std.specs.List.{range_with_len}
use Rattle.std.proofs.lemmas.List.FromFn.{map-range_with_len_more}
use Rattle.std.proofs.lemmas.List.Sums.{fold-append}
use Rattle.bs_frac.specs.Fraction.{Fraction, whole}
use Rattle.bs_frac.specs.Written.{checked, product_all, sum_onto}
use Rattle.bs_frac.specs.declared.coef.Coef.{Coef}

-- the sum of the first n terms
abbrev pub sum_below : (ℕ → Coef) → ℕ → Coef
sum_below f n = sum_onto checked (checked.of (whole 0)) (map f (range_with_len 0 n))

pub sum_below-more : (f : ℕ → Coef) (n : ℕ) (s : Coef) → s ≡ sum_below f n → checked.sum s (f n) ≡ sum_below f (n + 1)
sum_below-more f n s e =
    ap (λ z. checked.sum z (f n)) e
    ∙ sym (fold-append checked.sum (checked.of (whole 0)) (map f (range_with_len 0 n)) (f n ∷ []))
    ∙ ap (fold checked.sum (checked.of (whole 0))) (sym (map-range_with_len_more f 0 n n (omega arith)))

map_range_same : {X : Type 0} (f g : ℕ → X) (a n : ℕ) → ((j : ℕ) → a ≤ j → j < a + n → f j ≡ g j) → map f (range_with_len a n) ≡ map g (range_with_len a n)
map_range_same f g a zero h = refl
map_range_same f g a (suc n) h = ap₂ (λ y ys. y ∷ ys) (h a (omega arith) (omega arith)) (map_range_same f g (a + 1) n (λ j le lt. h j (omega arith) (omega arith)))

pub sum_below-same : (f g : ℕ → Coef) (n : ℕ) → ((j : ℕ) → j < n → f j ≡ g j) → sum_below f n ≡ sum_below g n
sum_below-same f g n h = ap (sum_onto checked (checked.of (whole 0))) (map_range_same f g 0 n (λ j le lt. h j (omega arith)))

-- one more term, which is a product of two factors
pub sum_below-product : (f : ℕ → Coef) (n : ℕ) (s s' : Coef) (x u : Fraction) (y v : Coef)
    → s' ≡ checked.sum s (product_all checked (checked.of x ∷ y ∷ [])) → x ≡ u → y ≡ v → f n ≡ product_all checked (checked.of u ∷ v ∷ []) → s ≡ sum_below f n → s' ≡ sum_below f (n + 1)
sum_below-product f n s s' x u y v h e g k i =
    h ∙ ap₂ (λ (z : Fraction) (w : Coef). checked.sum s (product_all checked (checked.of z ∷ w ∷ []))) e g ∙ ap (λ (w : Coef). checked.sum s w) (sym k) ∙ sum_below-more f n s i
