-- Gathered products are those of their factors, and a gathered sum is the written one.
use mathlib.Core.Bool.{beq}
use Rattle.std.proofs.Common.{◌≡◌, ℕ, suc, zero, ◌+◌, ◌*◌, ◌/◌, ◌≤◌, ◌<◌, Bool, true, false, not, ℤ, pos, ◌+ℤ◌, ◌*ℤ◌, neg_ℤ, List, [], ◌∷◌, ◌++◌, map, length, get_or, arith, refl, sym, ◌∙◌, ap, ap₂, subst}
use Rattle.std.specs.Prelude.{unsigned_abs, replicate, Option, Some, None, IfSome}
use Rattle.std.specs.List.{fold, swap, AllByRecursion}
use Rattle.std.specs.List.Sorted.{IsPermutation}
use Rattle.std.proofs.Math.ListN.{set, get_or-map}
use Rattle.std.proofs.lemmas.List.{map-set}
use Rattle.std.proofs.lemmas.List.Edits.{swap_is}
use Rattle.std.proofs.Math.Nat.{mul-le-mul_right, pos_of_dvd_of_pos, mul-div_cancel', mul-div_cancel_left, dvd-mul_right}
use Rattle.std.proofs.lemmas.List.{map-append, length-map}
use Rattle.std.proofs.lemmas.List.Sorted.{IsPermutation-refl, IsPermutation-swap, IsPermutation-trans, IsPermutation-keeps, All-permutation}
use Rattle.std.proofs.lemmas.List.Elements.{All-from_recursion, recursion_from_All}
use Rattle.std.proofs.lemmas.Int.{ints, unsigned_abs-mul}
use Rattle.std.proofs.lemmas.Nat.Gcd.{dvd_trans}
use Prim.Native.Nat.{◌∣◌}
use Rattle.bs_frac.specs.Gcd.{gcd}
use Rattle.bs_frac.specs.Fraction.{Fraction, IsReduced, signed, whole, product_of}
use Rattle.bs_frac.specs.Checked.{largest}
use Rattle.bs_frac.specs.Written.{checked, Term, add, subtract, product_all, with_term}
use Rattle.bs_frac.specs.Wholes.{ratio, number, number_term, tops, bottoms, or_one, reach, product_over, top_over, total_top, magnitudes, FactorsFit, TermFits, AllTermsFit, ProductStays}
use Rattle.bs_frac.specs.Gathered.{Multiplied, multiplied, both_multiplied, IsProductOf, Total, turned, gathered, term_of, Gathers}
use Rattle.bs_frac.specs.declared.coef.Coef.{Coef}
use Rattle.bs_frac.specs.declared.coef.Coef.TheVariants.{Value}
use Rattle.bs_frac.proofs.GcdLaws.{gcd-right}
use Rattle.bs_frac.proofs.Products.{one_reduced}
use Rattle.bs_frac.proofs.Reduced.{quotient_pos}
use Rattle.bs_frac.proofs.Wholes.{scaled_same, lcm_turned}
use Rattle.bs_frac.proofs.WholeSums.{reduced_is_number, one_number, product_law, totals_append, totals_permutation, terms_from, abs_sum}
use Rattle.bs_frac.proofs.Sums.{unsigned_abs-signed, signed-times}
use Rattle.bs_frac.proofs.Ring.{self, nat, plus, minus, times, same}

-- ---- products
pub one_product : (x : Fraction) → IsReduced x → IsProductOf (multiplied x) (Value x ∷ [])
one_product x r = record {
  factors = x ∷ [];
  numbers = ap (λ (z : Coef). z ∷ []) (reduced_is_number x r);
  top = same (self x.top) (times (self x.top) (nat 1)) (omega arith);
  bottom = omega arith;
  reach = omega arith;
}

tops_append : (xs ys : List Fraction) → tops (xs ++ ys) ≡ tops xs *ℤ tops ys
tops_append [] ys = same (self (tops ys)) (times (nat 1) (self (tops ys))) (omega arith)
tops_append (x ∷ xs) ys =
    ap (λ (z : ℤ). x.top *ℤ z) (tops_append xs ys)
    ∙ same (times (self x.top) (times (self (tops xs)) (self (tops ys)))) (times (times (self x.top) (self (tops xs))) (self (tops ys))) (omega arith)

bottoms_append : (xs ys : List Fraction) → bottoms (xs ++ ys) ≡ bottoms xs * bottoms ys
bottoms_append [] ys = omega arith
bottoms_append (x ∷ xs) ys = ap (λ (n : ℕ). x.bottom * n) (bottoms_append xs ys) ∙ omega arith

reach_append : (xs ys : List Fraction) → reach (xs ++ ys) ≡ reach xs * reach ys
reach_append [] ys = omega arith
reach_append (x ∷ xs) ys = ap (λ (n : ℕ). or_one (unsigned_abs x.top) * n) (reach_append xs ys) ∙ omega arith

pub both_products : (x y : Multiplied) (us vs : List Coef) → IsProductOf x us → IsProductOf y vs → IsProductOf (both_multiplied x y) (us ++ vs)
both_products x y us vs h k = record {
  factors = h.factors ++ k.factors;
  numbers = ap₂ (λ (a b : List Coef). a ++ b) h.numbers k.numbers ∙ sym (map-append number h.factors k.factors);
  top = ap₂ (λ (a b : ℤ). a *ℤ b) h.top k.top ∙ sym (tops_append h.factors k.factors);
  bottom = ap₂ (λ (a b : ℕ). a * b) h.bottom k.bottom ∙ sym (bottoms_append h.factors k.factors);
  reach = ap₂ (λ (a b : ℕ). a * b) h.reach k.reach ∙ sym (reach_append h.factors k.factors);
}

pub if_both : (r : Option Multiplied) (x y : Multiplied) (us vs : List Coef) → IfSome r (λ p. p ≡ both_multiplied x y) → IsProductOf x us → IsProductOf y vs → IfSome r (λ p. IsProductOf p (us ++ vs))
if_both None x y us vs e h k = tt
if_both (Some p) x y us vs e h k = subst (λ (m : Multiplied). IsProductOf m (us ++ vs)) (sym e) (both_products x y us vs h k)

-- ---- a denominator k times as large
module _ (n k : ℕ) (p : 0 < n) where
  scaled_fit : (ts : List (Term Fraction)) → AllTermsFit n ts → AllTermsFit (n * k) ts
  scaled_fit [] h = tt
  scaled_fit (add xs ∷ ts) h = (record { divides = dvd_trans (bottoms xs) h.0.divides (dvd-mul_right n k); reach = h.0.reach }, scaled_fit ts h.1)
  scaled_fit (subtract xs ∷ ts) h = (record { divides = dvd_trans (bottoms xs) h.0.divides (dvd-mul_right n k); reach = h.0.reach }, scaled_fit ts h.1)

  scaled_quotient : (c : ℕ) → c ∣ n → n * k / c ≡ n / c * k
  scaled_quotient c d =
      let m = n / c in
      let e : c * m ≡ n = mul-div_cancel' c d in
      let f : n * k ≡ c * (m * k) = ap (λ (i : ℕ). i * k) (sym e) ∙ omega arith in
      ap (λ (i : ℕ). i / c) f ∙ mul-div_cancel_left (m * k) (pos_of_dvd_of_pos d p)

  scaled_product : (xs : List Fraction) → FactorsFit n xs → product_over (n * k) xs ≡ product_over n xs *ℤ pos k
  scaled_product xs h =
      ap (λ (i : ℕ). tops xs *ℤ pos i) (scaled_quotient (bottoms xs) h.divides)
      ∙ same (times (self (tops xs)) (nat (n / bottoms xs * k))) (times (times (self (tops xs)) (nat (n / bottoms xs))) (nat k)) (omega arith)

  scaled_top : (t : Term Fraction) → TermFits n t → top_over (n * k) t ≡ top_over n t *ℤ pos k
  scaled_top (add xs) h = scaled_product xs h
  scaled_top (subtract xs) h =
      ap neg_ℤ (scaled_product xs h)
      ∙ same (minus (times (self (product_over n xs)) (nat k))) (times (minus (self (product_over n xs))) (nat k)) (omega arith)

  scaled_total : (ts : List (Term Fraction)) → AllTermsFit n ts → total_top (n * k) ts ≡ total_top n ts *ℤ pos k
  scaled_total [] h = same (nat 0) (times (nat 0) (nat k)) (omega arith)
  scaled_total (t ∷ ts) h =
      ap₂ (λ (a b : ℤ). a +ℤ b) (scaled_top t h.0) (scaled_total ts h.1)
      ∙ same (plus (times (self (top_over n t)) (nat k)) (times (self (total_top n ts)) (nat k))) (times (plus (self (top_over n t)) (self (total_top n ts))) (nat k)) (omega arith)

  scaled_magnitudes : (ts : List (Term Fraction)) → AllTermsFit n ts → magnitudes (n * k) ts ≡ magnitudes n ts * k
  scaled_magnitudes [] h = omega arith
  scaled_magnitudes (t ∷ ts) h =
      ap₂ (λ (a b : ℕ). a + b) (ap unsigned_abs (scaled_top t h.0) ∙ unsigned_abs-mul (top_over n t) (pos k)) (scaled_magnitudes ts h.1)
      ∙ omega arith

-- ---- a term some times
module _ (n : ℕ) (t : Term Fraction) where
  fit_times : (m : ℕ) → TermFits n t → AllTermsFit n (replicate m t)
  fit_times zero h = tt
  fit_times (suc m) h = (h, fit_times m h)

  total_times : (m : ℕ) → total_top n (replicate m t) ≡ top_over n t *ℤ pos m
  total_times zero = same (nat 0) (times (self (top_over n t)) (nat 0)) (omega arith)
  total_times (suc m) =
      ap (λ (z : ℤ). top_over n t +ℤ z) (total_times m)
      ∙ same (plus (self (top_over n t)) (times (self (top_over n t)) (nat m))) (times (self (top_over n t)) (nat (suc m))) (omega arith)

  magnitudes_times : (m : ℕ) → magnitudes n (replicate m t) ≡ unsigned_abs (top_over n t) * m
  magnitudes_times zero = omega arith
  magnitudes_times (suc m) = ap (λ (i : ℕ). unsigned_abs (top_over n t) + i) (magnitudes_times m) ∙ omega arith

  numbers_times : (m : ℕ) → map number_term (replicate m t) ≡ replicate m (number_term t)
  numbers_times zero = refl
  numbers_times (suc m) = ap (λ (l : List (Term Coef)). number_term t ∷ l) (numbers_times m)

fit_append : (n : ℕ) (xs ys : List (Term Fraction)) → AllTermsFit n xs → AllTermsFit n ys → AllTermsFit n (xs ++ ys)
fit_append n [] ys h k = k
fit_append n (x ∷ xs) ys h k = (h.0, fit_append n xs ys h.1 k)

-- ---- one more product
quotient_term : Bool → List Fraction → Term Fraction
quotient_term true xs = subtract xs
quotient_term false xs = add xs

quotient_fits : (negative : Bool) (n : ℕ) (xs : List Fraction) → FactorsFit n xs → TermFits n (quotient_term negative xs)
unfolding quotient_term
quotient_fits true n xs h = h
quotient_fits false n xs h = h

quotient_number : (negative : Bool) (xs : List Fraction) → number_term (quotient_term negative xs) ≡ term_of negative (map number xs)
unfolding quotient_term
quotient_number true xs = refl
quotient_number false xs = refl

quotient_top : (negative : Bool) (n : ℕ) (xs : List Fraction) → top_over n (quotient_term negative xs) ≡ turned negative (product_over n xs)
unfolding quotient_term
quotient_top true n xs = refl
quotient_top false n xs = refl

turned_times : (negative : Bool) (a : ℤ) (l m : ℕ) → turned negative (a *ℤ pos l) *ℤ pos m ≡ turned negative (a *ℤ pos (l * m))
turned_times true a l m = same (times (minus (times (self a) (nat l))) (nat m)) (minus (times (self a) (nat (l * m)))) (omega arith)
turned_times false a l m = same (times (times (self a) (nat l)) (nat m)) (times (self a) (nat (l * m))) (omega arith)

turned_abs : (negative : Bool) (a : ℤ) → unsigned_abs (turned negative a) ≡ unsigned_abs a
turned_abs true a = omega (arith, ints)
turned_abs false a = refl

module _ (z : Coef) (w : Total) (ts : List (Term Coef)) (h : Gathers z w ts) (x : Multiplied) (vs : List Coef) (f : IsProductOf x vs) (p : 0 < w.over) (q : 0 < x.bottom) (small : x.reach ≤ largest) (negative : Bool) (m : ℕ) where
  abbrev scale : ℕ
  scale = x.bottom / gcd w.over x.bottom

  abbrev other : ℕ
  other = w.over / gcd w.over x.bottom

  abbrev new_term : Term Fraction
  new_term = quotient_term negative f.factors

  abbrev news : List (Term Fraction)
  news = replicate m new_term

  some_scale : 0 < scale
  some_scale = quotient_pos x.bottom (gcd w.over x.bottom) (gcd-right w.over x.bottom) q

  over_is : w.over * scale ≡ bottoms f.factors * other
  over_is = lcm_turned w.over x.bottom ∙ ap (λ (i : ℕ). i * other) f.bottom

  new_fits : TermFits (w.over * scale) new_term
  new_fits =
      quotient_fits negative (w.over * scale) f.factors (record {
        divides = subst (λ (i : ℕ). bottoms f.factors ∣ i) (sym over_is) (dvd-mul_right (bottoms f.factors) other);
        reach = subst (λ (i : ℕ). i ≤ largest) f.reach small;
      })

  new_product : product_over (w.over * scale) f.factors ≡ x.top *ℤ pos other
  new_product =
      let some : 0 < bottoms f.factors = subst (λ (i : ℕ). 0 < i) f.bottom q in
      ap₂ (λ (a : ℤ) (i : ℕ). a *ℤ pos i) (sym f.top) (ap (λ (i : ℕ). i / bottoms f.factors) over_is ∙ mul-div_cancel_left other some)

  new_top : top_over (w.over * scale) new_term ≡ turned negative (x.top *ℤ pos other)
  new_top = quotient_top negative (w.over * scale) f.factors ∙ ap (turned negative) new_product

  new_total : total_top (w.over * scale) news ≡ turned negative (x.top *ℤ pos (other * m))
  new_total = total_times (w.over * scale) new_term m ∙ ap (λ (a : ℤ). a *ℤ pos m) new_top ∙ turned_times negative x.top other m

  new_magnitudes : magnitudes (w.over * scale) news ≡ unsigned_abs x.top * (other * m)
  new_magnitudes =
      magnitudes_times (w.over * scale) new_term m
      ∙ ap (λ (i : ℕ). i * m) (ap unsigned_abs new_top ∙ turned_abs negative (x.top *ℤ pos other) ∙ unsigned_abs-mul x.top (pos other))
      ∙ omega arith

  pub gathers_more : Gathers z (gathered w negative x m) (ts ++ replicate m (term_of negative vs))
  gathers_more =
      let n' = w.over * scale in
      let total = totals_append n' h.quotients news in
      let numbers : replicate m (term_of negative vs) ≡ map number_term news =
      ap (λ (l : List Coef). replicate m (term_of negative l)) f.numbers ∙ ap (replicate m) (sym (quotient_number negative f.factors)) ∙ sym (numbers_times n' new_term m) in
      let old_total : total_top n' h.quotients ≡ total_top w.over h.quotients *ℤ pos scale = scaled_total w.over scale p h.quotients h.fit in
      let old_magnitudes : magnitudes n' h.quotients ≡ magnitudes w.over h.quotients * scale = scaled_magnitudes w.over scale p h.quotients h.fit in
      let abs_start : unsigned_abs (h.start *ℤ pos scale) ≡ unsigned_abs h.start * scale = unsigned_abs-mul h.start (pos scale) in
      let a = total_top w.over h.quotients in let b = turned negative (x.top *ℤ pos (other * m)) in
      record {
        start = h.start *ℤ pos scale;
        quotients = h.quotients ++ news;
        numbers = ap₂ (λ (l r : List (Term Coef)). l ++ r) h.numbers numbers ∙ sym (map-append number_term h.quotients news);
        begins = h.begins ∙ one_number (ratio h.start w.over) (ratio (h.start *ℤ pos scale) n') (scaled_same h.start w.over scale p some_scale);
        fit = fit_append n' h.quotients news (scaled_fit w.over scale p h.quotients h.fit) (fit_times n' new_term m new_fits);
        top =
            ap (λ (i : ℤ). i *ℤ pos scale +ℤ b) h.top
            ∙ same (plus (times (plus (self h.start) (self a)) (nat scale)) (self b)) (plus (times (self h.start) (nat scale)) (plus (times (self a) (nat scale)) (self b))) (omega arith)
            ∙ ap (λ (i : ℤ). h.start *ℤ pos scale +ℤ i) (ap₂ (λ (i j : ℤ). i +ℤ j) (sym old_total) (sym new_total) ∙ sym total.0);
        magnitude =
            ap (λ (i : ℕ). i * scale + unsigned_abs x.top * (other * m)) h.magnitude
            ∙ (let e : (unsigned_abs h.start + magnitudes w.over h.quotients) * scale + unsigned_abs x.top * (other * m) ≡ unsigned_abs h.start * scale + (magnitudes w.over h.quotients * scale + unsigned_abs x.top * (other * m)) = omega arith in e)
            ∙ ap₂ (λ (i j : ℕ). i + j) (sym abs_start) (ap₂ (λ (i j : ℕ). i + j) (sym old_magnitudes) (sym new_magnitudes) ∙ sym total.1);
      }

-- ---- the beginning
pub gathers_none : (top : ℤ) (over : ℕ) → Gathers (number (ratio top over)) (record { over = over; top = top; magnitude = unsigned_abs top }) []
gathers_none top over = record {
  start = top;
  quotients = [];
  numbers = refl;
  begins = refl;
  fit = tt;
  top = same (self top) (plus (self top) (nat 0)) (omega arith);
  magnitude = omega arith;
}

-- ---- another order
module _ {A B : Type 0} (f : A → B) where
  -- what stands in another order behind f stands so before it
  pub lifted : (ps : List A) (qs : List B) → IsPermutation (map f ps) qs → (rs : List A) × IsPermutation ps rs × (qs ≡ map f rs)
  lifted ps qs h =
      IsPermutation-keeps (map f ps) (λ l. (rs : List A) × IsPermutation ps rs × (l ≡ map f rs)) (ps, IsPermutation-refl ps, refl)
      (λ l i j p q r.
      let long : length l ≡ length r.0 = ap length r.2 ∙ length-map r.0 f in
      let pi : i < length r.0 = omega arith in let pj : j < length r.0 = omega arith in
      (swap r.0 i j, IsPermutation-trans ps r.0 (swap r.0 i j) r.1 (IsPermutation-swap r.0 (swap r.0 i j) i j pi pj refl), ap (λ (k : List B). swap k i j) r.2 ∙ sym (map_swap r.0 i j pi pj))) qs h
    where
      map_swap : (l : List A) (i j : ℕ) → i < length l → j < length l → map f (swap l i j) ≡ swap (map f l) i j
      map_swap [] i j p q = absurd (omega arith)
      map_swap (d ∷ l) i j p q =
          let k = d ∷ l in
          let long : length (map f k) ≡ length k = length-map k f in
          let pi : i < length (map f k) = omega arith in let pj : j < length (map f k) = omega arith in
          let inner : map f (set k i (get_or k j d)) ≡ set (map f k) i (get_or (map f k) j (f d)) = map-set f k i (get_or k j d) ∙ ap (set (map f k) i) (sym (get_or-map f k j d)) in
          ap (map f) (sym (swap_is k i j d p q)) ∙ map-set f (set k i (get_or k j d)) j (get_or k i d)
          ∙ ap₂ (λ (a : List B) (b : B). set a j b) inner (sym (get_or-map f k i d))
          ∙ swap_is (map f k) i j (f d) pi pj

module _ (n : ℕ) where
  each_fits : (ts : List (Term Fraction)) → AllTermsFit n ts → AllByRecursion (TermFits n) ts
  each_fits [] h = tt
  each_fits (t ∷ ts) h = (h.0, each_fits ts h.1)

  all_fit : (ts : List (Term Fraction)) → AllByRecursion (TermFits n) ts → AllTermsFit n ts
  all_fit [] h = tt
  all_fit (t ∷ ts) h = (h.0, all_fit ts h.1)

  pub fits_keeps : (ps rs : List (Term Fraction)) → IsPermutation ps rs → AllTermsFit n ps → AllTermsFit n rs
  fits_keeps ps rs h k =
      all_fit rs (recursion_from_All (TermFits n) rs (All-permutation (TermFits n) ps rs h (All-from_recursion (TermFits n) ps (each_fits ps k))))

pub gathered_is : (z : Coef) (w : Total) (ts us : List (Term Coef)) → Gathers z w ts → IsPermutation ts us → 0 < w.over → w.over ≤ largest → w.magnitude ≤ largest
    → fold (with_term checked) z us ≡ number (ratio w.top w.over)
gathered_is z w ts us h s p fn fm =
    let r = lifted number_term h.quotients us (subst (λ (l : List (Term Coef)). IsPermutation l us) h.numbers s) in
    let e = totals_permutation w.over h.quotients r.0 r.1 in
    let fit : AllTermsFit w.over r.0 = fits_keeps w.over h.quotients r.0 r.1 h.fit in
    let small : unsigned_abs h.start + magnitudes w.over r.0 ≤ largest =
    subst (λ (i : ℕ). i ≤ largest) (h.magnitude ∙ ap (λ (i : ℕ). unsigned_abs h.start + i) (sym e.1)) fm in
    ap₂ (λ (a : Coef) (l : List (Term Coef)). fold (with_term checked) a l) h.begins r.2
    ∙ terms_from w.over h.start r.0 p fn fit small
    ∙ ap (λ (i : ℤ). number (ratio i w.over)) (ap (λ (i : ℤ). h.start +ℤ i) e.0 ∙ sym h.top)

-- ---- signs and magnitudes
pub sum_bound : (s t : Bool) (n b m k : ℕ) → n ≤ m → unsigned_abs (signed s (n * k) +ℤ signed t b) ≤ m * k + b
sum_bound s t n b m k h =
    let e = unsigned_abs-signed s (n * k) in let f = unsigned_abs-signed t b in
    let g : n * k ≤ m * k = mul-le-mul_right k h in
    let a = abs_sum (signed s (n * k)) (signed t b) in omega (arith, e, f, a, g)

signed_turned : (negative m : Bool) (a : ℕ) → signed (not (beq m negative)) a ≡ turned negative (signed m a)
signed_turned false false a = refl
signed_turned false true a = refl
signed_turned true false a = refl
signed_turned true true a = same (nat a) (minus (minus (nat a))) (omega arith)

pub total_found : (s : Bool) (n mag d : ℕ) (x : Multiplied) (t negative : Bool) (a b k l m : ℕ) → signed t a ≡ x.top → b ≡ x.bottom → k ≡ b / gcd d b → l ≡ d / gcd d b
    → (sign : Bool) (total magnitude den before by : ℕ) → den ≡ d * k → before ≡ mag * k → by ≡ a * (l * m) → magnitude ≡ before + by
    → signed sign total ≡ signed s (n * k) +ℤ signed (not (beq t negative)) by
    → record { over = den; top = signed sign total; magnitude = magnitude } ≡ gathered (record { over = d; top = signed s n; magnitude = mag }) negative x m
total_found s n mag d x t negative a b k l m etop eb ek el sign total magnitude den before by eden ebefore eby emagnitude esum =
    let scale = x.bottom / gcd d x.bottom in let other = d / gcd d x.bottom in
    let ks : k ≡ scale = ek ∙ ap (λ (i : ℕ). i / gcd d i) eb in
    let ls : l ≡ other = el ∙ ap (λ (i : ℕ). d / gcd d i) eb in
    let over_is : den ≡ d * scale = eden ∙ ap (λ (i : ℕ). d * i) ks in
    let by_is : signed (not (beq t negative)) by ≡ turned negative (x.top *ℤ pos (other * m)) =
    signed_turned negative t by ∙ ap (turned negative) (ap (signed t) eby ∙ sym (signed-times t a (l * m)) ∙ ap₂ (λ (i : ℤ) (j : ℕ). i *ℤ pos (j * m)) etop ls) in
    let top_is : signed sign total ≡ signed s n *ℤ pos scale +ℤ turned negative (x.top *ℤ pos (other * m)) =
    esum ∙ ap₂ (λ (i j : ℤ). i +ℤ j) (sym (signed-times s n k) ∙ ap (λ (i : ℕ). signed s n *ℤ pos i) ks) by_is in
    let abs : a ≡ unsigned_abs x.top = sym (unsigned_abs-signed t a) ∙ ap unsigned_abs etop in
    let magnitude_is : magnitude ≡ mag * scale + unsigned_abs x.top * (other * m) =
    emagnitude ∙ ap₂ (λ (i j : ℕ). i + j) (ebefore ∙ ap (λ (i : ℕ). mag * i) ks) (eby ∙ ap₂ (λ (i j : ℕ). i * (j * m)) abs ls) in
    ap₂ (λ (i : ℕ) (j : ℤ). let v : Total = record { over = i; top = j; magnitude = magnitude } in v) over_is top_is
    ∙ ap (λ (i : ℕ). let v : Total = record { over = d * scale; top = signed s n *ℤ pos scale +ℤ turned negative (x.top *ℤ pos (other * m)); magnitude = i } in v) magnitude_is

-- ---- a product of two factors, begun with 1
pub two_factors : (s : Bool) (n d : ℕ) (x y : Fraction) → record { top = signed s n; bottom = d } ≡ x → n ≤ largest → d ≤ largest → IsReduced x → 0 < y.bottom → ProductStays x y
    → product_all checked (Value x ∷ number y ∷ []) ≡ number (product_of x y)
two_factors s n d x y e hn hd r p f =
    let top : unsigned_abs x.top ≤ largest = subst (λ (z : Fraction). unsigned_abs z.top ≤ largest) e (subst (λ (i : ℕ). i ≤ largest) (sym (unsigned_abs-signed s n)) hn) in
    let bottom : x.bottom ≤ largest = subst (λ (z : Fraction). z.bottom ≤ largest) e hd in
    let one : pos 1 *ℤ x.top ≡ x.top = same (times (nat 1) (self x.top)) (self x.top) (omega arith) in
    let first : ProductStays (whole 1) x = record {
      top = subst (λ (z : ℤ). unsigned_abs z ≤ largest) (sym one) top;
      bottom = (let q : 1 * x.bottom ≤ largest = omega arith in q);
    } in
    let same_x : product_of (whole 1) x ≡ x = ap₂ (λ (a : ℤ) (b : ℕ). ratio a b) one (omega arith) in
    ap₂ (λ (a b : Coef). checked.product (checked.product a b) (number y)) (reduced_is_number (whole 1) one_reduced) (reduced_is_number x r)
    ∙ ap (λ (z : Coef). checked.product z (number y)) (product_law (whole 1) x (omega arith) r.positive first ∙ ap number same_x)
    ∙ product_law x y r.positive p f

-- ---- both numbers some times as large
pub widened : (s : Bool) (n d k n' d' : ℕ) → 0 < d → 0 < k → n' ≡ n * k → d' ≡ d * k → number (ratio (signed s n') d') ≡ number (ratio (signed s n) d)
widened s n d k n' d' p q en ed =
    ap₂ (λ (i j : ℕ). number (ratio (signed s i) j)) en ed
    ∙ ap (λ (z : ℤ). number (ratio z (d * k))) (sym (signed-times s n k))
    ∙ sym (one_number (ratio (signed s n) d) (ratio (signed s n *ℤ pos k) (d * k)) (scaled_same (signed s n) d k p q))
