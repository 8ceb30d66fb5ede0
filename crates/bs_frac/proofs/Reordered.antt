-- What is gathered of factors, or of terms, in another order.
use Rattle.std.proofs.Common.{◌≡◌, ℕ, suc, zero, ◌*◌, ◌/◌, ◌<◌, ◌≤◌, ℤ, pos, ◌+ℤ◌, ◌*ℤ◌, neg_ℤ, List, [], ◌∷◌, ◌+◌, map, length, get_or, arith, refl, sym, ◌∙◌, ap, ap₂, subst}
use Rattle.std.specs.Prelude.{unsigned_abs}
use Rattle.std.specs.List.Sorted.{IsPermutation}
use Rattle.std.specs.List.{swap}
use Rattle.std.proofs.Math.ListN.{set}
use Rattle.std.proofs.lemmas.List.Edits.{swap_is}
use Rattle.std.proofs.lemmas.List.Sorted.{IsPermutation-keeps}
use Prim.Native.Nat.{◌∣◌}
use Rattle.bs_frac.specs.Fraction.{Fraction}
use Rattle.bs_frac.specs.Checked.{largest}
use Rattle.bs_frac.specs.Written.{Term, add, subtract}
use Rattle.bs_frac.specs.Wholes.{number, number_term, tops, bottoms, reach, top_over, total_top, magnitudes, TermFits, AllTermsFit, FactorsFit}
use Rattle.bs_frac.specs.Gathered.{Multiplied, multiplied, both_multiplied, AlikeTerm, AlikeTerms, AnyOrderOfFactors, AnyOrderOfTerms}
use Rattle.bs_frac.specs.declared.coef.Coef.{Coef}
use Rattle.bs_frac.proofs.WholeSums.{totals_permutation}
use Rattle.bs_frac.proofs.Gathered.{lifted, fits_keeps}
use Rattle.bs_frac.proofs.Ring.{self, times, same}

-- ---- factors
all_multiplied : List Fraction → Multiplied
all_multiplied xs = record { top = tops xs; bottom = bottoms xs; reach = reach xs }

exchanged : (x y z : Multiplied) → both_multiplied x (both_multiplied y z) ≡ both_multiplied y (both_multiplied x z)
exchanged x y z =
    let top : x.top *ℤ (y.top *ℤ z.top) ≡ y.top *ℤ (x.top *ℤ z.top) =
    same (times (self x.top) (times (self y.top) (self z.top))) (times (self y.top) (times (self x.top) (self z.top))) (omega arith) in
    let bottom : x.bottom * (y.bottom * z.bottom) ≡ y.bottom * (x.bottom * z.bottom) = omega arith in
    let reach : x.reach * (y.reach * z.reach) ≡ y.reach * (x.reach * z.reach) = omega arith in
    ap₂ (λ (i : ℤ) (j : ℕ). let v : Multiplied = record { top = i; bottom = j; reach = x.reach * (y.reach * z.reach) } in v) top bottom
    ∙ ap (λ (i : ℕ). let v : Multiplied = record { top = y.top *ℤ (x.top *ℤ z.top); bottom = y.bottom * (x.bottom * z.bottom); reach = i } in v) reach

-- a factor that changes places with one behind it
moved : (d x : Fraction) (xs : List Fraction) (j : ℕ) → j < length xs → all_multiplied (get_or xs j d ∷ set xs j x) ≡ all_multiplied (x ∷ xs)
unfolding all_multiplied
moved d x [] j p = absurd (omega (arith, p))
moved d x (y ∷ xs) zero p = exchanged (multiplied y) (multiplied x) (all_multiplied xs)
moved d x (y ∷ xs) (suc j) p =
    let g = get_or xs j d in
    exchanged (multiplied g) (multiplied y) (all_multiplied (set xs j x))
    ∙ ap (both_multiplied (multiplied y)) (moved d x xs j (omega arith))
    ∙ exchanged (multiplied y) (multiplied x) (all_multiplied xs)

two_moved : (d : Fraction) (xs : List Fraction) (i j : ℕ) → i < length xs → j < length xs → all_multiplied (set (set xs i (get_or xs j d)) j (get_or xs i d)) ≡ all_multiplied xs
unfolding all_multiplied
two_moved d [] i j p q = absurd (omega (arith, p))
two_moved d (x ∷ xs) zero zero p q = refl
two_moved d (x ∷ xs) zero (suc j) p q = moved d x xs j (omega arith)
two_moved d (x ∷ xs) (suc i) zero p q = moved d x xs i (omega arith)
two_moved d (x ∷ xs) (suc i) (suc j) p q = ap (both_multiplied (multiplied x)) (two_moved d xs i j (omega arith) (omega arith))

swapped : (xs : List Fraction) (i j : ℕ) → i < length xs → j < length xs → all_multiplied (swap xs i j) ≡ all_multiplied xs
swapped [] i j p q = absurd (omega (arith, p))
swapped (x ∷ xs) i j p q = ap all_multiplied (sym (swap_is (x ∷ xs) i j x p q)) ∙ two_moved x (x ∷ xs) i j p q

reordered : (xs ys : List Fraction) → IsPermutation xs ys → all_multiplied ys ≡ all_multiplied xs
reordered xs ys h = IsPermutation-keeps xs (λ l. all_multiplied l ≡ all_multiplied xs) refl (λ l i j p q e. swapped l i j p q ∙ e) ys h

-- the factors of values in another order
record Reordered (xs : List Fraction) (vs : List Coef) : Type 0 where
  factors : List Fraction
  numbers : vs ≡ map number factors
  top : tops factors ≡ tops xs
  bottom : bottoms factors ≡ bottoms xs
  reach_is : reach factors ≡ reach xs

values_reordered : (xs : List Fraction) (vs : List Coef) → IsPermutation (map number xs) vs → Reordered xs vs
unfolding all_multiplied
values_reordered xs vs h =
    let r = lifted number xs vs h in
    let e = reordered xs r.0 r.1 in record {
      factors = r.0;
      numbers = r.2;
      top = ap (λ (m : Multiplied). m.top) e;
      bottom = ap (λ (m : Multiplied). m.bottom) e;
      reach_is = ap (λ (m : Multiplied). m.reach) e;
    }

pub factors_in_any_order : AnyOrderOfFactors
factors_in_any_order x us vs h s =
    let r = values_reordered h.factors vs (subst (λ (l : List Coef). IsPermutation l vs) h.numbers s) in record {
      factors = r.factors;
      numbers = r.numbers;
      top = h.top ∙ sym r.top;
      bottom = h.bottom ∙ sym r.bottom;
      reach = h.reach ∙ sym r.reach_is;
    }

-- ---- terms
record LikeTerm (n : ℕ) (t : Term Fraction) (u : Term Coef) : Type 0 where
  quotient : Term Fraction
  number_is : u ≡ number_term quotient
  fits : TermFits n quotient
  top : top_over n quotient ≡ top_over n t

record LikeTerms (n : ℕ) (ts : List (Term Fraction)) (us : List (Term Coef)) : Type 0 where
  quotients : List (Term Fraction)
  numbers : us ≡ map number_term quotients
  fit : AllTermsFit n quotients
  total : total_top n quotients ≡ total_top n ts
  magnitude : magnitudes n quotients ≡ magnitudes n ts

module _ (n : ℕ) where
  product_alike : (xs ys : List Fraction) → tops ys ≡ tops xs → bottoms ys ≡ bottoms xs → tops ys *ℤ pos (n / bottoms ys) ≡ tops xs *ℤ pos (n / bottoms xs)
  product_alike xs ys e f = ap₂ (λ (a : ℤ) (b : ℕ). a *ℤ pos (n / b)) e f

  factors_fit : (xs ys : List Fraction) → bottoms ys ≡ bottoms xs → reach ys ≡ reach xs → FactorsFit n xs → FactorsFit n ys
  factors_fit xs ys e f h = record {
    divides = subst (λ (b : ℕ). b ∣ n) (sym e) h.divides;
    reach = subst (λ (b : ℕ). b ≤ largest) (sym f) h.reach;
  }

  like_term : (t : Term Fraction) (u : Term Coef) → TermFits n t → AlikeTerm (number_term t) u → LikeTerm n t u
  like_term (add xs) (add vs) h k =
      let r = values_reordered xs vs k in record {
        quotient = add r.factors;
        number_is = ap (λ (l : List Coef). add l) r.numbers;
        fits = factors_fit xs r.factors r.bottom r.reach_is h;
        top = product_alike xs r.factors r.top r.bottom;
      }
  like_term (add xs) (subtract vs) h k = absurd k
  like_term (subtract xs) (add vs) h k = absurd k
  like_term (subtract xs) (subtract vs) h k =
      let r = values_reordered xs vs k in record {
        quotient = subtract r.factors;
        number_is = ap (λ (l : List Coef). subtract l) r.numbers;
        fits = factors_fit xs r.factors r.bottom r.reach_is h;
        top = ap neg_ℤ (product_alike xs r.factors r.top r.bottom);
      }

  like_terms : (ts : List (Term Fraction)) (us : List (Term Coef)) → AllTermsFit n ts → AlikeTerms (map number_term ts) us → LikeTerms n ts us
  like_terms [] [] h k = record { quotients = []; numbers = refl; fit = tt; total = refl; magnitude = refl }
  like_terms [] (u ∷ us) h k = absurd k
  like_terms (t ∷ ts) [] h k = absurd k
  like_terms (t ∷ ts) (u ∷ us) h k =
      let a = like_term t u h.0 k.0 in
      let r = like_terms ts us h.1 k.1 in record {
        quotients = a.quotient ∷ r.quotients;
        numbers = ap₂ (λ (x : Term Coef) (l : List (Term Coef)). x ∷ l) a.number_is r.numbers;
        fit = (a.fits, r.fit);
        total = ap₂ (λ (i j : ℤ). i +ℤ j) a.top r.total;
        magnitude = ap₂ (λ (i j : ℕ). i + j) (ap unsigned_abs a.top) r.magnitude;
      }

pub terms_in_any_order : AnyOrderOfTerms
terms_in_any_order z w terms ts us h s k =
    let p = lifted number_term h.quotients ts (subst (λ (l : List (Term Coef)). IsPermutation l ts) h.numbers s) in
    let e = totals_permutation w.over h.quotients p.0 p.1 in
    let fit : AllTermsFit w.over p.0 = fits_keeps w.over h.quotients p.0 p.1 h.fit in
    let r = like_terms w.over p.0 us fit (subst (λ (l : List (Term Coef)). AlikeTerms l us) p.2 k) in record {
      start = h.start;
      quotients = r.quotients;
      numbers = r.numbers;
      begins = h.begins;
      fit = r.fit;
      top = h.top ∙ ap (λ (i : ℤ). h.start +ℤ i) (sym e.0 ∙ sym r.total);
      magnitude = h.magnitude ∙ ap (λ (i : ℕ). unsigned_abs h.start + i) (sym e.1 ∙ sym r.magnitude);
    }
