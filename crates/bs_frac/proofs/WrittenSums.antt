-- A relation that the operations keep is kept by products, sums and written sums; the checked numbers agree with the exact ones.
use Rattle.std.proofs.Common.{◌≡◌, ℕ, ◌+◌, ◌<◌, List, [], ◌∷◌, map, length, take, drop, get_or, pos, ◌*ℤ◌, Bool, true, false, cond, Option, Some, None, refl, sym, ◌∙◌, ap, subst, mul-pos}
use Rattle.std.specs.List.{fold}
use Rattle.std.proofs.lemmas.List.{take_more, take-append-drop}
use Rattle.std.proofs.lemmas.List.Sums.{fold-append}
use Rattle.bs_frac.specs.Fraction.{Fraction, SameFraction, IsReduced, whole, sum_of, difference_of, product_of, opposite_of, reciprocal_of, quotient_of}
use Rattle.bs_frac.specs.Checked.{checked_sum, checked_difference, checked_product, checked_quotient, sum_reduced, product_reduced}
use Rattle.bs_frac.specs.Written.{Arithmetic, exactly, checked, coef_of, strict, opposite_coef, Term, add, subtract, product_all, with_term, written_sum, Keeps, Agrees, RelatedLists, RelatedTerms}
use Rattle.bs_frac.specs.declared.coef.Coef.{Coef}
use Rattle.bs_frac.specs.declared.coef.Coef.TheVariants.{Value, Overflow}
use Rattle.bs_frac.specs.WrittenLaws.{AllReduced, AllTermsReduced, factors_of, checked_term, WrittenSumLaw, SumOfProductsLaw}
use Rattle.bs_frac.proofs.Reduced.{sum_is_reduced, sum_is_same}
use Rattle.bs_frac.proofs.Products.{product_is_reduced, product_is_same, opposite_is_reduced, reciprocal_is_reduced, zero_reduced, one_reduced}
use Rattle.bs_frac.proofs.Same.{same_refl, same_trans, sum_same, product_same, opposite_same, reciprocal_same}

-- ---- once a partial product is Overflow, so is the product
overflow_stays : (factors : List Coef) → fold checked.product Overflow factors ≡ Overflow
overflow_stays [] = refl
overflow_stays (f ∷ fs) = overflow_stays fs

pub product_stops : (factors : List Coef) (i : ℕ) (d : Coef) → i < length factors → checked.product (product_all checked (take i factors)) (get_or factors i d) ≡ Overflow → product_all checked factors ≡ Overflow
product_stops factors i d lt e =
    let one = checked.of (whole 1) in
    let here : fold checked.product one (take (i + 1) factors) ≡ Overflow =
    ap (fold checked.product one) (take_more factors i d lt) ∙ fold-append checked.product one (take i factors) (get_or factors i d ∷ []) ∙ e in
    sym (ap (fold checked.product one) (take-append-drop (i + 1) factors))
    ∙ fold-append checked.product one (take (i + 1) factors) (drop (i + 1) factors)
    ∙ ap (λ z. fold checked.product z (drop (i + 1) factors)) here
    ∙ overflow_stays (drop (i + 1) factors)

-- ---- what the operations keep
module _ (A B : Arithmetic) (R : A.Number → B.Number → Type 0) where
  -- lists given place by place
  pub keeps_fold : (f : A.Number → A.Number → A.Number) (g : B.Number → B.Number → B.Number)
      → ((x y : A.Number) (u v : B.Number) → R x u → R y v → R (f x y) (g u v))
      → (xs : List A.Number) (us : List B.Number) → RelatedLists R xs us → (z : A.Number) (w : B.Number) → R z w → R (fold f z xs) (fold g w us)
  keeps_fold f g h [] [] r z w e = e
  keeps_fold f g h [] (u ∷ us) r z w e = absurd r
  keeps_fold f g h (x ∷ xs) [] r z w e = absurd r
  keeps_fold f g h (x ∷ xs) (u ∷ us) r z w e = keeps_fold f g h xs us r.1 (f z x) (g w u) (h z x w u e r.0)

  -- lists that come from one list
  pub keeps_fold_map : {X : Type 0} (f : A.Number → A.Number → A.Number) (g : B.Number → B.Number → B.Number)
      → ((x y : A.Number) (u v : B.Number) → R x u → R y v → R (f x y) (g u v))
      → (p : X → A.Number) (q : X → B.Number) → ((x : X) → R (p x) (q x)) → (xs : List X) (z : A.Number) (w : B.Number) → R z w → R (fold f z (map p xs)) (fold g w (map q xs))
  keeps_fold_map f g h p q r [] z w e = e
  keeps_fold_map f g h p q r (x ∷ xs) z w e = keeps_fold_map f g h p q r xs (f z (p x)) (g w (q x)) (h z (p x) w (q x) e (r x))

  module _ (k : Keeps A B R) where
    pub keeps_zero : R (A.of (whole 0)) (B.of (whole 0))
    keeps_zero = k.of (whole 0) zero_reduced

    pub keeps_one : R (A.of (whole 1)) (B.of (whole 1))
    keeps_one = k.of (whole 1) one_reduced

    pub keeps_product : (xs : List A.Number) (us : List B.Number) → RelatedLists R xs us → R (product_all A xs) (product_all B us)
    keeps_product xs us r = keeps_fold A.product B.product k.product xs us r (A.of (whole 1)) (B.of (whole 1)) keeps_one

    pub keeps_term : (t : Term A.Number) (s : Term B.Number) → RelatedTerms R t s → (z : A.Number) (w : B.Number) → R z w → R (with_term A z t) (with_term B w s)
    keeps_term (add xs) (add us) r z w e = k.sum z (product_all A xs) w (product_all B us) e (keeps_product xs us r)
    keeps_term (add xs) (subtract us) r z w e = absurd r
    keeps_term (subtract xs) (add us) r z w e = absurd r
    keeps_term (subtract xs) (subtract us) r z w e = k.difference z (product_all A xs) w (product_all B us) e (keeps_product xs us r)

    pub keeps_terms : (ts : List (Term A.Number)) (ss : List (Term B.Number)) → RelatedLists (RelatedTerms R) ts ss → (z : A.Number) (w : B.Number) → R z w
        → R (fold (with_term A) z ts) (fold (with_term B) w ss)
    keeps_terms [] [] r z w e = e
    keeps_terms [] (s ∷ ss) r z w e = absurd r
    keeps_terms (t ∷ ts) [] r z w e = absurd r
    keeps_terms (t ∷ ts) (s ∷ ss) r z w e = keeps_terms ts ss r.1 (with_term A z t) (with_term B w s) (keeps_term t s r.0 z w e)

    pub keeps_written_sum : (ts : List (Term A.Number)) (ss : List (Term B.Number)) → RelatedLists (RelatedTerms R) ts ss → R (written_sum A ts) (written_sum B ss)
    keeps_written_sum ts ss r = keeps_terms ts ss r (A.of (whole 0)) (B.of (whole 0)) keeps_zero

-- ---- the checked numbers agree with the exact ones
agrees_cond : (b : Bool) (x v : Fraction) → IsReduced x → SameFraction x v → Agrees (coef_of (cond b (Some x) None)) v
agrees_cond true x v r s = (r, s)
agrees_cond false x v r s = tt

same_from : {x y : Fraction} → IsReduced x → 0 < y.bottom → x.top *ℤ pos y.bottom ≡ y.top *ℤ pos x.bottom → SameFraction x y
same_from r h e = record { left = r.positive; right = h; cross = e }

sum_agrees : (x y u v : Fraction) → IsReduced x → SameFraction x u → IsReduced y → SameFraction y v → Agrees (coef_of (checked_sum x y)) (sum_of u v)
sum_agrees x y u v rx sx ry sy =
    agrees_cond _ (sum_reduced x y) (sum_of u v) (sum_is_reduced x y rx ry)
    (same_trans (same_from (sum_is_reduced x y rx ry) (mul-pos rx.positive ry.positive) (sum_is_same x y rx ry)) (sum_same sx sy))

product_agrees : (x y u v : Fraction) → IsReduced x → SameFraction x u → IsReduced y → SameFraction y v → Agrees (coef_of (checked_product x y)) (product_of u v)
product_agrees x y u v rx sx ry sy =
    agrees_cond _ (product_reduced x y) (product_of u v) (product_is_reduced x y rx ry)
    (same_trans (same_from (product_is_reduced x y rx ry) (mul-pos rx.positive ry.positive) (product_is_same x y rx ry)) (product_same sx sy))

strict_agrees : (f : Fraction → Fraction → Option Fraction) (g : Fraction → Fraction → Fraction)
    → ((x y u v : Fraction) → IsReduced x → SameFraction x u → IsReduced y → SameFraction y v → Agrees (coef_of (f x y)) (g u v))
    → (x y : Coef) (u v : Fraction) → Agrees x u → Agrees y v → Agrees (strict f x y) (g u v)
strict_agrees f g h Overflow y u v p q = tt
strict_agrees f g h (Value x) Overflow u v p q = tt
strict_agrees f g h (Value x) (Value y) u v p q = h x y u v p.0 p.1 q.0 q.1

opposite_agrees : (x : Coef) (u : Fraction) → Agrees x u → Agrees (opposite_coef x) (opposite_of u)
opposite_agrees Overflow u h = tt
opposite_agrees (Value x) u h = (opposite_is_reduced x h.0, opposite_same h.1)

pub checked_agrees : Keeps checked exactly Agrees
checked_agrees = record {
  of = λ x r. (r, same_refl x r.positive);
  opposite = opposite_agrees;
  sum = strict_agrees checked_sum sum_of sum_agrees;
  difference = strict_agrees checked_difference difference_of (λ x y u v rx sx ry sy. sum_agrees x (opposite_of y) u (opposite_of v) rx sx (opposite_is_reduced y ry) (opposite_same sy));
  product = strict_agrees checked_product product_of product_agrees;
  quotient = strict_agrees checked_quotient quotient_of (λ x y u v rx sx ry sy. product_agrees x (reciprocal_of y) u (reciprocal_of v) rx sx (reciprocal_is_reduced y ry) (reciprocal_same sy));
}

-- ---- the laws
pub written_sum_law : WrittenSumLaw
written_sum_law = keeps_written_sum checked exactly Agrees checked_agrees

values_agree : (xs : List Fraction) → AllReduced xs → RelatedLists Agrees (map Value xs) xs
values_agree [] h = tt
values_agree (x ∷ xs) h = ((h.0, same_refl x h.0.positive), values_agree xs h.1)

term_agrees : (t : Term Fraction) → AllReduced (factors_of t) → RelatedTerms Agrees (checked_term t) t
term_agrees (add xs) h = values_agree xs h
term_agrees (subtract xs) h = values_agree xs h

terms_agree : (ts : List (Term Fraction)) → AllTermsReduced ts → RelatedLists (RelatedTerms Agrees) (map checked_term ts) ts
terms_agree [] h = tt
terms_agree (t ∷ ts) h = (term_agrees t h.0, terms_agree ts h.1)

pub sum_of_products_law : SumOfProductsLaw
sum_of_products_law terms x h e = subst (λ c. Agrees c (written_sum exactly terms)) e (written_sum_law (map checked_term terms) terms (terms_agree terms h))
