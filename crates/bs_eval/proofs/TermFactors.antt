-- The factors of a term by their places, and values with a sign.
use Rattle.std.proofs.Common.{◌≡◌, ℕ, zero, suc, ◌+◌, ◌-◌, ◌*◌, ◌/◌, ◌%◌, ◌<◌, ◌≤◌, List, [], ◌∷◌, map, replicate, length, Option, Some, None, IfSome, slice_get, refl, sym, ◌∙◌, ap, subst, arith, ℤ, pos, negsuc}
use Rattle.bs_frac.specs.Written.{checked, opposite_coef}
use Rattle.bs_frac.specs.Fraction.{Fraction}
use Rattle.bs_frac.specs.declared.coef.Coef.{Coef}
use Rattle.bs_frac.specs.declared.coef.Coef.TheVariants.{Value, Overflow}
use Rattle.bs_series.specs.Series.{Series}
use Rattle.bs_series.specs.Value.{signed_by}
use Rattle.bs_series.specs.Plan.{Factor, fixed, at, turned}
use Rattle.bs_series.specs.SeriesCode.{Code, factor_at, written_at}
use Rattle.bs_tableau.specs.Table.{Table}
use Rattle.bs_eval.specs.Values.{IsValue}
use Rattle.bs_series.specs.Expressions.{series_at}
use Rattle.bs_eval.specs.Terms.{code_at, rest_in, RestIn}
use Rattle.bs_eval.specs.declared.term.Rest.{Rest}
use Rattle.bs_eval.specs.declared.term.Rest.TheVariants as rest
use Rattle.bs_eval.proofs.Rows.{mapped_at, all_of}

behind : {X : Type 0} (x y : X) (xs : List X) (place p : ℕ) → place ≡ suc p → slice_get xs p ≡ Some y → slice_get (x ∷ xs) place ≡ Some y
behind x y xs place p e h = subst (λ q. slice_get (x ∷ xs) q ≡ Some y) (sym e) h

replicate_at : {X : Type 0} (n p : ℕ) (x : X) → p < n → slice_get (replicate n x) p ≡ Some x
replicate_at zero p x l = absurd (omega (arith, l))
replicate_at (suc n) zero x l = refl
replicate_at (suc n) (suc p) x l = replicate_at n p x (omega (arith, l))

module _ (es : List Series) (cs : List Code) (first : Factor Code) (id : ℕ) (place p n : ℕ) (e : place ≡ suc p) where
  pub each_factor : (r : Rest) (ns : _) → r ≡ rest.Each id ns → slice_get ns.now p ≡ Some n → slice_get (first ∷ rest_in es cs r) place ≡ Some (at (series_at es id) (code_at cs n))
  each_factor r ns is h =
      subst (λ (x : Rest). slice_get (first ∷ rest_in es cs x) place ≡ Some (at (series_at es id) (code_at cs n))) (sym is)
      (behind first _ _ place p e (mapped_at (λ k. at (series_at es id) (code_at cs k)) ns.now p n h))

  pub turned_factor : (r : Rest) (ns : _) → r ≡ rest.Turned id ns → slice_get ns.now p ≡ Some n → slice_get (first ∷ rest_in es cs r) place ≡ Some (turned (series_at es id) (code_at cs n))
  turned_factor r ns is h =
      subst (λ (x : Rest). slice_get (first ∷ rest_in es cs x) place ≡ Some (turned (series_at es id) (code_at cs n))) (sym is)
      (behind first _ _ place p e (mapped_at (λ k. turned (series_at es id) (code_at cs k)) ns.now p n h))

pub power_factor : (es : List Series) (cs : List Code) (first : Factor Code) (by : Fraction) (count place : ℕ) (r : Rest) → 0 < place → place < suc count → r ≡ rest.Powers by count
    → slice_get (first ∷ rest_in es cs r) place ≡ Some (fixed by)
power_factor es cs first by count place r l m is =
    let e : place ≡ suc (place - 1) = omega (arith, l) in
    subst (λ (x : Rest). slice_get (first ∷ rest_in es cs x) place ≡ Some (fixed by)) (sym is)
    (behind first (fixed by) _ place (place - 1) e (replicate_at count (place - 1) (fixed by) (omega (arith, l, m))))

pub each_in : (n m : ℕ) (r : Rest) (id p x : ℕ) (ns : _) → r ≡ rest.Each id ns → slice_get ns.now p ≡ Some x → RestIn n m r → (id < n) × (x < m)
each_in n m r id p x ns is h i = let j : RestIn n m (rest.Each id ns) = subst (RestIn n m) is i in (j.0, all_of (λ t. t < m) ns.now p x j.1 h)

pub turned_in : (n m : ℕ) (r : Rest) (id p x : ℕ) (ns : _) → r ≡ rest.Turned id ns → slice_get ns.now p ≡ Some x → RestIn n m r → (id < n) × (x < m)
turned_in n m r id p x ns is h i = let j : RestIn n m (rest.Turned id ns) = subst (RestIn n m) is i in (j.0, all_of (λ t. t < m) ns.now p x j.1 h)

-- ---- the value of a factor, where that of its series at its tree is there
module _ {R : Type 0} (now : R → Coef) (tables : List Table) (es : List Series) (cs : List Code) (first : Factor Code) (id : ℕ) (place p n : ℕ) (e : place ≡ suc p) where
  pub each_value : (r : Rest) (ns : _) → r ≡ rest.Each id ns → slice_get ns.now p ≡ Some n → (o : Option R) → IfSome o (λ v. IsValue tables es cs id n (now v))
      → (factor : Factor Code) → slice_get (first ∷ rest_in es cs r) place ≡ Some factor → IfSome o (λ v. now v ≡ factor_at checked (written_at tables) factor)
  each_value r ns is h None value factor at-place = tt
  each_value r ns is h (Some v) value factor at-place =
      let same : Some (at (series_at es id) (code_at cs n)) ≡ Some factor = sym (each_factor es cs first id place p n e r ns is h) ∙ at-place in
      let z : at (series_at es id) (code_at cs n) ≡ factor = cc in
      value.value ∙ ap (factor_at checked (written_at tables)) z
