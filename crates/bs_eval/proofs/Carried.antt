-- The steps of a plan, carried out, come to its value.
use Rattle.std.proofs.Common.{◌≡◌, ℕ, zero, suc, ◌<◌, List, [], ◌∷◌, ◌++◌, map, length, Option, Some, None, cond, false, Bool, ℤ, pos, negsuc, fold, refl, sym, ◌∙◌, ap}
use Rattle.bs_frac.specs.Fraction.{whole}
use Rattle.bs_frac.specs.Written.{Term, add, subtract, checked, with_term, written_sum, IsZero}
use Rattle.bs_frac.specs.declared.coef.Coef.{Coef}
use Rattle.bs_frac.specs.declared.coef.Coef.TheVariants.{Value, Overflow}
use Rattle.bs_tableau.specs.Table.{Table}
use Rattle.bs_series.specs.Series.{Series, exact, identity, average, method, compose, inverse, adjoint, substitute, modified, modifying, scale}
use Rattle.bs_series.specs.Plan.{Factor, Plan, HasPlan, term_map}
use Rattle.bs_series.specs.SeriesCode.{Code, factor_at, divided_at, carried_out_at, written_at, plan_at}
use Rattle.bs_series.specs.Accepted.{IsSuitable, Suits}
use Rattle.bs_series.specs.Expressions.{series_at}
use Rattle.bs_series.proofs.Planned.{planned_at}
use Rattle.bs_eval.specs.Steps.{Step, plan_steps, term_step, divisor_steps, carried, is_zero, is_nought, over}
use Rattle.bs_eval.proofs.Lists.{all_at}

not_nought : (z : ℤ) → ¬ (z ≡ pos 0) → is_nought z ≡ false
not_nought (pos zero) h = absurd (h refl)
not_nought (pos (suc n)) h = refl
not_nought (negsuc n) h = refl

pub not_zero : (v : Coef) → ¬ IsZero v → is_zero v ≡ false
not_zero (Value x) h = not_nought x.top h
not_zero Overflow h = refl

pub over_is : (v z : Coef) → ¬ IsZero v → over v z ≡ checked.quotient z v
over_is v z h = ap (λ (b : Bool). cond b Overflow (checked.quotient z v)) (not_zero v h)

module _ (look : Series → Code → Coef) where
  abbrev pub DivisorFits : Option (Factor Code) → Type 0
  DivisorFits None = Unit {0}
  DivisorFits (Some f) = ¬ IsZero (factor_at checked look f)

  divided : (z : Coef) (d : Option (Factor Code)) → DivisorFits d → carried look z (divisor_steps d) ≡ divided_at checked look z d
  divided z None h = refl
  divided z (Some f) h = over_is (factor_at checked look f) z h

  terms : (ts : List (Term (Factor Code))) (ds : List Step) (z : Coef)
      → carried look z (map term_step ts ++ ds) ≡ carried look (fold (with_term checked) z (map (term_map (factor_at checked look)) ts)) ds
  terms [] ds z = refl
  terms (add fs ∷ ts) ds z = terms ts ds (with_term checked z (add (map (factor_at checked look) fs)))
  terms (subtract fs ∷ ts) ds z = terms ts ds (with_term checked z (subtract (map (factor_at checked look) fs)))

  pub carried_plan : (p : Plan Code) → DivisorFits p.divisor → carried look (Value (whole 0)) (plan_steps p) ≡ carried_out_at checked look p
  carried_plan p h = terms p.terms (divisor_steps p.divisor) (Value (whole 0)) ∙ divided (written_sum checked (map (term_map (factor_at checked look)) p.terms)) p.divisor h

-- ---- of a series that suits its tableaux
divisor_fits : (tables : List Table) (s : Series) (code : Code) → IsSuitable tables s → DivisorFits (written_at tables) (plan_at s code).divisor
divisor_fits tables (exact k) code h = tt
divisor_fits tables (identity k) code h = tt
divisor_fits tables (average k) code h = tt
divisor_fits tables (method n k) code h = tt
divisor_fits tables (compose a b) code h = tt
divisor_fits tables (inverse a) code h = tt
divisor_fits tables (adjoint a) code h = tt
divisor_fits tables (substitute b a) code h = tt
divisor_fits tables (modified a) code h = tt
divisor_fits tables (modifying a) code h = h.solvable
divisor_fits tables (scale a c) code h = tt

pub plan_comes : (tables : List Table) (es : List Series) (i : ℕ) (code : Code) → Suits tables es → i < length es → HasPlan (series_at es i)
    → carried (written_at tables) (Value (whole 0)) (plan_steps (plan_at (series_at es i) code)) ≡ written_at tables (series_at es i) code
plan_comes tables es i code suits h p =
    carried_plan (written_at tables) (plan_at (series_at es i) code) (divisor_fits tables (series_at es i) code (all_at (IsSuitable tables) es i (exact 0) suits h))
    ∙ sym (planned_at tables (series_at es i) p code)
