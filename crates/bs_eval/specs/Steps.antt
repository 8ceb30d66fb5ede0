-- A plan as the steps that its sum goes through.
--
--   Step               == an operation on the sum and the factors of its term
--   plan_steps p       == the terms of a plan, added or subtracted, and then its divisor
--   values look fs     == the values of factors, `look` giving those of series at trees
--   applied z o vs     == z with the product of vs added or subtracted, or z divided by the only value
--   carried look z steps == z with each step applied in turn
--   over v z           == z divided by v, Overflow where v is 0
--   so_far o vs        == the product of the first values of a term, 1 of none; of a divisor the value itself
--   brought z o x      == z with such a product added or subtracted, or divided by it
--
-- Source: this project. Division by 0 has a value here so that every step has one; no plan of a series that suits its tableaux divides by 0.
use Rattle.std.specs.Prelude.{zero, suc, List, [], ◌∷◌, ◌++◌, map, Option, Some, None, Bool, true, false, cond, fold, ℤ, pos, negsuc}
use Rattle.bs_frac.specs.Written.{Term, add, subtract, checked, product_all}
use Rattle.bs_frac.specs.declared.coef.Coef.{Coef}
use Rattle.bs_frac.specs.declared.coef.Coef.TheVariants.{Value, Overflow}
use Rattle.bs_series.specs.Series.{Series}
use Rattle.bs_series.specs.Plan.{Factor, fixed, at, turned, Plan}
use Rattle.bs_series.specs.SeriesCode.{Code, factor_at}
use Rattle.bs_eval.specs.declared.term.Operation.{Operation}
use Rattle.bs_eval.specs.declared.term.Operation.TheVariants.{Add, Subtract, Divide}

pub record Step : Type 0 where
  pub operation : Operation
  pub factors : List (Factor Code)

-- ---- of a plan
abbrev pub term_step : Term (Factor Code) → Step
term_step (add fs) = record { operation = Add; factors = fs }
term_step (subtract fs) = record { operation = Subtract; factors = fs }

abbrev pub divisor_steps : Option (Factor Code) → List Step
divisor_steps None = []
divisor_steps (Some f) = record { operation = Divide; factors = f ∷ [] } ∷ []

abbrev pub plan_steps : Plan Code → List Step
plan_steps p = map term_step p.terms ++ divisor_steps p.divisor

-- ---- carried out
abbrev pub is_nought : ℤ → Bool
is_nought (pos zero) = true
is_nought (pos (suc n)) = false
is_nought (negsuc n) = false

abbrev pub is_zero : Coef → Bool
is_zero (Value x) = is_nought x.top
is_zero Overflow = false

abbrev pub over : Coef → Coef → Coef
over v z = cond (is_zero v) Overflow (checked.quotient z v)

abbrev pub applied : Coef → Operation → List Coef → Coef
applied z Add vs = checked.sum z (product_all checked vs)
applied z Subtract vs = checked.difference z (product_all checked vs)
applied z Divide [] = Overflow
applied z Divide (v ∷ vs) = over v z

abbrev pub values : (Series → Code → Coef) → List (Factor Code) → List Coef
values look fs = map (factor_at checked look) fs

abbrev pub with_step : (Series → Code → Coef) → Coef → Step → Coef
with_step look z s = applied z s.operation (values look s.factors)

abbrev pub carried : (Series → Code → Coef) → Coef → List Step → Coef
carried look z steps = fold (with_step look) z steps

-- ---- one value after another
abbrev pub so_far : Operation → List Coef → Coef
so_far Add vs = product_all checked vs
so_far Subtract vs = product_all checked vs
so_far Divide [] = product_all checked []
so_far Divide (v ∷ vs) = v

abbrev pub brought : Coef → Operation → Coef → Coef
brought z Add x = checked.sum z x
brought z Subtract x = checked.difference z x
brought z Divide x = over x z
