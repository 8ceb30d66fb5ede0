-- The steps of a plan from the rows of its tree.
--
--   cut_factor es r code     == the factor at a tree that is cut off
--   whole_step es r code     == the step of the splitting that keeps nothing
--   split_step es r codes    == the step of a row of a splitting: what is kept, and the trees that are cut off
--   split_steps es r code lists == the steps of the splitting that keeps nothing, and of rows
--   outer_in es o            == the series at a skeleton; the exact flow where none is named
--   part_step es r codes     == the step of a row of a partition: the skeleton, and the parts
--   single_step o f          == the step of one factor
--   IsTermAt es cs steps place t == t stands for the step at this place; None behind the last
--   SplitRuleIn n r, PartRuleIn n r == each id in them is below n
--   codes_at cs rows         == the codes of rows of numbers
--   AreIn m rows             == the rows have some number each, all below m
--   adding kept empty cut, subtracting own cut signed == the rules of a composition, and of an inverse or an adjoint
--   every inner outer, later outer own == the rules of a substitution, and of a modified or a modifying series
--   powers_step s by code    == the step of a scaling
--
-- Source: this project.
use Rattle.std.specs.Prelude.{◌≡◌, ℕ, ◌<◌, ◌≤◌, List, [], ◌∷◌, map, length, replicate, Option, Some, None, Bool, true, false, cond, slice_get, MatchOption}
use Rattle.std.specs.List.{AllByRecursion}
use Rattle.bs_frac.specs.Fraction.{Fraction, whole}
use Rattle.bs_series.specs.Series.{Series, exact}
use Rattle.bs_series.specs.Plan.{Factor, fixed, at, turned}
use Rattle.bs_series.specs.SeriesCode.{Code}
use Rattle.bs_series.specs.Expressions.{series_at}
use Rattle.bs_eval.specs.Steps.{Step}
use Rattle.bs_eval.specs.Terms.{code_at, step_in}
use Rattle.bs_eval.specs.declared.term.Operation.{Operation}
use Rattle.bs_eval.specs.declared.term.Operation.TheVariants.{Add, Subtract}
use Rattle.bs_eval.specs.declared.term.Term.{Term}
use Rattle.bs_eval.specs.declared.plan.SplitRule.{SplitRule}
use Rattle.bs_eval.specs.declared.plan.PartRule.{PartRule}

-- ---- splittings
abbrev pub cut_factor : List Series → SplitRule → Code → Factor Code
cut_factor es r code = cond r.turned (turned (series_at es r.cut) code) (at (series_at es r.cut) code)

abbrev pub whole_step : List Series → SplitRule → Code → Step
whole_step es r code = record { operation = r.operation; factors = fixed r.empty ∷ cut_factor es r code ∷ [] }

abbrev pub split_step : List Series → SplitRule → List Code → Step
split_step es r [] = record { operation = r.operation; factors = [] }
split_step es r (code ∷ codes) = record { operation = r.operation; factors = at (series_at es r.kept) code ∷ map (cut_factor es r) codes }

abbrev pub split_steps : List Series → SplitRule → Code → List (List Code) → List Step
split_steps es r code lists = whole_step es r code ∷ map (split_step es r) lists

abbrev pub adding : ℕ → Fraction → ℕ → SplitRule
adding kept empty cut = record { operation = Add; kept = kept; empty = empty; cut = cut; turned = false }

abbrev pub subtracting : ℕ → ℕ → Bool → SplitRule
subtracting own cut signed = record { operation = Subtract; kept = own; empty = whole 1; cut = cut; turned = signed }

-- ---- partitions
abbrev pub outer_in : List Series → Option ℕ → Series
outer_in es None = exact 1
outer_in es (Some id) = series_at es id

abbrev pub part_step : List Series → PartRule → List Code → Step
part_step es r [] = record { operation = r.operation; factors = [] }
part_step es r (code ∷ codes) = record { operation = r.operation; factors = at (outer_in es r.outer) code ∷ map (at (series_at es r.inner)) codes }

abbrev pub single_step : Operation → Factor Code → Step
single_step o f = record { operation = o; factors = f ∷ [] }

abbrev pub every : ℕ → ℕ → PartRule
every inner outer = record { operation = Add; outer = Some outer; inner = inner }

abbrev pub later : Option ℕ → ℕ → PartRule
later outer own = record { operation = Subtract; outer = outer; inner = own }

abbrev pub powers_step : Series → Fraction → Code → Step
powers_step s by code = record { operation = Add; factors = at s code ∷ replicate (length code) (fixed by) }

-- ---- by places
abbrev pub IsTermAt : List Series → List Code → List Step → ℕ → Option Term → Type 0
IsTermAt es cs steps place t = MatchOption t (length steps ≤ place) (λ term. slice_get steps place ≡ Some (step_in es cs term))

-- ---- ids of the book and numbers of trees
pub record SplitRuleIn (n : ℕ) (r : SplitRule) : Type 0 where
  pub kept : r.kept < n
  pub cut : r.cut < n

abbrev pub OuterIn : ℕ → Option ℕ → Type 0
OuterIn n None = Unit {0}
OuterIn n (Some id) = id < n

pub record PartRuleIn (n : ℕ) (r : PartRule) : Type 0 where
  pub outer : OuterIn n r.outer
  pub inner : r.inner < n

abbrev pub codes_at : List Code → List (List ℕ) → List (List Code)
codes_at cs rows = map (map (code_at cs)) rows

pub record IsRowIn (m : ℕ) (row : List ℕ) : Type 0 where
  pub some : 0 < length row
  pub below : AllByRecursion (λ n. n < m) row

abbrev pub AreIn : ℕ → List (List ℕ) → Type 0
AreIn m rows = AllByRecursion (IsRowIn m) rows
