-- Terms with the ids of a book for expressions, and numbers for trees.
--
--   code_at cs n       == the code with a number
--   factor_in es cs f  == the factor that the code's factor stands for, over the expressions of a book and the codes of a catalog
--   rest_in es cs r    == the factors behind the first one
--   step_in es cs t    == the step that the code's term stands for
--   term_length t      == the number of its factors
--   steps_of s code    == the steps of the plan of a series at a tree
--   wanted_in f        == the series and the tree of a factor, by id and number
--   FactorIn n m f, TermIn n m t == each id in them is below n, and each number of a tree below m
--   FactorFits es cs f, StepFits s == each series has coefficients at trees of its tree's colours
--   HasRows s shelf n  == the rows of the tree that the plan of the series goes over are made
--   IsSpot es shelf x code == x stands for the series of its id at the tree of the code, whose rows are made
--
-- Source: this project.
use Rattle.std.specs.Prelude.{◌≡◌, ℕ, suc, ◌<◌, List, [], ◌∷◌, map, length, replicate, Option, Some, None, slice_index_or}
use Rattle.std.specs.List.{AllByRecursion}
use Rattle.bs_tree.specs.Code.{IsCode}
use Rattle.bs_catalog.specs.Shelf.{Shelf, Numbers, HasSplits, HasParts}
use Rattle.bs_series.specs.Series.{Series, exact, identity, average, method, compose, inverse, adjoint, substitute, modified, modifying, scale}
use Rattle.bs_series.specs.Plan.{Factor, fixed, at, turned}
use Rattle.bs_series.specs.SeriesCode.{Code, HasItsColours, leaf_code, plan_at}
use Rattle.bs_series.specs.Expressions.{series_at}
use Rattle.bs_eval.specs.Steps.{Step, plan_steps}
use Rattle.bs_eval.specs.declared.factor.Factor.{Factor as CodeFactor}
use Rattle.bs_eval.specs.declared.factor.Factor.TheVariants as factor
use Rattle.bs_eval.specs.declared.factor.Wanted.{Wanted}
use Rattle.bs_eval.specs.declared.term.Rest.{Rest}
use Rattle.bs_eval.specs.declared.term.Rest.TheVariants as rest
use Rattle.bs_eval.specs.declared.term.Term.{Term}
use Rattle.bs_eval.specs.declared.plan.Spot.{Spot}

abbrev pub code_at : List Code → ℕ → Code
code_at cs n = slice_index_or cs n []

abbrev pub steps_of : Series → Code → List Step
steps_of s code = plan_steps (plan_at s code)

-- ---- what the code's factors and terms stand for
abbrev pub factor_in : List Series → List Code → CodeFactor → Factor Code
factor_in es cs (factor.Fixed v) = fixed v
factor_in es cs (factor.Flow n) = at (exact 1) (code_at cs n)
factor_in es cs (factor.At id n) = at (series_at es id) (code_at cs n)
factor_in es cs (factor.Turned id n) = turned (series_at es id) (code_at cs n)

abbrev pub rest_in : List Series → List Code → Rest → List (Factor Code)
rest_in es cs rest.Nothing = []
rest_in es cs (rest.One f) = factor_in es cs f ∷ []
rest_in es cs (rest.Each id ns) = map (λ n. at (series_at es id) (code_at cs n)) ns.now
rest_in es cs (rest.Turned id ns) = map (λ n. turned (series_at es id) (code_at cs n)) ns.now
rest_in es cs (rest.Powers by count) = replicate count (fixed by)

abbrev pub step_in : List Series → List Code → Term → Step
step_in es cs t = record { operation = t.operation; factors = factor_in es cs t.first ∷ rest_in es cs t.rest }

abbrev pub rest_length : Rest → ℕ
rest_length rest.Nothing = 0
rest_length (rest.One f) = 1
rest_length (rest.Each id ns) = length ns.now
rest_length (rest.Turned id ns) = length ns.now
rest_length (rest.Powers by count) = count

abbrev pub term_length : Term → ℕ
term_length t = suc (rest_length t.rest)

abbrev pub wanted_in : CodeFactor → Option Wanted
wanted_in (factor.Fixed v) = None
wanted_in (factor.Flow n) = None
wanted_in (factor.At id n) = Some (record { series = id; tree = n })
wanted_in (factor.Turned id n) = Some (record { series = id; tree = n })

-- ---- ids of the book and numbers of trees
abbrev pub FactorIn : ℕ → ℕ → CodeFactor → Type 0
FactorIn n m (factor.Fixed v) = Unit {0}
FactorIn n m (factor.Flow tree) = tree < m
FactorIn n m (factor.At id tree) = (id < n) × (tree < m)
FactorIn n m (factor.Turned id tree) = (id < n) × (tree < m)

abbrev pub RestIn : ℕ → ℕ → Rest → Type 0
RestIn n m rest.Nothing = Unit {0}
RestIn n m (rest.One f) = FactorIn n m f
RestIn n m (rest.Each id ns) = (id < n) × AllByRecursion (λ tree. tree < m) ns.now
RestIn n m (rest.Turned id ns) = (id < n) × AllByRecursion (λ tree. tree < m) ns.now
RestIn n m (rest.Powers by count) = Unit {0}

pub record TermIn (n m : ℕ) (t : Term) : Type 0 where
  pub first : FactorIn n m t.first
  pub behind : RestIn n m t.rest

-- ---- colours
abbrev pub FactorFits : List Series → List Code → CodeFactor → Type 0
FactorFits es cs f = HasItsColours (factor_in es cs f)

abbrev pub StepFits : Step → Type 0
StepFits s = AllByRecursion HasItsColours s.factors

-- ---- where a value is worked out
abbrev pub HasRows : Series → Shelf → ℕ → Type 0
HasRows (exact k) shelf n = Unit {0}
HasRows (identity k) shelf n = Unit {0}
HasRows (average k) shelf n = Unit {0}
HasRows (method t k) shelf n = Unit {0}
HasRows (compose a b) shelf n = HasSplits shelf n
HasRows (inverse a) shelf n = HasSplits shelf n
HasRows (adjoint a) shelf n = HasSplits shelf n
HasRows (substitute b a) shelf n = HasParts shelf n
HasRows (modified a) shelf n = HasParts shelf n
HasRows (modifying a) shelf n = HasParts shelf n
HasRows (scale a c) shelf n = Unit {0}

pub record IsSpot (es : List Series) (shelf : Shelf) (x : Spot) (code : Code) : Type 0 where
  pub coded : IsCode code
  pub tree : Numbers shelf.codes x.tree code
  pub leaf : Numbers shelf.codes x.leaf leaf_code
  pub rows : HasRows (series_at es x.series) shelf x.tree
