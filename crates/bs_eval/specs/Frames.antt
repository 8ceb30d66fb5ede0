-- Values in the making.
--
--   pair_of f         == the series and the tree of a frame
--   wanted_pair cs w  == the series and the tree of a pair by number
--   steps_at es f     == the steps of its plan
--   factors_at es f   == the factors of the step at its place, none behind the last
--   awaited f         == the first factor whose value is not known yet
--   extended x o v    == a product of the first values of a term with one more value; of a divisor the value itself
--   IsFactorOf es p f == the factor is the series of the pair at its tree, or that with the sign of the tree's order
--   HasFactor es fs k p == so is the factor at this place
--   IsReady s         == each factor of a step has the colours of its tree, and a divisor is one factor
--   IsPlanned es id code == the id is one of the book, its series has a plan, and the steps of it at the tree are ready, and not many
--   HasCome tables es r f == after a step of a frame: it awaits a value, or has come to its own
--   IsOn tables es f  == the steps that are left bring the frame's sum to the written value of its pair, and its product is that of
--                        the values of the first factors
--   Awaits es f p     == the frame awaits the value of a pair that is looked up
--   IsAwaited es cs f w == the same of a pair by number
--   IsPlaced es m f   == the frame's numbers stand for its tree and the leaf, and the rows of its plan are made
--
-- Source: this project.
use Rattle.std.specs.Prelude.{◌≡◌, ℕ, ◌<◌, ◌≤◌, ◌⊎◌, ◌^◌, List, [], take, drop, length, Option, Some, None, slice_get}
use Rattle.std.specs.List.{AllByRecursion}
use Rattle.bs_frac.specs.Written.{checked}
use Rattle.bs_frac.specs.declared.coef.Coef.{Coef}
use Rattle.bs_tableau.specs.Table.{Table}
use Rattle.bs_series.specs.Series.{Series}
use Rattle.bs_series.specs.Plan.{Factor, at, turned, HasPlan}
use Rattle.bs_series.specs.SeriesCode.{Code, written_at}
use Rattle.bs_series.specs.Expressions.{series_at}
use Rattle.bs_eval.specs.Steps.{Step, values, carried, so_far}
use Rattle.bs_eval.specs.Pairs.{IsPair, value_at_pair}
use Rattle.bs_eval.specs.Terms.{steps_of, code_at, StepFits, IsSpot}
use Rattle.bs_eval.specs.declared.factor.Wanted.{Wanted}
use Rattle.bs_eval.specs.declared.term.Operation.{Operation}
use Rattle.bs_eval.specs.declared.term.Operation.TheVariants.{Add, Subtract, Divide}
use Rattle.bs_eval.specs.declared.pair.Pair.{Pair}
use Rattle.bs_eval.specs.declared.frame.Frame.{Frame}
use Rattle.bs_eval.specs.declared.memory.Memory.{Memory}

abbrev pub pair_of : Frame → Pair
pair_of f = record { series = f.spot.series; code = f.code }

abbrev pub wanted_pair : List Code → Wanted → Pair
wanted_pair cs w = record { series = w.series; code = code_at cs w.tree }

abbrev pub steps_at : List Series → Frame → List Step
steps_at es f = steps_of (series_at es f.spot.series) f.code

abbrev pub step_factors : Option Step → List (Factor Code)
step_factors None = []
step_factors (Some s) = s.factors

abbrev pub factors_at : List Series → Frame → List (Factor Code)
factors_at es f = step_factors (slice_get (steps_at es f) f.place)

abbrev pub awaited : List Series → Frame → Option (Factor Code)
awaited es f = slice_get (factors_at es f) f.known

abbrev pub IsFactorOf : List Series → Pair → Factor Code → Type 0
IsFactorOf es p f = (f ≡ at (series_at es p.series) p.code) ⊎ (f ≡ turned (series_at es p.series) p.code)

pub record HasFactor (es : List Series) (fs : List (Factor Code)) (k : ℕ) (p : Pair) : Type 0 where
  pub factor : Factor Code
  pub is : slice_get fs k ≡ Some factor
  pub of : IsFactorOf es p factor

-- ---- products
abbrev pub extended : Coef → Operation → Coef → Coef
extended x Add v = checked.product x v
extended x Subtract v = checked.product x v
extended x Divide v = v

-- the values of the first factors of the step at hand, where there is one
abbrev pub ProductIs : List Table → List Series → Coef → ℕ → Option Step → Type 0
ProductIs tables es x known None = Unit {0}
ProductIs tables es x known (Some s) = (known ≤ length s.factors) × (x ≡ so_far s.operation (take known (values (written_at tables) s.factors)))

pub record IsOn (tables : List Table) (es : List Series) (f : Frame) : Type 0 where
  pub comes_to : carried (written_at tables) f.sum (drop f.place (steps_at es f)) ≡ value_at_pair tables es (pair_of f)
  pub product : ProductIs tables es f.product f.known (slice_get (steps_at es f) f.place)

-- ---- the steps of a plan
abbrev pub IsAlone : Operation → List (Factor Code) → Type 0
IsAlone Add fs = Unit {0}
IsAlone Subtract fs = Unit {0}
IsAlone Divide fs = length fs ≡ 1

pub record IsReady (s : Step) : Type 0 where
  pub fits : StepFits s
  pub divisor : IsAlone s.operation s.factors

pub record IsPlanned (es : List Series) (id : ℕ) (code : Code) : Type 0 where
  pub in_book : id < length es
  pub planned : HasPlan (series_at es id)
  pub ready : AllByRecursion IsReady (steps_of (series_at es id) code)
  pub few : length (steps_of (series_at es id) code) < 2 ^ 20

-- ---- after a step of a frame
abbrev pub HasCome : List Table → List Series → Option Wanted → Frame → Type 0
HasCome tables es None f = f.sum ≡ value_at_pair tables es (pair_of f)
HasCome tables es (Some w) f = IsOn tables es f

pub record Awaits (es : List Series) (f : Frame) (p : Pair) : Type 0 where
  pub frame : IsPlanned es f.spot.series f.code
  pub pair : IsPair es p
  pub factor : HasFactor es (factors_at es f) f.known p

pub record IsAwaited (es : List Series) (cs : List Code) (f : Frame) (w : Wanted) : Type 0 where
  pub number : w.tree < length cs
  pub awaits : Awaits es f (wanted_pair cs w)

abbrev pub IsPlaced : List Series → Memory → Frame → Type 0
IsPlaced es m f = IsSpot es m.trees f.spot f.code
