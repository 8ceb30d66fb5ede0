-- Laws of series. Each is the contract of a function of the module `laws`.
--
--   WrittenIsValue      == a written value that is no Overflow is reduced, and the same fraction as the value
--   HasReducedFactors s == each factor of a scaling in the expression is a reduced fraction
--   InverseLaw          == the composition of a with its inverse is the identity, and with no other series of empty value 1
--   ModifiedLaw         == the modified series of a, put into the exact flow, gives a, and no other of empty value 0 does
--   ModifyingLaw        == where a(leaf) is not 0, the modifying series of a, put into a, gives the exact flow, and no other
--                          of empty value 0 does
--   DivisorLaw          == where a written value of a modifying series is no Overflow, and its series is not written as 0 at
--                          the leaf, the value of its series at the leaf is not 0
--   AdjointLaw          == the adjoint is (-1)^|t| times the inverse at t; so is its written value, with Overflow at the same trees
--   PlannedLaw          == a written value is its plan carried out over written values; so is a value
--   PlannedAtLaw        == the same by codes
--   BelowLaw            == each factor of a plan is a smaller expression, or the same one at a smaller tree
--   ColoursLaw          == where the colours of a series fit, and its tree has only its colours, so it is with each factor of its plan
--
--   AverageLaw          == the coefficient of the average vector field method is 1 over the product, over all nodes, of one more
--                          than the number of their children; at a tree of at most MAX_NODES nodes its written value is that
--                          fraction, so no number on the way is an Overflow
--
--   IsMap a             == a gives each tree a fraction of positive denominator
--   AgreeTo n x y       == x and y have the same fraction at each canonical tree of at most n nodes
--   IsOnlySolution equation a x == for every n: the equation has a as its value at x to order n, and each map for which it
--                          has agrees with x to order n
--
--   IsInvariant a       == a gives isomorphic trees the same fraction
--   AgreeEverywhere n x y == x and y have the same fraction at each tree of at most n nodes
--   IsOnlySolutionEverywhere equation a x == the same at every tree, canonical or not: the equation has a as its value at x, x gives
--                          isomorphic trees the same fraction, and each such map for which the equation holds agrees with x
--   InverseEverywhere, ModifiedEverywhere, ModifyingEverywhere == the three laws above at every tree
--   ValuesAgreeOnIsomorphic == a series has the same value at isomorphic trees
--   SumsAgreeOnIsomorphic == compositions and substitutions of any maps have the same value at isomorphic trees
--
-- Source: Chartier, Hairer and Vilmart (2010), the group of B-series, modified and modifying equations; the rule on overflow
-- and the order of the terms are this project's.
use Rattle.std.specs.Prelude.{◌≡◌, ◌≢◌, ℕ, ◌<◌, ◌≤◌, List, IsTrue, pos}
use Rattle.std.specs.List.{AllByRecursion}
use Rattle.bs_frac.specs.Fraction.{Fraction, SameFraction, IsReduced, whole}
use Rattle.bs_frac.specs.Written.{exactly, checked, IsZero}
use Rattle.bs_frac.specs.declared.coef.Coef.TheVariants.{Value}
use Rattle.bs_tree.specs.Tree.{Tree, order}
use Rattle.bs_tree.specs.declared.TheConstants.{MAX_NODES}
use Rattle.bs_tree.specs.Isomorphic.{isomorphic}
use Rattle.bs_tree.specs.Code.{IsCode}
use Rattle.bs_tree.specs.SortingLaws.{IsCanonical}
use Rattle.bs_part.specs.Partition.{leaf}
use Rattle.bs_tableau.specs.Table.{Table, IsBegun}
use Rattle.bs_tableau.specs.Laws.{IfValue}
use Rattle.bs_series.specs.Series.{Series, exact, identity, average, method, compose, inverse, adjoint, substitute, modified, modifying, scale, colours_of}
use Rattle.bs_series.specs.Value.{composed, inverse_of, adjoint_of, signed_by, substituted, modified_of, modifying_of, exact_value, over_arities, average_value, value, written}
use Rattle.bs_series.specs.Plan.{HasPlan, plan, carried_out, plan_factors, BelowPlan}
use Rattle.bs_series.specs.SeriesCode.{Code, IsColouredCode, HasItsColours, written_at, plan_at, carried_out_at}
use Rattle.bs_series.specs.Accepted.{ColoursFit}

-- ---- written values
abbrev pub HasReducedFactors : Series → Type 0
HasReducedFactors (exact k) = Unit {0}
HasReducedFactors (identity k) = Unit {0}
HasReducedFactors (average k) = Unit {0}
HasReducedFactors (method n k) = Unit {0}
HasReducedFactors (compose a b) = HasReducedFactors a × HasReducedFactors b
HasReducedFactors (inverse a) = HasReducedFactors a
HasReducedFactors (adjoint a) = HasReducedFactors a
HasReducedFactors (substitute b a) = HasReducedFactors b × HasReducedFactors a
HasReducedFactors (modified a) = HasReducedFactors a
HasReducedFactors (modifying a) = HasReducedFactors a
HasReducedFactors (scale a c) = HasReducedFactors a × IsReduced c

abbrev pub WrittenIsValue : Type 0
WrittenIsValue = (tables : List Table) → AllByRecursion IsBegun tables → (s : Series) → HasReducedFactors s
    → (t : Tree) → IfValue (written tables s t) (λ x. IsReduced x × SameFraction x (value tables s t))

-- ---- equations of series
abbrev pub IsMap : (Tree → Fraction) → Type 0
IsMap a = (t : Tree) → 0 < (a t).bottom

abbrev pub AgreeTo : ℕ → (Tree → Fraction) → (Tree → Fraction) → Type 0
AgreeTo n x y = (t : Tree) → IsCanonical t → order t ≤ n → SameFraction (x t) (y t)

abbrev pub IsOnlySolution : ((Tree → Fraction) → Tree → Fraction) → (Tree → Fraction) → (Tree → Fraction) → Type 0
IsOnlySolution equation a x = (n : ℕ) → AgreeTo n (equation x) a × ((y : Tree → Fraction) → IsMap y → AgreeTo n (equation y) a → AgreeTo n y x)

abbrev pub zero_at : Tree → Fraction
zero_at t = whole 0

abbrev pub InverseLaw : Type 0
InverseLaw = (a : Tree → Fraction) → IsMap a → IsOnlySolution (λ x. composed exactly a (whole 1) x) zero_at (inverse_of exactly a)

abbrev pub ModifiedLaw : Type 0
ModifiedLaw = (a : Tree → Fraction) → IsMap a → IsOnlySolution (λ b. substituted exactly b exact_value) a (modified_of exactly a)

abbrev pub ModifyingLaw : Type 0
ModifyingLaw = (a : Tree → Fraction) → IsMap a → (a leaf).top ≢ pos 0 → IsOnlySolution (λ b. substituted exactly b a) exact_value (modifying_of exactly a)

abbrev pub DivisorLaw : Type 0
DivisorLaw = (tables : List Table) → AllByRecursion IsBegun tables → (a : Series) → HasReducedFactors a → ¬ IsZero (written tables a leaf)
    → (t : Tree) → IfValue (written tables (modifying a) t) (λ _. (value tables a leaf).top ≢ pos 0)

-- ---- at every tree
abbrev pub IsInvariant : (Tree → Fraction) → Type 0
IsInvariant a = (t u : Tree) → IsTrue (isomorphic t u) → SameFraction (a t) (a u)

abbrev pub AgreeEverywhere : ℕ → (Tree → Fraction) → (Tree → Fraction) → Type 0
AgreeEverywhere n x y = (t : Tree) → order t ≤ n → SameFraction (x t) (y t)

pub record IsOnlySolutionEverywhere (equation : (Tree → Fraction) → Tree → Fraction) (a x : Tree → Fraction) : Type 0 where
  pub invariant : IsInvariant x
  pub solves : (n : ℕ) → AgreeEverywhere n (equation x) a
  pub alone : (n : ℕ) (y : Tree → Fraction) → IsMap y → IsInvariant y → AgreeEverywhere n (equation y) a → AgreeEverywhere n y x

abbrev pub InverseEverywhere : Type 0
InverseEverywhere = (a : Tree → Fraction) → IsMap a → IsOnlySolutionEverywhere (λ x. composed exactly a (whole 1) x) zero_at (inverse_of exactly a)

abbrev pub ModifiedEverywhere : Type 0
ModifiedEverywhere = (a : Tree → Fraction) → IsMap a → IsInvariant a → IsOnlySolutionEverywhere (λ b. substituted exactly b exact_value) a (modified_of exactly a)

abbrev pub ModifyingEverywhere : Type 0
ModifyingEverywhere = (a : Tree → Fraction) → IsMap a → (a leaf).top ≢ pos 0 → IsOnlySolutionEverywhere (λ b. substituted exactly b a) exact_value (modifying_of exactly a)

pub record SumsAgreeOnIsomorphic : Type 0 where
  pub composed : (a b : Tree → Fraction) (e : Fraction) → IsMap a → IsMap b → 0 < e.bottom → IsInvariant (composed exactly a e b)
  pub substituted : (a b : Tree → Fraction) → IsMap a → IsMap b → IsInvariant (substituted exactly b a)

abbrev pub ValuesAgreeOnIsomorphic : Type 0
ValuesAgreeOnIsomorphic = (tables : List Table) → AllByRecursion IsBegun tables → (s : Series) → HasReducedFactors s → IsInvariant (value tables s)

-- ---- the adjoint
pub record AdjointLaw : Type 0 where
  pub exact : (a : Tree → Fraction) (t : Tree) → adjoint_of exactly a t ≡ signed_by exactly (order t) (inverse_of exactly a t)
  pub written : (tables : List Table) (a : Series) (t : Tree) → written tables (adjoint a) t ≡ signed_by checked (order t) (written tables (inverse a) t)

-- ---- the average vector field method
pub record AverageLaw : Type 0 where
  pub exact : (t : Tree) → average_value exactly t ≡ over_arities t
  pub written : (t : Tree) → order t ≤ MAX_NODES → average_value checked t ≡ Value (over_arities t)

-- ---- plans
pub record PlannedLaw : Type 0 where
  pub exact : (tables : List Table) (s : Series) → HasPlan s → (t : Tree) → value tables s t ≡ carried_out exactly (value tables) (plan s t)
  pub written : (tables : List Table) (s : Series) → HasPlan s → (t : Tree) → written tables s t ≡ carried_out checked (written tables) (plan s t)

abbrev pub PlannedAtLaw : Type 0
PlannedAtLaw = (tables : List Table) (s : Series) → HasPlan s → (code : Code) → written_at tables s code ≡ carried_out_at checked (written_at tables) (plan_at s code)

abbrev pub BelowLaw : Type 0
BelowLaw = (s : Series) (t : Tree) → BelowPlan s t

abbrev pub ColoursLaw : Type 0
ColoursLaw = (s : Series) (code : Code) → IsCode code → ColoursFit s → IsColouredCode (colours_of s) code → AllByRecursion HasItsColours (plan_factors (plan_at s code))
