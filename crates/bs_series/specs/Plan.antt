-- The plan of a value: the terms that its written sum adds and subtracts, as data.
--
--   Factor T        == a factor: a fixed fraction; a series at a tree of type T; the same with the sign (-1)^|tree|
--   Plan T          == terms of factors, and the divisor of their sum, if it is divided
--   plan s t        == the plan of the value of s at t
--   HasPlan s       == the series is one that is looked up and is no method: all but exact, identity, average and method
--   factor_value A look f == the factor over the numbers A, where `look` gives the values of series at trees
--   carried_out A look p  == the written sum of the plan's terms, divided by its divisor
--   IsBelow s t s' t'     == the expression s' is smaller than s and the tree t' no larger than t, or s' is s and t' is smaller
--   OnFactor P f    == P of the series and the tree of the factor
--   plan_factors p  == all factors of a plan, its divisor last
--   BelowPlan s t   == each factor of the plan of s at t is below (s, t)
--
-- A method has no factors that are series: its plan is empty, and its value is its weight.
--
-- Source: this project, over the composition and substitution laws of Chartier, Hairer and Vilmart (2010).
-- The code takes the items of the walks over splittings and partitions one at a time.
use Rattle.std.specs.Prelude.{◌≡◌, ◌<◌, ◌≤◌, ◌⊎◌, List, [], ◌∷◌, ◌++◌, map, replicate, Option, Some, None}
use Rattle.std.specs.List.{flat_map, AllByRecursion}
use Rattle.bs_frac.specs.Fraction.{Fraction, whole}
use Rattle.bs_frac.specs.Written.{Arithmetic, Term, add, subtract, written_sum}
use Rattle.bs_tree.specs.Tree.{Tree, order}
use Rattle.bs_split.specs.Splitting.{Split, splits, init}
use Rattle.bs_part.specs.Partition.{Part, parts, leaf, tail}
use Rattle.bs_series.specs.Series.{Series, exact, identity, average, method, compose, inverse, adjoint, substitute, modified, modifying, scale, empty_value, size}
use Rattle.bs_series.specs.Value.{signed_by}

pub data Factor (T : Type 0) : Type 0 where
  fixed : Fraction → Factor T
  at : Series → T → Factor T
  turned : Series → T → Factor T

pub record Plan (T : Type 0) : Type 0 where
  pub terms : List (Term (Factor T))
  pub divisor : Option (Factor T)

-- ---- the factors of an item
abbrev pub kept_factor : Series → Fraction → Option Tree → Factor Tree
kept_factor b empty None = fixed empty
kept_factor b empty (Some t) = at b t

abbrev pub split_factors : Series → Fraction → Series → Split → List (Factor Tree)
split_factors a empty b s = kept_factor b empty s.kept ∷ map (at a) s.forest

abbrev pub turned_factors : Series → Series → Split → List (Factor Tree)
turned_factors a b s = kept_factor b (whole 1) s.kept ∷ map (turned a) s.forest

abbrev pub part_factors : Series → Series → Part → List (Factor Tree)
part_factors a b p = at a p.skeleton ∷ map (at b) p.parts

abbrev pub sum_alone : {T : Type 0} → List (Term (Factor T)) → Plan T
sum_alone terms = record { terms = terms; divisor = None }

abbrev pub plan : Series → Tree → Plan Tree
plan (exact k) t = sum_alone []
plan (identity k) t = sum_alone []
plan (average k) t = sum_alone []
plan (method n k) t = sum_alone []
plan (compose a b) t = sum_alone (map (λ s. add (split_factors a (empty_value b) b s)) (splits t))
plan (inverse a) t = sum_alone (map (λ s. subtract (split_factors a (whole 1) (inverse a) s)) (init (splits t)))
plan (adjoint a) t = sum_alone (map (λ s. subtract (turned_factors a (adjoint a) s)) (init (splits t)))
plan (substitute b a) t = sum_alone (map (λ p. add (part_factors a b p)) (parts t))
plan (modified a) t = sum_alone (add (at a t ∷ []) ∷ map (λ p. subtract (part_factors (exact 1) (modified a) p)) (tail (parts t)))
plan (modifying a) t = record {
  terms = add (at (exact 1) t ∷ []) ∷ map (λ p. subtract (part_factors a (modifying a) p)) (tail (parts t));
  divisor = Some (at a leaf);
}
plan (scale a c) t = sum_alone (add (at a t ∷ replicate (order t) (fixed c)) ∷ [])

abbrev pub HasPlan : Series → Type 0
HasPlan (exact k) = ⊥
HasPlan (identity k) = ⊥
HasPlan (average k) = ⊥
HasPlan (method n k) = ⊥
HasPlan (compose a b) = Unit {0}
HasPlan (inverse a) = Unit {0}
HasPlan (adjoint a) = Unit {0}
HasPlan (substitute b a) = Unit {0}
HasPlan (modified a) = Unit {0}
HasPlan (modifying a) = Unit {0}
HasPlan (scale a c) = Unit {0}

-- ---- carried out
abbrev pub term_map : {X Y : Type 0} → (X → Y) → Term X → Term Y
term_map f (add xs) = add (map f xs)
term_map f (subtract xs) = subtract (map f xs)

module _ (A : Arithmetic) (look : Series → Tree → A.Number) where
  abbrev pub factor_value : Factor Tree → A.Number
  factor_value (fixed c) = A.of c
  factor_value (at s t) = look s t
  factor_value (turned s t) = signed_by A (order t) (look s t)

  abbrev pub divided : A.Number → Option (Factor Tree) → A.Number
  divided z None = z
  divided z (Some f) = A.quotient z (factor_value f)

  abbrev pub carried_out : Plan Tree → A.Number
  carried_out p = divided (written_sum A (map (term_map factor_value) p.terms)) p.divisor

-- ---- a plan reads smaller expressions, or its own at smaller trees
abbrev pub IsBelow : Series → Tree → Series → Tree → Type 0
IsBelow s t s' t' = ((size s' < size s) × (order t' ≤ order t)) ⊎ ((s' ≡ s) × (order t' < order t))

abbrev pub OnFactor : {T : Type 0} → (Series → T → Type 0) → Factor T → Type 0
OnFactor P (fixed c) = Unit {0}
OnFactor P (at s t) = P s t
OnFactor P (turned s t) = P s t

abbrev pub term_factors : {X : Type 0} → Term X → List X
term_factors (add fs) = fs
term_factors (subtract fs) = fs

abbrev pub divisor_factors : {X : Type 0} → Option X → List X
divisor_factors None = []
divisor_factors (Some f) = f ∷ []

abbrev pub plan_factors : {T : Type 0} → Plan T → List (Factor T)
plan_factors p = flat_map term_factors p.terms ++ divisor_factors p.divisor

abbrev pub BelowPlan : Series → Tree → Type 0
BelowPlan s t = AllByRecursion (OnFactor (IsBelow s t)) (plan_factors (plan s t))
