-- Values of a series at a tree: over fractions without bound, and in the written order over checked numbers.
--
--   valued A weight s t  == the value of s at t over the numbers A, where `weight` gives those of the methods
--   value tables s t     == the value as a fraction without bound; a method has its elementary weight
--   written tables s t   == the value in the written order: reduced and within the limit, or Overflow
--   table_at tables n    == tableau n of a list
--
--   solution start step t == the value at t of a rule that reads values at smaller trees, applied |t| times
--   unit_fraction n      == 1/n
--   exact_value t        == 1/γ(t)
--   average_values A f   == the coefficients of the average vector field method at the trees of a list
--   average_value A t    == the children's coefficients multiplied, and divided by one more than the number of children
--   over_arities t       == 1 over the product, over all nodes, of one more than the number of their children; a law says
--                           that it is the coefficient of the average vector field method
--   split_term a e b s   == b at what is kept (e where nothing is) times a at each tree of the forest
--   part_term a b p      == a at the skeleton times b at each part
--   composed a e b t     == the sum over the splittings of t of their terms: first a, then b
--   inverse_of a t       == minus the sum over all splittings but the last, with the inverse itself at what is kept
--   signed_by n x        == (-1)^n x
--   adjoint_of a t       == the inverse of the series (-1)^|t| a(t)
--   substituted b a t    == the sum over the partitions of t of their terms: b put into a
--   solved_step o a b t  == a(t) minus the terms of o and b over all partitions but the first
--   modified_of a, modifying_of a == the solutions of that rule, with o the exact flow; with o = a, divided by a(leaf)
--   scaled a c t         == a(t) times c, |t| times
--
-- Lists and products take the children of a tree as they come: of a canonical tree, which each code describes, in canonical order.
-- Over `exactly` that order does not matter: laws say so.
-- Sums begin at 0 and products at 1; each is taken from the left, in the order of the lists of splittings and partitions.
-- Over `checked` an Overflow anywhere is an Overflow.
--
-- Source: Chartier, Hairer and Vilmart (2010), the composition law, the substitution law and the modified equations; Butcher
-- (2021) for the exact flow; Celledoni and others (2009) for the average vector field method. The order of the terms is this
-- project's.
-- The code evaluates one term at a time and keeps each value once; it finds the average vector field method's by its product.
use Rattle.std.specs.Prelude.{ℕ, zero, suc, ◌*◌, List, [], ◌∷◌, map, replicate, Option, Some, None, pos, slice_index_or}
use Rattle.bs_frac.specs.Fraction.{Fraction, whole}
use Rattle.bs_frac.specs.Written.{Arithmetic, exactly, checked, product_all, sum_onto, less_all}
use Rattle.bs_frac.specs.declared.coef.Coef.{Coef}
use Rattle.bs_tree.specs.Tree.{Forest, none, grow, Tree, order}
use Rattle.bs_tree.specs.Numbers.{density}
use Rattle.bs_split.specs.Splitting.{Split, splits, init}
use Rattle.bs_part.specs.Partition.{Part, parts, leaf, tail}
use Rattle.bs_tableau.specs.Table.{Table}
use Rattle.bs_tableau.specs.ElementaryWeight.{elementary_weight}
use Rattle.bs_tableau.specs.WrittenWeight.{written_weight}
use Rattle.bs_series.specs.Series.{Series, exact, identity, average, method, compose, inverse, adjoint, substitute, modified, modifying, scale, empty_value}

-- ---- a rule that gives the value at a tree from values at smaller trees
abbrev pub within : {N : Type 0} → ℕ → N → ((Tree → N) → Tree → N) → Tree → N
within zero start step t = start
within (suc n) start step t = step (within n start step) t

abbrev pub solution : {N : Type 0} → N → ((Tree → N) → Tree → N) → Tree → N
solution start step t = within (order t) start step t

-- ---- series given by a formula
abbrev pub unit_fraction : ℕ → Fraction
unit_fraction n = record { top = pos 1; bottom = n }

abbrev pub exact_value : Tree → Fraction
exact_value t = unit_fraction (density t)

abbrev pub arity : Forest → ℕ
arity none = 0
arity (grow c kids rest) = suc (arity rest)

-- the product over all nodes of one more than the number of their children
abbrev pub arities : Forest → ℕ
arities none = 1
arities (grow c kids rest) = suc (arity kids) * arities kids * arities rest

abbrev pub over_arities : Tree → Fraction
over_arities t = unit_fraction (suc (arity t.below) * arities t.below)

module _ (A : Arithmetic) where
  -- ---- the average vector field method
  abbrev pub average_values : Forest → List A.Number
  average_values none = []
  average_values (grow c kids rest) = A.quotient (product_all A (average_values kids)) (A.of (whole (suc (arity kids)))) ∷ average_values rest

  abbrev pub average_value : Tree → A.Number
  average_value t = A.quotient (product_all A (average_values t.below)) (A.of (whole (suc (arity t.below))))

  -- ---- sums over splittings
  -- at what is kept; nothing kept has the empty value
  abbrev pub at_kept : A.Number → (Tree → A.Number) → Option Tree → A.Number
  at_kept empty b None = empty
  at_kept empty b (Some t) = b t

  abbrev pub split_term : (Tree → A.Number) → A.Number → (Tree → A.Number) → Split → A.Number
  split_term a empty b s = product_all A (at_kept empty b s.kept ∷ map a s.forest)

  abbrev pub composed : (Tree → A.Number) → A.Number → (Tree → A.Number) → Tree → A.Number
  composed a empty b t = sum_onto A (A.of (whole 0)) (map (split_term a empty b) (splits t))

  abbrev pub inverse_step : (Tree → A.Number) → (Tree → A.Number) → Tree → A.Number
  inverse_step a x t = less_all A (A.of (whole 0)) (map (split_term a (A.of (whole 1)) x) (init (splits t)))

  abbrev pub inverse_of : (Tree → A.Number) → Tree → A.Number
  inverse_of a = solution (A.of (whole 0)) (inverse_step a)

  abbrev pub signed_by : ℕ → A.Number → A.Number
  signed_by zero x = x
  signed_by (suc n) x = A.opposite (signed_by n x)

  abbrev pub adjoint_of : (Tree → A.Number) → Tree → A.Number
  adjoint_of a = inverse_of (λ t. signed_by (order t) (a t))

  -- ---- sums over partitions
  abbrev pub part_term : (Tree → A.Number) → (Tree → A.Number) → Part → A.Number
  part_term a b p = product_all A (a p.skeleton ∷ map b p.parts)

  abbrev pub substituted : (Tree → A.Number) → (Tree → A.Number) → Tree → A.Number
  substituted b a t = sum_onto A (A.of (whole 0)) (map (part_term a b) (parts t))

  abbrev pub solved_step : (Tree → A.Number) → (Tree → A.Number) → (Tree → A.Number) → Tree → A.Number
  solved_step outer a b t = less_all A (A.sum (A.of (whole 0)) (product_all A (a t ∷ []))) (map (part_term outer b) (tail (parts t)))

  abbrev pub modified_of : (Tree → A.Number) → Tree → A.Number
  modified_of a = solution (A.of (whole 0)) (solved_step (λ t. A.of (exact_value t)) a)

  abbrev pub modifying_of : (Tree → A.Number) → Tree → A.Number
  modifying_of a = solution (A.of (whole 0)) (λ b t. A.quotient (solved_step a (λ u. A.of (exact_value u)) b t) (a leaf))

  -- ---- one term
  abbrev pub scaled : (Tree → A.Number) → Fraction → Tree → A.Number
  scaled a c t = sum_onto A (A.of (whole 0)) (product_all A (a t ∷ replicate (order t) (A.of c)) ∷ [])

-- ---- of an expression
abbrev pub valued : (A : Arithmetic) → (ℕ → Tree → A.Number) → Series → Tree → A.Number
valued A weight (exact k) t = A.of (exact_value t)
valued A weight (identity k) t = A.of (whole 0)
valued A weight (average k) t = average_value A t
valued A weight (method n k) t = weight n t
valued A weight (compose a b) t = composed A (valued A weight a) (A.of (empty_value b)) (valued A weight b) t
valued A weight (inverse a) t = inverse_of A (valued A weight a) t
valued A weight (adjoint a) t = adjoint_of A (valued A weight a) t
valued A weight (substitute b a) t = substituted A (valued A weight b) (valued A weight a) t
valued A weight (modified a) t = modified_of A (valued A weight a) t
valued A weight (modifying a) t = modifying_of A (valued A weight a) t
valued A weight (scale a c) t = scaled A (valued A weight a) c t

abbrev pub no_table : Table
no_table = record { stages = 0; colours = 0; rows = [] }

abbrev pub table_at : List Table → ℕ → Table
table_at tables n = slice_index_or tables n no_table

abbrev pub value : List Table → Series → Tree → Fraction
value tables s t = valued exactly (λ n u. elementary_weight (table_at tables n) u) s t

abbrev pub written : List Table → Series → Tree → Coef
written tables s t = valued checked (λ n u. written_weight checked (table_at tables n) u) s t
