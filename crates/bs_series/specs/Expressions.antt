-- The expressions of a book: each distinct series once, its operands named by their places.
--
--   series_at es i       == the expression at a place of a list
--   meaning colours es k == the expression that a kind describes over the list, `colours` giving those of the tableaux
--   wanted tables es k   == the same over a list of tableaux
--   OperandsIn n k       == the operands of the kind stand below place n
--   TableIn n k          == of a method: its tableau's number is below n
--   HasColours k         == of a kind that names its number of colours: it is 1 to MAX_COLOURS
--   IsReducedKind k      == of a scaling: the factor is a reduced fraction within the limit
--   IsIn s es, IsNew s es == the expression stands in the list, and it does not
--   IsOnlyAt es i        == the expression at place i stands at no other place
--   Extends es es'       == each place of es is one of es', with the same expression
--   Adds es s es'        == es' is es where s stands there, and es with s behind it where it does not
--
--   node k m             == the node of a kind and its numbers
--   expressions nodes    == the list that the nodes of a book describe
--   IsNode es i n        == the node at place i describes the expression there: its operands stand before it, its numbers are
--                           those of the expression, and the expression stands at no earlier place
--   IsBook nodes         == each node is one
--
-- Source: this project.
use Rattle.std.specs.Prelude.{◌≡◌, ◌≢◌, ℕ, suc, ◌<◌, ◌≤◌, List, [], ◌∷◌, ◌++◌, length, slice_index_or, fold}
use Rattle.bs_frac.specs.Fraction.{IsReduced}
use Rattle.bs_frac.specs.Checked.{IsWithin}
use Rattle.bs_tableau.specs.Table.{Table}
use Rattle.bs_tableau.specs.declared.TheConstants.{MAX_COLOURS}
use Rattle.bs_series.specs.Series.{Series, exact, identity, average, method, compose, inverse, adjoint, substitute, modified, modifying, scale, empty_value, colours_of, depth, size}
use Rattle.bs_series.specs.Value.{table_at}
use Rattle.bs_series.specs.Keys.{IsKeyed}
use Rattle.bs_series.specs.Accepted.{IsShallow}
use Rattle.bs_series.specs.declared.kind.Kind.{Kind}
use Rattle.bs_series.specs.declared.kind.Kind.TheVariants as kind
use Rattle.bs_series.specs.declared.book.Node.{Node}
use Rattle.bs_series.specs.declared.book.Numbers.{Numbers}

abbrev pub series_at : List Series → ℕ → Series
series_at es i = slice_index_or es i (exact 0)

abbrev pub meaning : (ℕ → ℕ) → List Series → Kind → Series
meaning colours es (kind.Exact k) = exact k
meaning colours es (kind.Identity k) = identity k
meaning colours es (kind.Average k) = average k
meaning colours es (kind.Method n) = method n (colours n)
meaning colours es (kind.Compose first second) = compose (series_at es first) (series_at es second)
meaning colours es (kind.Inverse of) = inverse (series_at es of)
meaning colours es (kind.Adjoint of) = adjoint (series_at es of)
meaning colours es (kind.Substitute inner outer) = substitute (series_at es inner) (series_at es outer)
meaning colours es (kind.Modified of) = modified (series_at es of)
meaning colours es (kind.Modifying of) = modifying (series_at es of)
meaning colours es (kind.Scale of by) = scale (series_at es of) by

abbrev pub wanted : List Table → List Series → Kind → Series
wanted tables es k = meaning (λ n. (table_at tables n).colours) es k

abbrev pub OperandsIn : ℕ → Kind → Type 0
OperandsIn n (kind.Exact k) = Unit {0}
OperandsIn n (kind.Identity k) = Unit {0}
OperandsIn n (kind.Average k) = Unit {0}
OperandsIn n (kind.Method table) = Unit {0}
OperandsIn n (kind.Compose first second) = (first < n) × (second < n)
OperandsIn n (kind.Inverse of) = of < n
OperandsIn n (kind.Adjoint of) = of < n
OperandsIn n (kind.Substitute inner outer) = (inner < n) × (outer < n)
OperandsIn n (kind.Modified of) = of < n
OperandsIn n (kind.Modifying of) = of < n
OperandsIn n (kind.Scale of by) = of < n

abbrev pub TableIn : ℕ → Kind → Type 0
TableIn n (kind.Exact k) = Unit {0}
TableIn n (kind.Identity k) = Unit {0}
TableIn n (kind.Average k) = Unit {0}
TableIn n (kind.Method table) = table < n
TableIn n (kind.Compose first second) = Unit {0}
TableIn n (kind.Inverse of) = Unit {0}
TableIn n (kind.Adjoint of) = Unit {0}
TableIn n (kind.Substitute inner outer) = Unit {0}
TableIn n (kind.Modified of) = Unit {0}
TableIn n (kind.Modifying of) = Unit {0}
TableIn n (kind.Scale of by) = Unit {0}

abbrev pub IsColourCount : ℕ → Type 0
IsColourCount k = (0 < k) × (k ≤ MAX_COLOURS)

abbrev pub HasColours : Kind → Type 0
HasColours (kind.Exact k) = IsColourCount k
HasColours (kind.Identity k) = IsColourCount k
HasColours (kind.Average k) = IsColourCount k
HasColours (kind.Method table) = Unit {0}
HasColours (kind.Compose first second) = Unit {0}
HasColours (kind.Inverse of) = Unit {0}
HasColours (kind.Adjoint of) = Unit {0}
HasColours (kind.Substitute inner outer) = Unit {0}
HasColours (kind.Modified of) = Unit {0}
HasColours (kind.Modifying of) = Unit {0}
HasColours (kind.Scale of by) = Unit {0}

abbrev pub IsReducedKind : Kind → Type 0
IsReducedKind (kind.Scale of by) = IsReduced by × IsWithin by
IsReducedKind _ = Unit {0}

abbrev pub IsIn : Series → List Series → Type 0
IsIn s es = (i : ℕ) × (i < length es) × (series_at es i ≡ s)

abbrev pub IsNew : Series → List Series → Type 0
IsNew s es = (i : ℕ) → i < length es → series_at es i ≢ s

abbrev pub IsOnlyAt : List Series → ℕ → Type 0
IsOnlyAt es i = (j : ℕ) → j < length es → series_at es j ≡ series_at es i → j ≡ i

pub record Extends (es es' : List Series) : Type 0 where
  pub grows : length es ≤ length es'
  pub stays : (i : ℕ) → i < length es → series_at es' i ≡ series_at es i

pub record Adds (es : List Series) (s : Series) (es' : List Series) : Type 0 where
  pub known : IsIn s es → es' ≡ es
  pub new : IsNew s es → es' ≡ es ++ s ∷ []

-- ---- the nodes of a book
abbrev pub node : Kind → Numbers → Node
node k m = record { kind = k; numbers = m }

abbrev pub onto : List Series → Node → List Series
onto es n = es ++ meaning (λ _. n.numbers.colours) es n.kind ∷ []

abbrev pub expressions : List Node → List Series
expressions nodes = fold onto [] nodes

pub record IsNode (es : List Series) (i : ℕ) (n : Node) : Type 0 where
  pub operands : OperandsIn i n.kind
  pub is : series_at es i ≡ meaning (λ _. n.numbers.colours) es n.kind
  pub colours : n.numbers.colours ≡ colours_of (series_at es i)
  pub empty : n.numbers.empty ≡ empty_value (series_at es i)
  pub depth : n.numbers.depth ≡ depth (series_at es i)
  pub size : n.numbers.size ≡ size (series_at es i)
  pub coloured : IsColourCount (colours_of (series_at es i))
  pub shallow : IsShallow (series_at es i)
  pub keyed : IsKeyed (series_at es i)
  pub fresh : (j : ℕ) → j < i → series_at es j ≢ series_at es i

abbrev pub AllNodes : List Series → ℕ → List Node → Type 0
AllNodes es i [] = Unit {0}
AllNodes es i (n ∷ ns) = IsNode es i n × AllNodes es (suc i) ns

abbrev pub IsBook : List Node → Type 0
IsBook nodes = AllNodes (expressions nodes) 0 nodes
