-- Written values over a list of tableaux and over a front of it.
use Rattle.std.proofs.Common.{◌≡◌, ℕ, zero, suc, ◌+◌, ◌<◌, ◌≤◌, List, [], ◌∷◌, ◌++◌, length, get_or, refl, sym, ap, ap₂, subst, arith}
use Rattle.std.specs.List.{AllByRecursion}
use Rattle.std.proofs.lemmas.List.{get_or_append_left}
use Rattle.bs_frac.specs.Fraction.{Fraction}
use Rattle.bs_frac.specs.Written.{checked}
use Rattle.bs_frac.specs.declared.coef.Coef.{Coef}
use Rattle.bs_tree.specs.Tree.{Tree}
use Rattle.bs_tableau.specs.Table.{Table}
use Rattle.bs_tableau.specs.WrittenWeight.{written_weight}
use Rattle.bs_series.specs.Series.{Series, exact, identity, average, method, compose, inverse, adjoint, substitute, modified, modifying, scale, empty_value}
use Rattle.bs_series.specs.Value.{valued, composed, inverse_of, adjoint_of, substituted, modified_of, modifying_of, scaled, table_at, no_table, written}
use Rattle.bs_series.specs.Accepted.{Suits, IsSuitable}
use Rattle.bs_series.specs.Expressions.{series_at, meaning, OperandsIn, IsNode, IsBook, expressions}
use Rattle.bs_series.specs.Fronts.{HasMethodsBelow, SameOverFront, IsSameOverFronts}
use Rattle.bs_series.specs.declared.book.Node.{Node}
use Rattle.bs_series.specs.declared.kind.Kind.{Kind}
use Rattle.bs_series.specs.declared.kind.Kind.TheVariants as kind
use Rattle.bs_series.proofs.Nodes.{some_node, node_at, length-expressions}

abbrev Map : Type 0
Map = Tree → Coef

-- values over two lists of weights that agree below a number
module _ (n : ℕ) (w v : ℕ → Map) (same : (k : ℕ) → k < n → w k ≡ v k) where
  valued_same : (s : Series) → HasMethodsBelow n s → valued checked w s ≡ valued checked v s
  valued_same (exact k) h = refl
  valued_same (identity k) h = refl
  valued_same (average k) h = refl
  valued_same (method i k) h = same i h
  valued_same (compose a b) h = ap₂ (λ (f g : Map). λ t. composed checked f (checked.of (empty_value b)) g t) (valued_same a h.0) (valued_same b h.1)
  valued_same (inverse a) h = ap (λ (f : Map). λ t. inverse_of checked f t) (valued_same a h)
  valued_same (adjoint a) h = ap (λ (f : Map). λ t. adjoint_of checked f t) (valued_same a h)
  valued_same (substitute b a) h = ap₂ (λ (f g : Map). λ t. substituted checked f g t) (valued_same b h.0) (valued_same a h.1)
  valued_same (modified a) h = ap (λ (f : Map). λ t. modified_of checked f t) (valued_same a h)
  valued_same (modifying a) h = ap (λ (f : Map). λ t. modifying_of checked f t) (valued_same a h)
  valued_same (scale a c) h = ap (λ (f : Map). λ t. scaled checked f c t) (valued_same a h)

abbrev weights : List Table → ℕ → Map
weights tables k t = written_weight checked (table_at tables k) t

pub same_over_front : SameOverFront
same_over_front front more s h t =
    ap (λ (f : Map). f t) (valued_same (length front) (weights (front ++ more)) (weights front)
    (λ k l. ap (λ (x : Table). λ u. written_weight checked x u) (get_or_append_left front more no_table k l)) s h)

-- ---- of a book
each_at : (P : Series → Type 0) (es : List Series) (i : ℕ) (d : Series) → AllByRecursion P es → i < length es → P (get_or es i d)
each_at P [] i d h l = absurd (omega arith)
each_at P (x ∷ xs) zero d h l = h.0
each_at P (x ∷ xs) (suc i) d h l = each_at P xs i d h.1 (omega arith)

-- an expression that a kind describes, over operands whose methods are below
over_operands : (tables : List Table) (es : List Series) (i : ℕ) (colours : ℕ → ℕ) (k : Kind) → OperandsIn i k → IsSuitable tables (meaning colours es k)
    → ((j : ℕ) → j < i → HasMethodsBelow (length tables) (series_at es j)) → HasMethodsBelow (length tables) (meaning colours es k)
over_operands tables es i colours (kind.Exact k) o s below = tt
over_operands tables es i colours (kind.Identity k) o s below = tt
over_operands tables es i colours (kind.Average k) o s below = tt
over_operands tables es i colours (kind.Method n) o s below = s.table.0
over_operands tables es i colours (kind.Compose a b) o s below = (below a o.0, below b o.1)
over_operands tables es i colours (kind.Inverse a) o s below = below a o
over_operands tables es i colours (kind.Adjoint a) o s below = below a o
over_operands tables es i colours (kind.Substitute b a) o s below = (below b o.0, below a o.1)
over_operands tables es i colours (kind.Modified a) o s below = below a o
over_operands tables es i colours (kind.Modifying a) o s below = below a o
over_operands tables es i colours (kind.Scale a c) o s below = below a o

module _ (tables : List Table) (ns : List Node) (book : IsBook ns) (suits : Suits tables (expressions ns)) where
  abbrev Below : ℕ → Type 0
  Below j = HasMethodsBelow (length tables) (series_at (expressions ns) j)

  -- each of the first n
  all_below : (n j : ℕ) → j < n → j < length (expressions ns) → Below j
  all_below zero j h l = absurd (omega arith)
  all_below (suc n) j h l =
      let es = expressions ns in
      let long = length-expressions ns in
      let at : IsNode es j (get_or ns j some_node) = node_at ns j some_node book (omega arith) in
      let node = get_or ns j some_node in
      let whole = each_at (IsSuitable tables) es j (exact 0) suits l in
      subst (HasMethodsBelow (length tables)) (sym at.is)
      (over_operands tables es j (λ _. node.numbers.colours) node.kind at.operands (subst (IsSuitable tables) at.is whole) (λ k m. all_below n k (omega arith) (omega arith)))

pub book_over_fronts : (ns : List Node) → IsBook ns → IsSameOverFronts (expressions ns)
book_over_fronts ns book front more suits i l t = same_over_front front more (series_at (expressions ns) i) (all_below front ns book suits (suc i) i (omega arith) l) t
