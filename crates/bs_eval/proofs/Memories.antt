-- A memory stays right where its catalog grows, and where the book grows; so do the places where values are worked out.
use Rattle.std.proofs.Common.{◌≡◌, ℕ, ◌<◌, ◌≤◌, List, [], ◌∷◌, map, length, Some, slice_get, slice_index_or, refl, sym, ◌∙◌, ap, ap₂, subst, arith}
use Rattle.std.proofs.lemmas.Option.{get_or_from_slice_get, slice_get_within, slice_get-get_or}
use Rattle.bs_frac.specs.declared.coef.Coef.{Coef}
use Rattle.bs_frac.specs.declared.coef.Coef.TheVariants.{Value}
use Rattle.bs_frac.specs.Gathered.{Multiplied, IsProductOf}
use Rattle.bs_tree.specs.Code.{tree_of, IsCode, child_codes}
use Rattle.bs_tableau.specs.Table.{Table}
use Rattle.bs_catalog.specs.Shelf.{Shelf, Numbers, HasSplits, HasParts, Grows}
use Rattle.bs_series.specs.Series.{Series, exact, identity, average, method, compose, inverse, adjoint, substitute, modified, modifying, scale}
use Rattle.bs_series.specs.Value.{exact_value}
use Rattle.bs_series.specs.SeriesCode.{Code, written_at}
use Rattle.bs_series.specs.Expressions.{series_at, Extends}
use Rattle.bs_eval.specs.Terms.{code_at, HasRows, IsSpot}
use Rattle.bs_eval.specs.Values.{IsValue, IsForestProduct, AreValues, IsMemory}
use Rattle.bs_eval.specs.declared.plan.Spot.{Spot}
use Rattle.bs_eval.specs.declared.values.Values.{Values}
use Rattle.bs_eval.specs.declared.memory.Memory.{Memory}

-- ---- numbers
pub numbers_in : (cs : List Code) (n : ℕ) → n < length cs → Numbers cs n (code_at cs n)
numbers_in cs n h = slice_get-get_or cs n [] h

pub number_grows : (s s' : Shelf) → Grows s s' → (n : ℕ) → n < length s.codes → n < length s'.codes
number_grows s s' g n h = slice_get_within s'.codes n (code_at s.codes n) (g.codes n (code_at s.codes n) (numbers_in s.codes n h))

pub code_stays : (s s' : Shelf) → Grows s s' → (n : ℕ) → n < length s.codes → code_at s'.codes n ≡ code_at s.codes n
code_stays s s' g n h = get_or_from_slice_get s'.codes n (code_at s.codes n) [] (g.codes n (code_at s.codes n) (numbers_in s.codes n h))

-- ---- a catalog that grows
value_grows : (tables : List Table) (es : List Series) (s s' : Shelf) (id n : ℕ) (v : Coef) → Grows s s' → IsValue tables es s.codes id n v → IsValue tables es s'.codes id n v
value_grows tables es s s' id n v g h = record {
  series = h.series;
  tree = number_grows s s' g n h.tree;
  value = h.value ∙ ap (written_at tables (series_at es id)) (sym (code_stays s s' g n h.tree));
}

forest_grows : (tables : List Table) (es : List Series) (s s' : Shelf) (id n : ℕ) (x : Multiplied) → Grows s s' → IsForestProduct tables es s.codes id n x → IsForestProduct tables es s'.codes id n x
forest_grows tables es s s' id n x g h = record {
  series = h.series;
  forest = number_grows s s' g n h.forest;
  product = subst (λ (code : Code). IsProductOf x (map (written_at tables (series_at es id)) (child_codes code))) (sym (code_stays s s' g n h.forest)) h.product;
}

pub values_grow : (tables : List Table) (es : List Series) (s s' : Shelf) (values : Values) → Grows s s' → AreValues tables es s.codes values → AreValues tables es s'.codes values
values_grow tables es s s' values g h = record {
  series = λ id n v e. value_grows tables es s s' id n v g (h.series id n v e);
  forests = λ id n x e. forest_grows tables es s s' id n x g (h.forests id n x e);
  flows = λ n v e. let f = h.flows n v e in
      (number_grows s s' g n f.0, f.1 ∙ ap (λ (code : Code). Value (exact_value (tree_of code))) (sym (code_stays s s' g n f.0)));
}

pub memory_grows : (tables : List Table) (es : List Series) (m m' : Memory) → Grows m.trees m'.trees → m'.values ≡ m.values → IsMemory tables es m → IsMemory tables es m'
memory_grows tables es m m' g e h = record {
  values = subst (AreValues tables es m'.trees.codes) (sym e) (values_grow tables es m.trees m'.trees m.values g h.values);
}

pub rows_grow : (s : Series) (shelf shelf' : Shelf) (n : ℕ) → Grows shelf shelf' → HasRows s shelf n → HasRows s shelf' n
rows_grow (exact k) a b n g h = tt
rows_grow (identity k) a b n g h = tt
rows_grow (average k) a b n g h = tt
rows_grow (method t k) a b n g h = tt
rows_grow (compose x y) a b n g h = g.splits n h
rows_grow (inverse x) a b n g h = g.splits n h
rows_grow (adjoint x) a b n g h = g.splits n h
rows_grow (substitute x y) a b n g h = g.parts n h
rows_grow (modified x) a b n g h = g.parts n h
rows_grow (modifying x) a b n g h = g.parts n h
rows_grow (scale x c) a b n g h = tt

pub spot_grows : (es : List Series) (s s' : Shelf) (x : Spot) (code : Code) → Grows s s' → IsSpot es s x code → IsSpot es s' x code
spot_grows es s s' x code g h = record {
  coded = h.coded;
  tree = g.codes x.tree code h.tree;
  leaf = g.codes x.leaf ((1, 0) ∷ []) h.leaf;
  rows = rows_grow (series_at es x.series) s s' x.tree g h.rows;
}

pub grows_same : (s : Shelf) → Grows s s
grows_same s = record { codes = λ n code h. h; splits = λ n h. h; parts = λ n h. h }

pub grows_on : (a b c : Shelf) → Grows a b → Grows b c → Grows a c
grows_on a b c p q = record { codes = λ n code h. q.codes n code (p.codes n code h); splits = λ n h. q.splits n (p.splits n h); parts = λ n h. q.parts n (p.parts n h) }

-- ---- a book that grows
value_extends : (tables : List Table) (es es' : List Series) (cs : List Code) (id n : ℕ) (v : Coef) → Extends es es' → IsValue tables es cs id n v → IsValue tables es' cs id n v
value_extends tables es es' cs id n v x h =
    let l = x.grows in let i = h.series in record {
      series = omega (arith, l, i);
      tree = h.tree;
      value = h.value ∙ ap (λ (s : Series). written_at tables s (code_at cs n)) (sym (x.stays id h.series));
    }

forest_extends : (tables : List Table) (es es' : List Series) (cs : List Code) (id n : ℕ) (x : Multiplied) → Extends es es' → IsForestProduct tables es cs id n x → IsForestProduct tables es' cs id n x
forest_extends tables es es' cs id n x g h =
    let l = g.grows in let i = h.series in record {
      series = omega (arith, l, i);
      forest = h.forest;
      product = subst (λ (s : Series). IsProductOf x (map (written_at tables s) (child_codes (code_at cs n)))) (sym (g.stays id h.series)) h.product;
    }

pub values_extend : (tables : List Table) (es es' : List Series) (cs : List Code) (values : Values) → Extends es es' → AreValues tables es cs values → AreValues tables es' cs values
values_extend tables es es' cs values x h = record {
  series = λ id n v e. value_extends tables es es' cs id n v x (h.series id n v e);
  forests = λ id n y e. forest_extends tables es es' cs id n y x (h.forests id n y e);
  flows = h.flows;
}

pub memory_extends : (tables : List Table) (es es' : List Series) (m : Memory) → IsMemory tables es m → Extends es es' → IsMemory tables es' m
memory_extends tables es es' m h x = record { values = values_extend tables es es' m.trees.codes m.values x h.values }

pub number_once : (cs : List Code) (n : ℕ) (a b : Code) → Numbers cs n a → Numbers cs n b → a ≡ b
number_once cs n a b p q = cc
