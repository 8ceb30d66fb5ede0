-- Remembered values that stay right: where a value is kept, where the catalog grows, and where the book grows.
use Rattle.std.proofs.Common.{◌≡◌, ◌⊎◌, ℕ, zero, suc, ◌<◌, ◌≤◌, List, [], ◌∷◌, map, length, Some, None, Option, IsNone, IfSome, MatchOption, slice_get, refl, sym, ◌∙◌, ap, subst, inl, inr, ⊎_elim, arith}
use Rattle.std.proofs.Math.ListN.{set}
use Rattle.std.specs.List.Sorted.{IsPermutation}
use Rattle.std.proofs.lemmas.List.Sorted.{IsPermutation-map}
use Rattle.bs_frac.specs.Gathered.{Multiplied, IsProductOf}
use Rattle.bs_frac.proofs.Reordered.{factors_in_any_order}
use Rattle.bs_frac.specs.declared.coef.Coef.{Coef}
use Rattle.bs_frac.specs.declared.coef.Coef.TheVariants.{Value}
use Rattle.bs_tableau.specs.Table.{Table}
use Rattle.bs_series.specs.Series.{Series}
use Rattle.bs_series.specs.Value.{exact_value}
use Rattle.bs_tree.specs.Code.{tree_of, child_codes}
use Rattle.bs_eval.specs.Terms.{code_at}
use Rattle.bs_series.specs.SeriesCode.{Code, written_at}
use Rattle.bs_series.specs.Expressions.{series_at}
use Rattle.std.proofs.lemmas.Option.{get_or_from_slice_get, slice_get-get_or}
use Rattle.bs_eval.specs.Values.{recalled, in_column, IsValue, IsForestProduct, AreValues, ColumnAdds, ColumnTakes, ColumnsAdd}
use Rattle.bs_eval.specs.Forests.{product_at}
use Rattle.bs_eval.specs.declared.forests.Forests.{Forests}
use Rattle.bs_eval.specs.declared.values.Column.{Column}
use Rattle.bs_eval.specs.declared.values.Values.{Values}
use Rattle.bs_eval.proofs.Columns.{columns_set}

value_same : (tables : List Table) (es : List Series) (cs : List Code) (id id' n n' : ℕ) (v v' : Coef) → id' ≡ id → n' ≡ n → v' ≡ v → IsValue tables es cs id n v → IsValue tables es cs id' n' v'
value_same tables es cs id id' n n' v v' a b c h = rw (a, b, c) h

pub values_keep : (tables : List Table) (es : List Series) (cs : List Code) (old mid new : Values) (id tree : ℕ) (value : Coef) (c c' : Column) → AreValues tables es cs old → IsValue tables es cs id tree value
    → mid.flows ≡ old.flows → mid.forests ≡ old.forests → ColumnsAdd old.columns.items mid.columns.items → slice_get mid.columns.items id ≡ Some c → ColumnTakes c c' tree value
    → new.flows ≡ mid.flows → new.forests ≡ mid.forests → new.columns.items ≡ set mid.columns.items id c' → AreValues tables es cs new
values_keep tables es cs old mid new id tree value c c' are is f fs more at takes g gs e = record {
  series = λ i n v h.
      ⊎_elim (λ a. are.series i n v (more.stands i n v a)) (λ b. value_same tables es cs id i tree n value v b.0 b.1 b.2 is)
      (columns_set mid.columns.items id c c' tree value at takes i n v (subst (λ (xs : List Column). in_column (slice_get xs i) n ≡ Some v) e h));
  forests = λ i n x h. are.forests i n x (subst (λ (y : Forests). product_at y i n ≡ Some x) (gs ∙ fs) h);
  flows = λ n v h. are.flows n v (subst (λ (x : Column). in_column (Some x) n ≡ Some v) (g ∙ f) h);
}

pub values_less : (tables : List Table) (es : List Series) (cs : List Code) (old new : Values) → AreValues tables es cs old → new.flows ≡ old.flows → new.forests ≡ old.forests → ColumnsAdd old.columns.items new.columns.items
    → AreValues tables es cs new
values_less tables es cs old new are f fs more = record {
  series = λ i n v h. are.series i n v (more.stands i n v h);
  forests = λ i n x h. are.forests i n x (subst (λ (y : Forests). product_at y i n ≡ Some x) fs h);
  flows = λ n v h. are.flows n v (subst (λ (x : Column). in_column (Some x) n ≡ Some v) f h);
}

forest_same : (tables : List Table) (es : List Series) (cs : List Code) (id id' n n' : ℕ) (x x' : Multiplied) → id' ≡ id → n' ≡ n → x' ≡ x → IsForestProduct tables es cs id n x → IsForestProduct tables es cs id' n' x'
forest_same tables es cs id id' n n' x x' a b c h = rw (a, b, c) h

pub values_product : (tables : List Table) (es : List Series) (cs : List Code) (old new : Values) (id forest : ℕ) (product : Multiplied) → AreValues tables es cs old → IsForestProduct tables es cs id forest product
    → new.flows ≡ old.flows → new.columns.items ≡ old.columns.items
    → ((i n : ℕ) (x : Multiplied) → product_at new.forests i n ≡ Some x → (product_at old.forests i n ≡ Some x) ⊎ ((i ≡ id) × (n ≡ forest) × (x ≡ product))) → AreValues tables es cs new
values_product tables es cs old new id forest product are is f e takes = record {
  series = λ i n v h. are.series i n v (subst (λ (xs : List Column). in_column (slice_get xs i) n ≡ Some v) e h);
  forests = λ i n x h. ⊎_elim (λ a. are.forests i n x a) (λ b. forest_same tables es cs id i forest n product x b.0 b.1 b.2 is) (takes i n x h);
  flows = λ n v h. are.flows n v (subst (λ (x : Column). in_column (Some x) n ≡ Some v) f h);
}

pub forest_is : (tables : List Table) (es : List Series) (cs : List Code) (id forest : ℕ) (parts : List ℕ) (x : Multiplied) → id < length es → forest < length cs
    → IsPermutation (map (code_at cs) parts) (child_codes (code_at cs forest)) → IsProductOf x (map (λ tree. written_at tables (series_at es id) (code_at cs tree)) parts) → IsForestProduct tables es cs id forest x
forest_is tables es cs id forest parts x i l same p =
    let own = written_at tables (series_at es id) in record {
      series = i;
      forest = l;
      product =
          factors_in_any_order x (map own (map (code_at cs) parts)) (map own (child_codes (code_at cs forest)))
          (subst (IsProductOf x) (map_both own (code_at cs) parts) p) (IsPermutation-map own (map (code_at cs) parts) (child_codes (code_at cs forest)) same);
    }
  where
    map_both : {X Y Z : Type 0} (f : Y → Z) (g : X → Y) (xs : List X) → map (λ x. f (g x)) xs ≡ map f (map g xs)
    map_both f g [] = refl
    map_both {X} {Y} {Z} f g (x ∷ xs) = ap (λ (zs : List Z). f (g x) ∷ zs) (map_both f g xs)

pub recall_is : {R : Type 0} (now : R → Coef) (tables : List Table) (es : List Series) (cs : List Code) (values : Values) (id n : ℕ) (c : Column) (r : Option R) → AreValues tables es cs values
    → slice_get values.columns.items id ≡ Some c → MatchOption r (IsNone (in_column (Some c) n)) (λ v. in_column (Some c) n ≡ Some (now v)) → IfSome r (λ v. IsValue tables es cs id n (now v))
recall_is now tables es cs values id n c None are at e = tt
recall_is now tables es cs values id n c (Some v) are at e = are.series id n (now v) (ap (λ (o : Option Column). in_column o n) at ∙ e)

pub flow_is : {R : Type 0} (now : R → Coef) (tables : List Table) (es : List Series) (cs : List Code) (values : Values) (n : ℕ) (r : Option R) → AreValues tables es cs values
    → MatchOption r (IsNone (in_column (Some values.flows) n)) (λ v. in_column (Some values.flows) n ≡ Some (now v)) → IfSome r (λ v. now v ≡ Value (exact_value (tree_of (code_at cs n))))
flow_is now tables es cs values n None are e = tt
flow_is now tables es cs values n (Some v) are e = (are.flows n (now v) e).1

pub direct_is : (tables : List Table) (es : List Series) (cs : List Code) (id n : ℕ) (code : Code) (v : Coef) → id < length es → n < length cs → slice_get cs n ≡ Some code
    → v ≡ written_at tables (series_at es id) code → IsValue tables es cs id n v
direct_is tables es cs id n code v i l at e = record { series = i; tree = l; value = e ∙ ap (written_at tables (series_at es id)) (sym (get_or_from_slice_get cs n code [] at)) }
