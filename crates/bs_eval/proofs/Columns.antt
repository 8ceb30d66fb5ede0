-- Columns of values that grow, and that take a value.
use Rattle.std.proofs.Common.{◌≡◌, ◌⊎◌, ℕ, zero, suc, ◌<◌, ◌≤◌, List, [], ◌∷◌, ◌++◌, length, Some, None, Option, slice_get, refl, sym, ◌∙◌, ap, subst, inl, inr, ⊎_elim, arith}
use Rattle.std.proofs.Math.ListN.{set}
use Rattle.bs_frac.specs.declared.coef.Coef.{Coef}
use Rattle.bs_eval.specs.Values.{flattened, in_column, ColumnAdds, ColumnTakes, ColumnsAdd}
use Rattle.bs_eval.specs.declared.values.Column.{Column}

flat_push : (xs : List (Option Coef)) (n : ℕ) (v : Coef) → flattened (slice_get (xs ++ None ∷ []) n) ≡ Some v → flattened (slice_get xs n) ≡ Some v
flat_push [] zero v h = h
flat_push [] (suc n) v h = h
flat_push (x ∷ xs) zero v h = h
flat_push (x ∷ xs) (suc n) v h = flat_push xs n v h

flat_set : (xs : List (Option Coef)) (place : ℕ) (value : Coef) (n : ℕ) (v : Coef) → flattened (slice_get (set xs place (Some value)) n) ≡ Some v
    → (flattened (slice_get xs n) ≡ Some v) ⊎ ((n ≡ place) × (v ≡ value))
flat_set [] place value n v h = inl h
flat_set (x ∷ xs) zero value zero v h = inr (refl, cc)
flat_set (x ∷ xs) zero value (suc n) v h = inl h
flat_set (x ∷ xs) (suc place) value zero v h = inl h
flat_set (x ∷ xs) (suc place) value (suc n) v h = ⊎_elim (λ a. inl a) (λ b. inr (ap suc b.0, b.1)) (flat_set xs place value n v h)

pub column_longer : (c c' : Column) → c'.values.items ≡ c.values.items ++ None ∷ [] → ColumnAdds c c'
column_longer c c' e = record { stands = λ n v h. flat_push c.values.items n v (subst (λ (xs : List (Option Coef)). flattened (slice_get xs n) ≡ Some v) e h) }

pub column_takes : (c c' : Column) (place : ℕ) (value : Coef) → c'.values.items ≡ set c.values.items place (Some value) → ColumnTakes c c' place value
column_takes c c' place value e = record {
  stands = λ n v h. flat_set c.values.items place value n v (subst (λ (xs : List (Option Coef)). flattened (slice_get xs n) ≡ Some v) e h);
}

pub column_same : (c c' : Column) → c'.values.items ≡ c.values.items → ColumnAdds c c'
column_same c c' e = record { stands = λ n v h. subst (λ (xs : List (Option Coef)). flattened (slice_get xs n) ≡ Some v) e h }

pub column_on : {a b c : Column} → ColumnAdds a b → ColumnAdds b c → ColumnAdds a c
column_on p q = record { stands = λ n v h. p.stands n v (q.stands n v h) }

pub takes_on : {a b c : Column} {place : ℕ} {value : Coef} → ColumnAdds a b → ColumnTakes b c place value → ColumnTakes a c place value
takes_on p q = record { stands = λ n v h. ⊎_elim (λ x. inl (p.stands n v x)) (λ y. inr y) (q.stands n v h) }

pub takes_none : {a b : Column} {place : ℕ} {value : Coef} → ColumnAdds a b → ColumnTakes a b place value
takes_none p = record { stands = λ n v h. inl (p.stands n v h) }

-- ---- lists of columns
columns_push : (cs : List Column) (c : Column) → c.values.items ≡ [] → (id n : ℕ) (v : Coef) → in_column (slice_get (cs ++ c ∷ []) id) n ≡ Some v → in_column (slice_get cs id) n ≡ Some v
columns_push [] c e zero n v h = subst (λ (xs : List (Option Coef)). flattened (slice_get xs n) ≡ Some v) e h
columns_push [] c e (suc id) n v h = h
columns_push (x ∷ cs) c e zero n v h = h
columns_push (x ∷ cs) c e (suc id) n v h = columns_push cs c e id n v h

pub columns_more : (cs cs' : List Column) (c : Column) → c.values.items ≡ [] → cs' ≡ cs ++ c ∷ [] → ColumnsAdd cs cs'
columns_more cs cs' c e p = record { stands = λ id n v h. columns_push cs c e id n v (subst (λ (xs : List Column). in_column (slice_get xs id) n ≡ Some v) p h) }

pub columns_on : {a b c : List Column} → ColumnsAdd a b → ColumnsAdd b c → ColumnsAdd a c
columns_on p q = record { stands = λ id n v h. p.stands id n v (q.stands id n v h) }

pub columns_same : (cs cs' : List Column) → cs' ≡ cs → ColumnsAdd cs cs'
columns_same cs cs' p = record { stands = λ id n v h. subst (λ (xs : List Column). in_column (slice_get xs id) n ≡ Some v) p h }

pub columns_set : (cs : List Column) (place : ℕ) (c c' : Column) (tree : ℕ) (value : Coef) → slice_get cs place ≡ Some c → ColumnTakes c c' tree value
    → (id n : ℕ) (v : Coef) → in_column (slice_get (set cs place c') id) n ≡ Some v
    → (in_column (slice_get cs id) n ≡ Some v) ⊎ ((id ≡ place) × (n ≡ tree) × (v ≡ value))
columns_set [] place c c' tree value e t id n v h = inl h
columns_set (x ∷ cs) zero c c' tree value e t zero n v h =
    let is : x ≡ c = cc in
    ⊎_elim (λ a. inl (subst (λ (y : Column). in_column (Some y) n ≡ Some v) (sym is) a)) (λ b. inr (refl, b.0, b.1)) (t.stands n v h)
columns_set (x ∷ cs) zero c c' tree value e t (suc id) n v h = inl h
columns_set (x ∷ cs) (suc place) c c' tree value e t zero n v h = inl h
columns_set (x ∷ cs) (suc place) c c' tree value e t (suc id) n v h =
    ⊎_elim (λ a. inl a) (λ b. inr (ap suc b.0, b.1, b.2)) (columns_set cs place c c' tree value e t id n v h)
