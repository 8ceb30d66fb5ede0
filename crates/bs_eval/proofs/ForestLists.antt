-- Lists of products that grow, and that take a product.
use Rattle.std.proofs.Common.{◌≡◌, ◌⊎◌, ℕ, zero, suc, ◌<◌, ◌≤◌, List, [], ◌∷◌, ◌++◌, length, Some, None, Option, slice_get, refl, sym, ◌∙◌, ap, subst, inl, inr, ⊎_elim, arith}
use Rattle.std.proofs.Math.ListN.{set}
use Rattle.bs_frac.specs.Gathered.{Multiplied}
use Rattle.bs_eval.specs.Forests.{flat, in_list, ListAdds, ListTakes, ListsAdd}
use Rattle.bs_eval.specs.declared.forests.Products.{Products}

flat_push : (xs : List (Option Multiplied)) (n : ℕ) (v : Multiplied) → flat (slice_get (xs ++ None ∷ []) n) ≡ Some v → flat (slice_get xs n) ≡ Some v
flat_push [] zero v h = h
flat_push [] (suc n) v h = h
flat_push (x ∷ xs) zero v h = h
flat_push (x ∷ xs) (suc n) v h = flat_push xs n v h

flat_set : (xs : List (Option Multiplied)) (place : ℕ) (value : Multiplied) (n : ℕ) (v : Multiplied) → flat (slice_get (set xs place (Some value)) n) ≡ Some v
    → (flat (slice_get xs n) ≡ Some v) ⊎ ((n ≡ place) × (v ≡ value))
flat_set [] place value n v h = inl h
flat_set (x ∷ xs) zero value zero v h = inr (refl, cc)
flat_set (x ∷ xs) zero value (suc n) v h = inl h
flat_set (x ∷ xs) (suc place) value zero v h = inl h
flat_set (x ∷ xs) (suc place) value (suc n) v h = ⊎_elim (λ a. inl a) (λ b. inr (ap suc b.0, b.1)) (flat_set xs place value n v h)

pub list_longer : (c c' : Products) → c'.products.items ≡ c.products.items ++ None ∷ [] → ListAdds c c'
list_longer c c' e = record { stands = λ n v h. flat_push c.products.items n v (subst (λ (xs : List (Option Multiplied)). flat (slice_get xs n) ≡ Some v) e h) }

pub list_takes : (c c' : Products) (place : ℕ) (value : Multiplied) → c'.products.items ≡ set c.products.items place (Some value) → ListTakes c c' place value
list_takes c c' place value e = record {
  stands = λ n v h. flat_set c.products.items place value n v (subst (λ (xs : List (Option Multiplied)). flat (slice_get xs n) ≡ Some v) e h);
}

pub list_same : (c c' : Products) → c'.products.items ≡ c.products.items → ListAdds c c'
list_same c c' e = record { stands = λ n v h. subst (λ (xs : List (Option Multiplied)). flat (slice_get xs n) ≡ Some v) e h }

pub list_on : {a b c : Products} → ListAdds a b → ListAdds b c → ListAdds a c
list_on p q = record { stands = λ n v h. p.stands n v (q.stands n v h) }

pub list_takes_on : {a b c : Products} {place : ℕ} {value : Multiplied} → ListAdds a b → ListTakes b c place value → ListTakes a c place value
list_takes_on p q = record { stands = λ n v h. ⊎_elim (λ x. inl (p.stands n v x)) (λ y. inr y) (q.stands n v h) }

pub list_takes_none : {a b : Products} {place : ℕ} {value : Multiplied} → ListAdds a b → ListTakes a b place value
list_takes_none p = record { stands = λ n v h. inl (p.stands n v h) }

-- ---- lists for series
lists_push : (cs : List Products) (c : Products) → c.products.items ≡ [] → (id n : ℕ) (v : Multiplied) → in_list (slice_get (cs ++ c ∷ []) id) n ≡ Some v → in_list (slice_get cs id) n ≡ Some v
lists_push [] c e zero n v h = subst (λ (xs : List (Option Multiplied)). flat (slice_get xs n) ≡ Some v) e h
lists_push [] c e (suc id) n v h = h
lists_push (x ∷ cs) c e zero n v h = h
lists_push (x ∷ cs) c e (suc id) n v h = lists_push cs c e id n v h

pub lists_more : (cs cs' : List Products) (c : Products) → c.products.items ≡ [] → cs' ≡ cs ++ c ∷ [] → ListsAdd cs cs'
lists_more cs cs' c e p = record { stands = λ id n v h. lists_push cs c e id n v (subst (λ (xs : List Products). in_list (slice_get xs id) n ≡ Some v) p h) }

pub lists_on : {a b c : List Products} → ListsAdd a b → ListsAdd b c → ListsAdd a c
lists_on p q = record { stands = λ id n v h. p.stands id n v (q.stands id n v h) }

pub lists_same : (cs cs' : List Products) → cs' ≡ cs → ListsAdd cs cs'
lists_same cs cs' p = record { stands = λ id n v h. subst (λ (xs : List Products). in_list (slice_get xs id) n ≡ Some v) p h }

pub lists_set : (cs : List Products) (place : ℕ) (c c' : Products) (tree : ℕ) (value : Multiplied) → slice_get cs place ≡ Some c → ListTakes c c' tree value
    → (id n : ℕ) (v : Multiplied) → in_list (slice_get (set cs place c') id) n ≡ Some v
    → (in_list (slice_get cs id) n ≡ Some v) ⊎ ((id ≡ place) × (n ≡ tree) × (v ≡ value))
lists_set [] place c c' tree value e t id n v h = inl h
lists_set (x ∷ cs) zero c c' tree value e t zero n v h =
    let is : x ≡ c = cc in
    ⊎_elim (λ a. inl (subst (λ (y : Products). in_list (Some y) n ≡ Some v) (sym is) a)) (λ b. inr (refl, b.0, b.1)) (t.stands n v h)
lists_set (x ∷ cs) zero c c' tree value e t (suc id) n v h = inl h
lists_set (x ∷ cs) (suc place) c c' tree value e t zero n v h = inl h
lists_set (x ∷ cs) (suc place) c c' tree value e t (suc id) n v h =
    ⊎_elim (λ a. inl a) (λ b. inr (ap suc b.0, b.1, b.2)) (lists_set cs place c c' tree value e t id n v h)
