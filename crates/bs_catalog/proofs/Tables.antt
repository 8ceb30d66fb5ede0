-- One number set in a table.
use Rattle.std.proofs.Common.{◌≡◌, ℕ, zero, suc, ◌<◌, List, [], ◌∷◌, map, length, get_or, set, ◌⊎◌, inl, inr, refl, ap, sym, ◌∙◌, subst, arith}
use Rattle.bs_catalog.specs.Memo.{entry, OneSet}

module _ {R : Type 0} (v : R → List ℕ) where
  set_same : (xs : List R) (a : ℕ) (y : R) → a < length xs → get_or (map v (set xs a y)) a [] ≡ v y
  set_same [] a y h = absurd (omega arith)
  set_same (x ∷ xs) zero y h = refl
  set_same (x ∷ xs) (suc a) y h = set_same xs a y (omega arith)

  set_other : (xs : List R) (a i : ℕ) (y : R) → (i ≡ a → ⊥) → get_or (map v (set xs a y)) i [] ≡ get_or (map v xs) i []
  set_other [] a i y h = refl
  set_other (x ∷ xs) zero zero y h = absurd (h refl)
  set_other (x ∷ xs) zero (suc i) y h = refl
  set_other (x ∷ xs) (suc a) zero y h = refl
  set_other (x ∷ xs) (suc a) (suc i) y h = set_other xs a i y (λ e. h (ap suc e))

  at_row : (xs : List R) (a : ℕ) (x : R) → a < length xs → x ≡ get_or xs a x → get_or (map v xs) a [] ≡ v x
  at_row [] a x h e = absurd (omega arith)
  at_row (z ∷ xs) zero x h e = ap v (sym e)
  at_row (z ∷ xs) (suc a) x h e = at_row xs a x (omega arith) e

  same_or_not : {G : Type 0} (m n : ℕ) → (m ≡ n → G) → ((m ≡ n → ⊥) → G) → G
  same_or_not zero zero p q = p refl
  same_or_not zero (suc n) p q = q (λ e. omega (arith, e))
  same_or_not (suc m) zero p q = q (λ e. omega (arith, e))
  same_or_not (suc m) (suc n) p q = same_or_not m n (λ e. p (ap suc e)) (λ ne. q (λ e. ne (omega (arith, e))))

  -- a row of old is x, and in the new one y stands there
  pub one_set : (xs : List R) (old : List (List ℕ)) (a b value : ℕ) (x y : R) → ((i j : ℕ) → entry (map v xs) i j ≡ entry old i j)
      → a < length xs → x ≡ get_or xs a x
      → ((j : ℕ) → 0 < get_or (v y) j 0 → (get_or (v y) j 0 ≡ get_or (v x) j 0) ⊎ ((j ≡ b) × (get_or (v y) j 0 ≡ value)))
      → OneSet old (map v (set xs a y)) a b value
  one_set xs old a b value x y same lt is h = λ i j some.
      same_or_not i a
      (λ e.
      let here : get_or (map v (set xs a y)) i [] ≡ v y = ap (λ (n : ℕ). get_or (map v (set xs a y)) n []) e ∙ set_same xs a y lt in
      let now : entry (map v (set xs a y)) i j ≡ get_or (v y) j 0 = ap (λ (row : List ℕ). get_or row j 0) here in
      let before : get_or (v x) j 0 ≡ entry old i j =
      ap (λ (row : List ℕ). get_or row j 0) (sym (at_row xs a x lt is)) ∙ same a j ∙ ap (λ (n : ℕ). entry old n j) (sym e) in
      elim (h j (subst (λ (n : ℕ). 0 < n) now some)) [
        | inl k ↦ inl (now ∙ k ∙ before)
        | inr k ↦ inr (e, k.0, now ∙ k.1)
      ])
      (λ ne. inl (ap (λ (row : List ℕ). get_or row j 0) (set_other xs a i y ne) ∙ same i j))

  pub none_set : (xs : List R) (old : List (List ℕ)) (a b value : ℕ) → ((i j : ℕ) → entry (map v xs) i j ≡ entry old i j) → OneSet old (map v xs) a b value
  none_set xs old a b value same = λ i j some. inl (same i j)
