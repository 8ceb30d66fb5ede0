-- Products of values at trees, one tree after another.
use Rattle.std.proofs.Common.{◌≡◌, ℕ, zero, suc, ◌+◌, ◌<◌, ◌≤◌, List, [], ◌∷◌, ◌++◌, map, take, length, Some, slice_get, slice_index_or, refl, sym, ◌∙◌, ap, subst, arith, add-one}
use Rattle.std.proofs.lemmas.List.{take_all, map-append}
use Rattle.std.proofs.lemmas.Option.{slice_get-get_or}
use Rattle.bs_frac.specs.Gathered.{Multiplied, IsProductOf}
use Rattle.bs_frac.specs.declared.coef.Coef.{Coef}
use Rattle.bs_eval.proofs.Lists.{map_next}

module _ (f : ℕ → Coef) (trees : List ℕ) where
  pub first_value : (x : Multiplied) (v : Coef) → 0 < length trees → v ≡ f (slice_index_or trees 0 0) → IsProductOf x (v ∷ []) → IsProductOf x (map f (take 1 trees))
  first_value x v l e p =
      let n : map f (take 1 trees) ≡ f (slice_index_or trees 0 0) ∷ [] = map_next f trees 0 (slice_index_or trees 0 0) (slice_get-get_or trees 0 0 l) in
      subst (IsProductOf x) (ap (λ (w : Coef). w ∷ []) e ∙ sym n) p

  pub next_value : (x : Multiplied) (v : Coef) (k : ℕ) → k < length trees → v ≡ f (slice_index_or trees k 0) → IsProductOf x (map f (take k trees) ++ v ∷ []) → IsProductOf x (map f (take (k + 1) trees))
  next_value x v k l e p =
      subst (IsProductOf x) (ap (λ (w : Coef). map f (take k trees) ++ w ∷ []) e ∙ sym (map_next f trees k (slice_index_or trees k 0) (slice_get-get_or trees k 0 l))) p

  pub all_values : (x : Multiplied) (k : ℕ) → length trees ≤ k → IsProductOf x (map f (take k trees)) → IsProductOf x (map f trees)
  all_values x k l p = subst (λ (ns : List ℕ). IsProductOf x (map f ns)) (take_all k trees l) p
