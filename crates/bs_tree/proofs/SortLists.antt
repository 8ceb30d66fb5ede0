-- A list in decreasing order is what insertion makes of each of its permutations.
use Rattle.std.proofs.Common.{◌≡◌, ℕ, suc, zero, ◌+◌, ◌<◌, Bool, true, false, cond, List, [], ◌∷◌, length, get_or, set, swap, refl, ap, subst, sym, ◌∙◌, arith, inl, inr, IsPermutation, IsSorted}
use Rattle.std.specs.declared.cmp.Ordering.{Ordering}
use Rattle.std.specs.declared.cmp.Ordering.TheVariants.{Less, Equal, Greater}
use Rattle.std.specs.Ordering.{ordering_reverse, is_gt, is_lt, is_eq, flip_args}
use Rattle.std.specs.Cmp.{IsTotalOrder}
use Rattle.std.proofs.lemmas.Cmp.{tied_itself, upto}
use Rattle.std.proofs.lemmas.List.Sorted.{IsPermutation-keeps}
use Rattle.std.proofs.lemmas.List.{get_or-set_same, get_or-set_other}
use Rattle.std.proofs.lemmas.Bool.{cases_eq}
use Rattle.std.proofs.Math.ListN.{length-set}

by_cases : {G : Type 0} (b : Bool) → (b ≡ true → G) → (b ≡ false → G) → G
by_cases true p q = p refl
by_cases false p q = q refl

gt_greater : (o : Ordering) → is_gt o ≡ true → o ≡ Greater
gt_greater Less h = cc
gt_greater Equal h = cc
gt_greater Greater h = refl

neither : (o : Ordering) → is_gt o ≡ false → is_gt (ordering_reverse o) ≡ false → o ≡ Equal
neither Less h k = cc
neither Equal h k = refl
neither Greater h k = cc

lt_gt : (o : Ordering) → is_lt (ordering_reverse o) ≡ is_gt o
lt_gt Less = refl
lt_gt Equal = refl
lt_gt Greater = refl

module _ {K : Type 0} (R : K → K → Ordering) (total : IsTotalOrder R) (exact : (x y : K) → R x y ≡ Equal → x ≡ y) where
  abbrev above : K → K → Bool
  above x y = is_gt (R x y)

  abbrev pub put : K → List K → List K
  put x [] = x ∷ []
  put x (y ∷ ys) = cond (above y x) (y ∷ put x ys) (x ∷ y ∷ ys)

  abbrev pub sort : List K → List K
  sort [] = []
  sort (x ∷ xs) = put x (sort xs)

  below_less : (x y : K) → above x y ≡ true → R y x ≡ Less
  below_less x y h = total.antisymm y x ∙ ap ordering_reverse (gt_greater _ h)

  not_both : (x y : K) → above x y ≡ true → above y x ≡ false
  not_both x y h = ap is_gt (below_less x y h)

  same_from_neither : (x y : K) → above x y ≡ false → above y x ≡ false → x ≡ y
  same_from_neither x y h k = exact x y (neither _ h (ap is_gt (sym (total.antisymm y x)) ∙ k))

  above_by : (z x y : K) → above z x ≡ true → above z y ≡ false → above y x ≡ true
  above_by z x y h k =
      by_cases (above y x) (λ e. e) (λ e.
      let w : above z x ≡ false = upto total z y x k e in cc)

  put_comm : (x y : K) (zs : List K) → put x (put y zs) ≡ put y (put x zs)
  put_comm x y [] =
      by_cases (above y x)
      (λ e. let f = not_both y x e in simp (e, f))
      (λ e. by_cases (above x y)
      (λ k. simp (e, k))
      (λ k. let P : K → Type 0 = λ w. put x (put w []) ≡ put w (put x []) in subst P (same_from_neither x y k e) refl))
  put_comm x y (z ∷ zs) =
      by_cases (above z x)
      (λ zx. by_cases (above z y)
      (λ zy. simp (zx, zy) (ap (λ (ws : List K). z ∷ ws) (put_comm x y zs)))
      (λ zy. let yx = above_by z x y zx zy in simp (zx, zy, yx)))
      (λ zx. by_cases (above z y)
      (λ zy. let xy = above_by z y x zy zx in simp (zx, zy, xy))
      (λ zy. by_cases (above y x)
      (λ yx. let xy = not_both y x yx in simp (zx, zy, yx, xy))
      (λ yx. by_cases (above x y)
      (λ xy. simp (zx, zy, yx, xy))
      (λ xy. let P : K → Type 0 = λ w. put x (put w (z ∷ zs)) ≡ put w (put x (z ∷ zs)) in subst P (same_from_neither x y xy yx) refl))))

  abbrev without : K → List K → List K
  without x [] = []
  without x (y ∷ ys) = cond (is_eq (R y x)) ys (y ∷ without x ys)

  without-put : (x : K) (ys : List K) → without x (put x ys) ≡ ys
  without-put x [] = rw (tied_itself total x) refl
  without-put x (y ∷ ys) =
      by_cases (above y x)
      (λ e. let g : R y x ≡ Greater = gt_greater _ e in let ih = without-put x ys in simp (g, ih))
      (λ e. let g : R x x ≡ Equal = tied_itself total x in simp (e, g))

  put_inj : (x : K) (ys zs : List K) → put x ys ≡ put x zs → ys ≡ zs
  put_inj x ys zs h = sym (without-put x ys) ∙ ap (without x) h ∙ without-put x zs

  sort-set : (xs : List K) (i : ℕ) (v d : K) → i < length xs → put (get_or xs i d) (sort (set xs i v)) ≡ put v (sort xs)
  sort-set [] i v d h = absurd (omega arith)
  sort-set (x ∷ xs) zero v d h = put_comm x v (sort xs)
  sort-set (x ∷ xs) (suc i) v d h =
      put_comm (get_or xs i d) x (sort (set xs i v)) ∙ ap (put x) (sort-set xs i v d (omega arith)) ∙ put_comm x v (sort xs)

  sort-swap : (xs : List K) (i j : ℕ) → i < length xs → j < length xs → sort (swap xs i j) ≡ sort xs
  sort-swap [] i j h k = absurd (omega arith)
  sort-swap (d ∷ ys) i j h k =
      let l : List K = d ∷ ys in
      let a = get_or l i d in
      let b = get_or l j d in
      let m : List K = set l i b in
      let k' : j < length m = rw (length-set l i b) k in
      let e : get_or m j d ≡ b = elim (cases_eq j i) [
        | inl same ↦ rw same (get_or-set_same l i (get_or l i d) d h)
        | inr other ↦ get_or-set_other l i j b d other
      ] in
      let one : put a (sort m) ≡ put b (sort l) = sort-set l i b d h in
      let two : put (get_or m j d) (sort (set m j a)) ≡ put a (sort m) = sort-set m j a d k' in
      put_inj b (sort (set m j a)) (sort l) (ap (λ (z : K). put z (sort (set m j a))) (sym e) ∙ two ∙ one)

  pub sort-permutation : (xs ys : List K) → IsPermutation xs ys → sort ys ≡ sort xs
  sort-permutation xs ys p = IsPermutation-keeps xs (λ zs. sort zs ≡ sort xs) refl (λ l i j h k e. sort-swap l i j h k ∙ e) ys p

  sort-decreasing : (xs : List K) → IsSorted (flip_args R) xs → sort xs ≡ xs
  sort-decreasing [] h = refl
  sort-decreasing (x ∷ []) h = refl
  sort-decreasing (x ∷ y ∷ ys) h =
      let first : is_lt (R x y) ≡ false = h 0 x (omega arith) (omega arith) in
      let up : above y x ≡ false = sym (lt_gt (R y x)) ∙ ap is_lt (sym (total.antisymm x y)) ∙ first in
      let rest : IsSorted (flip_args R) (y ∷ ys) = λ k d lo lt.
      let P : ℕ → Type 0 = λ n. is_lt (flip_args R (get_or (x ∷ y ∷ ys) n d) (get_or (x ∷ y ∷ ys) (suc k) d)) ≡ false in
      subst P (let e : suc k + 1 ≡ suc (k + 1) = omega arith in e) (h (suc k) d (omega arith) (omega arith)) in
      rw (sort-decreasing (y ∷ ys) rest, up) refl

  pub sorted_is : (xs ys : List K) → IsPermutation xs ys → IsSorted (flip_args R) ys → ys ≡ sort xs
  sorted_is xs ys p h = sym (sort-decreasing ys h) ∙ sort-permutation xs ys p
