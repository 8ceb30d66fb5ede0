-- What insertion makes of a list is in decreasing order.
use Rattle.std.proofs.Common.{◌≡◌, ℕ, suc, zero, ◌+◌, ◌<◌, true, false, List, [], ◌∷◌, length, get_or, refl, ap, subst, ◌∙◌, arith, IsSorted}
use Rattle.std.specs.declared.cmp.Ordering.{Ordering}
use Rattle.std.specs.declared.cmp.Ordering.TheVariants.{Less, Equal, Greater}
use Rattle.std.specs.Ordering.{ordering_reverse, is_gt, is_lt, flip_args}
use Rattle.std.specs.Cmp.{IsTotalOrder}
use Rattle.bs_tree.specs.SortingLaws.{by_cases}
use Rattle.bs_tree.proofs.SortLists.{put, sort}

gt_not_lt : (o : Ordering) → is_gt o ≡ true → is_lt o ≡ false
gt_not_lt Less h = cc
gt_not_lt Equal h = cc
gt_not_lt Greater h = refl

not_gt_lt : (o : Ordering) → is_gt o ≡ false → is_lt (ordering_reverse o) ≡ false
not_gt_lt Less h = refl
not_gt_lt Equal h = refl
not_gt_lt Greater h = cc

module _ {K : Type 0} (R : K → K → Ordering) (total : IsTotalOrder R) (exact : (x y : K) → R x y ≡ Equal → x ≡ y) where
  -- each element is at least the next, which is y for the last one
  abbrev Over : K → List K → Type 0
  Over x [] = Unit {0}
  Over x (y ∷ ys) = (is_lt (R x y) ≡ false) × Over y ys

  abbrev Down : List K → Type 0
  Down [] = Unit {0}
  Down (x ∷ xs) = Over x xs

  put_over : (z x : K) (ys : List K) → is_lt (R z x) ≡ false → Over z ys → Over z (put R total exact x ys)
  put_over z x [] h d = (h, tt)
  put_over z x (y ∷ ys) h d =
      by_cases (is_gt (R y x))
      (λ e. rw e (d.0, put_over y x ys (gt_not_lt (R y x) e) d.1))
      (λ e. let k : is_lt (R x y) ≡ false = ap is_lt (total.antisymm x y) ∙ not_gt_lt (R y x) e in rw e (h, (k, d.1)))

  put_down : (x : K) (ys : List K) → Down ys → Down (put R total exact x ys)
  put_down x [] d = tt
  put_down x (y ∷ ys) d =
      by_cases (is_gt (R y x))
      (λ e. rw e (put_over y x ys (gt_not_lt (R y x) e) d))
      (λ e. let k : is_lt (R x y) ≡ false = ap is_lt (total.antisymm x y) ∙ not_gt_lt (R y x) e in rw e (k, d))

  sort_down : (xs : List K) → Down (sort R total exact xs)
  sort_down [] = tt
  sort_down (x ∷ xs) = put_down x (sort R total exact xs) (sort_down xs)

  over_at : (x : K) (xs : List K) (k : ℕ) (d : K) → Over x xs → k < length xs → is_lt (R (get_or (x ∷ xs) k d) (get_or xs k d)) ≡ false
  over_at x [] k d h lt = absurd (omega arith)
  over_at x (y ∷ ys) zero d h lt = h.0
  over_at x (y ∷ ys) (suc k) d h lt = over_at y ys k d h.1 (omega arith)

  down_sorted : (xs : List K) → Down xs → IsSorted (flip_args R) xs
  down_sorted [] h = λ k d lo lt. absurd (omega arith)
  down_sorted (x ∷ xs) h = λ k d lo lt.
      let e : suc k ≡ k + 1 = omega arith in
      let here = over_at x xs k d h (omega arith) in
      subst (λ (n : ℕ). is_lt (R (get_or (x ∷ xs) k d) (get_or (x ∷ xs) n d)) ≡ false) e here

  pub sort-IsSorted : (xs : List K) → IsSorted (flip_args R) (sort R total exact xs)
  sort-IsSorted xs = down_sorted (sort R total exact xs) (sort_down xs)
