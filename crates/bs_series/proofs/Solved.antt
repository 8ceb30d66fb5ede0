-- The modified and the modifying series solve their equations, and they alone.
use Rattle.std.proofs.Common.{◌≡◌, ◌≢◌, ℕ, suc, zero, ◌*◌, ◌<◌, ◌≤◌, List, [], ◌∷◌, map, ℤ, pos, negsuc, arith, refl, sym, ◌∙◌, ap, ap₂, subst, mul-pos}
use Rattle.bs_frac.specs.Fraction.{Fraction, SameFraction, sum_of, product_of, opposite_of, whole, reciprocal_of}
use Rattle.bs_frac.specs.Written.{Arithmetic, exactly, product_all, sum_onto, less_all}
use Rattle.bs_tree.specs.Tree.{Forest, none, grow, Tree, order}
use Rattle.bs_tree.specs.Numbers.{density_of}
use Rattle.bs_part.specs.Partition.{Part, parts, leaf, tail}
use Rattle.bs_series.specs.Value.{part_term, substituted, solved_step, modified_of, modifying_of, exact_value}
use Rattle.bs_frac.proofs.Same.{same_refl, same_sym, same_trans, product_same, one_product}
use Rattle.bs_frac.proofs.Ring.{self, nat, minus, times, same}
use Rattle.bs_tree.specs.SortingLaws.{IsCanonical}
use Rattle.bs_tree.specs.ListLaws.{all_both, all_any, map_same}
use Rattle.bs_part.specs.PartitionLaws.{part_shape, KeepsSmaller}
use Rattle.bs_series.proofs.Totals.{IsFraction, sum_onto_fraction, less_all_fraction, product_from_fraction, sum_onto_total, less_all_total, less_map_same, product_map_same, add_back, take_out}
use Rattle.bs_series.proofs.Solve.{IsLocal, IsLocalSame, solution_unfold, within_keeps, unique}
use Rattle.std.specs.List.{AllByRecursion}
use Rattle.bs_series.proofs.Totals.{one_fraction, zero_fraction}

-- ---- the rule reads smaller trees alone, over any kind of number
module _ (A : Arithmetic) (outer a : Tree → A.Number) where
  pub solved_local : IsLocal (solved_step A outer a)
  solved_local x y t h =
      let s = part_shape t in
      let term : (Tree → A.Number) → Part → A.Number = part_term A outer in
      let z : A.Number = A.sum (A.of (whole 0)) (product_all A (a t ∷ [])) in
      let same : map (term x) s.after ≡ map (term y) s.after =
      map_same (term x) (term y) s.after (all_both (λ p. AllByRecursion (KeepsSmaller (order t)) p.parts) (λ _. Unit {0}) (λ p. term x p ≡ term y p)
      (λ p k _. ap (λ vs. product_all A (outer p.skeleton ∷ vs)) (map_same x y p.parts (each p.parts k))) s.after s.smaller (all_any (λ _. Unit {0}) (λ _. tt) s.after)) in
      ap (λ is. less_all A z (map (term x) is)) s.tail_is ∙ ap (less_all A z) same ∙ sym (ap (λ is. less_all A z (map (term y) is)) s.tail_is)
    where
      each : (ts : List Tree) → AllByRecursion (KeepsSmaller (order t)) ts → AllByRecursion (λ u. x u ≡ y u) ts
      each [] k = tt
      each (u ∷ us) k = (h u k.0.smaller, each us k.1)

module _ (outer a : Tree → Fraction) (fine_outer : (t : Tree) → IsFraction (outer t)) (fine : (t : Tree) → IsFraction (a t)) where
  abbrev term : (Tree → Fraction) → Part → Fraction
  term = part_term exactly outer

  abbrev others : (Tree → Fraction) → Tree → Fraction
  others b t = sum_onto exactly (whole 0) (map (term b) (tail (parts t)))

  abbrev left : (Tree → Fraction) → Tree → Fraction
  left b t = product_of (product_of (whole 1) (outer leaf)) (b t)

  abbrev once : Tree → Fraction
  once t = product_of (whole 1) (a t)

  once_fraction : (t : Tree) → IsFraction (once t)
  once_fraction t = mul-pos one_fraction (fine t)

  values_fraction : (b : Tree → Fraction) → ((u : Tree) → IsFraction (b u)) → (ts : List Tree) → AllByRecursion IsFraction (map b ts)
  values_fraction b h [] = tt
  values_fraction b h (t ∷ ts) = (h t, values_fraction b h ts)

  terms_fraction : (b : Tree → Fraction) → ((u : Tree) → IsFraction (b u)) → (ps : List Part) → AllByRecursion IsFraction (map (term b) ps)
  terms_fraction b h [] = tt
  terms_fraction b h (p ∷ ps) = (product_from_fraction (whole 1) (outer p.skeleton ∷ map b p.parts) one_fraction (fine_outer p.skeleton, values_fraction b h p.parts), terms_fraction b h ps)

  others_fraction : (b : Tree → Fraction) → ((u : Tree) → IsFraction (b u)) → (t : Tree) → IsFraction (others b t)
  others_fraction b h t = sum_onto_fraction (whole 0) (map (term b) (tail (parts t))) zero_fraction (terms_fraction b h (tail (parts t)))

  left_fraction : (b : Tree → Fraction) → ((u : Tree) → IsFraction (b u)) → (t : Tree) → IsFraction (left b t)
  left_fraction b h t = mul-pos (mul-pos one_fraction (fine_outer leaf)) (h t)

  pub step_fraction : (b : Tree → Fraction) → ((u : Tree) → IsFraction (b u)) → (t : Tree) → IsFraction (solved_step exactly outer a b t)
  step_fraction b h t = less_all_fraction (sum_of (whole 0) (once t)) (map (term b) (tail (parts t))) (mul-pos zero_fraction (once_fraction t)) (terms_fraction b h (tail (parts t)))

  substituted_same : (b : Tree → Fraction) → ((u : Tree) → IsFraction (b u)) → (t : Tree) → IsCanonical t
      → SameFraction (substituted exactly b outer t) (sum_of (sum_of (whole 0) (left b t)) (others b t))
  substituted_same b h t c =
      let s = part_shape t in
      let e : substituted exactly b outer t ≡ sum_onto exactly (sum_of (whole 0) (left b t)) (map (term b) (tail (parts t))) =
      ap (λ is. sum_onto exactly (whole 0) (map (term b) is)) s.is
      ∙ ap₂ (λ is (u : Tree). sum_onto exactly (sum_of (whole 0) (left b u)) (map (term b) is)) (sym s.tail_is) c in
      subst (λ v. SameFraction v (sum_of (sum_of (whole 0) (left b t)) (others b t))) (sym e)
      (sum_onto_total (sum_of (whole 0) (left b t)) (map (term b) (tail (parts t))) (mul-pos zero_fraction (left_fraction b h t)) (terms_fraction b h (tail (parts t))))

  step_same : (b : Tree → Fraction) → ((u : Tree) → IsFraction (b u)) → (t : Tree) → SameFraction (solved_step exactly outer a b t) (sum_of (sum_of (whole 0) (once t)) (opposite_of (others b t)))
  step_same b h t = less_all_total (sum_of (whole 0) (once t)) (map (term b) (tail (parts t))) (mul-pos zero_fraction (once_fraction t)) (terms_fraction b h (tail (parts t)))

  -- the equation at a tree, and the rule at that tree
  pub from_rule : (b : Tree → Fraction) → ((u : Tree) → IsFraction (b u)) → (t : Tree) → IsCanonical t
      → SameFraction (left b t) (solved_step exactly outer a b t) → SameFraction (substituted exactly b outer t) (a t)
  from_rule b h t c k =
      same_trans (substituted_same b h t c) (same_trans (add_back (left b t) (once t) (others b t) (left_fraction b h t) (once_fraction t) (others_fraction b h t) (same_trans k (step_same b h t))) (one_product (a t) (fine t)))

  pub to_rule : (b : Tree → Fraction) → ((u : Tree) → IsFraction (b u)) → (t : Tree) → IsCanonical t
      → SameFraction (substituted exactly b outer t) (a t) → SameFraction (left b t) (solved_step exactly outer a b t)
  to_rule b h t c k =
      same_trans (take_out (left b t) (once t) (others b t) (left_fraction b h t) (once_fraction t) (others_fraction b h t) (same_trans (same_sym (substituted_same b h t c)) (same_trans k (same_sym (one_product (a t) (fine t)))))) (same_sym (step_same b h t))

  pub solved_local_same : IsLocalSame (solved_step exactly outer a)
  solved_local_same x y t c h =
      let s = part_shape t in
      less_map_same (term x) (term y) (tail (parts t)) (sum_of (whole 0) (once t)) (sum_of (whole 0) (once t)) (same_refl (sum_of (whole 0) (once t)) (mul-pos zero_fraction (once_fraction t)))
      (subst (λ is. AllByRecursion (λ p. SameFraction (term x p) (term y p)) is) (sym s.tail_is)
      (all_both (λ p. AllByRecursion (KeepsSmaller (order t)) p.parts) (λ _. Unit {0}) (λ p. SameFraction (term x p) (term y p))
      (λ p k _. product_map_same x y p.parts (product_of (whole 1) (outer p.skeleton)) (product_of (whole 1) (outer p.skeleton))
      (same_refl (product_of (whole 1) (outer p.skeleton)) (mul-pos one_fraction (fine_outer p.skeleton))) (each p.parts k))
      s.after s.smaller (all_any (λ _. Unit {0}) (λ _. tt) s.after)))
    where
      each : (ts : List Tree) → AllByRecursion (KeepsSmaller (order t)) ts → AllByRecursion (λ u. SameFraction (x u) (y u)) ts
      each [] k = tt
      each (u ∷ us) k = (h u k.0.canonical k.0.smaller, each us k.1)

-- ---- the exact flow
density_pos : (f : Forest) → 0 < density_of f
density_pos none = omega arith
density_pos (grow c kids rest) = mul-pos (mul-pos (omega arith) (density_pos kids)) (density_pos rest)

pub exact_fraction : (t : Tree) → IsFraction (exact_value t)
exact_fraction t = mul-pos (omega arith) (density_pos t.below)

-- ---- the modified series
module _ (a : Tree → Fraction) (fine : (t : Tree) → IsFraction (a t)) where
  pub modified_fraction : (t : Tree) → IsFraction (modified_of exactly a t)
  modified_fraction t = within_keeps IsFraction (whole 0) (solved_step exactly exact_value a) zero_fraction (λ b h u. step_fraction exact_value a exact_fraction fine b h u) (order t) t

  left_one : (b : Tree → Fraction) → ((u : Tree) → IsFraction (b u)) → (t : Tree) → SameFraction (left exact_value a exact_fraction fine b t) (b t)
  left_one b h t = one_product (b t) (h t)

  pub modified_solves : (t : Tree) → IsCanonical t → SameFraction (substituted exactly (modified_of exactly a) exact_value t) (a t)
  modified_solves t c =
      let b = modified_of exactly a in
      from_rule exact_value a exact_fraction fine b modified_fraction t c
      (subst (λ v. SameFraction (left exact_value a exact_fraction fine b t) v) (solution_unfold (whole 0) (solved_step exactly exact_value a) (solved_local exactly exact_value a) t) (left_one b modified_fraction t))

  pub modified_unique : (n : ℕ) (b : Tree → Fraction) → ((u : Tree) → IsFraction (b u))
      → ((t : Tree) → IsCanonical t → order t ≤ n → SameFraction (substituted exactly b exact_value t) (a t))
      → (t : Tree) → IsCanonical t → order t ≤ n → SameFraction (b t) (modified_of exactly a t)
  modified_unique n b h solves =
      unique (whole 0) (solved_step exactly exact_value a) (solved_local exactly exact_value a) (solved_local_same exact_value a exact_fraction fine) n b
      (λ t c k. same_trans (same_sym (left_one b h t)) (to_rule exact_value a exact_fraction fine b h t c (solves t c k)))

-- ---- the modifying series
times_reciprocal : (l : Fraction) → IsFraction l → l.top ≢ pos 0 → SameFraction (product_of l (reciprocal_of l)) (whole 1)
times_reciprocal l h ne = go l.top l.bottom h ne
  where
    go : (z : ℤ) (d : ℕ) → 0 < d → z ≢ pos 0 → let y : Fraction = record { top = z; bottom = d } in SameFraction (product_of y (reciprocal_of y)) (whole 1)
    go (pos zero) d h ne = absurd (ne refl)
    go (pos (suc n)) d h ne = record {
      left = mul-pos h (let g : 0 < suc n = omega arith in g);
      right = omega arith;
      cross = same (times (times (nat (suc n)) (nat d)) (nat 1)) (times (nat 1) (nat (d * suc n))) (omega arith);
    }
    go (negsuc n) d h ne = record {
      left = mul-pos h (let g : 0 < suc n = omega arith in g);
      right = omega arith;
      cross = same (times (times (minus (nat (suc n))) (minus (nat d))) (nat 1)) (times (nat 1) (nat (d * suc n))) (omega arith);
    }

reciprocal_fraction : (l : Fraction) → IsFraction l → IsFraction (reciprocal_of l)
reciprocal_fraction l h = go l.top l.bottom h
  where
    go : (z : ℤ) (d : ℕ) → 0 < d → let y : Fraction = record { top = z; bottom = d } in IsFraction (reciprocal_of y)
    go (pos zero) d h = omega arith
    go (pos (suc n)) d h = omega arith
    go (negsuc n) d h = omega arith

module _ (l r z : Fraction) (hl : IsFraction l) (hr : IsFraction r) (hz : IsFraction z) (e : SameFraction (product_of l r) (whole 1)) where
  shuffle : SameFraction (product_of (product_of (whole 1) l) (product_of z r)) (product_of (product_of l r) z)
  shuffle = let a = l.top in let b = l.bottom in let c = r.top in let d = r.bottom in let f = z.top in let g = z.bottom in
      record {
        left = mul-pos (mul-pos one_fraction hl) (mul-pos hz hr);
        right = mul-pos (mul-pos hl hr) hz;
        cross = same (times (times (times (nat 1) (self a)) (times (self f) (self c))) (nat ((b * d) * g))) (times (times (times (self a) (self c)) (self f)) (nat ((1 * b) * (g * d)))) (omega arith);
      }

  shuffle' : SameFraction (product_of (product_of (product_of (whole 1) l) z) r) (product_of (product_of l r) z)
  shuffle' = let a = l.top in let b = l.bottom in let c = r.top in let d = r.bottom in let f = z.top in let g = z.bottom in
      record {
        left = mul-pos (mul-pos (mul-pos one_fraction hl) hz) hr;
        right = mul-pos (mul-pos hl hr) hz;
        cross = same (times (times (times (times (nat 1) (self a)) (self f)) (self c)) (nat ((b * d) * g))) (times (times (times (self a) (self c)) (self f)) (nat (((1 * b) * g) * d))) (omega arith);
      }

  divided : SameFraction (product_of (product_of (whole 1) l) (product_of z r)) z
  divided = same_trans shuffle (same_trans (product_same e (same_refl z hz)) (one_product z hz))

  undone : SameFraction (product_of (product_of (product_of (whole 1) l) z) r) z
  undone = same_trans shuffle' (same_trans (product_same e (same_refl z hz)) (one_product z hz))

module _ (a : Tree → Fraction) (fine : (t : Tree) → IsFraction (a t)) (solvable : (a leaf).top ≢ pos 0) where
  abbrev rule : (Tree → Fraction) → Tree → Fraction
  rule b t = product_of (solved_step exactly a exact_value b t) (reciprocal_of (a leaf))

  rule_local : IsLocal rule
  rule_local x y t h = ap (λ v. product_of v (reciprocal_of (a leaf))) (solved_local exactly a exact_value x y t h)

  turned_fraction : IsFraction (reciprocal_of (a leaf))
  turned_fraction = reciprocal_fraction (a leaf) (fine leaf)

  rule_local_same : IsLocalSame rule
  rule_local_same x y t c h = product_same (solved_local_same a exact_value fine exact_fraction x y t c h) (same_refl (reciprocal_of (a leaf)) turned_fraction)

  pub modifying_fraction : (t : Tree) → IsFraction (modifying_of exactly a t)
  modifying_fraction t = within_keeps IsFraction (whole 0) rule zero_fraction (λ b h u. mul-pos (step_fraction a exact_value fine exact_fraction b h u) turned_fraction) (order t) t

  pub modifying_solves : (t : Tree) → IsCanonical t → SameFraction (substituted exactly (modifying_of exactly a) a t) (exact_value t)
  modifying_solves t c =
      let b = modifying_of exactly a in
      let z = solved_step exactly a exact_value b t in
      from_rule a exact_value fine exact_fraction b modifying_fraction t c
      (subst (λ v. SameFraction (product_of (product_of (whole 1) (a leaf)) v) z) (sym (solution_unfold (whole 0) rule rule_local t))
      (divided (a leaf) (reciprocal_of (a leaf)) z (fine leaf) turned_fraction (step_fraction a exact_value fine exact_fraction b modifying_fraction t) (times_reciprocal (a leaf) (fine leaf) solvable)))

  pub modifying_unique : (n : ℕ) (b : Tree → Fraction) → ((u : Tree) → IsFraction (b u))
      → ((t : Tree) → IsCanonical t → order t ≤ n → SameFraction (substituted exactly b a t) (exact_value t))
      → (t : Tree) → IsCanonical t → order t ≤ n → SameFraction (b t) (modifying_of exactly a t)
  modifying_unique n b h solves =
      unique (whole 0) rule rule_local rule_local_same n b
      (λ t c k. same_trans (same_sym (undone (a leaf) (reciprocal_of (a leaf)) (b t) (fine leaf) turned_fraction (h t) (times_reciprocal (a leaf) (fine leaf) solvable)))
      (product_same (to_rule a exact_value fine exact_fraction b h t c (solves t c k)) (same_refl (reciprocal_of (a leaf)) turned_fraction)))
