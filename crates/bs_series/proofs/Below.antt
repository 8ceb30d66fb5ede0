-- Each factor of a plan is a series with a smaller expression, or the same series at a smaller tree.
use Rattle.std.proofs.Common.{◌≡◌, ℕ, suc, zero, ◌+◌, ◌<◌, ◌≤◌, List, [], ◌∷◌, map, length, Option, Some, None, replicate, inl, inr, arith, refl, sym, subst}
use Rattle.bs_frac.specs.Fraction.{Fraction, whole}
use Rattle.bs_frac.specs.Written.{Term, add, subtract}
use Rattle.bs_tree.specs.Tree.{Tree, nodes, order, forest}
use Rattle.bs_split.specs.Splitting.{Split, splits, init}
use Rattle.bs_part.specs.Partition.{Part, parts, tail}
use Rattle.bs_series.specs.Series.{Series, exact, identity, method, compose, inverse, adjoint, average, substitute, modified, modifying, scale, empty_value, size}
use Rattle.bs_series.specs.Plan.{Factor, fixed, at, turned, turned_factors, plan, kept_factor, split_factors, part_factors, term_factors, IsBelow, OnFactor, divisor_factors, BelowPlan}
use Rattle.bs_tree.specs.ListLaws.{all_map, all_append, all_flat_map, all_both, all_front}
use Rattle.bs_split.specs.SplittingLaws.{OnSome, split_shape, KeepsSmaller, order_kept, split_balanced}
use Rattle.bs_part.specs.PartitionLaws.{part_shape, part_balanced, part_nodes, KeepsSmaller as PartSmaller}
use Rattle.std.specs.List.{AllByRecursion, flat_map}

abbrev OnTerm : Series → Tree → Term (Factor Tree) → Type 0
OnTerm s t r = AllByRecursion (OnFactor (IsBelow s t)) (term_factors r)

-- ---- no tree of an item is larger than the whole
within_forest : (n : ℕ) (ts : List Tree) → nodes (forest ts) ≤ n → AllByRecursion (λ u. order u ≤ n) ts
within_forest n [] h = tt
within_forest n (t ∷ ts) h = (omega (arith, h), within_forest n ts (omega (arith, h)))

length-le-nodes : (ts : List Tree) → length ts ≤ nodes (forest ts)
length-le-nodes [] = omega arith
length-le-nodes (t ∷ ts) = omega (arith, length-le-nodes ts)

abbrev SplitAdds : Tree → Split → Type 0
SplitAdds t i = order_kept i.kept + nodes (forest i.forest) ≡ order t

abbrev PartAdds : Tree → Part → Type 0
PartAdds t p = (nodes (forest p.parts) ≡ order t) × (order p.skeleton ≡ length p.parts)

parts_add : (t : Tree) → AllByRecursion (PartAdds t) (parts t)
parts_add t = all_both (λ p. nodes (forest p.parts) ≡ order t) (λ p. order p.skeleton ≡ length p.parts) (PartAdds t) (λ p h k. (h, k)) (parts t) (part_balanced t) (part_nodes t)

skeleton_within : (t : Tree) (p : Part) → PartAdds t p → order p.skeleton ≤ order t
skeleton_within t p h = omega (arith, h.0, h.1, length-le-nodes p.parts)

abbrev SplitBoth : Tree → Split → Type 0
SplitBoth t i = OnSome (KeepsSmaller (order t)) i.kept × SplitAdds t i

abbrev PartBoth : Tree → Part → Type 0
PartBoth t p = AllByRecursion (PartSmaller (order t)) p.parts × PartAdds t p

all_but_last : (t : Tree) → AllByRecursion (SplitBoth t) (init (splits t))
all_but_last t =
    let s = split_shape t in
    subst (λ (is : List Split). AllByRecursion (SplitBoth t) is) (sym s.init_is)
    (all_both (λ i. OnSome (KeepsSmaller (order t)) i.kept) (SplitAdds t) (SplitBoth t) (λ i h k. (h, k)) s.before s.smaller
    (all_front (SplitAdds t) s.before _ (subst (λ (is : List Split). AllByRecursion (SplitAdds t) is) s.is (split_balanced t))))

all_but_first : (t : Tree) → AllByRecursion (PartBoth t) (tail (parts t))
all_but_first t =
    let s = part_shape t in
    let adds = subst (λ (ps : List Part). AllByRecursion (PartAdds t) ps) s.is (parts_add t) in
    subst (λ (ps : List Part). AllByRecursion (PartBoth t) ps) (sym s.tail_is)
    (all_both (λ p. AllByRecursion (PartSmaller (order t)) p.parts) (PartAdds t) (PartBoth t) (λ p h k. (h, k)) s.after s.smaller adds.1)

module _ (s : Series) (t : Tree) where
  abbrev P : Factor Tree → Type 0
  P = OnFactor (IsBelow s t)

  all_at : (a : Series) → size a < size s → (ts : List Tree) → AllByRecursion (λ u. order u ≤ order t) ts → AllByRecursion P (map (at a) ts)
  all_at a h [] k = tt
  all_at a h (u ∷ us) k = (inl (h, k.0), all_at a h us k.1)

  all_turned : (a : Series) → size a < size s → (ts : List Tree) → AllByRecursion (λ u. order u ≤ order t) ts → AllByRecursion P (map (turned a) ts)
  all_turned a h [] k = tt
  all_turned a h (u ∷ us) k = (inl (h, k.0), all_turned a h us k.1)

  all_smaller : (ts : List Tree) → AllByRecursion (PartSmaller (order t)) ts → AllByRecursion P (map (at s) ts)
  all_smaller [] k = tt
  all_smaller (u ∷ us) k = (inr (refl, k.0.smaller), all_smaller us k.1)

  kept_self : (o : Option Tree) → OnSome (KeepsSmaller (order t)) o → P (kept_factor s (whole 1) o)
  kept_self None k = tt
  kept_self (Some u) k = inr (refl, k.smaller)

  kept_other : (b : Series) (e : Fraction) → size b < size s → (o : Option Tree) → order_kept o ≤ order t → P (kept_factor b e o)
  kept_other b e h None k = tt
  kept_other b e h (Some u) k = inl (h, k)

  self_terms : (f : Split → List (Factor Tree)) → ((i : Split) → SplitBoth t i → AllByRecursion P (f i)) → AllByRecursion (OnTerm s t) (map (λ i. subtract (f i)) (init (splits t)))
  self_terms f h = all_map (OnTerm s t) (λ i. subtract (f i)) (SplitBoth t) h (init (splits t)) (all_but_last t)

  part_terms : (a : Series) → size a < size s → AllByRecursion (OnTerm s t) (map (λ p. subtract (part_factors a s p)) (tail (parts t)))
  part_terms a h =
      all_map (OnTerm s t) (λ p. subtract (part_factors a s p)) (PartBoth t) (λ p k. (inl (h, skeleton_within t p k.1), all_smaller p.parts k.0)) (tail (parts t)) (all_but_first t)

  forest_within : (i : Split) → SplitAdds t i → AllByRecursion (λ u. order u ≤ order t) i.forest
  forest_within i h = within_forest (order t) i.forest (omega (arith, h))

same_order : (t : Tree) → order t ≤ order t
same_order t = omega arith

pub size_pos : (s : Series) → 0 < size s
size_pos (exact k) = omega arith
size_pos (identity k) = omega arith
size_pos (method n k) = omega arith
size_pos (average k) = omega arith
size_pos (compose a b) = omega arith
size_pos (inverse a) = omega arith
size_pos (adjoint a) = omega arith
size_pos (substitute b a) = omega arith
size_pos (modified a) = omega arith
size_pos (modifying a) = omega arith
size_pos (scale a c) = omega arith

terms_below : (s : Series) (t : Tree) → AllByRecursion (OnTerm s t) (plan s t).terms
terms_below (exact k) t = tt
terms_below (identity k) t = tt
terms_below (method n k) t = tt
terms_below (average k) t = tt
terms_below (compose a b) t =
    let s = compose a b in
    all_map (OnTerm s t) (λ i. add (split_factors a (empty_value b) b i)) (SplitAdds t)
    (λ i k. (kept_other s t b (empty_value b) (omega arith) i.kept (omega (arith, k)), all_at s t a (omega arith) i.forest (forest_within s t i k))) (splits t) (split_balanced t)
terms_below (inverse a) t =
    let s = inverse a in
    self_terms s t (split_factors a (whole 1) s) (λ i k. (kept_self s t i.kept k.0, all_at s t a (omega arith) i.forest (forest_within s t i k.1)))
terms_below (adjoint a) t =
    let s = adjoint a in
    self_terms s t (turned_factors a s) (λ i k. (kept_self s t i.kept k.0, all_turned s t a (omega arith) i.forest (forest_within s t i k.1)))
terms_below (substitute b a) t =
    let s = substitute b a in
    all_map (OnTerm s t) (λ p. add (part_factors a b p)) (PartAdds t)
    (λ p k. (inl (omega arith, skeleton_within t p k), all_at s t b (omega arith) p.parts (within_forest (order t) p.parts (omega (arith, k.0))))) (parts t) (parts_add t)
terms_below (modified a) t = ((inl (omega arith, same_order t), tt), part_terms (modified a) t (exact 1) (omega (arith, size_pos a)))
terms_below (modifying a) t = ((inl (omega (arith, size_pos a), same_order t), tt), part_terms (modifying a) t a (omega arith))
terms_below (scale a c) t = ((inl (omega arith, same_order t), powers (order t)), tt)
  where
    powers : (n : ℕ) → AllByRecursion (OnFactor (IsBelow (scale a c) t)) (replicate n (fixed c))
    powers zero = tt
    powers (suc n) = (tt, powers n)

-- the divisor of a modifying series is a value of its operand
divisor_below : (s : Series) (t : Tree) → AllByRecursion (OnFactor (IsBelow s t)) (divisor_factors (plan s t).divisor)
divisor_below (exact k) t = tt
divisor_below (identity k) t = tt
divisor_below (average k) t = tt
divisor_below (method n k) t = tt
divisor_below (compose a b) t = tt
divisor_below (inverse a) t = tt
divisor_below (adjoint a) t = tt
divisor_below (substitute b a) t = tt
divisor_below (modified a) t = tt
divisor_below (modifying a) t = (inl (omega arith, omega arith), tt)
divisor_below (scale a c) t = tt

pub plan_below : (s : Series) (t : Tree) → BelowPlan s t
plan_below s t =
    let P = OnFactor (IsBelow s t) in
    all_append P (flat_map term_factors (plan s t).terms) (divisor_factors (plan s t).divisor)
    (all_flat_map P term_factors (OnTerm s t) (λ r h. h) (plan s t).terms (terms_below s t))
    (divisor_below s t)
