-- The list of all trees of an order: what stands in it, and in which order.
use Rattle.std.proofs.Common.{◌≡◌, ℕ, suc, zero, ◌<◌, ◌≤◌, ◌+◌, ◌⊎◌, inl, inr, List, [], ◌∷◌, ◌++◌, length, map, ◌-◌, Bool, true, false, cond, refl, ap, ap₂, subst, sym, ◌∙◌, arith, eqb}
use Rattle.std.specs.Prelude.{filter, flat_map}
use Rattle.std.specs.List.{AllByRecursion}
use Rattle.std.specs.declared.cmp.Ordering.{Ordering}
use Rattle.std.specs.declared.cmp.Ordering.TheVariants.{Less, Equal, Greater}
use Rattle.std.specs.Ordering.{nat_cmp, ordering_then}
use Rattle.std.proofs.lemmas.Bool.{eqb-true, eqb-false}
use Rattle.std.proofs.lemmas.Bool.Decides.{nat_tests}
use Rattle.std.proofs.lemmas.Cmp.{tied_itself, nat_cmp_total}
use Rattle.bs_tree.specs.Canonical.{pair_cmp, sequence_cmp}
use Rattle.bs_tree.specs.OrderLaws.{pair_total}
use Rattle.bs_tree.specs.SortingLaws.{by_cases}
use Rattle.bs_enum.proofs.Lists.{IsIn, in_map, in_flat, in_filter, all_map, all_flat, all_kept, all_weaker, Falls, falls_map, falls_flat, falls_filter}
use Rattle.bs_enum.specs.AllTrees.{is_canonical, numbers_down, pairs_down, lists_of, all_trees}
use Rattle.bs_enum.proofs.Siblings.{Decreases}
use Rattle.bs_enum.proofs.Steps.{Member}
use Rattle.bs_enum.proofs.Forests.{member_from, member_is_canonical}

-- ---- numbers and pairs
in_numbers : (n i : ℕ) → i < n → IsIn i (numbers_down n)
in_numbers zero i h = absurd (omega arith)
in_numbers (suc n) i h = by_cases (eqb i n) (λ e. inl (eqb-true i n e)) (λ e. let k = eqb-false i n e in inr (in_numbers n i (omega arith)))

numbers_below : (n m : ℕ) → n ≤ m → AllByRecursion (λ i. i < m) (numbers_down n)
numbers_below zero m h = tt
numbers_below (suc n) m h = (omega arith, numbers_below n m (omega arith))

nat_cmp-less : (m n : ℕ) → m < n → nat_cmp m n ≡ Less
nat_cmp-less m n h = grind (arith, nat_tests)

nat_cmp-less_from : (m n : ℕ) → nat_cmp m n ≡ Less → m < n
nat_cmp-less_from m n h = grind (arith, nat_tests)

numbers_fall : (n : ℕ) → Falls nat_cmp (numbers_down n)
numbers_fall zero = tt
numbers_fall (suc n) = (all_weaker (λ i. i < n) (λ i. nat_cmp i n ≡ Less) (numbers_down n) (λ i h. nat_cmp-less i n h) (numbers_below n n (omega arith)), numbers_fall n)

in_pairs : (n k : ℕ) (p : ℕ × ℕ) → 1 ≤ p.0 → p.0 ≤ n → p.1 < k → IsIn p (pairs_down n k)
in_pairs n k p a b c =
    let here : IsIn p (map (λ colour. let q : ℕ × ℕ = (suc (p.0 - 1), colour) in q) (numbers_down k)) =
    subst (λ (q : ℕ × ℕ). IsIn q (map (λ colour. let q : ℕ × ℕ = (suc (p.0 - 1), colour) in q) (numbers_down k))) (ap (λ (l : ℕ). let q : ℕ × ℕ = (l, p.1) in q) (let e : suc (p.0 - 1) ≡ p.0 = omega arith in e))
    (in_map (λ colour. let q : ℕ × ℕ = (suc (p.0 - 1), colour) in q) p.1 (numbers_down k) (in_numbers k p.1 c))
    in
    in_flat (λ level. map (λ colour. let q : ℕ × ℕ = (suc level, colour) in q) (numbers_down k)) (p.0 - 1) p (numbers_down n) (in_numbers n (p.0 - 1) (omega arith)) here

pairs_coloured : (n k : ℕ) → AllByRecursion (λ p. p.1 < k) (pairs_down n k)
pairs_coloured n k =
    all_flat (λ (i : ℕ). i < n) (λ (p : ℕ × ℕ). p.1 < k) (λ level. map (λ colour. let q : ℕ × ℕ = (suc level, colour) in q) (numbers_down k)) (numbers_down n)
    (λ level _. all_map (λ (i : ℕ). i < k) (λ (p : ℕ × ℕ). p.1 < k) (λ colour. let q : ℕ × ℕ = (suc level, colour) in q) (numbers_down k) (λ i h. h) (numbers_below k k (omega arith)))
    (numbers_below n n (omega arith))

pairs_fall : (n k : ℕ) → Falls pair_cmp (pairs_down n k)
pairs_fall n k =
    falls_flat nat_cmp pair_cmp (λ level. map (λ colour. let q : ℕ × ℕ = (suc level, colour) in q) (numbers_down k)) (numbers_down n)
    (λ level. falls_map nat_cmp pair_cmp (λ colour. let q : ℕ × ℕ = (suc level, colour) in q) (numbers_down k) (λ c d e. rw (tied_itself nat_cmp_total (suc level)) e) (numbers_fall k))
    (λ l m e.
    let h : suc m < suc l = let f = nat_cmp-less_from m l e in omega arith in
    all_map (λ (i : ℕ). i < k) (λ (a : ℕ × ℕ). AllByRecursion (λ b. pair_cmp b a ≡ Less) (map (λ colour. let q : ℕ × ℕ = (suc m, colour) in q) (numbers_down k))) (λ colour. let q : ℕ × ℕ = (suc l, colour) in q) (numbers_down k)
    (λ i _. all_map (λ (j : ℕ). j < k) (λ (b : ℕ × ℕ). pair_cmp b (suc l, i) ≡ Less) (λ colour. let q : ℕ × ℕ = (suc m, colour) in q) (numbers_down k) (λ j _. rw (nat_cmp-less (suc m) (suc l) h) refl) (numbers_below k k (omega arith)))
    (numbers_below k k (omega arith)))
    (numbers_fall n)

-- ---- all lists of pairs
in_lists : (ps : List (ℕ × ℕ)) (m : ℕ) (s : List (ℕ × ℕ)) → AllByRecursion (λ p. IsIn p ps) s → length s ≡ m → IsIn s (lists_of ps m)
in_lists ps zero [] h e = inl refl
in_lists ps zero (p ∷ s) h e = absurd (omega arith)
in_lists ps (suc m) [] h e = absurd (omega arith)
in_lists ps (suc m) (p ∷ s) h e =
    in_flat (λ q. map (λ (u : List (ℕ × ℕ)). q ∷ u) (lists_of ps m)) p (p ∷ s) ps h.0 (in_map (λ (u : List (ℕ × ℕ)). p ∷ u) s (lists_of ps m) (in_lists ps m s h.1 (omega arith)))

record IsMade (Q : ℕ × ℕ → Type 0) (m : ℕ) (s : List (ℕ × ℕ)) : Type 0 where
  size : length s ≡ m
  pairs : AllByRecursion Q s

lists_made : (Q : ℕ × ℕ → Type 0) (ps : List (ℕ × ℕ)) (m : ℕ) → AllByRecursion Q ps → AllByRecursion (IsMade Q m) (lists_of ps m)
lists_made Q ps zero h = (record { size = refl; pairs = tt }, tt)
lists_made Q ps (suc m) h =
    all_flat Q (IsMade Q (suc m)) (λ q. map (λ (u : List (ℕ × ℕ)). q ∷ u) (lists_of ps m)) ps
    (λ q a. all_map (IsMade Q m) (IsMade Q (suc m)) (λ (u : List (ℕ × ℕ)). q ∷ u) (lists_of ps m) (λ u b. record { size = ap suc b.size; pairs = (a, b.pairs) }) (lists_made Q ps m h)) h

lists_fall : (ps : List (ℕ × ℕ)) (m : ℕ) → Falls pair_cmp ps → Falls sequence_cmp (lists_of ps m)
lists_fall ps zero h = (tt, tt)
lists_fall ps (suc m) h =
    falls_flat pair_cmp sequence_cmp (λ q. map (λ (u : List (ℕ × ℕ)). q ∷ u) (lists_of ps m)) ps
    (λ q. falls_map sequence_cmp sequence_cmp (λ (u : List (ℕ × ℕ)). q ∷ u) (lists_of ps m) (λ u v e. rw (tied_itself pair_total q) e) (lists_fall ps m h))
    (λ p q e.
    all_map (λ (u : List (ℕ × ℕ)). Unit {0}) (λ (a : List (ℕ × ℕ)). AllByRecursion (λ b. sequence_cmp b a ≡ Less) (map (λ (u : List (ℕ × ℕ)). q ∷ u) (lists_of ps m))) (λ (u : List (ℕ × ℕ)). p ∷ u) (lists_of ps m)
    (λ u _. all_map (λ (v : List (ℕ × ℕ)). Unit {0}) (λ (b : List (ℕ × ℕ)). sequence_cmp b (p ∷ u) ≡ Less) (λ (v : List (ℕ × ℕ)). q ∷ v) (lists_of ps m) (λ v _. rw e refl) (every (lists_of ps m)))
    (every (lists_of ps m)))
    h
  where
    every : (us : List (List (ℕ × ℕ))) → AllByRecursion (λ _. Unit {0}) us
    every [] = tt
    every (u ∷ us) = (tt, every us)

-- ---- all trees
pub trees_fall : (n k : ℕ) → Falls sequence_cmp (all_trees n k)
unfolding all_trees
trees_fall n k = falls_filter sequence_cmp is_canonical (lists_of (pairs_down n k) n) (lists_fall (pairs_down n k) n (pairs_fall n k))

-- a member of the list
pub record IsOfOrder (n k : ℕ) (s : List (ℕ × ℕ)) : Type 0 where
  pub member : Member k s
  pub size : length s ≡ n

pub trees_are_members : (n k : ℕ) → AllByRecursion (IsOfOrder n k) (all_trees n k)
unfolding all_trees
trees_are_members n k =
    all_kept is_canonical (IsMade (λ p. p.1 < k) n) (IsOfOrder n k) (lists_of (pairs_down n k) n) (λ s e m. record { member = member_from k s e m.pairs; size = m.size })
    (lists_made (λ p. p.1 < k) (pairs_down n k) n (pairs_coloured n k))

decreases_pairs : (n k last : ℕ) (xs : List (ℕ × ℕ)) → Decreases k last xs → last + length xs ≤ n → AllByRecursion (λ p. IsIn p (pairs_down n k)) xs
decreases_pairs n k last [] h m = tt
decreases_pairs n k last (x ∷ xs) h m = let a = h.0 in let b = h.1 in (in_pairs n k x (omega arith) (omega arith) h.2, decreases_pairs n k x.0 xs h.4 (omega arith))

member_pairs : (n k : ℕ) (s : List (ℕ × ℕ)) → Member k s → length s ≡ n → AllByRecursion (λ p. IsIn p (pairs_down n k)) s
member_pairs n k [] h e = tt
member_pairs n k (r ∷ rest) h e = let a = h.0 in (in_pairs n k r (omega arith) (omega arith) h.1, decreases_pairs n k 1 rest h.2 (omega arith))

pub listed : (n k : ℕ) (s : List (ℕ × ℕ)) → IsOfOrder n k s → IsIn s (all_trees n k)
unfolding all_trees
listed n k s h = in_filter is_canonical s (lists_of (pairs_down n k) n) (in_lists (pairs_down n k) n s (member_pairs n k s h.member h.size) h.size) (member_is_canonical k s h.member)
