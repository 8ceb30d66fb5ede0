-- What is left of a walk: the sequence that comes, and what is left after it.
use Rattle.std.proofs.Common.{◌≡◌, ℕ, suc, zero, ◌<◌, ◌≤◌, ◌+◌, ◌-◌, ◌⊎◌, inl, inr, List, [], ◌∷◌, length, Bool, true, false, refl, ap, subst, sym, ◌∙◌, arith, Option, Some, None}
use Rattle.std.specs.Prelude.{filter, All, Contains, slice_index_or}
use Rattle.std.specs.List.{AllByRecursion}
use Rattle.std.specs.declared.cmp.Ordering.{Ordering}
use Rattle.std.specs.declared.cmp.Ordering.TheVariants.{Less, Equal, Greater}
use Rattle.std.specs.Ordering.{ordering_reverse, is_gt, is_le, is_lt}
use Rattle.std.proofs.lemmas.Cmp.{tied_itself}
use Rattle.std.proofs.lemmas.List.Elements.{All-from_recursion, recursion_from_All, All-contains}
use Rattle.bs_tree.specs.Canonical.{sequence_cmp}
use Rattle.bs_tree.specs.OrderLaws.{sequence_total}
use Rattle.bs_enum.proofs.Lists.{IsIn, Falls, all_weaker, filter_all, filter_none, contains_in, in_contains}
use Rattle.bs_enum.specs.AllTrees.{all_trees}
use Rattle.bs_enum.specs.Walk.{from_here, IsListed}
use Rattle.bs_enum.specs.Successor.{chain}
use Rattle.bs_enum.proofs.Orders.{Upto, Below, cmp_upto, below_from, cmp_below}
use Rattle.bs_enum.proofs.Siblings.{Decreases}
use Rattle.bs_enum.proofs.Steps.{Member, IsStep, first_member, first_greatest, length-chain}
use Rattle.bs_enum.proofs.Listed.{trees_fall, trees_are_members, listed, IsOfOrder}

-- a listed sequence is a member
pub listed_member : (n k : ℕ) (s : List (ℕ × ℕ)) → Contains (all_trees n k) s → IsOfOrder n k s
listed_member n k s h = All-contains (IsOfOrder n k) (all_trees n k) s (All-from_recursion (IsOfOrder n k) (all_trees n k) (trees_are_members n k)) h

pub member_listed : (n k : ℕ) (s : List (ℕ × ℕ)) → IsOfOrder n k s → Contains (all_trees n k) s
member_listed n k s h = contains_in s (all_trees n k) (listed n k s h)

-- ---- what a filter keeps
-- in a strictly decreasing list the elements up to s are s, and those that are smaller
filter_step : (xs : List (List (ℕ × ℕ))) (s : List (ℕ × ℕ)) (b : List (ℕ × ℕ) → Bool) → Falls sequence_cmp xs → IsIn s xs → AllByRecursion (λ u. b u ≡ is_lt (sequence_cmp u s)) xs
    → filter (λ u. is_le (sequence_cmp u s)) xs ≡ s ∷ filter b xs
filter_step [] s b f h a = absurd h
filter_step (x ∷ xs) s b f (inl h) a =
    let below : AllByRecursion (λ y. sequence_cmp y s ≡ Less) xs = subst (λ (z : List (ℕ × ℕ)). AllByRecursion (λ y. sequence_cmp y z ≡ Less) xs) (sym h) f.0 in
    let tied : sequence_cmp x s ≡ Equal = subst (λ (z : List (ℕ × ℕ)). sequence_cmp z s ≡ Equal) h (tied_itself sequence_total s) in
    let here : b x ≡ false = a.0 ∙ ap is_lt tied in
    let all : filter (λ u. is_le (sequence_cmp u s)) xs ≡ xs = filter_all (λ u. is_le (sequence_cmp u s)) xs (all_weaker (λ y. sequence_cmp y s ≡ Less) (λ y. is_le (sequence_cmp y s) ≡ true) xs (λ y e. ap is_le e) below) in
    let kept : filter b xs ≡ xs = filter_all b xs (both xs a.1 below) in
    rw (tied, here, all, kept) (ap (λ (z : List (ℕ × ℕ)). z ∷ xs) (sym h))
  where
    both : (ys : List (List (ℕ × ℕ))) → AllByRecursion (λ u. b u ≡ is_lt (sequence_cmp u s)) ys → AllByRecursion (λ y. sequence_cmp y s ≡ Less) ys → AllByRecursion (λ u. b u ≡ true) ys
    both [] p q = tt
    both (y ∷ ys) p q = (p.0 ∙ ap is_lt q.0, both ys p.1 q.1)
filter_step (x ∷ xs) s b f (inr h) a =
    let below : sequence_cmp s x ≡ Less = at xs f.0 h in
    let above : sequence_cmp x s ≡ Greater = sequence_total.antisymm x s ∙ ap ordering_reverse below in
    let here : b x ≡ false = a.0 ∙ ap is_lt above in
    rw (above, here) (filter_step xs s b f.1 h a.1)
  where
    at : (ys : List (List (ℕ × ℕ))) → AllByRecursion (λ y. sequence_cmp y x ≡ Less) ys → IsIn s ys → sequence_cmp s x ≡ Less
    at [] p q = absurd q
    at (y ∷ ys) p (inl q) = subst (λ (z : List (ℕ × ℕ)). sequence_cmp z x ≡ Less) (sym q) p.0
    at (y ∷ ys) p (inr q) = at ys p.1 q

-- ---- the tests of being at most t, and of being smaller than s, agree where t is the greatest below s
le_from : (o : Ordering) → is_gt o ≡ false → is_le o ≡ true
le_from Less h = refl
le_from Equal h = refl
le_from Greater h = cc

agree : (k : ℕ) (s t u : List (ℕ × ℕ)) → IsStep k s t → Member k u → length u ≡ length s → is_le (sequence_cmp u t) ≡ is_lt (sequence_cmp u s)
agree k s t u h m e = by (sequence_cmp u s) refl (sequence_cmp u t) refl
  where
    low : sequence_cmp t s ≡ Less
    low = cmp_below t s h.below

    by : (o : Ordering) → sequence_cmp u s ≡ o → (r : Ordering) → sequence_cmp u t ≡ r → is_le (sequence_cmp u t) ≡ is_lt (sequence_cmp u s)
    by Less p r q = rw p (le_from (sequence_cmp u t) (cmp_upto u t (h.greatest u m e (below_from u s p))))
    by Equal p Less q = let x = sequence_total.trans u t s q (cmp_below t s h.below) in cc
    by Equal p Equal q = let x : sequence_cmp u s ≡ sequence_cmp t s = sequence_total.congr u t s q in let y = cmp_below t s h.below in cc
    by Equal p Greater q = rw (p, q) refl
    by Greater p Less q = let x = sequence_total.trans u t s q (cmp_below t s h.below) in cc
    by Greater p Equal q = let x : sequence_cmp u s ≡ sequence_cmp t s = sequence_total.congr u t s q in let y = cmp_below t s h.below in cc
    by Greater p Greater q = rw (p, q) refl

pub left_some : (n k : ℕ) (s t : List (ℕ × ℕ)) → Contains (all_trees n k) s → IsStep k s t → from_here n k (Some s) ≡ s ∷ from_here n k (Some t)
left_some n k s t c h =
    let m = listed_member n k s c in
    filter_step (all_trees n k) s (λ u. is_le (sequence_cmp u t)) (trees_fall n k) (in_contains (all_trees n k) s c)
    (all_weaker (IsOfOrder n k) (λ u. is_le (sequence_cmp u t) ≡ is_lt (sequence_cmp u s)) (all_trees n k) (λ u o. agree k s t u h o.member (o.size ∙ sym m.size)) (trees_are_members n k))

pub left_none : (n k : ℕ) (s : List (ℕ × ℕ)) → Contains (all_trees n k) s → ((u : List (ℕ × ℕ)) → Member k u → length u ≡ length s → Below u s → ⊥) → from_here n k (Some s) ≡ s ∷ from_here n k None
left_none n k s c h =
    let m = listed_member n k s c in
    filter_step (all_trees n k) s (λ _. false) (trees_fall n k) (in_contains (all_trees n k) s c)
    (all_weaker (IsOfOrder n k) (λ u. false ≡ is_lt (sequence_cmp u s)) (all_trees n k) (λ u o. none u o.member (o.size ∙ sym m.size) (sequence_cmp u s) refl) (trees_are_members n k))
    ∙ ap (λ (ys : List (List (ℕ × ℕ))). s ∷ ys) (filter_none (all_trees n k))
  where
    none : (u : List (ℕ × ℕ)) → Member k u → length u ≡ length s → (o : Ordering) → sequence_cmp u s ≡ o → false ≡ is_lt (sequence_cmp u s)
    none u m e Less p = absurd (h u m e (below_from u s p))
    none u m e Equal p = rw p refl
    none u m e Greater p = rw p refl

-- ---- the first sequence, and the one after
first_of_order : (n k : ℕ) → 0 < n → 0 < k → IsOfOrder n k ((1, k - 1) ∷ chain 1 k (n - 1))
first_of_order n k a b = record { member = first_member k (n - 1) b; size = ap suc (length-chain 1 k (n - 1)) ∙ (let e : suc (n - 1) ≡ n = omega arith in e) }

pub first_listed : (n k : ℕ) → 0 < n → 0 < k → Contains (all_trees n k) ((1, k - 1) ∷ chain 1 k (n - 1))
first_listed n k a b = member_listed n k ((1, k - 1) ∷ chain 1 k (n - 1)) (first_of_order n k a b)

pub all_left : (n k : ℕ) → 0 < n → 0 < k → from_here n k (Some ((1, k - 1) ∷ chain 1 k (n - 1))) ≡ all_trees n k
all_left n k a b =
    let s : List (ℕ × ℕ) = (1, k - 1) ∷ chain 1 k (n - 1) in
    filter_all (λ u. is_le (sequence_cmp u s)) (all_trees n k)
    (all_weaker (IsOfOrder n k) (λ u. is_le (sequence_cmp u s) ≡ true) (all_trees n k)
    (λ u o. le_from (sequence_cmp u s) (cmp_upto u s (first_greatest k (n - 1) u o.member (o.size ∙ (let e : n ≡ suc (n - 1) = omega arith in e))))) (trees_are_members n k))

pub step_listed : (n k : ℕ) (s t : List (ℕ × ℕ)) → Contains (all_trees n k) s → IsStep k s t → Contains (all_trees n k) t
step_listed n k s t c h = let m = listed_member n k s c in member_listed n k t (record { member = h.member; size = h.same_order ∙ m.size })

-- ---- the order and the colours of a sequence that is given
decreases_coloured : (k last : ℕ) (xs : List (ℕ × ℕ)) → Decreases k last xs → AllByRecursion (λ p. p.1 < k) xs
decreases_coloured k last [] h = tt
decreases_coloured k last (x ∷ xs) h = (h.2, decreases_coloured k x.0 xs h.4)

member_coloured : (k : ℕ) (s : List (ℕ × ℕ)) → Member k s → AllByRecursion (λ p. p.1 < k) s
member_coloured k [] h = tt
member_coloured k (r ∷ rest) h = (h.1, decreases_coloured k 1 rest h.2)

pub coming_colours : (n k : ℕ) (o : Option (List (ℕ × ℕ))) (s : List (ℕ × ℕ)) → IsListed n k o → o ≡ Some s → All (λ p. p.1 < k) s
coming_colours n k o s h e =
    let m = listed_member n k s (subst (IsListed n k) e h) in All-from_recursion (λ p. p.1 < k) s (member_coloured k s m.member)

-- ---- one step of a walk
coming_listed : (n k : ℕ) (o : Option (List (ℕ × ℕ))) (s : List (ℕ × ℕ)) → IsListed n k o → o ≡ Some s → Contains (all_trees n k) s
coming_listed n k o s h e = subst (IsListed n k) e h

pub coming_size : (n k : ℕ) (o : Option (List (ℕ × ℕ))) (s : List (ℕ × ℕ)) → IsListed n k o → o ≡ Some s → length s ≡ n
coming_size n k o s h e = let m = listed_member n k s (coming_listed n k o s h e) in m.size

pub coming_by_size : (n k : ℕ) (o : Option (List (ℕ × ℕ))) (s : List (ℕ × ℕ)) → IsListed n k o → o ≡ Some s → Contains (all_trees (length s) k) s
coming_by_size n k o s h e = subst (λ (i : ℕ). Contains (all_trees i k) s) (sym (coming_size n k o s h e)) (coming_listed n k o s h e)

pub coming_next : (n k : ℕ) (o : Option (List (ℕ × ℕ))) (s : List (ℕ × ℕ)) (p : Option (List (ℕ × ℕ))) → IsListed n k o → o ≡ Some s → IsListed (length s) k p → IsListed n k p
coming_next n k o s p h e l = subst (λ (i : ℕ). IsListed i k p) (coming_size n k o s h e) l

pub coming_step : (n k : ℕ) (o : Option (List (ℕ × ℕ))) (s : List (ℕ × ℕ)) (p : Option (List (ℕ × ℕ))) → IsListed n k o → o ≡ Some s
    → from_here (length s) k (Some s) ≡ s ∷ from_here (length s) k p → from_here n k o ≡ s ∷ from_here n k p
coming_step n k o s p h e l =
    ap (from_here n k) e ∙ subst (λ (i : ℕ). from_here i k (Some s) ≡ s ∷ from_here i k p) (coming_size n k o s h e) l
