-- The places that the search for the next sequence finds, and the sequence that it makes there.
use Rattle.std.proofs.Common.{◌≡◌, ℕ, suc, zero, ◌<◌, ◌≤◌, ◌+◌, ◌-◌, ◌⊎◌, inl, inr, List, [], ◌∷◌, ◌++◌, length, take, drop, get_or, slice_get, refl, ap, ap₂, subst, sym, ◌∙◌, arith, All, IfSome, Option, Some, None, append_assoc, leb, Bool, true, false}
use Rattle.std.specs.Prelude.{Contains}
use Rattle.std.specs.List.{AllByRecursion}
use Rattle.std.proofs.lemmas.Bool.{leb-true, leb-false}
use Rattle.std.proofs.lemmas.List.{length-take-le}
use Rattle.std.proofs.lemmas.List.Elements.{recursion_from_All}
use Rattle.bs_tree.specs.Code.{IsCode}
use Rattle.bs_tree.specs.declared.TheConstants.{MAX_NODES, COLOURS}
use Rattle.bs_enum.specs.AllTrees.{all_trees}
use Rattle.bs_enum.specs.Walk.{from_here}
use Rattle.bs_enum.specs.Successor.{chain, turned, IsLeast}
use Rattle.bs_enum.proofs.Orders.{Below}
use Rattle.bs_enum.proofs.Siblings.{Decreases, decreases_rest}
use Rattle.bs_enum.proofs.Steps.{Member, IsStep, lowered_step, member_rest}
use Rattle.bs_enum.proofs.Copies.{copied_step, least_of_all, parent_level}
use Rattle.bs_enum.proofs.Listed.{IsOfOrder}
use Rattle.bs_enum.proofs.Left.{listed_member, left_some, left_none, step_listed}
use Rattle.bs_enum.proofs.Facts.{listed_code}

-- ---- a list at a place
record IsSplit (xs : List (ℕ × ℕ)) (i : ℕ) : Type 0 where
  at : ℕ × ℕ
  got : slice_get xs i ≡ Some at
  whole : xs ≡ take i xs ++ at ∷ drop (i + 1) xs
  back : drop i xs ≡ at ∷ drop (i + 1) xs

split_suc : (x : ℕ × ℕ) (xs : List (ℕ × ℕ)) (i : ℕ) → IsSplit xs i → IsSplit (x ∷ xs) (suc i)
split_suc x xs i h =
    let e : drop (i + 1) xs ≡ drop (suc i + 1) (x ∷ xs) = ap (λ (n : ℕ). drop n (x ∷ xs)) (let f : suc (i + 1) ≡ suc i + 1 = omega arith in f) in
    record {
      at = h.at;
      got = h.got;
      whole = ap (λ (ys : List (ℕ × ℕ)). x ∷ ys) (h.whole ∙ ap (λ (ys : List (ℕ × ℕ)). take i xs ++ h.at ∷ ys) e);
      back = h.back ∙ ap (λ (ys : List (ℕ × ℕ)). h.at ∷ ys) e;
    }

split_here : (xs : List (ℕ × ℕ)) (i : ℕ) → i < length xs → IsSplit xs i
split_here [] i h = absurd (omega arith)
split_here (x ∷ xs) zero h = record { at = x; got = refl; whole = refl; back = refl }
split_here (x ∷ xs) (suc i) h = split_suc x xs i (split_here xs i (omega arith))

-- ---- the place from which the sequence changes
pub record IsPlace (s : List (ℕ × ℕ)) (place : ℕ) (front behind : List (ℕ × ℕ)) : Type 0 where
  pub within : place < length s
  pub least : All IsLeast (drop (place + 1) s)
  pub free : 0 < place → IfSome (slice_get s place) (λ pair. ¬ IsLeast pair)
  pub front_is : front ≡ take place s
  pub behind_is : behind ≡ drop place s

record IsFound (s : List (ℕ × ℕ)) (place : ℕ) (front behind : List (ℕ × ℕ)) : Type 0 where
  pair : ℕ × ℕ
  rest : List (ℕ × ℕ)
  whole : s ≡ front ++ pair ∷ rest
  behind_is : behind ≡ pair ∷ rest
  least : AllByRecursion IsLeast rest
  free : 0 < length front → ¬ IsLeast pair
  place_is : length front ≡ place

found : (s : List (ℕ × ℕ)) (place : ℕ) (front behind : List (ℕ × ℕ)) → IsPlace s place front behind → IsFound s place front behind
found s place front behind h =
    let split = split_here s place h.within in
    let size : length front ≡ place = ap length h.front_is ∙ length-take-le place s (let w = h.within in omega arith) in
    record {
      pair = split.at;
      rest = drop (place + 1) s;
      whole = split.whole ∙ ap (λ (ys : List (ℕ × ℕ)). ys ++ split.at ∷ drop (place + 1) s) (sym h.front_is);
      behind_is = h.behind_is ∙ split.back;
      least = recursion_from_All IsLeast (drop (place + 1) s) h.least;
      free = λ n. subst (λ (o : Option (ℕ × ℕ)). IfSome o (λ pair. ¬ IsLeast pair)) split.got (h.free (omega arith));
      place_is = size;
    }

-- ---- what is made there
pub record IsNext (k : ℕ) (s t : List (ℕ × ℕ)) : Type 0 where
  pub step : from_here (length s) k (Some s) ≡ s ∷ from_here (length s) k (Some t)
  pub listed : Contains (all_trees (length s) k) t
  pub code : IsCode t

next_from : (k : ℕ) (s t : List (ℕ × ℕ)) → Contains (all_trees (length s) k) s → k ≤ COLOURS → length s ≤ MAX_NODES → IsStep k s t → IsNext k s t
next_from k s t c a b h =
    let l = step_listed (length s) k s t c h in
    record { step = left_some (length s) k s t c h; listed = l; code = listed_code (length s) k t b a l }

pub some_colour : (n k : ℕ) (s : List (ℕ × ℕ)) → Contains (all_trees n k) s → 0 < k
some_colour n k s c = by s (listed_member n k s c).member
  where
    by : (s : List (ℕ × ℕ)) → Member k s → 0 < k
    by [] m = absurd m
    by (r ∷ rest) m = let e = m.1 in omega arith

pub lowered_next : (k : ℕ) (s t front behind : List (ℕ × ℕ)) (place : ℕ) → Contains (all_trees (length s) k) s → k ≤ COLOURS → length s ≤ MAX_NODES → IsPlace s place front behind
    → 0 < (get_or behind 0 (0, 0)).1 → t ≡ front ++ ((get_or behind 0 (0, 0)).0, (get_or behind 0 (0, 0)).1 - 1) ∷ chain (get_or behind 0 (0, 0)).0 k (length behind - 1) → IsNext k s t
lowered_next k s t front behind place c a b h n e =
    let f = found s place front behind h in
    let pair : get_or behind 0 (0, 0) ≡ f.pair = ap (λ (ys : List (ℕ × ℕ)). get_or ys 0 (0, 0)) f.behind_is in
    let more : length behind - 1 ≡ length f.rest = let g : length behind ≡ suc (length f.rest) = ap length f.behind_is in omega arith in
    let m = listed_member (length s) k s c in
    let step : IsStep k s (front ++ (f.pair.0, f.pair.1 - 1) ∷ chain f.pair.0 k (length f.rest)) =
    subst (λ (u : List (ℕ × ℕ)). IsStep k u (front ++ (f.pair.0, f.pair.1 - 1) ∷ chain f.pair.0 k (length f.rest))) (sym f.whole)
    (lowered_step k front f.pair.0 f.pair.1 f.rest (subst (λ (p : ℕ × ℕ). 0 < p.1) pair n) (subst (Member k) f.whole m.member) f.least)
    in
    let same : t ≡ front ++ (f.pair.0, f.pair.1 - 1) ∷ chain f.pair.0 k (length f.rest) =
    e ∙ ap₂ (λ (p : ℕ × ℕ) (i : ℕ). front ++ (p.0, p.1 - 1) ∷ chain p.0 k i) pair more
    in
    next_from k s t c a b (subst (IsStep k s) (sym same) step)

-- a node behind the root that is not the least, of colour 0, has level 3 at least
deep_enough : (k : ℕ) (front : List (ℕ × ℕ)) (p : ℕ × ℕ) (rest : List (ℕ × ℕ)) → Member k (front ++ p ∷ rest) → 0 < length front → (¬ IsLeast p) → p.1 ≡ 0 → 2 < p.0
deep_enough k [] p rest m n f z = absurd (omega arith)
deep_enough k (r ∷ front) p rest m n f z =
    let d = decreases_rest k 1 front (p ∷ rest) m.2 in
    let low = d.1.0 in
    by (leb p.0 2) refl low
  where
    by : (b : Bool) → leb p.0 2 ≡ b → 2 ≤ p.0 → 2 < p.0
    by true e low = let h = leb-true p.0 2 e in absurd (f (omega arith, z))
    by false e low = let h = leb-false p.0 2 e in h

pub root_above : (k : ℕ) (s front behind : List (ℕ × ℕ)) (place : ℕ) → Contains (all_trees (length s) k) s → IsPlace s place front behind → 0 < place
    → (get_or behind 0 (0, 0)).1 ≡ 0 → IfSome (slice_get front 0) (λ root. root.0 < (get_or behind 0 (0, 0)).0)
root_above k s front behind place c h n z =
    let f = found s place front behind h in
    let pair : get_or behind 0 (0, 0) ≡ f.pair = ap (λ (ys : List (ℕ × ℕ)). get_or ys 0 (0, 0)) f.behind_is in
    let some : 0 < length front = omega (arith, f.place_is) in
    let member : Member k (front ++ f.pair ∷ f.rest) = subst (Member k) f.whole (listed_member (length s) k s c).member in
    let low : 2 < (get_or behind 0 (0, 0)).0 = subst (λ (p : ℕ × ℕ). 2 < p.0) (sym pair) (deep_enough k front f.pair f.rest member some (f.free some) (subst (λ (p : ℕ × ℕ). p.1 ≡ 0) pair z)) in
    by front f.pair f.rest member low
  where
    by : (front : List (ℕ × ℕ)) (p : ℕ × ℕ) (rest : List (ℕ × ℕ)) → Member k (front ++ p ∷ rest) → 2 < (get_or behind 0 (0, 0)).0 → IfSome (slice_get front 0) (λ root. root.0 < (get_or behind 0 (0, 0)).0)
    by [] p rest m l = tt
    by (r ∷ front) p rest m l = let e = m.0 in omega arith

-- the parent is not the root
parent_is : (k : ℕ) (ys : List (ℕ × ℕ)) (q : ℕ × ℕ) (qs : List (ℕ × ℕ)) (p : ℕ × ℕ) (rest : List (ℕ × ℕ)) → 2 < p.0 → q.0 < p.0 → AllByRecursion (λ x. p.0 ≤ x.0) qs → Member k ((ys ++ q ∷ qs) ++ p ∷ rest) → 1 < q.0
parent_is k [] q [] p rest l u a m = let e = m.2.1 in let f = m.0 in omega arith
parent_is k [] q (x ∷ xs) p rest l u a m = let e = m.2.1 in let f = m.0 in let g = a.0 in absurd (omega arith)
parent_is k (y ∷ ys) q qs p rest l u a m =
    let d = decreases_rest k 1 ys ((q ∷ qs) ++ p ∷ rest) (subst (Decreases k 1) (append_assoc ys (q ∷ qs) (p ∷ rest)) m.2) in
    let e = parent_level k d.0 q qs p rest a d.1 in omega arith

pub copied_next : (k : ℕ) (s t front behind : List (ℕ × ℕ)) (place parent : ℕ) → Contains (all_trees (length s) k) s → k ≤ COLOURS → length s ≤ MAX_NODES → IsPlace s place front behind → 0 < place
    → (get_or behind 0 (0, 0)).1 ≡ 0 → parent < length front → IfSome (slice_get front parent) (λ pair. pair.0 < (get_or behind 0 (0, 0)).0)
    → All (λ pair. (get_or behind 0 (0, 0)).0 ≤ pair.0) (drop (parent + 1) front) → t ≡ front ++ turned (length behind) (drop parent front) → IsNext k s t
copied_next k s t front behind place parent c a b h n z w above between e =
    let f = found s place front behind h in
    let pair : get_or behind 0 (0, 0) ≡ f.pair = ap (λ (ys : List (ℕ × ℕ)). get_or ys 0 (0, 0)) f.behind_is in
    let split = split_here front parent w in
    let q = split.at in
    let ys = take parent front in
    let qs = drop (parent + 1) front in
    let some : 0 < length front = omega arith in
    let member : Member k (front ++ f.pair ∷ f.rest) = subst (Member k) f.whole (listed_member (length s) k s c).member in
    let none : f.pair.1 ≡ 0 = subst (λ (p : ℕ × ℕ). p.1 ≡ 0) pair z in
    let low : 2 < f.pair.0 = deep_enough k front f.pair f.rest member some (f.free some) none in
    let up : q.0 < f.pair.0 = subst (λ (p : ℕ × ℕ). q.0 < p.0) pair (subst (λ (o : Option (ℕ × ℕ)). IfSome o (λ pair. pair.0 < (get_or behind 0 (0, 0)).0)) split.got above) in
    let inner : AllByRecursion (λ x. f.pair.0 ≤ x.0) qs =
    recursion_from_All (λ (x : ℕ × ℕ). f.pair.0 ≤ x.0) qs (subst (λ (p : ℕ × ℕ). All (λ x. p.0 ≤ x.0) qs) pair between)
    in
    let whole : s ≡ (ys ++ q ∷ qs) ++ f.pair ∷ f.rest = f.whole ∙ ap (λ (v : List (ℕ × ℕ)). v ++ f.pair ∷ f.rest) split.whole in
    let parent_low : 1 < q.0 = parent_is k ys q qs f.pair f.rest low up inner (subst (Member k) whole (listed_member (length s) k s c).member) in
    let step = copied_step k ys q qs f.pair f.rest parent_low up none inner (subst (Member k) whole (listed_member (length s) k s c).member) f.least in
    let same : t ≡ (ys ++ q ∷ qs) ++ turned (suc (length f.rest)) (q ∷ qs) =
    e ∙ ap₂ (λ (v u : List (ℕ × ℕ)). v ++ turned (length behind) u) split.whole split.back ∙ ap (λ (i : ℕ). (ys ++ q ∷ qs) ++ turned i (q ∷ qs)) (ap length f.behind_is)
    in
    let step' : IsStep k s ((ys ++ q ∷ qs) ++ turned (suc (length f.rest)) (q ∷ qs)) =
    subst (λ (u : List (ℕ × ℕ)). IsStep k u ((ys ++ q ∷ qs) ++ turned (suc (length f.rest)) (q ∷ qs))) (sym whole) step
    in
    next_from k s t c a b (subst (IsStep k s) (sym same) step')

pub none_next : (k : ℕ) (s front behind : List (ℕ × ℕ)) (place : ℕ) → Contains (all_trees (length s) k) s → IsPlace s place front behind → place ≡ 0 → (get_or behind 0 (0, 0)).1 ≡ 0
    → from_here (length s) k (Some s) ≡ s ∷ from_here (length s) k None
none_next k s front behind place c h n z =
    let f = found s place front behind h in
    let pair : get_or behind 0 (0, 0) ≡ f.pair = ap (λ (ys : List (ℕ × ℕ)). get_or ys 0 (0, 0)) f.behind_is in
    let none : f.pair.1 ≡ 0 = subst (λ (p : ℕ × ℕ). p.1 ≡ 0) pair z in
    let whole : s ≡ f.pair ∷ f.rest = f.whole ∙ ap (λ (v : List (ℕ × ℕ)). v ++ f.pair ∷ f.rest) (empty front (omega (arith, f.place_is))) in
    let root = subst (Member k) whole (listed_member (length s) k s c).member in
    left_none (length s) k s c
    (λ u m e b. least_of_all k f.pair f.rest u root.0 none f.least m (e ∙ ap length whole) (subst (Below u) whole b))
  where
    empty : (xs : List (ℕ × ℕ)) → length xs ≡ 0 → xs ≡ []
    empty [] e = refl
    empty (x ∷ xs) e = absurd (omega arith)

-- ---- as the search knows it: the pairs of a code, and the place that was found
pub record IsSearch (k : ℕ) (code ps : List (ℕ × ℕ)) (place : ℕ) (front behind : List (ℕ × ℕ)) : Type 0 where
  pub same : ps ≡ code
  pub listed : Contains (all_trees (length code) k) code
  pub few : k ≤ COLOURS
  pub small : length ps ≤ MAX_NODES
  pub place_is : IsPlace ps place front behind

pairs_listed : (k : ℕ) (code ps front behind : List (ℕ × ℕ)) (place : ℕ) → IsSearch k code ps place front behind → Contains (all_trees (length ps) k) ps
pairs_listed k code ps front behind place h = subst (λ (s : List (ℕ × ℕ)). Contains (all_trees (length s) k) s) (sym h.same) h.listed

pub lowered_found : (k : ℕ) (code ps t front behind : List (ℕ × ℕ)) (place : ℕ) → IsSearch k code ps place front behind → 0 < (get_or behind 0 (0, 0)).1
    → t ≡ front ++ ((get_or behind 0 (0, 0)).0, (get_or behind 0 (0, 0)).1 - 1) ∷ chain (get_or behind 0 (0, 0)).0 k (length behind - 1) → IsNext k code t
lowered_found k code ps t front behind place h n e =
    subst (λ (s : List (ℕ × ℕ)). IsNext k s t) h.same (lowered_next k ps t front behind place (pairs_listed k code ps front behind place h) h.few h.small h.place_is n e)

pub root_found : (k : ℕ) (code ps front behind : List (ℕ × ℕ)) (place : ℕ) → IsSearch k code ps place front behind → 0 < place → (get_or behind 0 (0, 0)).1 ≡ 0
    → IfSome (slice_get front 0) (λ root. root.0 < (get_or behind 0 (0, 0)).0)
root_found k code ps front behind place h n z = root_above k ps front behind place (pairs_listed k code ps front behind place h) h.place_is n z

pub copied_found : (k : ℕ) (code ps t front behind : List (ℕ × ℕ)) (place parent : ℕ) → IsSearch k code ps place front behind → 0 < place → (get_or behind 0 (0, 0)).1 ≡ 0
    → parent < length front → IfSome (slice_get front parent) (λ pair. pair.0 < (get_or behind 0 (0, 0)).0)
    → All (λ pair. (get_or behind 0 (0, 0)).0 ≤ pair.0) (drop (parent + 1) front) → t ≡ front ++ turned (length behind) (drop parent front) → IsNext k code t
copied_found k code ps t front behind place parent h n z w above between e =
    subst (λ (s : List (ℕ × ℕ)). IsNext k s t) h.same
    (copied_next k ps t front behind place parent (pairs_listed k code ps front behind place h) h.few h.small h.place_is n z w above between e)

pub none_found : (k : ℕ) (code ps front behind : List (ℕ × ℕ)) (place : ℕ) → IsSearch k code ps place front behind → place ≡ 0 → (get_or behind 0 (0, 0)).1 ≡ 0
    → from_here (length code) k (Some code) ≡ code ∷ from_here (length code) k None
none_found k code ps front behind place h n z =
    subst (λ (s : List (ℕ × ℕ)). from_here (length s) k (Some s) ≡ s ∷ from_here (length s) k None) h.same
    (none_next k ps front behind place (pairs_listed k code ps front behind place h) h.place_is n z)
