-- The successor where the last node that is not the least has colour 0: its parent's subtree before it, again and again.
use Rattle.std.proofs.Common.{◌≡◌, ℕ, suc, zero, ◌<◌, ◌≤◌, ◌+◌, ◌-◌, ◌⊎◌, inl, inr, List, [], ◌∷◌, ◌++◌, length, take, drop, Bool, true, false, refl, ap, ap₂, subst, sym, ◌∙◌, arith, append_assoc, append-nil, length-append, leb}
use Rattle.std.specs.List.{AllByRecursion}
use Rattle.std.proofs.lemmas.Bool.{leb-true, leb-false}
use Rattle.std.proofs.Math.Seq.{take-append_seam}
use Rattle.bs_tree.specs.SortingLaws.{by_cases}
use Rattle.bs_enum.proofs.Lists.{all_append, all_last}
use Rattle.bs_enum.specs.Successor.{turned, IsLeast}
use Rattle.bs_enum.proofs.Orders.{Lower, Upto, Below, lower_level, upto_refl}
use Rattle.bs_enum.proofs.Siblings.{after, Decreases, after_here, after_passes, after_none, none_after, decreases_at, decreases_rest, decreases_take, Bounds, replaced}
use Rattle.bs_enum.proofs.Steps.{Member, IsStep, member_rest, member_deep, upto_front, below_front, not_below_least, Parts, sooner, there, parts}

-- ---- a list turned round
turned_upto : (m : ℕ) (qs : List (ℕ × ℕ)) → Upto (turned m qs) (qs ++ turned m qs)
turned_upto zero qs = tt
turned_upto (suc m) [] = tt
turned_upto (suc m) (q ∷ qs) = inr (refl, subst (λ (w : List (ℕ × ℕ)). Upto (turned m (qs ++ q ∷ [])) w) (append_assoc qs (q ∷ []) (turned m (qs ++ q ∷ []))) (turned_upto m (qs ++ q ∷ [])))

-- what is at most itself behind a list is at most that list again and again
upto_turned : (ws qs : List (ℕ × ℕ)) → 0 < length qs → Upto ws (qs ++ ws) → Upto ws (turned (length ws) qs)
upto_turned [] qs n h = tt
upto_turned (w ∷ ws) [] n h = absurd (omega arith)
upto_turned (w ∷ ws) (q ∷ qs) n (inl h) = inl h
upto_turned (w ∷ ws) (q ∷ qs) n (inr h) =
    inr (
      h.0,
      upto_turned ws (qs ++ q ∷ []) (omega (arith, length-append qs (q ∷ [])))
          (subst (λ (v : List (ℕ × ℕ)). Upto ws v) (ap (λ (x : ℕ × ℕ). qs ++ x ∷ ws) h.0 ∙ sym (append_assoc qs (q ∷ []) ws)) h.1),
    )

turned_all : (P : ℕ × ℕ → Type 0) (m : ℕ) (qs : List (ℕ × ℕ)) → AllByRecursion P qs → AllByRecursion P (turned m qs)
turned_all P zero qs h = tt
turned_all P (suc m) [] h = tt
turned_all P (suc m) (q ∷ qs) h = (h.0, turned_all P m (qs ++ q ∷ []) (all_append P qs (q ∷ []) h.1 (h.0, tt)))

turned_parts : (n m : ℕ) (xs ys : List (ℕ × ℕ)) → n ≡ length xs + m → turned n (xs ++ ys) ≡ xs ++ turned m (ys ++ xs)
turned_parts n m [] ys e = ap₂ (λ (i : ℕ) (w : List (ℕ × ℕ)). turned i w) (let f : n ≡ m = omega arith in f) (sym (append-nil ys))
turned_parts zero m (x ∷ xs) ys e = absurd (omega arith)
turned_parts (suc n) m (x ∷ xs) ys e =
    ap (λ (w : List (ℕ × ℕ)). x ∷ w)
    (ap (turned n) (append_assoc xs ys (x ∷ [])) ∙ turned_parts n m xs (ys ++ x ∷ []) (omega arith)
    ∙ ap (λ (w : List (ℕ × ℕ)). xs ++ turned m w) (append_assoc ys (x ∷ []) xs))

turned_front : (m : ℕ) (xs ys : List (ℕ × ℕ)) → m ≤ length xs → turned m (xs ++ ys) ≡ take m xs
turned_front zero xs ys h = refl
turned_front (suc m) [] ys h = absurd (omega arith)
turned_front (suc m) (x ∷ xs) ys h = ap (λ (w : List (ℕ × ℕ)). x ∷ w) (ap (turned m) (append_assoc xs ys (x ∷ [])) ∙ turned_front m xs (ys ++ x ∷ []) (omega arith))

pub length-turned : (m : ℕ) (qs : List (ℕ × ℕ)) → 0 < length qs → length (turned m qs) ≡ m
length-turned zero qs h = refl
length-turned (suc m) [] h = absurd (omega arith)
length-turned (suc m) (q ∷ qs) h = let e = length-turned m (qs ++ q ∷ []) (omega (arith, length-append qs (q ∷ []))) in omega arith

-- ---- copies of a subtree behind it
inner_bounds : (a : ℕ) (qs : List (ℕ × ℕ)) (c : ℕ × ℕ) (cs : List (ℕ × ℕ)) → c.0 ≤ a → AllByRecursion (λ p. a < p.0) qs → Bounds qs (c ∷ cs)
inner_bounds a [] c cs e h = tt
inner_bounds a (q ∷ qs) c cs e h = (
  λ _. let l = h.0 in subst (λ (w : List (ℕ × ℕ)). Upto w (q ∷ (qs ++ c ∷ cs))) (sym (after_here q.0 c cs (omega arith))) (inl (inl (omega arith))),
  inner_bounds a qs c cs e h.1,
)

copy_bounds : (q : ℕ × ℕ) (qs : List (ℕ × ℕ)) (j : ℕ) → AllByRecursion (λ p. q.0 < p.0) qs → Bounds (q ∷ qs) (turned (suc j) (q ∷ qs))
copy_bounds q qs j h = (
  λ _. subst (λ (w : List (ℕ × ℕ)). Upto w (q ∷ (qs ++ turned (suc j) (q ∷ qs)))) (sym (after_here q.0 q (turned j (qs ++ q ∷ [])) (omega arith))) (turned_upto (suc j) (q ∷ qs)),
  inner_bounds q.0 qs q (turned j (qs ++ q ∷ [])) (omega arith) h,
)

front_bounds : (ys : List (ℕ × ℕ)) (q : ℕ × ℕ) (qs : List (ℕ × ℕ)) (j : ℕ) → AllByRecursion (λ p. q.0 < p.0) qs → Bounds (ys ++ q ∷ qs) (turned (suc j) (q ∷ qs))
front_bounds [] q qs j h = copy_bounds q qs j h
front_bounds (y ∷ ys) q qs j h = (
  λ e.
      let all = all_last (λ p. y.0 < p.0) ys (q ∷ qs) (none_after y.0 (ys ++ q ∷ qs) e) in
      subst (λ (w : List (ℕ × ℕ)). Upto w (y ∷ ((ys ++ q ∷ qs) ++ turned (suc j) (q ∷ qs))))
      (sym (after_none y.0 (turned (suc j) (q ∷ qs)) (turned_all (λ p. y.0 < p.0) (suc j) (q ∷ qs) all))) tt,
  front_bounds ys q qs j h,
)

-- the copies themselves
few_copies : (k last j : ℕ) (q : ℕ × ℕ) (qs : List (ℕ × ℕ)) (p : ℕ × ℕ) (ps : List (ℕ × ℕ)) → suc j ≤ length (q ∷ qs) → Decreases k last ((q ∷ qs) ++ p ∷ ps) → Decreases k q.0 (turned (suc j) (q ∷ qs))
few_copies k last j q qs p ps n h =
    let front : Decreases k last (q ∷ qs) = subst (Decreases k last) (take-append_seam (q ∷ qs) (p ∷ ps)) (decreases_take k last (length (q ∷ qs)) ((q ∷ qs) ++ p ∷ ps) h) in
    let same : turned (suc j) (q ∷ qs) ≡ q ∷ take j qs = ap (turned (suc j)) (sym (append-nil (q ∷ qs))) ∙ turned_front (suc j) (q ∷ qs) [] n in
    subst (Decreases k q.0) (sym same) (decreases_at k last q.0 q (take j qs) (decreases_take k last (suc j) (q ∷ qs) front) (omega arith))

copies : (fuel k last j : ℕ) (q : ℕ × ℕ) (qs : List (ℕ × ℕ)) (p : ℕ × ℕ) (ps : List (ℕ × ℕ)) → j ≤ fuel → q.0 < p.0 → AllByRecursion (λ p. q.0 < p.0) qs
    → Decreases k last ((q ∷ qs) ++ p ∷ ps) → Decreases k q.0 (turned (suc j) (q ∷ qs))
copies zero k last j q qs p ps f l a h = few_copies k last j q qs p ps (omega arith) h
copies (suc fuel) k last j q qs p ps f l a h =
    by_cases (leb (suc j) (length (q ∷ qs)))
    (λ e. few_copies k last j q qs p ps (leb-true (suc j) (length (q ∷ qs)) e) h)
    (λ e.
    let n : length (q ∷ qs) < suc j = leb-false (suc j) (length (q ∷ qs)) e in
    let i : ℕ = j - length (q ∷ qs) in
    let same : turned (suc j) (q ∷ qs) ≡ (q ∷ qs) ++ turned (suc i) (q ∷ qs) =
    ap (turned (suc j)) (sym (append-nil (q ∷ qs))) ∙ turned_parts (suc j) (suc i) (q ∷ qs) [] (omega arith)
    in
    let later : Decreases k q.0 (turned (suc i) (q ∷ qs)) = copies fuel k last i q qs p ps (omega arith) l a h in
    let whole : Decreases k last ((q ∷ qs) ++ turned (suc i) (q ∷ qs)) = replaced k last (q ∷ qs) p q ps (turned i (qs ++ q ∷ [])) h (inl l) later (copy_bounds q qs i a) in
    subst (Decreases k q.0) (sym same) (decreases_at k last q.0 q (qs ++ turned (suc i) (q ∷ qs)) whole (omega arith)))

-- the parent of p is one level above it
pub parent_level : (k last : ℕ) (q : ℕ × ℕ) (qs : List (ℕ × ℕ)) (p : ℕ × ℕ) (ps : List (ℕ × ℕ)) → AllByRecursion (λ x. p.0 ≤ x.0) qs → Decreases k last ((q ∷ qs) ++ p ∷ ps) → p.0 ≤ suc q.0
parent_level k last q [] p ps a h = h.4.1
parent_level k last q (x ∷ xs) p ps a h = let e = h.4.1 in let f = a.0 in omega arith

all_more : (a b : ℕ) (xs : List (ℕ × ℕ)) → a < b → AllByRecursion (λ x. b ≤ x.0) xs → AllByRecursion (λ x. a < x.0) xs
all_more a b [] h k = tt
all_more a b (x ∷ xs) h k = (let f = k.0 in omega arith, all_more a b xs h k.1)

copied_member : (k : ℕ) (ys : List (ℕ × ℕ)) (q : ℕ × ℕ) (qs : List (ℕ × ℕ)) (p : ℕ × ℕ) (ps : List (ℕ × ℕ)) (j : ℕ) → 1 < q.0 → q.0 < p.0 → AllByRecursion (λ x. q.0 < x.0) qs
    → Member k ((ys ++ q ∷ qs) ++ p ∷ ps) → Member k ((ys ++ q ∷ qs) ++ turned (suc j) (q ∷ qs))
copied_member k [] q qs p ps j n l a h = let e = h.0 in absurd (omega arith)
copied_member k (y ∷ ys) q qs p ps j n l a h =
    let inside : Decreases k 1 (ys ++ ((q ∷ qs) ++ p ∷ ps)) = subst (Decreases k 1) (append_assoc ys (q ∷ qs) (p ∷ ps)) h.2 in
    let r = decreases_rest k 1 ys ((q ∷ qs) ++ p ∷ ps) inside in
    (h.0, h.1, replaced k 1 (ys ++ q ∷ qs) p q ps (turned j (qs ++ q ∷ [])) h.2 (inl l) (copies j k r.0 j q qs p ps (omega arith) l a r.1) (front_bounds ys q qs j a))

pub copied_step : (k : ℕ) (ys : List (ℕ × ℕ)) (q : ℕ × ℕ) (qs : List (ℕ × ℕ)) (p : ℕ × ℕ) (zs : List (ℕ × ℕ)) → 1 < q.0 → q.0 < p.0 → p.1 ≡ 0 → AllByRecursion (λ x. p.0 ≤ x.0) qs
    → Member k ((ys ++ q ∷ qs) ++ p ∷ zs) → AllByRecursion IsLeast zs
    → IsStep k ((ys ++ q ∷ qs) ++ p ∷ zs) ((ys ++ q ∷ qs) ++ turned (suc (length zs)) (q ∷ qs))
copied_step k ys q qs p zs n l o b h z = record {
  member = copied_member k ys q qs p zs (length zs) n l a h;
  same_order =
      length-append (ys ++ q ∷ qs) (turned (suc (length zs)) (q ∷ qs)) ∙ ap (λ (i : ℕ). length (ys ++ q ∷ qs) + i) (length-turned (suc (length zs)) (q ∷ qs) (omega arith))
      ∙ sym (length-append (ys ++ q ∷ qs) (p ∷ zs));
  below = below_front (ys ++ q ∷ qs) q p (turned (length zs) (qs ++ q ∷ [])) zs (inl l);
  greatest = λ u m e c. by u m e (parts u (ys ++ q ∷ qs) p zs (member_deep k u m) z e c);
}
  where
    a : AllByRecursion (λ x. q.0 < x.0) qs
    a = all_more q.0 p.0 qs l b

    -- what a member has there is below q's level, or a sibling that is no greater than q's subtree
    top : (w : ℕ × ℕ) (ws : List (ℕ × ℕ)) (last : ℕ) → w.0 ≤ q.0 → Decreases k last ((q ∷ qs) ++ w ∷ ws) → Upto (w ∷ ws) (turned (suc (length ws)) (q ∷ qs))
    top w ws last d f =
        let passes : after q.0 (qs ++ w ∷ ws) ≡ w ∷ ws = after_passes q.0 qs (w ∷ ws) (after_none q.0 qs (all_more q.0 p.0 qs l b)) ∙ after_here q.0 w ws d in
        upto_turned (w ∷ ws) (q ∷ qs) (omega arith) (subst (λ (v : List (ℕ × ℕ)). Upto v ((q ∷ qs) ++ w ∷ ws)) passes f.3)

    inside : (w : ℕ × ℕ) (ws : List (ℕ × ℕ)) (zs : List (ℕ × ℕ)) → Member k ((zs ++ q ∷ qs) ++ w ∷ ws) → (last : ℕ) × Decreases k last ((q ∷ qs) ++ w ∷ ws)
    inside w ws [] m = let e = m.0 in absurd (omega arith)
    inside w ws (y ∷ ys) m = decreases_rest k 1 ys ((q ∷ qs) ++ w ∷ ws) (subst (Decreases k 1) (append_assoc ys (q ∷ qs) (w ∷ ws)) m.2)

    small : (w : ℕ × ℕ) → Lower w p → p.0 ≤ suc q.0 → w.0 ≤ q.0
    small w (inl c) d = omega arith
    small w (inr c) d = let f = c.1 in absurd (omega arith)

    by : (u : List (ℕ × ℕ)) → Member k u → length u ≡ length ((ys ++ q ∷ qs) ++ p ∷ zs) → Parts u (ys ++ q ∷ qs) p → Upto u ((ys ++ q ∷ qs) ++ turned (suc (length zs)) (q ∷ qs))
    by u m e (sooner f) = f (turned (suc (length zs)) (q ∷ qs))
    by u m e (there w ws d c) =
        let here = inside p zs ys h in
        let r = inside w ws ys (subst (Member k) d m) in
        let f : length ws ≡ length zs = omega (arith, ap length d, length-append (ys ++ q ∷ qs) (w ∷ ws), length-append (ys ++ q ∷ qs) (p ∷ zs)) in
        let t = top w ws r.0 (small w c (parent_level k here.0 q qs p zs b here.1)) r.1 in
        subst (λ (v : List (ℕ × ℕ)). Upto v ((ys ++ q ∷ qs) ++ turned (suc (length zs)) (q ∷ qs))) (sym d)
        (upto_front (ys ++ q ∷ qs) (w ∷ ws) (turned (suc (length zs)) (q ∷ qs)) (subst (λ (i : ℕ). Upto (w ∷ ws) (turned (suc i) (q ∷ qs))) f t))

-- ---- the last of all
pub least_of_all : (k : ℕ) (r : ℕ × ℕ) (zs u : List (ℕ × ℕ)) → r.0 ≡ 1 → r.1 ≡ 0 → AllByRecursion IsLeast zs → Member k u → length u ≡ length (r ∷ zs) → Below u (r ∷ zs) → ⊥
least_of_all k r zs [] l c z m e b = m
least_of_all k r zs (w ∷ ws) l c z m e (inl (inl b)) = let a = m.0 in omega arith
least_of_all k r zs (w ∷ ws) l c z m e (inl (inr b)) = let a = b.1 in omega arith
least_of_all k r zs (w ∷ ws) l c z m e (inr b) = not_below_least ws zs (member_deep k (w ∷ ws) m) z (omega arith) b.1
