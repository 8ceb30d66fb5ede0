-- The successor of a canonical sequence is canonical, smaller, and not smaller than any other that is smaller.
use Rattle.std.proofs.Common.{◌≡◌, ℕ, suc, zero, ◌<◌, ◌≤◌, ◌+◌, ◌-◌, ◌⊎◌, inl, inr, List, [], ◌∷◌, ◌++◌, length, take, drop, Bool, true, false, refl, ap, ap₂, subst, sym, ◌∙◌, arith, append_assoc, append-nil, length-append, ltb}
use Rattle.std.specs.List.{AllByRecursion}
use Rattle.std.proofs.lemmas.Bool.{ltb-true, ltb-false}
use Rattle.bs_tree.specs.SortingLaws.{by_cases}
use Rattle.bs_enum.specs.Successor.{chain, turned, IsLeast}
use Rattle.bs_enum.proofs.Orders.{Lower, Upto, Below, Compared, lower, same, higher, compare_pairs, lower_trans, lower_level, lower_onto, upto_refl}
use Rattle.bs_enum.proofs.Siblings.{after, Decreases, after_deeper, after_here, after_passes, after_none, none_after, decreases_at, decreases_rest, decreases_take, deep, Bounds, replaced}

-- the canonical sequences with colours below k, place by place
abbrev pub Member : ℕ → List (ℕ × ℕ) → Type 0
Member k [] = ⊥
Member k (r ∷ rest) = (r.0 ≡ 1) × (r.1 < k) × Decreases k 1 rest

-- t is the greatest of those of the order of s that are smaller than s
pub record IsStep (k : ℕ) (s t : List (ℕ × ℕ)) : Type 0 where
  pub member : Member k t
  pub same_order : length t ≡ length s
  pub below : Below t s
  pub greatest : (u : List (ℕ × ℕ)) → Member k u → length u ≡ length s → Below u s → Upto u t

pub member_rest : (k : ℕ) (ys : List (ℕ × ℕ)) (w : ℕ × ℕ) (ws : List (ℕ × ℕ)) → Member k (ys ++ w ∷ ws) → Decreases k w.0 ws × (w.1 < k) × (1 ≤ w.0)
member_rest k [] w ws h = (subst (λ (l : ℕ). Decreases k l ws) (sym h.0) h.2, h.1, omega arith)
member_rest k (y ∷ ys) w ws h = let r = decreases_rest k 1 ys (w ∷ ws) h.2 in let d = r.1 in (d.4, d.2, let e = d.0 in omega arith)

pub member_deep : (k : ℕ) (u : List (ℕ × ℕ)) → Member k u → AllByRecursion (λ p. 2 ≤ p.0) (drop 1 u)
member_deep k [] h = absurd h
member_deep k (x ∷ xs) h = deep k 1 xs h.2

pub upto_front : (zs xs ys : List (ℕ × ℕ)) → Upto xs ys → Upto (zs ++ xs) (zs ++ ys)
upto_front [] xs ys h = h
upto_front (z ∷ zs) xs ys h = inr (refl, upto_front zs xs ys h)

pub below_front : (zs : List (ℕ × ℕ)) (c p : ℕ × ℕ) (cs ps : List (ℕ × ℕ)) → Lower c p → Below (zs ++ c ∷ cs) (zs ++ p ∷ ps)
below_front [] c p cs ps h = inl h
below_front (z ∷ zs) c p cs ps h = inr (refl, below_front zs c p cs ps h)

-- ---- where a smaller sequence parts from s, behind which s has the least pairs alone
pub data Parts (u ys : List (ℕ × ℕ)) (p : ℕ × ℕ) : Type 0 where
  sooner : ((cs : List (ℕ × ℕ)) → Upto u (ys ++ cs)) → Parts u ys p
  there : (w : ℕ × ℕ) (ws : List (ℕ × ℕ)) → u ≡ ys ++ w ∷ ws → Lower w p → Parts u ys p

pub not_below_least : (ws zs : List (ℕ × ℕ)) → AllByRecursion (λ p. 2 ≤ p.0) ws → AllByRecursion IsLeast zs → length ws ≡ length zs → Below ws zs → ⊥
not_below_least [] [] d z e h = h
not_below_least [] (z ∷ zs) d l e h = omega arith
not_below_least (w ∷ ws) [] d l e h = h
not_below_least (w ∷ ws) (z ∷ zs) d l e (inl (inl h)) = let a = d.0 in let b = l.0.0 in omega arith
not_below_least (w ∷ ws) (z ∷ zs) d l e (inl (inr h)) = let a = h.1 in let b = l.0.1 in omega arith
not_below_least (w ∷ ws) (z ∷ zs) d l e (inr h) = not_below_least ws zs d.1 l.1 (omega arith) h.1

deep_drop : (xs : List (ℕ × ℕ)) → AllByRecursion (λ p. 2 ≤ p.0) xs → AllByRecursion (λ p. 2 ≤ p.0) (drop 1 xs)
deep_drop [] h = tt
deep_drop (x ∷ xs) h = h.1

parts_more : (x y p : ℕ × ℕ) (xs ys : List (ℕ × ℕ)) → x ≡ y → Parts xs ys p → Parts (x ∷ xs) (y ∷ ys) p
parts_more x y p xs ys e (sooner f) = sooner (λ cs. inr (e, f cs))
parts_more x y p xs ys e (there w ws d l) = there w ws (ap₂ (λ (a : ℕ × ℕ) (as_ : List (ℕ × ℕ)). a ∷ as_) e d) l

pub parts : (u ys : List (ℕ × ℕ)) (p : ℕ × ℕ) (zs : List (ℕ × ℕ)) → AllByRecursion (λ q. 2 ≤ q.0) (drop 1 u) → AllByRecursion IsLeast zs → length u ≡ length (ys ++ p ∷ zs)
    → Below u (ys ++ p ∷ zs) → Parts u ys p
parts [] [] p zs d l e h = absurd (omega arith)
parts [] (y ∷ ys) p zs d l e h = absurd (omega arith)
parts (w ∷ ws) [] p zs d l e (inl h) = there w ws refl h
parts (w ∷ ws) [] p zs d l e (inr h) = absurd (not_below_least ws zs d l (omega arith) h.1)
parts (x ∷ xs) (y ∷ ys) p zs d l e (inl h) = sooner (λ cs. inl h)
parts (x ∷ xs) (y ∷ ys) p zs d l e (inr h) = parts_more x y p xs ys h.0 (parts xs ys p zs (deep_drop xs d) l (omega arith) h.1)

-- ---- chains
pub length-chain : (l k m : ℕ) → length (chain l k m) ≡ m
length-chain l k zero = refl
length-chain l k (suc m) = let e = length-chain (suc l) k m in omega arith

chain_deep : (i l k m : ℕ) → i ≤ l → AllByRecursion (λ p. i < p.0) (chain l k m)
chain_deep i l k zero h = tt
chain_deep i l k (suc m) h = (omega arith, chain_deep i (suc l) k m (omega arith))

chain_decreases : (k l m : ℕ) → 0 < k → 1 ≤ l → Decreases k l (chain l k m)
chain_decreases k l zero h n = tt
chain_decreases k l (suc m) h n = (
  omega arith,
  omega arith,
  omega arith,
  subst (λ (w : List (ℕ × ℕ)). Upto w (chain l k (suc m))) (sym (after_none (suc l) (chain (suc l) k m) (chain_deep (suc l) (suc l) k m (omega arith)))) tt,
  chain_decreases k (suc l) m h (omega arith),
)

pub chain_greatest : (k l : ℕ) (ws : List (ℕ × ℕ)) → Decreases k l ws → Upto ws (chain l k (length ws))
chain_greatest k l [] h = tt
chain_greatest k l (w ∷ ws) h = by (compare_pairs w (suc l, k - 1)) (λ e. chain_greatest k (suc l) ws (subst (λ (i : ℕ). Decreases k i ws) e h.4))
  where
    by : Compared w (suc l, k - 1) → (w.0 ≡ suc l → Upto ws (chain (suc l) k (length ws))) → Upto (w ∷ ws) (chain l k (suc (length ws)))
    by (lower b e) more = inl b
    by (same b e) more = inr (b, more (ap (λ (p : ℕ × ℕ). p.0) b))
    by (higher (inl b) e) more = let a = h.1 in absurd (omega arith)
    by (higher (inr b) e) more = let a = h.2 in let n = b.1 in absurd (omega arith)

-- the greatest of all
pub first_member : (k m : ℕ) → 0 < k → Member k ((1, k - 1) ∷ chain 1 k m)
first_member k m h = (refl, omega arith, chain_decreases k 1 m h (omega arith))

pub first_greatest : (k m : ℕ) (u : List (ℕ × ℕ)) → Member k u → length u ≡ suc m → Upto u ((1, k - 1) ∷ chain 1 k m)
first_greatest k m [] h e = tt
first_greatest k m (w ∷ ws) h e = by (compare_pairs w (1, k - 1))
  where
    by : Compared w (1, k - 1) → Upto (w ∷ ws) ((1, k - 1) ∷ chain 1 k m)
    by (lower b _) = inl b
    by (same b _) = inr (b, subst (λ (n : ℕ). Upto ws (chain 1 k n)) (let n : length ws ≡ m = omega arith in n) (chain_greatest k 1 ws h.2))
    by (higher (inl b) _) = let a = h.0 in absurd (omega arith)
    by (higher (inr b) _) = let a = h.1 in let n = b.1 in absurd (omega arith)

-- ---- the last node that is not the least has a colour to spare
lowered_bounds : (k last : ℕ) (ys : List (ℕ × ℕ)) (l c m : ℕ) (ps : List (ℕ × ℕ)) → 0 < c → Decreases k last (ys ++ (l, c) ∷ ps) → Bounds ys ((l, c - 1) ∷ chain l k m)
lowered_bounds k last [] l c m ps n h = tt
lowered_bounds k last (y ∷ ys) l c m ps n h = (λ e. here e, lowered_bounds k y.0 ys l c m ps n h.4)
  where
    meets : Upto ((l, c) ∷ ps) (y ∷ (ys ++ (l, c) ∷ ps)) → Upto ((l, c - 1) ∷ chain l k m) (y ∷ (ys ++ (l, c - 1) ∷ chain l k m))
    meets (inl b) = inl (lower_trans (l, c - 1) (l, c) y (inr (refl, omega arith)) b)
    meets (inr b) = inl (lower_onto (l, c - 1) (l, c) y (inr (refl, omega arith)) b.0)

    here : after y.0 ys ≡ [] → Upto (after y.0 ((l, c - 1) ∷ chain l k m)) (y ∷ (ys ++ (l, c - 1) ∷ chain l k m))
    here e =
        by_cases (ltb y.0 l)
        (λ b.
        let a : y.0 < l = ltb-true y.0 l b in
        subst (λ (w : List (ℕ × ℕ)). Upto w (y ∷ (ys ++ (l, c - 1) ∷ chain l k m)))
        (sym (after_none y.0 ((l, c - 1) ∷ chain l k m) (a, chain_deep y.0 l k m (omega arith)))) tt)
        (λ b.
        let a : l ≤ y.0 = ltb-false y.0 l b in
        let before : Upto ((l, c) ∷ ps) (y ∷ (ys ++ (l, c) ∷ ps)) =
        subst (λ (w : List (ℕ × ℕ)). Upto w (y ∷ (ys ++ (l, c) ∷ ps))) (after_passes y.0 ys ((l, c) ∷ ps) e ∙ after_here y.0 (l, c) ps a) h.3
        in
        subst (λ (w : List (ℕ × ℕ)). Upto w (y ∷ (ys ++ (l, c - 1) ∷ chain l k m))) (sym (after_here y.0 (l, c - 1) (chain l k m) a)) (meets before))

lowered_end : (k l c m : ℕ) → 0 < c → c < k → 2 ≤ l → Decreases k l ((l, c - 1) ∷ chain l k m)
lowered_end k l c m n b h = (
  h,
  omega arith,
  omega arith,
  subst (λ (w : List (ℕ × ℕ)). Upto w ((l, c - 1) ∷ chain l k m)) (sym (after_none l (chain l k m) (chain_deep l l k m (omega arith)))) tt,
  chain_decreases k l m (omega arith) (omega arith),
)

lowered_member : (k : ℕ) (ys : List (ℕ × ℕ)) (l c m : ℕ) (ps : List (ℕ × ℕ)) → 0 < c → Member k (ys ++ (l, c) ∷ ps) → Member k (ys ++ (l, c - 1) ∷ chain l k m)
lowered_member k [] l c m ps n h = (h.0, let b = h.1 in omega arith, subst (λ (i : ℕ). Decreases k i (chain l k m)) h.0 (chain_decreases k l m (let b = h.1 in omega arith) (let e = h.0 in omega arith)))
lowered_member k (y ∷ ys) l c m ps n h =
    let r = decreases_rest k 1 ys ((l, c) ∷ ps) h.2 in
    (h.0, h.1, replaced k 1 ys (l, c) (l, c - 1) ps (chain l k m) h.2 (inr (refl, omega arith)) (lowered_end k l c m n r.1.2 r.1.0) (lowered_bounds k 1 ys l c m ps n h.2))

pub lowered_step : (k : ℕ) (ys : List (ℕ × ℕ)) (l c : ℕ) (zs : List (ℕ × ℕ)) → 0 < c → Member k (ys ++ (l, c) ∷ zs) → AllByRecursion IsLeast zs
    → IsStep k (ys ++ (l, c) ∷ zs) (ys ++ (l, c - 1) ∷ chain l k (length zs))
lowered_step k ys l c zs n h z = record {
  member = lowered_member k ys l c (length zs) zs n h;
  same_order = length-append ys ((l, c - 1) ∷ chain l k (length zs)) ∙ ap (λ (i : ℕ). length ys + suc i) (length-chain l k (length zs)) ∙ sym (length-append ys ((l, c) ∷ zs));
  below = below_front ys (l, c - 1) (l, c) (chain l k (length zs)) zs (inr (refl, omega arith));
  greatest = λ u m e b. by u m e (parts u ys (l, c) zs (member_deep k u m) z e b);
}
  where
    top : (w : ℕ × ℕ) (ws : List (ℕ × ℕ)) → Lower w (l, c) → Decreases k w.0 ws → length ws ≡ length zs → Compared w (l, c - 1) → Upto (w ∷ ws) ((l, c - 1) ∷ chain l k (length zs))
    top w ws b d e (lower a _) = inl a
    top w ws b d e (same a _) =
        inr (a, subst (λ (i : ℕ). Upto ws (chain l k i)) e (chain_greatest k l ws (subst (λ (i : ℕ). Decreases k i ws) (ap (λ (p : ℕ × ℕ). p.0) a) d)))
    top w ws (inl b) d e (higher (inl a) _) = absurd (omega arith)
    top w ws (inl b) d e (higher (inr a) _) = absurd (omega arith)
    top w ws (inr b) d e (higher (inl a) _) = absurd (omega arith)
    top w ws (inr b) d e (higher (inr a) _) = let f = b.1 in let g = a.1 in absurd (omega arith)

    by : (u : List (ℕ × ℕ)) → Member k u → length u ≡ length (ys ++ (l, c) ∷ zs) → Parts u ys (l, c) → Upto u (ys ++ (l, c - 1) ∷ chain l k (length zs))
    by u m e (sooner f) = f ((l, c - 1) ∷ chain l k (length zs))
    by u m e (there w ws d b) =
        let r = member_rest k ys w ws (subst (Member k) d m) in
        let f : length ws ≡ length zs = omega (arith, ap length d, length-append ys (w ∷ ws), length-append ys ((l, c) ∷ zs)) in
        subst (λ (v : List (ℕ × ℕ)). Upto v (ys ++ (l, c - 1) ∷ chain l k (length zs))) (sym d) (upto_front ys (w ∷ ws) ((l, c - 1) ∷ chain l k (length zs)) (top w ws b r.0 f (compare_pairs w (l, c - 1))))
