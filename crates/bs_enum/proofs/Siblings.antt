-- Sequences whose siblings decrease, told place by place: behind each node's subtree comes nothing greater than what begins at the node.
use Rattle.std.proofs.Common.{◌≡◌, ℕ, suc, zero, ◌<◌, ◌≤◌, ◌+◌, ◌⊎◌, inl, inr, List, [], ◌∷◌, ◌++◌, length, take, drop, Bool, true, false, cond, ltb, refl, ap, ap₂, subst, sym, ◌∙◌, arith, append_assoc}
use Rattle.std.specs.List.{AllByRecursion}
use Rattle.std.proofs.lemmas.Bool.{ltb-true, ltb-false, lt-ltb}
use Rattle.std.proofs.lemmas.Bool.Decides.{nat_tests}
use Rattle.bs_tree.specs.SortingLaws.{by_cases}
use Rattle.bs_enum.proofs.Orders.{Lower, Upto, lower_trans, lower_level, lower_onto, exchanged, upto_take, upto_refl}

-- what comes behind the nodes of greater levels
abbrev pub after : ℕ → List (ℕ × ℕ) → List (ℕ × ℕ)
after l [] = []
after l (x ∷ xs) = cond (ltb l x.0) (after l xs) (x ∷ xs)

-- behind a node of level `last`, below a root, with colours below k
abbrev pub Decreases : ℕ → ℕ → List (ℕ × ℕ) → Type 0
Decreases k last [] = Unit {0}
Decreases k last (x ∷ xs) = (2 ≤ x.0) × (x.0 ≤ suc last) × (x.1 < k) × Upto (after x.0 xs) (x ∷ xs) × Decreases k x.0 xs

-- ---- what comes behind
pub after_deeper : (l : ℕ) (x : ℕ × ℕ) (xs : List (ℕ × ℕ)) → l < x.0 → after l (x ∷ xs) ≡ after l xs
after_deeper l x xs h = rw (lt-ltb l x.0 h) refl

pub after_here : (l : ℕ) (x : ℕ × ℕ) (xs : List (ℕ × ℕ)) → x.0 ≤ l → after l (x ∷ xs) ≡ x ∷ xs
after_here l x xs h = by_cases (ltb l x.0) (λ e. let k = ltb-true l x.0 e in absurd (omega arith)) (λ e. rw e refl)

pub after_passes : (l : ℕ) (xs ys : List (ℕ × ℕ)) → after l xs ≡ [] → after l (xs ++ ys) ≡ after l ys
after_passes l [] ys h = refl
after_passes l (x ∷ xs) ys h =
    by_cases (ltb l x.0)
    (λ e. rw e (after_passes l xs ys (rw e at h)))
    (λ e. let k = rw e at h in cc)

pub after_stops : (l : ℕ) (xs ys : List (ℕ × ℕ)) (z : ℕ × ℕ) (zs : List (ℕ × ℕ)) → after l xs ≡ z ∷ zs → after l (xs ++ ys) ≡ (z ∷ zs) ++ ys
after_stops l [] ys z zs h = cc
after_stops l (x ∷ xs) ys z zs h =
    by_cases (ltb l x.0)
    (λ e. rw e (after_stops l xs ys z zs (rw e at h)))
    (λ e. let k : x ∷ xs ≡ z ∷ zs = rw e at h in rw e (ap (λ (w : List (ℕ × ℕ)). w ++ ys) k))

pub length-after : (l : ℕ) (xs : List (ℕ × ℕ)) → length (after l xs) ≤ length xs
length-after l [] = omega arith
length-after l (x ∷ xs) = by_cases (ltb l x.0) (λ e. rw e (let k = length-after l xs in omega arith)) (λ e. rw e (omega arith))

pub after_none : (l : ℕ) (xs : List (ℕ × ℕ)) → AllByRecursion (λ p. l < p.0) xs → after l xs ≡ []
after_none l [] h = refl
after_none l (x ∷ xs) h = after_deeper l x xs h.0 ∙ after_none l xs h.1

pub none_after : (l : ℕ) (xs : List (ℕ × ℕ)) → after l xs ≡ [] → AllByRecursion (λ p. l < p.0) xs
none_after l [] h = tt
none_after l (x ∷ xs) h =
    by_cases (ltb l x.0)
    (λ e. (ltb-true l x.0 e, none_after l xs (rw e at h)))
    (λ e. let k = rw e at h in cc)

-- a front of the list has a front of what comes behind
pub after_take : (l n : ℕ) (xs : List (ℕ × ℕ)) → (m : ℕ) × (m ≤ n) × (after l (take n xs) ≡ take m (after l xs))
after_take l n [] = (0, omega arith, after_take-nil l n)
  where
    after_take-nil : (l n : ℕ) → after l (take n (let e : List (ℕ × ℕ) = [] in e)) ≡ []
    after_take-nil l zero = refl
    after_take-nil l (suc n) = refl
after_take l zero (x ∷ xs) = (0, omega arith, refl)
after_take l (suc n) (x ∷ xs) =
    let r = after_take l n xs in
    by_cases (ltb l x.0)
    (λ e. (r.0, let k = r.1 in omega arith, rw e r.2))
    (λ e. (suc n, omega arith, rw e refl))

-- ---- parts
pub decreases_at : (k last other : ℕ) (x : ℕ × ℕ) (xs : List (ℕ × ℕ)) → Decreases k last (x ∷ xs) → x.0 ≤ suc other → Decreases k other (x ∷ xs)
decreases_at k last other x xs h e = (h.0, e, h.2, h.3, h.4)

pub decreases_rest : (k last : ℕ) (xs ys : List (ℕ × ℕ)) → Decreases k last (xs ++ ys) → (other : ℕ) × Decreases k other ys
decreases_rest k last [] ys h = (last, h)
decreases_rest k last (x ∷ xs) ys h = decreases_rest k x.0 xs ys h.4

pub decreases_take : (k last n : ℕ) (xs : List (ℕ × ℕ)) → Decreases k last xs → Decreases k last (take n xs)
decreases_take k last zero xs h = tt
decreases_take k last (suc n) [] h = tt
decreases_take k last (suc n) (x ∷ xs) h =
    let r = after_take x.0 n xs in
    (h.0, h.1, h.2, subst (λ (w : List (ℕ × ℕ)). Upto w (x ∷ take n xs)) (sym r.2) (upto_take r.0 (suc n) (after x.0 xs) (x ∷ xs) (let m = r.1 in omega arith) h.3), decreases_take k x.0 n xs h.4)

pub deep : (k last : ℕ) (xs : List (ℕ × ℕ)) → Decreases k last xs → AllByRecursion (λ p. 2 ≤ p.0) xs
deep k last [] h = tt
deep k last (x ∷ xs) h = (h.0, deep k x.0 xs h.4)

-- ---- another end
-- where the nodes of a list pass over the whole list behind them, what comes then is not too great
abbrev pub Bounds : List (ℕ × ℕ) → List (ℕ × ℕ) → Type 0
Bounds [] cs = Unit {0}
Bounds (y ∷ ys) cs = (after y.0 ys ≡ [] → Upto (after y.0 cs) (y ∷ (ys ++ cs))) × Bounds ys cs

pub replaced : (k last : ℕ) (ys : List (ℕ × ℕ)) (p c : ℕ × ℕ) (ps cs : List (ℕ × ℕ)) → Decreases k last (ys ++ p ∷ ps) → Lower c p → Decreases k c.0 (c ∷ cs) → Bounds ys (c ∷ cs)
    → Decreases k last (ys ++ c ∷ cs)
replaced k last [] p c ps cs h l d b = let e = lower_level c p l in let q = h.1 in decreases_at k c.0 last c cs d (omega arith)
replaced k last (y ∷ ys) p c ps cs h l d b =
    (h.0, h.1, h.2, by (after y.0 ys) refl, replaced k y.0 ys p c ps cs h.4 l d b.1)
  where
    by : (rest : List (ℕ × ℕ)) → after y.0 ys ≡ rest → Upto (after y.0 (ys ++ c ∷ cs)) (y ∷ (ys ++ c ∷ cs))
    by [] e = subst (λ (w : List (ℕ × ℕ)). Upto w (y ∷ (ys ++ c ∷ cs))) (sym (after_passes y.0 ys (c ∷ cs) e)) (b.0 e)
    by (z ∷ zs) e =
        let before = subst (λ (w : List (ℕ × ℕ)). Upto w (y ∷ (ys ++ p ∷ ps))) (after_stops y.0 ys (p ∷ ps) z zs e) h.3 in
        let short : length (z ∷ zs) < length (y ∷ ys) = omega (arith, length-after y.0 ys, ap length e) in
        subst (λ (w : List (ℕ × ℕ)). Upto w (y ∷ (ys ++ c ∷ cs))) (sym (after_stops y.0 ys (c ∷ cs) z zs e))
        (exchanged (z ∷ zs) (y ∷ ys) p c ps cs short l before)
