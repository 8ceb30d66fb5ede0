-- The order of pairs and of sequences, by cases.
use Rattle.std.proofs.Common.{◌≡◌, ℕ, suc, zero, ◌<◌, ◌≤◌, ◌+◌, ◌⊎◌, inl, inr, List, [], ◌∷◌, ◌++◌, length, take, Bool, true, false, refl, ap, ap₂, subst, sym, ◌∙◌, arith}
use Rattle.std.specs.declared.cmp.Ordering.{Ordering}
use Rattle.std.specs.declared.cmp.Ordering.TheVariants.{Less, Equal, Greater}
use Rattle.std.specs.Ordering.{nat_cmp, ordering_then, is_gt, is_le, is_lt}
use Rattle.std.proofs.lemmas.Bool.Decides.{nat_tests}
use Rattle.std.proofs.lemmas.Cmp.{ranked, by_ranked, tied_itself}
use Rattle.bs_tree.specs.Canonical.{pair_cmp, sequence_cmp}
use Rattle.bs_tree.specs.OrderLaws.{pair_total}

abbrev pub Lower : ℕ × ℕ → ℕ × ℕ → Type 0
Lower x y = (x.0 < y.0) ⊎ ((x.0 ≡ y.0) × (x.1 < y.1))

-- at most
abbrev pub Upto : List (ℕ × ℕ) → List (ℕ × ℕ) → Type 0
Upto [] ys = Unit {0}
Upto (x ∷ xs) [] = ⊥
Upto (x ∷ xs) (y ∷ ys) = Lower x y ⊎ ((x ≡ y) × Upto xs ys)

-- smaller
abbrev pub Below : List (ℕ × ℕ) → List (ℕ × ℕ) → Type 0
Below [] [] = ⊥
Below [] (y ∷ ys) = Unit {0}
Below (x ∷ xs) [] = ⊥
Below (x ∷ xs) (y ∷ ys) = Lower x y ⊎ ((x ≡ y) × Below xs ys)

pub lower_trans : (x y z : ℕ × ℕ) → Lower x y → Lower y z → Lower x z
lower_trans x y z (inl h) (inl k) = inl (omega arith)
lower_trans x y z (inl h) (inr k) = inl (omega arith)
lower_trans x y z (inr h) (inl k) = inl (omega arith)
lower_trans x y z (inr h) (inr k) = inr (omega arith, omega arith)

pub lower_level : (x y : ℕ × ℕ) → Lower x y → x.0 ≤ y.0
lower_level x y (inl h) = omega arith
lower_level x y (inr h) = omega arith

pub lower_onto : (x y z : ℕ × ℕ) → Lower x y → y ≡ z → Lower x z
lower_onto x y z h e = subst (λ (w : ℕ × ℕ). Lower x w) e h

-- ---- comparing two pairs
pub data Compared (x y : ℕ × ℕ) : Type 0 where
  lower : Lower x y → pair_cmp x y ≡ Less → Compared x y
  same : x ≡ y → pair_cmp x y ≡ Equal → Compared x y
  higher : Lower y x → pair_cmp x y ≡ Greater → Compared x y

data ByNumber (m n : ℕ) : Type 0 where
  less : m < n → nat_cmp m n ≡ Less → ByNumber m n
  equal : m ≡ n → nat_cmp m n ≡ Equal → ByNumber m n
  greater : n < m → nat_cmp m n ≡ Greater → ByNumber m n

by_number : (m n : ℕ) → ByNumber m n
by_number m n = by_ranked (m < n) (m ≡ n) (n < m) (nat_cmp m n) (ranked m n (nat_cmp m n) refl) (λ e h. less h e) (λ e h. equal h e) (λ e h. greater h e)

compare_pairs_by : (x y : ℕ × ℕ) → ByNumber x.0 y.0 → ByNumber x.1 y.1 → Compared x y
compare_pairs_by x y (less h e) b = lower (inl h) (rw e refl)
compare_pairs_by x y (greater h e) b = higher (inl h) (rw e refl)
compare_pairs_by x y (equal h e) (less k f) = lower (inr (h, k)) (rw (e, f) refl)
compare_pairs_by x y (equal h e) (equal k f) = same (ap₂ (λ (a b : ℕ). (a, b)) h k) (rw (e, f) refl)
compare_pairs_by x y (equal h e) (greater k f) = higher (inr (sym h, k)) (rw (e, f) refl)

pub compare_pairs : (x y : ℕ × ℕ) → Compared x y
compare_pairs x y = compare_pairs_by x y (by_number x.0 y.0) (by_number x.1 y.1)

cmp_lower : (x y : ℕ × ℕ) → Lower x y → pair_cmp x y ≡ Less
cmp_lower x y (inl h) = by (by_number x.0 y.0)
  where
    by : ByNumber x.0 y.0 → pair_cmp x y ≡ Less
    by (less k e) = rw e refl
    by (equal k e) = absurd (omega arith)
    by (greater k e) = absurd (omega arith)
cmp_lower x y (inr h) = by (by_number x.0 y.0) (by_number x.1 y.1)
  where
    by : ByNumber x.0 y.0 → ByNumber x.1 y.1 → pair_cmp x y ≡ Less
    by (equal k e) (less m f) = rw (e, f) refl
    by (equal k e) (equal m f) = absurd (omega arith)
    by (equal k e) (greater m f) = absurd (omega arith)
    by (less k e) b = absurd (omega arith)
    by (greater k e) b = absurd (omega arith)

cmp_same : (x y : ℕ × ℕ) → x ≡ y → pair_cmp x y ≡ Equal
cmp_same x y e = subst (λ (z : ℕ × ℕ). pair_cmp x z ≡ Equal) e (tied_itself pair_total x)

-- ---- the comparison of sequences
pub upto_from : (xs ys : List (ℕ × ℕ)) → is_gt (sequence_cmp xs ys) ≡ false → Upto xs ys
upto_from [] ys h = tt
upto_from (x ∷ xs) [] h = cc
upto_from (x ∷ xs) (y ∷ ys) h = by (compare_pairs x y) (λ k. upto_from xs ys k)
  where
    by : Compared x y → (is_gt (sequence_cmp xs ys) ≡ false → Upto xs ys) → Upto (x ∷ xs) (y ∷ ys)
    by (lower l e) more = inl l
    by (same p e) more = inr (p, more (rw e at h))
    by (higher l e) more = let k : is_gt (ordering_then (pair_cmp x y) (sequence_cmp xs ys)) ≡ false = h in let g = rw e at k in cc

pub cmp_upto : (xs ys : List (ℕ × ℕ)) → Upto xs ys → is_gt (sequence_cmp xs ys) ≡ false
cmp_upto [] [] h = refl
cmp_upto [] (y ∷ ys) h = refl
cmp_upto (x ∷ xs) [] h = absurd h
cmp_upto (x ∷ xs) (y ∷ ys) (inl h) = rw (cmp_lower x y h) refl
cmp_upto (x ∷ xs) (y ∷ ys) (inr h) = rw (cmp_same x y h.0) (cmp_upto xs ys h.1)

pub below_from : (xs ys : List (ℕ × ℕ)) → sequence_cmp xs ys ≡ Less → Below xs ys
below_from [] [] h = cc
below_from [] (y ∷ ys) h = tt
below_from (x ∷ xs) [] h = cc
below_from (x ∷ xs) (y ∷ ys) h = by (compare_pairs x y) (λ k. below_from xs ys k)
  where
    by : Compared x y → (sequence_cmp xs ys ≡ Less → Below xs ys) → Below (x ∷ xs) (y ∷ ys)
    by (lower l e) more = inl l
    by (same p e) more = inr (p, more (rw e at h))
    by (higher l e) more = let g = rw e at h in cc

pub cmp_below : (xs ys : List (ℕ × ℕ)) → Below xs ys → sequence_cmp xs ys ≡ Less
cmp_below [] [] h = absurd h
cmp_below [] (y ∷ ys) h = refl
cmp_below (x ∷ xs) [] h = absurd h
cmp_below (x ∷ xs) (y ∷ ys) (inl h) = rw (cmp_lower x y h) refl
cmp_below (x ∷ xs) (y ∷ ys) (inr h) = rw (cmp_same x y h.0) (cmp_below xs ys h.1)

-- ---- laws
pub upto_refl : (xs : List (ℕ × ℕ)) → Upto xs xs
upto_refl [] = tt
upto_refl (x ∷ xs) = inr (refl, upto_refl xs)

-- where two lists differ before what follows, or the shorter one goes on with a smaller pair, what follows does not matter
pub exchanged : (xs ys : List (ℕ × ℕ)) (p c : ℕ × ℕ) (ps cs : List (ℕ × ℕ)) → length xs < length ys → Lower c p → Upto (xs ++ p ∷ ps) (ys ++ p ∷ ps) → Upto (xs ++ c ∷ cs) (ys ++ c ∷ cs)
exchanged [] [] p c ps cs n l h = absurd (omega arith)
exchanged [] (y ∷ ys) p c ps cs n l (inl h) = inl (lower_trans c p y l h)
exchanged [] (y ∷ ys) p c ps cs n l (inr h) = inl (lower_onto c p y l h.0)
exchanged (x ∷ xs) [] p c ps cs n l h = absurd (omega arith)
exchanged (x ∷ xs) (y ∷ ys) p c ps cs n l (inl h) = inl h
exchanged (x ∷ xs) (y ∷ ys) p c ps cs n l (inr h) = inr (h.0, exchanged xs ys p c ps cs (omega arith) l h.1)

pub upto_take : (a b : ℕ) (xs ys : List (ℕ × ℕ)) → a ≤ b → Upto xs ys → Upto (take a xs) (take b ys)
upto_take zero b xs ys n h = tt
upto_take (suc a) b [] ys n h = tt
upto_take (suc a) zero (x ∷ xs) ys n h = absurd (omega arith)
upto_take (suc a) (suc b) (x ∷ xs) [] n h = absurd h
upto_take (suc a) (suc b) (x ∷ xs) (y ∷ ys) n (inl h) = inl h
upto_take (suc a) (suc b) (x ∷ xs) (y ∷ ys) n (inr h) = inr (h.0, upto_take a b xs ys (omega arith) h.1)
