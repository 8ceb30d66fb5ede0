-- Cutting off the first line.
use Rattle.std.proofs.Common.{◌≡◌, ◌≢◌, ℕ, zero, suc, ◌<◌, false, eqb, List, [], ◌∷◌, ◌++◌, length, take, drop, get_or, refl, ap, arith}
use Rattle.std.proofs.lemmas.Bool.Decides.{nat_tests}
use Rattle.bs_script.specs.Lines.{lines, without_return, IsFeedAt}

no_feed : (b : ℕ) → b ≢ 10 → eqb b 10 ≡ false
no_feed b h = grind (arith, nat_tests)

pub lines-at : (bs : List ℕ) (n : ℕ) → IsFeedAt bs n → lines bs ≡ take n bs ∷ lines (drop (suc n) bs)
lines-at [] n h = absurd (omega arith)
lines-at (b ∷ bs) zero h = rw h.1 refl
lines-at (b ∷ bs) (suc n) h =
    let before : (k : ℕ) → k < n → get_or bs k 0 ≢ 10 = λ k lt. h.2 (suc k) (omega arith) in
    let rest : lines bs ≡ take n bs ∷ lines (drop (suc n) bs) = lines-at bs n (omega arith, h.1, before) in
    rw (no_feed b (h.2 0 (omega arith)), rest) refl

pub lines-whole : (bs : List ℕ) → 0 < length bs → ((k : ℕ) → k < length bs → get_or bs k 0 ≢ 10) → lines bs ≡ bs ∷ []
lines-whole [] lt h = absurd (omega arith)
lines-whole (b ∷ []) lt h = rw (no_feed b (h 0 (omega arith))) refl
lines-whole (b ∷ c ∷ bs) lt h =
    let rest : lines (c ∷ bs) ≡ (c ∷ bs) ∷ [] = lines-whole (c ∷ bs) (omega arith) (λ k l. h (suc k) (omega arith)) in
    rw (no_feed b (h 0 (omega arith)), rest) refl

-- the line without its last byte, which is a carriage return
pub without_return-at : (front : List ℕ) → without_return (front ++ 13 ∷ []) ≡ front
without_return-at [] = refl
without_return-at (b ∷ []) = refl
without_return-at (b ∷ c ∷ l) = ap (λ x. b ∷ x) (without_return-at (c ∷ l))

no_return : (b : ℕ) → b ≢ 13 → eqb b 13 ≡ false
no_return b h = grind (arith, nat_tests)

-- a line that ends otherwise stays
pub without_return-none : (l : List ℕ) → ((front : List ℕ) → l ≢ front ++ 13 ∷ []) → without_return l ≡ l
without_return-none [] h = refl
without_return-none (b ∷ []) h = rw (no_return b (λ e. h [] (rw e refl))) refl
without_return-none (b ∷ c ∷ l) h = ap (λ x. b ∷ x) (without_return-none (c ∷ l) (λ front e. h (b ∷ front) (ap (λ x. b ∷ x) e)))
