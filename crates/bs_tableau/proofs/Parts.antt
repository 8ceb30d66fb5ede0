-- Cutting a line at its first blank.
use Rattle.std.proofs.Common.{◌≡◌, ℕ, zero, suc, ◌<◌, false, List, [], ◌∷◌, length, take, drop, filter, get_or, refl, ap, ◌∙◌, arith}
use Rattle.std.specs.List.{slice_split}
use Rattle.bs_tableau.specs.Words.{is_blank, is_filled, words, onto_words, IsFirstBlank}

split-at : (bs : List ℕ) (n : ℕ) → IsFirstBlank bs n → slice_split is_blank bs ≡ take n bs ∷ slice_split is_blank (drop (suc n) bs)
split-at [] n h = absurd (omega (arith, h.within))
split-at (b ∷ bs) zero h = rw h.here refl
split-at (b ∷ bs) (suc n) h =
    let rest : IsFirstBlank bs n = record { within = omega (arith, h.within); here = h.here; before = λ k lt. h.before (suc k) (omega arith) } in
    rw (h.before 0 (omega arith), split-at bs n rest) refl

split-whole : (bs : List ℕ) → ((k : ℕ) → k < length bs → is_blank (get_or bs k 0) ≡ false) → slice_split is_blank bs ≡ bs ∷ []
split-whole [] h = refl
split-whole (b ∷ bs) h = rw (h 0 (omega arith), split-whole bs (λ k lt. h (suc k) (omega arith))) refl

filled : (run : List ℕ) (parts : List (List ℕ)) → filter is_filled (run ∷ parts) ≡ onto_words run (filter is_filled parts)
filled [] parts = refl
filled (b ∷ bs) parts = refl

pub words-at : (bs : List ℕ) (n : ℕ) → IsFirstBlank bs n → words bs ≡ onto_words (take n bs) (words (drop (suc n) bs))
words-at bs n h = ap (filter is_filled) (split-at bs n h) ∙ filled (take n bs) (slice_split is_blank (drop (suc n) bs))

pub words-whole : (bs : List ℕ) → ((k : ℕ) → k < length bs → is_blank (get_or bs k 0) ≡ false) → words bs ≡ onto_words bs (words [])
words-whole bs h = ap (filter is_filled) (split-whole bs h) ∙ filled bs []
