-- The words from one on are that word, and those from the next one on.
use Rattle.std.proofs.Common.{◌≡◌, ℕ, suc, zero, ◌+◌, ◌<◌, ◌≤◌, List, [], ◌∷◌, ◌++◌, map, take, drop, length, replicate, Bool, true, false, cond, Option, Some, None, option_map, arith, refl, sym, ◌∙◌, ap, ap₂}
use Rattle.std.proofs.lemmas.List.{take-replicate, length-take-le, length-replicate}
use Rattle.bs_part.specs.Words.{words}
use Rattle.bs_part.specs.Walk.{words_from, or_else, last_kept, cut_after, last_place}

-- from the word of keeps alone, all
pub from_keeps : (n : ℕ) → words_from (replicate n true) ≡ words n
from_keeps zero = refl
from_keeps (suc n) =
    ap₂ (λ (us : List (List Bool)) (i : ℕ). map (λ v. true ∷ v) us ++ map (λ v. false ∷ v) (words i)) (from_keeps n) (length-replicate n true)

pub length-cut_after : (i : ℕ) (w : List Bool) → length (cut_after i w) ≡ length w
length-cut_after i [] = refl
length-cut_after zero (b ∷ w) = ap suc (length-replicate (length w) true)
length-cut_after (suc i) (b ∷ w) = ap suc (length-cut_after i w)

-- what is left behind a word
abbrev pub after : List Bool → Option ℕ → List (List Bool)
after w None = []
after w (Some i) = words_from (cut_after i w)

pub onward : (w : List Bool) → words_from w ≡ w ∷ after w (last_kept w)
onward [] = refl
onward (b ∷ w) = go b (last_kept w) (onward w)
  where
    go : (b : Bool) (o : Option ℕ) → words_from w ≡ w ∷ after w o
        → words_from (b ∷ w) ≡ (b ∷ w) ∷ after (b ∷ w) (or_else (option_map (λ i. suc i) o) (cond b (Some 0) None))
    go true (Some i) e =
        ap₂ (λ (us : List (List Bool)) (n : ℕ). map (λ v. true ∷ v) us ++ map (λ v. false ∷ v) (words n)) e (sym (length-cut_after i w))
    go false (Some i) e = ap (λ (us : List (List Bool)). map (λ v. false ∷ v) us) e
    go true None e =
        ap (λ (us : List (List Bool)). map (λ v. true ∷ v) us ++ map (λ v. false ∷ v) (words (length w))) e
        ∙ ap (λ (us : List (List Bool)). (true ∷ w) ∷ map (λ v. false ∷ v) us) (sym (from_keeps (length w)))
    go false None e = ap (λ (us : List (List Bool)). map (λ v. false ∷ v) us) e

-- ---- among the letters of all nodes
abbrev pub Below : ℕ → Option ℕ → Type 0
Below n None = Unit {0}
Below n (Some i) = i < n

pub last_below : (w : List Bool) → Below (length w) (last_kept w)
last_below [] = tt
last_below (b ∷ w) = go b (last_kept w) (last_below w)
  where
    go : (b : Bool) (o : Option ℕ) → Below (length w) o → Below (suc (length w)) (or_else (option_map (λ i. suc i) o) (cond b (Some 0) None))
    go b (Some i) h = let lt : i < length w = h in omega arith
    go true None h = let z : 0 < suc (length w) = omega arith in z
    go false None h = tt

pub take_within : (m i : ℕ) (w : List Bool) → i < m → m ≤ length w → take m (cut_after i w) ≡ cut_after i (take m w)
take_within zero i w lt h = absurd (omega arith)
take_within (suc m) i [] lt h = absurd (omega arith)
take_within (suc m) zero (b ∷ w) lt h =
    ap (λ (u : List Bool). false ∷ u) (take-replicate m (length w) true (omega arith) ∙ ap (λ (n : ℕ). replicate n true) (sym (length-take-le m w (omega arith))))
take_within (suc m) (suc i) (b ∷ w) lt h = ap (λ (u : List Bool). b ∷ u) (take_within m i w (omega arith) (omega arith))

pub behind : (i : ℕ) (kept : List Bool) → drop 1 (cut_after (suc i) kept) ≡ cut_after i (drop 1 kept)
behind i [] = refl
behind i (b ∷ w) = refl

-- ---- the pass for the last keep
abbrev pub placed : ℕ → Option ℕ → Option ℕ → Option ℕ
placed i None o = o
placed i (Some j) o = Some (i + j)

pub last_placed : (i : ℕ) (o : Option ℕ) (w : List Bool) → last_place i o w ≡ placed i (last_kept w) o
last_placed i o [] = refl
last_placed i o (b ∷ w) = last_placed (suc i) (cond b (Some i) o) w ∙ go b (last_kept w)
  where
    go : (b : Bool) (r : Option ℕ) → placed (suc i) r (cond b (Some i) o) ≡ placed i (or_else (option_map (λ j. suc j) r) (cond b (Some 0) None)) o
    go b (Some j) = let e : suc i + j ≡ i + suc j = omega arith in ap (λ (n : ℕ). Some n) e
    go true None = let e : i ≡ i + 0 = omega arith in ap (λ (n : ℕ). Some n) e
    go false None = refl
