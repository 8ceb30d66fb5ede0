-- Texts that are kept one after another.
use Rattle.std.proofs.Common.{◌≡◌, ◌≢◌, ℕ, zero, suc, ◌+◌, ◌-◌, ◌<◌, ◌≤◌, List, [], ◌∷◌, ◌++◌, length, get_or, Some, refl, ap, ◌∙◌, arith}
use Rattle.std.proofs.lemmas.Grind.{common_steps}
use Rattle.std.specs.List.{slice_get}
use Rattle.bs_script.specs.Texts.{piece, pieces, AreEnds}

pub length-pieces : (text : List ℕ) (from : ℕ) (ends : List ℕ) → length (pieces text from ends) ≡ length ends
length-pieces text from [] = refl
length-pieces text from (to ∷ ends) = ap suc (length-pieces text to ends)

-- a piece begins where the one before it ends
pub slice_get-pieces : (text : List ℕ) (from : ℕ) (ends : List ℕ) (k : ℕ) → k < length ends
    → slice_get (pieces text from ends) k ≡ Some (piece text (get_or (from ∷ ends) k 0) (get_or ends k 0))
slice_get-pieces text from [] k h = absurd (omega arith)
slice_get-pieces text from (to ∷ ends) zero h = refl
slice_get-pieces text from (to ∷ ends) (suc k) h = slice_get-pieces text to ends k (omega arith)

pub slice_get-pieces-later : (text : List ℕ) (ends : List ℕ) (k : ℕ) → k ≢ 0 → k < length ends
    → slice_get (pieces text 0 ends) k ≡ Some (piece text (get_or ends (k - 1) 0) (get_or ends k 0))
slice_get-pieces-later text ends zero n h = absurd (n refl)
slice_get-pieces-later text ends (suc k) n h = let e : suc k - 1 ≡ k = omega arith in rw e (slice_get-pieces text 0 ends (suc k) h)

pub from_below_last : (from : ℕ) (ends : List ℕ) (last : ℕ) → AreEnds from ends last → from ≤ last
from_below_last from [] last h = omega (arith, h)
from_below_last from (to ∷ ends) last h = omega (arith, h.0, from_below_last to ends last h.1)

pub ends_rise : (from : ℕ) (ends : List ℕ) (last k : ℕ) → AreEnds from ends last → k < length ends
    → (get_or (from ∷ ends) k 0 ≤ get_or ends k 0) × (get_or ends k 0 ≤ last)
ends_rise from [] last k h lt = absurd (omega arith)
ends_rise from (to ∷ ends) last zero h lt = (h.0, from_below_last to ends last h.1)
ends_rise from (to ∷ ends) last (suc k) h lt = ends_rise to ends last k h.1 (omega arith)

pub ends_rise-later : (ends : List ℕ) (last k : ℕ) → AreEnds 0 ends last → k ≢ 0 → k < length ends
    → (get_or ends (k - 1) 0 ≤ get_or ends k 0) × (get_or ends k 0 ≤ last)
ends_rise-later ends last zero h n lt = absurd (n refl)
ends_rise-later ends last (suc k) h n lt = let e : suc k - 1 ≡ k = omega arith in rw e (ends_rise 0 ends last (suc k) h lt)

pub ends_more : (from : ℕ) (ends : List ℕ) (last next : ℕ) → AreEnds from ends last → last ≤ next → AreEnds from (ends ++ next ∷ []) next
ends_more from [] last next h le = (omega (arith, h), refl)
ends_more from (to ∷ ends) last next h le = (h.0, ends_more to ends last next h.1 le)

piece-append : (text more : List ℕ) (from to : ℕ) → from ≤ to → to ≤ length text → piece (text ++ more) from to ≡ piece text from to
piece-append text more from to h k = grind (arith, common_steps)

piece-rest : (text more : List ℕ) (from to : ℕ) → from ≡ length text → to ≡ length text + length more → piece (text ++ more) from to ≡ more
piece-rest text more from to h k = rw (h, k) (grind (arith, common_steps))

-- one more text at the end
pub pieces-push : (text more : List ℕ) (from : ℕ) (ends : List ℕ) (next : ℕ) → AreEnds from ends (length text) → next ≡ length text + length more
    → pieces (text ++ more) from (ends ++ next ∷ []) ≡ pieces text from ends ++ more ∷ []
pieces-push text more from [] next h e = ap (λ x. x ∷ []) (piece-rest text more from next h e)
pieces-push text more from (to ∷ ends) next h e =
    let first : piece (text ++ more) from to ≡ piece text from to = piece-append text more from to h.0 (from_below_last to ends (length text) h.1) in
    ap (λ x. x ∷ pieces (text ++ more) to (ends ++ next ∷ [])) first ∙ ap (λ x. piece text from to ∷ x) (pieces-push text more to ends next h.1 e)
