-- Splitting a word at its commas.
use Rattle.std.proofs.Common.{◌≡◌, ℕ, ◌+◌, ◌<◌, ◌≤◌, Bool, true, false, List, [], ◌∷◌, ◌++◌, length, get_or, take, drop, All, eqb, sym, ap, ◌∙◌, take-append-drop, arith}
use Rattle.std.proofs.lemmas.List.{drop_more, take_all}
use Rattle.std.proofs.lemmas.List.Splits.{slice_split_at, slice_split_none}
use Rattle.std.proofs.lemmas.Bool.Decides.{nat_tests}
use Rattle.std.proofs.lemmas.Grind.{common_steps}
use Rattle.bs_levels.specs.Words.{comma, pieces}

abbrev pub HasNoComma : List ℕ → ℕ → Type 0
HasNoComma w i = (k : ℕ) → k < i → get_or w k 0 ≡ comma → ⊥

no_test : (b : ℕ) → (b ≡ comma → ⊥) → eqb b comma ≡ false
no_test b h = grind (arith, nat_tests)

get_or-take : (w : List ℕ) (i k d : ℕ) → k < length (take i w) → get_or (take i w) k d ≡ get_or w k 0
get_or-take w i k d h = grind (arith, common_steps)

below : (w : List ℕ) (i k d : ℕ) → k < length (take i w) → k < i
below w i k d h = grind (arith, common_steps)

front : (w : List ℕ) (i : ℕ) → HasNoComma w i → All (λ b. eqb b comma ≡ false) (take i w)
front w i h k d lt = no_test _ (λ e. h k (below w i k d lt) (sym (get_or-take w i k d lt) ∙ e))

-- a word without a comma is one part
pub pieces-none : (w : List ℕ) (i : ℕ) → length w ≤ i → HasNoComma w i → pieces w ≡ w ∷ []
pieces-none w i le h = slice_split_none (λ b. eqb b comma) w (rw (take_all i w le) at (front w i h))

-- the first part ends at the first comma
pub pieces-at : (w : List ℕ) (i y : ℕ) → i < length w → y ≡ get_or w i 0 → y ≡ comma → HasNoComma w i → pieces w ≡ take i w ∷ pieces (drop (i + 1) w)
pieces-at w i y lt read e h =
    let p : ℕ → Bool = λ b. eqb b comma in
    let parts : w ≡ take i w ++ y ∷ drop (i + 1) w =
    sym (take-append-drop i w) ∙ ap (λ zs. take i w ++ zs) (drop_more w i 0 lt ∙ ap (λ z. z ∷ drop (i + 1) w) (sym read)) in
    ap pieces parts ∙ slice_split_at p (take i w) y (drop (i + 1) w) (front w i h) (yes y e)
  where
    yes : (y : ℕ) → y ≡ comma → eqb y comma ≡ true
    yes y e = grind (arith, nat_tests)
