-- A list of texts, kept one after another in one text.
--
--   piece text from to     == the bytes of the text between two places
--   pieces text from ends  == its pieces from a place on, where each ends at one of the places `ends`
--   AreEnds from ends last == the places do not fall, from the first place on, and the last of all is `last`
--
-- Source: this project.
use Rattle.std.specs.Prelude.{◌≡◌, ℕ, ◌-◌, ◌≤◌, List, [], ◌∷◌, take, drop}

abbrev pub piece : List ℕ → ℕ → ℕ → List ℕ
piece text from to = take (to - from) (drop from text)

abbrev pub pieces : List ℕ → ℕ → List ℕ → List (List ℕ)
pieces text from [] = []
pieces text from (to ∷ ends) = piece text from to ∷ pieces text to ends

abbrev pub AreEnds : ℕ → List ℕ → ℕ → Type 0
AreEnds from [] last = from ≡ last
AreEnds from (to ∷ ends) last = (from ≤ to) × AreEnds to ends last
