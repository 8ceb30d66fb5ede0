-- Rows of numbers in one list, as private functions speak of them.
--
--   rows_from start ends pool == the rows of a pool: the first from start on, each up to its end, where the next begins
--   Ascends start ends n      == no end comes before the one in front of it, and all are within n
--   start_at ends i           == where the row at place i begins, the first beginning at 0
--   last_end start ends       == the last end, or start where there is none
--
-- Source: this project.
use Rattle.std.specs.Prelude.{ℕ, zero, suc, ◌≤◌, List, [], ◌∷◌, slice_range, slice_index}

abbrev pub rows_from : ℕ → List ℕ → List ℕ → List (List ℕ)
rows_from start [] pool = []
rows_from start (end ∷ ends) pool = slice_range pool start end ∷ rows_from end ends pool

abbrev pub Ascends : ℕ → List ℕ → ℕ → Type 0
Ascends start [] n = start ≤ n
Ascends start (end ∷ ends) n = (start ≤ end) × Ascends end ends n

abbrev pub start_at : List ℕ → ℕ → ℕ
start_at ends zero = 0
start_at ends (suc place) = slice_index ends place

abbrev pub last_end : ℕ → List ℕ → ℕ
last_end start [] = start
last_end start (end ∷ ends) = last_end end ends
