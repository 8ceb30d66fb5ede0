-- How many calls of the machine a value takes.
--
--   calls s code      == the calls from the Look for a pair to the one behind its Keep, at most: two for each pair that the value needs
--   turns s code      == the calls from the start to Done, at most; where the value is given by a formula one is enough
--   factor_calls f    == those of a factor; none where it needs no look
--   factors_calls fs, steps_calls ss == those of factors, and of the factors of steps
--   behind es f n     == those of a frame's factors, the first n of its term left out
--   ahead es f        == those of the factors that a frame does not know yet
--   rest es f         == the calls that a frame has behind the value that it awaits, with its own Keep
--   rests es fs       == those of all frames
--   left es e         == the calls that are left at most, up to Done
--
-- Source: this project.
-- The code counts nothing; each answer but Done leaves fewer calls.
use Rattle.std.specs.Prelude.{ℕ, suc, ◌+◌, ◌*◌, List, [], ◌∷◌, length, drop, cond}
use Rattle.bs_tree.specs.Code.{tree_of}
use Rattle.bs_series.specs.Series.{Series}
use Rattle.bs_series.specs.Plan.{Factor, fixed, at, turned}
use Rattle.bs_series.specs.PlanItems.{needed, is_looked_up}
use Rattle.bs_series.specs.SeriesCode.{Code}
use Rattle.bs_series.specs.Expressions.{series_at}
use Rattle.bs_eval.specs.Steps.{Step}
use Rattle.bs_eval.specs.Frames.{steps_at, factors_at}
use Rattle.bs_eval.specs.declared.pair.Pair.{Pair}
use Rattle.bs_eval.specs.declared.frame.Frame.{Frame}
use Rattle.bs_eval.specs.declared.eval.State.{State}
use Rattle.bs_eval.specs.declared.eval.State.TheVariants.{Begun, Looking, Kept, Ended}
use Rattle.bs_eval.specs.declared.eval.Eval.{Eval}

-- ---- of a series
abbrev pub calls : Series → Code → ℕ
calls s code = 2 * length (needed s (tree_of code))

abbrev pub turns : Series → Code → ℕ
turns s code = suc (calls s code)

abbrev pub pair_calls : List Series → Pair → ℕ
pair_calls es p = calls (series_at es p.series) p.code

-- ---- of a plan
abbrev pub series_calls : Series → Code → ℕ
series_calls s code = cond (is_looked_up s) (calls s code) 0

abbrev pub factor_calls : Factor Code → ℕ
factor_calls (fixed c) = 0
factor_calls (at s code) = series_calls s code
factor_calls (turned s code) = series_calls s code

abbrev pub factors_calls : List (Factor Code) → ℕ
factors_calls [] = 0
factors_calls (f ∷ fs) = factor_calls f + factors_calls fs

abbrev pub steps_calls : List Step → ℕ
steps_calls [] = 0
steps_calls (s ∷ ss) = factors_calls s.factors + steps_calls ss

-- ---- of a frame
abbrev pub behind : List Series → Frame → ℕ → ℕ
behind es f n = factors_calls (drop n (factors_at es f)) + steps_calls (drop (suc f.place) (steps_at es f))

abbrev pub ahead : List Series → Frame → ℕ
ahead es f = behind es f f.known

abbrev pub rest : List Series → Frame → ℕ
rest es f = suc (behind es f (suc f.known))

abbrev pub rests : List Series → List Frame → ℕ
rests es [] = 0
rests es (f ∷ fs) = rest es f + rests es fs

-- ---- of the machine
abbrev pub left_at : List Series → Pair → List Frame → State → ℕ
left_at es of fs Begun = suc (pair_calls es of)
left_at es of fs (Looking p n) = rests es fs + pair_calls es p
left_at es of fs (Kept p v) = suc (rests es fs)
left_at es of fs Ended = 0

abbrev pub left : List Series → Eval → ℕ
left es e = left_at es e.asked e.frames.items e.state
