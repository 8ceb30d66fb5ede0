-- What a made input says, as a script.
--
--   half, third, sixth    == 1/2, 1/3, 1/6
--   euler, rk4, midpoint  == the three tableaux
--   made_sessions n x     == n sessions, where the generator stands at x; the three tableaux stand above each
--   made_script seed      == THE SCRIPT of a seed
--
-- Source: Butcher (2021) for the three methods.
use Rattle.std.specs.Prelude.{ℕ, zero, suc, pos, List, [], ◌∷◌, codes}
use Rattle.bs_frac.specs.Fraction.{Fraction, whole}
use Rattle.bs_tableau.specs.Table.{Table}
use Rattle.bs_script.specs.Blocks.{SessionLines, ScriptLines}
use Rattle.bs_make.specs.Made.{commands, after_session}
use Rattle.bs_make.specs.declared.TheConstants.{MADE_SESSIONS}

abbrev pub half : Fraction
half = record { top = pos 1; bottom = 2 }

abbrev pub third : Fraction
third = record { top = pos 1; bottom = 3 }

abbrev pub sixth : Fraction
sixth = record { top = pos 1; bottom = 6 }

abbrev pub euler : Table
euler = record { stages = 1; colours = 1; rows = (whole 0 ∷ []) ∷ (whole 1 ∷ []) ∷ [] }

abbrev pub rk4 : Table
rk4 = record {
  stages = 4;
  colours = 1;
  rows = (whole 0 ∷ whole 0 ∷ whole 0 ∷ whole 0 ∷ [])
      ∷ (half ∷ whole 0 ∷ whole 0 ∷ whole 0 ∷ [])
      ∷ (whole 0 ∷ half ∷ whole 0 ∷ whole 0 ∷ [])
      ∷ (whole 0 ∷ whole 0 ∷ whole 1 ∷ whole 0 ∷ [])
      ∷ (sixth ∷ third ∷ third ∷ sixth ∷ [])
      ∷ [];
}

abbrev pub midpoint : Table
midpoint = record { stages = 1; colours = 1; rows = (half ∷ []) ∷ (whole 1 ∷ []) ∷ [] }

unfoldable pub made_sessions : ℕ → ℕ → List SessionLines
made_sessions zero x = []
made_sessions (suc n) x = record { above = 3; commands = commands x } ∷ made_sessions n (after_session x)

unfoldable pub made_script : ℕ → ScriptLines
made_script seed = record {
  table_names = codes "euler" ∷ codes "rk4" ∷ codes "mid" ∷ [];
  tables = euler ∷ rk4 ∷ midpoint ∷ [];
  sessions = made_sessions MADE_SESSIONS seed;
}
