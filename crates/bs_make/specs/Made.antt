-- The made input of a seed: a script of three tableaux and 64 sessions of 35 commands each. Numbers are drawn in the order of
-- the text.
--
--   joined ls          == the lines, each with a line feed behind it
--   tree_name j        == `tJ`
--   further n l x      == the levels of n further nodes, where the node before has level l
--   tree_levels x      == the levels of a tree of 1 to 10 nodes; the first is 1, each further one is from 2 to one above the
--                         level before
--   after_tree x       == where the generator stands after a tree
--   tree_line j x      == `tree tJ LEVELS`
--   tree_lines n j x   == n trees, of which the first is tJ
--   after_trees n x    == where the generator stands after n trees
--   method_name n      == the tableau of this place
--   question_lines j   == what is asked of the trees, the last of them of tJ
--   series_lines n     == the exact flow, and the method with the tableau of place n
--   derived_lines      == three series that are made of those
--   coeff_lines n j    == two coefficients at each of n trees, of which the first is tJ
--   last_lines         == the last commands of a session
--   commands x         == THE COMMANDS of a session, where the generator stands at x
--   after_session x    == where it stands after the session
--   session_block x    == the lines of a session
--   session_lines n x  == those of n sessions
--   table_lines        == the blocks of Euler's method, the method of Kutta of order 4, and the midpoint rule
--   made_lines seed    == the lines of the made input
--   made_text seed     == THE MADE INPUT of a seed
--
-- Source: this project.
-- The code appends piece by piece and keeps no list of lines.
use Rattle.std.specs.Prelude.{◌≡◌, ℕ, zero, suc, ◌+◌, List, [], ◌∷◌, ◌++◌, ◌==◌, if◌then◌else◌, length, codes, decimal, refl}
use Rattle.std.specs.List.{join_by}
use Rattle.std.specs.Fmt.{digits}
use Rattle.bs_make.specs.Draws.{next, drawn, after_draws}
use Rattle.bs_make.specs.declared.TheConstants.{MADE_SESSIONS, MADE_TREES}

abbrev pub joined : List (List ℕ) → List ℕ
joined [] = []
joined (line ∷ lines) = line ++ 10 ∷ joined lines

abbrev pub tree_name : ℕ → List ℕ
tree_name j = codes "t" ++ decimal j

abbrev pub further : ℕ → ℕ → ℕ → List ℕ
further zero level x = []
further (suc n) level x = (2 + drawn level x) ∷ further n (2 + drawn level x) (next x)

abbrev pub tree_levels : ℕ → List ℕ
tree_levels x = 1 ∷ further (drawn 10 x) 1 (next x)

abbrev pub after_tree : ℕ → ℕ
after_tree x = after_draws (drawn 10 x) (next x)

unfoldable pub tree_line : ℕ → ℕ → List ℕ
tree_line j x = codes "tree " ++ tree_name j ++ codes " " ++ join_by decimal (codes ",") (tree_levels x)

abbrev pub tree_lines : ℕ → ℕ → ℕ → List (List ℕ)
tree_lines zero j x = []
tree_lines (suc n) j x = tree_line j x ∷ tree_lines n (j + 1) (after_tree x)

abbrev pub after_trees : ℕ → ℕ → ℕ
after_trees zero x = x
after_trees (suc n) x = after_trees n (after_tree x)

unfoldable pub method_name : ℕ → List ℕ
method_name n = if n == 0 then codes "euler" else (if n == 1 then codes "rk4" else codes "mid")

unfoldable pub question_lines : ℕ → List (List ℕ)
question_lines j = codes "same t0 t1" ∷ codes "same t2 t3" ∷ (codes "info " ++ tree_name j) ∷ []

unfoldable pub series_lines : ℕ → List (List ℕ)
series_lines n =
    codes "series e exact" ∷ (codes "series m method " ++ method_name n) ∷ []

unfoldable pub derived_lines : List (List ℕ)
derived_lines = codes "series d modified m" ∷ codes "series c compose m e" ∷ codes "series v inverse c" ∷ []

abbrev pub coeff_lines : ℕ → ℕ → List (List ℕ)
coeff_lines zero j = []
coeff_lines (suc n) j = (codes "coeff d " ++ tree_name j) ∷ (codes "coeff v " ++ tree_name j) ∷ coeff_lines n (j + 1)

unfoldable pub last_lines : List (List ℕ)
last_lines = codes "print d 5" ∷ codes "equal m e 4" ∷ codes "drop t0" ∷ []

-- the commands behind the trees
abbrev pub further_commands : ℕ → List (List ℕ)
further_commands x =
    question_lines (drawn MADE_TREES x) ++ series_lines (drawn 3 (next x)) ++ derived_lines ++ coeff_lines MADE_TREES 0
    ++ last_lines

unfoldable pub commands : ℕ → List (List ℕ)
commands x = tree_lines MADE_TREES 0 x ++ further_commands (after_trees MADE_TREES x)

unfoldable pub after_session : ℕ → ℕ
after_session x = after_draws 2 (after_trees MADE_TREES x)

unfoldable pub session_block : ℕ → List (List ℕ)
session_block x = codes "session" ∷ commands x ++ codes "end" ∷ []

unfoldable pub session_lines : ℕ → ℕ → List (List ℕ)
session_lines zero x = []
session_lines (suc n) x = session_block x ++ session_lines n (after_session x)

unfoldable pub table_lines : List (List ℕ)
table_lines =
    codes "tableau euler 1" ∷ codes "a 0" ∷ codes "b 1" ∷ codes "end"
    ∷ codes "tableau rk4 4" ∷ codes "a 0 0 0 0" ∷ codes "a 1/2 0 0 0" ∷ codes "a 0 1/2 0 0" ∷ codes "a 0 0 1 0"
    ∷ codes "b 1/6 1/3 1/3 1/6" ∷ codes "end"
    ∷ codes "tableau mid 1" ∷ codes "a 1/2" ∷ codes "b 1" ∷ codes "end" ∷ []

unfoldable pub made_lines : ℕ → List (List ℕ)
made_lines seed = table_lines ++ session_lines MADE_SESSIONS seed

abbrev pub made_text : ℕ → List ℕ
made_text seed = joined (made_lines seed)

first_tree_of_seven : length (tree_levels 7) ≡ 9
first_tree_of_seven = refl

line_of_seven : tree_line 0 7 ≡ codes "tree t0 1,2,3,4,3,4,2,2,3"
unfolding tree_line digits
line_of_seven = refl

first_tree_of_none : length (tree_levels 0) ≡ 8
first_tree_of_none = refl
