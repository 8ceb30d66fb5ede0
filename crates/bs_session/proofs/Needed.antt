-- What a session needs: that its commands' parts are parts of the whole.
use Rattle.std.proofs.Common.{◌≡◌, ℕ, suc, ◌+◌, ◌<◌, sum_by, arith, List, [], ◌∷◌, ◌++◌, length, drop, flat_map, Ok, refl, sym, ◌∙◌, ap, subst, add-one, zero-add, append-nil}
use Rattle.std.proofs.Math.Seq.{drop-cons}
use Rattle.std.proofs.lemmas.List.{append_assoc}
use Rattle.std.proofs.lemmas.List.Sums.{sum_by-append}
use Rattle.bs_tree.specs.Tree.{Tree}
use Rattle.bs_tree.specs.Code.{tree_of}
use Rattle.bs_script.specs.Blocks.{ScriptLines}
use Rattle.bs_series.specs.Series.{Series}
use Rattle.bs_series.specs.Needed.{Among}
use Rattle.bs_series.specs.Expressions.{series_at}
use Rattle.bs_names.specs.Known.{Known}
use Rattle.bs_command.specs.Commands.{Outcome}
use Rattle.bs_session.specs.Replies.{settled}
use Rattle.bs_names.specs.Space.{known_of}
use Rattle.bs_session.specs.Needed.{Ran, ran, run, session_run, need_answered, ran_need, trees_named, session_trees, IsBehind}
use Rattle.bs_session.specs.Listing.{lines_listed}
use Rattle.bs_work.specs.WorkNeeded.{NeededOn}
use Rattle.bs_session.specs.Machine.{lines_here, lines_left, State, session_at, commands_of, tables_of, line_at, outcome_at, whole_run, run_left, need_here, need_whole}
use Rattle.bs_session.proofs.Turns.{Turned}
use Rattle.bs_work.specs.declared.step.Step.{Step}
use Rattle.bs_work.specs.declared.step.Step.TheVariants.{Intern, Release, Same, Look, Keep, Done}
use Rattle.bs_eval.proofs.Chain.{among_front, among_behind}

-- those behind the one at the place
abbrev pub run_behind : ScriptLines → State → List Ran
run_behind script s =
    let now = settled (known_of s.space) s.used (outcome_at script s) in
    run (tables_of script s) now.known now.used (drop (suc s.place) (commands_of script s))

pub run-here : (script : ScriptLines) (s : State) → s.place < length (commands_of script s) → run_left script s ≡ ran (tables_of script s) (known_of s.space) s.used (line_at script s) ∷ run_behind script s
run-here script s more =
    let d : drop s.place (commands_of script s) ≡ line_at script s ∷ drop (suc s.place) (commands_of script s) = drop-cons (commands_of script s) s.place [] more in
    rw d refl

pub run-turned : (script : ScriptLines) (old new : State) → Turned (outcome_at script old) old new → run_left script new ≡ run_behind script old
run-turned script old new t = rw (t.used, t.known, t.place, t.number, add-one old.place) refl

-- a command more is carried out
sum_front : (front : List Ran) (r : Ran) → sum_by trees_named (front ++ r ∷ []) ≡ sum_by trees_named front + trees_named r
sum_front front r =
    let one : sum_by trees_named (r ∷ []) ≡ trees_named r = zero-add (trees_named r) in
    sum_by-append trees_named front (r ∷ []) ∙ ap (λ (n : ℕ). sum_by trees_named front + n) one

pub behind-turned : (all : List Ran) (r : Ran) (left after : List Ran) (m n : ℕ) → IsBehind all left m → left ≡ r ∷ after → n ≡ m + trees_named r → IsBehind all after n
behind-turned all r left after m n b e named = record {
  front = b.front ++ r ∷ [];
  is = b.is ∙ ap (λ (rs : List Ran). b.front ++ rs) e ∙ sym (append_assoc b.front (r ∷ []) after);
  trees = omega (arith, named, b.trees, sum_front b.front r);
}

pub behind-next : (script : ScriptLines) (old new : State) → old.place < length (commands_of script old) → Turned (outcome_at script old) old new
    → new.interned ≡ old.interned + trees_named (ran (tables_of script old) (known_of old.space) old.used (line_at script old)) → IsBehind (whole_run script old) (run_left script old) old.interned
    → IsBehind (whole_run script new) (run_left script new) new.interned
behind-next script old new more t named b =
    let r : Ran = ran (tables_of script old) (known_of old.space) old.used (line_at script old) in
    let here : run_left script old ≡ r ∷ run_left script new = run-here script old more ∙ ap (λ (rs : List Ran). r ∷ rs) (sym (run-turned script old new t)) in
    subst (λ (n : ℕ). IsBehind (session_run script (session_at script n)) (run_left script new) new.interned) (sym t.number)
    (behind-turned (whole_run script old) r (run_left script old) (run_left script new) old.interned new.interned b here named)

-- the lines of the command at the place, and of those behind it
pub lines-turned : (script : ScriptLines) (old new : State) → old.place < length (commands_of script old) → Turned (outcome_at script old) old new → lines_left script old ≡ lines_here script old + lines_left script new
lines-turned script old new more t =
    let r : Ran = ran (tables_of script old) (known_of old.space) old.used (line_at script old) in
    let after = run_left script new in
    let one : sum_by lines_listed (r ∷ []) ≡ lines_listed r = zero-add (lines_listed r) in
    ap (λ (rs : List Ran). sum_by lines_listed rs) (run-here script old more ∙ ap (λ (rs : List Ran). r ∷ rs) (sym (run-turned script old new t)))
    ∙ sum_by-append lines_listed (r ∷ []) after
    ∙ ap (λ (n : ℕ). n + sum_by lines_listed after) one

drop_all : {X : Type 0} (xs : List X) → drop (length xs) xs ≡ []
drop_all [] = refl
drop_all (x ∷ xs) = drop_all xs

-- behind the last command none is left, whatever is known
pub none_left : (script : ScriptLines) (s : State) → s.place ≡ length (commands_of script s) → run_left script s ≡ []
none_left script s last = let none : drop s.place (commands_of script s) ≡ [] = rw last (drop_all (commands_of script s)) in rw none refl

sum_none : (front rest : List Ran) → rest ≡ [] → sum_by trees_named (front ++ rest) ≡ sum_by trees_named front
sum_none front rest e = ap (λ (rs : List Ran). sum_by trees_named (front ++ rs)) e ∙ ap (λ (rs : List Ran). sum_by trees_named rs) (append-nil front)

-- so that all lines are listed
pub all-listed : (script : ScriptLines) (s : State) → s.place ≡ length (commands_of script s) → lines_left script s ≡ 0
all-listed script s last = ap (λ (rs : List Ran). sum_by lines_listed rs) (none_left script s last)

-- so that all trees are named
pub all-named : (script : ScriptLines) (s : State) → s.place ≡ length (commands_of script s) → IsBehind (whole_run script s) (run_left script s) s.interned → s.interned ≡ session_trees script (session_at script s.number)
all-named script s last b = b.trees ∙ sym (ap (λ (rs : List Ran). sum_by trees_named rs) b.is ∙ sum_none b.front (run_left script s) (none_left script s last))

pub behind-last : (script : ScriptLines) (old new : State) → new.number ≡ old.number → new.place ≡ old.place → old.place ≡ length (commands_of script old) → new.interned ≡ old.interned → IsBehind (whole_run script old) (run_left script old) old.interned → IsBehind (whole_run script new) (run_left script new) new.interned
behind-last script old new number place last named b =
    let before = none_left script old last in
    let after = none_left script new (place ∙ last ∙ ap (λ (n : ℕ). length (session_at script n).commands) (sym number)) in
    record { front = b.front; is = ap (λ (n : ℕ). session_run script (session_at script n)) number ∙ b.is ∙ ap (λ (rs : List Ran). b.front ++ rs) (before ∙ sym after); trees = named ∙ b.trees }

among_flat : (f : Ran → List (Series × Tree)) (p : Series × Tree) (front : List Ran) (r : Ran) (after : List Ran) → Among p (f r) → Among p (flat_map f (front ++ r ∷ after))
among_flat f p [] r after h = among_front p (f r) (flat_map f after) h
among_flat f p (x ∷ front) r after h = among_behind p (f x) (flat_map f (front ++ r ∷ after)) (among_flat f p front r after h)

answered : (outcome : Outcome) (answer : Known × List ℕ) (ps : List (Series × Tree)) → outcome ≡ Ok answer → need_answered outcome ps ≡ ps
answered outcome answer ps e = ap (λ (o : Outcome). need_answered o ps) e

-- what the command at the place needs, the session needs
pub need-here : (script : ScriptLines) (s : State) (answer : Known × List ℕ) (p : Series × Tree) → IsBehind (whole_run script s) (run_left script s) s.interned → s.place < length (commands_of script s) → outcome_at script s ≡ Ok answer
    → Among p (need_here script s) → Among p (need_whole script s)
need-here script s answer p b more ok h =
    let r : Ran = ran (tables_of script s) (known_of s.space) s.used (line_at script s) in
    let all : whole_run script s ≡ b.front ++ r ∷ run_behind script s = b.is ∙ ap (λ (rs : List Ran). b.front ++ rs) (run-here script s more) in
    let k : Among p (ran_need r) = subst (λ (ps : List (Series × Tree)). Among p ps) (sym (answered (outcome_at script s) answer (need_here script s) ok)) h in
    subst (λ (rs : List Ran). Among p (flat_map ran_need rs)) (sym all) (among_flat ran_need p b.front r (run_behind script s) k)

pub needed-whole : (script : ScriptLines) (s : State) (answer : Known × List ℕ) (step : Step) (es : List Series) → IsBehind (whole_run script s) (run_left script s) s.interned → s.place < length (commands_of script s) → outcome_at script s ≡ Ok answer
    → NeededOn es (need_here script s) step → NeededOn es (need_whole script s) step
needed-whole script s answer (Intern tree code) es b more ok h = tt
needed-whole script s answer (Release tree) es b more ok h = tt
needed-whole script s answer (Same l r) es b more ok h = tt
needed-whole script s answer (Look id code) es b more ok h = need-here script s answer (series_at es id, tree_of code) b more ok h
needed-whole script s answer (Keep id code v) es b more ok h = tt
needed-whole script s answer (Done reply) es b more ok h = tt
