-- A session interns a tree for each accepted `tree` command, and for nothing else.
use Rattle.std.proofs.Common.{◌≡◌, ℕ, ◌+◌, Bool, true, false, cond, List, [], ◌∷◌, ◌++◌, length, sum_by, Option, Some, None, IsSome, is_some, ◌||◌, option_map, Result, Ok, Err, nat_lt, arith, refl, sym, ◌∙◌, ap, ap₂, subst}
use Rattle.std.specs.Str.{bytes_eq}
use Rattle.std.proofs.lemmas.Slice.Eq.{bytes_eq-Decides}
use Rattle.bs_tree.specs.Tree.{Tree as Shape}
use Rattle.bs_tree.specs.Canonical.{canonical_sequence}
use Rattle.bs_levels.specs.Levels.{tree_of_words, Refusal}
use Rattle.bs_tableau.specs.Words.{words}
use Rattle.bs_script.specs.Blocks.{ScriptLines}
use Rattle.bs_series.specs.Series.{Series, exact, identity, average, method, compose, inverse, adjoint, substitute, modified, modifying, scale, colours_of}
use Rattle.bs_names.specs.Names.{at}
use Rattle.bs_names.specs.Known.{Known, Tables, with_tree, without_tree, is_taken, plain, number_of}
use Rattle.bs_command.specs.Asked.{order_to, colours_to, trees_asked, order_asked, order_shared}
use Rattle.bs_order.specs.OrderConditions.{trees_reply, conditions_reply, order_reply}
use Rattle.bs_command.specs.Acceptance.{made_of}
use Rattle.bs_work.specs.SeriesReplies.{print_reply, equal_reply}
use Rattle.bs_order.specs.declared.TheConstants.{MAX_CONDITIONS}
use Rattle.bs_command.specs.declared.TheConstants.{MAX_COEFF_ORDER}
use Rattle.bs_command.specs.declared.error.Error.TheVariants.{Taken, Colours, TooLarge}
use Rattle.bs_listing.specs.Items.{split_reply, partition_reply}
use Rattle.bs_reply.specs.Lines.{drop_line, weight_line, coeff_line}
use Rattle.bs_frac.specs.Text.{fraction_of}
use Rattle.bs_frac.specs.Written.{checked}
use Rattle.bs_tree.specs.Code.{tree_of}
use Rattle.bs_tableau.specs.Table.{Table}
use Rattle.bs_tableau.specs.WrittenWeight.{written_weight}
use Rattle.bs_series.specs.Value.{table_at}
use Rattle.bs_series.specs.SeriesCode.{Code, written_at}
use Rattle.bs_names.specs.Space.{Space, known_of}
use Rattle.bs_command.specs.Verbs.{verb_of}
use Rattle.bs_command.specs.Operations.{operation_of}
use Rattle.bs_command.specs.Commands.{Outcome, only, two, one_or_two, two_or_three, none_or_one, three, taken, found, asked, tree_made, tree_under, drop_command, same_reply, same_command, info_reply, has_colours, weight_of, weight_command, trees_command, named, under, coloured, scaled, of_colours, of_tableau, of_one, of_two, of_factor, made_by, series_command, coeff_of, coeff_command, print_command, equal_command, command_of, command}
use Rattle.bs_command.specs.Changes.{known_after, IsApt}
use Rattle.bs_session.specs.Needed.{Ran, ran, is_accepted, is_tree_verb, is_tree_line, named_if, trees_named}
use Rattle.bs_session.specs.Machine.{State, tables_of, line_at, outcome_at}
use Rattle.bs_session.specs.Turns.{Applies, SettlesBy}
use Rattle.bs_session.proofs.Turns.{taken_by, is_short}
use Rattle.bs_command.specs.declared.error.Error.{Error}
use Rattle.bs_command.specs.declared.change.Change.{Change}
use Rattle.bs_command.specs.declared.change.Change.TheVariants.{Nothing, Name, Drop, Define}
use Rattle.bs_command.specs.declared.operation.Operation.{Operation}
use Rattle.bs_command.specs.declared.operation.Operation.TheVariants as operation
use Rattle.bs_work.specs.declared.step.Step.{Step}
use Rattle.bs_work.specs.declared.step.Step.TheVariants.{Intern, Release, Same, Look, Keep, Done}
use Rattle.bs_command.specs.declared.verb.Verb.{Verb}
use Rattle.bs_command.specs.declared.verb.Verb.TheVariants as verb

-- ---- names that get a tree
-- a free name has got one
abbrev IsNamed : Known → Known → Type 0
IsNamed k l = (name : List ℕ) × (k.trees name ≡ None) × IsSome (l.trees name)

-- no free name has got one
abbrev Keeps : Known → Known → Type 0
Keeps k l = (name : List ℕ) → k.trees name ≡ None → l.trees name ≡ None

none_is_not : {X : Type 0} (o : Option X) → IsSome o → o ≡ None → ⊥
none_is_not {X} o h e = let k : false ≡ true = subst (λ (x : Option X). IsSome x) e h in cc

not_both : (k l : Known) → Keeps k l → IsNamed k l → ⊥
not_both k l keeps n = none_is_not (l.trees n.0) n.2 (keeps n.0 n.1)

none_by : {X : Type 0} (b : Bool) (o : Option X) → o ≡ None → cond b None o ≡ None
none_by true o h = refl
none_by false o h = h

some_by : {X : Type 0} (b : Bool) (x : X) (o : Option X) → b ≡ true → IsSome (cond b (Some x) o)
some_by true x o h = refl
some_by false x o h = cc

-- ---- what the commands answer
abbrev KeepsBy : Known → Outcome → Type 0
KeepsBy k (Err error) = Unit {0}
KeepsBy k (Ok answer) = Keeps k answer.0

by_taken : {X : Type 0} (k : Known) (o : Option X) (f : X → Outcome) → ((x : X) → KeepsBy k (f x)) → KeepsBy k (taken o f)
by_taken k None f h = tt
by_taken k (Some x) f h = h x

by_found : {X : Type 0} (k : Known) (o : Option X) (f : X → Outcome) → ((x : X) → KeepsBy k (f x)) → KeepsBy k (found o f)
by_found k None f h = tt
by_found k (Some x) f h = h x

by_asked : {X : Type 0} (k : Known) (r : Result X Error) (f : X → Outcome) → ((x : X) → KeepsBy k (f x)) → KeepsBy k (asked r f)
by_asked k (Err error) f h = tt
by_asked k (Ok x) f h = h x

same : (k : Known) → Keeps k k
same k = λ name h. h

dropped : (k : Known) (name : List ℕ) → Keeps k (without_tree k name)
dropped k name = λ other h. none_by (bytes_eq other name) (k.trees other) h

by_under : (k : Known) (name : List ℕ) (made : Result Series Error) → KeepsBy k (under k name made)
by_under k name made = by (is_taken k name)
  where
    by : (b : Bool) → KeepsBy k (cond b (Err Taken) (asked made (named k name)))
    by true = tt
    by false = by_asked k made (named k name) (λ s. λ other h. h)

by_of_colours : (k : Known) (name : List ℕ) (ws : List (List ℕ)) (make : ℕ → Series) → KeepsBy k (of_colours k name ws make)
by_of_colours k name ws make = by_taken k (none_or_one ws) (λ w. under k name (coloured make (colours_to w))) (λ w. by_under k name (coloured make (colours_to w)))

by_of_tableau : (tables : Tables) (k : Known) (name : List ℕ) (ws : List (List ℕ)) → KeepsBy k (of_tableau tables k name ws)
by_of_tableau tables k name ws =
    let made : ℕ → Result Series Error = λ n. Ok (method n (table_at (plain tables) n).colours) in
    by_taken k (only ws) (λ w. found (number_of w tables) (λ n. under k name (made n))) (λ w. by_found k (number_of w tables) (λ n. under k name (made n)) (λ n. by_under k name (made n)))

by_of_one : (tables : Tables) (k : Known) (name : List ℕ) (ws : List (List ℕ)) (make : Series → Series) → KeepsBy k (of_one tables k name ws make)
by_of_one tables k name ws make =
    let made : Series → Result Series Error = λ s. made_of (plain tables) (make s) in
    by_taken k (only ws) (λ w. found (k.series w) (λ s. under k name (made s))) (λ w. by_found k (k.series w) (λ s. under k name (made s)) (λ s. by_under k name (made s)))

by_of_two : (tables : Tables) (k : Known) (name : List ℕ) (ws : List (List ℕ)) (make : Series → Series → Series) → KeepsBy k (of_two tables k name ws make)
by_of_two tables k name ws make =
    let made : Series → Series → Result Series Error = λ s t. made_of (plain tables) (make s t) in
    by_taken k (two ws) (λ w. found (k.series w.0) (λ s. found (k.series w.1) (λ t. under k name (made s t))))
    (λ w. by_found k (k.series w.0) (λ s. found (k.series w.1) (λ t. under k name (made s t))) (λ s. by_found k (k.series w.1) (λ t. under k name (made s t)) (λ t. by_under k name (made s t))))

by_of_factor : (tables : Tables) (k : Known) (name : List ℕ) (ws : List (List ℕ)) → KeepsBy k (of_factor tables k name ws)
by_of_factor tables k name ws =
    let made : List ℕ → Series → Result Series Error = λ w s. scaled (plain tables) s (fraction_of w) in
    by_taken k (two ws) (λ w. found (k.series w.0) (λ s. under k name (made w.1 s))) (λ w. by_found k (k.series w.0) (λ s. under k name (made w.1 s)) (λ s. by_under k name (made w.1 s)))

by_made : (tables : Tables) (k : Known) (name : List ℕ) (o : Option Operation) (ws : List (List ℕ)) → KeepsBy k (made_by tables k name o ws)
by_made tables k name None ws = tt
by_made tables k name (Some operation.Exact) ws = by_of_colours k name ws exact
by_made tables k name (Some operation.Identity) ws = by_of_colours k name ws identity
by_made tables k name (Some operation.Average) ws = by_of_colours k name ws average
by_made tables k name (Some operation.Method) ws = by_of_tableau tables k name ws
by_made tables k name (Some operation.Compose) ws = by_of_two tables k name ws compose
by_made tables k name (Some operation.Inverse) ws = by_of_one tables k name ws inverse
by_made tables k name (Some operation.Adjoint) ws = by_of_one tables k name ws adjoint
by_made tables k name (Some operation.Substitute) ws = by_of_two tables k name ws substitute
by_made tables k name (Some operation.Modified) ws = by_of_one tables k name ws modified
by_made tables k name (Some operation.Modifying) ws = by_of_one tables k name ws modifying
by_made tables k name (Some operation.Scale) ws = by_of_factor tables k name ws

by_series : (tables : Tables) (k : Known) (ws : List (List ℕ)) → KeepsBy k (series_command tables k ws)
by_series tables k [] = tt
by_series tables k (name ∷ []) = tt
by_series tables k (name ∷ kind ∷ ws) = by_made tables k name (operation_of kind) ws

by_same : (k : Known) (ws : List (List ℕ)) → KeepsBy k (same_command k ws)
by_same k ws =
    let reply : Code → Code → Outcome = λ a b. Ok (k, same_reply a b) in
    by_taken k (two ws) (λ w. found (k.trees w.0) (λ a. found (k.trees w.1) (λ b. reply a b)))
    (λ w. by_found k (k.trees w.0) (λ a. found (k.trees w.1) (λ b. reply a b)) (λ a. by_found k (k.trees w.1) (λ b. reply a b) (λ b. same k)))

-- a reply about one tree
by_tree : (k : Known) (ws : List (List ℕ)) (reply : Code → List ℕ) → KeepsBy k (taken (only ws) (λ name. found (k.trees name) (λ code. Ok (k, reply code))))
by_tree k ws reply =
    let answer : Code → Outcome = λ code. Ok (k, reply code) in
    by_taken k (only ws) (λ name. found (k.trees name) (λ code. answer code)) (λ name. by_found k (k.trees name) (λ code. answer code) (λ code. same k))

by_drop : (k : Known) (ws : List (List ℕ)) → KeepsBy k (drop_command k ws)
by_drop k ws =
    let answer : List ℕ → Code → Outcome = λ name code. Ok (without_tree k name, drop_line name) in
    by_taken k (only ws) (λ name. found (k.trees name) (λ code. answer name code)) (λ name. by_found k (k.trees name) (λ code. answer name code) (λ code. dropped k name))

by_weight_of : (k : Known) (table : Table) (code : Code) → KeepsBy k (weight_of k table code)
by_weight_of k table code = by (has_colours table.colours code)
  where
    by : (b : Bool) → KeepsBy k (cond b (Ok (k, weight_line (written_weight checked table (tree_of code)))) (Err Colours))
    by true = same k
    by false = tt

by_weight : (tables : Tables) (k : Known) (ws : List (List ℕ)) → KeepsBy k (weight_command tables k ws)
by_weight tables k ws =
    by_taken k (two ws) (λ w. found (at w.0 tables) (λ table. found (k.trees w.1) (λ code. weight_of k table code)))
    (λ w. by_found k (at w.0 tables) (λ table. found (k.trees w.1) (λ code. weight_of k table code)) (λ table. by_found k (k.trees w.1) (λ code. weight_of k table code) (λ code. by_weight_of k table code)))

by_trees : (k : Known) (ws : List (List ℕ)) → KeepsBy k (trees_command k ws)
by_trees k ws =
    let answer : ℕ × ℕ → Outcome = λ p. Ok (k, trees_reply p.0 p.1) in
    by_taken k (one_or_two ws) (λ w. asked (trees_asked (order_to w.0) (colours_to w.1)) (λ p. answer p)) (λ w. by_asked k (trees_asked (order_to w.0) (colours_to w.1)) (λ p. answer p) (λ p. same k))

-- a reply about a method to an order
by_method : (tables : Tables) (k : Known) (ws : List (List ℕ)) (reply : Table → ℕ → List ℕ)
    → KeepsBy k (taken (two ws) (λ w. found (at w.0 tables) (λ table. asked (order_asked MAX_CONDITIONS table.colours (order_to w.1)) (λ p. Ok (k, reply table p)))))
by_method tables k ws reply =
    let answer : Table → ℕ → Outcome = λ table p. Ok (k, reply table p) in
    let at_order : List ℕ → Table → Outcome = λ order table. asked (order_asked MAX_CONDITIONS table.colours (order_to order)) (λ p. answer table p) in
    by_taken k (two ws) (λ w. found (at w.0 tables) (λ table. at_order w.1 table))
    (λ w. by_found k (at w.0 tables) (λ table. at_order w.1 table) (λ table. by_asked k (order_asked MAX_CONDITIONS table.colours (order_to w.1)) (λ p. answer table p) (λ p. same k)))

by_coeff_of : (tables : Tables) (k : Known) (s : Series) (code : Code) → KeepsBy k (coeff_of tables k s code)
by_coeff_of tables k s code = by (has_colours (colours_of s) code) (nat_lt MAX_COEFF_ORDER (length code))
  where
    by : (b c : Bool) → KeepsBy k (cond b (cond c (Err TooLarge) (Ok (k, coeff_line (written_at (plain tables) s code)))) (Err Colours))
    by true true = tt
    by true false = same k
    by false c = tt

by_coeff : (tables : Tables) (k : Known) (ws : List (List ℕ)) → KeepsBy k (coeff_command tables k ws)
by_coeff tables k ws =
    by_taken k (two ws) (λ w. found (k.series w.0) (λ s. found (k.trees w.1) (λ code. coeff_of tables k s code)))
    (λ w. by_found k (k.series w.0) (λ s. found (k.trees w.1) (λ code. coeff_of tables k s code)) (λ s. by_found k (k.trees w.1) (λ code. coeff_of tables k s code) (λ code. by_coeff_of tables k s code)))

by_print : (tables : Tables) (k : Known) (ws : List (List ℕ)) → KeepsBy k (print_command tables k ws)
by_print tables k ws =
    let answer : Series → ℕ → Outcome = λ s p. Ok (k, print_reply (plain tables) s p) in
    let at_order : List ℕ → Series → Outcome = λ order s. asked (order_asked MAX_CONDITIONS (colours_of s) (order_to order)) (λ p. answer s p) in
    by_taken k (two ws) (λ w. found (k.series w.0) (λ s. at_order w.1 s)) (λ w. by_found k (k.series w.0) (λ s. at_order w.1 s) (λ s. by_asked k (order_asked MAX_CONDITIONS (colours_of s) (order_to w.1)) (λ p. answer s p) (λ p. same k)))

by_equal : (tables : Tables) (k : Known) (ws : List (List ℕ)) → KeepsBy k (equal_command tables k ws)
by_equal tables k ws =
    let answer : Series → Series → ℕ → Outcome = λ a b p. Ok (k, equal_reply (plain tables) a b p) in
    let at_order : List ℕ → Series → Series → Outcome = λ order a b. asked (order_shared MAX_CONDITIONS (colours_of a) (colours_of b) (order_to order)) (λ p. answer a b p) in
    by_taken k (three ws) (λ w. found (k.series w.0) (λ a. found (k.series w.1) (λ b. at_order w.2 a b)))
    (λ w. by_found k (k.series w.0) (λ a. found (k.series w.1) (λ b. at_order w.2 a b))
    (λ a. by_found k (k.series w.1) (λ b. at_order w.2 a b) (λ b. by_asked k (order_shared MAX_CONDITIONS (colours_of a) (colours_of b) (order_to w.2)) (λ p. answer a b p) (λ p. same k))))

by_verb : (tables : Tables) (k : Known) (v : Option Verb) (ws : List (List ℕ)) → is_tree_verb v ≡ false → KeepsBy k (command_of tables k v ws)
by_verb tables k None ws h = tt
by_verb tables k (Some verb.Tree) ws h = absurd (let e : true ≡ false = h in cc)
by_verb tables k (Some verb.Drop) ws h = by_drop k ws
by_verb tables k (Some verb.Same) ws h = by_same k ws
by_verb tables k (Some verb.Info) ws h = by_tree k ws info_reply
by_verb tables k (Some verb.Weight) ws h = by_weight tables k ws
by_verb tables k (Some verb.Trees) ws h = by_trees k ws
by_verb tables k (Some verb.Conditions) ws h = by_method tables k ws conditions_reply
by_verb tables k (Some verb.Order) ws h = by_method tables k ws order_reply
by_verb tables k (Some verb.Split) ws h = by_tree k ws split_reply
by_verb tables k (Some verb.Partition) ws h = by_tree k ws partition_reply
by_verb tables k (Some verb.Series) ws h = by_series tables k ws
by_verb tables k (Some verb.Coeff) ws h = by_coeff tables k ws
by_verb tables k (Some verb.Print) ws h = by_print tables k ws
by_verb tables k (Some verb.Equal) ws h = by_equal tables k ws

by_line : (tables : Tables) (k : Known) (ws : List (List ℕ)) → is_tree_line ws ≡ false → KeepsBy k (command tables k ws)
unfolding command
by_line tables k [] h = tt
by_line tables k (first ∷ more) h = by_verb tables k (verb_of first) more h

-- ---- a tree that is named
free : {X Y : Type 0} (o : Option X) (p : Option Y) → (is_some o || is_some p) ≡ false → o ≡ None
free None p h = refl
free (Some x) p h = absurd (let e : true ≡ false = h in cc)

ok_is : (x y : Known × List ℕ) → (let o : Outcome = Ok x in o) ≡ Ok y → x ≡ y
ok_is x y e = cc

made_names : (k : Known) (name : List ℕ) (r : Result Shape Refusal) (answer : Known × List ℕ) → k.trees name ≡ None → tree_made k name r ≡ Ok answer → IsNamed k answer.0
made_names k name (Err refusal) answer h e = absurd cc
made_names k name (Ok t) answer h e =
    let code = canonical_sequence t in
    subst (λ (a : Known × List ℕ). IsNamed k a.0) (ok_is _ answer e) (name, h, some_by (bytes_eq name name) code (k.trees name) ((bytes_eq-Decides name name).1 refl))

under_names : (k : Known) (name : List ℕ) (r : Result Shape Refusal) (answer : Known × List ℕ) (b : Bool) → is_taken k name ≡ b → cond b (Err Taken) (tree_made k name r) ≡ Ok answer
    → IsNamed k answer.0
under_names k name r answer true h e = absurd cc
under_names k name r answer false h e = made_names k name r answer (free (k.trees name) (k.series name) h) e

tree_names : (k : Known) (o : Option (List ℕ × List ℕ × Option (List ℕ))) (answer : Known × List ℕ) → taken o (λ w. tree_under k w.0 w.1 w.2) ≡ Ok answer → IsNamed k answer.0
tree_names k None answer e = absurd cc
tree_names k (Some w) answer e = under_names k w.0 (tree_of_words w.1 w.2) answer (is_taken k w.0) refl e

verb_names : (tables : Tables) (k : Known) (v : Option Verb) (ws : List (List ℕ)) (answer : Known × List ℕ) → is_tree_verb v ≡ true → command_of tables k v ws ≡ Ok answer → IsNamed k answer.0
verb_names tables k (Some verb.Tree) ws answer h e = tree_names k (two_or_three ws) answer e
verb_names tables k _ ws answer h e = absurd (let f : false ≡ true = h in cc)

line_names : (tables : Tables) (k : Known) (ws : List (List ℕ)) (answer : Known × List ℕ) → is_tree_line ws ≡ true → command tables k ws ≡ Ok answer → IsNamed k answer.0
unfolding command
line_names tables k [] answer h e = absurd (let f : false ≡ true = h in cc)
line_names tables k (first ∷ more) answer h e = verb_names tables k (verb_of first) more answer h e

-- ---- the change
abbrev names : Change → Bool
names Nothing = false
names (Name name code) = true
names (Drop name) = false
names (Define name id) = false

change_names : (space : Space) (change : Change) → IsApt space change → names change ≡ true → IsNamed (known_of space) (known_after space change)
change_names space Nothing apt h = absurd (let e : false ≡ true = h in cc)
change_names space (Name name code) apt h =
    let k = known_of space in
    (name.now, ap (λ o. option_map (λ tree. tree.code) o) apt, some_by (bytes_eq name.now name.now) code (k.trees name.now) ((bytes_eq-Decides name.now name.now).1 refl))
change_names space (Drop name) apt h = absurd (let e : false ≡ true = h in cc)
change_names space (Define name id) apt h = absurd (let e : false ≡ true = h in cc)

change_keeps : (space : Space) (change : Change) → names change ≡ false → Keeps (known_of space) (known_after space change)
change_keeps space Nothing h = λ name k. k
change_keeps space (Name name code) h = absurd (let e : true ≡ false = h in cc)
change_keeps space (Drop name) h = dropped (known_of space) name.now
change_keeps space (Define name id) h = λ other k. k

is_naming : (tables : Tables) (space : Space) (ws : List (List ℕ)) (answer : Known × List ℕ) (change : Change) → command tables (known_of space) ws ≡ Ok answer → answer.0 ≡ known_after space change → IsApt space change
    → (b c : Bool) → names change ≡ b → is_tree_line ws ≡ c → b ≡ c
is_naming tables space ws answer change ok is apt true true n t = refl
is_naming tables space ws answer change ok is apt false false n t = refl
is_naming tables space ws answer change ok is apt true false n t =
    let k = known_of space in
    let keeps : Keeps k answer.0 = subst (λ (o : Outcome). KeepsBy k o) ok (by_line tables k ws t) in
    absurd (not_both k answer.0 keeps (subst (λ (l : Known). IsNamed k l) (sym is) (change_names space change apt n)))
is_naming tables space ws answer change ok is apt false true n t =
    let k = known_of space in
    absurd (not_both k answer.0 (subst (λ (l : Known). Keeps k l) (sym is) (change_keeps space change n)) (line_names tables k ws answer t ok))

-- ---- the number of trees that were interned
interned_applied : (change : Change) (taken new : State) (step : Option Step) → Applies change taken new step → new.interned ≡ taken.interned + cond (names change) 1 0
interned_applied Nothing taken new None a = let e : new.interned ≡ taken.interned = ap (λ (s : State). s.interned) a in omega (arith, e)
interned_applied Nothing taken new (Some (Intern tree c)) a = absurd a
interned_applied Nothing taken new (Some (Release tree)) a = absurd a
interned_applied Nothing taken new (Some (Same x y)) a = absurd a
interned_applied Nothing taken new (Some (Look id c)) a = absurd a
interned_applied Nothing taken new (Some (Keep id c v)) a = absurd a
interned_applied Nothing taken new (Some (Done reply)) a = absurd a
interned_applied (Name name code) taken new None a = absurd a
interned_applied (Name name code) taken new (Some (Intern tree c)) a = ap (λ (s : State). s.interned) a.0
interned_applied (Name name code) taken new (Some (Release tree)) a = absurd a
interned_applied (Name name code) taken new (Some (Same x y)) a = absurd a
interned_applied (Name name code) taken new (Some (Look id c)) a = absurd a
interned_applied (Name name code) taken new (Some (Keep id c v)) a = absurd a
interned_applied (Name name code) taken new (Some (Done reply)) a = absurd a
interned_applied (Drop name) taken new None a = absurd a
interned_applied (Drop name) taken new (Some (Intern tree c)) a = absurd a
interned_applied (Drop name) taken new (Some (Release tree)) a = let e : new.interned ≡ taken.interned = ap (λ (s : State). s.interned) a.0 in omega (arith, e)
interned_applied (Drop name) taken new (Some (Same x y)) a = absurd a
interned_applied (Drop name) taken new (Some (Look id c)) a = absurd a
interned_applied (Drop name) taken new (Some (Keep id c v)) a = absurd a
interned_applied (Drop name) taken new (Some (Done reply)) a = absurd a
interned_applied (Define name series) taken new None a = let e : new.interned ≡ taken.interned = ap (λ (s : State). s.interned) a.0 in omega (arith, e)
interned_applied (Define name series) taken new (Some (Intern tree c)) a = absurd a
interned_applied (Define name series) taken new (Some (Release tree)) a = absurd a
interned_applied (Define name series) taken new (Some (Same x y)) a = absurd a
interned_applied (Define name series) taken new (Some (Look id c)) a = absurd a
interned_applied (Define name series) taken new (Some (Keep id c v)) a = absurd a
interned_applied (Define name series) taken new (Some (Done reply)) a = absurd a

interned_settled : (b : Bool) (old : State) (text : List ℕ) (change : Change) (new : State) (step : Option Step) → SettlesBy b (taken_by b old text) change new step → new.interned ≡ old.interned + named_if b (names change)
interned_settled true old text change new step s = interned_applied change (taken_by true old text) new step s
interned_settled false old text change new step s = let e : new.interned ≡ old.interned = ap (λ (t : State). t.interned) s.0 in omega (arith, e)

pub interned-settled : (script : ScriptLines) (old new : State) (answer : Known × List ℕ) (change : Change) (step : Option Step) → outcome_at script old ≡ Ok answer → answer.0 ≡ known_after old.space change → IsApt old.space change
    → SettlesBy (is_short old answer.1) (taken_by (is_short old answer.1) old answer.1) change new step → new.interned ≡ old.interned + trees_named (ran (tables_of script old) (known_of old.space) old.used (line_at script old))
interned-settled script old new answer change step ok is apt s =
    let ws = words (line_at script old) in
    let fits : is_accepted old.used (outcome_at script old) ≡ is_short old answer.1 = ap (λ (o : Outcome). is_accepted old.used o) ok in
    let tree : names change ≡ is_tree_line ws = is_naming (tables_of script old) old.space ws answer change ok is apt (names change) (is_tree_line ws) refl refl in
    interned_settled (is_short old answer.1) old answer.1 change new step s ∙ ap₂ (λ (b c : Bool). old.interned + named_if b c) (sym fits) tree

pub interned-refused : (script : ScriptLines) (old new : State) (error : Error) → outcome_at script old ≡ Err error → new.interned ≡ old.interned
    → new.interned ≡ old.interned + trees_named (ran (tables_of script old) (known_of old.space) old.used (line_at script old))
interned-refused script old new error refused same =
    let ws = words (line_at script old) in
    let none : trees_named (ran (tables_of script old) (known_of old.space) old.used (line_at script old)) ≡ 0 = ap (λ (o : Outcome). named_if (is_accepted old.used o) (is_tree_line ws)) refused in
    omega (arith, same, none)
