-- Changes at one place, and the state that the changes of an event make.
use Rattle.std.proofs.Common.{◌≡◌, ◌≢◌, ℕ, zero, suc, ◌+◌, ◌<◌, ◌≤◌, ◌==◌, ◌&&◌, Bool, true, List, [], ◌∷◌, ◌++◌, length, refl, sym, ap, ap₂, ◌∙◌, subst, arith, if◌then◌else◌, ⊎_elim, replicate, take}
use Rattle.std.specs.Prelude.{nat_lt}
use Rattle.std.proofs.lemmas.Bool.{lt-ltb}
use Rattle.std.proofs.lemmas.List.{length-replicate}
use mathlib.Core.Logic.{dite}
use native.Mathlib.Decide.{ℕ_discrete}
use lib.ListN.{get_or, set}
use Rattle.bs_tree.specs.SortingLaws.{by_cases}
use Rattle.bs_tree.specs.Code.{child_codes}
use Rattle.bs_core.specs.Codes.{Code, children, stripe_of}
use Rattle.bs_core.specs.Machine.{State, state_of, no_table, after_by, on_list, HasParties, needs, allowed, after, step, run, on_table, times, code_at, without, pair, has_all, taken, left, freed, codes, is_entry, is_dense, may_enter, raised, lowered, added, interned, at_place, list_at, table_at, party_in, other_in, stripe_in, name_in}
use Rattle.bs_core.specs.Canonical.{Each, HasCode, Canonical}
use Rattle.bs_core.specs.declared.name.Name.{Name}
use Rattle.bs_core.specs.declared.table.Held.{Held}
use Rattle.bs_core.specs.declared.table.Table.{Table}
use Rattle.bs_core.specs.declared.event.Event.{Event}
use Rattle.bs_core.specs.declared.event.Event.TheVariants.{Intern, Hold, Release, Give, Look, Keep, Evict}
use Rattle.bs_core.proofs.Basics.{by_test, name_test, length_at_place, children_is}
use Rattle.bs_core.proofs.May.{both_true, either_true, is_entry_true, there, allowed_may}
use Rattle.bs_core.proofs.Pairs.{has_codes}
use Rattle.bs_core.proofs.Keeps.{same_place, event_keeps}
use Rattle.bs_core.proofs.Runs.{opening_canonical, stepped}
use Rattle.bs_core.proofs.Places.{set_place, list_get, table_get}

-- ---- places
pub place_as : (i : ℕ) (f g : List Held → List Held) (ls : List (List Held)) → f (list_at i ls) ≡ g (list_at i ls) → at_place i f ls ≡ at_place i g ls
place_as i f g [] e = refl
place_as zero f g (l ∷ ls) e = ap (λ (k : List Held). k ∷ ls) e
place_as (suc i) f g (l ∷ ls) e = ap (λ (ks : List (List Held)). l ∷ ks) (place_as i f g ls e)

pub table_as : (i : ℕ) (f g : Table → Table) (ts : List Table) → f (table_at i ts) ≡ g (table_at i ts) → at_place i f ts ≡ at_place i g ts
table_as i f g [] e = refl
table_as zero f g (t ∷ ts) e = ap (λ (k : Table). k ∷ ts) e
table_as (suc i) f g (t ∷ ts) e = ap (λ (ks : List Table). t ∷ ks) (table_as i f g ts e)

place_twice : (i : ℕ) (f g : List Held → List Held) (ls : List (List Held)) → at_place i f (at_place i g ls) ≡ at_place i (λ (l : List Held). f (g l)) ls
place_twice i f g [] = refl
place_twice zero f g (l ∷ ls) = refl
place_twice (suc i) f g (l ∷ ls) = ap (λ (ks : List (List Held)). l ∷ ks) (place_twice i f g ls)

place_swap : (i j : ℕ) (f g : List Held → List Held) (ls : List (List Held)) → i ≢ j → at_place i f (at_place j g ls) ≡ at_place j g (at_place i f ls)
place_swap i j f g [] n = refl
place_swap zero zero f g (l ∷ ls) n = absurd (n refl)
place_swap zero (suc j) f g (l ∷ ls) n = refl
place_swap (suc i) zero f g (l ∷ ls) n = refl
place_swap (suc i) (suc j) f g (l ∷ ls) n = ap (λ (ks : List (List Held)). l ∷ ks) (place_swap i j f g ls (λ e. n (ap suc e)))

-- the first pair of a name is before what comes
without_append : (x : Name) (l ks : List Held) → 0 < times x l → without x (l ++ ks) ≡ without x l ++ ks
without_append x [] ks h = absurd (omega arith)
without_append x (p ∷ ps) ks h = name_test x p.name (λ b. 0 < (if b then 1 else 0) + times x ps → (if b then ps ++ ks else p ∷ without x (ps ++ ks)) ≡ (if b then ps else p ∷ without x ps) ++ ks)
    (λ e z. refl)
    (λ n z. ap (λ (qs : List Held). p ∷ qs) (without_append x ps ks (omega arith)))
    h

-- ---- events
pub hold_is : (p : ℕ) (x : Name) (ts : List Table) (ls : List (List Held))
    → state_of (at_place x.stripe (raised x.slot) ts) (at_place p (λ l. l ++ pair x (code_at x (list_at p ls)) ∷ []) ls) ≡ after (Hold p x) (state_of ts ls)
hold_is p x ts ls = ap (state_of (at_place x.stripe (raised x.slot) ts)) (place_as p (λ l. l ++ pair x (code_at x (list_at p ls)) ∷ []) (λ l. l ++ pair x (code_at x l) ∷ []) ls refl)

pub release_is : (p : ℕ) (x : Name) (ts : List Table) (ls : List (List Held)) → 0 < times x (list_at p ls)
    → state_of (at_place x.stripe (lowered x.slot) ts) (at_place p (without x) (at_place p (λ l. l ++ freed x.slot (table_at x.stripe ts).entries) ls)) ≡ after (Release p x) (state_of ts ls)
release_is p x ts ls h =
    let ks = freed x.slot (table_at x.stripe ts).entries in
    ap (state_of (at_place x.stripe (lowered x.slot) ts))
    (place_twice p (without x) (λ l. l ++ ks) ls ∙ place_as p (λ l. without x (l ++ ks)) (λ l. without x l ++ ks) ls (without_append x (list_at p ls) ks h))

pub give_is : (p q : ℕ) (x : Name) (ts : List Table) (ls : List (List Held)) → 0 < times x (list_at p ls)
    → state_of ts (at_place p (without x) (at_place q (λ l. l ++ pair x (code_at x (list_at p ls)) ∷ []) ls)) ≡ after (Give p q x) (state_of ts ls)
give_is p q x ts ls h =
    let ks = pair x (code_at x (list_at p ls)) ∷ [] in
    let moved : at_place p (without x) (at_place q (λ l. l ++ ks) ls) ≡ at_place q (λ l. l ++ ks) (at_place p (without x) ls) = dite (ℕ_discrete p q)
    (λ e. subst (λ j. at_place p (without x) (at_place j (λ l. l ++ ks) ls) ≡ at_place j (λ l. l ++ ks) (at_place p (without x) ls)) e
    (place_twice p (without x) (λ l. l ++ ks) ls ∙ place_as p (λ l. without x (l ++ ks)) (λ l. without x l ++ ks) ls (without_append x (list_at p ls) ks h) ∙ sym (place_twice p (λ l. l ++ ks) (without x) ls)))
    (λ n. place_swap p q (without x) (λ l. l ++ ks) ls n) in
    ap₂ state_of (sym (same_place x.stripe ts)) moved

pub keep_is : (p q : ℕ) (x : Name) (ts : List Table) (ls : List (List Held))
    → state_of (at_place x.stripe (raised x.slot) ts) (at_place q (λ l. l ++ pair x (code_at x (list_at p ls)) ∷ []) ls) ≡ after (Keep p q x) (state_of ts ls)
keep_is p q x ts ls = ap (λ (ks : List (List Held)). state_of (at_place x.stripe (raised x.slot) ts) (at_place q (λ l. l ++ pair x (code_at x (list_at p ls)) ∷ []) ks)) (sym (same_place p ls))

pub look_is : (p q : ℕ) (x : Name) (ts : List Table) (ls : List (List Held)) → state_of ts ls ≡ after (Look p q x) (state_of ts ls)
look_is p q x ts ls = ap₂ state_of (sym (same_place x.stripe ts)) (sym (same_place p ls))

pub intern_found : (p : ℕ) (c : Code) (x : Name) (ts : List Table) (ls : List (List Held)) → 0 < codes c (table_at x.stripe ts).entries
    → state_of (at_place x.stripe (raised x.slot) ts) (at_place p (λ l. l ++ pair x c ∷ []) ls) ≡ after (Intern p c x) (state_of ts ls)
intern_found p c x ts ls h =
    let xs = taken (children c) (list_at p ls) in
    let t = table_at x.stripe ts in
    let F : Table → Bool → Table = λ t b. if b then added x.slot c xs t else raised x.slot t in
    ap₂ state_of
    (table_as x.stripe (raised x.slot) (interned x.slot c xs) ts (by_test (codes c t.entries) 0 (λ b. raised x.slot t ≡ F t b) (λ e. absurd (omega arith)) (λ _. refl)))
    (by_test (codes c t.entries) 0 (λ b. at_place p (λ l. l ++ pair x c ∷ []) ls ≡ at_place p (λ l. (if b then left (children c) l else l) ++ pair x c ∷ []) ls) (λ e. absurd (omega arith)) (λ _. refl))

pub intern_new : (p : ℕ) (c : Code) (x : Name) (ts : List Table) (ls : List (List Held)) → codes c (table_at x.stripe ts).entries ≡ 0
    → state_of (at_place x.stripe (added x.slot c (taken (children c) (list_at p ls))) ts) (at_place p (λ _. left (children c) (list_at p ls) ++ pair x c ∷ []) ls) ≡ after (Intern p c x) (state_of ts ls)
intern_new p c x ts ls h =
    let xs = taken (children c) (list_at p ls) in
    let t = table_at x.stripe ts in
    let k = left (children c) (list_at p ls) ++ pair x c ∷ [] in
    let F : Table → Bool → Table = λ t b. if b then added x.slot c xs t else raised x.slot t in
    ap₂ state_of
    (table_as x.stripe (added x.slot c xs) (interned x.slot c xs) ts (by_test (codes c t.entries) 0 (λ b. added x.slot c xs t ≡ F t b) (λ _. refl) (λ n. absurd (n h))))
    (by_test (codes c t.entries) 0 (λ b. at_place p (λ _. k) ls ≡ at_place p (λ l. (if b then left (children c) l else l) ++ pair x c ∷ []) ls)
    (λ _. place_as p (λ _. k) (λ l. left (children c) l ++ pair x c ∷ []) ls refl) (λ n. absurd (n h)))

-- ---- what is allowed
pub dense_where_new : (s : ℕ) (c : Code) (t : Table) → may_enter s c t ≡ true → codes c t.entries ≡ 0 → is_dense s t ≡ true
dense_where_new s c t h none = ⊎_elim
    (λ a. let k = is_entry_true s c t.entries a in let r = has_codes s c t.entries k in absurd (omega arith))
    (λ a.
    let b = both_true (codes c t.entries == 0) _ a in
    (both_true _ (is_dense s t) b.1).1)
    (either_true (is_entry s c t.entries) _ h)

pub allowed_is : (n : ℕ) (e : Event) (g : State) → HasParties (length g.lists) e
    → allowed n e g ≡ (nat_lt (stripe_in e) (length g.tables) && needs n e (list_at (party_in e) g.lists) (table_at (stripe_in e) g.tables))
allowed_is n e g h =
    let r = nat_lt (stripe_in e) (length g.tables) && needs n e (list_at (party_in e) g.lists) (table_at (stripe_in e) g.tables) in
    ap₂ (λ (a : Bool) (b : Bool). a && (b && r)) (lt-ltb (party_in e) (length g.lists) h.0) (lt-ltb (other_in e) (length g.lists) h.1)

-- ---- what the code does at one place
pub put_place : {A : Type 0} (i j : ℕ) (F : A → A) (xs : List A) (d y : A) → i ≡ j → j < length xs → d ≡ get_or xs i d → y ≡ F d → set xs i y ≡ at_place j F xs
put_place i j F xs d y is lt here new = ap₂ (set xs) is (new ∙ ap F (here ∙ ap (λ k. get_or xs k d) is)) ∙ set_place j F xs d lt

pub list_here : (i : ℕ) (ls : List (List Held)) (d : List Held) → i < length ls → d ≡ get_or ls i d → d ≡ list_at i ls
list_here i ls d lt here = here ∙ list_get i ls d lt

pub table_here : (i j : ℕ) (ts : List Table) (d : Table) → i ≡ j → j < length ts → d ≡ get_or ts i d → d ≡ table_at j ts
table_here i j ts d is lt here = here ∙ ap (λ k. get_or ts k d) is ∙ table_get j ts d lt

abbrev both_need : ℕ → Code → Name → List Held → Table → Bool
both_need n c x l t = (x.stripe == stripe_of n c) && (has_all (child_codes c) l && may_enter x.slot c t)

pub allowed_intern : (n p : ℕ) (c : Code) (x y : Name) (ts : List Table) (ls : List (List Held)) (l : List Held) (t : Table) (e : Event) (may : Bool)
    → e ≡ Intern p c x → HasParties (length ls) e → y ≡ name_in e → y.stripe < length ts → l ≡ list_at (party_in e) ls → t ≡ table_at y.stripe ts
    → may ≡ both_need n c y l t → may ≡ allowed n e (state_of ts ls)
allowed_intern n p c x y ts ls l t e may is =
    subst (λ (k : Event). HasParties (length ls) k → y ≡ name_in k → y.stripe < length ts → l ≡ list_at (party_in k) ls → t ≡ table_at y.stripe ts → may ≡ both_need n c y l t → may ≡ allowed n k (state_of ts ls)) (sym is)
    (λ parties name lt list table h.
    let r = both_need n c y (list_at p ls) (table_at y.stripe ts) in
    h ∙ ap₂ (both_need n c y) list table
    ∙ sym (ap (λ (b : Bool). b && r) (lt-ltb y.stripe (length ts) lt))
    ∙ ap (λ (z : Name). nat_lt z.stripe (length ts) && both_need n c z (list_at p ls) (table_at z.stripe ts)) name
    ∙ ap (λ (cs : List Code). nat_lt x.stripe (length ts) && ((x.stripe == stripe_of n c) && (has_all cs (list_at p ls) && may_enter x.slot c (table_at x.stripe ts)))) (sym (children_is c))
    ∙ sym (allowed_is n (Intern p c x) (state_of ts ls) parties))

-- the need of each event but an Intern
pub held_need : (n : ℕ) (e : Event) (l : List Held) (t : Table) → ((p : ℕ) (c : Code) (x : Name) → e ≢ Intern p c x) → needs n e l t ≡ nat_lt 0 (times (name_in e) l)
held_need n (Intern p c x) l t other = absurd (other p c x refl)
held_need n (Hold p x) l t other = refl
held_need n (Release p x) l t other = refl
held_need n (Give p q x) l t other = refl
held_need n (Look p q x) l t other = refl
held_need n (Keep p q x) l t other = refl
held_need n (Evict q x) l t other = refl

pub allowed_held : (n : ℕ) (y : Name) (ts : List Table) (ls : List (List Held)) (l : List Held) (e : Event) (may : Bool)
    → ((p : ℕ) (c : Code) (x : Name) → e ≢ Intern p c x) → HasParties (length ls) e → y ≡ name_in e → y.stripe < length ts → l ≡ list_at (party_in e) ls
    → may ≡ nat_lt 0 (times y l) → may ≡ allowed n e (state_of ts ls)
allowed_held n y ts ls l e may other parties name lt list h =
    let need = needs n e (list_at (party_in e) ls) (table_at (stripe_in e) ts) in
    h ∙ ap₂ (λ (z : Name) (k : List Held). nat_lt 0 (times z k)) name list
    ∙ sym (held_need n e (list_at (party_in e) ls) (table_at (stripe_in e) ts) other)
    ∙ sym (ap (λ (b : Bool). b && need) (ap (λ (z : Name). nat_lt z.stripe (length ts)) (sym name) ∙ lt-ltb y.stripe (length ts) lt))
    ∙ sym (allowed_is n e (state_of ts ls) parties)

pub intern_needs : (n p : ℕ) (c : Code) (x : Name) (e : Event) (g : State) → allowed n e g ≡ true → e ≡ Intern p c x → has_all (child_codes c) (list_at p g.lists) ≡ true
intern_needs n p c x e g h is =
    let l = list_at p g.lists in
    let k : allowed n (Intern p c x) g ≡ true = ap (λ (d : Event). allowed n d g) (sym is) ∙ h in
    let a = both_true (x.stripe == stripe_of n c) (has_all (children c) l && may_enter x.slot c (table_at x.stripe g.tables)) (there n (Intern p c x) g k).3 in
    let b = both_true (has_all (children c) l) (may_enter x.slot c (table_at x.stripe g.tables)) a.1 in
    ap (λ (cs : List Code). has_all cs l) (sym (children_is c)) ∙ b.0

-- an allowed event keeps the number of tables and lists, and a canonical state
pub kept_after : (e : Event) (ts : List Table) (ls : List (List Held)) (g' : State) → HasCode e → allowed (length ts) e (state_of ts ls) ≡ true → g' ≡ after e (state_of ts ls) → Canonical (length ts) (state_of ts ls)
    → (length ts ≡ length g'.tables) × Canonical (length ts) g'
kept_after e ts ls g' code may is c =
    let g = state_of ts ls in
    let l = list_at (party_in e) ls in (
      sym (ap (λ (k : State). length k.tables) is ∙ length_at_place (on_table e l) (stripe_in e) ts),
      subst (Canonical (length ts)) (sym is) (event_keeps (length ts) e g (allowed_may (length ts) e g code may) c),
    )

pub opening_core : (n m : ℕ) (ts : List Table) (ls : List (List Held)) → ts ≡ replicate n no_table → ls ≡ replicate m [] → (n ≡ length ts) × Canonical (length ts) (state_of ts ls)
opening_core n m ts ls et el =
    let long : length ts ≡ n = ap (λ (k : List Table). length k) et ∙ length-replicate n no_table in
    (sym long, subst (λ k. Canonical k (state_of ts ls)) (sym long) (subst (Canonical n) (sym (ap₂ state_of et el)) (opening_canonical n m)))

-- ---- runs
list_count : (e : Event) (l : List Held) (t : Table) (g : State) → length (after_by e l t g).lists ≡ length g.lists
list_count (Intern p c x) l t g = length_at_place (on_list (Intern p c x) t) p g.lists
list_count (Hold p x) l t g = length_at_place (on_list (Hold p x) t) p g.lists
list_count (Release p x) l t g = length_at_place (on_list (Release p x) t) p g.lists
list_count (Give p q x) l t g = length_at_place (λ k. k ++ pair x (code_at x l) ∷ []) q (at_place p (on_list (Give p q x) t) g.lists) ∙ length_at_place (on_list (Give p q x) t) p g.lists
list_count (Look p q x) l t g = length_at_place (on_list (Look p q x) t) p g.lists
list_count (Keep p q x) l t g = length_at_place (λ k. k ++ pair x (code_at x l) ∷ []) q (at_place p (on_list (Keep p q x) t) g.lists) ∙ length_at_place (on_list (Keep p q x) t) p g.lists
list_count (Evict q x) l t g = length_at_place (on_list (Evict q x) t) q g.lists

pub after_counts : (e : Event) (ts : List Table) (ls : List (List Held)) (g g' : State) → state_of ts ls ≡ g → g' ≡ after e (state_of ts ls) → (length g'.tables ≡ length g.tables) × (length g'.lists ≡ length g.lists)
after_counts e ts ls g g' was is =
    let l = list_at (party_in e) ls in (
      ap (λ (k : State). length k.tables) is ∙ length_at_place (on_table e l) (stripe_in e) ts ∙ ap (λ (k : State). length k.tables) was,
      ap (λ (k : State). length k.lists) is ∙ list_count e l (table_at (stripe_in e) ts) (state_of ts ls) ∙ ap (λ (k : State). length k.lists) was,
    )

step_counts : (n : ℕ) (e : Event) (g : State) → (length (step n e g).state.tables ≡ length g.tables) × (length (step n e g).state.lists ≡ length g.lists)
step_counts n e g =
    let l = list_at (party_in e) g.lists in
    let t = table_at (stripe_in e) g.tables in
    by_cases (allowed n e g)
    (λ a. subst (λ b. (length (stepped b e g).state.tables ≡ length g.tables) × (length (stepped b e g).state.lists ≡ length g.lists)) (sym a) (length_at_place (on_table e l) (stripe_in e) g.tables, list_count e l t g))
    (λ a. subst (λ b. (length (stepped b e g).state.tables ≡ length g.tables) × (length (stepped b e g).state.lists ≡ length g.lists)) (sym a) (refl, refl))

run_more : (n : ℕ) (es : List Event) (e : Event) (g : State) → run n (es ++ e ∷ []) g ≡ (step n e (run n es g)).state
run_more n [] e g = refl
run_more n (d ∷ ds) e g = run_more n ds e (step n d g).state

pub each_get : {A : Type 0} (P : A → Type 0) (i : ℕ) (xs : List A) (x : A) → Each P xs → i < length xs → x ≡ get_or xs i x → P x
each_get P i [] x h lt e = absurd (omega arith)
each_get P zero (y ∷ ys) x h lt e = subst P (sym e) h.0
each_get P (suc i) (y ∷ ys) x h lt e = each_get P i ys x h.1 (omega arith) e

pub record RunsTo (i : ℕ) (es : List Event) (before now : State) : Type 0 where
  pub state : now ≡ run (length before.tables) (take i es) before
  pub tables : length now.tables ≡ length before.tables
  pub lists : length now.lists ≡ length before.lists
  pub canonical : Canonical (length before.tables) now

pub run_begins : (es : List Event) (g : State) → Canonical (length g.tables) g → RunsTo 0 es g g
run_begins es g c = record { state = refl; tables = refl; lists = refl; canonical = c }

pub run_goes : (i : ℕ) (es : List Event) (e : Event) (before now next : State) → RunsTo i es before now → i < length es → e ≡ get_or es i e → next ≡ (step (length now.tables) e now).state → Canonical (length now.tables) next → RunsTo (i + 1) es before next
run_goes i es e before now next r lt at is c =
    let n = length before.tables in
    let k = step_counts (length now.tables) e now in
    let on : take (i + 1) es ≡ take i es ++ e ∷ [] = ap (λ (j : ℕ). take j es) (let s : i + 1 ≡ suc i = omega arith in s) ∙ take_one i es e lt at in
    record {
      state = is ∙ ap₂ (λ (m : ℕ) (g : State). (step m e g).state) r.tables r.state ∙ sym (run_more n (take i es) e before) ∙ ap (λ (ds : List Event). run n ds before) (sym on);
      tables = ap (λ (g : State). length g.tables) is ∙ k.0 ∙ r.tables;
      lists = ap (λ (g : State). length g.lists) is ∙ k.1 ∙ r.lists;
      canonical = subst (λ (m : ℕ). Canonical m next) r.tables c;
    }
  where
    take_one : (i : ℕ) (es : List Event) (e : Event) → i < length es → e ≡ get_or es i e → take (suc i) es ≡ take i es ++ e ∷ []
    take_one i [] e lt at = absurd (omega arith)
    take_one zero (d ∷ ds) e lt at = ap (λ (k : Event). k ∷ []) (sym at)
    take_one (suc i) (d ∷ ds) e lt at = ap (λ (ks : List Event). d ∷ ks) (take_one i ds e (omega arith) at)

pub run_ends : (i : ℕ) (es : List Event) (before now : State) → RunsTo i es before now → length es ≤ i → now ≡ run (length before.tables) es before
run_ends i es before now r h = r.state ∙ ap (λ (ds : List Event). run (length before.tables) ds before) (all_taken i es h)
  where
    all_taken : (i : ℕ) (es : List Event) → length es ≤ i → take i es ≡ es
    all_taken zero [] h = refl
    all_taken (suc i) [] h = refl
    all_taken zero (d ∷ ds) h = absurd (omega arith)
    all_taken (suc i) (d ∷ ds) h = ap (λ (ks : List Event). d ∷ ks) (all_taken i ds (omega arith))
