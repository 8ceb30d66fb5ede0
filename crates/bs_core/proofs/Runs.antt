-- What holds over every list of events.
use Rattle.std.proofs.Common.{◌≡◌, ℕ, zero, suc, ◌≤◌, ◌==◌, Bool, true, false, List, [], ◌∷◌, replicate, refl, sym, subst, arith, if◌then◌else◌}
use mathlib.Core.Option.{some, some-ne-none, some-injective}
use lib.ListN.{get_elem?}
use Rattle.bs_tree.specs.Code.{IsCode, tree_of}
use Rattle.bs_tree.specs.Canonical.{IsCanonicalSequence}
use Rattle.bs_tree.specs.SortingLaws.{by_cases}
use Rattle.bs_tree.proofs.Canon.{canon_is, isomorphic_from_canon, canon_from_isomorphic}
use Rattle.bs_core.specs.Codes.{Code, children, same}
use Rattle.bs_core.specs.Machine.{State, Stepped, step, run, opening, allowed, after, no_table, list_at, at_place, raised, added, interned, new_entry, taken, codes}
use Rattle.bs_core.specs.Canonical.{Each, Orderly, Has, Stands, Canonical, every, all_times, link_lists, HasCode}
use Rattle.bs_core.specs.Laws.{IsHeld, LivesThrough, OpeningIsCanonical, EventsKeepCanonical, EqualNamesAreEqualCodes, NamesDecideTrees, NamesDecideIsomorphism, LiveNamesKeepTheirTrees, NotAllowedChangesNothing}
use Rattle.bs_core.specs.declared.name.Name.{Name}
use Rattle.bs_core.specs.declared.table.Held.{Held}
use Rattle.bs_core.specs.declared.table.Table.{Table}
use Rattle.bs_core.specs.declared.event.Event.{Event}
use Rattle.bs_core.specs.declared.event.Event.TheVariants.{Intern, Hold, Release, Give, Look, Keep, Evict}
use Rattle.bs_core.specs.declared.event.Outcome.TheVariants.{Done, NotAllowed}
use Rattle.bs_core.proofs.May.{May, allowed_may}
use Rattle.bs_core.proofs.Pairs.{each_join, has_raise, has_back}
use Rattle.bs_core.proofs.Keeps.{event_keeps, party_stands, stands_on, lower_stands, release_down, same_place}
use Rattle.bs_core.proofs.Agree.{each_at, stands_agree, entry_of}

-- ---- the opening state
no_links : (Q : List Held → Type 0) (n : ℕ) → Each Q (link_lists (replicate n no_table))
no_links Q zero = tt
no_links Q (suc n) = no_links Q n

no_pairs_each : (P : Held → Type 0) (m : ℕ) → Each (Each P) (replicate m [])
no_pairs_each P zero = tt
no_pairs_each P (suc m) = (tt, no_pairs_each P m)

only_empty : (n i : ℕ) (t : Table) → get_elem? (replicate n no_table) i ≡ some t → no_table ≡ t
only_empty zero i t e = absurd (some-ne-none t (sym e))
only_empty (suc n) zero t e = some-injective no_table t e
only_empty (suc n) (suc i) t e = only_empty n i t e

pub opening_canonical : OpeningIsCanonical
opening_canonical n m =
    let g = opening n m in
    let S = Stands g.tables in record {
      tables = λ i t at. subst (Orderly n (every g) i) (only_empty n i t at) (record { entries = tt; slots_differ = λ s. omega arith; codes_differ = λ c. omega arith });
      pairs = each_join (Each S) g.lists (link_lists g.tables) (no_pairs_each S m) (no_links (Each S) n);
    }

-- ---- steps and runs
abbrev pub stepped : Bool → Event → State → Stepped
stepped b e g = if b then record { state = after e g; outcome = Done } else record { state = g; outcome = NotAllowed }

pub step_keeps : EventsKeepCanonical
step_keeps n e g code h = by_cases (allowed n e g)
    (λ a. subst (λ b. Canonical n (stepped b e g).state) (sym a) (event_keeps n e g (allowed_may n e g code a) h))
    (λ a. subst (λ b. Canonical n (stepped b e g).state) (sym a) h)

pub refused_stays : NotAllowedChangesNothing
refused_stays n e g h = by_cases (allowed n e g)
    (λ a. let r : Done ≡ NotAllowed = subst (λ b. (stepped b e g).outcome ≡ NotAllowed) a h in absurd (cc))
    (λ a. subst (λ b. (stepped b e g).state ≡ g) (sym a) refl)

pub run_keeps : (n : ℕ) (es : List Event) (g : State) → Each HasCode es → Canonical n g → Canonical n (run n es g)
run_keeps n [] g codes h = h
run_keeps n (e ∷ es) g codes h = run_keeps n es (step n e g).state codes.1 (step_keeps n e g codes.0 h)

-- ---- names
pub held_stand : (n : ℕ) (g : State) (i : ℕ) (p : Held) → Canonical n g → IsHeld g i p → Stands g.tables p
held_stand n g i p c h = each_at (Stands g.tables) (list_at i g.lists) h.0 p (party_stands i g (Stands g.tables) c.pairs) h.1

pub names_agree : EqualNamesAreEqualCodes
names_agree n g i j p q c hp hq = stands_agree n g p q c (held_stand n g i p c hp) (held_stand n g j q c hq)

code_is : (n : ℕ) (g : State) (p : Held) → Canonical n g → Stands g.tables p → IsCode p.code
code_is n g p c h = subst IsCode h.2.4 (entry_of n g p c h).sound

own_sequence : (s : Code) → IsCode s → IsCanonicalSequence (tree_of s) s
own_sequence s h = subst (IsCanonicalSequence (tree_of s)) h.canonical (canon_is (tree_of s))

pub names_decide_trees : (n : ℕ) (g : State) → Canonical n g → NamesDecideTrees g
names_decide_trees n g c i j p q hp hq =
    let sp = held_stand n g i p c hp in
    let sq = held_stand n g j q c hq in
    let a = stands_agree n g p q c sp sq in
    let wp = own_sequence p.code (code_is n g p c sp) in
    let wq = own_sequence q.code (code_is n g q c sq) in (
      λ e. isomorphic_from_canon (tree_of p.code) (tree_of q.code) p.code q.code wp wq (a.0 e),
      λ e. a.1 (canon_from_isomorphic (tree_of p.code) (tree_of q.code) p.code q.code wp wq e),
    )

pub names_decide : NamesDecideIsomorphism
names_decide n m es i j p q codes hp hq = names_decide_trees n (run n es (opening n m)) (run_keeps n es (opening n m) codes (opening_canonical n m)) i j p q hp hq

-- ---- a name that lives keeps its entry
raised_stand : (m : Name) (tables : List Table) (p : Held) → Stands tables p → Stands (at_place m.stripe (raised m.slot) tables) p
raised_stand m tables p = stands_on m.stripe (raised m.slot) tables p (λ t _ _ k. has_raise m.slot p.name.slot p.code t.entries k)

interned_has : (s s' : ℕ) (c c' : Code) (xs : List Name) (t : Table) → Has s' c' t.entries → Has s' c' (interned s c xs t).entries
interned_has s s' c c' xs t h = elim (codes c t.entries == 0) as (λ b. Has s' c' (if b then added s c xs t else raised s t).entries) [
  | true ↦ has_back s' c' t.entries (new_entry s c xs ∷ []) h
  | false ↦ has_raise s s' c' t.entries h
]

same_stand : (s : ℕ) (tables : List Table) (p : Held) → Stands tables p → Stands (at_place s (λ (t : Table). t) tables) p
same_stand s tables p h = subst (λ (ts : List Table). Stands ts p) (sym (same_place s tables)) h

pub stays : (n : ℕ) (e : Event) (g : State) (p : Held) → May n e g → Canonical n g → Stands g.tables p → 1 ≤ all_times p.name (every (after e g)) → Stands (after e g).tables p
stays n (Intern k c m) g p may can h one = stands_on m.stripe (interned m.slot c (taken (children c) (list_at k g.lists))) g.tables p (λ t _ _ has. interned_has m.slot p.name.slot c p.code (taken (children c) (list_at k g.lists)) t has) h
stays n (Hold k m) g p may can h one = raised_stand m g.tables p h
stays n (Release k m) g p may can h one = lower_stands n m g (every (after (Release k m) g)) can (release_down n k m g may can) p one h
stays n (Give k q m) g p may can h one = same_stand m.stripe g.tables p h
stays n (Look k q m) g p may can h one = same_stand m.stripe g.tables p h
stays n (Keep k q m) g p may can h one = raised_stand m g.tables p h
stays n (Evict k m) g p may can h one = lower_stands n m g (every (after (Evict k m) g)) can (release_down n k m g may can) p one h

step_stays : (n : ℕ) (e : Event) (g : State) (p : Held) → HasCode e → Canonical n g → Stands g.tables p → 1 ≤ all_times p.name (every (step n e g).state) → Stands (step n e g).state.tables p
step_stays n e g p code c h one = by_cases (allowed n e g)
    (λ a. subst (λ b. Stands (stepped b e g).state.tables p) (sym a) (stays n e g p (allowed_may n e g code a) c h (subst (λ b. 1 ≤ all_times p.name (every (stepped b e g).state)) a one)))
    (λ a. subst (λ b. Stands (stepped b e g).state.tables p) (sym a) h)

run_stays : (n : ℕ) (es : List Event) (g : State) (p : Held) → Each HasCode es → Canonical n g → Stands g.tables p → LivesThrough n p.name es g → Stands (run n es g).tables p
run_stays n [] g p codes c h lives = h
run_stays n (e ∷ es) g p codes c h lives = run_stays n es (step n e g).state p codes.1 (step_keeps n e g codes.0 c) (step_stays n e g p codes.0 c h lives.0) lives.1

pub names_keep : LiveNamesKeepTheirTrees
names_keep n m es fs i j p q codes more hp lives hq same =
    let g = run n es (opening n m) in
    let c = run_keeps n es (opening n m) codes (opening_canonical n m) in
    let k = run_keeps n fs g more c in
    let sp = run_stays n fs g p more c (held_stand n g i p c hp) lives in
    (stands_agree n (run n fs g) p q k sp (held_stand n (run n fs g) j q k hq)).0 same
