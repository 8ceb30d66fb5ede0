-- An event keeps a good state.
use Rattle.std.proofs.Common.{◌≡◌, ℕ, zero, suc, ◌+◌, ◌<◌, ◌≤◌, List, [], ◌∷◌, ◌++◌, length, refl, sym, ap, ◌∙◌, subst, arith}
use mathlib.Core.Option.{some, some-injective}
use lib.ListN.{get_elem?}
use Rattle.bs_core.proofs.Basics.{length_at_place}
use Rattle.bs_core.proofs.Keeps.{same_place, event_keeps, held_stands}
use Rattle.bs_core.proofs.Links.{turn, table_is, table_there, each_front}
use Rattle.bs_core.proofs.May.{May}
use Rattle.bs_core.proofs.Pairs.{push}
use Rattle.bs_core.specs.Canonical.{Each, Canonical, Stands, links_each, link_lists, every}
use Rattle.bs_core.specs.Codes.{children}
use Rattle.bs_core.specs.Machine.{other_in, State, at_place, stripe_in, party_in, on_table, on_list, pair, code_at, without, list_at, table_at, raised, lowered, interned, taken}
use Rattle.bs_core.specs.declared.event.Event.{Event}
use Rattle.bs_core.specs.declared.event.Event.TheVariants.{Look, Keep, Evict, Intern, Hold, Release, Give}
use Rattle.bs_core.specs.declared.name.Name.{Name}
use Rattle.bs_core.specs.declared.table.Held.{Held}
use Rattle.bs_core.specs.declared.table.Table.{Table}
use Rattle.bs_store.proofs.Gains.{Full, Within, turn_enough, gains_place, hold_grows, release_grows, intern_grows, hold_full, release_full, intern_full, move_enough}
use Rattle.bs_store.proofs.Paths.{path_at, path_at, KeepsLinks, raised_links, lowered_links, interned_links, paths_place}
use Rattle.bs_store.proofs.Turns.{held_at_place}
use Rattle.bs_store.specs.Rule.{IsStep, Enough, Good, Paths, Path, state, held_by, played, gain_of, sum_gains, size}
use Rattle.bs_store.specs.declared.view.Hand.{Hand}

-- what an event does to the hands of the state
abbrev pub other_passes : Event → List Held → List Hand → List Hand
other_passes (Give p q n) l hs = at_place q (played 0 (λ k. k ++ pair n (code_at n l) ∷ [])) hs
other_passes (Intern p c n) l hs = hs
other_passes (Hold p n) l hs = hs
other_passes (Release p n) l hs = hs
other_passes (Look p q n) l hs = hs
other_passes (Keep p q n) l hs = hs
other_passes (Evict q n) l hs = hs

abbrev pub passes_after : Event → Table → List Held → List Hand → List Hand
passes_after e t l hs = other_passes e l (at_place (party_in e) (played (gain_of e) (on_list e t)) hs)

-- the parties of an event have empty paths
abbrev pub NoPath : Event → List Hand → Type 0
NoPath e hs = (path_at (party_in e) hs ≡ []) × (path_at (other_in e) hs ≡ [])

abbrev AllFull : ℕ → List Table → Type 0
AllFull g ts = Each (λ (t : Table). Each (Full g) t.entries) ts

pub one_good : (n s k gain : ℕ) (T : Table → Table) (f : List Held → List Held) (ts : List Table) (hs : List Hand) (t : Table) → get_elem? ts s ≡ some t → k < length (held_by hs) → Good n ts hs → KeepsLinks T t
    → length (f (list_at k (held_by hs))) + size (links_each (T t).entries) ≤ length (list_at k (held_by hs)) + size (links_each t.entries) + gain
    → ((g g' h : ℕ) → h + gain ≤ g' → g ≤ g' → Each (Within h) t.entries → Each (Full g) t.entries → Each (Full g') (T t).entries)
    → Canonical n (turn s T k f (state ts hs)) → path_at k hs ≡ [] → Good n (at_place s T ts) (at_place k (played gain f) hs)
one_good n s k gain T f ts hs t at in_range good keep grows full c no_path =
    let ts' = at_place s T ts in
    let hs' = at_place k (played gain f) hs in
    let same = held_at_place k gain f hs in
    let c' : Canonical n (state ts' hs') = subst (λ (ls : List (List Held)). Canonical n (let r : State = record { tables = ts'; lists = ls } in r)) (sym same) c in
    let e = turn_enough n s k gain T f ts hs t at in_range good.canonical good.enough grows full in
    let g = gains_place k gain f hs in_range in
    record {
      canonical = c';
      enough = (subst (λ (ls : List (List Held)). size (ls ++ link_lists ts') ≤ sum_gains hs') (sym same) (subst (λ x. size (every (turn s T k f (state ts hs))) ≤ x) (sym g) e.0), subst (λ x. AllFull x ts') (sym g) e.1);
      paths = paths_place n s T (state ts hs) (held_by hs') good.canonical (λ t' at'. subst (KeepsLinks T) (some-injective t t' (sym at ∙ at')) keep) c' k gain f hs no_path (each_front (Each (Stands ts)) (held_by hs) (link_lists ts) good.canonical.pairs) (each_front (Each (Stands ts')) (held_by hs') (link_lists ts') c'.pairs) good.paths;
    }

paths_swap : (ts : List Table) (k gain : ℕ) (f : List Held → List Held) (hs : List Hand) → path_at k hs ≡ [] → Paths ts hs → Paths ts (at_place k (played gain f) hs)
paths_swap ts k gain f [] z p = tt
paths_swap ts zero gain f (x ∷ xs) z p = (subst (λ (l : List Held). Path ts (f x.held) l) (sym z) tt, p.1)
paths_swap ts (suc k) gain f (x ∷ xs) z p = (p.0, paths_swap ts k gain f xs z p.1)

path_place : (j k gain : ℕ) (f : List Held → List Held) (hs : List Hand) → path_at j (at_place k (played gain f) hs) ≡ path_at j hs
path_place j k gain f [] = refl
path_place zero zero gain f (x ∷ xs) = refl
path_place (suc j) zero gain f (x ∷ xs) = refl
path_place zero (suc k) gain f (x ∷ xs) = refl
path_place (suc j) (suc k) gain f (x ∷ xs) = path_place j k gain f xs

give_good : (n p q : ℕ) (m : Name) (ts : List Table) (hs : List Hand) → Good n ts hs → (let e = Give p q m in May n e (state ts hs) → NoPath e hs
    → Good n (at_place m.stripe (on_table e (list_at p (held_by hs))) ts) (passes_after e (table_at m.stripe ts) (list_at p (held_by hs)) hs))
give_good n p q m ts hs good may no_path =
    let ls = held_by hs in
    let c = code_at m (list_at p ls) in
    let f = without m in
    let g = push m c in
    let s = m.stripe in
    let ts' = at_place s (λ (t : Table). t) ts in
    let back = same_place s ts in
    let hs1 = at_place p (played 0 f) hs in
    let hs' = at_place q (played 0 g) hs1 in
    let same : held_by hs' ≡ at_place q g (at_place p f ls) = held_at_place q 0 g hs1 ∙ ap (at_place q g) (held_at_place p 0 f hs) in
    let k = event_keeps n (Give p q m) (state ts hs) may good.canonical in
    let e = move_enough s p q m c ts hs may.0 may.1 may.2 good.enough in
    let a = gains_place p 0 f hs may.0 in
    let b = gains_place q 0 g hs1 (subst (λ x. q < x) (sym (ap length (held_at_place p 0 f hs) ∙ length_at_place f p ls)) may.1) in
    let gains : sum_gains hs' ≡ sum_gains hs = omega arith in
    record {
      canonical = subst (λ (ks : List (List Held)). Canonical n (let r : State = record { tables = ts'; lists = ks } in r)) (sym same) k;
      enough = subst (λ (us : List Table). Enough us hs') (sym back) (subst (λ (ks : List (List Held)). size (ks ++ link_lists ts) ≤ sum_gains hs') (sym same) (subst (λ x. size (at_place q g (at_place p f ls) ++ link_lists ts) ≤ x) (sym gains) e.0), subst (λ x. AllFull x ts) (sym gains) e.1);
      paths = subst (λ (us : List Table). Paths us hs') (sym back) (paths_swap ts q 0 g hs1 (path_place q p 0 f hs ∙ no_path.1) (paths_swap ts p 0 f hs no_path.0 good.paths));
    }

pub event_good : (n : ℕ) (e : Event) (ts : List Table) (hs : List Hand) → IsStep e → Good n ts hs → May n e (state ts hs) → NoPath e hs
    → Good n (at_place (stripe_in e) (on_table e (list_at (party_in e) (held_by hs))) ts) (passes_after e (table_at (stripe_in e) ts) (list_at (party_in e) (held_by hs)) hs)
event_good n (Hold p m) ts hs is_step good may no_path =
    let l = list_at p (held_by hs) in
    let own = held_stands n p m (state ts hs) may.1 good.canonical in
    let t = own.0 in
    one_good n m.stripe p 1 (raised m.slot) (λ k. push m (code_at m k) k) ts hs t own.1 may.0 good (raised_links m.slot t) (hold_grows m l t) (hold_full m.slot t) (event_keeps n (Hold p m) (state ts hs) may good.canonical) no_path.0
event_good n (Release p m) ts hs is_step good may no_path =
    let l = list_at p (held_by hs) in
    let own = held_stands n p m (state ts hs) may.1 good.canonical in
    let t = own.0 in
    let is = table_is m.stripe ts t own.1 in
    let e = Release p m in
    one_good n m.stripe p 0 (lowered m.slot) (on_list e (table_at m.stripe ts)) ts hs t own.1 may.0 good (lowered_links m.slot t)
    (subst (λ (y : Table). length (on_list e y l) + size (links_each (lowered m.slot t).entries) ≤ length l + size (links_each t.entries) + 0) (sym is) (release_grows m l t may.1))
    (release_full m.slot t) (event_keeps n e (state ts hs) may good.canonical) no_path.0
event_good n (Intern p c m) ts hs is_step good may no_path =
    let l = list_at p (held_by hs) in
    let t = table_at m.stripe ts in
    let e = Intern p c m in
    let xs = taken (children c) l in
    one_good n m.stripe p 1 (interned m.slot c xs) (on_list e t) ts hs t (table_there m.stripe ts may.2) may.1 good (interned_links m.slot c xs t) (intern_grows m c l t may.3) (intern_full m.slot c xs t) (event_keeps n e (state ts hs) may good.canonical) no_path.0
event_good n (Give p q m) ts hs is_step good may no_path = give_good n p q m ts hs good may no_path
event_good n (Look p q m) ts hs is_step good may no_path = absurd is_step
event_good n (Keep p q m) ts hs is_step good may no_path = absurd is_step
event_good n (Evict q m) ts hs is_step good may no_path = absurd is_step
