-- The step of an event keeps the rule.
use Rattle.std.specs.Prelude.{nat_lt, slice_index}
use Rattle.std.proofs.lemmas.Bool.{lt-ltb}
use Rattle.std.proofs.Common.{Bool, true, ◌&&◌, ap₂, ◌≡◌, ℕ, zero, suc, ◌+◌, ◌%◌, ◌^◌, ◌<◌, ◌≤◌, List, [], ◌∷◌, ◌++◌, map, length, set, refl, sym, ap, ◌∙◌, subst, arith, if◌then◌else◌}
use mathlib.Core.Option.{none, some, some-ne-none, some-injective}
use lib.ListN.{get_elem?}
use Rattle.atomic_table.specs.Table as table
use Rattle.atomic_table.specs.Table.{Act, Valid, stepped, carried_after, Step, Me, step, keeps, Allows}
use Rattle.bs_core.proofs.Agree.{each_at}
use Rattle.bs_core.proofs.Basics.{by_test, length_at_place}
use Rattle.bs_core.proofs.Links.{table_is}
use Rattle.bs_core.proofs.May.{allowed_may}
use Rattle.bs_core.specs.Canonical.{Each}
use Rattle.bs_core.specs.Machine.{allowed, other_in, needs, at_place, stripe_in, party_in, on_table, on_list, pair, code_at, without, list_at, table_at}
use Rattle.bs_core.specs.declared.event.Event.{Event}
use Rattle.bs_core.specs.declared.event.Event.TheVariants.{Look, Keep, Evict, Intern, Hold, Release, Give}
use Rattle.bs_core.specs.declared.name.Name.{Name}
use Rattle.bs_core.specs.declared.table.Held.{Held}
use Rattle.bs_core.specs.declared.table.Table.{Table}
use Rattle.bs_store.proofs.Paths.{path_at}
use Rattle.bs_store.proofs.Goods.{NoPath, passes_after, event_good}
use Rattle.bs_store.proofs.Paths.{path_at}
use Rattle.bs_store.proofs.Steps.{Ruled, at_most_once}
use Rattle.bs_store.proofs.Turns.{elsewhere, hands_stay, hands_at_same, hand_fits, each_map, HandAt, TableAt, list_same, turned}
use Rattle.bs_store.specs.Rule.{other_hands, on_tables, view, tables_at, hands_at, Fits, Kept, Known, Good, state, played, on_hand, held_by, list_in, path_in, table_in, Local, Changed, moved, gain_of, on_numbered}
use Rattle.bs_store.specs.declared.view.Hand.{Hand}
use Rattle.bs_store.specs.declared.view.Numbered.{Numbered}
use Rattle.bs_store.specs.declared.view.View.{View}

set_at : {A : Type 0} (xs : List A) (i : ℕ) (x y : A) → get_elem? xs i ≡ some x → get_elem? (set xs i y) i ≡ some y
set_at [] i x y e = absurd (some-ne-none x (sym e))
set_at (z ∷ zs) zero x y e = refl
set_at (z ∷ zs) (suc i) x y e = set_at zs i x y e

pub known_of : (n m id : ℕ) (views : List View) (v : View) → Kept n m views → get_elem? views id ≡ some v → Known v
known_of n m id views v kept at = record { n = n; tables = kept.tables; hands = kept.hands; good = kept.good; fits = each_at (Fits kept.tables kept.hands) views id v kept.each at; once = at_most_once n m id views v kept at }

there : {A : Type 0} (xs : List A) (i : ℕ) (x : A) → get_elem? xs i ≡ some x → i < length xs
there [] i x e = absurd (some-ne-none x (sym e))
there (y ∷ ys) zero x e = omega arith
there (y ∷ ys) (suc i) x e = let r = there ys i x e in omega arith

-- a pass of a view has a place in the state
within : (k : ℕ) (hs xs : List Hand) → 1 ≤ hands_at k xs → Each (HandAt hs) xs → k < length (held_by hs)
within k hs [] one e = absurd (omega arith)
within k hs (x ∷ xs) one e = by_test k x.number (λ b. 1 ≤ (if b then 1 else 0) + hands_at k xs → k < length (held_by hs))
    (λ q z. subst (λ l. k < l) (sym (long hs)) (there hs k x (subst (λ j. get_elem? hs j ≡ some x) (sym q) e.0)))
    (λ q z. within k hs xs (omega arith) e.1)
    one
  where
    long : (ys : List Hand) → length (held_by ys) ≡ length ys
    long [] = refl
    long (y ∷ ys) = ap suc (long ys)

-- the path of a pass in a view is its path in the state
pub path_of : (k : ℕ) (hs : List Hand) (h : Hand) → get_elem? hs k ≡ some h → path_at k hs ≡ h.path
path_of k [] h e = absurd (some-ne-none h (sym e))
path_of zero (x ∷ xs) h e = ap (λ (y : Hand). y.path) (some-injective x h e)
path_of (suc k) (x ∷ xs) h e = path_of k xs h e

pub path_same : (k : ℕ) (hs xs : List Hand) → 1 ≤ hands_at k xs → Each (HandAt hs) xs → path_in k xs ≡ path_at k hs
path_same k hs [] one e = absurd (omega arith)
path_same k hs (x ∷ xs) one e = by_test k x.number (λ b. 1 ≤ (if b then 1 else 0) + hands_at k xs → (if b then x.path else path_in k xs) ≡ path_at k hs)
    (λ q z. sym (path_of k hs x (subst (λ j. get_elem? hs j ≡ some x) (sym q) e.0)))
    (λ q z. path_same k hs xs (omega arith) e.1)
    one

-- the table of a view is that of the state
pub table_same : (k : ℕ) (ts : List Table) (xs : List Numbered) → 1 ≤ tables_at k xs → Each (TableAt ts) xs → get_elem? ts k ≡ some (table_in k xs)
table_same k ts [] one e = absurd (omega arith)
table_same k ts (x ∷ xs) one e = by_test k x.number (λ b. 1 ≤ (if b then 1 else 0) + tables_at k xs → get_elem? ts k ≡ some (if b then x.table else table_in k xs))
    (λ q z. subst (λ j. get_elem? ts j ≡ some x.table) (sym q) e.0)
    (λ q z. table_same k ts xs (omega arith) e.1)
    one

and_true : (a b : Bool) → a ≡ true → b ≡ true → (a && b) ≡ true
and_true a b h k = ap₂ (λ (x : Bool) (y : Bool). x && y) h k

abbrev Goes : ℕ → ℕ → ℕ → ℕ → ℕ → Event → Me (Unit {0}) View → Type 0
Goes n m slots id word e me = Allows (Ruled n m) slots id me word (λ x. (x + 1) % 2 ^ 64) (Changed e (step slots word 1 0 none) me)

-- one pass changes with a stripe
unfoldable pub one_pass : (n m id s k gain : ℕ) (T : Table → Table) (f : List Held → List Held) (v : View) (views : List View) (kept : Kept n m views) → get_elem? views id ≡ some v → 1 ≤ tables_at s v.tables → 1 ≤ hands_at k v.hands
    → Good n (at_place s T kept.tables) (at_place k (played gain f) kept.hands)
    → Kept n m (set views id (view (map (on_numbered s T) v.tables) (map (on_hand k gain f) v.hands)))
one_pass n m id s k gain T f v views kept at one_table one_hand good =
    let hs = at_place k (played gain f) kept.hands in
    let own = each_at (Fits kept.tables kept.hands) views id v kept.each at in
    turned n m id s T v (map (on_hand k gain f) v.hands) hs views kept at one_table
    (each_map (HandAt kept.hands) (HandAt hs) (on_hand k gain f) v.hands (hand_fits k gain f kept.hands) own.hands)
    (λ j u apart there. hands_stay k gain f kept.hands u.hands (elsewhere (λ x. hands_at k x.hands) views id j k m v u (kept.one_hand k) one_hand apart at there) (each_at (Fits kept.tables kept.hands) views j u kept.each there).hands)
    (λ j. hands_at_same j k gain f v.hands)
    (length_at_place (played gain f) k kept.hands)
    good

-- what the event does, by the parts that the view has
abbrev Parts : ℕ → Event → List Table → List Hand → List Held → Table → Type 0
Parts n e ts hs l t = Good n (at_place (stripe_in e) (on_table e l) ts) (passes_after e t l hs)

-- what the view has, in the state
module _ (n m id : ℕ) (e : Event) (v : View) (views : List View) (local : Local n e v) (kept : Kept n m views) (at : get_elem? views id ≡ some v) where
  pub own_fits : Fits kept.tables kept.hands v
  own_fits = each_at (Fits kept.tables kept.hands) views id v kept.each at

  pub own_list : list_in (party_in e) v.hands ≡ list_at (party_in e) (held_by kept.hands)
  own_list = list_same (party_in e) kept.hands v.hands local.first own_fits.hands

  pub own_table : table_at (stripe_in e) kept.tables ≡ table_in (stripe_in e) v.tables
  own_table = table_is (stripe_in e) kept.tables (table_in (stripe_in e) v.tables) (table_same (stripe_in e) kept.tables v.tables local.stripe own_fits.tables)

  -- the state allows the event
  pub local_allowed : allowed n e (state kept.tables kept.hands) ≡ true
  local_allowed =
      let ts = kept.tables in
      let ls = held_by kept.hands in
      let at_stripe = table_same (stripe_in e) ts v.tables local.stripe own_fits.tables in
      let need : needs n e (list_at (party_in e) ls) (table_at (stripe_in e) ts) ≡ true = subst (λ (k : List Held). needs n e k (table_at (stripe_in e) ts) ≡ true) own_list (subst (λ (y : Table). needs n e (list_in (party_in e) v.hands) y ≡ true) (sym own_table) local.allows) in
      and_true (nat_lt (party_in e) (length ls)) (nat_lt (other_in e) (length ls) && (nat_lt (stripe_in e) (length ts) && needs n e (list_at (party_in e) ls) (table_at (stripe_in e) ts)))
      (lt-ltb (party_in e) (length ls) (within (party_in e) kept.hands v.hands local.first own_fits.hands))
      (and_true (nat_lt (other_in e) (length ls)) (nat_lt (stripe_in e) (length ts) && needs n e (list_at (party_in e) ls) (table_at (stripe_in e) ts))
      (lt-ltb (other_in e) (length ls) (within (other_in e) kept.hands v.hands local.second own_fits.hands))
      (and_true (nat_lt (stripe_in e) (length ts)) (needs n e (list_at (party_in e) ls) (table_at (stripe_in e) ts))
      (lt-ltb (stripe_in e) (length ts) (there ts (stripe_in e) (table_in (stripe_in e) v.tables) at_stripe)) need))

  pub local_good : Parts n e kept.tables kept.hands (list_in (party_in e) v.hands) (table_in (stripe_in e) v.tables)
  local_good =
      let ts = kept.tables in
      let hs = kept.hands in
      let l = list_at (party_in e) (held_by hs) in
      let no_path : NoPath e hs = (sym (path_same (party_in e) hs v.hands local.first own_fits.hands) ∙ local.first_path, sym (path_same (other_in e) hs v.hands local.second own_fits.hands) ∙ local.second_path) in
      let may = allowed_may n e (state ts hs) local.code local_allowed in
      subst (λ (k : List Held). Parts n e ts hs k (table_in (stripe_in e) v.tables)) (sym own_list) (subst (λ (y : Table). Parts n e ts hs l y) own_table (event_good n e ts hs local.step kept.good may no_path))

module _ (n m slots id word : ℕ) (e : Event) (me : Me (Unit {0}) View) (local : Local n e me.0) (s : table.State (Unit {0}) View) (kept : Kept n m s.views) (at : get_elem? s.views id ≡ some me.0) where
  abbrev v : View
  v = me.0

  -- the rule is kept by what the step makes of the view
  abbrev Done : Type 0
  Done = Kept n m (set s.views id (moved e v))

  goes : Done → (w : View) × (a : Act (Unit {0})) × Valid s.homes me.1 a × Ruled n m (stepped s word ((slice_index s.words word + 1) % 2 ^ 64) id me.1 w a) × Changed e (step slots word 1 0 none) me (slice_index s.words word) (w, carried_after me.1 a)
  goes new = (moved e v, keeps, tt, new, (refl, refl, known_of n m id _ (moved e v) new (set_at s.views id v (moved e v) at)))

  -- one hand changes
  alone_goes : other_hands e (list_in (party_in e) v.hands) (map (on_hand (party_in e) (gain_of e) (on_list e (table_in (stripe_in e) v.tables))) v.hands) ≡ map (on_hand (party_in e) (gain_of e) (on_list e (table_in (stripe_in e) v.tables))) v.hands
      → Good n (at_place (stripe_in e) (on_table e (list_in (party_in e) v.hands)) kept.tables) (at_place (party_in e) (played (gain_of e) (on_list e (table_in (stripe_in e) v.tables))) kept.hands) → Done
  alone_goes same good = subst (λ (hs : List Hand). Kept n m (set s.views id (view (on_tables e (list_in (party_in e) v.hands) v.tables) hs))) (sym same)
      (one_pass n m id (stripe_in e) (party_in e) (gain_of e) (on_table e (list_in (party_in e) v.hands)) (on_list e (table_in (stripe_in e) v.tables)) v s.views kept at local.stripe local.first good)

-- two passes change, by a Give
unfoldable pub two_passes : (n m id p q : ℕ) (x : Name) (v : View) (views : List View) → Local n (Give p q x) v → Kept n m views → get_elem? views id ≡ some v → Kept n m (set views id (moved (Give p q x) v))
two_passes n m id p q x v views local kept at =
    let F = Fits kept.tables kept.hands in
    let own = each_at F views id v kept.each at in
    let good = local_good n m id (Give p q x) v views local kept at in
    let f = without x in
    let g : List Held → List Held = λ l. l ++ pair x (code_at x (list_in p v.hands)) ∷ [] in
    let hs1 = at_place p (played 0 f) kept.hands in
    let hs = at_place q (played 0 g) hs1 in
    turned n m id x.stripe (λ (t : Table). t) v (map (on_hand q 0 g) (map (on_hand p 0 f) v.hands)) hs views kept at local.stripe
    (each_map (HandAt hs1) (HandAt hs) (on_hand q 0 g) (map (on_hand p 0 f) v.hands) (hand_fits q 0 g hs1) (each_map (HandAt kept.hands) (HandAt hs1) (on_hand p 0 f) v.hands (hand_fits p 0 f kept.hands) own.hands))
    (λ j u apart there. hands_stay q 0 g hs1 u.hands (elsewhere (λ y. hands_at q y.hands) views id j q m v u (kept.one_hand q) local.second apart at there)
    (hands_stay p 0 f kept.hands u.hands (elsewhere (λ y. hands_at p y.hands) views id j p m v u (kept.one_hand p) local.first apart at there) (each_at F views j u kept.each there).hands))
    (λ j. hands_at_same j q 0 g (map (on_hand p 0 f) v.hands) ∙ hands_at_same j p 0 f v.hands)
    (length_at_place (played 0 g) q hs1 ∙ length_at_place (played 0 f) p kept.hands)
    good

pub changes : (n m slots id word : ℕ) (e : Event) (me : Me (Unit {0}) View) → Local n e me.0 → Goes n m slots id word e me
changes n m slots id word (Hold p x) me local s kept deep at wide = goes n m slots id word (Hold p x) me local s kept at (alone_goes n m slots id word (Hold p x) me local s kept at refl (local_good n m id (Hold p x) me.0 s.views local kept at))
changes n m slots id word (Release p x) me local s kept deep at wide = goes n m slots id word (Release p x) me local s kept at (alone_goes n m slots id word (Release p x) me local s kept at refl (local_good n m id (Release p x) me.0 s.views local kept at))
changes n m slots id word (Intern p c x) me local s kept deep at wide = goes n m slots id word (Intern p c x) me local s kept at (alone_goes n m slots id word (Intern p c x) me local s kept at refl (local_good n m id (Intern p c x) me.0 s.views local kept at))
changes n m slots id word (Look p q x) me local s kept deep at wide = absurd local.step
changes n m slots id word (Keep p q x) me local s kept deep at wide = absurd local.step
changes n m slots id word (Evict q x) me local s kept deep at wide = absurd local.step
changes n m slots id word (Give p q x) me local s kept deep at wide = goes n m slots id word (Give p q x) me local s kept at (two_passes n m id p q x me.0 s.views local kept at)
