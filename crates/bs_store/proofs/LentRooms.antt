-- What a step tells of a room that is lent.
use Rattle.std.proofs.lemmas.Bool.{lt-ltb}
use Rattle.std.proofs.Common.{ap₂, ◌&&◌, eq-eqb, ◌≡◌, ◌↔◌, ℕ, ◌<◌, ◌≤◌, ◌==◌, Bool, true, List, [], ◌∷◌, length, refl, sym, ap, ◌∙◌, subst, if◌then◌else◌, Some, Option}
use Rattle.std.specs.Prelude.{IsSome}
use mathlib.Core.Option.{some}
use lib.ListN.{get_elem?}
use Rattle.bs_tree.specs.Code.{IsCode}
use Rattle.bs_core.specs.Codes.{Code, children, stripe_of}
use Rattle.bs_core.specs.Keys.{Key, key_of}
use Rattle.bs_core.specs.Machine.{needs, has_all, coded, without_code, stripe_in, party_in, on_table, codes, slots, interned, taken, freed, times, code_at, may_enter, HasAll}
use Rattle.bs_core.specs.Canonical.{Each, Counts, Has, every}
use Rattle.bs_core.specs.declared.name.Name.{Name}
use Rattle.bs_core.specs.declared.table.Held.{Held}
use Rattle.bs_core.specs.declared.table.Table.{Table}
use Rattle.bs_core.specs.declared.table.Entry as table
use Rattle.bs_core.specs.declared.event.Event.{Event}
use Rattle.bs_core.specs.declared.event.Event.TheVariants.{Intern}
use Rattle.bs_core.proofs.Basics.{by_test}
use Rattle.bs_core.proofs.Pairs.{each_mono}
use Rattle.bs_store.proofs.Lives.{live_is}
use Rattle.bs_stripe.specs.Places.{live, entry_at, find, gives}
use Rattle.bs_stripe.specs.Laws.{kept_of}
use Rattle.bs_stripe.specs.declared.place.Entry.{Entry}
use Rattle.bs_stripe.specs.declared.stripe.Lowered.{Lowered}
use Rattle.bs_stripe.proofs.Alike.{finds}
use Rattle.bs_store.specs.declared.view.Numbered.{Numbered}
use Rattle.bs_store.specs.declared.view.View.{View}
use Rattle.bs_store.specs.Rule.{Known, Local, state, tables_at, table_in, hands_at, list_in, path_in, moved, on_hands, on_tables}
use Rattle.bs_store.specs.Seats.{table_of, first_table, Leaves, Added}
use Rattle.bs_store.proofs.Turns.{TableAt, list_same}
use Rattle.bs_store.proofs.Rooms.{table_here, tables_moved, entry_here}
use Rattle.bs_store.proofs.Stripes.{interned_by, kept_here, gives_here}

-- a room's table is the only one of its view
pub table_only : (k : ℕ) (t : Table) → table_in k (table_of k t) ≡ t
table_only k t = by_test k k (λ u. (if u then t else table_in k []) ≡ t) (λ _. refl) (λ e. absurd (e refl))

pub table_at_here : (k : ℕ) (t : Table) (v : View) (known : Known v) → v.tables ≡ table_of k t → get_elem? known.tables k ≡ some t
table_at_here k t v known is = (subst (Each (TableAt known.tables)) is known.fits.tables).0

module _ (k : ℕ) (t : Table) (v : View) (known : Known v) (is : v.tables ≡ table_of k t) where
  counts_here : Each (Counts known.n k t.mark (every (state known.tables known.hands))) t.entries
  counts_here = (known.good.canonical.tables k t (table_at_here k t v known is)).entries

  low_here : Each (λ (e : table.Entry). e.slot < t.mark) t.entries
  low_here = each_mono (Counts known.n k t.mark (every (state known.tables known.hands))) (λ (e : table.Entry). e.slot < t.mark) t.entries (λ e c. c.below) counts_here

  pub one_here : (s : ℕ) → slots s t.entries ≤ 1
  one_here = (known.good.canonical.tables k t (table_at_here k t v known is)).slots_differ

  -- the stripe has as many entries
  pub live_here : live (kept_of t) ≡ length t.entries
  live_here = live_is t low_here one_here

  -- the entry of a name that a pass inside holds
  pub held_here : (p : ℕ) (x : Name) → x.stripe ≡ k → 1 ≤ hands_at p v.hands → 0 < times x (list_in p v.hands) → Has x.slot (code_at x (list_in p v.hands)) t.entries
  held_here p x q inside held = entry_here p k x t v known is q inside held

  pub some_here : (p : ℕ) (x : Name) (es : List (Option Entry)) → es ≡ kept_of t → x.stripe ≡ k → 1 ≤ hands_at p v.hands → 0 < times x (list_in p v.hands) → IsSome (entry_at x.slot es)
  some_here p x es same q inside held =
      let h = held_here p x q inside held in
      subst (λ (l : List (Option Entry)). IsSome (entry_at x.slot l)) (sym same) (subst IsSome (sym (kept_here x.slot (code_at x (list_in p v.hands)) t low_here (one_here x.slot) h)) refl)

  -- the entry that counts one less
  pub lowered_here : (p : ℕ) (x : Name) (res : Lowered) (es : List (Option Entry)) → res ≡ gives x.slot es → es ≡ kept_of t → x.stripe ≡ k → 1 ≤ hands_at p v.hands → 0 < times x (list_in p v.hands) → Leaves res (code_at x (list_in p v.hands)) (freed x.slot t.entries)
  lowered_here p x res es is_res same q inside held =
      let c = code_at x (list_in p v.hands) in
      let h = held_here p x q inside held in
      subst (λ (r : Lowered). Leaves r c (freed x.slot t.entries)) (sym (is_res ∙ ap (gives x.slot) same))
      (gives_here x.slot c t low_here (one_here x.slot) h (each_mono (Counts known.n k t.mark (every (state known.tables known.hands))) (λ (e : table.Entry). length e.links ≡ length (children e.code)) t.entries (λ e c. c.full) counts_here))

  -- the entry of a key that counts one more
  pub interned_here : (p : ℕ) (c : Code) (key : Key) (s : ℕ) (new : Bool) (es es' : List (Option Entry)) → es ≡ kept_of t → 1 ≤ hands_at p v.hands → IsCode c → HasAll (children c) (list_in p v.hands) → key ≡ key_of c (list_in p v.hands) → Added key s new es es'
      → (may_enter s c t ≡ true) × (es' ≡ kept_of (interned s c (taken (children c) (list_in p v.hands)) t)) × (new ≡ (codes c t.entries == 0))
  interned_here p c key s new es es' same inside code all is_key h =
      let l = list_in p v.hands in
      let at = table_at_here k t v known is in
      let q = list_same p known.hands v.hands inside known.fits.hands in
      let found : (m : ℕ) → (find key (kept_of t) ≡ Some m) ↔ Has m c t.entries = λ m.
      subst (λ (y : Key). (find y (kept_of t) ≡ Some m) ↔ Has m c t.entries) (sym (is_key ∙ ap (key_of c) q))
      (finds known.n (state known.tables known.hands) p k m t c known.good.canonical code (subst (HasAll (children c)) q all) at) in
      interned_by c (taken (children c) l) key s new t es es' is_key same found low_here h

-- a room after an event
pub room_moved : (e : Event) (k : ℕ) (t : Table) (v w : View) (es : List (Option Entry)) → v.tables ≡ table_of k t → stripe_in e ≡ k → w ≡ moved e v → es ≡ kept_of (on_table e (list_in (party_in e) v.hands) t)
    → (w.tables ≡ table_of k (first_table w.tables)) × (es ≡ kept_of (first_table w.tables)) × (first_table w.tables ≡ on_table e (list_in (party_in e) v.hands) t) × (w.hands ≡ on_hands e t v.hands)
room_moved e k t v w es is here to keeps =
    let l = list_in (party_in e) v.hands in
    let tables : w.tables ≡ table_of k (on_table e l t) = ap (λ (u : View). u.tables) to ∙ ap (λ (xs : List Numbered). on_tables e l xs) is ∙ tables_moved e k l t here in
    let first = ap first_table tables in (
      tables ∙ ap (table_of k) (sym first),
      keeps ∙ ap kept_of (sym first),
      first,
      ap (λ (u : View). u.hands) to ∙ ap (λ (y : Table). on_hands e y v.hands) (ap (table_in (stripe_in e)) is ∙ subst (λ i. table_in i (table_of k t) ≡ t) (sym here) (table_only k t)),
    )

-- ---- an Intern
all_has : (cs : List Code) (l : List Held) → HasAll cs l → has_all cs l ≡ true
all_has [] l h = refl
all_has (c ∷ cs) l h = ap₂ (λ (a : Bool) (b : Bool). a && b) (lt-ltb 0 (coded c l) h.0) (all_has cs (without_code c l) h.1)

pub intern_needs : (n p : ℕ) (c : Code) (x : Name) (l : List Held) (t : Table) → x.stripe ≡ stripe_of n c → HasAll (children c) l → may_enter x.slot c t ≡ true → needs n (Intern p c x) l t ≡ true
intern_needs n p c x l t is all may = ap₂ (λ (a : Bool) (b : Bool). a && b) (eq-eqb x.stripe (stripe_of n c) is) (ap₂ (λ (a : Bool) (b : Bool). a && b) (all_has (children c) l all) may)

pub intern_local : (n k p s : ℕ) (c : Code) (t : Table) (v : View) → v.tables ≡ table_of k t → stripe_of n c ≡ k → 1 ≤ hands_at p v.hands → path_in p v.hands ≡ [] → HasAll (children c) (list_in p v.hands) → may_enter s c t ≡ true → IsCode c
    → Local n (Intern p c (let x : Name = record { stripe = k; slot = s } in x)) v
intern_local n k p s c t v is stripe inside path all may code =
    let x : Name = record { stripe = k; slot = s } in
    record {
      step = tt;
      stripe = subst (λ (ts : List Numbered). 1 ≤ tables_at k ts) (sym is) (table_here k t);
      first = inside;
      second = inside;
      first_path = path;
      second_path = path;
      allows = subst (λ (y : Table). needs n (Intern p c x) (list_in p v.hands) y ≡ true) (sym (ap (table_in k) is ∙ table_only k t)) (intern_needs n p c x (list_in p v.hands) t (sym stripe) all may);
      code = code;
    }
