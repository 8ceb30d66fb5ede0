-- What a stripe keeps of the table of a room, and what its calls tell of that table.
use Rattle.std.proofs.Common.{◌≡◌, ◌↔◌, ℕ, zero, suc, ◌+◌, ◌<◌, ◌≤◌, ◌==◌, ◌&&◌, ◌||◌, Bool, true, false, List, [], ◌∷◌, length, refl, sym, ap, ap₂, ◌∙◌, subst, arith, ⊎_elim, if◌then◌else◌, Some, None, Option, is_some, nat_lt, eq-eqb}
use mathlib.Core.Option.{some-ne-none, some-injective}
use mathlib.Core.Logic.{dite}
use native.Mathlib.Decide.{dec_lt}
use Rattle.std.proofs.lemmas.Bool.{lt-ltb, ltb-true}
use Rattle.bs_tree.specs.Code.{root_colour}
use Rattle.bs_core.specs.Codes.{Code, children, same}
use Rattle.bs_core.specs.Keys.{Key, key_in}
use Rattle.bs_core.specs.Machine as machine
use Rattle.bs_core.specs.Machine.{slots, codes, is_entry, may_enter, is_full_below, interned, links_of, freed, freed_by, linked, taken, HasAll}
use Rattle.bs_core.specs.Canonical.{Each, Has}
use Rattle.bs_core.specs.declared.name.Name.{Name}
use Rattle.bs_core.specs.declared.table.Table.{Table}
use Rattle.bs_core.specs.declared.table.Entry as table
use Rattle.bs_core.proofs.Basics.{by_test, code_test}
use Rattle.bs_core.proofs.Pairs.{has_slots, has_codes}
use Rattle.bs_core.proofs.May.{both_true, either_true, equal_true}
use Rattle.bs_stripe.specs.Places.{entry_at, find, raised, is_dense, added, gives, gives_of}
use Rattle.bs_stripe.specs.Laws.{of_slot, kept_of}
use Rattle.bs_stripe.specs.declared.place.Entry.{Entry}
use Rattle.bs_stripe.specs.declared.stripe.Lowered.TheVariants.{Kept, Gone}
use Rattle.bs_stripe.proofs.Alike.{raises, adds, dense, of_some, from_at, only_at}
use Rattle.bs_store.specs.Seats.{Leaves, Added}

-- ---- tests
or_true : (a b : Bool) → b ≡ true → (a || b) ≡ true
or_true true b h = refl
or_true false b h = h

is_equal : (s k : ℕ) → s ≡ k → (s == k) ≡ true
is_equal s k e = eq-eqb s k e

has_entry : (s : ℕ) (c : Code) (es : List table.Entry) → Has s c es → is_entry s c es ≡ true
has_entry s c [] h = absurd (some-ne-none h.1 (sym h.2))
has_entry s c (x ∷ xs) (zero, e, at, a, b) =
    let q = some-injective x e at in
    by_test s x.slot (λ u. ((u && same c x.code) || is_entry s c xs) ≡ true)
    (λ _. code_test c x.code (λ u. (u || is_entry s c xs) ≡ true) (λ _. refl) (λ n. absurd (n (sym b ∙ ap (λ (y : table.Entry). y.code) (sym q)))))
    (λ n. absurd (n (sym a ∙ ap (λ (y : table.Entry). y.slot) (sym q))))
has_entry s c (x ∷ xs) (suc k, e, at, a, b) = or_true ((s == x.slot) && same c x.code) (is_entry s c xs) (has_entry s c xs (k, e, at, a, b))

-- a code that is there has an entry
coded_entry : (c : Code) (es : List table.Entry) → 1 ≤ codes c es → (s : ℕ) × Has s c es
coded_entry c [] h = absurd (omega arith)
coded_entry c (x ∷ xs) h = code_test c x.code (λ u. 1 ≤ (if u then 1 else 0) + codes c xs → (s : ℕ) × Has s c (x ∷ xs))
    (λ q z. (x.slot, (zero, x, refl, refl, sym q)))
    (λ q z. let r = coded_entry c xs (omega arith) in (r.0, (suc r.1.0, r.1.1, r.1.2, r.1.3, r.1.4)))
    h

-- no entry has a slot at the mark or above
none_above : (m s : ℕ) (es : List table.Entry) → m ≤ s → Each (λ (e : table.Entry). e.slot < m) es → slots s es ≡ 0
none_above m s [] le h = refl
none_above m s (x ∷ xs) le h = by_test s x.slot (λ u. (if u then 1 else 0) + slots s xs ≡ zero) (λ q. let z = h.0 in absurd (omega arith)) (λ q. let r = none_above m s xs le h.1 in omega arith)

dense_low : (s : ℕ) (t : Table) → machine.is_dense s t ≡ true → s ≤ t.mark
dense_low s t h = ⊎_elim
    (λ a. let b = ltb-true s t.mark a in omega arith)
    (λ a. let b = equal_true s t.mark (both_true (s == t.mark) (is_full_below t.mark t.entries) a).0 in omega arith)
    (either_true (nat_lt s t.mark) ((s == t.mark) && is_full_below t.mark t.entries) h)

-- ---- one slot
kept_at : (s : ℕ) (t : Table) → s < t.mark → entry_at s (kept_of t) ≡ of_slot s t.entries
kept_at s t h = from_at 0 t.mark s t.entries h ∙ ap (λ (m : ℕ). of_slot m t.entries) (let r : 0 + s ≡ s = omega arith in r)

below_mark : (s : ℕ) (c : Code) (t : Table) → Each (λ (e : table.Entry). e.slot < t.mark) t.entries → Has s c t.entries → s < t.mark
below_mark s c t low h = dite (dec_lt s t.mark) (λ l. l) (λ n. let z = none_above t.mark s t.entries (omega arith) low in let y = has_slots s c t.entries h in absurd (omega arith))

-- the entry of a slot is kept there
pub kept_here : (s : ℕ) (c : Code) (t : Table) → Each (λ (e : table.Entry). e.slot < t.mark) t.entries → slots s t.entries ≤ 1 → (h : Has s c t.entries) → entry_at s (kept_of t) ≡ Some (let r : Entry = record { key = key_in h.1; count = h.1.count } in r)
kept_here s c t low one h = kept_at s t (below_mark s c t low h) ∙ only_at s h.0 h.1 t.entries one h.2 h.3

-- a slot with nothing kept has no entry
vacant_here : (s : ℕ) (t : Table) → Each (λ (e : table.Entry). e.slot < t.mark) t.entries → entry_at s (kept_of t) ≡ None → slots s t.entries ≡ 0
vacant_here s t low h = dite (dec_lt s t.mark)
    (λ l.
    let r : nat_lt 0 (slots s t.entries) ≡ false = sym (of_some s t.entries) ∙ ap is_some (sym (kept_at s t l) ∙ h) in
    by_test (slots s t.entries) 0 (λ _. slots s t.entries ≡ 0) (λ q. q) (λ n. let z : nat_lt 0 (slots s t.entries) ≡ true = lt-ltb 0 (slots s t.entries) (omega arith) in absurd (cc)))
    (λ n. none_above t.mark s t.entries (omega arith) low)

-- ---- what the stripe did by a key, it did by the code
pub interned_by : (c : Code) (xs : List Name) (k : Key) (s : ℕ) (new : Bool) (t : Table) (es es' : List (Option Entry)) → k ≡ record { colour = root_colour c; children = xs } → es ≡ kept_of t
    → ((m : ℕ) → (find k (kept_of t) ≡ Some m) ↔ Has m c t.entries) → Each (λ (e : table.Entry). e.slot < t.mark) t.entries → Added k s new es es'
    → (may_enter s c t ≡ true) × (es' ≡ kept_of (interned s c xs t)) × (new ≡ (codes c t.entries == 0))
interned_by c xs k s new t es es' key is found low h =
    let es0 = kept_of t in
    ⊎_elim
    (λ a.
    let has = (found s).0 (subst (λ (l : List (Option Entry)). find k l ≡ Some s) is a.0) in
    let many = has_codes s c t.entries has in (
      ap (λ b. b || ((codes c t.entries == 0) && ((slots s t.entries == 0) && machine.is_dense s t))) (has_entry s c t.entries has),
      a.1 ∙ ap (raised s) is ∙ sym (raises s t) ∙ ap kept_of (by_test (codes c t.entries) 0 (λ b. machine.raised s t ≡ (if b then machine.added s c xs t else machine.raised s t)) (λ e. absurd (omega arith)) (λ _. refl)),
      a.2 ∙ by_test (codes c t.entries) 0 (λ b. false ≡ b) (λ e. absurd (omega arith)) (λ _. refl),
    ))
    (λ a.
    let no : find k es0 ≡ None = subst (λ (l : List (Option Entry)). find k l ≡ None) is a.0 in
    let none_there : codes c t.entries ≡ 0 = by_test (codes c t.entries) 0 (λ _. codes c t.entries ≡ 0) (λ q. q) (λ n. let r = coded_entry c t.entries (omega arith) in let q = (found r.0).1 r.1 in absurd (cc)) in
    let free = vacant_here s t low (subst (λ (l : List (Option Entry)). entry_at s l ≡ None) is a.1) in
    let fits : machine.is_dense s t ≡ true = sym (dense s t) ∙ subst (λ (l : List (Option Entry)). is_dense s l ≡ true) is a.2 in (
      or_true (is_entry s c t.entries) ((codes c t.entries == 0) && ((slots s t.entries == 0) && machine.is_dense s t))
          (ap₂ (λ (x : Bool) (y : Bool). x && y) (is_equal (codes c t.entries) 0 none_there) (ap₂ (λ (x : Bool) (y : Bool). x && y) (is_equal (slots s t.entries) 0 free) fits)),
      a.3 ∙ ap (added s k) is ∙ ap (λ (y : Key). added s y es0) key ∙ sym (adds s c xs t free (dense_low s t fits)) ∙ ap kept_of (by_test (codes c t.entries) 0 (λ b. machine.added s c xs t ≡ (if b then machine.added s c xs t else machine.raised s t)) (λ _. refl) (λ e. absurd (e none_there))),
      a.4 ∙ by_test (codes c t.entries) 0 (λ b. true ≡ b) (λ _. refl) (λ e. absurd (e none_there)),
    ))
    h

-- ---- what the stripe tells of the entry that counts one less
pub leaves_by : (s : ℕ) (c : Code) (es : List table.Entry) → Has s c es → slots s es ≤ 1 → Each (λ (e : table.Entry). length e.links ≡ length (children e.code)) es → Leaves (gives_of (of_slot s es)) c (freed s es)
leaves_by s c [] has one full = absurd (some-ne-none has.1 (sym has.2))
leaves_by s c (x ∷ xs) (zero, e, at, a, b) one full =
    let q = some-injective x e at in
    let here : s ≡ x.slot = sym a ∙ sym (ap (λ (z : table.Entry). z.slot) q) in
    let code : x.code ≡ c = ap (λ (z : table.Entry). z.code) q ∙ b in
    by_test s x.slot (λ u. Leaves (gives_of (if u then Some (let r : Entry = record { key = key_in x; count = x.count } in r) else of_slot s xs)) c (if u then (if x.count == 1 then links_of x else []) else freed s xs))
    (λ _. elim (x.count == 1) as (λ u. Leaves (if u then Gone (key_in x) else Kept) c (if u then links_of x else [])) [
      | true ↦ (ap root_colour code, ap (λ (d : Code). linked x.links (children d)) code, full.0 ∙ ap (λ (d : Code). length (children d)) code)
      | false ↦ refl
    ])
    (λ n. absurd (n here))
leaves_by s c (x ∷ xs) (suc k, e, at, a, b) one full =
    by_test s x.slot (λ u. (if u then 1 else 0) + slots s xs ≤ 1 → Leaves (gives_of (if u then Some (let r : Entry = record { key = key_in x; count = x.count } in r) else of_slot s xs)) c (if u then (if x.count == 1 then links_of x else []) else freed s xs))
    (λ q z. let r = has_slots s c xs (k, e, at, a, b) in absurd (omega arith))
    (λ q z. leaves_by s c xs (k, e, at, a, b) (omega arith) full.1)
    one

pub gives_here : (s : ℕ) (c : Code) (t : Table) → Each (λ (e : table.Entry). e.slot < t.mark) t.entries → slots s t.entries ≤ 1 → Has s c t.entries → Each (λ (e : table.Entry). length e.links ≡ length (children e.code)) t.entries → Leaves (gives s (kept_of t)) c (freed s t.entries)
gives_here s c t low one h full = subst (λ (o : Option Entry). Leaves (gives_of o) c (freed s t.entries)) (sym (kept_at s t (below_mark s c t low h))) (leaves_by s c t.entries h one full)
