-- What an allowed event needs, as facts.
use Rattle.std.proofs.Common.{◌≡◌, ◌⊎◌, ℕ, zero, suc, ◌<◌, ◌≤◌, ◌==◌, ◌&&◌, ◌||◌, Bool, true, false, List, [], ◌∷◌, length, refl, sym, arith, inl, inr, ⊎_elim}
use Rattle.std.specs.Prelude.{nat_lt}
use Rattle.std.proofs.lemmas.Bool.{ltb-true}
use Rattle.bs_tree.specs.Code.{IsCode}
use Rattle.bs_core.specs.Codes.{Code, children, same, stripe_of}
use Rattle.bs_core.specs.Machine.{State, times, codes, slots, coded, without_code, HasAll, has_all, is_entry, is_dense, is_full_below, may_enter, needs, allowed, list_at, table_at, party_in, other_in, stripe_in}
use Rattle.bs_core.specs.Canonical.{Has, HasCode}
use Rattle.bs_core.specs.declared.table.Held.{Held}
use Rattle.bs_core.specs.declared.table.Entry.{Entry}
use Rattle.bs_core.specs.declared.table.Table.{Table}
use Rattle.bs_core.specs.declared.event.Event.{Event}
use Rattle.bs_core.specs.declared.event.Event.TheVariants.{Intern, Hold, Release, Give, Look, Keep, Evict}
use Rattle.bs_core.proofs.Basics.{by_test, code_test}

abbrev pub MayIntern : Code → ℕ → Table → Type 0
MayIntern c s t = Has s c t.entries ⊎ ((codes c t.entries ≡ 0) × (slots s t.entries ≡ 0) × (s ≤ t.mark))

-- the party is there, with a pair of the name
abbrev pub May : ℕ → Event → State → Type 0
May n (Intern p c m) g = (m.stripe ≡ stripe_of n c) × (p < length g.lists) × (m.stripe < length g.tables) × HasAll (children c) (list_at p g.lists) × MayIntern c m.slot (table_at m.stripe g.tables) × IsCode c
May n (Hold p m) g = (p < length g.lists) × (0 < times m (list_at p g.lists))
May n (Release p m) g = (p < length g.lists) × (0 < times m (list_at p g.lists))
May n (Give p q m) g = (p < length g.lists) × (q < length g.lists) × (0 < times m (list_at p g.lists))
May n (Look p q m) g = (p < length g.lists) × (q < length g.lists) × (0 < times m (list_at p g.lists))
May n (Keep p q m) g = (p < length g.lists) × (q < length g.lists) × (0 < times m (list_at p g.lists))
May n (Evict q m) g = (q < length g.lists) × (0 < times m (list_at q g.lists))

-- tests
pub both_true : (a b : Bool) → (a && b) ≡ true → (a ≡ true) × (b ≡ true)
both_true true true h = (refl, refl)
both_true true false h = cc
both_true false b h = cc

pub either_true : (a b : Bool) → (a || b) ≡ true → (a ≡ true) ⊎ (b ≡ true)
either_true true b h = inl refl
either_true false b h = inr h

pub equal_true : (a b : ℕ) → (a == b) ≡ true → a ≡ b
equal_true a b = by_test a b (λ u. u ≡ true → a ≡ b) (λ e _. e) (λ _ h. cc)

pub same_true : (a b : Code) → same a b ≡ true → a ≡ b
same_true a b = code_test a b (λ u. u ≡ true → a ≡ b) (λ e _. e) (λ _ h. cc)

pub has_all_true : (cs : List Code) (l : List Held) → has_all cs l ≡ true → HasAll cs l
has_all_true [] l h = tt
has_all_true (c ∷ cs) l h = let b = both_true (nat_lt 0 (coded c l)) (has_all cs (without_code c l)) h in (ltb-true 0 (coded c l) b.0, has_all_true cs (without_code c l) b.1)

pub is_entry_true : (s : ℕ) (c : Code) (es : List Entry) → is_entry s c es ≡ true → Has s c es
is_entry_true s c [] h = cc
is_entry_true s c (e ∷ es) h = ⊎_elim
    (λ a. let b = both_true (s == e.slot) (same c e.code) a in (zero, e, refl, sym (equal_true s e.slot b.0), sym (same_true c e.code b.1)))
    (λ a. let r = is_entry_true s c es a in (suc r.0, r.1, r.2, r.3, r.4))
    (either_true ((s == e.slot) && same c e.code) (is_entry s c es) h)

dense_low : (s : ℕ) (t : Table) → is_dense s t ≡ true → s ≤ t.mark
dense_low s t h = ⊎_elim
    (λ a. let b = ltb-true s t.mark a in omega arith)
    (λ a. let b = equal_true s t.mark (both_true (s == t.mark) (is_full_below t.mark t.entries) a).0 in omega arith)
    (either_true (nat_lt s t.mark) ((s == t.mark) && is_full_below t.mark t.entries) h)

may_enter_true : (s : ℕ) (c : Code) (t : Table) → may_enter s c t ≡ true → MayIntern c s t
may_enter_true s c t h = ⊎_elim
    (λ a. inl (is_entry_true s c t.entries a))
    (λ a.
    let b = both_true (codes c t.entries == 0) ((slots s t.entries == 0) && is_dense s t) a in
    let d = both_true (slots s t.entries == 0) (is_dense s t) b.1 in
    inr (equal_true (codes c t.entries) 0 b.0, equal_true (slots s t.entries) 0 d.0, dense_low s t d.1))
    (either_true (is_entry s c t.entries) ((codes c t.entries == 0) && ((slots s t.entries == 0) && is_dense s t)) h)

-- its parties and its stripe are there
pub there : (n : ℕ) (e : Event) (g : State) → allowed n e g ≡ true
    → (party_in e < length g.lists) × (other_in e < length g.lists) × (stripe_in e < length g.tables) × (needs n e (list_at (party_in e) g.lists) (table_at (stripe_in e) g.tables) ≡ true)
there n e g h =
    let need = needs n e (list_at (party_in e) g.lists) (table_at (stripe_in e) g.tables) in
    let a = both_true (nat_lt (party_in e) (length g.lists)) (nat_lt (other_in e) (length g.lists) && (nat_lt (stripe_in e) (length g.tables) && need)) h in
    let b = both_true (nat_lt (other_in e) (length g.lists)) (nat_lt (stripe_in e) (length g.tables) && need) a.1 in
    let c = both_true (nat_lt (stripe_in e) (length g.tables)) need b.1 in
    (ltb-true (party_in e) (length g.lists) a.0, ltb-true (other_in e) (length g.lists) b.0, ltb-true (stripe_in e) (length g.tables) c.0, c.1)

pub allowed_may : (n : ℕ) (e : Event) (g : State) → HasCode e → allowed n e g ≡ true → May n e g
allowed_may n (Intern p c m) g code h =
    let t = there n (Intern p c m) g h in
    let l = list_at p g.lists in
    let d = table_at m.stripe g.tables in
    let a = both_true (m.stripe == stripe_of n c) (has_all (children c) l && may_enter m.slot c d) t.3 in
    let b = both_true (has_all (children c) l) (may_enter m.slot c d) a.1 in
    (equal_true m.stripe (stripe_of n c) a.0, t.0, t.2, has_all_true (children c) l b.0, may_enter_true m.slot c d b.1, code)
allowed_may n (Hold p m) g code h = let t = there n (Hold p m) g h in (t.0, ltb-true 0 (times m (list_at p g.lists)) t.3)
allowed_may n (Release p m) g code h = let t = there n (Release p m) g h in (t.0, ltb-true 0 (times m (list_at p g.lists)) t.3)
allowed_may n (Give p q m) g code h = let t = there n (Give p q m) g h in (t.0, t.1, ltb-true 0 (times m (list_at p g.lists)) t.3)
allowed_may n (Look p q m) g code h = let t = there n (Look p q m) g h in (t.0, t.1, ltb-true 0 (times m (list_at p g.lists)) t.3)
allowed_may n (Keep p q m) g code h = let t = there n (Keep p q m) g h in (t.0, t.1, ltb-true 0 (times m (list_at p g.lists)) t.3)
allowed_may n (Evict q m) g code h = let t = there n (Evict q m) g h in (t.0, ltb-true 0 (times m (list_at q g.lists)) t.3)
