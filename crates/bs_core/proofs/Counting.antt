-- An allowed event keeps a canonical state.
use Rattle.std.proofs.Common.{◌≡◌, ◌≢◌, ◌⊎◌, ℕ, zero, suc, ◌+◌, ◌-◌, ◌<◌, ◌≤◌, ◌==◌, List, [], ◌∷◌, ◌++◌, length, refl, sym, ap, ◌∙◌, subst, arith, inl, inr, ⊎_elim, if◌then◌else◌}
use mathlib.Core.Option.{some, some-ne-none, some-injective}
use lib.ListN.{get_elem?}
use Rattle.bs_core.specs.declared.name.Name.{Name}
use Rattle.bs_core.specs.declared.table.Held.{Held}
use Rattle.bs_core.specs.declared.table.Entry.{Entry}
use Rattle.bs_core.specs.Machine.{most, times, without, one_more, raise_in, lower, lower_in, slots, at_place, list_at}
use Rattle.bs_core.specs.Canonical.{Each, all_times, Counts}
use Rattle.bs_core.specs.Codes.{Code, same}
use Rattle.bs_core.proofs.Basics.{by_test}
use Rattle.bs_core.proofs.Pairs.{hit, hit_same, hit_other, each_join, times_pair, times_without, at_count, push}

abbrev pub slot_name : ℕ → ℕ → Name
slot_name i x = record { stripe = i; slot = x }

-- how the number of pairs of each name changes
abbrev pub Up : Name → List (List Held) → List (List Held) → Type 0
Up m ls ls' = (x : Name) → all_times x ls' ≡ all_times x ls + hit x m

abbrev pub Down : Name → List (List Held) → List (List Held) → Type 0
Down m ls ls' = (x : Name) → all_times x ls' + hit x m ≡ all_times x ls

abbrev pub Level : List (List Held) → List (List Held) → Type 0
Level ls ls' = (x : Name) → all_times x ls' ≡ all_times x ls

pub up : (m : Name) (c : Code) (p : ℕ) (ls : List (List Held)) → p < length ls → Up m ls (at_place p (push m c) ls)
up m c p ls h x = let r = at_count x p (push m c) ls h in let q = times_pair x m c (list_at p ls) in omega arith

pub down : (m : Name) (p : ℕ) (ls : List (List Held)) → p < length ls → 0 < times m (list_at p ls) → Down m ls (at_place p (without m) ls)
down m p ls h t x = let r = at_count x p (without m) ls h in let q = times_without x m (list_at p ls) t in omega arith

-- another slot, or another stripe
pub other_slot : (i x s : ℕ) (m : Name) → m ≡ slot_name i s → x ≢ s → hit (slot_name i x) m ≡ 0
other_slot i x s m e n = hit_other (slot_name i x) m (λ q. n (ap (λ (y : Name). y.slot) (q ∙ e)))

this_slot : (i s : ℕ) (m : Name) → m ≡ slot_name i s → hit (slot_name i s) m ≡ 1
this_slot i s m e = subst (λ y. hit y m ≡ suc 0) e (hit_same m)

pub other_stripe : (i x : ℕ) (m : Name) → i ≢ m.stripe → hit (slot_name i x) m ≡ 0
other_stripe i x m n = hit_other (slot_name i x) m (λ q. n (ap (λ (y : Name). y.stripe) q))

module _ (n i mk mk' : ℕ) (ls ls' : List (List Held)) (wider : mk ≤ mk') where
  -- an entry with as many pairs as before
  counts_same : (e : Entry) → all_times (slot_name i e.slot) ls' ≡ all_times (slot_name i e.slot) ls → Counts n i mk ls e → Counts n i mk' ls' e
  counts_same e same c = let b = c.below in record { here = c.here; sound = c.sound; full = c.full; below = omega arith; positive = c.positive; counted = ⊎_elim (λ q. inl (q ∙ sym same)) (λ q. inr q) c.counted }

  pub all_same : (es : List Entry) → ((x : ℕ) → all_times (slot_name i x) ls' ≡ all_times (slot_name i x) ls) → Each (Counts n i mk ls) es → Each (Counts n i mk' ls') es
  all_same [] same c = tt
  all_same (e ∷ es) same c = (counts_same e (same e.slot) c.0, all_same es same c.1)

  more : (e : Entry) → all_times (slot_name i e.slot) ls' ≡ all_times (slot_name i e.slot) ls + 1 → Counts n i mk ls e → Counts n i mk' ls' (record { slot = e.slot; code = e.code; links = e.links; count = one_more e.count })
  more e up c = let b = c.below in let p = c.positive in record {
    here = c.here;
    sound = c.sound;
    full = c.full;
    below = omega arith;
    positive = by_test e.count most (λ u. 1 ≤ (if u then e.count else e.count + 1)) (λ _. c.positive) (λ _. omega arith);
    counted = by_test e.count most (λ u. ((if u then e.count else e.count + 1) ≡ all_times (slot_name i e.slot) ls') ⊎ ((if u then e.count else e.count + 1) ≡ most)) (λ q. inr q) (λ q. ⊎_elim (λ r. inl (omega arith)) (λ r. absurd (q r)) c.counted);
  }

  pub raise_counts : (m : Name) (s : ℕ) (es : List Entry) → m ≡ slot_name i s → Up m ls ls' → Each (Counts n i mk ls) es → Each (Counts n i mk' ls') (raise_in s es)
  raise_counts m s [] is u c = tt
  raise_counts m s (e ∷ es) is u c = (
    by_test s e.slot (λ b. Counts n i mk' ls' (if b then record { slot = e.slot; code = e.code; links = e.links; count = one_more e.count } else e))
        (λ q. more e (let k = u (slot_name i e.slot) in let h = subst (λ x. hit (slot_name i x) m ≡ suc 0) q (this_slot i s m is) in omega arith) c.0)
        (λ q. counts_same e (let k = u (slot_name i e.slot) in let h = other_slot i e.slot s m is (λ r. q (sym r)) in omega arith) c.0),
    raise_counts m s es is u c.1,
  )

  -- no entry of this slot
  pub untouched : (s : ℕ) (es : List Entry) → slots s es ≡ 0 → ((x : ℕ) → x ≢ s → all_times (slot_name i x) ls' ≡ all_times (slot_name i x) ls) → Each (Counts n i mk ls) es → Each (Counts n i mk' ls') es
  untouched s [] zr d c = tt
  untouched s (e ∷ es) zr d c = (counts_same e (d e.slot (apart zr)) c.0, untouched s es (omega arith) d c.1)
    where
      apart : slots s (e ∷ es) ≡ 0 → e.slot ≢ s
      apart = by_test s e.slot (λ u. (if u then 1 else 0) + slots s es ≡ 0 → e.slot ≢ s) (λ q z r. omega arith) (λ q z r. q (sym r))

  fewer : (e : Entry) → all_times (slot_name i e.slot) ls' + 1 ≡ all_times (slot_name i e.slot) ls → Counts n i mk ls e → Each (Counts n i mk' ls') (lower e)
  fewer e down c = let b = c.below in let p = c.positive in
      by_test e.count 1 (λ u. Each (Counts n i mk' ls') (if u then [] else (if e.count == most then e ∷ [] else record { slot = e.slot; code = e.code; links = e.links; count = e.count - 1 } ∷ [])))
      (λ _. tt)
      (λ many. by_test e.count most (λ u. Each (Counts n i mk' ls') (if u then e ∷ [] else record { slot = e.slot; code = e.code; links = e.links; count = e.count - 1 } ∷ []))
      (λ q. (record { here = c.here; sound = c.sound; full = c.full; below = omega arith; positive = c.positive; counted = inr q }, tt))
      (λ q. (record { here = c.here; sound = c.sound; full = c.full; below = omega arith; positive = omega arith; counted = ⊎_elim (λ r. inl (omega arith)) (λ r. absurd (q r)) c.counted }, tt)))

  pub lower_counts : (m : Name) (s : ℕ) (es : List Entry) → m ≡ slot_name i s → slots s es ≤ 1 → Down m ls ls' → Each (Counts n i mk ls) es → Each (Counts n i mk' ls') (lower_in s es)
  lower_counts m s [] is one d c = tt
  lower_counts m s (e ∷ es) is one d c =
      by_test s e.slot (λ b. (if b then 1 else 0) + slots s es ≤ 1 → Each (Counts n i mk' ls') (if b then lower e ++ es else e ∷ lower_in s es))
      (λ q z. each_join (Counts n i mk' ls') (lower e) es
      (fewer e (let k = d (slot_name i e.slot) in let h = subst (λ x. hit (slot_name i x) m ≡ suc 0) q (this_slot i s m is) in omega arith) c.0)
      (untouched s es (omega arith) (λ x w. let k = d (slot_name i x) in let h = other_slot i x s m is w in omega arith) c.1))
      (λ q z. (counts_same e (let k = d (slot_name i e.slot) in let h = other_slot i e.slot s m is (λ r. q (sym r)) in omega arith) c.0, lower_counts m s es is (omega arith) d c.1))
      one

-- what was at a place
at_place_back : {A : Type 0} (F : A → A) (i : ℕ) (xs : List A) (y : A) → get_elem? (at_place i F xs) i ≡ some y → (x : A) × (get_elem? xs i ≡ some x) × (y ≡ F x)
at_place_back F i [] y e = absurd (some-ne-none y (sym e))
at_place_back F zero (x ∷ xs) y e = (x, refl, sym (some-injective (F x) y e))
at_place_back F (suc i) (x ∷ xs) y e = at_place_back F i xs y e
