-- Names that stand agree exactly where their codes do.
use Rattle.std.proofs.Common.{◌≡◌, ℕ, zero, suc, ◌+◌, ◌≤◌, List, [], ◌∷◌, sym, ap, ◌∙◌, subst, arith, if◌then◌else◌}
use mathlib.Core.Option.{some, some-ne-none, some-injective}
use lib.ListN.{get_elem?}
use Rattle.bs_core.specs.Codes.{Code, stripe_of}
use Rattle.bs_core.specs.Machine.{State, slots, codes}
use Rattle.bs_core.specs.Canonical.{Each, Counts, Has, Stands, Canonical, every}
use Rattle.bs_core.specs.declared.name.Name.{Name}
use Rattle.bs_core.specs.declared.table.Held.{Held}
use Rattle.bs_core.specs.declared.table.Entry.{Entry}
use Rattle.bs_core.specs.declared.table.Table.{Table}
use Rattle.bs_core.proofs.Basics.{by_test, code_test}
use Rattle.bs_core.proofs.Pairs.{has_slots, has_codes}

pub each_at : {A : Type 0} (P : A → Type 0) (xs : List A) (i : ℕ) (x : A) → Each P xs → get_elem? xs i ≡ some x → P x
each_at P [] i x h e = absurd (some-ne-none x (sym e))
each_at P (y ∷ ys) zero x h e = subst P (some-injective y x e) h.0
each_at P (y ∷ ys) (suc i) x h e = each_at P ys i x h.1 e

pub one_slot : (s : ℕ) (c c' : Code) (es : List Entry) → slots s es ≤ 1 → Has s c es → Has s c' es → c ≡ c'
one_slot s c c' [] one h h' = absurd (some-ne-none h.1 (sym h.2))
one_slot s c c' (x ∷ xs) one (zero, e, at, a, b) (zero, e', at', a', b') = sym b ∙ ap (λ (y : Entry). y.code) (sym (some-injective x e at) ∙ some-injective x e' at') ∙ b'
one_slot s c c' (x ∷ xs) one (zero, e, at, a, b) (suc k, e', at', a', b') = by_test s x.slot (λ u. (if u then 1 else 0) + slots s xs ≤ 1 → c ≡ c') (λ q z. let r = has_slots s c' xs (k, e', at', a', b') in absurd (omega arith)) (λ q _. absurd (q (sym (ap (λ (y : Entry). y.slot) (some-injective x e at) ∙ a)))) one
one_slot s c c' (x ∷ xs) one (suc k, e, at, a, b) (zero, e', at', a', b') = by_test s x.slot (λ u. (if u then 1 else 0) + slots s xs ≤ 1 → c ≡ c') (λ q z. let r = has_slots s c xs (k, e, at, a, b) in absurd (omega arith)) (λ q _. absurd (q (sym (ap (λ (y : Entry). y.slot) (some-injective x e' at') ∙ a')))) one
one_slot s c c' (x ∷ xs) one (suc k, e, at, a, b) (suc k', e', at', a', b') = one_slot s c c' xs (by_test s x.slot (λ u. (if u then 1 else 0) + slots s xs ≤ 1 → slots s xs ≤ 1) (λ _ z. omega arith) (λ _ z. omega arith) one) (k, e, at, a, b) (k', e', at', a', b')

pub one_code : (s s' : ℕ) (c : Code) (es : List Entry) → codes c es ≤ 1 → Has s c es → Has s' c es → s ≡ s'
one_code s s' c [] one h h' = absurd (some-ne-none h.1 (sym h.2))
one_code s s' c (x ∷ xs) one (zero, e, at, a, b) (zero, e', at', a', b') = sym a ∙ ap (λ (y : Entry). y.slot) (sym (some-injective x e at) ∙ some-injective x e' at') ∙ a'
one_code s s' c (x ∷ xs) one (zero, e, at, a, b) (suc k, e', at', a', b') = code_test c x.code (λ u. (if u then 1 else 0) + codes c xs ≤ 1 → s ≡ s') (λ q z. let r = has_codes s' c xs (k, e', at', a', b') in absurd (omega arith)) (λ q _. absurd (q (sym (ap (λ (y : Entry). y.code) (some-injective x e at) ∙ b)))) one
one_code s s' c (x ∷ xs) one (suc k, e, at, a, b) (zero, e', at', a', b') = code_test c x.code (λ u. (if u then 1 else 0) + codes c xs ≤ 1 → s ≡ s') (λ q z. let r = has_codes s c xs (k, e, at, a, b) in absurd (omega arith)) (λ q _. absurd (q (sym (ap (λ (y : Entry). y.code) (some-injective x e' at') ∙ b')))) one
one_code s s' c (x ∷ xs) one (suc k, e, at, a, b) (suc k', e', at', a', b') = one_code s s' c xs (code_test c x.code (λ u. (if u then 1 else 0) + codes c xs ≤ 1 → codes c xs ≤ 1) (λ _ z. omega arith) (λ _ z. omega arith) one) (k, e, at, a, b) (k', e', at', a', b')

pub entry_of : (n : ℕ) (g : State) (p : Held) (c : Canonical n g) (h : Stands g.tables p) → Counts n p.name.stripe h.0.mark (every g) h.2.1
entry_of n g p c h = each_at (Counts n p.name.stripe h.0.mark (every g)) h.0.entries h.2.0 h.2.1 (c.tables p.name.stripe h.0 h.1).entries h.2.2

-- the stripe of a pair that stands is its code's
pub stripe_is : (n : ℕ) (g : State) (p : Held) → Canonical n g → Stands g.tables p → stripe_of n p.code ≡ p.name.stripe
stripe_is n g p c h = ap (stripe_of n) (sym h.2.4) ∙ (entry_of n g p c h).here

-- two pairs or links that stand have one name exactly where they have one code
pub stands_agree : (n : ℕ) (g : State) (p q : Held) → Canonical n g → Stands g.tables p → Stands g.tables q → (p.name ≡ q.name → p.code ≡ q.code) × (p.code ≡ q.code → p.name ≡ q.name)
stands_agree n g p q c hp hq = (
  (λ e.
      let at : get_elem? g.tables p.name.stripe ≡ some hq.0 = subst (λ (x : Name). get_elem? g.tables x.stripe ≡ some hq.0) (sym e) hq.1 in
      let same : hq.0 ≡ hp.0 = some-injective hq.0 hp.0 (sym at ∙ hp.1) in
      one_slot p.name.slot p.code q.code hp.0.entries ((c.tables p.name.stripe hp.0 hp.1).slots_differ p.name.slot) hp.2
      (subst (λ (t : Table). Has p.name.slot q.code t.entries) same (subst (λ (x : Name). Has x.slot q.code hq.0.entries) (sym e) hq.2))),
  (λ e.
      let stripe : p.name.stripe ≡ q.name.stripe = sym (stripe_is n g p c hp) ∙ ap (stripe_of n) e ∙ stripe_is n g q c hq in
      let at : get_elem? g.tables p.name.stripe ≡ some hq.0 = subst (λ x. get_elem? g.tables x ≡ some hq.0) (sym stripe) hq.1 in
      let same : hq.0 ≡ hp.0 = some-injective hq.0 hp.0 (sym at ∙ hp.1) in
      let slot : p.name.slot ≡ q.name.slot = one_code p.name.slot q.name.slot p.code hp.0.entries ((c.tables p.name.stripe hp.0 hp.1).codes_differ p.code) hp.2
      (subst (λ (t : Table). Has q.name.slot p.code t.entries) same (subst (λ x. Has q.name.slot x hq.0.entries) (sym e) hq.2)) in
      λ i. record { stripe = stripe i; slot = slot i }),
)
