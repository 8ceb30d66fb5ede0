-- A stripe has as many entries as the table.
use Rattle.std.proofs.Common.{◌≡◌, ℕ, zero, suc, ◌+◌, ◌<◌, ◌≤◌, Bool, List, [], ◌∷◌, length, refl, sym, ap, ◌∙◌, arith, if◌then◌else◌, is_some, nat_lt}
use Rattle.std.proofs.lemmas.Bool.{lt-ltb}
use Rattle.bs_core.specs.Machine.{slots}
use Rattle.bs_core.specs.Canonical.{Each}
use Rattle.bs_core.specs.declared.table.Table.{Table}
use Rattle.bs_core.specs.declared.table.Entry.{Entry}
use Rattle.bs_core.proofs.Basics.{by_test}
use Rattle.bs_stripe.specs.Places.{live, how_many}
use Rattle.bs_stripe.specs.Laws.{of_slot, slots_from, kept_of}
use Rattle.bs_stripe.proofs.Alike.{of_some}

-- the entries of the slots from s on
abbrev sum_slots : ℕ → ℕ → List Entry → ℕ
sum_slots s zero es = 0
sum_slots s (suc n) es = slots s es + sum_slots (s + 1) n es

sum_none : (s n : ℕ) → sum_slots s n [] ≡ 0
sum_none s zero = refl
sum_none s (suc n) = let r = sum_none (s + 1) n in omega arith

sum_above : (s n k : ℕ) (e : Entry) (es : List Entry) → e.slot ≡ k → k < s → sum_slots s n (e ∷ es) ≡ sum_slots s n es
sum_above s zero k e es q l = refl
sum_above s (suc n) k e es q l =
    let r = sum_above (s + 1) n k e es q (omega arith) in
    by_test s e.slot (λ b. ((if b then 1 else 0) + slots s es) + sum_slots (s + 1) n (e ∷ es) ≡ slots s es + sum_slots (s + 1) n es) (λ p. absurd (omega arith)) (λ _. omega arith)

sum_more : (s n : ℕ) (e : Entry) (es : List Entry) → s ≤ e.slot → e.slot < s + n → sum_slots s n (e ∷ es) ≡ 1 + sum_slots s n es
sum_more s zero e es l h = absurd (omega arith)
sum_more s (suc n) e es l h = by_test s e.slot (λ b. ((if b then 1 else 0) + slots s es) + sum_slots (s + 1) n (e ∷ es) ≡ 1 + (slots s es + sum_slots (s + 1) n es))
    (λ q. let r = sum_above (s + 1) n e.slot e es refl (omega arith) in omega arith)
    (λ q. let r = sum_more (s + 1) n e es (omega arith) (omega arith) in omega arith)

sum_all : (n : ℕ) (es : List Entry) → Each (λ (e : Entry). e.slot < n) es → sum_slots 0 n es ≡ length es
sum_all n [] h = sum_none 0 n
sum_all n (e ∷ es) h = let r = sum_all n es h.1 in let q = h.0 in let s = sum_more 0 n e es (omega arith) (omega arith) in omega arith

one_there : (s : ℕ) (es : List Entry) → slots s es ≤ 1 → (if is_some (of_slot s es) then 1 else 0) ≡ slots s es
one_there s es h = ap (λ (b : Bool). if b then 1 else 0) (of_some s es) ∙ by_test (slots s es) 0 (λ _. (if nat_lt 0 (slots s es) then 1 else 0) ≡ slots s es)
    (λ q. ap (λ (k : ℕ). if nat_lt 0 k then 1 else 0) q ∙ sym q)
    (λ q. ap (λ (b : Bool). if b then 1 else 0) (lt-ltb 0 (slots s es) (omega arith)) ∙ (let r : 1 ≡ slots s es = omega arith in r))

live_from : (s n : ℕ) (es : List Entry) → ((k : ℕ) → slots k es ≤ 1) → how_many is_some (slots_from s n es) ≡ sum_slots s n es
live_from s zero es h = refl
live_from s (suc n) es h = let r = live_from (s + 1) n es h in let o = one_there s es (h s) in omega arith

pub live_is : (t : Table) → Each (λ (e : Entry). e.slot < t.mark) t.entries → ((k : ℕ) → slots k t.entries ≤ 1) → live (kept_of t) ≡ length t.entries
live_is t low one = live_from 0 t.mark t.entries one ∙ sum_all t.mark t.entries low
