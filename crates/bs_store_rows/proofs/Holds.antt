-- One or two passes are all that a store has.
use Rattle.std.proofs.Common.{◌≡◌, ℕ, zero, suc, ◌<◌, List, [], ◌∷◌, ap, arith, All}
use Rattle.atomic_table.specs.Seated.{TableId}
use Rattle.bs_store.specs.Seats.{OfPass}
use Rattle.bs_store.specs.Closing.{AllNumbers, IsOf, numbered}

pub one_number : (p : OfPass) → p.number ≡ 0 → AllNumbers 1 (p ∷ [])
one_number p e zero h = ap (λ (n : ℕ). numbered zero (record { store = p.store; number = n; held = p.held; gains = p.gains } ∷ [])) e
one_number p e (suc k) h = absurd (omega arith)

pub two_numbers : (p q : OfPass) → p.number ≡ 0 → q.number ≡ 1 → AllNumbers 2 (p ∷ q ∷ [])
two_numbers p q e f zero h = (λ i. numbered zero (record { store = p.store; number = e i; held = p.held; gains = p.gains } ∷ record { store = q.store; number = f i; held = q.held; gains = q.gains } ∷ []))
two_numbers p q e f (suc zero) h = (λ i. numbered 1 (record { store = p.store; number = e i; held = p.held; gains = p.gains } ∷ record { store = q.store; number = f i; held = q.held; gains = q.gains } ∷ []))
two_numbers p q e f (suc (suc k)) h = absurd (omega arith)

pub one_of : (t : TableId) (p : OfPass) → p.store ≡ t → All (IsOf t) (p ∷ [])
one_of t p e zero d l = e
one_of t p e (suc k) d l = absurd (omega arith)

pub two_of : (t : TableId) (p q : OfPass) → p.store ≡ t → q.store ≡ t → All (IsOf t) (p ∷ q ∷ [])
two_of t p q e f zero d l = e
two_of t p q e f (suc zero) d l = f
two_of t p q e f (suc (suc k)) d l = absurd (omega arith)
