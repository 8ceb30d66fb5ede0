-- Two passes are all that a store has.
use Rattle.std.proofs.Common.{◌≡◌, zero, suc, [], ◌∷◌, arith, All}
use Rattle.atomic_table.specs.Seated.{TableId}
use Rattle.bs_store.specs.Seats.{OfPass}
use Rattle.bs_store.specs.Closing.{AllNumbers, IsOf, numbered}

pub two_numbers : (p q : OfPass) → p.number ≡ 0 → q.number ≡ 1 → AllNumbers 2 (p ∷ q ∷ [])
two_numbers p q e f zero h = (λ i. numbered zero (record { store = p.store; number = e i; held = p.held; gains = p.gains } ∷ record { store = q.store; number = f i; held = q.held; gains = q.gains } ∷ []))
two_numbers p q e f (suc zero) h = (λ i. numbered 1 (record { store = p.store; number = e i; held = p.held; gains = p.gains } ∷ record { store = q.store; number = f i; held = q.held; gains = q.gains } ∷ []))
two_numbers p q e f (suc (suc k)) h = absurd (omega arith)

pub two_of : (t : TableId) (p q : OfPass) → p.store ≡ t → q.store ≡ t → All (IsOf t) (p ∷ q ∷ [])
two_of t p q e f zero d l = e
two_of t p q e f (suc zero) d l = f
two_of t p q e f (suc (suc k)) d l = absurd (omega arith)
