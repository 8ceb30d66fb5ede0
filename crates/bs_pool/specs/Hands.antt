-- The rule of a deque of jobs: what was dealt to it is what was taken from it and what is left, each job as often.
--
--   hand parts put taken   == what one pass knows: its parts of the right to know the whole, and the jobs that it put and took
--   times x xs             == how often x stands in the list
--   total f xs             == f of each, added up
--   Each P xs              == P holds of each
--   Idle v                 == a pass with no part has put and taken nothing
--   Balanced items views   == the rule, over what is left in the deque and over what all of its passes know
--   Spent v                == a pass with every part knows that each job was taken as often as it was put
--   below x n              == how often x is a number below n: once, or not at all
--
-- Source: this project's own.
-- A deque has 1,024 parts. One goes with each thief and comes home; who has them all again knows what all have taken.
use Rattle.std.specs.Prelude.{◌≡◌, ℕ, zero, suc, ◌+◌, List, [], ◌∷◌, if◌then◌else◌, ◌==◌}
use Rattle.bs_pool.specs.declared.hand.Hand.{Hand}

abbrev pub hand : ℕ → List ℕ → List ℕ → Hand
hand parts put taken = record { parts = parts; put = put; taken = taken }

abbrev pub times : ℕ → List ℕ → ℕ
times x [] = 0
times x (y ∷ ys) = (if y == x then 1 else 0) + times x ys

abbrev pub total : {A : Type 0} → (A → ℕ) → List A → ℕ
total f [] = 0
total f (x ∷ xs) = f x + total f xs

abbrev pub Each : {A : Type 0} → (A → Type 0) → List A → Type 0
Each P [] = Unit {0}
Each P (x ∷ xs) = P x × Each P xs

abbrev pub Idle : Hand → Type 0
Idle v = v.parts ≡ 0 → (x : ℕ) → (times x v.put ≡ 0) × (times x v.taken ≡ 0)

pub record Balanced (items : List ℕ) (views : List Hand) : Type 0 where
  pub whole : total (λ v. v.parts) views ≡ 1024
  pub even : (x : ℕ) → total (λ v. times x v.put) views ≡ total (λ v. times x v.taken) views + times x items
  pub idle : Each Idle views

abbrev pub Spent : Hand → Type 0
Spent v = v.parts ≡ 1024 → (x : ℕ) → times x v.put ≡ times x v.taken

abbrev pub below : ℕ → ℕ → ℕ
below x zero = 0
below x (suc n) = below x n + (if n == x then 1 else 0)
