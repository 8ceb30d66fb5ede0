-- The places of the answers, one for each job, while they fill.
--
--   Empty ps           == nothing is in any place
--   Placed answer ps   == what is in a place is the answer of its job
--   Filled f ps        == something is in the place of each job that f counts
--
-- Source: this project's own.
use Rattle.std.specs.Prelude.{◌≡◌, ℕ, ◌<◌, List, length, slice_index_or, Vec, Option, None, All, IfSome, IsSome}
use Rattle.std.specs.declared.alloc.Global.{Global}

abbrev pub Empty : List (Option (Vec ℕ Global)) → Type 0
Empty ps = All (λ p. p ≡ None) ps

abbrev pub Placed : (ℕ → List ℕ) → List (Option (Vec ℕ Global)) → Type 0
Placed answer ps = (j : ℕ) (d : Option (Vec ℕ Global)) → j < length ps → IfSome (slice_index_or ps j d) (λ v. v.items ≡ answer j)

abbrev pub Filled : (ℕ → ℕ) → List (Option (Vec ℕ Global)) → Type 0
Filled f ps = (j : ℕ) (d : Option (Vec ℕ Global)) → j < length ps → 0 < f j → IsSome (slice_index_or ps j d)
