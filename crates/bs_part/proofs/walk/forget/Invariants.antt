use Rattle.std.proofs.Common.{◌≡◌, ℕ, ◌<◌, ◌≤◌, List, length, get_or, Some, None}
use Rattle.bs_part.proofs.walk.forget.Given as goal

abbrev pub invariant-places : goal.invariant-places
invariant-places l = record {
  room : length l.known ≡ length l.initial.known;
  stays : (node : ℕ) (part : List (ℕ × ℕ)) → get_or l.known node None ≡ Some part → (get_or l.initial.known node None ≡ Some part) × (node < l.place → get_or l.ends node 0 ≤ l.node);
}
