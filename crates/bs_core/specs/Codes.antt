-- Codes as a store sees them: what two have in common, and the stripe of each.
--
--   Code             == a list of pairs (level, colour): where IsCode of bs_tree holds, the canonical sequence of a tree
--   children c       == the codes of the children of the root, in decreasing order
--   same c d         == the test of equality
--   hashed h b       == 31 h + b modulo 2^64
--   hash c           == this over the bytes level, colour of each node in preorder, from 0
--   stripe_of n c    == the rest of the hash by the number n of stripes
--
-- Source: this project's own.
use Rattle.std.specs.Prelude.{◌≡◌, ℕ, ◌+◌, ◌*◌, ◌%◌, ◌^◌, Bool, List, [], ◌∷◌, refl}
use Rattle.bs_tree.specs.Code.{child_codes, same_code}

abbrev pub Code : Type 0
Code = List (ℕ × ℕ)

unfoldable pub children : Code → List Code
children c = child_codes c

unfoldable pub same : Code → Code → Bool
same c d = same_code c d

abbrev pub hashed : ℕ → ℕ → ℕ
hashed h b = (31 * h + b) % 2 ^ 64

abbrev pub hash_from : ℕ → Code → ℕ
hash_from h [] = h
hash_from h (p ∷ ps) = hash_from (hashed (hashed h p.0) p.1) ps

unfoldable pub stripe_of : ℕ → Code → ℕ
stripe_of n c = hash_from 0 c % n

-- ---- examples: 31 * 1 + 2 = 33, then (33 * 31 + 2) * 31 + 0 = 31775
of_a_leaf : stripe_of 5 ((1, 2) ∷ []) ≡ 3
unfolding stripe_of
of_a_leaf = refl

of_two_nodes : stripe_of 100 ((1, 2) ∷ (2, 0) ∷ []) ≡ 75
unfolding stripe_of
of_two_nodes = refl

children_of_three : children ((1, 0) ∷ (2, 1) ∷ (2, 0) ∷ []) ≡ ((1, 1) ∷ []) ∷ ((1, 0) ∷ []) ∷ []
unfolding children
children_of_three = refl
