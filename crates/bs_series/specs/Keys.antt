-- Keys: bytes that tell the expressions of all books apart.
--
--   key_of s            == a byte for the outermost operation, then its numbers and the keys of its operands in their order
--   counted w           == a word behind the number of its bytes
--   HasBoundedFactors s == neither magnitude of a factor of a scaling exceeds the limit
--   KeysDecide          == two expressions with such factors, all reduced, have equal keys exactly where they are equal
--
-- Source: this project.
use Rattle.std.specs.Prelude.{◌≡◌, ◌↔◌, ℕ, ◌/◌, ◌%◌, List, [], ◌∷◌, ◌++◌, length}
use Rattle.bs_frac.specs.Checked.{IsWithin}
use Rattle.bs_frac.specs.Text.{fraction_text}
use Rattle.bs_series.specs.Series.{Series, exact, identity, average, method, compose, inverse, adjoint, substitute, modified, modifying, scale}
use Rattle.bs_series.specs.Laws.{HasReducedFactors}

abbrev pub counted : List ℕ → List ℕ
counted w = length w ∷ w

abbrev pub key_of : Series → List ℕ
key_of (exact k) = 0 ∷ k ∷ []
key_of (identity k) = 1 ∷ k ∷ []
key_of (average k) = 2 ∷ k ∷ []
key_of (method n k) = 3 ∷ n / 256 ∷ n % 256 ∷ k ∷ []
key_of (compose a b) = 4 ∷ (key_of a ++ key_of b)
key_of (inverse a) = 5 ∷ key_of a
key_of (adjoint a) = 6 ∷ key_of a
key_of (substitute b a) = 7 ∷ (key_of b ++ key_of a)
key_of (modified a) = 8 ∷ key_of a
key_of (modifying a) = 9 ∷ key_of a
key_of (scale a c) = 10 ∷ (key_of a ++ counted (fraction_text c))

abbrev pub HasBoundedFactors : Series → Type 0
HasBoundedFactors (exact k) = Unit {0}
HasBoundedFactors (identity k) = Unit {0}
HasBoundedFactors (average k) = Unit {0}
HasBoundedFactors (method n k) = Unit {0}
HasBoundedFactors (compose a b) = HasBoundedFactors a × HasBoundedFactors b
HasBoundedFactors (inverse a) = HasBoundedFactors a
HasBoundedFactors (adjoint a) = HasBoundedFactors a
HasBoundedFactors (substitute b a) = HasBoundedFactors b × HasBoundedFactors a
HasBoundedFactors (modified a) = HasBoundedFactors a
HasBoundedFactors (modifying a) = HasBoundedFactors a
HasBoundedFactors (scale a c) = HasBoundedFactors a × IsWithin c

abbrev pub IsKeyed : Series → Type 0
IsKeyed s = HasReducedFactors s × HasBoundedFactors s

abbrev pub KeysDecide : Type 0
KeysDecide = (s t : Series) → IsKeyed s → IsKeyed t → (key_of s ≡ key_of t) ↔ (s ≡ t)
