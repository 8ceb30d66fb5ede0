-- Series expressions: B-series built from the exact flow, the identity, methods and the operations on series.
--
--   Series          == an expression; its constructors are
--     exact k, identity k, average k  the exact flow, the identity, the average vector field method, of k colours
--     method n k                      the Runge-Kutta method of tableau n, of k colours
--     compose a b                     first a, then b
--     inverse a, adjoint a            the inverse and the adjoint of a under composition
--     substitute b a                  the inner series b put into the outer series a
--     modified a                      the b whose substitution into the exact flow gives a
--     modifying a                     the b whose substitution into a gives the exact flow
--     scale a c                       the step size multiplied by c: a(T) c^|T|
--   empty_value s   == the coefficient of the empty tree
--   colours_of s    == the number of colours of the trees at which the series has coefficients
--   depth s         == the depth of the expression written out; an expression without operands has depth 1
--   size s          == the number of its nodes, written out
--
-- Source: Chartier, Hairer and Vilmart (2010) for composition, substitution and modified equations; Butcher (2021) for the
-- series of methods. The expressions as data are this project's.
-- The code keeps each distinct expression once, and names its operands by their places.
use Rattle.std.specs.Prelude.{ℕ, suc, ◌+◌, max}
use Rattle.bs_frac.specs.Fraction.{Fraction, whole}

pub data Series : Type 0 where
  exact : ℕ → Series
  identity : ℕ → Series
  average : ℕ → Series
  method : ℕ → ℕ → Series
  compose : Series → Series → Series
  inverse : Series → Series
  adjoint : Series → Series
  substitute : Series → Series → Series
  modified : Series → Series
  modifying : Series → Series
  scale : Series → Fraction → Series

abbrev pub empty_value : Series → Fraction
empty_value (exact k) = whole 1
empty_value (identity k) = whole 1
empty_value (average k) = whole 1
empty_value (method n k) = whole 1
empty_value (compose a b) = empty_value b
empty_value (inverse a) = whole 1
empty_value (adjoint a) = whole 1
empty_value (substitute b a) = empty_value a
empty_value (modified a) = whole 0
empty_value (modifying a) = whole 0
empty_value (scale a c) = empty_value a

abbrev pub colours_of : Series → ℕ
colours_of (exact k) = k
colours_of (identity k) = k
colours_of (average k) = k
colours_of (method n k) = k
colours_of (compose a b) = colours_of a
colours_of (inverse a) = colours_of a
colours_of (adjoint a) = colours_of a
colours_of (substitute b a) = colours_of b
colours_of (modified a) = colours_of a
colours_of (modifying a) = colours_of a
colours_of (scale a c) = colours_of a

abbrev pub depth : Series → ℕ
depth (exact k) = 1
depth (identity k) = 1
depth (average k) = 1
depth (method n k) = 1
depth (compose a b) = suc (max (depth a) (depth b))
depth (inverse a) = suc (depth a)
depth (adjoint a) = suc (depth a)
depth (substitute b a) = suc (max (depth b) (depth a))
depth (modified a) = suc (depth a)
depth (modifying a) = suc (depth a)
depth (scale a c) = suc (depth a)

abbrev pub size : Series → ℕ
size (exact k) = 1
size (identity k) = 1
size (average k) = 1
size (method n k) = 1
size (compose a b) = suc (size a + size b)
size (inverse a) = suc (size a)
size (adjoint a) = suc (size a)
size (substitute b a) = suc (size b + size a)
size (modified a) = suc (size a)
size (modifying a) = suc (size a)
size (scale a c) = suc (size a)
