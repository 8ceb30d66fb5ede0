-- Which series are made: the tests of the definition decide what the book accepts, and its faults are the errors of the definition.
use Rattle.std.proofs.Common.{◌≡◌, ℕ, ◌≤◌, ℤ, pos, negsuc, Bool, true, false, not, if◌then◌else◌, List, Ok, Err, Result, nat_le, refl, ap, ap₂, subst, arith}
use Rattle.std.specs.Bool.{Decides}
use Rattle.std.proofs.lemmas.Bool.{false_from_ne_true}
use Rattle.std.proofs.lemmas.Bool.Decides.{nat_tests, Decides-eqb, Decides-and, Decides-not}
use Rattle.bs_frac.specs.Fraction.{Fraction, whole}
use Rattle.bs_frac.specs.Written.{IsZero}
use Rattle.bs_frac.specs.declared.coef.Coef.{Coef}
use Rattle.bs_frac.specs.declared.coef.Coef.TheVariants.{Value, Overflow}
use Rattle.bs_part.specs.Partition.{leaf}
use Rattle.bs_tableau.specs.Table.{Table}
use Rattle.bs_reply.specs.Verdicts.{same_whole, same_pair}
use Rattle.bs_series.specs.Series.{Series, exact, identity, average, method, compose, inverse, adjoint, substitute, modified, modifying, scale, empty_value, colours_of, depth, size}
use Rattle.bs_series.specs.Value.{written}
use Rattle.bs_series.specs.Accepted.{ColoursFit, EmptyFits, IsSolvable, IsShallow, IsAccepted}
use Rattle.bs_series.specs.declared.TheConstants.{MAX_DEPTH, MAX_SIZE}
use Rattle.bs_command.specs.Acceptance.{colours_fit, empty_fits, is_nought, is_solvable, is_shallow, made_of}
use Rattle.bs_command.specs.declared.error.Error.{Error}
use Rattle.bs_command.specs.declared.error.Error.TheVariants.{Colours, EmptyValue, NotSolvable, TooDeep}

-- ---- fractions
whole_is : (s t : ℤ) → same_whole s t ≡ true → s ≡ t
whole_is (pos a) (pos b) h = let e : a ≡ b = grind (arith, nat_tests) in ap pos e
whole_is (pos a) (negsuc b) h = cc
whole_is (negsuc a) (pos b) h = cc
whole_is (negsuc a) (negsuc b) h = let e : a ≡ b = grind (arith, nat_tests) in ap negsuc e

whole_itself : (s : ℤ) → same_whole s s ≡ true
whole_itself (pos a) = grind (arith, nat_tests)
whole_itself (negsuc a) = grind (arith, nat_tests)

pub same_whole-Decides : (s t : ℤ) → Decides (same_whole s t) (s ≡ t)
same_whole-Decides s t = (whole_is s t, λ e. subst (λ z. same_whole s z ≡ true) e (whole_itself s))

abbrev made : ℤ → ℕ → Fraction
made top bottom = record { top = top; bottom = bottom }

pair_of : (x y : Fraction) → (x.top ≡ y.top) × (x.bottom ≡ y.bottom) → x ≡ y
pair_of x y e = ap₂ made e.0 e.1

pub same_pair-Decides : (x y : Fraction) → Decides (same_pair x y) (x ≡ y)
same_pair-Decides x y =
    let d = Decides-and _ _ (same_whole-Decides x.top y.top) (Decides-eqb x.bottom y.bottom) in
    (λ h. pair_of x y (d.0 h), λ e. d.1 (ap (λ z. z.top) e, ap (λ z. z.bottom) e))

-- ---- the four tests
le-Decides : (m n : ℕ) → Decides (nat_le m n) (m ≤ n)
le-Decides m n = (λ h. grind (arith, nat_tests), λ h. grind (arith, nat_tests))

always : Decides true (Unit {0})
always = (λ _. tt, λ _. refl)

pub colours_fit-Decides : (s : Series) → Decides (colours_fit s) (ColoursFit s)
colours_fit-Decides (exact k) = always
colours_fit-Decides (identity k) = always
colours_fit-Decides (average k) = always
colours_fit-Decides (method n k) = always
colours_fit-Decides (compose a b) = Decides-eqb (colours_of a) (colours_of b)
colours_fit-Decides (inverse a) = always
colours_fit-Decides (adjoint a) = always
colours_fit-Decides (substitute b a) = Decides-eqb (colours_of a) 1
colours_fit-Decides (modified a) = always
colours_fit-Decides (modifying a) = Decides-eqb (colours_of a) 1
colours_fit-Decides (scale a c) = always

pub empty_fits-Decides : (s : Series) → Decides (empty_fits s) (EmptyFits s)
empty_fits-Decides (exact k) = always
empty_fits-Decides (identity k) = always
empty_fits-Decides (average k) = always
empty_fits-Decides (method n k) = always
empty_fits-Decides (compose a b) = same_pair-Decides (empty_value a) (whole 1)
empty_fits-Decides (inverse a) = same_pair-Decides (empty_value a) (whole 1)
empty_fits-Decides (adjoint a) = same_pair-Decides (empty_value a) (whole 1)
empty_fits-Decides (substitute b a) = same_pair-Decides (empty_value b) (whole 0)
empty_fits-Decides (modified a) = same_pair-Decides (empty_value a) (whole 1)
empty_fits-Decides (modifying a) = same_pair-Decides (empty_value a) (whole 1)
empty_fits-Decides (scale a c) = always

nought-Decides : (c : Coef) → Decides (is_nought c) (IsZero c)
nought-Decides (Value x) = same_whole-Decides x.top (pos 0)
nought-Decides Overflow = (λ e. cc, λ none. absurd none)

pub is_solvable-Decides : (tables : List Table) (s : Series) → Decides (is_solvable tables s) (IsSolvable tables s)
is_solvable-Decides tables (exact k) = always
is_solvable-Decides tables (identity k) = always
is_solvable-Decides tables (average k) = always
is_solvable-Decides tables (method n k) = always
is_solvable-Decides tables (compose a b) = always
is_solvable-Decides tables (inverse a) = always
is_solvable-Decides tables (adjoint a) = always
is_solvable-Decides tables (substitute b a) = always
is_solvable-Decides tables (modified a) = always
is_solvable-Decides tables (modifying a) = Decides-not _ (nought-Decides (written tables a leaf))
is_solvable-Decides tables (scale a c) = always

pub is_shallow-Decides : (s : Series) → Decides (is_shallow s) (IsShallow s)
is_shallow-Decides s = Decides-and _ _ (le-Decides (depth s) MAX_DEPTH) (le-Decides (size s) MAX_SIZE)

no : {P : Type 0} (b : Bool) → Decides b P → ¬ P → b ≡ false
no b d not_so = false_from_ne_true b (λ e. not_so (d.0 e))

-- ---- the first test that fails
abbrev sieved : Series → Bool → Bool → Bool → Bool → Result Series Error
sieved s a b c d =
    if not a then Err Colours else (if not b then Err EmptyValue else (if not c then Err NotSolvable else (if not d then Err TooDeep else Ok s)))

first_fails : (s : Series) (a b c d : Bool) → a ≡ false → sieved s a b c d ≡ Err Colours
first_fails s true b c d e = cc
first_fails s false b c d e = refl

second_fails : (s : Series) (a b c d : Bool) → a ≡ true → b ≡ false → sieved s a b c d ≡ Err EmptyValue
second_fails s a b c d e f = rw (e, f) refl

third_fails : (s : Series) (a b c d : Bool) → a ≡ true → b ≡ true → c ≡ false → sieved s a b c d ≡ Err NotSolvable
third_fails s a b c d e f g = rw (e, f, g) refl

fourth_fails : (s : Series) (a b c d : Bool) → a ≡ true → b ≡ true → c ≡ true → d ≡ false → sieved s a b c d ≡ Err TooDeep
fourth_fails s a b c d e f g h = rw (e, f, g, h) refl

none_fails : (s : Series) (a b c d : Bool) → a ≡ true → b ≡ true → c ≡ true → d ≡ true → sieved s a b c d ≡ Ok s
none_fails s a b c d e f g h = rw (e, f, g, h) refl

module _ (tables : List Table) (s : Series) where
  abbrev colours : Decides (colours_fit s) (ColoursFit s)
  colours = colours_fit-Decides s

  abbrev empty : Decides (empty_fits s) (EmptyFits s)
  empty = empty_fits-Decides s

  abbrev solvable : Decides (is_solvable tables s) (IsSolvable tables s)
  solvable = is_solvable-Decides tables s

  abbrev shallow : Decides (is_shallow s) (IsShallow s)
  shallow = is_shallow-Decides s

  pub made-accepted : IsAccepted tables s → made_of tables s ≡ Ok s
  made-accepted h = none_fails s _ _ _ _ (colours.1 h.colours) (empty.1 h.empty) (solvable.1 h.solvable) (shallow.1 h.shallow)
