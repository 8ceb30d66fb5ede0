-- Written values: sums of products carried out in the order in which they are written, over any kind of number.
--
--   Arithmetic          == a kind of number with its operations; `of` is the number of a fraction
--   exactly             == fractions without bound
--   checked             == reduced fractions or Overflow: a result is Overflow where an operand is, or where the checked
--                          operation has none
--   product_all A fs    == the factors multiplied from the left, starting with 1: ((1 · f1) · f2) · ..
--   sum_onto A z xs     == ((z + x1) + x2) + ..
--   less_all A z xs     == ((z - x1) - x2) - ..
--   Term                == a product of factors that is added, or one that is subtracted
--   with_term A z t     == z with one more term
--   written_sum A ts    == the sum of the terms, starting with 0, in the order of the list
--   coef_of, strict f, opposite_coef == the parts of `checked`
--   IsZero c            == the value is there, and is 0
--
--   Keeps A B R         == the relation R of the numbers of A to those of B is kept by every operation
--   Agrees c v          == the checked number is Overflow, or reduced and the same fraction as v
--   RelatedLists R, RelatedTerms R == the same, place by place
--
-- Strict: with an Overflow among its factors, partial products or partial sums a written sum is Overflow, also where a factor
-- is 0. Source: this project.
-- The code stops at the first Overflow; it takes the factors of one term at a time.
use Rattle.std.specs.Prelude.{◌≡◌, pos, List, [], ◌∷◌, Option, Some, None, fold}
use Rattle.bs_frac.specs.Fraction.{Fraction, SameFraction, IsReduced, whole, sum_of, opposite_of, difference_of, product_of, quotient_of}
use Rattle.bs_frac.specs.Checked.{checked_sum, checked_difference, checked_product, checked_quotient}
use Rattle.bs_frac.specs.declared.coef.Coef.{Coef}
use Rattle.bs_frac.specs.declared.coef.Coef.TheVariants.{Value, Overflow}

pub record Arithmetic : Type 1 where
  pub Number : Type 0
  pub of : Fraction → Number
  pub opposite : Number → Number
  pub sum : Number → Number → Number
  pub difference : Number → Number → Number
  pub product : Number → Number → Number
  pub quotient : Number → Number → Number

-- ---- fractions without bound
abbrev pub exactly : Arithmetic
exactly = record {
  Number = Fraction;
  of = λ x. x;
  opposite = opposite_of;
  sum = sum_of;
  difference = difference_of;
  product = product_of;
  quotient = quotient_of;
}

-- ---- reduced fractions, or Overflow
abbrev pub coef_of : Option Fraction → Coef
coef_of (Some x) = Value x
coef_of None = Overflow

abbrev pub strict : (Fraction → Fraction → Option Fraction) → Coef → Coef → Coef
strict f (Value x) (Value y) = coef_of (f x y)
strict f (Value x) Overflow = Overflow
strict f Overflow y = Overflow

abbrev pub opposite_coef : Coef → Coef
opposite_coef (Value x) = Value (opposite_of x)
opposite_coef Overflow = Overflow

abbrev pub checked : Arithmetic
checked = record {
  Number = Coef;
  of = Value;
  opposite = opposite_coef;
  sum = strict checked_sum;
  difference = strict checked_difference;
  product = strict checked_product;
  quotient = strict checked_quotient;
}

abbrev pub IsZero : Coef → Type 0
IsZero (Value x) = x.top ≡ pos 0
IsZero Overflow = ⊥

-- ---- sums of products, in their order
pub data Term (N : Type 0) : Type 0 where
  add : List N → Term N
  subtract : List N → Term N

module _ (A : Arithmetic) where
  abbrev pub product_all : List A.Number → A.Number
  product_all factors = fold A.product (A.of (whole 1)) factors

  abbrev pub sum_onto : A.Number → List A.Number → A.Number
  sum_onto z terms = fold A.sum z terms

  abbrev pub less_all : A.Number → List A.Number → A.Number
  less_all z terms = fold A.difference z terms

  abbrev pub with_term : A.Number → Term A.Number → A.Number
  with_term z (add factors) = A.sum z (product_all factors)
  with_term z (subtract factors) = A.difference z (product_all factors)

  abbrev pub written_sum : List (Term A.Number) → A.Number
  written_sum terms = fold with_term (A.of (whole 0)) terms

-- ---- a relation between two kinds of number
pub record Keeps (A B : Arithmetic) (R : A.Number → B.Number → Type 0) : Type 0 where
  pub of : (x : Fraction) → IsReduced x → R (A.of x) (B.of x)
  pub opposite : (x : A.Number) (u : B.Number) → R x u → R (A.opposite x) (B.opposite u)
  pub sum : (x y : A.Number) (u v : B.Number) → R x u → R y v → R (A.sum x y) (B.sum u v)
  pub difference : (x y : A.Number) (u v : B.Number) → R x u → R y v → R (A.difference x y) (B.difference u v)
  pub product : (x y : A.Number) (u v : B.Number) → R x u → R y v → R (A.product x y) (B.product u v)
  pub quotient : (x y : A.Number) (u v : B.Number) → R x u → R y v → R (A.quotient x y) (B.quotient u v)

abbrev pub Agrees : Coef → Fraction → Type 0
Agrees (Value x) v = IsReduced x × SameFraction x v
Agrees Overflow v = Unit {0}

module _ {X Y : Type 0} (R : X → Y → Type 0) where
  abbrev pub RelatedLists : List X → List Y → Type 0
  RelatedLists [] [] = Unit {0}
  RelatedLists [] (y ∷ ys) = ⊥
  RelatedLists (x ∷ xs) [] = ⊥
  RelatedLists (x ∷ xs) (y ∷ ys) = R x y × RelatedLists xs ys

  abbrev pub RelatedTerms : Term X → Term Y → Type 0
  RelatedTerms (add xs) (add ys) = RelatedLists xs ys
  RelatedTerms (add xs) (subtract ys) = ⊥
  RelatedTerms (subtract xs) (add ys) = ⊥
  RelatedTerms (subtract xs) (subtract ys) = RelatedLists xs ys
