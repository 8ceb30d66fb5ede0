-- Laws of equality, of written sums and of the text of fractions.
--
--   SameIsReflexive, SameIsSymmetric, SameIsTransitive == equality of fractions is an equivalence
--   KeepsSame f         == f gives equal fractions for equal ones; of two arguments: BothKeepSame f
--   WrittenSumLaw       == where the factors agree with fractions without bound, so does the written sum: it is Overflow, or
--                          reduced and the same fraction as the unbounded sum of products
--   SumOfProductsLaw    == the same for reduced factors: a written sum that is not Overflow is the sum of products
--   checked_term t      == the same term over the checked numbers
--   AllReduced xs, AllTermsReduced ts == each fraction of the list, each factor of the terms is reduced
--   NumberLaw           == a NUMBER is the decimal text of a number, and is read as that number where it is within the limit
--   IsFractionWord w x  == the word w is an optional `-`, a numerator and perhaps `/` and a denominator; x is the pair that it writes
--   LiteralLaw          == such words are read, as that pair, and no others are
--   ReducedLaw          == the reduced pair of a fraction is reduced, and the same fraction
--   ReadBackLaw         == a fraction written and read again is itself
--
-- Source: this project.
use Rattle.std.specs.Prelude.{◌≡◌, ◌↔◌, ℕ, ◌<◌, ◌≤◌, ◌^◌, Bool, true, false, List, [], ◌∷◌, ◌++◌, map, codes, decimal, Option, Some, None, unwrap_or}
use Rattle.bs_frac.specs.Fraction.{Fraction, SameFraction, IsReduced}
use Rattle.bs_frac.specs.Checked.{largest, IsWithin}
use Rattle.bs_frac.specs.Text.{fraction_text, number_within, signed_pair, literal_of, reduced_of, fraction_of}
use Rattle.bs_frac.specs.Written.{checked, exactly, Term, add, subtract, written_sum, Agrees, RelatedLists, RelatedTerms}
use Rattle.bs_frac.specs.declared.coef.Coef.{Coef}
use Rattle.bs_frac.specs.declared.coef.Coef.TheVariants.{Value}

-- ---- equality
abbrev pub SameIsReflexive : Type 0
SameIsReflexive = (x : Fraction) → 0 < x.bottom → SameFraction x x

abbrev pub SameIsSymmetric : Type 0
SameIsSymmetric = (x y : Fraction) → SameFraction x y → SameFraction y x

abbrev pub SameIsTransitive : Type 0
SameIsTransitive = (x y z : Fraction) → SameFraction x y → SameFraction y z → SameFraction x z

abbrev pub KeepsSame : (Fraction → Fraction) → Type 0
KeepsSame f = (x y : Fraction) → SameFraction x y → SameFraction (f x) (f y)

abbrev pub BothKeepSame : (Fraction → Fraction → Fraction) → Type 0
BothKeepSame f = (x x' y y' : Fraction) → SameFraction x x' → SameFraction y y' → SameFraction (f x y) (f x' y')

-- ---- written sums
abbrev pub WrittenSumLaw : Type 0
WrittenSumLaw = (terms : List (Term Coef)) (exact : List (Term Fraction)) → RelatedLists (RelatedTerms Agrees) terms exact → Agrees (written_sum checked terms) (written_sum exactly exact)

abbrev pub AllReduced : List Fraction → Type 0
AllReduced [] = Unit {0}
AllReduced (x ∷ xs) = IsReduced x × AllReduced xs

abbrev pub factors_of : Term Fraction → List Fraction
factors_of (add factors) = factors
factors_of (subtract factors) = factors

abbrev pub AllTermsReduced : List (Term Fraction) → Type 0
AllTermsReduced [] = Unit {0}
AllTermsReduced (t ∷ ts) = AllReduced (factors_of t) × AllTermsReduced ts

-- the same term over the checked numbers
abbrev pub checked_term : Term Fraction → Term Coef
checked_term (add factors) = add (map Value factors)
checked_term (subtract factors) = subtract (map Value factors)

abbrev pub SumOfProductsLaw : Type 0
SumOfProductsLaw = (terms : List (Term Fraction)) (x : Fraction) → AllTermsReduced terms → written_sum checked (map checked_term terms) ≡ Value x → IsReduced x × SameFraction x (written_sum exactly terms)

-- ---- text
abbrev pub NumberLaw : Type 0
NumberLaw = (limit n : ℕ) (w : List ℕ) → limit < 10 ^ 64 → (number_within limit w ≡ Some n) ↔ ((w ≡ decimal n) × (n ≤ limit))

abbrev pub minus_text : Bool → List ℕ
minus_text true = codes "-"
minus_text false = []

abbrev pub slash_text : Option ℕ → List ℕ
slash_text None = []
slash_text (Some d) = codes "/" ++ decimal d

pub record IsFractionWord (w : List ℕ) (x : Fraction) : Type 0 where
  pub negative : Bool
  pub numerator : ℕ
  pub denominator : Option ℕ
  pub word : w ≡ minus_text negative ++ (decimal numerator ++ slash_text denominator)
  pub value : x ≡ signed_pair negative (numerator, unwrap_or denominator 1)
  pub numerator_fits : numerator ≤ largest
  pub denominator_fits : unwrap_or denominator 1 ≤ largest
  pub denominator_positive : 0 < unwrap_or denominator 1

abbrev pub LiteralLaw : Type 0
LiteralLaw = (w : List ℕ) (x : Fraction) → (literal_of w ≡ Some x) ↔ IsFractionWord w x

abbrev pub ReducedLaw : Type 0
ReducedLaw = (x : Fraction) → 0 < x.bottom → IsReduced (reduced_of x) × SameFraction (reduced_of x) x

abbrev pub ReadBackLaw : Type 0
ReadBackLaw = (x : Fraction) → IsReduced x → IsWithin x → fraction_of (fraction_text x) ≡ Some x
