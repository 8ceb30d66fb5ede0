-- Words of numbers: one number, or several with single commas between them.
--
--   number_of w            == the number that w writes: `0`, or a digit 1 to 9 and any digits
--   number_within limit w  == the same where it is at most limit
--   pieces w               == the parts of w between its commas: one where it has no comma
--   numbers limit ps       == the numbers of all of these parts, each at most limit
--   levels_of w            == the levels that w writes: numbers 0 to 255
--   colours_of w           == the colours that w writes: numbers 0 to 3
--
-- Each of them is None where the word isn't of that form; a word of no bytes is one part, which is no number.
--
-- Source: this project's format of trees.
-- The code reads one part after another and keeps no list of them.
use Rattle.std.specs.Prelude.{◌≡◌, ℕ, Bool, cond, ◌==◌, ◌&&◌, ◌||◌, not, List, [], ◌∷◌, Option, Some, None, nat_le, nat_lt, length, slice_index, codes, refl}
use Rattle.std.specs.List.{slice_split}
use Rattle.std.specs.Str.{all_ascii_digits}
use Rattle.std.specs.Str.Parse.{digits_value}

abbrev pub comma : ℕ
comma = 44

abbrev pub zero_digit : ℕ
zero_digit = 48

-- some byte, and no zero in front of others
abbrev pub has_number_start : List ℕ → Bool
has_number_start w = nat_lt 0 (length w) && (not (slice_index w 0 == zero_digit) || nat_le (length w) 1)

abbrev pub is_number : List ℕ → Bool
is_number w = has_number_start w && all_ascii_digits w

unfoldable pub number_of : List ℕ → Option ℕ
number_of w = cond (is_number w) (Some (digits_value 10 w)) None

abbrev pub at_most : ℕ → Option ℕ → Option ℕ
at_most limit None = None
at_most limit (Some n) = cond (nat_le n limit) (Some n) None

abbrev pub number_within : ℕ → List ℕ → Option ℕ
number_within limit w = at_most limit (number_of w)

abbrev pub pieces : List ℕ → List (List ℕ)
pieces w = slice_split (λ b. b == comma) w

-- a number before the others, where all of them are there
abbrev pub before : Option ℕ → Option (List ℕ) → Option (List ℕ)
before None ns = None
before (Some n) None = None
before (Some n) (Some ns) = Some (n ∷ ns)

abbrev pub numbers : ℕ → List (List ℕ) → Option (List ℕ)
numbers limit [] = Some []
numbers limit (p ∷ ps) = before (number_within limit p) (numbers limit ps)

abbrev pub largest_level : ℕ
largest_level = 255

abbrev pub largest_colour : ℕ
largest_colour = 3

abbrev pub levels_of : List ℕ → Option (List ℕ)
levels_of w = numbers largest_level (pieces w)

abbrev pub colours_of : List ℕ → Option (List ℕ)
colours_of w = numbers largest_colour (pieces w)

three_levels : levels_of (codes "5,6,255") ≡ Some (5 ∷ 6 ∷ 255 ∷ [])
unfolding number_of
three_levels = refl

no_part : levels_of (codes "1,,2") ≡ None
unfolding number_of
no_part = refl

leading_zero : levels_of (codes "1,02") ≡ None
unfolding number_of
leading_zero = refl

nothing : levels_of [] ≡ None
unfolding number_of
nothing = refl
