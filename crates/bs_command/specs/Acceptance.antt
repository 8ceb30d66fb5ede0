-- Which series are accepted, and by which error the others are refused.
--
--   colours_fit s       == composed series have the same number of colours; an outer series and the series of a modifying integrator
--                          have one
--   empty_fits s        == the empty value is 1 of what is composed first, inverted, solved or whose adjoint is taken, and 0 of an
--                          inner series
--   is_solvable ts s    == the series of a modifying integrator is not written as 0 at the leaf
--   is_shallow s        == written out, the expression is not too deep and has not too many nodes
--   made_of ts s        == the series, where all four hold; else the error of the first that does not
--
-- Only the outermost operation is looked at: its operands were accepted before.
--
-- Source: Chartier, Hairer and Vilmart (2010), where composition and substitution are defined; the limits are this project's.
use Rattle.std.specs.Prelude.{◌≡◌, pos, Bool, true, false, not, ◌==◌, ◌&&◌, List, [], Result, Ok, Err, nat_le, if◌then◌else◌, refl}
use Rattle.bs_frac.specs.Fraction.{whole}
use Rattle.bs_frac.specs.declared.coef.Coef.{Coef}
use Rattle.bs_frac.specs.declared.coef.Coef.TheVariants.{Value, Overflow}
use Rattle.bs_part.specs.Partition.{leaf}
use Rattle.bs_tableau.specs.Table.{Table}
use Rattle.bs_reply.specs.Verdicts.{same_whole, same_pair}
use Rattle.bs_series.specs.Series.{Series, exact, identity, average, method, compose, inverse, adjoint, substitute, modified, modifying, scale, empty_value, colours_of, depth, size}
use Rattle.bs_series.specs.Value.{written}
use Rattle.bs_series.specs.declared.TheConstants.{MAX_DEPTH, MAX_SIZE}
use Rattle.bs_command.specs.declared.error.Error.{Error}
use Rattle.bs_command.specs.declared.error.Error.TheVariants.{Colours, EmptyValue, NotSolvable, TooDeep}

abbrev pub colours_fit : Series → Bool
colours_fit (exact k) = true
colours_fit (identity k) = true
colours_fit (average k) = true
colours_fit (method n k) = true
colours_fit (compose a b) = colours_of a == colours_of b
colours_fit (inverse a) = true
colours_fit (adjoint a) = true
colours_fit (substitute b a) = colours_of a == 1
colours_fit (modified a) = true
colours_fit (modifying a) = colours_of a == 1
colours_fit (scale a c) = true

abbrev pub empty_fits : Series → Bool
empty_fits (exact k) = true
empty_fits (identity k) = true
empty_fits (average k) = true
empty_fits (method n k) = true
empty_fits (compose a b) = same_pair (empty_value a) (whole 1)
empty_fits (inverse a) = same_pair (empty_value a) (whole 1)
empty_fits (adjoint a) = same_pair (empty_value a) (whole 1)
empty_fits (substitute b a) = same_pair (empty_value b) (whole 0)
empty_fits (modified a) = same_pair (empty_value a) (whole 1)
empty_fits (modifying a) = same_pair (empty_value a) (whole 1)
empty_fits (scale a c) = true

-- the value is there, and is 0
abbrev pub is_nought : Coef → Bool
is_nought (Value x) = same_whole x.top (pos 0)
is_nought Overflow = false

abbrev pub is_solvable : List Table → Series → Bool
is_solvable tables (exact k) = true
is_solvable tables (identity k) = true
is_solvable tables (average k) = true
is_solvable tables (method n k) = true
is_solvable tables (compose a b) = true
is_solvable tables (inverse a) = true
is_solvable tables (adjoint a) = true
is_solvable tables (substitute b a) = true
is_solvable tables (modified a) = true
is_solvable tables (modifying a) = not (is_nought (written tables a leaf))
is_solvable tables (scale a c) = true

abbrev pub is_shallow : Series → Bool
is_shallow s = nat_le (depth s) MAX_DEPTH && nat_le (size s) MAX_SIZE

abbrev pub made_of : List Table → Series → Result Series Error
made_of tables s =
    if not (colours_fit s) then Err Colours
    else (if not (empty_fits s) then Err EmptyValue
    else (if not (is_solvable tables s) then Err NotSolvable
    else (if not (is_shallow s) then Err TooDeep
    else Ok s)))

-- ---- examples
composed_flows : made_of [] (compose (exact 1) (exact 1)) ≡ Ok (compose (exact 1) (exact 1))
composed_flows = refl

colours_differ : made_of [] (compose (exact 1) (exact 2)) ≡ Err Colours
colours_differ = refl

no_inverse : made_of [] (inverse (modified (exact 1))) ≡ Err EmptyValue
no_inverse = refl

no_flow : made_of [] (modifying (identity 1)) ≡ Err NotSolvable
no_flow = refl
