use Rattle.std.proofs.Common.{◌≡◌, ℕ, Bool, true, false, cond, ◌&&◌, Some, None, refl}
use Rattle.std.specs.Prelude.{nat_le}
use Rattle.std.specs.Str.Parse.{digits_value}
use Rattle.bs_frac.specs.Text.{number_within}
use Rattle.bs_levels.specs.Words.{is_number, number_of, at_most}
use Rattle.bs_reply.proofs.laws.numbers_are_read_alike.Goals as goal

alike : (b : Bool) (limit v : ℕ) → at_most limit (cond b (Some v) None) ≡ cond (b && nat_le v limit) (Some v) None
alike true limit v = refl
alike false limit v = refl

pub returns : goal.returns
unfolding number_of number_within
returns c = λ limit word. alike (is_number word) limit (digits_value 10 word)
