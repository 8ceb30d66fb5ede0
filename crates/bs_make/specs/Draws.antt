-- The numbers that a seed draws.
--
--   next x          == where the generator stands after one draw, where it stood at x
--   drawn n x       == the number below n that is drawn where the generator stands at x
--   after_draws n x == where it stands after n draws
--
-- The generator stands at the seed first. How far a draw moves it does not depend on what is asked of that draw.
--
-- Source: the linear congruential generator of Knuth's MMIX; that its upper 31 bits are drawn is this project's.
use Rattle.std.specs.Prelude.{◌≡◌, ℕ, zero, suc, ◌+◌, ◌*◌, ◌/◌, ◌%◌, ◌^◌, refl}

abbrev pub next : ℕ → ℕ
next x = (6364136223846793005 * x + 1442695040888963407) % 2 ^ 64

abbrev pub drawn : ℕ → ℕ → ℕ
drawn n x = next x / 2 ^ 33 % n

abbrev pub after_draws : ℕ → ℕ → ℕ
after_draws zero x = x
after_draws (suc n) x = after_draws n (next x)

first_of_seven : next 7 ≡ 9098160460397411210
first_of_seven = refl

quotient_of_seven : next 7 / 2 ^ 33 ≡ 1059165278
quotient_of_seven = refl

quotient_of_none : next 0 / 2 ^ 33 ≡ 167951807
quotient_of_none = refl
