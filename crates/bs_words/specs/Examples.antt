-- What the definitions say of some command lines, by computation.
--
-- Source: this project's own; the words are those that a user may well try.
use Rattle.std.specs.Prelude.{◌≡◌, [], ◌∷◌, None, Some, true, codes, refl}
use Rattle.clap.proofs.OnLiterals.{clap_on_literals}
use Rattle.clap.specs.declared.error.ErrorKind.TheVariants.{UnknownArgument, ValueValidation, ArgumentConflict, DisplayHelp, InvalidValue}
use Rattle.bs_words.specs.Words.{accepts, faults, memo_of, number_of, seed_of, workers_of}

-- no word is a program's name
stray : faults (codes "x" ∷ []) ≡ UnknownArgument ∷ []
unfolding faults clap_on_literals
stray = refl

none : accepts [] ≡ true
unfolding accepts clap_on_literals
none = refl

no_workers : workers_of [] ≡ None
unfolding number_of clap_on_literals
no_workers = refl

default_memo : memo_of [] ≡ 65536
unfolding number_of clap_on_literals
default_memo = refl

four : workers_of (codes "--workers" ∷ codes "4" ∷ []) ≡ Some 4
unfolding number_of clap_on_literals
four = refl

four_taken : accepts (codes "--workers" ∷ codes "4" ∷ []) ≡ true
unfolding accepts clap_on_literals
four_taken = refl

too_many : faults (codes "--workers" ∷ codes "65" ∷ []) ≡ ValueValidation ∷ []
unfolding faults clap_on_literals
too_many = refl

twice : faults (codes "--memo" ∷ codes "1" ∷ codes "--memo=2" ∷ []) ≡ ArgumentConflict ∷ []
unfolding faults clap_on_literals
twice = refl

help : faults (codes "-h" ∷ []) ≡ DisplayHelp ∷ []
unfolding faults clap_on_literals
help = refl

-- what the number readers let through
plus : workers_of (codes "--workers=+4" ∷ []) ≡ Some 4
unfolding number_of clap_on_literals
plus = refl

zeros : accepts (codes "--workers" ∷ codes "007" ∷ []) ≡ true
unfolding accepts clap_on_literals
zeros = refl

lone_dashes : accepts (codes "--workers" ∷ codes "4" ∷ codes "--" ∷ []) ≡ true
unfolding accepts clap_on_literals
lone_dashes = refl

after_dashes : faults (codes "--" ∷ codes "x" ∷ []) ≡ UnknownArgument ∷ []
unfolding faults clap_on_literals
after_dashes = refl

no_value : faults (codes "--workers" ∷ []) ≡ InvalidValue ∷ []
unfolding faults clap_on_literals
no_value = refl

shortened : faults (codes "--work" ∷ codes "4" ∷ []) ≡ UnknownArgument ∷ []
unfolding faults clap_on_literals
shortened = refl

version : faults (codes "--version" ∷ []) ≡ UnknownArgument ∷ []
unfolding faults clap_on_literals
version = refl

no_seed : seed_of [] ≡ None
unfolding number_of clap_on_literals
no_seed = refl

-- the largest seed, and what is no seed
largest_seed_taken : accepts (codes "--make" ∷ codes "18446744073709551615" ∷ []) ≡ true
unfolding accepts clap_on_literals
largest_seed_taken = refl

largest_seed : seed_of (codes "--make" ∷ codes "18446744073709551615" ∷ []) ≡ Some 18446744073709551615
unfolding number_of clap_on_literals
largest_seed = refl

past_largest_seed : faults (codes "--make=18446744073709551616" ∷ []) ≡ ValueValidation ∷ []
unfolding faults clap_on_literals
past_largest_seed = refl

negative_seed : faults (codes "--make" ∷ codes "-1" ∷ []) ≡ UnknownArgument ∷ []
unfolding faults clap_on_literals
negative_seed = refl

-- a memo of no entry, and one past the largest
both_given : memo_of (codes "--workers" ∷ codes "64" ∷ codes "--memo" ∷ codes "0" ∷ []) ≡ 0
unfolding number_of clap_on_literals
both_given = refl

largest_memo : memo_of (codes "--memo=1048576" ∷ []) ≡ 1048576
unfolding number_of clap_on_literals
largest_memo = refl

past_largest : faults (codes "--memo" ∷ codes "1048577" ∷ []) ≡ ValueValidation ∷ []
unfolding faults clap_on_literals
past_largest = refl

no_worker : faults (codes "--workers" ∷ codes "0" ∷ []) ≡ ValueValidation ∷ []
unfolding faults clap_on_literals
no_worker = refl

-- a value that begins with a minus sign is none, or is refused
negative : faults (codes "--memo" ∷ codes "-1" ∷ []) ≡ UnknownArgument ∷ []
unfolding faults clap_on_literals
negative = refl

attached_negative : faults (codes "--memo=-0" ∷ []) ≡ ValueValidation ∷ []
unfolding faults clap_on_literals
attached_negative = refl
