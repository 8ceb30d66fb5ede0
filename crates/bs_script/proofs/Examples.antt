-- Inputs and what they say, computed.
use Rattle.std.specs.Prelude.{◌≡◌, [], ◌∷◌, Ok, Err, codes, refl}
use Rattle.bs_frac.specs.Fraction.{whole}
use Rattle.bs_frac.specs.Gcd.{gcd}
use Rattle.bs_frac.specs.Text.{number_within, fraction_of}
use Rattle.bs_script.specs.Grammar.{script, placed, moved}
use Rattle.bs_script.specs.declared.reason.Reason.TheVariants.{Byte, Word, Format, Count, Fraction, Missing, End}

two_sessions : script (codes "# one\n\nformat 1\nsession\r\ntree t 1,2\nend\nsession\n  end \n")
    ≡ Ok (record {
      table_names = [];
      tables = [];
      sessions = record { above = 0; commands = codes "tree t 1,2" ∷ [] } ∷ record { above = 0; commands = [] } ∷ [];
    })
unfolding moved placed
two_sessions = refl

a_tableau_between : script (codes "session\nend\ntableau e 1\na 0\nb 1\nend\nsession\nend")
    ≡ Ok (record {
      table_names = codes "e" ∷ [];
      tables = record { stages = 1; colours = 1; rows = (whole 0 ∷ []) ∷ (whole 1 ∷ []) ∷ [] } ∷ [];
      sessions = record { above = 0; commands = [] } ∷ record { above = 1; commands = [] } ∷ [];
    })
unfolding moved placed number_within fraction_of gcd
a_tableau_between = refl

cut : script (codes "session\ntree t 1,2\n\n# the end") ≡ Err (4, End)
unfolding moved placed
cut = refl

late_format : script (codes "session\nend\nformat 1") ≡ Err (3, Word)
unfolding moved placed
late_format = refl

other_format : script (codes "\n  format 2") ≡ Err (2, Format)
unfolding moved placed
other_format = refl

no_tableau_of_17_stages : script (codes "tableau t 17") ≡ Err (1, Count)
unfolding moved placed number_within
no_tableau_of_17_stages = refl

weights_too_soon : script (codes "tableau t 1\nb 1") ≡ Err (2, Missing)
unfolding moved placed number_within
weights_too_soon = refl

row_too_long : script (codes "tableau t 1\na x 1") ≡ Err (2, Count)
unfolding moved placed number_within
row_too_long = refl

no_fraction : script (codes "tableau t 1\na 1/0") ≡ Err (2, Fraction)
unfolding moved placed number_within fraction_of gcd
no_fraction = refl

a_second_return : script (codes "session\r\r\n") ≡ Err (1, Byte)
unfolding moved placed
a_second_return = refl
