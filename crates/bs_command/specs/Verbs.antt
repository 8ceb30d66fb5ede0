-- The first words of commands.
--
--   verb_of word == the verb of this word; None where no command begins with it
--
-- Source: this project.
use Rattle.std.specs.Prelude.{ℕ, List, Option, Some, None, if◌then◌else◌, codes}
use Rattle.std.specs.Str.{bytes_eq}
use Rattle.bs_command.specs.declared.verb.Verb.{Verb}
use Rattle.bs_command.specs.declared.verb.Verb.TheVariants.{Tree, Drop, Same, Info, Weight, Trees, Conditions, Order, Split, Partition, Series, Coeff, Print, Equal}

abbrev pub verb_of : List ℕ → Option Verb
verb_of word =
    if bytes_eq word (codes "tree") then Some Tree
    else (if bytes_eq word (codes "drop") then Some Drop
    else (if bytes_eq word (codes "same") then Some Same
    else (if bytes_eq word (codes "info") then Some Info
    else (if bytes_eq word (codes "weight") then Some Weight
    else (if bytes_eq word (codes "trees") then Some Trees
    else (if bytes_eq word (codes "conditions") then Some Conditions
    else (if bytes_eq word (codes "order") then Some Order
    else (if bytes_eq word (codes "split") then Some Split
    else (if bytes_eq word (codes "partition") then Some Partition
    else (if bytes_eq word (codes "series") then Some Series
    else (if bytes_eq word (codes "coeff") then Some Coeff
    else (if bytes_eq word (codes "print") then Some Print
    else (if bytes_eq word (codes "equal") then Some Equal
    else None)))))))))))))
