-- The kinds of series that the command `series` makes.
--
--   operation_of word == the operation of this word; None where it is none
--
-- Source: this project; the operations are those of Chartier, Hairer and Vilmart (2010) and of Butcher (2021).
use Rattle.std.specs.Prelude.{ℕ, List, Option, Some, None, if◌then◌else◌, codes}
use Rattle.std.specs.Str.{bytes_eq}
use Rattle.bs_command.specs.declared.operation.Operation.{Operation}
use Rattle.bs_command.specs.declared.operation.Operation.TheVariants.{Exact, Identity, Average, Method, Compose, Inverse, Adjoint, Substitute, Modified, Modifying, Scale}

abbrev pub operation_of : List ℕ → Option Operation
operation_of word =
    if bytes_eq word (codes "exact") then Some Exact
    else (if bytes_eq word (codes "identity") then Some Identity
    else (if bytes_eq word (codes "average") then Some Average
    else (if bytes_eq word (codes "method") then Some Method
    else (if bytes_eq word (codes "compose") then Some Compose
    else (if bytes_eq word (codes "inverse") then Some Inverse
    else (if bytes_eq word (codes "adjoint") then Some Adjoint
    else (if bytes_eq word (codes "substitute") then Some Substitute
    else (if bytes_eq word (codes "modified") then Some Modified
    else (if bytes_eq word (codes "modifying") then Some Modifying
    else (if bytes_eq word (codes "scale") then Some Scale
    else None))))))))))
