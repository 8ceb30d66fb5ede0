-- What the words of the command `series` come to: the kind of series that is to be made under a free name.
--
--   answered ts space name kind == the answer of the command, once the name is free and the kind's operands are there
--   IsKind ts space name o kind == the name is free, the kind can be made over the book and the tableaux ts, and the outcome o is
--                                  that answer
--
-- Source: this project.
use Rattle.std.specs.Prelude.{◌≡◌, ℕ, false, List, length}
use Rattle.bs_tableau.specs.Table.{Table}
use Rattle.bs_series.specs.Expressions.{wanted, OperandsIn, TableIn, HasColours}
use Rattle.bs_series.specs.declared.kind.Kind.{Kind}
use Rattle.bs_names.specs.Known.{is_taken}
use Rattle.bs_command.specs.Acceptance.{made_of}
use Rattle.bs_command.specs.Commands.{Outcome, asked, named}
use Rattle.bs_names.specs.Space.{Space, known_of}

abbrev pub answered : List Table → Space → List ℕ → Kind → Outcome
answered tables space name kind = asked (made_of tables (wanted tables space.book kind)) (named (known_of space) name)

pub record IsKind (tables : List Table) (space : Space) (name : List ℕ) (outcome : Outcome) (kind : Kind) : Type 0 where
  pub free : is_taken (known_of space) name ≡ false
  pub operands : OperandsIn (length space.book) kind
  pub table : TableIn (length tables) kind
  pub colours : HasColours kind
  pub is : outcome ≡ answered tables space name kind
