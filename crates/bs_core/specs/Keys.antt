-- Keys: what a stripe compares in place of whole codes.
--
--   Key              == the colour of a root, and the names of its children in order
--   key_of c l       == the key of a code, where the names are those that a list has for its children
--   key_in e         == the key of an entry: the colour of its code's root, and its links
--
-- Source: this project's own.
use Rattle.std.specs.Prelude.{ℕ, List}
use Rattle.bs_tree.specs.Code.{root_colour}
use Rattle.bs_core.specs.Codes.{Code, children}
use Rattle.bs_core.specs.Machine.{taken}
use Rattle.bs_core.specs.declared.name.Name.{Name}
use Rattle.bs_core.specs.declared.table.Held.{Held}
use Rattle.bs_core.specs.declared.table.Entry.{Entry}

pub record Key : Type 0 where
  pub colour : ℕ
  pub children : List Name

abbrev pub key_of : Code → List Held → Key
key_of c l = record { colour = root_colour c; children = taken (children c) l }

abbrev pub key_in : Entry → Key
key_in e = record { colour = root_colour e.code; children = e.links }
