-- What a closed store has.
--
--   codes_in es          == the codes of the entries of a table; all_codes_in ts: of all tables
--   count_code c cs      == how often a code stands in a list
--   different cs         == how many different codes a list has
--   subtrees n c         == the code and those of its subtrees, to the depth n
--   held_codes l         == the codes of a list of pairs; lists_codes ls: of all lists
--   wanted ls            == the codes of the pairs of all lists, and those of all their subtrees
--   pass_lists ps        == the lists of the passes; all_gains ps: their gains, added up
--   all_entries ts       == how many entries the tables of a view have
--   numbers_of ps        == the numbers of the passes
--   AllNumbers m ps      == each number below m is that of one pass
--   NewPassesAreAll      == the passes of a new store are of it, and have all numbers
--   NumbersDecide        == whether passes have all numbers is a matter of their numbers alone
--
-- Source: this project's own.
-- Names and codes decide each other, so different codes are counted for different names.
use Rattle.std.specs.Prelude.{◌≡◌, ℕ, zero, suc, ◌+◌, ◌<◌, ◌==◌, List, [], ◌∷◌, ◌++◌, length, if◌then◌else◌, All}
use Rattle.atomic_table.specs.Seated.{TableId}
use Rattle.bs_tree.specs.declared.TheConstants.{MAX_NODES}
use Rattle.bs_core.specs.Codes.{Code, children, same}
use Rattle.bs_core.specs.declared.table.Held.{Held}
use Rattle.bs_core.specs.declared.table.Entry.{Entry}
use Rattle.bs_core.specs.declared.table.Table.{Table}
use Rattle.bs_store.specs.declared.view.Numbered.{Numbered}
use Rattle.bs_store.specs.declared.view.Hand.{Hand}
use Rattle.bs_store.specs.Seats.{OfPass, hand, NewPasses}

abbrev pub codes_in : List Entry → List Code
codes_in [] = []
codes_in (e ∷ es) = e.code ∷ codes_in es

abbrev pub all_codes_in : List Table → List Code
all_codes_in [] = []
all_codes_in (t ∷ ts) = codes_in t.entries ++ all_codes_in ts

abbrev pub count_code : Code → List Code → ℕ
count_code c [] = 0
count_code c (d ∷ ds) = (if same c d then 1 else 0) + count_code c ds

abbrev pub different : List Code → ℕ
different [] = 0
different (c ∷ cs) = (if count_code c cs == 0 then 1 else 0) + different cs

-- ---- subtrees
abbrev pub every_child : (Code → List Code) → List Code → List Code
every_child f [] = []
every_child f (c ∷ cs) = f c ++ every_child f cs

abbrev pub subtrees : ℕ → Code → List Code
subtrees zero c = []
subtrees (suc n) c = c ∷ every_child (subtrees n) (children c)

abbrev pub held_codes : List Held → List Code
held_codes [] = []
held_codes (p ∷ ps) = p.code ∷ held_codes ps

abbrev pub lists_codes : List (List Held) → List Code
lists_codes [] = []
lists_codes (l ∷ ls) = held_codes l ++ lists_codes ls

abbrev pub wanted : List (List Held) → List Code
wanted ls = every_child (subtrees (suc MAX_NODES)) (lists_codes ls)

-- ---- the passes that are handed back
abbrev pub pass_lists : List OfPass → List (List Held)
pass_lists [] = []
pass_lists (p ∷ ps) = p.held ∷ pass_lists ps

abbrev pub all_gains : List OfPass → ℕ
all_gains [] = 0
all_gains (p ∷ ps) = p.gains + all_gains ps

abbrev pub numbered : ℕ → List OfPass → ℕ
numbered k [] = 0
numbered k (p ∷ ps) = (if k == p.number then 1 else 0) + numbered k ps

abbrev pub AllNumbers : ℕ → List OfPass → Type 0
AllNumbers m ps = (k : ℕ) → k < m → numbered k ps ≡ 1

abbrev pub numbers_of : List OfPass → List ℕ
numbers_of [] = []
numbers_of (p ∷ ps) = p.number ∷ numbers_of ps

abbrev pub pass_hand : OfPass → Hand
pass_hand p = hand p.number p.held p.gains

abbrev pub IsOf : TableId → OfPass → Type 0
IsOf t p = p.store ≡ t

abbrev pub NewPassesAreAll : Type 0
NewPassesAreAll = (t : TableId) (ps : List OfPass) → NewPasses t ps → All (IsOf t) ps × AllNumbers (length ps) ps

abbrev pub NumbersDecide : Type 0
NumbersDecide = (m : ℕ) (ps qs : List OfPass) → numbers_of qs ≡ numbers_of ps → AllNumbers m ps → AllNumbers m qs

-- ---- the tables
abbrev pub all_entries : List Numbered → ℕ
all_entries [] = 0
all_entries (t ∷ ts) = length t.table.entries + all_entries ts
