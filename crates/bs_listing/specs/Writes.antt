-- Lines that are put behind a text, each made of an item of the first child of a tree and of one of the tree without it. Private
-- functions speak of them.
--
--   lines_under way row k rs == the lines of the rows that are made of a row k and of each of rs
--   all_lines way row ks rs  == those of each of ks
--   WritesUnder ..           == behind a text stand the lines under a splitting k of which `middle` is the text of the trees that are cut off
--   WritesCutOff ..          == those of the splittings that cut the first child off
--   WritesKept ..            == those of all splittings that keep its root
--   WritesSplits ..          == those of all splittings that keep the root of the tree
--   WritesJoined ..          == those of the partitions that keep the edge above the first child, under one of its partitions
--   WritesSevered ..         == those of the partitions that cut it, under one of its partitions
--   WritesAllJoined ..       == those of all partitions that keep that edge
--   WritesAllSevered ..      == those of all partitions that cut it
--
-- The numbers are those of codes cs, the texts of the tree without the first child have the end of the line.
--
-- Source: this project.
use Rattle.std.specs.Prelude.{◌≡◌, ℕ, List, [], ◌∷◌, ◌++◌}
use Rattle.std.specs.List.{flat_map}
use Rattle.bs_reply.specs.Lines.{trees_text}
use Rattle.bs_catalog.specs.Shelf.{Code, Numbers}
use Rattle.bs_catalog.specs.Making.{made}
use Rattle.bs_catalog.specs.declared.way.Way.{Way}
use Rattle.bs_catalog.specs.declared.way.Way.TheVariants.{CutOff, Keep, Join, Sever}
use Rattle.bs_listing.specs.Texts.{item_line}
use Rattle.bs_listing.specs.Sides.{Kept, kept_row, Parted, parted_row, AreSplits, AreParts, line_end}
use Rattle.bs_listing.specs.declared.sides.Crown.{Crown}

abbrev pub lines_under : {X : Type 0} → Way → (X → List Code) → List Code → List X → List ℕ
lines_under way row k rs = flat_map (λ r. item_line (made way k (row r))) rs

abbrev pub all_lines : {X : Type 0} → Way → (X → List Code) → List X → List X → List ℕ
all_lines way row ks rs = flat_map (λ k. lines_under way row (row k) rs) ks

-- ---- splittings
abbrev pub WritesCutOff : List Code → List ℕ → List ℕ → List (List ℕ) → List ℕ → List ℕ → Type 0
WritesCutOff cs middle heads ends out out' =
    (x : Code) (rs : List Kept) → middle ≡ trees_text (x ∷ []) → AreSplits line_end cs heads ends rs → out' ≡ out ++ lines_under CutOff kept_row (x ∷ []) rs

abbrev pub WritesUnder : List Code → ℕ → List ℕ → List ℕ → List (List ℕ) → List ℕ → List ℕ → Type 0
WritesUnder cs below middle heads ends out out' =
    (k : Kept) (rs : List Kept) → Numbers cs below k.head → middle ≡ trees_text k.cut → AreSplits line_end cs heads ends rs
    → out' ≡ out ++ lines_under Keep kept_row (kept_row k) rs

abbrev pub WritesKept : List Code → List ℕ → List (List ℕ) → List ℕ → List (List ℕ) → List ℕ → List ℕ → Type 0
WritesKept cs kids middles heads ends out out' =
    (ks rs : List Kept) → AreSplits [] cs kids middles ks → AreSplits line_end cs heads ends rs → out' ≡ out ++ all_lines Keep kept_row ks rs

abbrev pub WritesSplits : List Code → ℕ → List ℕ → List (List ℕ) → List ℕ → List (List ℕ) → List ℕ → List ℕ → Type 0
WritesSplits cs child kids middles heads ends out out' =
    (x : Code) (ks rs : List Kept) → Numbers cs child x → AreSplits [] cs kids middles ks → AreSplits line_end cs heads ends rs
    → out' ≡ out ++ (lines_under CutOff kept_row (x ∷ []) rs ++ all_lines Keep kept_row ks rs)

-- ---- partitions
abbrev pub WritesJoined : List Code → Crown → List ℕ → List Crown → List (List ℕ) → List ℕ → List ℕ → Type 0
WritesJoined cs below middle crowns ends out out' =
    (k : Parted) (rs : List Parted) → Numbers cs below.skeleton k.skeleton → Numbers cs below.root k.root → middle ≡ trees_text k.others
    → AreParts line_end cs crowns ends rs → out' ≡ out ++ lines_under Join parted_row (parted_row k) rs

abbrev pub WritesSevered : List Code → ℕ → List ℕ → List Crown → List (List ℕ) → List ℕ → List ℕ → Type 0
WritesSevered cs hung middle crowns ends out out' =
    (k : Parted) (rs : List Parted) → Numbers cs hung k.skeleton → middle ≡ trees_text (k.root ∷ k.others)
    → AreParts line_end cs crowns ends rs → out' ≡ out ++ lines_under Sever parted_row (parted_row k) rs

abbrev pub WritesAllJoined : List Code → List Crown → List (List ℕ) → List Crown → List (List ℕ) → List ℕ → List ℕ → Type 0
WritesAllJoined cs kids middles crowns ends out out' =
    (ks rs : List Parted) → AreParts [] cs kids middles ks → AreParts line_end cs crowns ends rs → out' ≡ out ++ all_lines Join parted_row ks rs

abbrev pub WritesAllSevered : List Code → List Crown → List (List ℕ) → List Crown → List (List ℕ) → List ℕ → List ℕ → Type 0
WritesAllSevered cs kids middles crowns ends out out' =
    (ks rs : List Parted) → AreParts [] cs kids middles ks → AreParts line_end cs crowns ends rs → out' ≡ out ++ all_lines Sever parted_row ks rs
