-- The replies that list the splittings and the partitions of a tree.
--
--   split_item item        == the line of a splitting: what is kept, and the trees that are cut off
--   part_item item         == the line of a partition: its skeleton, and its parts
--   split_reply code       == the reply with the splittings of the tree of this code: how many there are, then a line for each, in their order
--   partition_reply code   == the reply with its partitions, likewise
--
-- Source: Chartier, Hairer and Vilmart (2010), the composition law and the substitution law; the orders of the lists are this project's.
-- The code never makes these lists: it writes each line from a text that was made once for an item of the first child, and one for an
-- item of the tree without it.
use Rattle.std.specs.Prelude.{ℕ, List, ◌++◌, length, flat_map}
use Rattle.bs_split.specs.Splitting.{SplitCodes, split_codes}
use Rattle.bs_part.specs.Partition.{PartCodes, part_codes}
use Rattle.bs_reply.specs.Lines.{count_line, split_line, part_line}
use Rattle.bs_reply.specs.declared.line.Word.TheVariants.{Split, Partition}

abbrev pub split_item : SplitCodes → List ℕ
split_item item = split_line item.kept item.forest

abbrev pub part_item : PartCodes → List ℕ
part_item item = part_line item.skeleton item.parts

abbrev pub split_reply : List (ℕ × ℕ) → List ℕ
split_reply code = count_line Split (length (split_codes code)) ++ flat_map split_item (split_codes code)

abbrev pub partition_reply : List (ℕ × ℕ) → List ℕ
partition_reply code = count_line Partition (length (part_codes code)) ++ flat_map part_item (part_codes code)
