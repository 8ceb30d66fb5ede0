-- The order conditions of a method, and the order that they tell.
--
--   target_of code            == 1/gamma: the elementary weight that the order condition of a tree wants
--   weight_at t code          == the elementary weight of the tree of this code, as it is written
--   verdict_at t code         == Holds where the weight is the target, Fails where it is another fraction, Unknown where it is an overflow
--   together vs               == Fails where one fails; else Unknown where one is unknown; else Holds
--   verdict_of_order t n      == the verdicts on all trees of n nodes together, over the colours of the method
--   order_of t p              == the order of the method as far as p: how many orders from 1 hold before the first that does not
--   is_open t p               == what stands against a higher order, up to p, is an overflow and no wrong weight
--   listed_reply n codes      == a list of trees: their number, then a line for each
--   trees_reply n k           == the reply with the trees of n nodes and k colours
--   conditions_reply t p      == the reply with the conditions of the trees to order p
--   order_reply t p           == the reply with the order as far as p
--
-- Source: Butcher (2021), order conditions; Hairer, Norsett and Wanner (1993), II.2, and II.15 for several colours.
-- The code works each condition out once, and stops at the first wrong one.
use Rattle.std.specs.Prelude.{◌≡◌, ℕ, ◌+◌, pos, ◌&&◌, ◌++◌, Bool, true, false, List, [], ◌∷◌, map, flat_map, nat_lt, if◌then◌else◌, refl}
use Rattle.std.specs.List.{list_any, prefix_len, range_with_len}
use Rattle.bs_frac.specs.Fraction.{Fraction}
use Rattle.bs_frac.specs.Written.{checked}
use Rattle.bs_frac.specs.declared.coef.Coef.{Coef}
use Rattle.bs_tree.specs.Code.{tree_of}
use Rattle.bs_tree.specs.Numbers.{density}
use Rattle.bs_enum.specs.AllTrees.{all_trees, tree_count, trees_to, trees_up_to}
use Rattle.bs_tableau.specs.Table.{Table}
use Rattle.bs_tableau.specs.WrittenWeight.{written_weight}
use Rattle.bs_reply.specs.Lines.{count_line, listed_line, condition_line, order_line}
use Rattle.bs_reply.specs.Verdicts.{verdict}
use Rattle.bs_reply.specs.declared.line.Word.TheVariants.{Trees, Conditions}
use Rattle.bs_reply.specs.declared.verdict.Verdict.{Verdict}
use Rattle.bs_reply.specs.declared.verdict.Verdict.TheVariants.{Holds, Fails, Unknown}

abbrev pub target_of : List (ℕ × ℕ) → Fraction
target_of code = record { top = pos 1; bottom = density (tree_of code) }

abbrev pub weight_at : Table → List (ℕ × ℕ) → Coef
weight_at table code = written_weight checked table (tree_of code)

abbrev pub verdict_at : Table → List (ℕ × ℕ) → Verdict
verdict_at table code = verdict (weight_at table code) (target_of code)

-- ---- all trees of an order
abbrev pub is_holding : Verdict → Bool
is_holding Holds = true
is_holding Fails = false
is_holding Unknown = false

abbrev pub is_failing : Verdict → Bool
is_failing Holds = false
is_failing Fails = true
is_failing Unknown = false

abbrev pub is_unknown : Verdict → Bool
is_unknown Holds = false
is_unknown Fails = false
is_unknown Unknown = true

abbrev pub together : List Verdict → Verdict
together verdicts =
    if list_any is_failing verdicts then Fails else (if list_any is_unknown verdicts then Unknown else Holds)

abbrev pub verdict_of_order : Table → ℕ → Verdict
verdict_of_order table n = together (map (verdict_at table) (all_trees n table.colours))

-- ---- the order
abbrev pub order_of : Table → ℕ → ℕ
order_of table p = prefix_len (λ n. is_holding (verdict_of_order table n)) (range_with_len 1 p)

abbrev pub is_open : Table → ℕ → Bool
is_open table p = nat_lt (order_of table p) p && is_unknown (verdict_of_order table (1 + order_of table p))

-- ---- replies
abbrev pub listed_reply : ℕ → List (List (ℕ × ℕ)) → List ℕ
listed_reply number codes = count_line Trees number ++ flat_map listed_line codes

abbrev pub trees_reply : ℕ → ℕ → List ℕ
trees_reply n k = listed_reply (tree_count n k) (all_trees n k)

abbrev pub condition_at : Table → List (ℕ × ℕ) → List ℕ
condition_at table code = condition_line code (weight_at table code) (target_of code)

abbrev pub conditions_reply : Table → ℕ → List ℕ
conditions_reply table p =
    count_line Conditions (trees_to p table.colours) ++ flat_map (condition_at table) (trees_up_to p table.colours)

abbrev pub order_reply : Table → ℕ → List ℕ
order_reply table p = order_line (order_of table p) (is_open table p)

-- ---- examples
wrong_before_unknown : together (Unknown ∷ Fails ∷ Holds ∷ []) ≡ Fails
wrong_before_unknown = refl

unknown_before_right : together (Holds ∷ Unknown ∷ []) ≡ Unknown
unknown_before_right = refl
