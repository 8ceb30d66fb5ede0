-- The plan at a code, item by item: over the lists of splittings and partitions written as codes.
--
--   plan_by_items s code == the plan whose terms are those of the items
--   kept_code b e o      == the factor of what is kept; e where nothing is
--   split_code_factors, turned_code_factors, part_code_factors == the factors of an item, for a splitting, for one of an
--                           adjoint, and for a partition
--   ItemsLaw             == at a code it is the plan
--   is_looked_up s       == the value is looked up: of every kind but exact, identity and average
--   terms s code         == the number of items that the value at the code goes over; 1 of a method and of a scaling
--   looked_up f          == the pair of a factor that is looked up
--   needed_within n s t  == s at t, and what the looked-up factors of its plan need, n steps deep
--   needed s t           == the same, as deep as the plans go
--   NeededLaw            == s at t, and what the looked-up factors of its plan need
--
-- Source: this project.
-- The code walks the items with one mask, and keeps no list.
use Rattle.std.specs.Prelude.{◌≡◌, ℕ, zero, suc, ◌*◌, List, [], ◌∷◌, map, length, replicate, Option, Some, None, Bool, true, false, cond}
use Rattle.std.specs.List.{flat_map}
use Rattle.bs_frac.specs.Fraction.{Fraction, whole}
use Rattle.bs_frac.specs.Written.{add, subtract}
use Rattle.bs_tree.specs.Tree.{Tree, order}
use Rattle.bs_tree.specs.Code.{IsCode}
use Rattle.bs_split.specs.Splitting.{SplitCodes, split_codes, init}
use Rattle.bs_part.specs.Partition.{PartCodes, part_codes, tail}
use Rattle.bs_series.specs.Series.{Series, exact, identity, average, method, compose, inverse, adjoint, substitute, modified, modifying, scale, empty_value, size}
use Rattle.bs_series.specs.Plan.{Factor, fixed, at, turned, Plan, plan, plan_factors, sum_alone}
use Rattle.bs_series.specs.SeriesCode.{Code, leaf_code, plan_at}

abbrev pub kept_code : Series → Fraction → Option Code → Factor Code
kept_code b empty None = fixed empty
kept_code b empty (Some code) = at b code

abbrev pub split_code_factors : Series → Fraction → Series → SplitCodes → List (Factor Code)
split_code_factors a empty b s = kept_code b empty s.kept ∷ map (at a) s.forest

abbrev pub turned_code_factors : Series → Series → SplitCodes → List (Factor Code)
turned_code_factors a b s = kept_code b (whole 1) s.kept ∷ map (turned a) s.forest

abbrev pub part_code_factors : Series → Series → PartCodes → List (Factor Code)
part_code_factors a b p = at a p.skeleton ∷ map (at b) p.parts

abbrev pub plan_by_items : Series → Code → Plan Code
plan_by_items (exact k) code = sum_alone []
plan_by_items (identity k) code = sum_alone []
plan_by_items (average k) code = sum_alone []
plan_by_items (method n k) code = sum_alone []
plan_by_items (compose a b) code = sum_alone (map (λ s. add (split_code_factors a (empty_value b) b s)) (split_codes code))
plan_by_items (inverse a) code = sum_alone (map (λ s. subtract (split_code_factors a (whole 1) (inverse a) s)) (init (split_codes code)))
plan_by_items (adjoint a) code = sum_alone (map (λ s. subtract (turned_code_factors a (adjoint a) s)) (init (split_codes code)))
plan_by_items (substitute b a) code = sum_alone (map (λ p. add (part_code_factors a b p)) (part_codes code))
plan_by_items (modified a) code =
    sum_alone (add (at a code ∷ []) ∷ map (λ p. subtract (part_code_factors (exact 1) (modified a) p)) (tail (part_codes code)))
plan_by_items (modifying a) code = record {
  terms = add (at (exact 1) code ∷ []) ∷ map (λ p. subtract (part_code_factors a (modifying a) p)) (tail (part_codes code));
  divisor = Some (at a leaf_code);
}
plan_by_items (scale a c) code = sum_alone (add (at a code ∷ replicate (length code) (fixed c)) ∷ [])

abbrev pub ItemsLaw : Type 0
ItemsLaw = (s : Series) (code : Code) → IsCode code → plan_at s code ≡ plan_by_items s code

-- ---- how many items, and which pairs
abbrev pub is_looked_up : Series → Bool
is_looked_up (exact k) = false
is_looked_up (identity k) = false
is_looked_up (average k) = false
is_looked_up _ = true

abbrev pub terms : Series → Code → ℕ
terms (exact k) code = 0
terms (identity k) code = 0
terms (average k) code = 0
terms (method n k) code = 1
terms (compose a b) code = length (split_codes code)
terms (inverse a) code = length (split_codes code)
terms (adjoint a) code = length (split_codes code)
terms (substitute b a) code = length (part_codes code)
terms (modified a) code = length (part_codes code)
terms (modifying a) code = length (part_codes code)
terms (scale a c) code = 1

abbrev pub pair_of : Series → Tree → List (Series × Tree)
pair_of s t = cond (is_looked_up s) ((s, t) ∷ []) []

abbrev pub looked_up : Factor Tree → List (Series × Tree)
looked_up (fixed c) = []
looked_up (at s t) = pair_of s t
looked_up (turned s t) = pair_of s t

abbrev pub needed_within : ℕ → Series → Tree → List (Series × Tree)
needed_within zero s t = []
needed_within (suc n) s t = (s, t) ∷ flat_map (λ p. needed_within n p.0 p.1) (flat_map looked_up (plan_factors (plan s t)))

abbrev pub needed : Series → Tree → List (Series × Tree)
needed s t = needed_within (size s * order t) s t

abbrev pub NeededLaw : Type 0
NeededLaw = (s : Series) (t : Tree) → needed s t ≡ (s, t) ∷ flat_map (λ p. needed p.0 p.1) (flat_map looked_up (plan_factors (plan s t)))
