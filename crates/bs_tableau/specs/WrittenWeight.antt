-- The elementary weight in the written order: stage by stage, over any arithmetic.
--
--   edge_sum c i S      == E: the sum, over stages j from the first up, of the terms with factors A[c][i][j], S[j]
--   edge_sums f i       == E(w)[i] for each tree w of a list of trees, where S(w)[j] is the product of
--                          the edge sums of w's children at j
--   stage_value f i     == S(v)[i]: the product of the edge sums of v's children f, in their order
--   root_sum c S        == the sum, over stages i from the first up, of the terms with factors b[c][i], S[i]
--   written_weight T    == the root sum of the root's colour and values
--
-- Children are taken as they come: of a canonical tree, which each code describes, in canonical order.
-- Sums begin at 0 and products at 1; each is taken from the left. Over `checked` an overflow anywhere is an overflow.
--
-- Source: Butcher (2021), elementary weights by recursion; the order is this project's.
-- The code multiplies the edge sums of a child into its parent's vector of stages as soon as the child is read.
use Rattle.std.specs.Prelude.{ℕ, List, [], ◌∷◌, map}
use Rattle.bs_frac.specs.Fraction.{whole}
use Rattle.bs_frac.specs.Written.{Arithmetic, product_all, sum_onto}
use Rattle.bs_tree.specs.Tree.{Forest, none, grow, Tree}
use Rattle.bs_tableau.specs.Table.{Table, matrix_entry, weight_entry, all_stages}

module _ (A : Arithmetic) (t : Table) where
  abbrev pub edge_sum : ℕ → ℕ → (ℕ → A.Number) → A.Number
  edge_sum colour i values =
      sum_onto A (A.of (whole 0)) (map (λ j. product_all A (A.of (matrix_entry t colour i j) ∷ values j ∷ [])) (all_stages t))

  abbrev pub edge_sums : Forest → ℕ → List A.Number
  edge_sums none i = []
  edge_sums (grow c kids rest) i = edge_sum c i (λ j. product_all A (edge_sums kids j)) ∷ edge_sums rest i

  abbrev pub stage_value : Forest → ℕ → A.Number
  stage_value f i = product_all A (edge_sums f i)

  abbrev pub root_sum : ℕ → (ℕ → A.Number) → A.Number
  root_sum colour values =
      sum_onto A (A.of (whole 0)) (map (λ i. product_all A (A.of (weight_entry t colour i) ∷ values i ∷ [])) (all_stages t))

  abbrev pub written_weight : Tree → A.Number
  written_weight tree = root_sum tree.colour (stage_value tree.below)
