-- The elementary weight of a tree over a method: the sum over all maps of the tree's nodes to stages.
--
--   stage_maps t n         == all lists of n stages: the maps of n nodes in preorder to stages
--   edge_product t f i w   == the product of A[d][parent's stage][child's stage], d the child's colour, over the edges
--                             to and inside the trees f below a node of stage i, where w lists the stages of f's nodes
--   map_weight t T w       == b[c][root's stage] times that product over all edges of T, c the root's colour
--   elementary_weight t T  == the sum of the weights of all maps, in fractions without bound
--
-- Source: Butcher (2021), elementary weights; Hairer, Norsett and Wanner (1993), II.2, and II.15 for several colours.
-- The code keeps one vector of stages for each open node in place of all maps.
use Rattle.std.specs.Prelude.{ℕ, zero, suc, List, [], ◌∷◌, map, take, drop}
use Rattle.std.specs.List.{flat_map}
use Rattle.bs_frac.specs.Fraction.{Fraction, whole, product_of}
use Rattle.bs_frac.specs.Written.{exactly, sum_onto}
use Rattle.bs_tree.specs.Tree.{Forest, none, grow, Tree, nodes, order}
use Rattle.bs_tableau.specs.Table.{Table, matrix_entry, weight_entry, all_stages}

abbrev pub stage_maps : Table → ℕ → List (List ℕ)
stage_maps t zero = [] ∷ []
stage_maps t (suc n) = flat_map (λ j. map (λ w. j ∷ w) (stage_maps t n)) (all_stages t)

abbrev pub edge_product : Table → Forest → ℕ → List ℕ → Fraction
edge_product t none i w = whole 1
edge_product t (grow c kids rest) i [] = whole 1
edge_product t (grow c kids rest) i (j ∷ w) =
    product_of (matrix_entry t c i j) (product_of (edge_product t kids j (take (nodes kids) w)) (edge_product t rest i (drop (nodes kids) w)))

abbrev pub map_weight : Table → Tree → List ℕ → Fraction
map_weight t tree [] = whole 1
map_weight t tree (j ∷ w) = product_of (weight_entry t tree.colour j) (edge_product t tree.below j w)

abbrev pub elementary_weight : Table → Tree → Fraction
elementary_weight t tree = sum_onto exactly (whole 0) (map (map_weight t tree) (stage_maps t (order tree)))
