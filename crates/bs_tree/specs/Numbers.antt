-- The numbers of a tree.
--
--   symmetry t  == sigma: the product over the children c of sigma(c) and of one plus the number of later
--                  siblings isomorphic to c; so m! for each class of m isomorphic children
--   density t   == gamma: the order times the densities of the children
--   alpha t     == |t|! / (sigma(t) gamma(t)), the number of monotonic labellings
--   factorial n == n!
--
-- Source: Butcher (2021), the functions on trees; Hairer, Norsett and Wanner (1993), II.2.
-- The code counts equal canonical sequences among the later siblings.
use Rattle.std.specs.Prelude.{ℕ, zero, suc, ◌*◌, ◌/◌, cond}
use Rattle.bs_tree.specs.Tree.{Forest, none, grow, Tree, nodes, order}
use Rattle.bs_tree.specs.Isomorphic.{isomorphic}

-- how many trees of the list are isomorphic to this one
abbrev pub count_alike : Tree → Forest → ℕ
count_alike t none = 0
count_alike t (grow d below more) = cond (isomorphic t (record { colour = d; below = below })) (suc (count_alike t more)) (count_alike t more)

-- the product over the trees of the list of each one's symmetry and of one plus the number of later trees isomorphic to it
abbrev pub symmetry_of : Forest → ℕ
symmetry_of none = 1
symmetry_of (grow c kids rest) = symmetry_of kids * suc (count_alike (record { colour = c; below = kids }) rest) * symmetry_of rest

-- the product of the densities of the trees of the list
abbrev pub density_of : Forest → ℕ
density_of none = 1
density_of (grow c kids rest) = suc (nodes kids) * density_of kids * density_of rest

abbrev pub symmetry : Tree → ℕ
symmetry t = symmetry_of t.below

abbrev pub density : Tree → ℕ
density t = order t * density_of t.below

abbrev pub factorial : ℕ → ℕ
factorial zero = 1
factorial (suc n) = suc n * factorial n

abbrev pub alpha : Tree → ℕ
alpha t = factorial (order t) / (symmetry t * density t)
