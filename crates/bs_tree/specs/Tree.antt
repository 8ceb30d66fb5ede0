-- Coloured rooted trees.
--
--   Tree              == a colour and the list of its children
--   Forest            == a list of trees, as first child and next sibling
--   trees f, forest l == a forest as a list of trees, and back
--   order T           == |T|, the number of nodes
--   nodes f           == the number of nodes of all trees of a forest
--   Coloured k f      == every colour in the forest is below k
--   IsColoured k T    == every colour of the tree is below k
--
-- Source: Butcher (2021), rooted trees; Chartier, Hairer and Vilmart (2010) for several colours.
-- The code keeps a vector of children and the number of nodes beside.
use Rattle.std.specs.Prelude.{◌≡◌, ℕ, suc, ◌+◌, ◌<◌, ◌≤◌, List, [], ◌∷◌}
use Rattle.bs_tree.specs.declared.TheConstants.{MAX_NODES, COLOURS}

-- A list of trees: the first tree's colour and children, and the later trees
pub data Forest : Type 0 where
  none : Forest
  grow : ℕ → Forest → Forest → Forest

-- A tree: a colour and the list of its children
pub record Tree : Type 0 where
  pub colour : ℕ
  pub below : Forest

abbrev pub trees : Forest → List Tree
trees none = []
trees (grow c kids rest) = record { colour = c; below = kids } ∷ trees rest

abbrev pub forest : List Tree → Forest
forest [] = none
forest (t ∷ ts) = grow t.colour t.below (forest ts)

-- the number of nodes
abbrev pub nodes : Forest → ℕ
nodes none = 0
nodes (grow c kids rest) = suc (nodes kids) + nodes rest

abbrev pub order : Tree → ℕ
order t = suc (nodes t.below)

-- each colour is below k
abbrev pub Coloured : ℕ → Forest → Type 0
Coloured k none = Unit {0}
Coloured k (grow c kids rest) = (c < k) × Coloured k kids × Coloured k rest

abbrev pub IsColoured : ℕ → Tree → Type 0
IsColoured k t = (t.colour < k) × Coloured k t.below

-- a root of this colour over these trees has this number of nodes, at most MAX_NODES, and colours below COLOURS
pub record IsWithin (colour count : ℕ) (f : Forest) : Type 0 where
  pub root : colour < COLOURS
  pub coloured : Coloured COLOURS f
  pub small : count ≤ MAX_NODES
  pub count_is : count ≡ suc (nodes f)
