-- A tree as ghost data, and the facts that the struct's model owes.
use Rattle.std.specs.Prelude.{◌≡◌, ℕ, ◌+◌, ◌≤◌, List, [], ◌∷◌, refl}
use Rattle.std.proofs.Common.{arith}
use Rattle.std.specs.Coded.{Coded, code_by, coded×, coded_ℕ}
use base.Stored.{Gv, gnil, gnum, gcons, num}
use denote.Param.Weighed.{most}
use Rattle.bs_tree.specs.Tree.{Forest, none, grow, Tree, forest, nodes, order}

abbrev pub forest_data : Forest → Gv
forest_data none = gnil
forest_data (grow c kids rest) = gcons (gnum c) (gcons (forest_data kids) (forest_data rest))

abbrev pub data_forest : Gv → Forest
data_forest gnil = none
data_forest (gnum n) = none
data_forest (gcons c gnil) = none
data_forest (gcons c (gnum n)) = none
data_forest (gcons c (gcons a b)) = grow (num c) (data_forest a) (data_forest b)

pub data_forest-forest_data : (f : Forest) → data_forest (forest_data f) ≡ f
data_forest-forest_data none = refl
data_forest-forest_data (grow c kids rest) =
    let e1 = data_forest-forest_data kids in
    let e2 = data_forest-forest_data rest in cc

abbrev pub coded_gv : Coded Gv
coded_gv = record { code = λ g. g; inj = λ x y p. p }

abbrev pub coded_forest : Coded Forest
coded_forest = code_by Gv coded_gv forest_data data_forest data_forest-forest_data

abbrev pub coded_tree : Coded Tree
coded_tree = code_by (ℕ × Forest) (coded× coded_ℕ coded_forest) (λ t. (t.colour, t.below)) (λ p. record { colour = p.0; below = p.1 }) (λ _. refl)

-- no child has more nodes than all of them together
pub most_le-nodes : (ts : List Tree) → most (λ t. order t + 1) ts ≤ nodes (forest ts) + 1
most_le-nodes [] = omega arith
most_le-nodes (t ∷ ts) = omega (arith, most_le-nodes ts)
