-- Small examples, computed: values that the literature has.
use Rattle.std.proofs.Common.{◌≡◌, ℕ, List, [], ◌∷◌, refl, pos, negsuc, ℤ}
use Rattle.bs_frac.specs.Gcd.{gcd}
use Rattle.bs_frac.specs.Fraction.{whole}
use Rattle.bs_frac.specs.Checked.{sum_gcd, sum_left, sum_right, sum_top, sum_common, sum_bottom, cross_gcd, product_top, product_bottom}
use Rattle.bs_frac.specs.declared.coef.Coef.{Coef}
use Rattle.bs_frac.specs.declared.coef.Coef.TheVariants.{Value}
use Rattle.bs_tree.specs.Tree.{Forest, none, grow, Tree}
use Rattle.bs_part.specs.Partition.{leaf}
use Rattle.bs_tableau.specs.Table.{Table}
use Rattle.bs_series.specs.Series.{Series, exact, average, method, compose, inverse, adjoint, substitute, modified, modifying, scale}
use Rattle.bs_series.specs.Value.{written}
use Rattle.bs_series.specs.SeriesCode.{written_at}

abbrev node : ℕ → Forest → Tree
node c f = record { colour = c; below = f }

abbrev chain2 : Forest
chain2 = grow 0 (grow 0 none none) none

-- a root over a chain of two and of three; a root over two leaves
abbrev chain : Tree
chain = node 0 chain2

abbrev longer_chain : Tree
longer_chain = node 0 (grow 0 chain2 none)

abbrev cherry : Tree
cherry = node 0 (grow 0 none (grow 0 none none))

abbrev ratio : ℤ → ℕ → Coef
ratio n d = Value (record { top = n; bottom = d })

-- the explicit Euler method
abbrev euler : Table
euler = record { stages = 1; colours = 1; rows = (whole 0 ∷ []) ∷ (whole 1 ∷ []) ∷ [] }

abbrev methods : List Table
methods = euler ∷ []

abbrev step : Series
step = method 0 1

inverse_cherry : written [] (inverse (exact 1)) cherry ≡ ratio (negsuc 0) 3
unfolding gcd sum_gcd sum_left sum_right sum_top sum_common sum_bottom cross_gcd product_top product_bottom
inverse_cherry = refl

adjoint_of_the_flow : written [] (adjoint (exact 1)) cherry ≡ ratio (pos 1) 3
unfolding gcd sum_gcd sum_left sum_right sum_top sum_common sum_bottom cross_gcd product_top product_bottom
adjoint_of_the_flow = refl

-- the adjoint of the explicit Euler method is the implicit one
adjoint_of_euler : written methods (adjoint step) chain ≡ ratio (pos 1) 1
unfolding gcd sum_gcd sum_left sum_right sum_top sum_common sum_bottom cross_gcd product_top product_bottom
adjoint_of_euler = refl

-- the modified equation of the explicit Euler method has (-1)^(n-1)/n at the chain of n nodes
modified_cherry : written methods (modified step) cherry ≡ ratio (pos 1) 6
unfolding gcd sum_gcd sum_left sum_right sum_top sum_common sum_bottom cross_gcd product_top product_bottom
modified_cherry = refl

modified_chain : written methods (modified step) chain ≡ ratio (pos 1) 3
unfolding gcd sum_gcd sum_left sum_right sum_top sum_common sum_bottom cross_gcd product_top product_bottom
modified_chain = refl

modified_longer_chain : written methods (modified step) longer_chain ≡ ratio (negsuc 0) 4
unfolding gcd sum_gcd sum_left sum_right sum_top sum_common sum_bottom cross_gcd product_top product_bottom
modified_longer_chain = refl

-- a step of Euler, then the exact flow; the two in the other order
composed_cherry : written methods (compose step (exact 1)) cherry ≡ ratio (pos 7) 3
unfolding gcd sum_gcd sum_left sum_right sum_top sum_common sum_bottom cross_gcd product_top product_bottom
composed_cherry = refl

composed_other_way : written methods (compose (exact 1) step) cherry ≡ ratio (pos 4) 3
unfolding gcd sum_gcd sum_left sum_right sum_top sum_common sum_bottom cross_gcd product_top product_bottom
composed_other_way = refl

-- two half steps of the exact flow are the exact flow
two_halves : (let half = scale (exact 1) (record { top = pos 1; bottom = 2 }) in written [] (compose half half) cherry) ≡ ratio (pos 1) 3
unfolding gcd sum_gcd sum_left sum_right sum_top sum_common sum_bottom cross_gcd product_top product_bottom
two_halves = refl

average_cherry : written [] (average 1) cherry ≡ ratio (pos 1) 3
unfolding gcd sum_gcd sum_left sum_right sum_top sum_common sum_bottom cross_gcd product_top product_bottom
average_cherry = refl

-- the exact flow put into the exact flow
substituted_chain : written [] (substitute (modified (exact 1)) (exact 1)) chain ≡ ratio (pos 1) 6
unfolding gcd sum_gcd sum_left sum_right sum_top sum_common sum_bottom cross_gcd product_top product_bottom
substituted_chain = refl

modifying_the_flow : written [] (modifying (exact 1)) leaf ≡ ratio (pos 1) 1
unfolding gcd sum_gcd sum_left sum_right sum_top sum_common sum_bottom cross_gcd product_top product_bottom
modifying_the_flow = refl

by_code : written_at methods (modified step) ((1, 0) ∷ (2, 0) ∷ (2, 0) ∷ []) ≡ ratio (pos 1) 6
unfolding gcd sum_gcd sum_left sum_right sum_top sum_common sum_bottom cross_gcd product_top product_bottom
by_code = refl
