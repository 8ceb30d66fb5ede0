-- The sums stage by stage are the sum over all maps of nodes to stages.
use Rattle.std.proofs.Common.{◌≡◌, ℕ, suc, zero, ◌+◌, List, [], ◌∷◌, ◌++◌, map, take, drop, length, fold, arith, refl, sym, ◌∙◌, ap, ap₂, subst, mul-pos, append-nil}
use Rattle.std.specs.List.{flat_map, AllByRecursion}
use Rattle.std.proofs.Math.Seq.{take-append_seam, drop-append_seam}
use Rattle.bs_frac.specs.Fraction.{Fraction, SameFraction, whole, product_of}
use Rattle.bs_frac.specs.Written.{exactly, sum_onto}
use Rattle.bs_frac.proofs.Same.{same_refl, same_sym, same_trans, product_same, zero_sum, one_product, product_one}
use Rattle.bs_tree.specs.Tree.{Forest, none, grow, Tree, nodes}
use Rattle.bs_tableau.specs.Table.{Table, matrix_entry, weight_entry, all_stages}
use Rattle.bs_tableau.specs.ElementaryWeight.{stage_maps, edge_product, map_weight, elementary_weight}
use Rattle.bs_tableau.specs.WrittenWeight.{edge_sums, written_weight}
use Rattle.bs_tableau.proofs.Lists.{all_any, all_map, all_flat_map, all_weaker, map_id, map-map, map_same, map-flat_map, flat_map-map, flat_map-flat_map, flat_map_same}
use Rattle.bs_tableau.proofs.Totals.{IsFraction, one_fraction, product_assoc, sum_by, sum_by_same, sum_by_fraction, sum_by-times, sum_by-times_right, sum_by-flat_map}

-- ---- lists of stages
module _ (t : Table) where
  lengths : (n : ℕ) → AllByRecursion (λ w. length w ≡ n) (stage_maps t n)
  lengths zero = (refl, tt)
  lengths (suc n) =
      all_flat_map (λ (w : List ℕ). length w ≡ suc n) (λ j. map (λ w. j ∷ w) (stage_maps t n))
      (λ j. all_map (λ (w : List ℕ). length w ≡ suc n) (λ w. j ∷ w) (λ w. length w ≡ n) (λ w e. ap suc e) (stage_maps t n) (lengths n)) (all_stages t)

  -- a map of m + n nodes is one of m nodes and one of n
  maps_add : (m n : ℕ) → stage_maps t (m + n) ≡ flat_map (λ u. map (λ v. u ++ v) (stage_maps t n)) (stage_maps t m)
  maps_add zero n = let e : zero + n ≡ n = omega arith in ap (stage_maps t) e ∙ sym (map_id (stage_maps t n)) ∙ sym (append-nil (map (λ v. v) (stage_maps t n)))
  maps_add (suc m) n =
      let e : suc m + n ≡ suc (m + n) = omega arith in
      let row : List ℕ → List (List ℕ) = λ u. map (λ v. u ++ v) (stage_maps t n) in
      let half : (j : ℕ) → map (λ w. j ∷ w) (stage_maps t (m + n)) ≡ flat_map row (map (λ w. j ∷ w) (stage_maps t m)) =
      λ j. ap (map (λ w. j ∷ w)) (maps_add m n) ∙ map-flat_map (λ w. j ∷ w) row (stage_maps t m)
      ∙ flat_map_same (λ u. map (λ w. j ∷ w) (row u)) (λ u. row (j ∷ u)) (λ u. map-map (λ w. j ∷ w) (λ v. u ++ v) (stage_maps t n)) (stage_maps t m)
      ∙ sym (flat_map-map row (λ w. j ∷ w) (stage_maps t m)) in
      ap (stage_maps t) e
      ∙ flat_map_same (λ j. map (λ w. j ∷ w) (stage_maps t (m + n))) (λ j. flat_map row (map (λ w. j ∷ w) (stage_maps t m))) half (all_stages t)
      ∙ sym (flat_map-flat_map row (λ j. map (λ w. j ∷ w) (stage_maps t m)) (all_stages t))

module _ (t : Table) (entries : (c i j : ℕ) → IsFraction (matrix_entry t c i j)) (weights : (c j : ℕ) → IsFraction (weight_entry t c j)) where
  edges_fraction : (f : Forest) (i : ℕ) (w : List ℕ) → IsFraction (edge_product t f i w)
  edges_fraction none i w = one_fraction
  edges_fraction (grow c kids rest) i [] = one_fraction
  edges_fraction (grow c kids rest) i (j ∷ w) = mul-pos (entries c i j) (mul-pos (edges_fraction kids j (take (nodes kids) w)) (edges_fraction rest i (drop (nodes kids) w)))

  -- the sum over all maps of a list of trees below a node of stage i
  abbrev sums : Forest → ℕ → Fraction
  sums f i = sum_by (edge_product t f i) (stage_maps t (nodes f))

  sums_fraction : (f : Forest) (i : ℕ) → IsFraction (sums f i)
  sums_fraction f i = sum_by_fraction (edge_product t f i) (edges_fraction f i) (stage_maps t (nodes f))

  module _ (c : ℕ) (kids rest : Forest) (i : ℕ) where
    abbrev m : ℕ
    m = nodes kids

    abbrev n : ℕ
    n = nodes rest

    abbrev all_edges : List ℕ → Fraction
    all_edges = edge_product t (grow c kids rest) i

    -- the first tree's root at stage j and its other nodes by u, the later trees by all maps
    one_map : (j : ℕ) (u : List ℕ) → length u ≡ m
        → SameFraction (sum_by (λ w. all_edges (j ∷ w)) (map (λ v. u ++ v) (stage_maps t n))) (product_of (product_of (matrix_entry t c i j) (edge_product t kids j u)) (sums rest i))
    one_map j u h =
        let a = matrix_entry t c i j in let k = edge_product t kids j u in
        let ha = entries c i j in let hk = edges_fraction kids j u in
        let e : map (λ w. all_edges (j ∷ w)) (map (λ v. u ++ v) (stage_maps t n)) ≡ map (λ v. product_of a (product_of k (edge_product t rest i v))) (stage_maps t n) =
        map-map (λ w. all_edges (j ∷ w)) (λ v. u ++ v) (stage_maps t n)
        ∙ map_same (λ v. all_edges (j ∷ (u ++ v))) (λ v. product_of a (product_of k (edge_product t rest i v)))
        (λ v. ap₂ (λ (x y : List ℕ). product_of a (product_of (edge_product t kids j x) (edge_product t rest i y)))
        (ap (λ q. take q (u ++ v)) (sym h) ∙ take-append_seam u v) (ap (λ q. drop q (u ++ v)) (sym h) ∙ drop-append_seam u v)) (stage_maps t n) in
        subst (λ ts. SameFraction (sum_onto exactly (whole 0) ts) (product_of (product_of a k) (sums rest i))) (sym e)
        (same_trans (sum_by_same (λ v. product_of a (product_of k (edge_product t rest i v))) (λ v. product_of (product_of a k) (edge_product t rest i v)) (stage_maps t n)
        (all_any (λ v. SameFraction (product_of a (product_of k (edge_product t rest i v))) (product_of (product_of a k) (edge_product t rest i v))) (λ v. same_sym (product_assoc a k (edge_product t rest i v) ha hk (edges_fraction rest i v))) (stage_maps t n)))
        (same_sym (sum_by-times (edge_product t rest i) (edges_fraction rest i) (product_of a k) (mul-pos ha hk) (stage_maps t n))))

    one_stage : (j : ℕ) → SameFraction (sum_by (λ w. all_edges (j ∷ w)) (stage_maps t (m + n))) (product_of (product_of (matrix_entry t c i j) (sums kids j)) (sums rest i))
    one_stage j =
        let a = matrix_entry t c i j in
        let row : List ℕ → List (List ℕ) = λ u. map (λ v. u ++ v) (stage_maps t n) in
        let ej : List ℕ → Fraction = λ w. all_edges (j ∷ w) in
        let fine : (w : List ℕ) → IsFraction (ej w) = λ w. edges_fraction (grow c kids rest) i (j ∷ w) in
        let ak : List ℕ → Fraction = λ u. product_of a (edge_product t kids j u) in
        let hak : (u : List ℕ) → IsFraction (ak u) = λ u. mul-pos (entries c i j) (edges_fraction kids j u) in
        subst (λ ws. SameFraction (sum_by ej ws) (product_of (product_of a (sums kids j)) (sums rest i))) (sym (maps_add t m n))
        (same_trans (sum_by-flat_map ej fine row (stage_maps t m))
        (same_trans (sum_by_same (λ u. sum_by ej (row u)) (λ u. product_of (ak u) (sums rest i)) (stage_maps t m)
        (all_weaker (λ u. length u ≡ m) (λ u. SameFraction (sum_by ej (row u)) (product_of (ak u) (sums rest i))) (one_map j) (stage_maps t m) (lengths t m)))
        (same_trans (sum_by-times_right ak hak (sums rest i) (sums_fraction rest i) (stage_maps t m))
        (product_same (same_sym (sum_by-times (edge_product t kids j) (edges_fraction kids j) a (entries c i j) (stage_maps t m))) (same_refl (sums rest i) (sums_fraction rest i))))))

    first_tree : SameFraction (sums (grow c kids rest) i) (product_of (sum_by (λ j. product_of (matrix_entry t c i j) (sums kids j)) (all_stages t)) (sums rest i))
    first_tree =
        let e : nodes (grow c kids rest) ≡ suc (m + n) = omega arith in
        let row : ℕ → List (List ℕ) = λ j. map (λ w. j ∷ w) (stage_maps t (m + n)) in
        let hj : (j : ℕ) → IsFraction (product_of (matrix_entry t c i j) (sums kids j)) = λ j. mul-pos (entries c i j) (sums_fraction kids j) in
        subst (λ q. SameFraction (sum_by all_edges (stage_maps t q)) (product_of (sum_by (λ j. product_of (matrix_entry t c i j) (sums kids j)) (all_stages t)) (sums rest i))) (sym e)
        (same_trans (sum_by-flat_map all_edges (edges_fraction (grow c kids rest) i) row (all_stages t))
        (same_trans (sum_by_same (λ j. sum_by all_edges (row j)) (λ j. product_of (product_of (matrix_entry t c i j) (sums kids j)) (sums rest i)) (all_stages t)
        (all_any (λ j. SameFraction (sum_by all_edges (row j)) (product_of (product_of (matrix_entry t c i j) (sums kids j)) (sums rest i)))
        (λ j. subst (λ ts. SameFraction (sum_onto exactly (whole 0) ts) (product_of (product_of (matrix_entry t c i j) (sums kids j)) (sums rest i))) (sym (map-map all_edges (λ w. j ∷ w) (stage_maps t (m + n)))) (one_stage j)) (all_stages t)))
        (sum_by-times_right (λ j. product_of (matrix_entry t c i j) (sums kids j)) hj (sums rest i) (sums_fraction rest i) (all_stages t))))

  -- z times the edge sums of a list of trees
  abbrev times_sums : Forest → ℕ → Fraction → Fraction
  times_sums f i z = fold product_of z (edge_sums exactly t f i)

  abbrev stage_term : ℕ → Forest → ℕ → ℕ → Fraction
  stage_term c kids i j = product_of (product_of (whole 1) (matrix_entry t c i j)) (times_sums kids j (whole 1))

  times_sums_same : (f : Forest) (i : ℕ) (z : Fraction) → IsFraction z → SameFraction (times_sums f i z) (product_of z (sums f i))
  times_sums_same none i z hz = same_sym (same_trans (product_same (same_refl z hz) (zero_sum (whole 1) one_fraction)) (product_one z hz))
  times_sums_same (grow c kids rest) i z hz =
      let inner : (j : ℕ) → SameFraction (stage_term c kids i j) (product_of (matrix_entry t c i j) (sums kids j)) =
      λ j. product_same (one_product (matrix_entry t c i j) (entries c i j)) (same_trans (times_sums_same kids j (whole 1) one_fraction) (one_product (sums kids j) (sums_fraction kids j))) in
      let s : Fraction = sum_by (λ j. product_of (matrix_entry t c i j) (sums kids j)) (all_stages t) in
      let hs : IsFraction s = sum_by_fraction (λ j. product_of (matrix_entry t c i j) (sums kids j)) (λ j. mul-pos (entries c i j) (sums_fraction kids j)) (all_stages t) in
      let e : SameFraction (sum_by (stage_term c kids i) (all_stages t)) s =
      sum_by_same (stage_term c kids i) (λ j. product_of (matrix_entry t c i j) (sums kids j)) (all_stages t) (all_any (λ j. SameFraction (stage_term c kids i j) (product_of (matrix_entry t c i j) (sums kids j))) inner (all_stages t)) in
      same_trans (times_sums_same rest i (product_of z (sum_by (stage_term c kids i) (all_stages t))) (mul-pos hz e.left))
      (same_trans (product_same (product_same (same_refl z hz) e) (same_refl (sums rest i) (sums_fraction rest i)))
      (same_trans (product_assoc z s (sums rest i) hz hs (sums_fraction rest i))
      (product_same (same_refl z hz) (same_sym (first_tree c kids rest i)))))

  map_weight_fraction : (tree : Tree) (w : List ℕ) → IsFraction (map_weight t tree w)
  map_weight_fraction tree [] = one_fraction
  map_weight_fraction tree (j ∷ w) = mul-pos (weights tree.colour j) (edges_fraction tree.below j w)

  pub written_is_weight : (tree : Tree) → SameFraction (written_weight exactly t tree) (elementary_weight t tree)
  written_is_weight tree =
      let f = tree.below in
      let row : ℕ → List (List ℕ) = λ j. map (λ w. j ∷ w) (stage_maps t (nodes f)) in
      let term : ℕ → Fraction = λ j. product_of (product_of (whole 1) (weight_entry t tree.colour j)) (times_sums f j (whole 1)) in
      let each : (j : ℕ) → SameFraction (term j) (sum_by (map_weight t tree) (row j)) =
      λ j.
      same_trans (product_same (one_product (weight_entry t tree.colour j) (weights tree.colour j)) (same_trans (times_sums_same f j (whole 1) one_fraction) (one_product (sums f j) (sums_fraction f j))))
      (subst (λ ts. SameFraction (product_of (weight_entry t tree.colour j) (sums f j)) (sum_onto exactly (whole 0) ts)) (sym (map-map (map_weight t tree) (λ w. j ∷ w) (stage_maps t (nodes f))))
      (sum_by-times (edge_product t f j) (edges_fraction f j) (weight_entry t tree.colour j) (weights tree.colour j) (stage_maps t (nodes f)))) in
      same_trans (sum_by_same term (λ j. sum_by (map_weight t tree) (row j)) (all_stages t) (all_any (λ j. SameFraction (term j) (sum_by (map_weight t tree) (row j))) each (all_stages t)))
      (same_sym (sum_by-flat_map (map_weight t tree) (map_weight_fraction tree) row (all_stages t)))
