-- The checked written weight agrees with the exact one.
use Rattle.std.proofs.Common.{ℕ, suc, zero, ◌+◌, List, [], ◌∷◌, get_or}
use Rattle.std.specs.List.{AllByRecursion}
use Rattle.bs_frac.specs.Fraction.{Fraction, IsReduced, SameFraction, whole}
use Rattle.bs_frac.specs.Written.{Arithmetic, exactly, checked, Keeps, Agrees, RelatedLists, product_all}
use Rattle.bs_frac.specs.declared.coef.Coef.{Coef}
use Rattle.bs_frac.specs.declared.coef.Coef.TheVariants.{Value, Overflow}
use Rattle.bs_frac.proofs.Same.{same_trans}
use Rattle.bs_frac.proofs.Products.{zero_reduced}
use Rattle.bs_frac.proofs.WrittenSums.{keeps_fold_map, keeps_zero, keeps_product, checked_agrees}
use Rattle.bs_tree.specs.Tree.{Forest, none, grow, Tree}
use Rattle.bs_tableau.specs.Table.{Table, IsRow, IsBegun, entry, matrix_entry, weight_entry, first_row, all_stages}
use Rattle.bs_tableau.specs.WrittenWeight.{edge_sum, edge_sums, stage_value, written_weight}
use Rattle.bs_tableau.specs.ElementaryWeight.{elementary_weight}
use Rattle.bs_tableau.specs.Laws.{IfValue, WrittenIsWeight}
use Rattle.bs_tableau.proofs.MapSums.{written_is_weight}

-- ---- each entry is reduced, also one past the rows
at_or_zero : (row : List Fraction) (i : ℕ) → AllByRecursion IsReduced row → IsReduced (get_or row i (whole 0))
at_or_zero [] i h = zero_reduced
at_or_zero (x ∷ xs) zero h = h.0
at_or_zero (x ∷ xs) (suc i) h = at_or_zero xs i h.1

row_or_none : (s : ℕ) (rows : List (List Fraction)) (r : ℕ) → AllByRecursion (IsRow s) rows → AllByRecursion IsReduced (get_or rows r [])
row_or_none s [] r h = tt
row_or_none s (x ∷ xs) zero h = h.0.reduced
row_or_none s (x ∷ xs) (suc r) h = row_or_none s xs r h.1

entry_reduced : (t : Table) → IsBegun t → (r j : ℕ) → IsReduced (entry t.rows r j)
entry_reduced t h r j = at_or_zero (get_or t.rows r []) j (row_or_none t.stages t.rows r h.each)

-- ---- the written weight keeps what the operations keep
module _ (A B : Arithmetic) (R : A.Number → B.Number → Type 0) (k : Keeps A B R) (t : Table) (fine : (r j : ℕ) → IsReduced (entry t.rows r j)) where
  pair_kept : (x : Fraction) (a : A.Number) (b : B.Number) → IsReduced x → R a b → R (product_all A (A.of x ∷ a ∷ [])) (product_all B (B.of x ∷ b ∷ []))
  pair_kept x a b h r = keeps_product A B R k (A.of x ∷ a ∷ []) (B.of x ∷ b ∷ []) (k.of x h, (r, tt))

  edge_sum_kept : (c i : ℕ) (p : ℕ → A.Number) (q : ℕ → B.Number) → ((j : ℕ) → R (p j) (q j)) → R (edge_sum A t c i p) (edge_sum B t c i q)
  edge_sum_kept c i p q h =
      keeps_fold_map A B R A.sum B.sum k.sum (λ j. product_all A (A.of (matrix_entry t c i j) ∷ p j ∷ [])) (λ j. product_all B (B.of (matrix_entry t c i j) ∷ q j ∷ []))
      (λ j. pair_kept (matrix_entry t c i j) (p j) (q j) (fine (first_row t c + i) j) (h j)) (all_stages t) (A.of (whole 0)) (B.of (whole 0)) (keeps_zero A B R k)

  edge_sums_kept : (f : Forest) (i : ℕ) → RelatedLists R (edge_sums A t f i) (edge_sums B t f i)
  edge_sums_kept none i = tt
  edge_sums_kept (grow c kids rest) i = (
    edge_sum_kept c i (stage_value A t kids) (stage_value B t kids) (λ j. keeps_product A B R k (edge_sums A t kids j) (edge_sums B t kids j) (edge_sums_kept kids j)),
    edge_sums_kept rest i,
  )

  pub weight_kept : (tree : Tree) → R (written_weight A t tree) (written_weight B t tree)
  weight_kept tree =
      let p = stage_value A t tree.below in let q = stage_value B t tree.below in
      keeps_fold_map A B R A.sum B.sum k.sum (λ j. product_all A (A.of (weight_entry t tree.colour j) ∷ p j ∷ [])) (λ j. product_all B (B.of (weight_entry t tree.colour j) ∷ q j ∷ []))
      (λ j. pair_kept (weight_entry t tree.colour j) (p j) (q j) (fine (first_row t tree.colour + t.stages) j) (keeps_product A B R k (edge_sums A t tree.below j) (edge_sums B t tree.below j) (edge_sums_kept tree.below j)))
      (all_stages t) (A.of (whole 0)) (B.of (whole 0)) (keeps_zero A B R k)

is_value : (c : Coef) (u v : Fraction) → Agrees c u → SameFraction u v → IfValue c (λ x. SameFraction x v)
is_value (Value x) u v h e = same_trans h.1 e
is_value Overflow u v h e = tt

pub written_is_weight_law : WrittenIsWeight
written_is_weight_law t h tree =
    let fine = entry_reduced t h in
    is_value (written_weight checked t tree) (written_weight exactly t tree) (elementary_weight t tree)
    (weight_kept checked exactly Agrees checked_agrees t fine tree)
    (written_is_weight t (λ c i j. (fine (first_row t c + i) j).positive) (λ c j. (fine (first_row t c + t.stages) j).positive) tree)
