-- A value is its plan carried out over the values.
use Rattle.std.proofs.Common.{◌≡◌, ℕ, suc, zero, List, [], ◌∷◌, map, Option, Some, None, replicate, refl, sym, ◌∙◌, ap, ap₂}
use Rattle.bs_frac.specs.Fraction.{Fraction, whole}
use Rattle.bs_frac.specs.Written.{Arithmetic, product_all, sum_onto, less_all, add, subtract, with_term}
use Rattle.bs_tree.specs.Tree.{Tree, order}
use Rattle.bs_split.specs.Splitting.{Split, splits, init}
use Rattle.bs_part.specs.Partition.{Part, parts, leaf, tail}
use Rattle.bs_series.specs.Series.{Series, exact, identity, method, compose, inverse, adjoint, average, substitute, modified, modifying, scale, empty_value}
use Rattle.bs_series.specs.Value.{at_kept, split_term, part_term, inverse_step, signed_by, solved_step, exact_value, valued}
use Rattle.bs_series.specs.Plan.{term_map, Factor, fixed, at, turned, turned_factors, plan, kept_factor, split_factors, part_factors, factor_value, carried_out, HasPlan}
use Rattle.bs_series.proofs.Solve.{solution_unfold}
use Rattle.bs_series.proofs.Inverse.{inverse_local}
use Rattle.bs_series.proofs.Solved.{solved_local}
use Rattle.std.specs.List.{fold}
use Rattle.std.proofs.Common.{length, option_map}
use Rattle.bs_frac.specs.Written.{exactly, checked, written_sum, Term}
use Rattle.bs_tree.specs.Canonical.{level_sequence}
use Rattle.bs_tree.specs.Code.{tree_of}
use Rattle.bs_tree.specs.SubtreeLaws.{tree_of-level_sequence, length-level_sequence_at}
use Rattle.bs_tableau.specs.Table.{Table}
use Rattle.bs_tableau.specs.ElementaryWeight.{elementary_weight}
use Rattle.bs_tableau.specs.WrittenWeight.{written_weight}
use Rattle.bs_series.specs.Value.{value, written, table_at}
use Rattle.bs_series.specs.Plan.{divided, Plan}
use Rattle.bs_series.specs.SeriesCode.{Code, coded_factor, coded_plan, factor_at, divided_at, carried_out_at}
use Rattle.bs_series.specs.Laws.{PlannedAtLaw}

module _ (A : Arithmetic) (weight : ℕ → Tree → A.Number) where
  abbrev look : Series → Tree → A.Number
  look = valued A weight

  values_at : (a : Series) (ts : List Tree) → map (factor_value A look) (map (at a) ts) ≡ map (look a) ts
  values_at a [] = refl
  values_at a (t ∷ ts) = ap (λ vs. look a t ∷ vs) (values_at a ts)

  turned_at : (a : Series) (ts : List Tree) → map (factor_value A look) (map (turned a) ts) ≡ map (λ t. signed_by A (order t) (look a t)) ts
  turned_at a [] = refl
  turned_at a (t ∷ ts) = ap (λ vs. signed_by A (order t) (look a t) ∷ vs) (turned_at a ts)

  kept_value : (b : Series) (e : Fraction) (o : Option Tree) → factor_value A look (kept_factor b e o) ≡ at_kept A (A.of e) (look b) o
  kept_value b e None = refl
  kept_value b e (Some t) = refl

  split_value : (a : Series) (e : Fraction) (b : Series) (s : Split) → product_all A (map (factor_value A look) (split_factors a e b s)) ≡ split_term A (look a) (A.of e) (look b) s
  split_value a e b s = ap₂ (λ v vs. product_all A (v ∷ vs)) (kept_value b e s.kept) (values_at a s.forest)

  turned_value : (a b : Series) (s : Split) → product_all A (map (factor_value A look) (turned_factors a b s)) ≡ split_term A (λ t. signed_by A (order t) (look a t)) (A.of (whole 1)) (look b) s
  turned_value a b s = ap₂ (λ v vs. product_all A (v ∷ vs)) (kept_value b (whole 1) s.kept) (turned_at a s.forest)

  part_value : (a b : Series) (p : Part) → product_all A (map (factor_value A look) (part_factors a b p)) ≡ part_term A (look a) (look b) p
  part_value a b p = ap (λ vs. product_all A (look a p.skeleton ∷ vs)) (values_at b p.parts)

  adds : {X : Type 0} (f : X → List (Factor Tree)) (g : X → A.Number) → ((x : X) → product_all A (map (factor_value A look) (f x)) ≡ g x) → (xs : List X) (z : A.Number)
      → fold (with_term A) z (map (term_map (factor_value A look)) (map (λ x. add (f x)) xs)) ≡ sum_onto A z (map g xs)
  adds f g h [] z = refl
  adds f g h (x ∷ xs) z = ap (λ v. fold (with_term A) (A.sum z v) (map (term_map (factor_value A look)) (map (λ y. add (f y)) xs))) (h x) ∙ adds f g h xs (A.sum z (g x))

  subtracts : {X : Type 0} (f : X → List (Factor Tree)) (g : X → A.Number) → ((x : X) → product_all A (map (factor_value A look) (f x)) ≡ g x) → (xs : List X) (z : A.Number)
      → fold (with_term A) z (map (term_map (factor_value A look)) (map (λ x. subtract (f x)) xs)) ≡ less_all A z (map g xs)
  subtracts f g h [] z = refl
  subtracts f g h (x ∷ xs) z = ap (λ v. fold (with_term A) (A.difference z v) (map (term_map (factor_value A look)) (map (λ y. subtract (f y)) xs))) (h x) ∙ subtracts f g h xs (A.difference z (g x))

  pub planned : (s : Series) → HasPlan s → (t : Tree) → valued A weight s t ≡ carried_out A look (plan s t)
  planned (exact k) h t = absurd h
  planned (identity k) h t = absurd h
  planned (method n k) h t = absurd h
  planned (compose a b) h t = sym (adds (split_factors a (empty_value b) b) (split_term A (look a) (A.of (empty_value b)) (look b)) (split_value a (empty_value b) b) (splits t) (A.of (whole 0)))
  planned (inverse a) h t =
      solution_unfold (A.of (whole 0)) (inverse_step A (look a)) (inverse_local A (look a)) t
      ∙ sym (subtracts (split_factors a (whole 1) (inverse a)) (split_term A (look a) (A.of (whole 1)) (look (inverse a))) (split_value a (whole 1) (inverse a)) (init (splits t)) (A.of (whole 0)))
  planned (adjoint a) h t =
      solution_unfold (A.of (whole 0)) (inverse_step A (λ u. signed_by A (order u) (look a u))) (inverse_local A (λ u. signed_by A (order u) (look a u))) t
      ∙ sym (subtracts (turned_factors a (adjoint a)) (split_term A (λ u. signed_by A (order u) (look a u)) (A.of (whole 1)) (look (adjoint a))) (turned_value a (adjoint a)) (init (splits t)) (A.of (whole 0)))
  planned (average k) h t = absurd h
  planned (substitute b a) h t = sym (adds (part_factors a b) (part_term A (look a) (look b)) (part_value a b) (parts t) (A.of (whole 0)))
  planned (modified a) h t =
      solution_unfold (A.of (whole 0)) (solved_step A (λ u. A.of (exact_value u)) (look a)) (solved_local A (λ u. A.of (exact_value u)) (look a)) t
      ∙ sym (subtracts (part_factors (exact 1) (modified a)) (part_term A (look (exact 1)) (look (modified a))) (part_value (exact 1) (modified a)) (tail (parts t)) (A.sum (A.of (whole 0)) (product_all A (look a t ∷ []))))
  planned (modifying a) h t =
      solution_unfold (A.of (whole 0)) (λ b u. A.quotient (solved_step A (look a) (λ v. A.of (exact_value v)) b u) (look a leaf))
      (λ x y u g. ap (λ v. A.quotient v (look a leaf)) (solved_local A (look a) (λ v. A.of (exact_value v)) x y u g)) t
      ∙ ap (λ v. A.quotient v (look a leaf)) (sym (subtracts (part_factors a (modifying a)) (part_term A (look a) (look (modifying a))) (part_value a (modifying a)) (tail (parts t)) (A.sum (A.of (whole 0)) (product_all A (look (exact 1) t ∷ [])))))
  planned (scale a c) h t = ap (λ vs. A.sum (A.of (whole 0)) (product_all A (look a t ∷ vs))) (powers (order t))
    where
      powers : (n : ℕ) → replicate n (A.of c) ≡ map (factor_value A look) (replicate n (fixed c))
      powers zero = refl
      powers (suc n) = ap (λ vs. A.of c ∷ vs) (powers n)

-- ---- of exact and of written values, by trees and by codes
pub planned_exact : (tables : List Table) (s : Series) → HasPlan s → (t : Tree) → value tables s t ≡ carried_out exactly (value tables) (plan s t)
planned_exact tables s h t = planned exactly (λ n u. elementary_weight (table_at tables n) u) s h t

pub planned_written : (tables : List Table) (s : Series) → HasPlan s → (t : Tree) → written tables s t ≡ carried_out checked (written tables) (plan s t)
planned_written tables s h t = planned checked (λ n u. written_weight checked (table_at tables n) u) s h t

pub length-level_sequence : (t : Tree) → length (level_sequence t) ≡ order t
length-level_sequence t = ap suc (length-level_sequence_at 2 t.below)

module _ (A : Arithmetic) (look : Series → Tree → A.Number) where
  abbrev by_code : Series → Code → A.Number
  by_code s code = look s (tree_of code)

  coded_value : (f : Factor Tree) → factor_at A by_code (coded_factor f) ≡ factor_value A look f
  coded_value (fixed c) = refl
  coded_value (at s t) = ap (look s) (tree_of-level_sequence t)
  coded_value (turned s t) = ap₂ (λ n u. signed_by A n (look s u)) (length-level_sequence t) (tree_of-level_sequence t)

  coded_values : (fs : List (Factor Tree)) → map (factor_at A by_code) (map coded_factor fs) ≡ map (factor_value A look) fs
  coded_values [] = refl
  coded_values (f ∷ fs) = ap₂ (λ (v : A.Number) vs. v ∷ vs) (coded_value f) (coded_values fs)

  coded_terms : (ts : List (Term (Factor Tree))) → map (term_map (factor_at A by_code)) (map (term_map coded_factor) ts) ≡ map (term_map (factor_value A look)) ts
  coded_terms [] = refl
  coded_terms (add fs ∷ ts) = ap₂ (λ (v : List A.Number) vs. add v ∷ vs) (coded_values fs) (coded_terms ts)
  coded_terms (subtract fs ∷ ts) = ap₂ (λ (v : List A.Number) vs. subtract v ∷ vs) (coded_values fs) (coded_terms ts)

  coded_divided : (z : A.Number) (d : Option (Factor Tree)) → divided_at A by_code z (option_map coded_factor d) ≡ divided A look z d
  coded_divided z None = refl
  coded_divided z (Some f) = ap (A.quotient z) (coded_value f)

  pub coded_out : (p : Plan Tree) → carried_out_at A by_code (coded_plan p) ≡ carried_out A look p
  coded_out p = coded_divided _ p.divisor ∙ ap (λ ts. divided A look (written_sum A ts) p.divisor) (coded_terms p.terms)

pub planned_at : PlannedAtLaw
planned_at tables s h code = planned_written tables s h (tree_of code) ∙ sym (coded_out checked (written tables) (plan s (tree_of code)))
