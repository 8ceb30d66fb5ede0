-- The steps of a plan are those of the rows of its tree.
use Rattle.std.proofs.Common.{◌≡◌, ℕ, zero, suc, ◌<◌, List, [], ◌∷◌, ◌++◌, map, length, replicate, Some, None, Option, false, true, refl, sym, ◌∙◌, ap, ap₂, subst, arith}
use Rattle.std.proofs.lemmas.List.{length-map, append-nil}
use Rattle.bs_frac.specs.Fraction.{Fraction, whole}
use Rattle.bs_frac.specs.Written.{Term, add, subtract}
use Rattle.bs_tree.specs.Code.{tree_of, IsCode}
use Rattle.bs_catalog.specs.Shelf.{split_row, split_rows, part_row, part_rows}
use Rattle.bs_catalog.specs.Splitting.{Cuts, SplitCodes, cuts, rooted, codes_of, init, split_codes}
use Rattle.bs_catalog.specs.Partition.{PartCodes, part_codes, tail}
use Rattle.bs_series.specs.Series.{Series, exact, compose, inverse, adjoint, substitute, modified, modifying, scale, empty_value}
use Rattle.bs_series.specs.Plan.{Factor, fixed, at, turned}
use Rattle.bs_series.specs.PlanItems.{split_code_factors, turned_code_factors, part_code_factors, plan_by_items}
use Rattle.bs_series.specs.SeriesCode.{Code, leaf_code, plan_at}
use Rattle.bs_series.specs.Expressions.{series_at}
use Rattle.bs_series.proofs.Items.{items_law}
use Rattle.bs_eval.specs.Steps.{Step, plan_steps, term_step}
use Rattle.bs_eval.specs.Terms.{steps_of}
use Rattle.bs_eval.specs.declared.term.Operation.TheVariants.{Add, Divide}
use Rattle.bs_eval.specs.Rules.{split_step, split_steps, part_step, whole_step, single_step, powers_step, adding, subtracting, every, later}
use Rattle.bs_eval.proofs.SomeItems.{split_rows_some}

-- ---- splittings that keep the root
module _ (g : SplitCodes → Term (Factor Code)) (h : List Code → Step) (c : ℕ) (same : (x : Cuts) → term_step (g (codes_of (rooted c x))) ≡ h (split_row (codes_of (rooted c x)))) where
  all_rooted : (xs : List Cuts) → map term_step (map g (map codes_of (map (rooted c) xs))) ≡ map h (map split_row (map codes_of (map (rooted c) xs)))
  all_rooted [] = refl
  all_rooted (x ∷ xs) = ap₂ (λ (s : Step) (ss : List Step). s ∷ ss) (same x) (all_rooted xs)

  but_last_rooted : (xs : List Cuts) → map term_step (map g (init (map codes_of (map (rooted c) xs)))) ≡ map h (init (map split_row (map codes_of (map (rooted c) xs))))
  but_last_rooted [] = refl
  but_last_rooted (x ∷ []) = refl
  but_last_rooted (x ∷ (y ∷ ys)) = ap₂ (λ (s : Step) (ss : List Step). s ∷ ss) (same x) (but_last_rooted (y ∷ ys))

-- the first item stays where others follow
init_later : {X : Type 0} (x : X) (xs : List X) → 0 < length xs → init (x ∷ xs) ≡ x ∷ init xs
init_later x [] l = absurd (omega (arith, l))
init_later x (y ∷ ys) l = refl

part_steps : (g : PartCodes → Term (Factor Code)) (h : List Code → Step) → ((x : PartCodes) → term_step (g x) ≡ h (part_row x)) → (xs : List PartCodes) → map term_step (map g xs) ≡ map h (map part_row xs)
part_steps g h same [] = refl
part_steps g h same (x ∷ xs) = ap₂ (λ (s : Step) (ss : List Step). s ∷ ss) (same x) (part_steps g h same xs)

tail_rows : (xs : List PartCodes) → map part_row (tail xs) ≡ tail (map part_row xs)
tail_rows [] = refl
tail_rows (x ∷ xs) = refl

by_items : (s : Series) (code : Code) → IsCode code → plan_steps (plan_by_items s code) ≡ steps_of s code
by_items s code is = ap plan_steps (sym (items_law s code is))

cuts_length : (code : Code) → 0 < length (map codes_of (map (rooted (tree_of code).colour) (cuts (tree_of code).below)))
cuts_length code = let h = split_rows_some code in let a = length-map (map codes_of (map (rooted (tree_of code).colour) (cuts (tree_of code).below))) split_row in omega (arith, h, a)

-- ---- by kinds
pub composed_steps : (es : List Series) (first second : ℕ) (code : Code) → IsCode code
    → split_steps es (adding second (empty_value (series_at es second)) first) code (split_rows code) ≡ steps_of (compose (series_at es first) (series_at es second)) code
composed_steps es first second code is =
    let a = series_at es first in let b = series_at es second in let t = tree_of code in let e = empty_value b in let r = adding second e first in
    ap₂ (λ (x : Code) (ss : List Step). (let s : Step = record { operation = Add; factors = fixed e ∷ at a x ∷ [] } in s) ∷ ss) (sym is.canonical)
    (sym (all_rooted (λ s. add (split_code_factors a e b s)) (split_step es r) t.colour (λ x. refl) (cuts t.below)) ∙ sym (append-nil _))
    ∙ by_items (compose a b) code is

pub inverse_steps : (es : List Series) (own of : ℕ) (code : Code) → IsCode code → series_at es own ≡ inverse (series_at es of)
    → split_steps es (subtracting own of false) code (init (split_rows code)) ≡ steps_of (inverse (series_at es of)) code
inverse_steps es own of code is k =
    let a = series_at es of in let t = tree_of code in let r = subtracting own of false in
    let g : SplitCodes → Term (Factor Code) = λ s. subtract (split_code_factors a (whole 1) (inverse a) s) in
    ap₂ (λ (x : Code) (ss : List Step). term_step (subtract (fixed (whole 1) ∷ at a x ∷ [])) ∷ ss) (sym is.canonical)
    (sym (but_last_rooted g (split_step es r) t.colour (λ x. ap (λ (b : Series). term_step (subtract (split_code_factors a (whole 1) b (codes_of (rooted t.colour x))))) (sym k)) (cuts t.below)) ∙ sym (append-nil _))
    ∙ ap (λ xs. map term_step (map g xs) ++ []) (sym (init_later _ _ (cuts_length code)))
    ∙ by_items (inverse a) code is

pub adjoint_steps : (es : List Series) (own of : ℕ) (code : Code) → IsCode code → series_at es own ≡ adjoint (series_at es of)
    → split_steps es (subtracting own of true) code (init (split_rows code)) ≡ steps_of (adjoint (series_at es of)) code
adjoint_steps es own of code is k =
    let a = series_at es of in let t = tree_of code in let r = subtracting own of true in
    let g : SplitCodes → Term (Factor Code) = λ s. subtract (turned_code_factors a (adjoint a) s) in
    ap₂ (λ (x : Code) (ss : List Step). term_step (subtract (fixed (whole 1) ∷ turned a x ∷ [])) ∷ ss) (sym is.canonical)
    (sym (but_last_rooted g (split_step es r) t.colour (λ x. ap (λ (b : Series). term_step (subtract (turned_code_factors a b (codes_of (rooted t.colour x))))) (sym k)) (cuts t.below)) ∙ sym (append-nil _))
    ∙ ap (λ xs. map term_step (map g xs) ++ []) (sym (init_later _ _ (cuts_length code)))
    ∙ by_items (adjoint a) code is

pub substituted_steps : (es : List Series) (inner outer : ℕ) (code : Code) → IsCode code
    → map (part_step es (every inner outer)) (part_rows code) ≡ steps_of (substitute (series_at es inner) (series_at es outer)) code
substituted_steps es inner outer code is =
    let b = series_at es inner in let a = series_at es outer in
    sym (part_steps (λ p. add (part_code_factors a b p)) (part_step es (every inner outer)) (λ x. refl) (part_codes code)) ∙ sym (append-nil _)
    ∙ by_items (substitute b a) code is

later_steps : (es : List Series) (o : Option ℕ) (own : ℕ) (a b : Series) (code : Code) → series_at es own ≡ b → ((x : PartCodes) → term_step (subtract (part_code_factors a (series_at es own) x)) ≡ part_step es (later o own) (part_row x))
    → map (part_step es (later o own)) (tail (part_rows code)) ≡ map term_step (map (λ p. subtract (part_code_factors a b p)) (tail (part_codes code)))
later_steps es o own a b code k same =
    ap (map (part_step es (later o own))) (sym (tail_rows (part_codes code)))
    ∙ sym (part_steps (λ p. subtract (part_code_factors a b p)) (part_step es (later o own)) (λ x. ap (λ (s : Series). term_step (subtract (part_code_factors a s x))) (sym k) ∙ same x) (tail (part_codes code)))

pub modified_steps : (es : List Series) (own of : ℕ) (code : Code) → IsCode code → series_at es own ≡ modified (series_at es of)
    → single_step Add (at (series_at es of) code) ∷ map (part_step es (later None own)) (tail (part_rows code)) ≡ steps_of (modified (series_at es of)) code
modified_steps es own of code is k =
    let a = series_at es of in
    ap (λ (ss : List Step). single_step Add (at a code) ∷ ss) (later_steps es None own (exact 1) (modified a) code k (λ x. refl) ∙ sym (append-nil _))
    ∙ by_items (modified a) code is

pub modifying_steps : (es : List Series) (own of : ℕ) (code : Code) → IsCode code → series_at es own ≡ modifying (series_at es of)
    → single_step Add (at (exact 1) code) ∷ (map (part_step es (later (Some of) own)) (tail (part_rows code)) ++ single_step Divide (at (series_at es of) leaf_code) ∷ [])
    ≡ steps_of (modifying (series_at es of)) code
modifying_steps es own of code is k =
    let a = series_at es of in
    ap (λ (ss : List Step). single_step Add (at (exact 1) code) ∷ (ss ++ single_step Divide (at a leaf_code) ∷ [])) (later_steps es (Some of) own a (modifying a) code k (λ x. refl))
    ∙ by_items (modifying a) code is

pub scaled_steps : (es : List Series) (of : ℕ) (by : Fraction) (code : Code) → IsCode code → powers_step (series_at es of) by code ∷ [] ≡ steps_of (scale (series_at es of) by) code
scaled_steps es of by code is = by_items (scale (series_at es of) by) code is
