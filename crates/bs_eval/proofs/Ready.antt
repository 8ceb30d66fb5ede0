-- The steps of a plan are ready, and not many.
use Rattle.std.proofs.Common.{◌≡◌, ℕ, suc, ◌+◌, ◌^◌, ◌<◌, ◌≤◌, List, [], ◌∷◌, ◌++◌, map, length, Option, Some, None, refl, sym, ◌∙◌, ap, subst, append_assoc, length-append, arith}
use Rattle.std.specs.List.{flat_map, AllByRecursion}
use Rattle.std.proofs.lemmas.List.{length-map}
use Rattle.bs_frac.specs.Written.{Term, add, subtract}
use Rattle.bs_tableau.specs.Table.{Table}
use Rattle.bs_tree.specs.Tree.{Tree, nodes, order}
use Rattle.bs_tree.specs.Code.{tree_of, IsCode}
use Rattle.bs_tree.specs.SubtreeLaws.{code_sequence}
use Rattle.bs_catalog.specs.Splitting.{splits, init}
use Rattle.bs_catalog.specs.Partition.{parts, tail}
use Rattle.bs_series.specs.Series.{Series, exact, identity, average, method, compose, inverse, adjoint, substitute, modified, modifying, scale, colours_of}
use Rattle.bs_series.specs.Plan.{Factor, Plan, HasPlan, plan, term_factors, term_map, divisor_factors}
use Rattle.bs_series.specs.SeriesCode.{Code, HasItsColours, IsColouredCode, coded_factor, plan_at}
use Rattle.bs_series.specs.Accepted.{IsSuitable, Suits}
use Rattle.bs_series.specs.Expressions.{series_at}
use Rattle.bs_series.proofs.Colours.{colours_law}
use Rattle.bs_series.proofs.Planned.{length-level_sequence}
use Rattle.bs_eval.specs.Steps.{term_step, divisor_steps, plan_steps}
use Rattle.bs_eval.specs.Terms.{steps_of}
use Rattle.bs_eval.specs.Frames.{IsReady, IsPlanned}
use Rattle.bs_eval.proofs.Lists.{all_at}
use Rattle.bs_series.proofs.Averages.{pow_small}
use Rattle.bs_eval.proofs.Counts.{splits_few, parts_few}

two_parts : {X : Type 0} (P : X → Type 0) (xs ys : List X) → AllByRecursion P (xs ++ ys) → AllByRecursion P xs × AllByRecursion P ys
two_parts P [] ys h = (tt, h)
two_parts P (x ∷ xs) ys h = let r = two_parts P xs ys h.1 in ((h.0, r.0), r.1)

ready : (ts : List (Term (Factor Code))) (d : Option (Factor Code)) → AllByRecursion HasItsColours (flat_map term_factors ts ++ divisor_factors d) → AllByRecursion IsReady (map term_step ts ++ divisor_steps d)
ready [] None h = tt
ready [] (Some f) h = (record { fits = h; divisor = refl }, tt)
ready (add fs ∷ ts) d h =
    let r = two_parts HasItsColours fs (flat_map term_factors ts ++ divisor_factors d) (subst (AllByRecursion HasItsColours) (append_assoc fs (flat_map term_factors ts) (divisor_factors d)) h) in
    (record { fits = r.0; divisor = tt }, ready ts d r.1)
ready (subtract fs ∷ ts) d h =
    let r = two_parts HasItsColours fs (flat_map term_factors ts ++ divisor_factors d) (subst (AllByRecursion HasItsColours) (append_assoc fs (flat_map term_factors ts) (divisor_factors d)) h) in
    (record { fits = r.0; divisor = tt }, ready ts d r.1)

-- ---- how many
divisor_few : (d : Option (Factor Code)) → length (divisor_steps d) ≤ 1
divisor_few None = omega arith
divisor_few (Some f) = omega arith

steps_few : (p : Plan Code) → length (plan_steps p) ≤ suc (length p.terms)
steps_few p = omega (arith, length-append (map term_step p.terms) (divisor_steps p.divisor), length-map p.terms term_step, divisor_few p.divisor)

init_few : {X : Type 0} (xs : List X) → length (init xs) ≤ length xs
init_few [] = omega arith
init_few (x ∷ []) = omega arith
init_few (x ∷ (y ∷ ys)) = omega (arith, init_few (y ∷ ys))

tail_few : {X : Type 0} (xs : List X) → length (tail xs) ≤ length xs
tail_few [] = omega arith
tail_few (x ∷ xs) = omega arith

mapped : {X Y : Type 0} (f : X → Y) (xs : List X) (n : ℕ) → length xs ≤ n → length (map f xs) ≤ n
mapped f xs n h = omega (arith, length-map xs f, h)

mapped_after : {X Y : Type 0} (f : X → Y) (xs : List X) (n : ℕ) → length xs ≤ n → suc (length (map f xs)) ≤ suc n
mapped_after f xs n h = omega (arith, length-map xs f, h)

terms_few : (s : Series) (t : Tree) → length (plan s t).terms ≤ suc (2 ^ nodes t.below + 1)
terms_few (exact k) t = omega arith
terms_few (identity k) t = omega arith
terms_few (average k) t = omega arith
terms_few (method n k) t = omega arith
terms_few (compose a b) t = mapped _ (splits t) (suc (2 ^ nodes t.below + 1)) (omega (arith, splits_few t))
terms_few (inverse a) t = mapped _ (init (splits t)) (suc (2 ^ nodes t.below + 1)) (omega (arith, init_few (splits t), splits_few t))
terms_few (adjoint a) t = mapped _ (init (splits t)) (suc (2 ^ nodes t.below + 1)) (omega (arith, init_few (splits t), splits_few t))
terms_few (substitute b a) t = mapped _ (parts t) (suc (2 ^ nodes t.below + 1)) (omega (arith, parts_few t))
terms_few (modified a) t = mapped_after _ (tail (parts t)) (2 ^ nodes t.below + 1) (omega (arith, tail_few (parts t), parts_few t))
terms_few (modifying a) t = mapped_after _ (tail (parts t)) (2 ^ nodes t.below + 1) (omega (arith, tail_few (parts t), parts_few t))
terms_few (scale a c) t = omega arith

pub few : (s : Series) (code : Code) → IsCode code → length (steps_of s code) < 2 ^ 20
few s code is =
    let t = tree_of code in
    let n : length code ≡ order t = ap length (sym (code_sequence code is)) ∙ length-level_sequence t in
    let p : 2 ^ nodes t.below ≤ 2 ^ 16 = pow_small (nodes t.below) (omega (arith, n, is.small)) in
    omega (arith, steps_few (plan_at s code), length-map (plan s t).terms (term_map coded_factor), terms_few s t, p)

pub is_planned : (tables : List Table) (es : List Series) (i : ℕ) (code : Code) → Suits tables es → i < length es → HasPlan (series_at es i) → IsCode code → IsColouredCode (colours_of (series_at es i)) code → IsPlanned es i code
is_planned tables es i code suits h p is c =
    let s = series_at es i in
    let fit = all_at (IsSuitable tables) es i (exact 0) suits h in
    let q = plan_at s code in record {
      in_book = h;
      planned = p;
      ready = ready q.terms q.divisor (colours_law s code is fit.colours c);
      few = few s code is;
    }
