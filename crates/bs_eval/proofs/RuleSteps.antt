-- The steps of rules, by places.
use Rattle.std.proofs.Common.{◌≡◌, ℕ, zero, suc, ◌+◌, ◌<◌, ◌≤◌, List, [], ◌∷◌, ◌++◌, map, take, drop, length, Some, None, Option, ◌≢◌, Bool, true, false, cond, slice_get, slice_index_or, refl, sym, ◌∙◌, ap, ap₂, subst, arith, length-append}
use Rattle.std.proofs.lemmas.List.{length-map}
use Rattle.bs_series.specs.Series.{Series}
use Rattle.bs_series.specs.Plan.{Factor, at, turned}
use Rattle.bs_series.specs.SeriesCode.{Code}
use Rattle.bs_series.specs.Expressions.{series_at}
use Rattle.bs_catalog.specs.Partition.{tail}
use Rattle.bs_eval.specs.Steps.{Step}
use Rattle.bs_eval.specs.Terms.{code_at, step_in, rest_in, factor_in}
use Rattle.bs_eval.specs.Rules.{cut_factor, whole_step, split_step, split_steps, part_step, outer_in, codes_at, IsTermAt}
use Rattle.bs_eval.specs.declared.term.Term.{Term}
use Rattle.bs_eval.specs.declared.term.Rest.{Rest}
use Rattle.bs_eval.specs.declared.plan.SplitRule.{SplitRule}
use Rattle.bs_eval.specs.declared.plan.PartRule.{PartRule}
use Rattle.bs_eval.proofs.Rows.{mapped_at, taken_at, length_taken}

-- ---- a row
pub split_row_step : (es : List Series) (cs : List Code) (r : SplitRule) (row : List ℕ) (fs : List (Factor Code)) → 0 < length row → fs ≡ map (cut_factor es r) (map (code_at cs) (drop 1 row))
    → (let s : Step = record { operation = r.operation; factors = at (series_at es r.kept) (code_at cs (slice_index_or row 0 0)) ∷ fs } in s) ≡ split_step es r (map (code_at cs) row)
split_row_step es cs r [] fs l e = absurd (omega (arith, l))
split_row_step es cs r (n ∷ ns) fs l e = ap (λ (gs : List (Factor Code)). let s : Step = record { operation = r.operation; factors = at (series_at es r.kept) (code_at cs n) ∷ gs } in s) e

pub each_at : (es : List Series) (cs : List Code) (id : ℕ) (ns : List ℕ) → map (λ n. at (series_at es id) (code_at cs n)) ns ≡ map (at (series_at es id)) (map (code_at cs) ns)
each_at es cs id [] = refl
each_at es cs id (n ∷ ns) = ap (λ (fs : List (Factor Code)). at (series_at es id) (code_at cs n) ∷ fs) (each_at es cs id ns)

pub part_row_step : (es : List Series) (cs : List Code) (r : PartRule) (row ns : List ℕ) (f : Factor Code) → 0 < length row → f ≡ at (outer_in es r.outer) (code_at cs (slice_index_or row 0 0)) → ns ≡ drop 1 row
    → (let s : Step = record { operation = r.operation; factors = f ∷ map (λ n. at (series_at es r.inner) (code_at cs n)) ns } in s) ≡ part_step es r (map (code_at cs) row)
part_row_step es cs r [] ns f l a e = absurd (omega (arith, l))
part_row_step es cs r (n ∷ more) ns f l a e =
    ap₂ (λ (g : Factor Code) (gs : List (Factor Code)). let s : Step = record { operation = r.operation; factors = g ∷ gs } in s) a
    (ap (λ (ms : List ℕ). map (λ n. at (series_at es r.inner) (code_at cs n)) ms) e ∙ each_at es cs r.inner more)

-- ---- the splitting that keeps nothing, and the first rows
pub split_first : (es : List Series) (cs : List Code) (r : SplitRule) (tree : ℕ) (rows : List (List ℕ)) (count place : ℕ) (s : Step) → place ≡ 0 → s ≡ whole_step es r (code_at cs tree)
    → slice_get (split_steps es r (code_at cs tree) (take count (codes_at cs rows))) place ≡ Some s
split_first es cs r tree rows count place s z e =
    subst (λ p. slice_get (split_steps es r (code_at cs tree) (take count (codes_at cs rows))) p ≡ Some s) (sym z) (ap (λ x. Some x) (sym e))

pub split_later : (es : List Series) (cs : List Code) (r : SplitRule) (tree : ℕ) (rows : List (List ℕ)) (count place p : ℕ) (row : List ℕ) (s : Step) → place ≡ suc p → place ≤ count
    → slice_get rows p ≡ Some row → s ≡ split_step es r (map (code_at cs) row)
    → slice_get (split_steps es r (code_at cs tree) (take count (codes_at cs rows))) place ≡ Some s
split_later es cs r tree rows count place p row s z l g e =
    let a = mapped_at (map (code_at cs)) rows p row g in
    let b = taken_at count (codes_at cs rows) p (map (code_at cs) row) (omega (arith, z, l)) a in
    let d = mapped_at (split_step es r) (take count (codes_at cs rows)) p (map (code_at cs) row) b in
    subst (λ q. slice_get (split_steps es r (code_at cs tree) (take count (codes_at cs rows))) q ≡ Some s) (sym z) (d ∙ ap (λ x. Some x) (sym e))

pub split_behind : (es : List Series) (cs : List Code) (r : SplitRule) (tree : ℕ) (rows : List (List ℕ)) (count place : ℕ) → count < place
    → length (split_steps es r (code_at cs tree) (take count (codes_at cs rows))) ≤ place
split_behind es cs r tree rows count place l =
    let a = length_taken count (codes_at cs rows) in let b = length-map (take count (codes_at cs rows)) (split_step es r) in omega (arith, l, a, b)

-- ---- rows of partitions
pub part_at : (es : List Series) (cs : List Code) (r : PartRule) (rows : List (List ℕ)) (place : ℕ) (row : List ℕ) (s : Step) → slice_get rows place ≡ Some row → s ≡ part_step es r (map (code_at cs) row)
    → slice_get (map (part_step es r) (codes_at cs rows)) place ≡ Some s
part_at es cs r rows place row s g e =
    mapped_at (part_step es r) (codes_at cs rows) place (map (code_at cs) row) (mapped_at (map (code_at cs)) rows place row g) ∙ ap (λ x. Some x) (sym e)

pub part_behind : (es : List Series) (cs : List Code) (r : PartRule) (rows : List (List ℕ)) (place : ℕ) → length rows ≤ place → length (map (part_step es r) (codes_at cs rows)) ≤ place
part_behind es cs r rows place l =
    let a = length-map rows (map (code_at cs)) in let b = length-map (codes_at cs rows) (part_step es r) in omega (arith, l, a, b)

-- ---- behind a first step of another kind
pub behind_first : {X : Type 0} (f : X → Step) (xs : List X) (h : Step) (place : ℕ) (s : Step) → 0 < place → slice_get (map f xs) place ≡ Some s → slice_get (h ∷ map f (tail xs)) place ≡ Some s
behind_first f xs h zero s l g = absurd (omega (arith, l))
behind_first f [] h (suc p) s l g = g
behind_first f (x ∷ xs) h (suc p) s l g = g

pub past_first : {X : Type 0} (f : X → Step) (xs : List X) (h : Step) (place : ℕ) → 0 < place → length (map f xs) ≤ place → length (h ∷ map f (tail xs)) ≤ place
past_first f [] h place l g = omega (arith, l)
past_first f (x ∷ xs) h place l g = g

pub before_last : (xs ys : List Step) (place : ℕ) (s : Step) → slice_get xs place ≡ Some s → slice_get (xs ++ ys) place ≡ Some s
before_last [] ys zero s g = absurd (cc)
before_last [] ys (suc p) s g = absurd (cc)
before_last (x ∷ xs) ys zero s g = g
before_last (x ∷ xs) ys (suc p) s g = before_last xs ys p s g

pub at_last : (xs : List Step) (place : ℕ) (s : Step) → length xs ≡ place → slice_get (xs ++ s ∷ []) place ≡ Some s
at_last [] zero s e = refl
at_last [] (suc p) s e = absurd (omega (arith, e))
at_last (x ∷ xs) zero s e = absurd (omega (arith, e))
at_last (x ∷ xs) (suc p) s e = at_last xs p s (omega (arith, e))

pub last_place : {X : Type 0} (f : X → Step) (xs : List X) (h : Step) (n : ℕ) → 0 < length xs → length xs ≡ n → length (h ∷ map f (tail xs)) ≡ n
last_place f [] h n l e = absurd (omega (arith, l))
last_place f (x ∷ xs) h n l e = let m = length-map xs f in omega (arith, m, e)

-- ---- the trees that are cut off
pub cut_turned : (es : List Series) (cs : List Code) (r : SplitRule) (ns : List ℕ) → r.turned ≡ true → map (λ n. turned (series_at es r.cut) (code_at cs n)) ns ≡ map (cut_factor es r) (map (code_at cs) ns)
cut_turned es cs r [] e = refl
cut_turned es cs r (n ∷ ns) e =
    ap₂ (λ (f : Factor Code) (fs : List (Factor Code)). f ∷ fs)
    (ap (λ (b : Bool). cond b (turned (series_at es r.cut) (code_at cs n)) (at (series_at es r.cut) (code_at cs n))) (sym e)) (cut_turned es cs r ns e)

pub cut_plain : (es : List Series) (cs : List Code) (r : SplitRule) (ns : List ℕ) → r.turned ≡ false → map (λ n. at (series_at es r.cut) (code_at cs n)) ns ≡ map (cut_factor es r) (map (code_at cs) ns)
cut_plain es cs r [] e = refl
cut_plain es cs r (n ∷ ns) e =
    ap₂ (λ (f : Factor Code) (fs : List (Factor Code)). f ∷ fs)
    (ap (λ (b : Bool). cond b (turned (series_at es r.cut) (code_at cs n)) (at (series_at es r.cut) (code_at cs n))) (sym e)) (cut_plain es cs r ns e)

-- ---- terms
pub later_term : {X : Type 0} (es : List Series) (cs : List Code) (f : X → Step) (xs : List X) (h : Step) (place : ℕ) (t : Option Term) → 0 < place → IsTermAt es cs (map f xs) place t → IsTermAt es cs (h ∷ map f (tail xs)) place t
later_term es cs f xs h place None l g = past_first f xs h place l g
later_term es cs f xs h place (Some t) l g = behind_first f xs h place (step_in es cs t) l g

pub inner_term : {X : Type 0} (es : List Series) (cs : List Code) (f : X → Step) (xs : List X) (h d : Step) (place : ℕ) (t : Option Term) → 0 < place → 0 < length xs → place ≢ length xs → IsTermAt es cs (map f xs) place t
    → IsTermAt es cs (h ∷ (map f (tail xs) ++ d ∷ [])) place t
inner_term es cs f xs h d place None l s other g =
    let a = length-map xs f in let b = last_place f xs h (length xs) s refl in let e = length-append (h ∷ map f (tail xs)) (d ∷ []) in omega (arith, a, b, e, g, other)
inner_term es cs f xs h d place (Some t) l s other g = before_last (h ∷ map f (tail xs)) (d ∷ []) place (step_in es cs t) (behind_first f xs h place (step_in es cs t) l g)
