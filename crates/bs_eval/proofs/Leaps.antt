-- The terms that a sum leaps over are those of the rows that are gathered, in whatever order.
use Rattle.std.proofs.Common.{◌≡◌, ℕ, zero, suc, ◌+◌, ◌<◌, ◌≤◌, List, [], ◌∷◌, ◌++◌, map, take, drop, fold, length, replicate, Option, Some, None, IfSome, MatchOption, Bool, true, false, slice_get, refl, sym, ◌∙◌, ap, ap₂, subst, arith, add-one, length-append}
use Rattle.std.specs.List.{AllByRecursion}
use Rattle.std.specs.List.Sorted.{IsPermutation}
use Rattle.std.proofs.lemmas.List.{take_all, map-append, length-map, append_assoc, append-nil}
use Rattle.std.proofs.lemmas.List.Sums.{fold-append}
use Rattle.std.proofs.lemmas.List.Sorted.{IsPermutation-refl, IsPermutation-sym, IsPermutation-cons, IsPermutation-map}
use Rattle.bs_frac.specs.Written.{checked, product_all, Term, add, subtract, with_term}
use Rattle.bs_frac.specs.Gathered.{Multiplied, IsProductOf, Total, Gathers, term_of, AlikeTerm, AlikeTerms}
use Rattle.bs_frac.specs.declared.coef.Coef.{Coef}
use Rattle.bs_frac.proofs.Reordered.{terms_in_any_order}
use Rattle.bs_tree.specs.Code.{child_codes}
use Rattle.bs_tableau.specs.Table.{Table}
use Rattle.bs_catalog.specs.Gathered.{IsKeyOf, AreKeys, Shows, gathered_key, expanded, AreGathered}
use Rattle.bs_catalog.specs.declared.gathering.Gathered.{Gathered}
use Rattle.bs_series.specs.Series.{Series}
use Rattle.bs_series.specs.Plan.{Factor, at}
use Rattle.bs_series.specs.SeriesCode.{Code, factor_at, written_at}
use Rattle.bs_series.specs.Expressions.{series_at}
use Rattle.bs_eval.specs.Steps.{Step, applied, values, with_step, carried}
use Rattle.bs_eval.specs.Terms.{code_at}
use Rattle.bs_eval.specs.Values.{forest_values}
use Rattle.bs_eval.specs.Rules.{outer_in, part_step, codes_at, IsRowIn, AreIn}
use Rattle.bs_eval.specs.Frames.{steps_at, step_factors, ProductIs, IsOn}
use Rattle.bs_eval.specs.Counted.{term_count, counted_steps, counted}
use Rattle.bs_eval.specs.Turns.{factors_calls, steps_calls, ahead}
use Rattle.bs_eval.specs.Leaps.{key_values, key_term, is_negative, IsSigned, IsLeap}
use Rattle.bs_eval.specs.declared.term.Operation.{Operation}
use Rattle.bs_eval.specs.declared.term.Operation.TheVariants.{Add, Subtract, Divide}
use Rattle.bs_eval.specs.declared.plan.PartRule.{PartRule}
use Rattle.bs_eval.specs.declared.leap.Leap.{Leap}
use Rattle.bs_eval.specs.declared.frame.Frame.{Frame}
use Rattle.bs_eval.proofs.Lists.{take_next}
use Rattle.bs_eval.proofs.Products.{fresh}
use Rattle.bs_eval.proofs.Falls.{by_steps}

-- ---- a term
term_step_is : (o : Operation) (z : Coef) (vs : List Coef) → IsSigned o → applied z o vs ≡ with_term checked z (term_of (is_negative o) vs)
term_step_is Add z vs h = refl
term_step_is Subtract z vs h = refl
term_step_is Divide z vs h = absurd h

module _ (tables : List Table) (es : List Series) (cs : List Code) (r : PartRule) where
  abbrev look : Series → Code → Coef
  look = written_at tables

  abbrev pub row_term : List Code → Term Coef
  row_term codes = term_of (is_negative r.operation) (values look (part_step es r codes).factors)

  row_step : (codes : List Code) (z : Coef) → IsSigned r.operation → with_step look z (part_step es r codes) ≡ with_term checked z (row_term codes)
  row_step [] z h = term_step_is r.operation z (values look (part_step es r []).factors) h
  row_step (code ∷ codes) z h = term_step_is r.operation z (values look (part_step es r (code ∷ codes)).factors) h

  pub carried_rows : (lists : List (List Code)) (z : Coef) → IsSigned r.operation → carried look z (map (part_step es r) lists) ≡ fold (with_term checked) z (map row_term lists)
  carried_rows [] z h = refl
  carried_rows (codes ∷ lists) z h =
      ap (λ (x : Coef). carried look x (map (part_step es r) lists)) (row_step codes z h) ∙ carried_rows lists (with_term checked z (row_term codes)) h

  -- ---- a row and its key
  values_at : (s : Series) (codes : List Code) → values look (map (at s) codes) ≡ map (look s) codes
  values_at s [] = refl
  values_at s (code ∷ codes) = ap (λ (vs : List Coef). look s code ∷ vs) (values_at s codes)

  alike_signs : (b : Bool) (us vs : List Coef) → IsPermutation us vs → AlikeTerm (term_of b us) (term_of b vs)
  alike_signs true us vs h = h
  alike_signs false us vs h = h

  row_values : (row : List ℕ) (key : ℕ × ℕ) → IsKeyOf cs row key → IsPermutation (key_values tables es cs r key) (values look (part_step es r (map (code_at cs) row)).factors)
  row_values row key h =
      let codes = map (code_at cs) h.rest in
      let first = look (outer_in es r.outer) (code_at cs key.0) in
      let kids = child_codes (code_at cs key.1) in
      let own = look (series_at es r.inner) in
      let p : IsPermutation (map own kids) (map own codes) = IsPermutation-map own kids codes (IsPermutation-sym codes kids h.forest) in
      let e : map own codes ≡ values look (map (at (series_at es r.inner)) codes) = sym (values_at (series_at es r.inner) codes) in
      let q : IsPermutation (first ∷ map own kids) (first ∷ values look (map (at (series_at es r.inner)) codes)) =
      IsPermutation-cons first (map own kids) (values look (map (at (series_at es r.inner)) codes)) (subst (IsPermutation (map own kids)) e p) in
      subst (λ (ns : List ℕ). IsPermutation (key_values tables es cs r key) (values look (part_step es r (map (code_at cs) ns)).factors)) (sym h.is) q

  alike_rows : (rows : List (List ℕ)) (keys : List (ℕ × ℕ)) → AreKeys cs rows keys → AlikeTerms (map (key_term tables es cs r) keys) (map row_term (codes_at cs rows))
  alike_rows [] [] h = tt
  alike_rows [] (key ∷ keys) h = absurd h
  alike_rows (row ∷ rows) [] h = absurd h
  alike_rows (row ∷ rows) (key ∷ keys) h =
      (alike_signs (is_negative r.operation) (key_values tables es cs r key) (values look (part_step es r (map (code_at cs) row)).factors) (row_values row key h.0), alike_rows rows keys h.1)

  pub gathers_rows : (z : Coef) (w : Total) (all rows : List (List ℕ)) (gs : List Gathered) → AreGathered cs all rows gs → Gathers z w (map (key_term tables es cs r) (expanded gs)) → Gathers z w (map row_term (codes_at cs rows))
  gathers_rows z w all rows gs h g =
      terms_in_any_order z w (map (key_term tables es cs r) (expanded gs)) (map (key_term tables es cs r) h.keys) (map row_term (codes_at cs rows)) g
      (IsPermutation-map (key_term tables es cs r) (expanded gs) h.keys (IsPermutation-sym h.keys (expanded gs) h.same)) (alike_rows rows h.keys h.each)

  -- ---- one more of what is gathered
  map_times : (n : ℕ) (key : ℕ × ℕ) → map (key_term tables es cs r) (replicate n key) ≡ replicate n (key_term tables es cs r key)
  map_times zero key = refl
  map_times (suc n) key = ap (λ (ts : List (Term Coef)). key_term tables es cs r key ∷ ts) (map_times n key)

  expanded_append : (gs hs : List Gathered) → expanded (gs ++ hs) ≡ expanded gs ++ expanded hs
  expanded_append [] hs = refl
  expanded_append (g ∷ gs) hs =
      ap (λ (ks : List (ℕ × ℕ)). replicate g.times (gathered_key g) ++ ks) (expanded_append gs hs)
      ∙ sym (append_assoc (replicate g.times (gathered_key g)) (expanded gs) (expanded hs))

  pub more_terms : (gs : List Gathered) (k : ℕ) (g : Gathered) → slice_get gs k ≡ Some g
      → map (key_term tables es cs r) (expanded (take (k + 1) gs)) ≡ map (key_term tables es cs r) (expanded (take k gs)) ++ replicate g.times (key_term tables es cs r (gathered_key g))
  more_terms gs k g e =
      ap (λ (hs : List Gathered). map (key_term tables es cs r) (expanded hs)) (take_next gs k g e)
      ∙ ap (map (key_term tables es cs r)) (expanded_append (take k gs) (g ∷ []))
      ∙ map-append (key_term tables es cs r) (expanded (take k gs)) (expanded (g ∷ []))
      ∙ ap (λ (ts : List (Term Coef)). map (key_term tables es cs r) (expanded (take k gs)) ++ ts)
      (ap (map (key_term tables es cs r)) (append-nil (replicate g.times (gathered_key g))) ∙ map_times g.times (gathered_key g))

  -- the sum of all that is gathered
  pub sum_is : (z x : Coef) (w : Total) (k : ℕ) (steps : List Step) (leap : Leap) → (h : IsLeap es cs steps leap) → leap.rule ≡ r → length leap.gathered.now ≤ k → Gathers z w (map (key_term tables es cs r) (expanded (take k leap.gathered.now)))
      → ((terms others : List (Term Coef)) → Gathers z w terms → IsPermutation terms others → x ≡ fold (with_term checked) z others) → x ≡ carried look z (map (part_step es r) (codes_at cs h.rows))
  sum_is z x w k steps leap h e l g written =
      let all : take k leap.gathered.now ≡ leap.gathered.now = take_all k leap.gathered.now l in
      let g2 = gathers_rows z w leap.rows.now h.rows leap.gathered.now h.gathered (subst (λ (gs : List Gathered). Gathers z w (map (key_term tables es cs r) (expanded gs))) all g) in
      let ts = map row_term (codes_at cs h.rows) in
      written ts ts g2 (IsPermutation-refl ts) ∙ sym (carried_rows (codes_at cs h.rows) z (subst (λ (q : PartRule). IsSigned q.operation) e h.signed))

  pub if_product : (o : Option Multiplied) (v : Coef) (key : ℕ × ℕ) → v ≡ look (outer_in es r.outer) (code_at cs key.0) → IfSome o (λ x. IsProductOf x (v ∷ forest_values tables es cs r.inner key.1)) → IfSome o (λ x. IsProductOf x (key_values tables es cs r key))
  if_product None v key is p = tt
  if_product (Some x) v key is p = subst (λ (w : Coef). IsProductOf x (w ∷ forest_values tables es cs r.inner key.1)) is p

-- ---- the row that shows a key
pub record ShownRow (cs : List Code) (key : ℕ × ℕ) (row rest : List ℕ) : Type 0 where
  pub some : 0 < length row
  pub known : key.1 < length cs
  pub within : AllByRecursion (λ n. n < length cs) rest
  pub forest : IsPermutation (map (code_at cs) rest) (child_codes (code_at cs key.1))

pub shown_row : (cs : List Code) (all : List (List ℕ)) (place : ℕ) (key : ℕ × ℕ) (row rest : List ℕ) (s : Shows cs all place key) → slice_get all place ≡ Some row
    → ((first : ℕ) (ns : List ℕ) → row ≡ first ∷ ns → rest ≡ ns) → ShownRow cs key row rest
shown_row cs all place key row rest s there is =
    let same : s.row ≡ row = (let e : Some s.row ≡ Some row = sym s.is ∙ there in cc) in
    let k = s.key_is in
    let e : rest ≡ k.rest = is key.0 k.rest (sym same ∙ k.is) in
    record {
      some = subst (λ (ns : List ℕ). 0 < length ns) (sym k.is ∙ same) (omega arith);
      known = k.known;
      within = subst (AllByRecursion (λ n. n < length cs)) (sym e) k.within;
      forest = subst (λ (ns : List ℕ). IsPermutation (map (code_at cs) ns) (child_codes (code_at cs key.1))) (sym e) k.forest;
    }

-- ---- the frame
pub carried_behind : (look : Series → Code → Coef) (z : Coef) (xs ys : List Step) → carried look z (xs ++ ys) ≡ carried look (carried look z xs) ys
carried_behind look z xs ys = fold-append (with_step look) z xs ys

dropped : {X : Type 0} (xs ys : List X) → drop (length xs) (xs ++ ys) ≡ ys
dropped [] ys = refl
dropped (x ∷ xs) ys = dropped xs ys

taken : {X : Type 0} (xs ys : List X) → take (length xs) (xs ++ ys) ≡ xs
taken {X} [] [] = refl
taken {X} [] (y ∷ ys) = refl
taken {X} (x ∷ xs) ys = ap (λ (zs : List X). x ∷ zs) (taken xs ys)

signed_count : (o : Operation) → IsSigned o → term_count o ≡ 1
signed_count Add h = refl
signed_count Subtract h = refl
signed_count Divide h = absurd h

part_count : (es : List Series) (r : PartRule) (codes : List Code) → IsSigned r.operation → term_count (part_step es r codes).operation ≡ 1
part_count es r [] h = signed_count r.operation h
part_count es r (code ∷ codes) h = signed_count r.operation h

counted_rows : (es : List Series) (r : PartRule) (lists : List (List Code)) → IsSigned r.operation → counted_steps (map (part_step es r) lists) ≡ length lists
counted_rows es r [] h = refl
counted_rows es r (codes ∷ lists) h = omega (arith, part_count es r codes h, counted_rows es r lists h)

fewer_steps : (xs ys : List Step) → steps_calls ys ≤ steps_calls (xs ++ ys)
fewer_steps [] ys = omega arith
fewer_steps (x ∷ xs) ys = let h = fewer_steps xs ys in omega (arith, h)

module _ (es : List Series) (cs : List Code) (steps : List Step) (leap : Leap) (h : IsLeap es cs steps leap) (count : ℕ) (all : suc count ≡ length leap.rows.now) where
  abbrev over : List Step
  over = map (part_step es leap.rule) (codes_at cs h.rows)

  over_count : length over ≡ count
  over_count = omega (arith, length-map (codes_at cs h.rows) (part_step es leap.rule), length-map h.rows (map (code_at cs)), h.count, all)

  pub leapt_count : counted_steps (take (suc count) steps) ≡ counted_steps (take 1 steps) + count
  leapt_count =
      let more : take count (over ++ h.behind) ≡ over = ap (λ (k : ℕ). take k (over ++ h.behind)) (sym over_count) ∙ taken over h.behind in
      let far : counted_steps (take (suc count) steps) ≡ term_count h.first.operation + counted_steps over =
      ap (λ (ss : List Step). counted_steps (take (suc count) ss)) h.steps_are ∙ ap (λ (ss : List Step). term_count h.first.operation + counted_steps ss) more in
      let near : counted_steps (take 1 steps) ≡ term_count h.first.operation + 0 =
      ap (λ (ss : List Step). counted_steps (take 1 ss)) h.steps_are ∙ ap (λ (ss : List Step). term_count h.first.operation + counted_steps ss) (none_taken (over ++ h.behind)) in
      omega (arith, far, near, counted_rows es leap.rule (codes_at cs h.rows) h.signed, over_count, length-map (codes_at cs h.rows) (part_step es leap.rule))
    where
      none_taken : (ss : List Step) → take 0 ss ≡ []
      none_taken [] = refl
      none_taken (s ∷ ss) = refl

  left_is : drop (suc count) steps ≡ h.behind
  left_is = ap (drop (suc count)) h.steps_are ∙ ap (λ (k : ℕ). drop k (over ++ h.behind)) (sym over_count) ∙ dropped over h.behind

  before_is : drop 1 steps ≡ over ++ h.behind
  before_is = ap (drop 1) h.steps_are

  pub leapt_calls : steps_calls (drop (suc count) steps) ≤ steps_calls (drop 1 steps)
  leapt_calls = omega (arith, ap steps_calls left_is, ap steps_calls before_is, fewer_steps over h.behind)

  pub leapt_sum : (look : Series → Code → Coef) (z x : Coef) → x ≡ carried look z over → carried look x (drop (suc count) steps) ≡ carried look z (drop 1 steps)
  leapt_sum look z x e =
      ap (carried look x) left_is ∙ ap (λ (y : Coef). carried look y h.behind) e ∙ sym (carried_behind look z over h.behind) ∙ ap (carried look z) (sym before_is)

-- ---- a frame behind its first term
module _ (es : List Series) (cs : List Code) (f : Frame) (leap : Leap) (h : IsLeap es cs (steps_at es f) leap) (count : ℕ) (all : suc count ≡ length leap.rows.now) (first : f.place ≡ 1) where
  place_is : f.place + count ≡ suc count
  place_is = omega (arith, first)

  pub frame_counted : counted_steps (take (f.place + count) (steps_at es f)) ≡ counted es f + count
  frame_counted =
      ap (λ (k : ℕ). counted_steps (take k (steps_at es f))) place_is ∙ leapt_count es cs (steps_at es f) leap h count all
      ∙ ap (λ (k : ℕ). counted_steps (take k (steps_at es f)) + count) (sym first)

  pub frame_ahead : (x y : Coef) → f.known ≡ 0 → ahead es (record f { sum = x; place = f.place + count; product = y }) ≤ ahead es f
  frame_ahead x y known =
      let g : Frame = record f { sum = x; place = f.place + count; product = y } in
      let a : ahead es f ≡ steps_calls (drop 1 (steps_at es f)) =
      ap₂ (λ (m n : ℕ). factors_calls (drop m (step_factors (slice_get (steps_at es f) n))) + steps_calls (drop (suc n) (steps_at es f))) known first ∙ by_steps (steps_at es f) 1 in
      let b : ahead es g ≡ steps_calls (drop (suc count) (steps_at es f)) =
      ap₂ (λ (m n : ℕ). factors_calls (drop m (step_factors (slice_get (steps_at es f) n))) + steps_calls (drop (suc n) (steps_at es f))) known place_is ∙ by_steps (steps_at es f) (suc count) in
      omega (arith, a, b, leapt_calls es cs (steps_at es f) leap h count all)

  pub frame_on : (tables : List Table) (x y : Coef) → f.known ≡ 0 → x ≡ carried (written_at tables) f.sum (map (part_step es leap.rule) (codes_at cs h.rows)) → y ≡ product_all checked [] → IsOn tables es f
      → IsOn tables es (record f { sum = x; place = f.place + count; product = y })
  frame_on tables x y known is one on =
      let ss = steps_at es f in let look = written_at tables in
      record {
        comes_to =
            ap (λ (k : ℕ). carried look x (drop k ss)) place_is ∙ leapt_sum es cs ss leap h count all look f.sum x is
            ∙ ap (λ (k : ℕ). carried look f.sum (drop k ss)) (sym first) ∙ on.comes_to;
        product =
            subst (λ (w : Coef). ProductIs tables es w f.known (slice_get ss (f.place + count))) (sym one)
            (subst (λ (k : ℕ). ProductIs tables es (product_all checked []) k (slice_get ss (f.place + count))) (sym known) (fresh tables es (slice_get ss (f.place + count))));
      }
