-- Of the plans that are leapt in, the steps behind the first one are those of the rows.
use Rattle.std.proofs.Common.{◌≡◌, ℕ, zero, suc, ◌<◌, List, [], ◌∷◌, ◌++◌, map, length, Option, Some, None, IfSome, false, refl, sym, ◌∙◌, ap, subst, arith}
use Rattle.std.proofs.lemmas.List.{length-map, append-nil}
use Rattle.bs_frac.specs.Fraction.{Fraction}
use Rattle.bs_tree.specs.Code.{IsCode}
use Rattle.bs_catalog.specs.Shelf.{Shelf, Numbers, split_rows, part_rows}
use Rattle.bs_catalog.specs.Gathered.{AreGathered}
use Rattle.bs_catalog.specs.Splitting.{init}
use Rattle.bs_catalog.specs.Partition.{tail}
use Rattle.bs_series.specs.Series.{Series, exact, compose, inverse, substitute, modified, modifying, empty_value}
use Rattle.bs_series.specs.Plan.{at}
use Rattle.bs_series.specs.SeriesCode.{Code, leaf_code}
use Rattle.bs_series.specs.Expressions.{series_at}
use Rattle.bs_eval.specs.Steps.{Step}
use Rattle.bs_eval.specs.Terms.{code_at, steps_of}
use Rattle.bs_eval.specs.Rules.{split_step, split_steps, part_step, whole_step, single_step, adding, subtracting, every, later, codes_at}
use Rattle.bs_eval.specs.Leaps.{IsSigned, IsOver, IsLeap}
use Rattle.bs_eval.specs.declared.term.Operation.TheVariants.{Add, Subtract, Divide}
use Rattle.bs_eval.specs.declared.plan.PartRule.{PartRule}
use Rattle.bs_eval.specs.declared.leap.Leap.{Leap}
use Rattle.bs_eval.proofs.Rows.{RowsAre, split_rows_are, part_rows_are}
use Rattle.bs_eval.proofs.SomeItems.{split_rows_some, part_rows_some}
use Rattle.bs_eval.proofs.PlanRows.{composed_steps, inverse_steps, substituted_steps, modified_steps, modifying_steps}

-- ---- lists without one item
map_tail : {X Y : Type 0} (f : X → Y) (xs : List X) → map f (tail xs) ≡ tail (map f xs)
map_tail f [] = refl
map_tail f (x ∷ xs) = refl

map_init : {X Y : Type 0} (f : X → Y) (xs : List X) → map f (init xs) ≡ init (map f xs)
map_init f [] = refl
map_init f (x ∷ []) = refl
map_init {X} {Y} f (x ∷ (y ∷ ys)) = ap (λ (zs : List Y). f x ∷ zs) (map_init f (y ∷ ys))

tail_count : {X : Type 0} (xs : List X) → 0 < length xs → suc (length (tail xs)) ≡ length xs
tail_count [] h = absurd (omega (arith, h))
tail_count (x ∷ xs) h = refl

init_count : {X : Type 0} (xs : List X) → 0 < length xs → suc (length (init xs)) ≡ length xs
init_count [] h = absurd (omega (arith, h))
init_count (x ∷ []) h = refl
init_count (x ∷ (y ∷ ys)) h = ap suc (init_count (y ∷ ys) (omega arith))

pub record WithLast {X Y : Type 0} (f : X → Y) (xs : List X) : Type 0 where
  pub item : X
  pub is : map f xs ≡ map f (init xs) ++ f item ∷ []

with_last : {X Y : Type 0} (f : X → Y) (xs : List X) → 0 < length xs → WithLast f xs
with_last f [] h = absurd (omega (arith, h))
with_last f (x ∷ []) h = record { item = x; is = refl }
with_last {X} {Y} f (x ∷ (y ∷ ys)) h = let w = with_last f (y ∷ ys) (omega arith) in record { item = w.item; is = ap (λ (zs : List Y). f x ∷ zs) w.is }

pub record WithFirst {X Y : Type 0} (f : X → Y) (xs : List X) : Type 0 where
  pub item : X
  pub is : map f xs ≡ f item ∷ map f (tail xs)

with_first : {X Y : Type 0} (f : X → Y) (xs : List X) → 0 < length xs → WithFirst f xs
with_first f [] h = absurd (omega (arith, h))
with_first f (x ∷ xs) h = record { item = x; is = refl }

-- ---- leaps over rows
module _ (es : List Series) (shelf : Shelf) (code : Code) (n : ℕ) (number : Numbers shelf.codes n code) (r : PartRule) (signed : IsSigned r.operation) (first : Step) (behind steps : List Step) where
  splits_leap : (leap : Leap) → IsOver shelf r n split_rows init leap → first ∷ (map (part_step es r) (init (split_rows code)) ++ behind) ≡ steps → IsLeap es shelf.codes steps leap
  splits_leap leap h e =
      let all = leap.rows.now in
      let ok = split_rows_are shelf.codes all code (h.rows_are code number) in
      let c = ok.count in let s = split_rows_some code in
      let some : 0 < length all = omega (arith, c, s) in
      let rows : codes_at shelf.codes (init all) ≡ init (split_rows code) = map_init (map (code_at shelf.codes)) all ∙ ap init ok.are in
      record {
        rows = init all;
        first = first;
        behind = behind;
        steps_are =
            sym e ∙ ap (λ (ls : List (List Code)). first ∷ (map (part_step es r) ls ++ behind)) (sym rows)
            ∙ ap (λ (q : PartRule). first ∷ (map (part_step es q) (codes_at shelf.codes (init all)) ++ behind)) (sym h.rule_is);
        gathered = h.gathered;
        inside = ok.inside;
        signed = subst (λ (q : PartRule). IsSigned q.operation) (sym h.rule_is) signed;
        count = init_count all some;
      }

  parts_leap : (leap : Leap) → IsOver shelf r n part_rows tail leap → first ∷ (map (part_step es r) (tail (part_rows code)) ++ behind) ≡ steps → IsLeap es shelf.codes steps leap
  parts_leap leap h e =
      let all = leap.rows.now in
      let ok = part_rows_are shelf.codes all code (h.rows_are code number) in
      let c = ok.count in let s = part_rows_some code in
      let some : 0 < length all = omega (arith, c, s) in
      let rows : codes_at shelf.codes (tail all) ≡ tail (part_rows code) = map_tail (map (code_at shelf.codes)) all ∙ ap tail ok.are in
      record {
        rows = tail all;
        first = first;
        behind = behind;
        steps_are =
            sym e ∙ ap (λ (ls : List (List Code)). first ∷ (map (part_step es r) ls ++ behind)) (sym rows)
            ∙ ap (λ (q : PartRule). first ∷ (map (part_step es q) (codes_at shelf.codes (tail all)) ++ behind)) (sym h.rule_is);
        gathered = h.gathered;
        inside = ok.inside;
        signed = subst (λ (q : PartRule). IsSigned q.operation) (sym h.rule_is) signed;
        count = tail_count all some;
      }

  if_splits : (o : Option Leap) → IfSome o (IsOver shelf r n split_rows init) → first ∷ (map (part_step es r) (init (split_rows code)) ++ behind) ≡ steps → IfSome o (IsLeap es shelf.codes steps)
  if_splits None h e = tt
  if_splits (Some leap) h e = splits_leap leap h e

  if_parts : (o : Option Leap) → IfSome o (IsOver shelf r n part_rows tail) → first ∷ (map (part_step es r) (tail (part_rows code)) ++ behind) ≡ steps → IfSome o (IsLeap es shelf.codes steps)
  if_parts None h e = tt
  if_parts (Some leap) h e = parts_leap leap h e

-- ---- rules of splittings as those of partitions
abbrev added : ℕ → ℕ → PartRule
added second first = record { operation = Add; outer = Some second; inner = first }

abbrev subtracted : ℕ → ℕ → PartRule
subtracted own of = record { operation = Subtract; outer = Some own; inner = of }

added_rows : (es : List Series) (second first : ℕ) (e : Fraction) (xs : List (List Code)) → map (split_step es (adding second e first)) xs ≡ map (part_step es (added second first)) xs
added_rows es second first e [] = refl
added_rows es second first e ([] ∷ xs) = ap (λ (ss : List Step). part_step es (added second first) [] ∷ ss) (added_rows es second first e xs)
added_rows es second first e ((code ∷ codes) ∷ xs) = ap (λ (ss : List Step). part_step es (added second first) (code ∷ codes) ∷ ss) (added_rows es second first e xs)

subtracted_rows : (es : List Series) (own of : ℕ) (xs : List (List Code)) → map (split_step es (subtracting own of false)) xs ≡ map (part_step es (subtracted own of)) xs
subtracted_rows es own of [] = refl
subtracted_rows es own of ([] ∷ xs) = ap (λ (ss : List Step). part_step es (subtracted own of) [] ∷ ss) (subtracted_rows es own of xs)
subtracted_rows es own of ((code ∷ codes) ∷ xs) = ap (λ (ss : List Step). part_step es (subtracted own of) (code ∷ codes) ∷ ss) (subtracted_rows es own of xs)

-- ---- by kinds
module _ (es : List Series) (shelf : Shelf) (code : Code) (n : ℕ) (number : Numbers shelf.codes n code) (coded : IsCode code) (own : ℕ) (o : Option Leap) where
  pub composed_leap : (first second : ℕ) → compose (series_at es first) (series_at es second) ≡ series_at es own → IfSome o (IsOver shelf (added second first) n split_rows init)
      → IfSome o (IsLeap es shelf.codes (steps_of (series_at es own) code))
  composed_leap first second is h =
      let e = empty_value (series_at es second) in
      let w = with_last (part_step es (added second first)) (split_rows code) (split_rows_some code) in
      let whole = whole_step es (adding second e first) code in
      if_splits es shelf code n number (added second first) tt whole (part_step es (added second first) w.item ∷ []) (steps_of (series_at es own) code) o h
      (ap (λ (ss : List Step). whole ∷ ss) (sym w.is ∙ sym (added_rows es second first e (split_rows code))) ∙ composed_steps es first second code coded ∙ ap (λ (s : Series). steps_of s code) is)

  pub inverse_leap : (of : ℕ) → inverse (series_at es of) ≡ series_at es own → IfSome o (IsOver shelf (subtracted own of) n split_rows init) → IfSome o (IsLeap es shelf.codes (steps_of (series_at es own) code))
  inverse_leap of is h =
      let whole = whole_step es (subtracting own of false) code in
      if_splits es shelf code n number (subtracted own of) tt whole [] (steps_of (series_at es own) code) o h
      (ap (λ (ss : List Step). whole ∷ ss) (append-nil (map (part_step es (subtracted own of)) (init (split_rows code))) ∙ sym (subtracted_rows es own of (init (split_rows code))))
      ∙ inverse_steps es own of code coded (sym is) ∙ ap (λ (s : Series). steps_of s code) is)

  pub substituted_leap : (inner outer : ℕ) → substitute (series_at es inner) (series_at es outer) ≡ series_at es own → IfSome o (IsOver shelf (every inner outer) n part_rows tail)
      → IfSome o (IsLeap es shelf.codes (steps_of (series_at es own) code))
  substituted_leap inner outer is h =
      let w = with_first (part_step es (every inner outer)) (part_rows code) (part_rows_some code) in
      let one = part_step es (every inner outer) w.item in
      if_parts es shelf code n number (every inner outer) tt one [] (steps_of (series_at es own) code) o h
      (ap (λ (ss : List Step). one ∷ ss) (append-nil (map (part_step es (every inner outer)) (tail (part_rows code)))) ∙ sym w.is
      ∙ substituted_steps es inner outer code coded ∙ ap (λ (s : Series). steps_of s code) is)

  pub modified_leap : (of : ℕ) → modified (series_at es of) ≡ series_at es own → IfSome o (IsOver shelf (later None own) n part_rows tail) → IfSome o (IsLeap es shelf.codes (steps_of (series_at es own) code))
  modified_leap of is h =
      let one = single_step Add (at (series_at es of) code) in
      if_parts es shelf code n number (later None own) tt one [] (steps_of (series_at es own) code) o h
      (ap (λ (ss : List Step). one ∷ ss) (append-nil (map (part_step es (later None own)) (tail (part_rows code)))) ∙ modified_steps es own of code coded (sym is) ∙ ap (λ (s : Series). steps_of s code) is)

  pub modifying_leap : (of : ℕ) → modifying (series_at es of) ≡ series_at es own → IfSome o (IsOver shelf (later (Some of) own) n part_rows tail) → IfSome o (IsLeap es shelf.codes (steps_of (series_at es own) code))
  modifying_leap of is h =
      let one = single_step Add (at (exact 1) code) in
      if_parts es shelf code n number (later (Some of) own) tt one (single_step Divide (at (series_at es of) leaf_code) ∷ []) (steps_of (series_at es own) code) o h
      (modifying_steps es own of code coded (sym is) ∙ ap (λ (s : Series). steps_of s code) is)
