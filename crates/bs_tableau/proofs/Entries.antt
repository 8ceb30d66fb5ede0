-- Rows that are kept with further places behind, and rows that are read word by word.
use Rattle.std.proofs.Common.{◌≡◌, ℕ, zero, suc, ◌+◌, ◌*◌, ◌<◌, ◌≤◌, List, [], ◌∷◌, ◌++◌, length, take, map, get_or, set, Some, None, Result, Ok, Err, append_assoc, append-nil, refl, sym, ap, subst, ◌∙◌, arith}
use Rattle.std.specs.List.{AllByRecursion}
use Rattle.std.proofs.Math.Nat.{mul-le-mul_right}
use Rattle.std.proofs.lemmas.List.{get_or-map, get_or-take, get_or_default, take_more_set, length-map, length-take}
use Rattle.bs_frac.specs.Fraction.{Fraction, IsReduced, whole}
use Rattle.bs_frac.specs.Text.{fraction_of}
use Rattle.bs_tableau.specs.Table.{IsRow, entry}
use Rattle.bs_tableau.specs.Rows.{fraction_and, fractions_of}
use Rattle.bs_tableau.specs.declared.builder.TableauFault.{TableauFault}
use Rattle.bs_tableau.specs.declared.builder.TableauFault.TheVariants.{BadFraction}

all_at : {X : Type 0} (P : X → Type 0) (xs : List X) (i : ℕ) (d : X) → AllByRecursion P xs → i < length xs → P (get_or xs i d)
all_at P [] i d h lt = absurd (omega arith)
all_at P (x ∷ xs) zero d h lt = h.0
all_at P (x ∷ xs) (suc i) d h lt = all_at P xs i d h.1 (omega arith)

-- a kept row has a place for each stage
row-long : (rows : List (List Fraction)) (s r : ℕ) (row : List Fraction) → AllByRecursion (IsRow s) (map (take s) rows) → r < length rows → row ≡ get_or rows r row → s ≤ length row
row-long rows s r row h hr e =
    let there : get_or (map (take s) rows) r [] ≡ take s row = get_or-map (take s) rows r row [] hr ∙ ap (take s) (sym e) in
    let is : IsRow s (get_or (map (take s) rows) r []) = all_at (IsRow s) (map (take s) rows) r [] h (omega (arith, length-map rows (take s))) in
    let full : length (take s row) ≡ s = ap length (sym there) ∙ is.full in
    omega (arith, length-take s row, full)

-- what is kept at a row and a column is the table's entry there
pub entry-kept : (rows : List (List Fraction)) (s r c : ℕ) (row : List Fraction) (x : Fraction)
    → AllByRecursion (IsRow s) (map (take s) rows) → r < length rows → c < s → row ≡ get_or rows r row → get_or row c x ≡ entry (map (take s) rows) r c
entry-kept rows s r c row x all hr hc e =
    let hl : c < length row = omega (arith, row-long rows s r row all hr e) in
    let there : get_or (map (take s) rows) r [] ≡ take s row = get_or-map (take s) rows r row [] hr ∙ ap (take s) (sym e) in
    get_or_default row c x (whole 0) hl ∙ sym (get_or-take s row c (whole 0) hc) ∙ ap (λ (xs : List Fraction). get_or xs c (whole 0)) (sym there)

-- ---- reading a row
-- fractions in front of those that are read later
abbrev pub onto_row : List Fraction → Result (List Fraction) TableauFault → Result (List Fraction) TableauFault
onto_row row (Ok more) = Ok (row ++ more)
onto_row row (Err fault) = Err fault

onto_row-and : (row : List Fraction) (x : Fraction) (r : Result (List Fraction) TableauFault) → onto_row row (fraction_and (Some x) r) ≡ onto_row (row ++ x ∷ []) r
onto_row-and row x (Ok more) = ap Ok (sym (append_assoc row (x ∷ []) more))
onto_row-and row x (Err fault) = refl

-- so far the row's fractions come from the words in front
pub record IsReading (all : List (List ℕ)) (row : List Fraction) (filled : ℕ) (left : List (List ℕ)) : Type 0 where
  pub so_far : fractions_of all ≡ onto_row (take filled row) (fractions_of left)
  pub reduced : AllByRecursion IsReduced (take filled row)
  pub count : filled + length left ≡ length all

all_push : (row : List Fraction) (x : Fraction) → AllByRecursion IsReduced row → IsReduced x → AllByRecursion IsReduced (row ++ x ∷ [])
all_push [] x h k = (k, tt)
all_push (y ∷ ys) x h k = (h.0, all_push ys x h.1 k)

pub reading-starts : (all : List (List ℕ)) (row : List Fraction) → IsReading all row 0 all
reading-starts all row = record { so_far = nothing (fractions_of all); reduced = tt; count = omega arith }
  where
    nothing : (r : Result (List Fraction) TableauFault) → r ≡ onto_row [] r
    nothing (Ok more) = refl
    nothing (Err fault) = refl

pub reading-more : (all : List (List ℕ)) (row : List Fraction) (filled : ℕ) (left : List (List ℕ)) (word : List ℕ) (rest : List (List ℕ)) (x : Fraction)
    → IsReading all row filled left → left ≡ word ∷ rest → fraction_of word ≡ Some x → IsReduced x → filled < length row → IsReading all (set row filled x) (filled + 1) rest
reading-more all row filled left word rest x h e f r lt =
    let more : take (filled + 1) (set row filled x) ≡ take filled row ++ x ∷ [] = take_more_set row filled x lt in
    record {
      so_far =
          h.so_far ∙ ap (λ ws. onto_row (take filled row) (fractions_of ws)) e
          ∙ ap (λ o. onto_row (take filled row) (fraction_and o (fractions_of rest))) f
          ∙ onto_row-and (take filled row) x (fractions_of rest) ∙ ap (λ xs. onto_row xs (fractions_of rest)) (sym more);
      reduced = subst (AllByRecursion IsReduced) (sym more) (all_push (take filled row) x h.reduced r);
      count = omega (arith, h.count, ap length e);
    }

pub reading-fails : (all : List (List ℕ)) (row : List Fraction) (filled : ℕ) (left : List (List ℕ)) (word : List ℕ) (rest : List (List ℕ)) (fault : TableauFault)
    → IsReading all row filled left → left ≡ word ∷ rest → fraction_of word ≡ None → fault ≡ BadFraction → fractions_of all ≡ Err fault
reading-fails all row filled left word rest fault h e f g =
    h.so_far ∙ ap (λ ws. onto_row (take filled row) (fractions_of ws)) e
    ∙ ap (λ o. onto_row (take filled row) (fraction_and o (fractions_of rest))) f ∙ ap Err (sym g)

reading-count : (all : List (List ℕ)) (row : List Fraction) (filled : ℕ) (left : List (List ℕ)) → IsReading all row filled left → left ≡ [] → filled ≡ length all
reading-count all row filled left h e = omega (arith, h.count, ap length e)

pub reading-ends : (all : List (List ℕ)) (row : List Fraction) (filled : ℕ) (left : List (List ℕ)) → IsReading all row filled left → left ≡ [] → fractions_of all ≡ Ok (take (length all) row)
reading-ends all row filled left h e =
    h.so_far ∙ ap (λ ws. onto_row (take filled row) (fractions_of ws)) e ∙ ap Ok (append-nil (take filled row))
    ∙ ap (λ n. Ok (take n row)) (reading-count all row filled left h e)

pub reading-reduced : (all : List (List ℕ)) (row : List Fraction) (filled : ℕ) (left : List (List ℕ)) → IsReading all row filled left → left ≡ [] → AllByRecursion IsReduced (take (length all) row)
reading-reduced all row filled left h e = subst (λ n. AllByRecursion IsReduced (take n row)) (reading-count all row filled left h e) h.reduced

-- ---- where a row stands
place_lem : (k c m r : ℕ) → c < k → r < m → c * m + r < k * m
place_lem k c m r h l =
    let more : suc c * m ≤ k * m = mul-le-mul_right m h in
    omega arith

pub place-within : (rows : List (List Fraction)) (s k c r : ℕ) → length (map (take s) rows) ≡ k * (s + 1) → c < k → r < s + 1 → c * (s + 1) + r < length rows
place-within rows s k c r full h l = omega (arith, place_lem k c (s + 1) r h l, length-map rows (take s), full)
