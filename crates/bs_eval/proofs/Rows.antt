-- Rows of numbers by their places, and the codes that they stand for.
use Rattle.std.proofs.Common.{◌≡◌, ℕ, zero, suc, ◌+◌, ◌<◌, ◌≤◌, List, [], ◌∷◌, map, take, length, Some, slice_get, refl, sym, ◌∙◌, ap, ap₂, subst, arith, drop, length-drop, ◌-◌, slice_index_or}
use Rattle.std.proofs.lemmas.List.{length-map, take_all}
use Rattle.std.specs.List.{AllByRecursion}
use Rattle.std.proofs.lemmas.Option.{get_or_from_slice_get, slice_get_within}
use Rattle.bs_catalog.specs.Shelf.{Code, Numbers, AreNumbers, AreRows, split_row, split_rows, part_row, part_rows}
use Rattle.bs_tree.specs.Code.{tree_of}
use Rattle.bs_tree.specs.Tree.{Forest, none, grow}
use Rattle.bs_catalog.specs.Splitting.{SplitCodes, Cuts, cuts, cut_off, keep, init, split_codes}
use Rattle.bs_catalog.specs.Partition.{PartCodes, part_codes}
use Rattle.bs_eval.specs.Terms.{code_at}
use Rattle.bs_eval.specs.Rules.{codes_at, IsRowIn, AreIn}

-- ---- places
pub mapped_at : {X Y : Type 0} (f : X → Y) (xs : List X) (p : ℕ) (x : X) → slice_get xs p ≡ Some x → slice_get (map f xs) p ≡ Some (f x)
mapped_at f [] p x h = absurd (let w : p < 0 = slice_get_within [] p x h in omega (arith, w))
mapped_at f (y ∷ xs) zero x h = let e : y ≡ x = cc in ap (λ z. Some (f z)) e
mapped_at f (y ∷ xs) (suc p) x h = mapped_at f xs p x h

pub taken_at : {X : Type 0} (n : ℕ) (xs : List X) (p : ℕ) (x : X) → p < n → slice_get xs p ≡ Some x → slice_get (take n xs) p ≡ Some x
taken_at n [] p x l h = absurd (let w : p < 0 = slice_get_within [] p x h in omega (arith, w))
taken_at zero (y ∷ xs) p x l h = absurd (omega (arith, l))
taken_at (suc n) (y ∷ xs) zero x l h = h
taken_at (suc n) (y ∷ xs) (suc p) x l h = taken_at n xs p x (omega (arith, l)) h

pub length_taken : {X : Type 0} (n : ℕ) (xs : List X) → length (take n xs) ≤ n
length_taken zero [] = omega arith
length_taken zero (x ∷ xs) = omega arith
length_taken (suc n) [] = omega arith
length_taken (suc n) (x ∷ xs) = let h = length_taken n xs in omega (arith, h)

pub all_of : {X : Type 0} (P : X → Type 0) (xs : List X) (p : ℕ) (x : X) → AllByRecursion P xs → slice_get xs p ≡ Some x → P x
all_of P [] p x a h = absurd (let w : p < 0 = slice_get_within [] p x h in omega (arith, w))
all_of P (y ∷ xs) zero x a h = let e : y ≡ x = cc in subst P e a.0
all_of P (y ∷ xs) (suc p) x a h = all_of P xs p x a.1 h

pub init_taken : {X : Type 0} (n : ℕ) (xs : List X) → suc n ≡ length xs → take n xs ≡ init xs
init_taken n [] h = absurd (omega (arith, h))
init_taken zero (x ∷ []) h = refl
init_taken zero (x ∷ (y ∷ ys)) h = absurd (omega (arith, h))
init_taken (suc n) (x ∷ []) h = absurd (omega (arith, h))
init_taken {X} (suc n) (x ∷ (y ∷ ys)) h = ap (λ (zs : List X). x ∷ zs) (init_taken n (y ∷ ys) (omega (arith, h)))

-- ---- rows of numbers
pub record RowsAre (cs : List Code) (rows : List (List ℕ)) (lists : List (List Code)) : Type 0 where
  pub are : codes_at cs rows ≡ lists
  pub inside : AreIn (length cs) rows
  pub some : AllByRecursion (λ row. 0 < length row) rows
  pub count : length rows ≡ length lists

row_is : (cs : List Code) (row : List ℕ) (codes : List Code) → AreNumbers cs row codes → map (code_at cs) row ≡ codes
row_is cs [] [] h = refl
row_is cs [] (code ∷ codes) h = absurd h
row_is cs (n ∷ ns) [] h = absurd h
row_is cs (n ∷ ns) (code ∷ codes) h = ap₂ (λ (c : Code) (ds : List Code). c ∷ ds) (get_or_from_slice_get cs n code [] h.0) (row_is cs ns codes h.1)

row_below : (cs : List Code) (row : List ℕ) (codes : List Code) → AreNumbers cs row codes → AllByRecursion (λ n. n < length cs) row
row_below cs [] [] h = tt
row_below cs [] (code ∷ codes) h = absurd h
row_below cs (n ∷ ns) [] h = absurd h
row_below cs (n ∷ ns) (code ∷ codes) h = (slice_get_within cs n code h.0, row_below cs ns codes h.1)

row_some : (cs : List Code) (row : List ℕ) (codes : List Code) → AreNumbers cs row codes → 0 < length codes → 0 < length row
row_some cs [] [] h l = l
row_some cs [] (code ∷ codes) h l = absurd h
row_some cs (n ∷ ns) codes h l = omega arith

rows_are : (cs : List Code) (rows : List (List ℕ)) (lists : List (List Code)) → AllByRecursion (λ l. 0 < length l) lists → AreRows cs rows lists → RowsAre cs rows lists
rows_are cs [] [] s h = record { are = refl; inside = tt; some = tt; count = refl }
rows_are cs [] (l ∷ ls) s h = absurd h
rows_are cs (r ∷ rs) [] s h = absurd h
rows_are cs (r ∷ rs) (l ∷ ls) s h =
    let on = rows_are cs rs ls s.1 h.1 in let here : 0 < length r = row_some cs r l h.0 s.0 in record {
      are = ap₂ (λ (x : List Code) (xs : List (List Code)). x ∷ xs) (row_is cs r l h.0) on.are;
      inside = (record { some = here; below = row_below cs r l h.0 }, on.inside);
      some = (here, on.some);
      count = ap suc on.count;
    }

split_some : (xs : List SplitCodes) → AllByRecursion (λ l. 0 < length l) (map split_row xs)
split_some [] = tt
split_some (x ∷ xs) = (omega arith, split_some xs)

part_some : (xs : List PartCodes) → AllByRecursion (λ l. 0 < length l) (map part_row xs)
part_some [] = tt
part_some (x ∷ xs) = (omega arith, part_some xs)

pub split_rows_are : (cs : List Code) (rows : List (List ℕ)) (code : Code) → AreRows cs rows (split_rows code) → RowsAre cs rows (split_rows code)
split_rows_are cs rows code h = rows_are cs rows (split_rows code) (split_some _) h

pub part_rows_are : (cs : List Code) (rows : List (List ℕ)) (code : Code) → AreRows cs rows (part_rows code) → RowsAre cs rows (part_rows code)
part_rows_are cs rows code h = rows_are cs rows (part_rows code) (part_some (part_codes code)) h

pub whole_rows : (cs : List Code) (rows : List (List ℕ)) (lists : List (List Code)) (n : ℕ) → RowsAre cs rows lists → n ≡ length rows → take n (codes_at cs rows) ≡ lists
whole_rows cs rows lists n ok e = let m = length-map rows (map (code_at cs)) in take_all n (codes_at cs rows) (omega (arith, m, e)) ∙ ok.are

pub init_rows : (cs : List Code) (rows : List (List ℕ)) (lists : List (List Code)) (n : ℕ) → RowsAre cs rows lists → suc n ≡ length rows → take n (codes_at cs rows) ≡ init lists
init_rows cs rows lists n ok e = let m = length-map rows (map (code_at cs)) in init_taken n (codes_at cs rows) (omega (arith, m, e)) ∙ ap init ok.are

-- ---- a row
pub rest_of_row : (row : List ℕ) → take (length row - 1) (drop 1 row) ≡ drop 1 row
rest_of_row row = let d = length-drop 1 row in take_all (length row - 1) (drop 1 row) (omega (arith, d))

pub head_below : (m : ℕ) (row : List ℕ) → IsRowIn m row → slice_index_or row 0 0 < m
head_below m [] h = let l = h.some in absurd (omega (arith, l))
head_below m (n ∷ ns) h = h.below.0

rest_below : (m : ℕ) (row : List ℕ) → IsRowIn m row → AllByRecursion (λ n. n < m) (drop 1 row)
rest_below m [] h = tt
rest_below m (n ∷ ns) h = h.below.1

pub tail_below : (m : ℕ) (row : List ℕ) → IsRowIn m row → AllByRecursion (λ n. n < m) (take (length row - 1) (drop 1 row))
tail_below m row h = subst (AllByRecursion (λ n. n < m)) (sym (rest_of_row row)) (rest_below m row h)
