-- Lists of rows by number: what is made stays, and is that of its tree.
use Rattle.std.proofs.Common.{◌≡◌, ℕ, zero, suc, ◌<◌, ◌≤◌, List, [], ◌∷◌, map, length, All, length-append, Some, slice_get, slice_index_or, ◌⊎◌, inl, inr, refl, ap, sym, subst, arith}
use Rattle.std.specs.List.{flat_map, AllByRecursion}
use Rattle.std.proofs.lemmas.List.Elements.{All-nil, All-cons}
use Rattle.std.proofs.lemmas.List.{length-map}
use Rattle.bs_tree.specs.Tree.{Forest, none, grow, Tree}
use Rattle.bs_tree.specs.Code.{tree_of, IsCode, child_codes}
use Rattle.bs_split.specs.Splitting.{cut_off, keep, cuts}
use Rattle.bs_part.specs.Partition.{node, Pieces, keep_edge, cut_edge, pieces}
use Rattle.bs_catalog.specs.Shelf.{Code, Shelf, Numbers, AreNumbers, AreRows, split_rows, part_rows, rows_at, Grows}
use Rattle.bs_catalog.specs.Memo.{Extends, HasRows, HoldsRows}
use Rattle.bs_catalog.specs.Making.{without_first, splits_made, parts_made}
use Rattle.bs_catalog.proofs.Remembering.{same_code_of}
use Rattle.bs_catalog.proofs.Putting.{rows_more}
use Rattle.bs_catalog.proofs.RowLaws.{split_rows_at, part_rows_at, cut_row, piece_row, by_first, of_leaf}

pub grows_refl : (s : Shelf) → Grows s s
grows_refl s = record { codes = λ n code h. h; splits = λ n h. h; parts = λ n h. h }

pub grows_on : {s t u : Shelf} → Grows s t → Grows t u → Grows s u
grows_on g h = record {
  codes = λ n code i. h.codes n code (g.codes n code i);
  splits = λ n i. h.splits n (g.splits n i);
  parts = λ n i. h.parts n (g.parts n i);
}

pub same_length : (cs : List Code) (rows : List (List ℕ)) (rs : List (List Code)) → AreRows cs rows rs → length rows ≡ length rs
same_length cs [] [] h = refl
same_length cs [] (r ∷ rs) h = absurd h
same_length cs (row ∷ rows) [] h = absurd h
same_length cs (row ∷ rows) (r ∷ rs) h = ap suc (same_length cs rows rs h.1)

pub within : (lists : List (List (List ℕ))) (n : ℕ) → 0 < length (rows_at lists n) → n < length lists
within [] n h = absurd (omega (arith, h))
within (l ∷ lists) zero h = omega arith
within (l ∷ lists) (suc n) h = omega (arith, within lists n h)

-- ---- some rows
some_cuts : (f : Forest) → 0 < length (cuts f)
some_cuts none = omega arith
some_cuts (grow c kids rest) =
    let t : Tree = node c kids in
    omega (arith, some_cuts rest, length-map (cuts rest) (cut_off t), length-append (map (cut_off t) (cuts rest)) (flat_map (λ k. map (keep c k) (cuts rest)) (cuts kids)))

flat_some : {A B : Type 0} (f : A → List B) (xs : List A) → ((x : A) → 0 < length (f x)) → 0 < length xs → 0 < length (flat_map f xs)
flat_some f [] h lt = absurd (omega (arith, lt))
flat_some f (x ∷ xs) h lt = omega (arith, h x, length-append (f x) (flat_map f xs))

some_pieces : (f : Forest) → 0 < length (pieces f)
some_pieces none = omega arith
some_pieces (grow c kids rest) =
    let kept : Pieces → List Pieces = λ k. map (keep_edge c k) (pieces rest) in
    let cut : Pieces → List Pieces = λ k. map (cut_edge c k) (pieces rest) in
    let some : 0 < length (flat_map kept (pieces kids)) =
    flat_some kept (pieces kids) (λ k. omega (arith, some_pieces rest, length-map (pieces rest) (keep_edge c k))) (some_pieces kids) in
    omega (arith, some, length-append (flat_map kept (pieces kids)) (flat_map cut (pieces kids)))

pub some_splits : (s : Code) → 0 < length (split_rows s)
some_splits s = let t = tree_of s in omega (arith, ap length (split_rows_at t s refl), length-map (cuts t.below) (cut_row t.colour), some_cuts t.below)

pub some_parts : (s : Code) → 0 < length (part_rows s)
some_parts s = let t = tree_of s in omega (arith, ap length (part_rows_at t s refl), length-map (pieces t.below) (piece_row t.colour), some_pieces t.below)

-- ---- lists of rows

pub holds_more : (f : Code → List (List Code)) (cs cs' : List Code) (lists : List (List (List ℕ))) → Extends cs cs' → HoldsRows f cs lists → HoldsRows f cs' lists
holds_more f cs cs' lists e h = λ n some. let r = h n some in record { code = r.code; is_code = e n r.code r.is_code; rows_are = rows_more cs cs' (rows_at lists n) (f r.code) e r.rows_are }

pub holds_put : (f : Code → List (List Code)) (cs : List Code) (old new : List (List (List ℕ))) (number : ℕ) (rows : List (List ℕ)) (code : Code) → HoldsRows f cs old
    → ((n : ℕ) → (rows_at new n ≡ rows_at old n) ⊎ ((n ≡ number) × (rows_at new n ≡ rows))) → Numbers cs number code → AreRows cs rows (f code) → HoldsRows f cs new
holds_put f cs old new number rows code h o c r = λ n some.
    elim (o n) [
      | inl e ↦ subst (λ (xs : List (List ℕ)). HasRows f cs n xs) (sym e) (h n (subst (λ (xs : List (List ℕ)). 0 < length xs) e some))
      | inr e ↦
          let k : HasRows f cs number rows = record { code = code; is_code = c; rows_are = r } in
          subst (λ (xs : List (List ℕ)). HasRows f cs n xs) (sym e.1) (subst (λ (m : ℕ). HasRows f cs m rows) (sym e.0) k)
    ]

pub stays_made : (old new : List (List (List ℕ))) (number : ℕ) (rows : List (List ℕ)) → 0 < length rows
    → ((n : ℕ) → (rows_at new n ≡ rows_at old n) ⊎ ((n ≡ number) × (rows_at new n ≡ rows))) → (n : ℕ) → 0 < length (rows_at old n) → 0 < length (rows_at new n)
stays_made old new number rows some o n h =
    elim (o n) [
      | inl e ↦ subst (λ (xs : List (List ℕ)). 0 < length xs) (sym e) h
      | inr e ↦ subst (λ (xs : List (List ℕ)). 0 < length xs) (sym e.1) some
    ]

pub held : (f : Code → List (List Code)) (cs : List Code) (lists : List (List (List ℕ))) (n : ℕ) (code : Code) → HoldsRows f cs lists → 0 < length (rows_at lists n)
    → Numbers cs n code → AreRows cs (rows_at lists n) (f code)
held f cs lists n code h some c =
    let r = h n some in
    subst (λ (x : Code). AreRows cs (rows_at lists n) (f x)) (same_code_of cs n r.code code r.is_code c) r.rows_are

-- ---- the rows of a tree
pub leaf_split_rows : (cs : List Code) (number : ℕ) (s : Code) (rows : List (List ℕ)) → IsCode s → length (child_codes s) ≡ 0 → Numbers cs number s
    → rows ≡ (number ∷ []) ∷ [] → AreRows cs rows (split_rows s)
leaf_split_rows cs number s rows h k c e =
    let r : AreRows cs ((number ∷ []) ∷ []) ((s ∷ []) ∷ []) = ((c, tt), tt) in
    subst (λ (xs : List (List ℕ)). AreRows cs xs (split_rows s)) (sym e) (subst (λ (rs : List (List Code)). AreRows cs ((number ∷ []) ∷ []) rs) (sym (of_leaf s h k).splits) r)

pub leaf_part_rows : (cs : List Code) (s : Code) (rows : List (List ℕ)) → IsCode s → length (child_codes s) ≡ 0
    → AreRows cs rows ((((1, 0) ∷ []) ∷ (s ∷ [])) ∷ []) → AreRows cs rows (part_rows s)
leaf_part_rows cs s rows h k r = subst (λ (rs : List (List Code)). AreRows cs rows rs) (sym (of_leaf s h k).parts) r

pub read_rows : (lists : List (List (List ℕ))) (n : ℕ) (rows : List (List ℕ)) → rows ≡ slice_index_or lists n rows → 0 < length (rows_at lists n) → rows_at lists n ≡ rows
read_rows [] n rows e h = absurd (omega (arith, h))
read_rows (l ∷ lists) zero rows e h = sym e
read_rows (l ∷ lists) (suc n) rows e h = read_rows lists n rows e h

-- the rows that a call has read at a number
pub read_held : (f : Code → List (List Code)) (cs : List Code) (lists : List (List (List ℕ))) (n : ℕ) (code : Code) (rows : List (List ℕ)) → HoldsRows f cs lists
    → 0 < length (rows_at lists n) → rows ≡ slice_index_or lists n rows → Numbers cs n code → AreRows cs rows (f code)
read_held f cs lists n code rows h some e c =
    subst (λ (xs : List (List ℕ)). AreRows cs xs (f code)) (read_rows lists n rows e some) (held f cs lists n code h some c)

pub split_rows_made : (cs cs' : List Code) (child rest : ℕ) (kids others rows : List (List ℕ)) (s x : Code) → IsCode s → slice_get (child_codes s) 0 ≡ Some x
    → Numbers cs child x → AreRows cs kids (split_rows x) → AreRows cs others (split_rows (without_first s))
    → ((x : Code) (ks rs : List (List Code)) → Numbers cs child x → AreRows cs kids ks → AreRows cs others rs → AreRows cs' rows (splits_made x ks rs))
    → AreRows cs' rows (split_rows s)
split_rows_made cs cs' child rest kids others rows s x h k c hk hr m =
    subst (λ (rs : List (List Code)). AreRows cs' rows rs) (sym (by_first s x h k).splits) (m x (split_rows x) (split_rows (without_first s)) c hk hr)

pub part_rows_made : (cs cs' : List Code) (kids others rows : List (List ℕ)) (s x : Code) → IsCode s → slice_get (child_codes s) 0 ≡ Some x
    → AreRows cs kids (part_rows x) → AreRows cs others (part_rows (without_first s))
    → ((ks rs : List (List Code)) → AreRows cs kids ks → AreRows cs others rs → AreRows cs' rows (parts_made ks rs))
    → AreRows cs' rows (part_rows s)
part_rows_made cs cs' kids others rows s x h k hk hr m =
    subst (λ (rs : List (List Code)). AreRows cs' rows rs) (sym (by_first s x h k).parts) (m (part_rows x) (part_rows (without_first s)) hk hr)

pub some_split_rows : (cs : List Code) (rows : List (List ℕ)) (s : Code) → AreRows cs rows (split_rows s) → 0 < length rows
some_split_rows cs rows s h = omega (arith, same_length cs rows (split_rows s) h, some_splits s)

pub some_part_rows : (cs : List Code) (rows : List (List ℕ)) (s : Code) → AreRows cs rows (part_rows s) → 0 < length rows
some_part_rows cs rows s h = omega (arith, same_length cs rows (part_rows s) h, some_parts s)

-- ---- rows are long enough
all_of_map : {A B : Type 0} (P : B → Type 0) (g : A → B) → ((x : A) → P (g x)) → (xs : List A) → AllByRecursion P (map g xs)
all_of_map P g h [] = tt
all_of_map P g h (x ∷ xs) = (h x, all_of_map P g h xs)

abbrev pub IsLong : ℕ → List Code → Type 0
IsLong k r = k ≤ length r

pub long_splits : (s : Code) → AllByRecursion (IsLong 1) (split_rows s)
long_splits s =
    let t = tree_of s in
    subst (AllByRecursion (IsLong 1)) (sym (split_rows_at t s refl)) (all_of_map (IsLong 1) (cut_row t.colour) (λ k. omega arith) (cuts t.below))

pub long_parts : (s : Code) → AllByRecursion (IsLong 2) (part_rows s)
long_parts s =
    let t = tree_of s in
    subst (AllByRecursion (IsLong 2)) (sym (part_rows_at t s refl)) (all_of_map (IsLong 2) (piece_row t.colour) (λ k. omega arith) (pieces t.below))

pub some_long : (rs : List (List Code)) → AllByRecursion (IsLong 2) rs → AllByRecursion (IsLong 1) rs
some_long [] h = tt
some_long (r ∷ rs) h = (omega (arith, h.0), some_long rs h.1)

row_length : (cs : List Code) (row : List ℕ) (r : List Code) → AreNumbers cs row r → length row ≡ length r
row_length cs [] [] h = refl
row_length cs [] (x ∷ r) h = absurd h
row_length cs (n ∷ row) [] h = absurd h
row_length cs (n ∷ row) (x ∷ r) h = ap suc (row_length cs row r h.1)

rows_long : (k : ℕ) (cs : List Code) (rows : List (List ℕ)) (rs : List (List Code)) → AreRows cs rows rs → AllByRecursion (IsLong k) rs → All (λ (row : List ℕ). k ≤ length row) rows
rows_long k cs [] [] h l = All-nil (λ (row : List ℕ). k ≤ length row)
rows_long k cs [] (r ∷ rs) h l = absurd h
rows_long k cs (row ∷ rows) [] h l = absurd h
rows_long k cs (row ∷ rows) (r ∷ rs) h l =
    All-cons (λ (row : List ℕ). k ≤ length row) row rows (omega (arith, row_length cs row r h.0, l.0)) (rows_long k cs rows rs h.1 l.1)

-- the rows that a call has read at a number
pub held_long : (k : ℕ) (f : Code → List (List Code)) → ((s : Code) → AllByRecursion (IsLong k) (f s)) → (cs : List Code) (lists : List (List (List ℕ))) (n : ℕ) (rows : List (List ℕ))
    → HoldsRows f cs lists → 0 < length (rows_at lists n) → rows ≡ slice_index_or lists n rows → All (λ (row : List ℕ). k ≤ length row) rows
held_long k f all cs lists n rows h some e =
    let r = h n some in
    subst (λ (xs : List (List ℕ)). All (λ (row : List ℕ). k ≤ length row) xs) (read_rows lists n rows e some) (rows_long k cs (rows_at lists n) (f r.code) r.rows_are (all r.code))
