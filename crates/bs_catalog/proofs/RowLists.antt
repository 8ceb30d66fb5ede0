-- Rows of numbers in one list: reading a row, and one more row.
use Rattle.std.proofs.Common.{◌≡◌, ℕ, zero, suc, ◌-◌, ◌<◌, ◌≤◌, List, [], ◌∷◌, ◌++◌, length, get_or, take, drop, Some, slice_get, refl, subst, ap, ap₂, sym, ◌∙◌, arith, length-append}
use Rattle.std.specs.List.{slice_range}
use Rattle.std.proofs.lemmas.List.{take-append-le, take_all, drop-append-le, length-drop, length-take-le, take-append-drop}
use Rattle.std.proofs.Math.Seq.{drop-append_seam}
use Rattle.std.proofs.lemmas.Grind.{get_or_default_zero}
use Rattle.bs_catalog.specs.RowList.{rows_from, Ascends, start_at, last_end}

abbrev pub start_from : ℕ → List ℕ → ℕ → ℕ
start_from start ends zero = start
start_from start ends (suc place) = get_or ends place 0

pub ascends_end : (start : ℕ) (ends : List ℕ) (n : ℕ) → Ascends start ends n → start ≤ n
ascends_end start [] n h = h
ascends_end start (end ∷ ends) n h = let k = ascends_end end ends n h.1 in omega (arith, h.0)

pub ascends_more : (start : ℕ) (ends : List ℕ) (n m : ℕ) → Ascends start ends n → n ≤ m → Ascends start ends m
ascends_more start [] n m h le = omega arith
ascends_more start (end ∷ ends) n m h le = (h.0, ascends_more end ends n m h.1 le)

pub length-rows_from : (start : ℕ) (ends pool : List ℕ) → length (rows_from start ends pool) ≡ length ends
length-rows_from start [] pool = refl
length-rows_from start (end ∷ ends) pool = ap suc (length-rows_from end ends pool)

pub record IsRowAt (start : ℕ) (ends pool : List ℕ) (place from : ℕ) : Type 0 where
  pub up : from ≤ get_or ends place 0
  pub within : get_or ends place 0 ≤ length pool
  pub is : slice_get (rows_from start ends pool) place ≡ Some (slice_range pool from (get_or ends place 0))

row_from : (start : ℕ) (ends pool : List ℕ) (place : ℕ) → Ascends start ends (length pool) → place < length ends → IsRowAt start ends pool place (start_from start ends place)
row_from start [] pool place h lt = absurd (omega arith)
row_from start (end ∷ ends) pool zero h lt = record { up = h.0; within = ascends_end end ends (length pool) h.1; is = refl }
row_from start (end ∷ ends) pool (suc zero) h lt =
    let r = row_from end ends pool zero h.1 (omega arith) in
    record { up = r.up; within = r.within; is = r.is }
row_from start (end ∷ ends) pool (suc (suc place)) h lt =
    let r = row_from end ends pool (suc place) h.1 (omega arith) in
    record { up = r.up; within = r.within; is = r.is }

pub row_at : (ends pool : List ℕ) (place : ℕ) → Ascends 0 ends (length pool) → place < length ends → IsRowAt 0 ends pool place (start_at ends place)
row_at ends pool zero h lt = row_from 0 ends pool zero h lt
row_at ends pool (suc place) h lt = row_from 0 ends pool (suc place) h lt

-- ---- one more row
pub last_within : (start : ℕ) (ends : List ℕ) (n : ℕ) → Ascends start ends n → last_end start ends ≤ n
last_within start [] n h = h
last_within start (end ∷ ends) n h = last_within end ends n h.1

pub ascends_push : (start : ℕ) (ends : List ℕ) (n m : ℕ) → Ascends start ends n → n ≤ m → Ascends start (ends ++ m ∷ []) m
ascends_push start [] n m h le = (omega arith, omega arith)
ascends_push start (end ∷ ends) n m h le = (h.0, ascends_push end ends n m h.1 le)

rows_longer : (start : ℕ) (ends pool more : List ℕ) → Ascends start ends (length pool) → rows_from start ends (pool ++ more) ≡ rows_from start ends pool
rows_longer start [] pool more h = refl
rows_longer start (end ∷ ends) pool more h =
    let le = ascends_end end ends (length pool) h.1 in
    let k : start ≤ length pool = omega (arith, h.0) in
    let le' : end - start ≤ length (drop start pool) = omega (arith, h.0, length-drop start pool) in
    let e1 : drop start (pool ++ more) ≡ drop start pool ++ more = drop-append-le start pool more k in
    let e2 : slice_range (pool ++ more) start end ≡ slice_range pool start end =
    ap (take (end - start)) e1 ∙ take-append-le (end - start) (drop start pool) more le' in
    ap₂ (λ (x : List ℕ) (xs : List (List ℕ)). x ∷ xs) e2 (rows_longer end ends pool more h.1)

ascends_last : (start : ℕ) (ends : List ℕ) (n : ℕ) → Ascends start ends n → Ascends start ends (last_end start ends)
ascends_last start [] n h = omega arith
ascends_last start (end ∷ ends) n h = (h.0, ascends_last end ends n h.1)

rows_push : (start : ℕ) (ends pool : List ℕ) (end : ℕ) → rows_from start (ends ++ end ∷ []) pool ≡ rows_from start ends pool ++ slice_range pool (last_end start ends) end ∷ []
rows_push start [] pool end = refl
rows_push start (e ∷ ends) pool end = ap (λ (xs : List (List ℕ)). slice_range pool start e ∷ xs) (rows_push e ends pool end)

whole_range : (pool row : List ℕ) → slice_range (pool ++ row) (length pool) (length (pool ++ row)) ≡ row
whole_range pool row =
    let e : length (pool ++ row) - length pool ≡ length row = omega (arith, length-append pool row) in
    ap₂ (λ (n : ℕ) (xs : List ℕ). take n xs) e (drop-append_seam pool row) ∙ take_all (length row) row (omega arith)

pub one_more_row : (ends pool row : List ℕ) → Ascends 0 ends (length pool) → last_end 0 ends ≡ length pool
    → rows_from 0 (ends ++ length (pool ++ row) ∷ []) (pool ++ row) ≡ rows_from 0 ends pool ++ row ∷ []
one_more_row ends pool row h e =
    rows_push 0 ends (pool ++ row) (length (pool ++ row))
    ∙ ap₂ (λ (xs : List (List ℕ)) (x : List ℕ). xs ++ x ∷ []) (rows_longer 0 ends pool row h) (ap (λ (n : ℕ). slice_range (pool ++ row) n (length (pool ++ row))) e ∙ whole_range pool row)

last_from : (start : ℕ) (ends : List ℕ) → last_end start ends ≡ get_or (start ∷ ends) (length ends) 0
last_from start [] = refl
last_from start (end ∷ ends) = last_from end ends

pub last_start : (ends : List ℕ) → last_end 0 ends ≡ start_at ends (length ends)
last_start [] = refl
last_start (end ∷ ends) = last_from end ends

-- ---- the pool without what stands behind the last row
pub record IsCutTo (ends pool : List ℕ) (n : ℕ) : Type 0 where
  pub last : n ≡ last_end 0 ends
  pub long : length (take n pool) ≡ n
  pub ascends : Ascends 0 ends n
  pub same : rows_from 0 ends (take n pool) ≡ rows_from 0 ends pool

cut_to_last : (ends pool : List ℕ) → Ascends 0 ends (length pool) → IsCutTo ends pool (last_end 0 ends)
cut_to_last ends pool h =
    let n = last_end 0 ends in
    let long : length (take n pool) ≡ n = length-take-le n pool (last_within 0 ends (length pool) h) in
    let ascends = ascends_last 0 ends (length pool) h in record {
      last = refl;
      long = long;
      ascends = ascends;
      same = sym (ap (rows_from 0 ends) (sym (take-append-drop n pool)) ∙ rows_longer 0 ends (take n pool) (drop n pool) (subst (λ (m : ℕ). Ascends 0 ends m) (sym long) ascends));
    }

pub cut_to : (ends ends' pool : List ℕ) (len end : ℕ) → Ascends 0 ends (length pool) → ends' ≡ ends → len ≡ length ends → end ≡ start_at ends' len → IsCutTo ends pool end
cut_to ends ends' pool len end h e l s =
    subst (IsCutTo ends pool) (last_start ends ∙ sym (s ∙ ap₂ start_at e l)) (cut_to_last ends pool h)

-- ---- as a call reads and puts them
pub record Reads (view : List (List ℕ)) (pool' : List ℕ) (place start end : ℕ) : Type 0 where
  pub up : start ≤ end
  pub within : end ≤ length pool'
  pub is : (row : List ℕ) → row ≡ slice_range pool' start end → slice_get view place ≡ Some row

pub reads : (ends pool : List ℕ) (view : List (List ℕ)) (ends' pool' : List ℕ) (place start end : ℕ) → rows_from 0 ends pool ≡ view → Ascends 0 ends (length pool)
    → ends' ≡ ends → pool' ≡ pool → start ≡ start_at ends' place → end ≡ get_or ends place end → place < length view → Reads view pool' place start end
reads ends pool view ends' pool' place start end v h e p s n lt =
    let lt' : place < length ends = omega (arith, length-rows_from 0 ends pool, ap length v) in
    let r = row_at ends pool place h lt' in
    let es : start ≡ start_at ends place = s ∙ ap (λ (xs : List ℕ). start_at xs place) e in
    let en : end ≡ get_or ends place 0 = n ∙ get_or_default_zero ends place end lt' in
    let up = r.up in
    let within = r.within in
    record {
      up = omega arith;
      within = omega (arith, ap length p);
      is = λ row k. ap (λ (rows : List (List ℕ)). slice_get rows place) (sym v) ∙ r.is
          ∙ ap₂ (λ (a b : ℕ). Some (slice_range pool a b)) (sym es) (sym en) ∙ ap (λ (xs : List ℕ). Some (slice_range xs start end)) (sym p) ∙ ap (λ (xs : List ℕ). Some xs) (sym k);
    }

pub puts : (ends pool : List ℕ) (view : List (List ℕ)) (row ends' pool' : List ℕ) (end : ℕ) → rows_from 0 ends pool ≡ view → IsCutTo ends pool end
    → pool' ≡ take end pool ++ row → ends' ≡ ends ++ length pool' ∷ []
    → rows_from 0 ends' pool' ≡ view ++ row ∷ []
puts ends pool view row ends' pool' end v c p e =
    let q = take end pool in
    ap₂ (λ (xs ys : List ℕ). rows_from 0 xs ys) (e ∙ ap (λ (xs : List ℕ). ends ++ length xs ∷ []) p) p
    ∙ one_more_row ends q row (subst (λ (m : ℕ). Ascends 0 ends m) (sym c.long) c.ascends) (sym c.last ∙ sym c.long) ∙ ap (λ (rows : List (List ℕ)). rows ++ row ∷ []) (c.same ∙ v)
