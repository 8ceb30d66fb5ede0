-- Texts of trees by number: what is held stays, and gives the text of a head and of another tree.
use Rattle.std.proofs.Common.{◌≡◌, ℕ, zero, suc, ◌+◌, ◌-◌, ◌<◌, ◌≤◌, List, [], ◌∷◌, ◌++◌, take, drop, length, get_or, Some, ◌⊎◌, inl, inr, refl, ap, sym, ◌∙◌, subst, arith}
use Rattle.std.specs.List.{slice_get}
use Rattle.std.proofs.Math.Seq.{take-append_seam}
use Rattle.std.proofs.lemmas.List.{length-append}
use Rattle.std.proofs.lemmas.Option.{get_or_from_slice_get}
use Rattle.bs_catalog.specs.Shelf.{Code, Numbers, AreNumbers, AreRows}
use Rattle.bs_catalog.specs.Memo.{Extends}
use Rattle.bs_catalog.proofs.Remembering.{same_code_of}
use Rattle.bs_listing.specs.Texts.{spaced, framed, head_text, HasText, HoldsTexts}

pub holds_more : (cs cs' : List Code) (texts : List (List ℕ)) → Extends cs cs' → HoldsTexts cs texts → HoldsTexts cs' texts
holds_more cs cs' texts e h = λ n lt. let t = h n lt in record { code = t.code; is_code = e n t.code t.is_code; text_is = t.text_is }

pushed_cases : (texts : List (List ℕ)) (text : List ℕ) (n : ℕ) → n < length texts + 1 → (get_or (texts ++ text ∷ []) n [] ≡ get_or texts n []) × (n < length texts) ⊎ ((n ≡ length texts) × (get_or (texts ++ text ∷ []) n [] ≡ text))
pushed_cases [] text zero lt = inr (refl, refl)
pushed_cases [] text (suc n) lt = absurd (omega (arith, lt))
pushed_cases (x ∷ texts) text zero lt = inl (refl, omega arith)
pushed_cases (x ∷ texts) text (suc n) lt =
    elim (pushed_cases texts text n (omega (arith, lt))) [
      | inl e ↦ inl (e.0, omega (arith, e.1))
      | inr e ↦ inr (ap suc e.0, e.1)
    ]

-- one more text, that of the next number
pub holds_push : (cs : List Code) (texts texts' : List (List ℕ)) (code : Code) (text : List ℕ) → HoldsTexts cs texts → Numbers cs (length texts) code → text ≡ framed code
    → texts' ≡ texts ++ text ∷ [] → HoldsTexts cs texts'
holds_push cs texts texts' code text h is text_is e =
    subst (λ (ts : List (List ℕ)). HoldsTexts cs ts) (sym e) (λ n lt.
    elim (pushed_cases texts text n (omega (arith, lt, length-append texts (text ∷ [])))) [
      | inl k ↦ subst (λ (t : List ℕ). HasText cs n t) (sym k.0) (h n k.1)
      | inr k ↦
          let here : HasText cs (length texts) text = record { code = code; is_code = is; text_is = text_is } in
          subst (λ (t : List ℕ). HasText cs n t) (sym k.1) (subst (λ (m : ℕ). HasText cs m text) (sym k.0) here)
    ])

pub text_of : (cs : List Code) (texts : List (List ℕ)) (n : ℕ) (text : List ℕ) (code : Code) → HoldsTexts cs texts → n < length texts → slice_get texts n ≡ Some text
    → Numbers cs n code → text ≡ framed code
text_of cs texts n text code h lt here is =
    let t = h n lt in
    sym (get_or_from_slice_get texts n text [] here) ∙ t.text_is ∙ ap framed (same_code_of cs n t.code code t.is_code is)

pub framed_length : (cs : List Code) (texts : List (List ℕ)) (n : ℕ) (text : List ℕ) → HoldsTexts cs texts → n < length texts → slice_get texts n ≡ Some text → 2 ≤ length text
framed_length cs texts n text h lt here =
    let t = h n lt in
    let e : text ≡ framed t.code = text_of cs texts n text t.code h lt here t.is_code in
    let two : length (framed t.code) ≡ length (spaced t.code) + 2 = length-append (spaced t.code) (32 ∷ (124 ∷ [])) in
    omega (arith, ap length e, two)

pub without_space : (code : Code) (text : List ℕ) → text ≡ framed code → drop 1 text ≡ head_text code
without_space code text e = ap (drop 1) e

pub without_bar : (code : Code) (text : List ℕ) → text ≡ framed code → take (length text - 2) text ≡ spaced code
without_bar code text e =
    let two : length (framed code) ≡ length (spaced code) + 2 = length-append (spaced code) (32 ∷ (124 ∷ [])) in
    let n : length text - 2 ≡ length (spaced code) = omega (arith, ap length e, two) in
    ap (λ (m : ℕ). take m text) n ∙ ap (take (length (spaced code))) e ∙ take-append_seam (spaced code) (32 ∷ (124 ∷ []))

-- ---- the numbers of a row
pub record NumberAt (cs : List Code) (n : ℕ) (codes : List Code) (i : ℕ) : Type 0 where
  pub code : Code
  pub is : slice_get codes i ≡ Some code
  pub number : Numbers cs n code

same_number : (cs : List Code) (m n : ℕ) (code : Code) → Some m ≡ Some n → Numbers cs m code → Numbers cs n code
same_number cs m n code e h = let e' : m ≡ n = cc in subst (λ (k : ℕ). Numbers cs k code) e' h

pub number_at : (cs : List Code) (row : List ℕ) (codes : List Code) (i n : ℕ) → AreNumbers cs row codes → slice_get row i ≡ Some n → NumberAt cs n codes i
number_at cs [] [] i n h e = cc
number_at cs [] (x ∷ codes) i n h e = absurd h
number_at cs (m ∷ row) [] i n h e = absurd h
number_at cs (m ∷ row) (x ∷ codes) zero n h e = record { code = x; is = refl; number = same_number cs m n x e h.0 }
number_at cs (m ∷ row) (x ∷ codes) (suc i) n h e = let at = number_at cs row codes i n h.1 e in record { code = at.code; is = at.is; number = at.number }

pub numbers_count : (cs : List Code) (row : List ℕ) (codes : List Code) → AreNumbers cs row codes → length row ≡ length codes
numbers_count cs [] [] h = refl
numbers_count cs [] (x ∷ codes) h = absurd h
numbers_count cs (m ∷ row) [] h = absurd h
numbers_count cs (m ∷ row) (x ∷ codes) h = ap suc (numbers_count cs row codes h.1)

pub numbers_drop : (cs : List Code) (count : ℕ) (row : List ℕ) (codes : List Code) → AreNumbers cs row codes → AreNumbers cs (drop count row) (drop count codes)
numbers_drop cs zero row codes h = h
numbers_drop cs (suc count) [] [] h = tt
numbers_drop cs (suc count) [] (x ∷ codes) h = absurd h
numbers_drop cs (suc count) (m ∷ row) [] h = absurd h
numbers_drop cs (suc count) (m ∷ row) (x ∷ codes) h = numbers_drop cs count row codes h.1

-- ---- the rows of some
pub record RowAt (cs : List Code) (row : List ℕ) (lists : List (List Code)) (i : ℕ) : Type 0 where
  pub codes : List Code
  pub is : slice_get lists i ≡ Some codes
  pub numbers : AreNumbers cs row codes

same_row : (cs : List Code) (row row' : List ℕ) (codes : List Code) → Some row ≡ Some row' → AreNumbers cs row codes → AreNumbers cs row' codes
same_row cs row row' codes e h = let e' : row ≡ row' = cc in subst (λ (r : List ℕ). AreNumbers cs r codes) e' h

pub row_at : (cs : List Code) (rows : List (List ℕ)) (lists : List (List Code)) (i : ℕ) (row : List ℕ) → AreRows cs rows lists → slice_get rows i ≡ Some row → RowAt cs row lists i
row_at cs [] [] i row h e = cc
row_at cs [] (x ∷ lists) i row h e = absurd h
row_at cs (r ∷ rows) [] i row h e = absurd h
row_at cs (r ∷ rows) (x ∷ lists) zero row h e = record { codes = x; is = refl; numbers = same_row cs r row x e h.0 }
row_at cs (r ∷ rows) (x ∷ lists) (suc i) row h e = let at = row_at cs rows lists i row h.1 e in record { codes = at.codes; is = at.is; numbers = at.numbers }
