-- The tally of a text has the numbers of its summary.
use Rattle.std.proofs.Common.{◌≡◌, ℕ, zero, suc, ◌+◌, ◌<◌, ◌==◌, ◌&&◌, Bool, true, false, if◌then◌else◌, List, [], ◌∷◌, ◌++◌, length, take, get_or, flat_map, codes, refl, sym, ap, ◌∙◌, append-nil, add_assoc, arith}
use Rattle.std.specs.Prelude.{fold, count_by}
use Rattle.std.specs.List.{onto_first}
use Rattle.std.specs.Str.{bytes_eq}
use Rattle.std.proofs.lemmas.List.{take_more}
use Rattle.std.proofs.lemmas.Grind.{flat_map-append}
use Rattle.std.proofs.lemmas.List.Sums.{fold-append, sum_by-cons}
use Rattle.bs_script.specs.Lines.{lines}
use Rattle.bs_make.specs.Summary.{begins_error, error_count, folded_on, folded}
use Rattle.bs_make.specs.Tally.{Tally, nothing_read, matched_on, read_on, read_all}

pub bytes_on : (t : Tally) (b : ℕ) → (read_on t b).bytes ≡ t.bytes + 1
unfolding read_on
bytes_on t b = refl

pub bytes_more : (t : Tally) (bs : List ℕ) → (read_all t bs).bytes ≡ t.bytes + length bs
bytes_more t [] = omega arith
bytes_more t (b ∷ bs) = let h : (read_all (read_on t b) bs).bytes ≡ t.bytes + 1 + length bs = bytes_more (read_on t b) bs ∙ ap (λ n. n + length bs) (bytes_on t b) in omega (arith, h)

-- one more piece
taken : {A : Type 0} (f : A → List ℕ) (xs : List A) (k : ℕ) (d : A) → k < length xs → flat_map f (take (k + 1) xs) ≡ flat_map f (take k xs) ++ f (get_or xs k d)
taken f xs k d lt =
    ap (flat_map f) (take_more xs k d lt) ∙ flat_map-append f (take k xs) (get_or xs k d ∷ [])
    ∙ ap (λ l. flat_map f (take k xs) ++ l) (append-nil (f (get_or xs k d)))

pub read_more : {A : Type 0} (f : A → List ℕ) (xs : List A) (k : ℕ) (d : A) → k < length xs
    → read_all nothing_read (flat_map f (take (k + 1) xs)) ≡ read_all (read_all nothing_read (flat_map f (take k xs))) (f (get_or xs k d))
read_more f xs k d lt = ap (read_all nothing_read) (taken f xs k d lt) ∙ fold-append read_on nothing_read (flat_map f (take k xs)) (f (get_or xs k d))

by_cases : {P : Type 0} (b : Bool) → (b ≡ true → P) → (b ≡ false → P) → P
by_cases true f g = f refl
by_cases false f g = g refl

-- ---- F
folding_more : (t : Tally) (bs : List ℕ) → (read_all t bs).folding ≡ fold folded_on t.folding bs
unfolding read_on
folding_more t [] = refl
folding_more t (b ∷ bs) = folding_more (read_on t b) bs

-- ---- the lines of errors
abbrev one : Bool → ℕ
one b = if b then 1 else 0

-- how many more are found in these bytes
abbrev more : ℕ → List ℕ → ℕ
more m [] = 0
more m (b ∷ bs) = one (matched_on m b == 6) + more (matched_on m b) bs

errors_more : (t : Tally) (bs : List ℕ) → (read_all t bs).errors ≡ t.errors + more t.matched bs
unfolding read_on
errors_more t [] = omega arith
errors_more t (b ∷ bs) = errors_more (read_on t b) bs ∙ add_assoc t.errors (one (matched_on t.matched b == 6)) (more (matched_on t.matched b) bs)

-- the rest of a line makes it an error's, where so many bytes of `error ` stand before it
abbrev rest_is : ℕ → List ℕ → Bool
rest_is zero line = begins_error line
rest_is (suc zero) line = bytes_eq (take 5 line) (codes "rror ")
rest_is (suc (suc zero)) line = bytes_eq (take 4 line) (codes "ror ")
rest_is (suc (suc (suc zero))) line = bytes_eq (take 3 line) (codes "or ")
rest_is (suc (suc (suc (suc zero)))) line = bytes_eq (take 2 line) (codes "r ")
rest_is (suc (suc (suc (suc (suc zero))))) line = bytes_eq (take 1 line) (codes " ")
rest_is (suc (suc (suc (suc (suc (suc m)))))) line = false

nothing_left : (m : ℕ) → rest_is m [] ≡ false
nothing_left zero = refl
nothing_left (suc zero) = refl
nothing_left (suc (suc zero)) = refl
nothing_left (suc (suc (suc zero))) = refl
nothing_left (suc (suc (suc (suc zero)))) = refl
nothing_left (suc (suc (suc (suc (suc zero))))) = refl
nothing_left (suc (suc (suc (suc (suc (suc m)))))) = refl

zero_and : (n : ℕ) → 0 + n ≡ n
zero_and n = omega arith

abbrev StepIs : ℕ → ℕ → List ℕ → Type 0
StepIs m b line = one (matched_on m b == 6) + one (rest_is (matched_on m b) line) ≡ one (rest_is m (b ∷ line))

-- a byte that is no line feed goes on in the line
step : (m b : ℕ) (line : List ℕ) → (b == 10) ≡ false → StepIs m b line
unfolding matched_on
step zero b line e = rw e (elim (b == 101) as (λ x. one ((if x then 1 else 7) == 6) + one (rest_is (if x then 1 else 7) line) ≡ one (x && bytes_eq (take 5 line) (codes "rror "))) [ true ↦ zero_and _ | false ↦ refl ])
step (suc zero) b line e = rw e (elim (b == 114) as (λ x. one ((if x then 2 else 7) == 6) + one (rest_is (if x then 2 else 7) line) ≡ one (x && bytes_eq (take 4 line) (codes "ror "))) [ true ↦ zero_and _ | false ↦ refl ])
step (suc (suc zero)) b line e = rw e (elim (b == 114) as (λ x. one ((if x then 3 else 7) == 6) + one (rest_is (if x then 3 else 7) line) ≡ one (x && bytes_eq (take 3 line) (codes "or "))) [ true ↦ zero_and _ | false ↦ refl ])
step (suc (suc (suc zero))) b line e = rw e (elim (b == 111) as (λ x. one ((if x then 4 else 7) == 6) + one (rest_is (if x then 4 else 7) line) ≡ one (x && bytes_eq (take 2 line) (codes "r "))) [ true ↦ zero_and _ | false ↦ refl ])
step (suc (suc (suc (suc zero)))) b line e = rw e (elim (b == 114) as (λ x. one ((if x then 5 else 7) == 6) + one (rest_is (if x then 5 else 7) line) ≡ one (x && bytes_eq (take 1 line) (codes " "))) [ true ↦ zero_and _ | false ↦ refl ])
step (suc (suc (suc (suc (suc zero))))) b line e = rw e (elim (b == 32) as (λ x. one ((if x then 6 else 7) == 6) + one (rest_is (if x then 6 else 7) line) ≡ one (x && bytes_eq (take 0 line) [])) [ true ↦ refl | false ↦ refl ])
step (suc (suc (suc (suc (suc (suc m)))))) b line e = rw e refl

-- the lines of errors in what is left of a line and the lines behind it
abbrev count_from : ℕ → List (List ℕ) → ℕ
count_from m [] = 0
count_from m (line ∷ ls) = one (rest_is m line) + count_by begins_error ls

at_start : (ls : List (List ℕ)) → count_from 0 ls ≡ count_by begins_error ls
at_start [] = refl
at_start (line ∷ ls) = sym (sum_by-cons (λ l. one (begins_error l)) line ls)

onto : (m b : ℕ) (ls : List (List ℕ)) → (b == 10) ≡ false
    → one (matched_on m b == 6) + count_from (matched_on m b) ls ≡ count_from m (onto_first b ls)
onto m b [] e =
    let h : StepIs m b [] = step m b [] e in
    let n : one (rest_is (matched_on m b) []) ≡ 0 = ap one (nothing_left (matched_on m b)) in
    omega (arith, h, n)
onto m b (line ∷ ls) e = let h : StepIs m b line = step m b line e in omega (arith, h)

in_lines : (m : ℕ) (bs : List ℕ) → more m bs ≡ count_from m (lines bs)
unfolding matched_on
in_lines m [] = refl
in_lines m (b ∷ bs) =
    by_cases (b == 10)
    (λ e. let n : one (rest_is m []) ≡ 0 = ap one (nothing_left m) in
    let h : more 0 bs ≡ count_by begins_error (lines bs) = in_lines 0 bs ∙ at_start (lines bs) in
    rw e (omega (arith, n, h)))
    (λ e. ap (λ k. one (matched_on m b == 6) + k) (in_lines (matched_on m b) bs) ∙ onto m b (lines bs) e ∙ rw e refl)

-- ---- the three numbers
pub told_bytes : (text : List ℕ) → (read_all nothing_read text).bytes ≡ length text
told_bytes text = bytes_more nothing_read text ∙ zero_and (length text)

pub told_errors : (text : List ℕ) → (read_all nothing_read text).errors ≡ error_count text
told_errors text = errors_more nothing_read text ∙ zero_and (more 0 text) ∙ in_lines 0 text ∙ at_start (lines text)

pub told_folding : (text : List ℕ) → (read_all nothing_read text).folding ≡ folded text
told_folding text = folding_more nothing_read text
