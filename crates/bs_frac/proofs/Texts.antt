-- A fraction written and read again is itself.
use Rattle.std.proofs.Common.{◌≡◌, ℕ, suc, zero, ◌+◌, ◌-◌, ◌/◌, ◌%◌, ◌^◌, ◌≤◌, ◌<◌, true, false, cond, ◌&&◌, ◌||◌, ◌==◌, not, List, [], ◌∷◌, ◌++◌, Option, Some, None, option_map, take, drop, get_or, position, length, leb, ltb, decimal, ℤ, pos, negsuc, neg_ℤ, unsigned_abs, arith, refl, sym, ◌∙◌, ap, ap₂}
use Rattle.std.proofs.lemmas.Bool.Decides.{nat_tests}
use Rattle.std.specs.Str.{all_ascii_digits}
use Rattle.std.specs.Str.Parse.{AllDigits}
use Rattle.std.specs.List.{position_or_len}
use Rattle.std.specs.Int.{IsInRange}
use Rattle.std.proofs.lemmas.Fmt.{decimal_is_IsNumeral_wide, decimal_by_steps_wide, decimal_digit}
use Rattle.std.proofs.lemmas.Str.Parse.{digit_from_value}
use Rattle.std.proofs.lemmas.List.{length-append, append-nil, take_all, length-drop}
use Rattle.std.proofs.Math.Nat.{div-one}
use Rattle.std.proofs.Math.ListN.{get_or-append}
use Rattle.std.proofs.Math.Seq.{take-append_seam, drop-append-add}
use Rattle.bs_frac.specs.Fraction.{Fraction, IsReduced}
use Rattle.bs_frac.specs.Checked.{largest, over}
use Rattle.bs_frac.specs.Text.{fraction_text, bottom_text, number_within, has_number_start, both, divided, magnitudes_of, signed_pair, starts_with_minus, literal_of, reduced_of, fraction_of}
use Rattle.bs_frac.proofs.Numbers.{own, by_cases}

-- ---- the digits of a number
no_zero_first : (n : ℕ) → n < 10 ^ 64 → 0 < n → 48 < get_or (decimal n) 0 0
no_zero_first n wide some =
    (decimal_by_steps_wide (λ m ds. (0 < length ds) × (0 < m → 48 < get_or ds 0 0)) (λ m l. (omega arith, λ a. omega arith))
    (λ m ds l h. (omega (arith, length-append ds ((48 + m % 10) ∷ [])), λ a. omega (arith, get_or-append ds ((48 + m % 10) ∷ []) 0 0 h.0, h.1 (omega arith)))) n wide).1 some

starts : (n : ℕ) → n < 10 ^ 64 → has_number_start (decimal n) ≡ true
starts zero wide = ap has_number_start (decimal_digit 0 (omega arith))
starts (suc n) wide =
    let some : 0 < length (decimal (suc n)) = (decimal_is_IsNumeral_wide (suc n) wide).0.0 in
    let first : 48 < get_or (decimal (suc n)) 0 0 = no_zero_first (suc n) wide (omega arith) in
    by_tests (length (decimal (suc n))) (get_or (decimal (suc n)) 0 0) some first
  where
    by_tests : (l c : ℕ) → 0 < l → 48 < c → (ltb 0 l && (not (c == 48) || leb l 1)) ≡ true
    by_tests l c some first =
        let e1 : ltb 0 l ≡ true = grind (arith, nat_tests) in
        let e2 : (c == 48) ≡ false = grind (arith, nat_tests) in
        rw (e1, e2) refl

pub number_back : (limit n : ℕ) → n ≤ limit → n < 10 ^ 64 → number_within limit (decimal n) ≡ Some n
unfolding number_within
number_back limit n fits wide =
    let numeral = decimal_is_IsNumeral_wide n wide in
    let digits : all_ascii_digits (decimal n) ≡ true = own.from (decimal n) numeral.0.1 in
    let small : leb n limit ≡ true = within n limit fits in
    rw (starts n wide, digits, numeral.1, small) refl
  where
    within : (m k : ℕ) → m ≤ k → leb m k ≡ true
    within m k h = grind (arith, nat_tests)

-- ---- where the slash stands
not_slash : (c : ℕ) → IsInRange 48 57 c → (c == 47) ≡ false
not_slash c h = grind (arith, nat_tests)

not_minus : (c : ℕ) → IsInRange 48 57 c → (c == 45) ≡ false
not_minus c h = grind (arith, nat_tests)

no_slash : (ds : List ℕ) → AllDigits 10 ds → position_or_len (λ b. b == 47) ds ≡ length ds
no_slash [] h = refl
no_slash (c ∷ cs) h = rw (not_slash c (digit_from_value c h.0)) (ap (λ m. 1 + m) (no_slash cs h.1) ∙ omega arith)

slash_after : (ds rest : List ℕ) → AllDigits 10 ds → position_or_len (λ b. b == 47) (ds ++ 47 ∷ rest) ≡ length ds
slash_after [] rest h = refl
slash_after (c ∷ cs) rest h = rw (not_slash c (digit_from_value c h.0)) (ap (λ m. 1 + m) (slash_after cs rest h.1) ∙ omega arith)

pub no_minus : (ds rest : List ℕ) → AllDigits 10 ds → 0 < length ds → starts_with_minus (ds ++ rest) ≡ false
no_minus [] rest h some = absurd (omega arith)
no_minus (c ∷ cs) rest h some = not_minus c (digit_from_value c h.0)

-- ---- the magnitudes

pub is_digits : (n : ℕ) → n < 10 ^ 64 → AllDigits 10 (decimal n)
is_digits n wide = (decimal_is_IsNumeral_wide n wide).0.1

pub is_some : (n : ℕ) → n < 10 ^ 64 → 0 < length (decimal n)
is_some n wide = (decimal_is_IsNumeral_wide n wide).0.0

place_none : (ds : List ℕ) → AllDigits 10 ds → position (λ b. b == 47) ds ≡ None
place_none ds h = let e : ltb (length ds) (length ds) ≡ false = at (length ds) in rw (no_slash ds h, e) refl
  where
    at : (l : ℕ) → ltb l l ≡ false
    at l = grind (arith, nat_tests)

place_some : (ds rest : List ℕ) → AllDigits 10 ds → position (λ b. b == 47) (ds ++ 47 ∷ rest) ≡ Some (length ds)
place_some ds rest h = let e : ltb (length ds) (length (ds ++ 47 ∷ rest)) ≡ true = at (length ds) _ (omega (arith, length-append ds (47 ∷ rest))) in rw (slash_after ds rest h, e) refl
  where
    at : (l m : ℕ) → l < m → ltb l m ≡ true
    at l m k = grind (arith, nat_tests)

pub whole_back : (n : ℕ) → n ≤ largest → magnitudes_of (decimal n) ≡ Some (n, 1)
whole_back n fits =
    let wide : n < 10 ^ 64 = omega arith in
    ap (λ o. divided o (decimal n)) (place_none (decimal n) (is_digits n wide)) ∙ ap (option_map (λ m. (m, 1))) (number_back largest n fits wide)

pub parts_back : (n d : ℕ) → n ≤ largest → d ≤ largest → 0 < d → magnitudes_of (decimal n ++ 47 ∷ decimal d) ≡ Some (n, d)
parts_back n d hn hd some =
    let n_wide : n < 10 ^ 64 = omega arith in
    let d_wide : d < 10 ^ 64 = omega arith in
    let e : (d == 0) ≡ false = not_zero d some in
    ap (λ o. divided o (decimal n ++ 47 ∷ decimal d)) (place_some (decimal n) (decimal d) (is_digits n n_wide))
    ∙ ap₂ (λ l r. both (number_within largest l) (number_within largest r)) (take-append_seam (decimal n) (47 ∷ decimal d)) (drop-append-add (decimal n) (47 ∷ decimal d) 1)
    ∙ ap₂ both (number_back largest n hn n_wide) (number_back largest d hd d_wide)
    ∙ ap (λ b. cond b None (Some (n, d))) e
  where
    not_zero : (m : ℕ) → 0 < m → (m == 0) ≡ false
    not_zero m h = grind (arith, nat_tests)

magnitudes_back : (n d : ℕ) → n ≤ largest → d ≤ largest → 0 < d → magnitudes_of (decimal n ++ bottom_text d) ≡ Some (n, d)
magnitudes_back n d hn hd some =
    by_cases (d == 1)
    (λ e. let one : d ≡ 1 = is_one d e in ap (λ b. magnitudes_of (decimal n ++ cond b [] (47 ∷ decimal d))) e ∙ ap magnitudes_of (append-nil (decimal n)) ∙ whole_back n hn ∙ ap (λ m. Some (n, m)) (sym one))
    (λ e. ap (λ b. magnitudes_of (decimal n ++ cond b [] (47 ∷ decimal d))) e ∙ parts_back n d hn hd some)
  where
    is_one : (m : ℕ) → (m == 1) ≡ true → m ≡ 1
    is_one m h = grind (arith, nat_tests)

-- ---- the sign
literal_back : (z : ℤ) (d : ℕ) → unsigned_abs z ≤ largest → d ≤ largest → 0 < d → let x : Fraction = record { top = z; bottom = d } in literal_of (fraction_text x) ≡ Some x
literal_back (pos n) d hn hd some =
    let wide : n < 10 ^ 64 = omega arith in
    let w : List ℕ = decimal n ++ bottom_text d in
    ap (λ b. cond b (option_map (signed_pair true) (magnitudes_of (drop 1 w))) (option_map (signed_pair false) (magnitudes_of w))) (no_minus (decimal n) (bottom_text d) (is_digits n wide) (is_some n wide))
    ∙ ap (option_map (signed_pair false)) (magnitudes_back n d hn hd some)
literal_back (negsuc n) d hn hd some = ap (option_map (signed_pair true)) (magnitudes_back (suc n) d (omega arith) hd some)

-- ---- a reduced fraction stays
over_one : (z : ℤ) → over z 1 ≡ z
over_one (pos n) = ap pos (div-one n)
over_one (negsuc n) = ap (λ m. neg_ℤ (pos m)) (div-one (suc n))

reduced_stays : (x : Fraction) → IsReduced x → reduced_of x ≡ x
reduced_stays x r = ap (λ (g : ℕ). let y : Fraction = record { top = over x.top g; bottom = x.bottom / g } in y) r.coprime ∙ ap₂ (λ (z : ℤ) (m : ℕ). let y : Fraction = record { top = z; bottom = m } in y) (over_one x.top) (div-one x.bottom)

pub read_back : (x : Fraction) → IsReduced x → unsigned_abs x.top ≤ largest → x.bottom ≤ largest → fraction_of (fraction_text x) ≡ Some x
unfolding fraction_of
read_back x r hn hd = ap (option_map reduced_of) (literal_back x.top x.bottom hn hd r.positive) ∙ ap Some (reduced_stays x r)

-- ---- what the reader does
all_but_first : (w : List ℕ) → take (length w - 1) (drop 1 w) ≡ drop 1 w
all_but_first w = take_all (length w - 1) (drop 1 w) (omega (arith, length-drop 1 w))

pub read_minus : (w : List ℕ) (parts : Option (ℕ × ℕ)) → true ≡ starts_with_minus w → parts ≡ magnitudes_of (take (length w - 1) (drop 1 w))
    → option_map reduced_of (option_map (signed_pair true) parts) ≡ fraction_of w
unfolding fraction_of
read_minus w parts e h =
    ap (λ p. option_map reduced_of (option_map (signed_pair true) p)) (h ∙ ap magnitudes_of (all_but_first w))
    ∙ ap (λ b. option_map reduced_of (cond b (option_map (signed_pair true) (magnitudes_of (drop 1 w))) (option_map (signed_pair false) (magnitudes_of w)))) e

pub read_plain : (w : List ℕ) (parts : Option (ℕ × ℕ)) → false ≡ starts_with_minus w → parts ≡ magnitudes_of w
    → option_map reduced_of (option_map (signed_pair false) parts) ≡ fraction_of w
unfolding fraction_of
read_plain w parts e h =
    ap (λ p. option_map reduced_of (option_map (signed_pair false) p)) h
    ∙ ap (λ b. option_map reduced_of (cond b (option_map (signed_pair true) (magnitudes_of (drop 1 w))) (option_map (signed_pair false) (magnitudes_of w)))) e
