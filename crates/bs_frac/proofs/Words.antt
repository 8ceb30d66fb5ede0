-- The words that are read are those of the grammar.
use Rattle.std.proofs.Common.{◌≡◌, ℕ, ◌+◌, ◌*◌, ◌/◌, ◌%◌, ◌^◌, ◌≤◌, ◌<◌, Bool, true, false, cond, ◌&&◌, ◌||◌, ◌==◌, not, List, [], ◌∷◌, ◌++◌, Option, Some, None, option_map, unwrap_or, take, drop, get_or, position, length, leb, ltb, decimal, ℤ, pos, ◌*ℤ◌, unsigned_abs, arith, refl, sym, ◌∙◌, ap, ap₂, subst}
use Rattle.std.proofs.lemmas.Bool.Decides.{nat_tests}
use Rattle.std.specs.Str.Parse.{digits_value, digits_value_after, AllDigits}
use Rattle.std.specs.Char.{digit_value}
use Rattle.std.specs.List.{position_or_len}
use Rattle.std.proofs.lemmas.Fmt.{decimal_digit, decimal_step_wide}
use Rattle.std.proofs.lemmas.Str.{digit_value_digit}
use Rattle.std.proofs.lemmas.Str.Parse.{digit_from_value}
use Rattle.std.proofs.lemmas.List.{append_assoc, append-nil, take-append-drop, drop_more}
use Rattle.std.proofs.lemmas.List.Sums.{prefix_len_stops}
use Rattle.std.proofs.Math.Nat.{div-mul_cancel}
use Rattle.bs_frac.specs.Gcd.{gcd}
use Rattle.bs_frac.specs.Fraction.{Fraction}
use Rattle.bs_frac.specs.Checked.{largest, over}
use Rattle.bs_frac.specs.Text.{is_number, number_within, has_number_start, both, divided, magnitudes_of, signed_pair, starts_with_minus, literal_of}
use Rattle.bs_frac.specs.WrittenLaws.{NumberLaw, LiteralLaw, ReducedLaw, IsFractionWord, minus_text, slash_text}
use Rattle.bs_frac.proofs.GcdLaws.{gcd-left, gcd-right, gcd-quotients}
use Rattle.bs_frac.proofs.Reduced.{unsigned_abs-over, over_times, quotient_pos}
use Rattle.bs_frac.proofs.Ring.{self, nat, times, same}
use Rattle.bs_frac.proofs.Numbers.{own, and_both, by_cases}
use Rattle.bs_frac.proofs.Texts.{number_back, whole_back, parts_back, no_minus, is_digits, is_some}

-- ---- digits without a leading zero are the text of their value
le_value_after : (n : ℕ) (ds : List ℕ) → n ≤ digits_value_after 10 n ds
le_value_after n [] = omega arith
le_value_after n (c ∷ cs) = omega (arith, le_value_after (n * 10 + digit_value c) cs)

text_after : (n : ℕ) (ds : List ℕ) → 0 < n → AllDigits 10 ds → digits_value_after 10 n ds < 10 ^ 64 → decimal (digits_value_after 10 n ds) ≡ decimal n ++ ds
text_after n [] some d small = sym (append-nil (decimal n))
text_after n (c ∷ cs) some d small =
    let m : ℕ = n * 10 + digit_value c in
    let k = digit_value_digit c (digit_from_value c d.0) in
    let front : m / 10 ≡ n = omega (arith, d.0) in
    let end : 48 + m % 10 ≡ c = omega (arith, d.0) in
    text_after m cs (omega arith) d.1 small
    ∙ ap (λ x. x ++ cs) (decimal_step_wide m (omega arith) (omega (arith, le_value_after m cs)) ∙ ap₂ (λ i j. decimal i ++ (j ∷ [])) front end)
    ∙ append_assoc (decimal n) (c ∷ []) cs

text_of_digits : (ds : List ℕ) → AllDigits 10 ds → 0 < length ds → (get_or ds 0 0 ≡ 48 → length ds ≡ 1) → digits_value 10 ds < 10 ^ 64 → decimal (digits_value 10 ds) ≡ ds
text_of_digits [] d some lead small = absurd (omega arith)
text_of_digits (c ∷ []) d some lead small =
    let k = digit_value_digit c (digit_from_value c d.0) in
    decimal_digit (0 * 10 + digit_value c) (omega (arith, d.0)) ∙ ap (λ x. x ∷ []) (omega arith)
text_of_digits (c ∷ e ∷ cs) d some lead small =
    let k = digit_value_digit c (digit_from_value c d.0) in
    let no : c ≡ 48 → ⊥ = λ z. omega (arith, lead z) in
    let is : 48 + (0 * 10 + digit_value c) ≡ c = omega arith in
    text_after (0 * 10 + digit_value c) (e ∷ cs) (omega arith) d.1 small
    ∙ ap (λ x. x ++ (e ∷ cs)) (decimal_digit (0 * 10 + digit_value c) (omega (arith, d.0)) ∙ ap (λ x. x ∷ []) is)

no_lead : (l c : ℕ) → (not (c == 48) || leb l 1) ≡ true → c ≡ 48 → l ≤ 1
no_lead l c h e =
    let t : (c == 48) ≡ true = grind (arith, nat_tests) in
    let k : leb l 1 ≡ true = subst (λ b. (not b || leb l 1) ≡ true) t h in
    grind (arith, nat_tests)

above : (l : ℕ) → ltb 0 l ≡ true → 0 < l
above l h = grind (arith, nat_tests)

below : (m n : ℕ) → leb m n ≡ true → m ≤ n
below m n h = grind (arith, nat_tests)

chosen : {X : Type 0} (b : Bool) (v x : X) → cond b (Some v) None ≡ Some x → (b ≡ true) × (v ≡ x)
chosen true v x h = (refl, cc)
chosen false v x h = cc

number_only : (limit n : ℕ) (w : List ℕ) → limit < 10 ^ 64 → number_within limit w ≡ Some n → (w ≡ decimal n) × (n ≤ limit)
unfolding number_within
number_only limit n w wide h =
    let c = chosen (is_number w && leb (digits_value 10 w) limit) (digits_value 10 w) n h in
    let a = and_both (is_number w) _ c.0 in
    let b = and_both (has_number_start w) _ a.0 in
    let s = and_both (ltb 0 (length w)) _ b.0 in
    let some : 0 < length w = above (length w) s.0 in
    let fits : digits_value 10 w ≤ limit = below _ _ a.1 in
    let text = text_of_digits w (own.to w b.1) some (λ e. let l = no_lead (length w) (get_or w 0 0) s.1 e in omega arith) (omega arith) in
    (sym text ∙ ap decimal c.1, omega (arith, c.1))

pub number_law : NumberLaw
number_law limit n w wide = (number_only limit n w wide, λ h. ap (number_within limit) h.0 ∙ number_back limit n h.1 (omega (arith, h.1)))

-- ---- a numerator and perhaps a denominator
record IsMagnitudes (w : List ℕ) (n d : ℕ) : Type 0 where
  denominator : Option ℕ
  word : w ≡ decimal n ++ slash_text denominator
  value : d ≡ unwrap_or denominator 1
  numerator_fits : n ≤ largest
  denominator_fits : d ≤ largest
  positive : 0 < d

mapped : (o : Option ℕ) (n d : ℕ) → option_map {U = ℕ × ℕ} (λ m. (m, 1)) o ≡ Some (n, d) → (o ≡ Some n) × (d ≡ 1)
mapped None n d h = cc
mapped (Some m) n d h = let one : ℕ × ℕ = (m, 1) in let e : one ≡ (n, d) = cc in (ap (λ (p : ℕ × ℕ). Some p.0) e, sym (ap (λ (p : ℕ × ℕ). p.1) e))

both_only : (a b : Option ℕ) (n d : ℕ) → both a b ≡ Some (n, d) → (a ≡ Some n) × (b ≡ Some d) × (0 < d)
both_only None b n d h = cc
both_only (Some m) None n d h = cc
both_only (Some m) (Some k) n d h = by_cases (k == 0)
    (λ e. absurd (let f : None ≡ Some (n, d) = sym (ap (λ b. cond b None (Some (m, k))) e) ∙ h in cc))
    (λ e.
    let f : Some (m, k) ≡ Some (n, d) = sym (ap (λ b. cond b None (Some (m, k))) e) ∙ h in
    let g : (m, k) ≡ (n, d) = cc in
    let kd : k ≡ d = ap (λ (p : ℕ × ℕ). p.1) g in
    (ap (λ (p : ℕ × ℕ). Some p.0) g, ap Some kd, let p = positive k e in omega arith))
  where
    positive : (m : ℕ) → (m == 0) ≡ false → 0 < m
    positive m h = grind (arith, nat_tests)

split_at : (w : List ℕ) (slash : ℕ) → position (λ b. b == 47) w ≡ Some slash → w ≡ take slash w ++ 47 ∷ drop (slash + 1) w
split_at w slash h =
    let c = chosen (ltb (position_or_len (λ b. b == 47) w) (length w)) (position_or_len (λ b. b == 47) w) slash h in
    let lt : position_or_len (λ b. b == 47) w < length w = lt_of _ _ c.0 in
    let stop : not (get_or w (position_or_len (λ b. b == 47) w) 0 == 47) ≡ false = prefix_len_stops (λ b. not (b == 47)) w 0 lt in
    let is : get_or w slash 0 ≡ 47 = slash_is _ (subst (λ i. not (get_or w i 0 == 47) ≡ false) c.1 stop) in
    sym (take-append-drop slash w) ∙ ap (λ x. take slash w ++ x) (drop_more w slash 0 (omega (arith, c.1)) ∙ ap (λ x. x ∷ drop (slash + 1) w) is)
  where
    lt_of : (m n : ℕ) → ltb m n ≡ true → m < n
    lt_of m n h = grind (arith, nat_tests)

    slash_is : (m : ℕ) → not (m == 47) ≡ false → m ≡ 47
    slash_is m h = grind (arith, nat_tests)

magnitudes_only : (w : List ℕ) (n d : ℕ) → magnitudes_of w ≡ Some (n, d) → IsMagnitudes w n d
magnitudes_only w n d h = by_place (position (λ b. b == 47) w) refl h
  where
    by_place : (o : Option ℕ) → position (λ b. b == 47) w ≡ o → divided o w ≡ Some (n, d) → IsMagnitudes w n d
    by_place None p k =
        let m = mapped (number_within largest w) n d k in
        let t = number_only largest n w (omega arith) m.0 in
        record { denominator = None; word = t.0 ∙ sym (append-nil (decimal n)); value = m.1; numerator_fits = t.1; denominator_fits = omega (arith, m.1); positive = omega (arith, m.1) }
    by_place (Some slash) p k =
        let b = both_only (number_within largest (take slash w)) (number_within largest (drop (slash + 1) w)) n d k in
        let l = number_only largest n (take slash w) (omega arith) b.0 in
        let r = number_only largest d (drop (slash + 1) w) (omega arith) b.1 in
        record { denominator = Some d; word = split_at w slash p ∙ ap₂ (λ x y. x ++ 47 ∷ y) l.0 r.0; value = refl; numerator_fits = l.1; denominator_fits = r.1; positive = b.2 }

magnitudes_from : (n : ℕ) (o : Option ℕ) → n ≤ largest → unwrap_or o 1 ≤ largest → 0 < unwrap_or o 1 → magnitudes_of (decimal n ++ slash_text o) ≡ Some (n, unwrap_or o 1)
magnitudes_from n None hn hd some = ap magnitudes_of (append-nil (decimal n)) ∙ whole_back n hn
magnitudes_from n (Some d) hn hd some = parts_back n d hn hd some

-- ---- the sign
paired : (s : Bool) (o : Option (ℕ × ℕ)) (x : Fraction) → option_map (signed_pair s) o ≡ Some x → (n : ℕ) × (d : ℕ) × (o ≡ Some (n, d)) × (x ≡ signed_pair s (n, d))
paired s None x h = cc
paired s (Some p) x h = (p.0, p.1, refl, cc)

minus_first : (w : List ℕ) → starts_with_minus w ≡ true → w ≡ 45 ∷ drop 1 w
minus_first [] h = absurd (let e : false ≡ true = h in cc)
minus_first (c ∷ cs) h = ap (λ b. b ∷ cs) (is c h)
  where
    is : (m : ℕ) → (m == 45) ≡ true → m ≡ 45
    is m k = grind (arith, nat_tests)

word_from : (s : Bool) (w rest : List ℕ) (x : Fraction) → w ≡ minus_text s ++ rest → option_map (signed_pair s) (magnitudes_of rest) ≡ Some x → IsFractionWord w x
word_from s w rest x e h =
    let p = paired s (magnitudes_of rest) x h in
    let m = magnitudes_only rest p.0 p.1 p.2 in
    record {
      negative = s;
      numerator = p.0;
      denominator = m.denominator;
      word = e ∙ ap (λ y. minus_text s ++ y) m.word;
      value = p.3 ∙ ap (λ d. signed_pair s (p.0, d)) m.value;
      numerator_fits = m.numerator_fits;
      denominator_fits = omega (arith, m.value, m.denominator_fits);
      denominator_positive = omega (arith, m.value, m.positive);
    }

literal_only : (w : List ℕ) (x : Fraction) → literal_of w ≡ Some x → IsFractionWord w x
literal_only w x h = by_cases (starts_with_minus w)
    (λ e. word_from true w (drop 1 w) x (minus_first w e) (sym (by_sign e) ∙ h))
    (λ e. word_from false w w x refl (sym (by_sign e) ∙ h))
  where
    by_sign : {b : Bool} → starts_with_minus w ≡ b → literal_of w ≡ cond b (option_map (signed_pair true) (magnitudes_of (drop 1 w))) (option_map (signed_pair false) (magnitudes_of w))
    by_sign e = ap (λ b. cond b (option_map (signed_pair true) (magnitudes_of (drop 1 w))) (option_map (signed_pair false) (magnitudes_of w))) e

literal_from_parts : (s : Bool) (n : ℕ) (o : Option ℕ) → n ≤ largest → unwrap_or o 1 ≤ largest → 0 < unwrap_or o 1
    → literal_of (minus_text s ++ (decimal n ++ slash_text o)) ≡ Some (signed_pair s (n, unwrap_or o 1))
literal_from_parts true n o hn hd some = ap (option_map (signed_pair true)) (magnitudes_from n o hn hd some)
literal_from_parts false n o hn hd some =
    let wide : n < 10 ^ 64 = omega arith in
    let w : List ℕ = decimal n ++ slash_text o in
    ap (λ b. cond b (option_map (signed_pair true) (magnitudes_of (drop 1 w))) (option_map (signed_pair false) (magnitudes_of w))) (no_minus (decimal n) (slash_text o) (is_digits n wide) (is_some n wide))
    ∙ ap (option_map (signed_pair false)) (magnitudes_from n o hn hd some)

pub literal_law : LiteralLaw
literal_law w x = (literal_only w x, λ h. ap literal_of h.word ∙ literal_from_parts h.negative h.numerator h.denominator h.numerator_fits h.denominator_fits h.denominator_positive ∙ ap Some (sym h.value))

-- ---- the reduced pair
pub reduced_law : ReducedLaw
reduced_law x positive =
    let n = unsigned_abs x.top in
    let d = x.bottom in
    let g = gcd n d in
    let smaller : 0 < d / g = quotient_pos d g (gcd-right n d) positive in (
      record { positive = smaller; coprime = ap (λ m. gcd m (d / g)) (unsigned_abs-over x.top g) ∙ gcd-quotients n d positive },
      record {
        left = smaller;
        right = positive;
        cross =
            ap (λ m. over x.top g *ℤ pos m) (sym (div-mul_cancel g (gcd-right n d)))
            ∙ same (times (self (over x.top g)) (nat (d / g * g))) (times (times (self (over x.top g)) (nat g)) (nat (d / g))) (omega arith)
            ∙ ap (λ (z : ℤ). z *ℤ pos (d / g)) (over_times x.top g (gcd-left n d));
      },
    )
