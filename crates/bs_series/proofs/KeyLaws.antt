-- Keys tell expressions apart: what stands behind a key can be told, too.
use Rattle.std.proofs.Common.{◌≡◌, ℕ, ◌+◌, ◌*◌, ◌/◌, ◌%◌, ◌<◌, ◌≤◌, List, [], ◌∷◌, ◌++◌, length, take, drop, Some, arith, sym, ◌∙◌, ap, ap₂, append_assoc, unsigned_abs, decimal, ℤ, pos, negsuc}
use Rattle.std.specs.Prelude.{◌==◌}
use Rattle.std.proofs.lemmas.Nat.{div-add-mod'}
use Rattle.bs_frac.proofs.Texts.{read_back}
use Rattle.bs_tree.specs.SortingLaws.{by_cases}
use Rattle.std.proofs.lemmas.List.{length-append}
use Rattle.std.proofs.Math.Seq.{take-append_seam, drop-append_seam}
use Rattle.std.proofs.lemmas.Fmt.{length-decimal-le_wide}
use Rattle.bs_frac.specs.Fraction.{Fraction, IsReduced}
use Rattle.bs_frac.specs.Checked.{IsWithin}
use Rattle.bs_frac.specs.Text.{fraction_text, fraction_of, sign_text, bottom_text}
use Rattle.bs_series.specs.Series.{Series, exact, identity, average, method, compose, inverse, adjoint, substitute, modified, modifying, scale}
use Rattle.bs_series.specs.Keys.{counted, key_of, IsKeyed, KeysDecide}

sign_short : (z : ℤ) → length (sign_text z) ≤ 1
sign_short (pos n) = omega arith
sign_short (negsuc n) = omega arith

bottom_short : (d : ℕ) → length (bottom_text d) ≤ 1 + length (decimal d)
bottom_short d = by_cases (d == 1) (λ e. rw e (omega arith)) (λ e. rw e (omega arith))

abbrev head_of : List ℕ → ℕ
head_of [] = 0
head_of (x ∷ xs) = x

abbrev rest_of : List ℕ → List ℕ
rest_of [] = []
rest_of (x ∷ xs) = xs

record Same (s t : Series) (x y : List ℕ) : Type 0 where
  series : s ≡ t
  rest : x ≡ y

-- one operand
under : (word : ℕ) (f : Series → Series) (a b : Series) (x y : List ℕ) → Same a b x y → Same (f a) (f b) x y
under word f a b x y h = record { series = ap f h.series; rest = h.rest }

record SameWord (v w x y : List ℕ) : Type 0 where
  word : v ≡ w
  rest : x ≡ y

words_apart : (v w x y : List ℕ) → counted v ++ x ≡ counted w ++ y → SameWord v w x y
words_apart v w x y e =
    let n : length v ≡ length w = ap head_of e in
    let r : v ++ x ≡ w ++ y = ap rest_of e in
    record {
      word = sym (take-append_seam v x) ∙ ap₂ (λ (m : ℕ) (z : List ℕ). take m z) n r ∙ take-append_seam w y;
      rest = sym (drop-append_seam v x) ∙ ap₂ (λ (m : ℕ) (z : List ℕ). drop m z) n r ∙ drop-append_seam w y;
    }

texts_apart : (c d : Fraction) → IsReduced c → IsWithin c → IsReduced d → IsWithin d → fraction_text c ≡ fraction_text d → c ≡ d
texts_apart c d rc wc rd wd e =
    let same : Some c ≡ Some d = sym (read_back c rc wc.top wc.bottom) ∙ ap fraction_of e ∙ read_back d rd wd.top wd.bottom in cc

apart : (s t : Series) (x y : List ℕ) → IsKeyed s → IsKeyed t → key_of s ++ x ≡ key_of t ++ y → Same s t x y
apart (exact k) (exact l) x y h i e = record { series = cc; rest = cc }
apart (identity k) (identity l) x y h i e = record { series = cc; rest = cc }
apart (average k) (average l) x y h i e = record { series = cc; rest = cc }
apart (method n k) (method m l) x y h i e =
    let high : n / 256 ≡ m / 256 = ap (λ (z : List ℕ). head_of (rest_of z)) e in
    let low : n % 256 ≡ m % 256 = ap (λ (z : List ℕ). head_of (rest_of (rest_of z))) e in
    let colours : k ≡ l = ap (λ (z : List ℕ). head_of (rest_of (rest_of (rest_of z)))) e in
    let number : n ≡ m = sym (div-add-mod' n 256) ∙ ap₂ (λ (p q : ℕ). p * 256 + q) high low ∙ div-add-mod' m 256 in
    record { series = ap₂ method number colours; rest = ap (λ (z : List ℕ). rest_of (rest_of (rest_of (rest_of z)))) e }
apart (compose a b) (compose c d) x y h i e =
    let r : key_of a ++ (key_of b ++ x) ≡ key_of c ++ (key_of d ++ y) = sym (append_assoc (key_of a) (key_of b) x) ∙ ap rest_of e ∙ append_assoc (key_of c) (key_of d) y in
    let p = apart a c (key_of b ++ x) (key_of d ++ y) (h.0.0, h.1.0) (i.0.0, i.1.0) r in
    let q = apart b d x y (h.0.1, h.1.1) (i.0.1, i.1.1) p.rest in
    record { series = ap₂ compose p.series q.series; rest = q.rest }
apart (inverse a) (inverse b) x y h i e = under 5 inverse a b x y (apart a b x y h i (ap rest_of e))
apart (adjoint a) (adjoint b) x y h i e = under 6 adjoint a b x y (apart a b x y h i (ap rest_of e))
apart (substitute a b) (substitute c d) x y h i e =
    let r : key_of a ++ (key_of b ++ x) ≡ key_of c ++ (key_of d ++ y) = sym (append_assoc (key_of a) (key_of b) x) ∙ ap rest_of e ∙ append_assoc (key_of c) (key_of d) y in
    let p = apart a c (key_of b ++ x) (key_of d ++ y) (h.0.0, h.1.0) (i.0.0, i.1.0) r in
    let q = apart b d x y (h.0.1, h.1.1) (i.0.1, i.1.1) p.rest in
    record { series = ap₂ substitute p.series q.series; rest = q.rest }
apart (modified a) (modified b) x y h i e = under 8 modified a b x y (apart a b x y h i (ap rest_of e))
apart (modifying a) (modifying b) x y h i e = under 9 modifying a b x y (apart a b x y h i (ap rest_of e))
apart (scale a c) (scale b d) x y h i e =
    let v = counted (fraction_text c) in
    let w = counted (fraction_text d) in
    let r : key_of a ++ (v ++ x) ≡ key_of b ++ (w ++ y) = sym (append_assoc (key_of a) v x) ∙ ap rest_of e ∙ append_assoc (key_of b) w y in
    let p = apart a b (v ++ x) (w ++ y) (h.0.0, h.1.0) (i.0.0, i.1.0) r in
    let q = words_apart (fraction_text c) (fraction_text d) x y p.rest in
    record { series = ap₂ scale p.series (texts_apart c d h.0.1 h.1.1 i.0.1 i.1.1 q.word); rest = q.rest }
apart s t x y h i e = absurd (let words = ap head_of e in omega (arith, words))

pub keys_decide : KeysDecide
keys_decide s t h i = (
  λ e. (apart s t [] [] h i (ap (λ (z : List ℕ). z ++ []) e)).series,
  λ e. ap key_of e,
)

-- ---- a fraction's text is short
pub text_short : (x : Fraction) → IsWithin x → length (fraction_text x) < 256
text_short x h =
    let top : length (decimal (unsigned_abs x.top)) ≤ 39 = length-decimal-le_wide 39 (unsigned_abs x.top) (omega arith) (omega (arith, h.top)) (omega (arith, h.top)) in
    let bottom : length (decimal x.bottom) ≤ 39 = length-decimal-le_wide 39 x.bottom (omega arith) (omega (arith, h.bottom)) (omega (arith, h.bottom)) in
    omega (
      arith,
      top,
      bottom,
      sign_short x.top,
      bottom_short x.bottom,
      length-append (sign_text x.top ++ decimal (unsigned_abs x.top)) (bottom_text x.bottom),
      length-append (sign_text x.top) (decimal (unsigned_abs x.top)),
      length-append (sign_text x.top) (decimal (unsigned_abs x.top) ++ bottom_text x.bottom),
      length-append (decimal (unsigned_abs x.top)) (bottom_text x.bottom),
    )
