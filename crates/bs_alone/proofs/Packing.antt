-- Codes as numbers: how large they are, and that they are read back.
use Rattle.std.proofs.Common.{◌≡◌, ℕ, zero, suc, ◌+◌, ◌*◌, ◌^◌, ◌<◌, ◌≤◌, ◌/◌, ◌%◌, ◌==◌, false, [], ◌∷◌, length, drop, if◌then◌else◌, refl, sym, ◌∙◌, ap, ap₂, subst, arith}
use Rattle.std.specs.List.{All, AllByRecursion}
use Rattle.std.proofs.lemmas.Bool.Decides.{nat_tests}
use Rattle.std.proofs.lemmas.List.Elements.{recursion_from_All}
use Rattle.bs_tree.specs.declared.TheConstants.{MAX_NODES}
use Rattle.bs_series.specs.SeriesCode.{Code}
use Rattle.bs_alone.specs.Packed.{digit, packed, pair_of, unpacked_to, unpacked}

abbrev IsDigit : ℕ × ℕ → Type 0
IsDigit pair = (0 < pair.0) × (pair.0 ≤ MAX_NODES) × (pair.1 < 4)

abbrev IsDigits : Code → Type 0
IsDigits pairs = AllByRecursion IsDigit pairs

digits : (pairs : Code) → AllByRecursion (λ p. (0 < p.0) × (p.0 ≤ MAX_NODES)) pairs → AllByRecursion (λ p. p.1 < 4) pairs → IsDigits pairs
digits [] l c = tt
digits (p ∷ ps) l c = ((l.0.0, l.0.1, c.0), digits ps l.1 c.1)

digits-drop : (n : ℕ) (pairs : Code) → IsDigits pairs → IsDigits (drop n pairs)
digits-drop zero pairs d = d
digits-drop (suc n) [] d = tt
digits-drop (suc n) (p ∷ ps) d = digits-drop n ps d.1

-- the least number that has more digits
abbrev bound : ℕ → ℕ
bound zero = 1
bound (suc room) = 128 * bound room

digit-small : (p : ℕ × ℕ) → IsDigit p → digit p < 128
digit-small p d = omega (arith, d.1, d.2)

digit-some : (p : ℕ × ℕ) → IsDigit p → 0 < digit p
digit-some p d = omega (arith, d.0)

grows : (a x b : ℕ) → a < 128 → x < b → a + 128 * x < 128 * b
grows a x b h k = omega arith

bound-some : (room : ℕ) → 0 < bound room
bound-some zero = omega arith
bound-some (suc room) = let h = bound-some room in omega (arith, h)

packed-small : (room : ℕ) (pairs : Code) → IsDigits pairs → length pairs ≤ room → packed pairs < bound room
packed-small room [] d h = bound-some room
packed-small zero (p ∷ ps) d h = absurd (omega (arith, h))
packed-small (suc room) (p ∷ ps) d h = grows (digit p) (packed ps) (bound room) (digit-small p d.0) (packed-small room ps d.1 (omega (arith, h)))

low : (a x : ℕ) → a < 128 → (a + 128 * x) % 128 ≡ a
low a x h = omega arith

high : (a x : ℕ) → a < 128 → (a + 128 * x) / 128 ≡ x
high a x h = omega arith

pair-back : (p : ℕ × ℕ) → IsDigit p → pair_of (digit p) ≡ p
pair-back p d =
    let level : (4 * p.0 + p.1) / 4 ≡ p.0 = omega (arith, d.2) in
    let colour : (4 * p.0 + p.1) % 4 ≡ p.1 = omega (arith, d.2) in
    ap₂ (λ (l c : ℕ). let pair : ℕ × ℕ = (l, c) in pair) level colour

not-zero : (n : ℕ) → 0 < n → (n == 0) ≡ false
not-zero n h = grind (arith, nat_tests)

length-dropped : (n : ℕ) (pairs : Code) → length (drop n pairs) ≤ length pairs
length-dropped zero pairs = omega arith
length-dropped (suc n) [] = omega arith
length-dropped (suc n) (p ∷ ps) = let h = length-dropped n ps in omega (arith, h)

unpacked-packed : (room : ℕ) (pairs : Code) → IsDigits pairs → length pairs ≤ room → unpacked_to room (packed pairs) ≡ pairs
unpacked-packed zero [] d h = refl
unpacked-packed (suc room) [] d h = refl
unpacked-packed zero (p ∷ ps) d h = absurd (omega (arith, h))
unpacked-packed (suc room) (p ∷ ps) d h =
    let small = digit-small p d.0 in
    let some = digit-some p d.0 in
    let n = digit p + 128 * packed ps in
    let here : 0 < n = omega (arith, some) in
    ap (λ b. if b then [] else pair_of (n % 128) ∷ unpacked_to room (n / 128)) (not-zero n here)
    ∙ ap₂ (λ (a x : ℕ). pair_of a ∷ unpacked_to room x) (low (digit p) (packed ps) small) (high (digit p) (packed ps) small)
    ∙ ap₂ (λ (q : ℕ × ℕ) (qs : Code). q ∷ qs) (pair-back p d.0) (unpacked-packed room ps d.1 (omega (arith, h)))

-- ---- with the pairs of a code
abbrev pub ArePairs : Code → Type 0
ArePairs pairs = All (λ p. (0 < p.0) × (p.0 ≤ MAX_NODES)) pairs × All (λ p. p.1 < 4) pairs × (length pairs ≤ MAX_NODES)

all-digits : (pairs : Code) → ArePairs pairs → IsDigits pairs
all-digits pairs are = digits pairs (recursion_from_All _ pairs are.0) (recursion_from_All _ pairs are.1)

pub reads-back : (pairs code : Code) (place number : ℕ) → ArePairs pairs → pairs ≡ code → place ≡ 0 → number ≡ packed (drop place pairs) → unpacked number ≡ code
unfolding unpacked
reads-back pairs code place number are is_code at_first is =
    let all : number ≡ packed pairs = is ∙ ap (λ n. packed (drop n pairs)) at_first in
    ap (unpacked_to MAX_NODES) all ∙ unpacked-packed MAX_NODES pairs (all-digits pairs are) are.2 ∙ is_code

pub leaves-room : (pairs : Code) (place number : ℕ) → ArePairs pairs → number ≡ packed (drop place pairs) → number < 2 ^ 112
leaves-room pairs place number are is =
    let short = length-dropped place pairs in
    subst (λ n. n < 2 ^ 112) (sym is) (packed-small MAX_NODES (drop place pairs) (digits-drop place pairs (all-digits pairs are)) (omega (arith, short, are.2)))
