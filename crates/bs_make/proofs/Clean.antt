-- Lines that a reader keeps as they are.
use Rattle.std.proofs.Common.{◌≡◌, ℕ, zero, suc, ◌+◌, ◌/◌, ◌%◌, ◌<◌, ◌==◌, ◌||◌, Bool, true, false, List, [], ◌∷◌, ◌++◌, flat_map, codes, decimal, nat_lt, eqb-true, refl, ap, ◌∙◌, arith}
use Rattle.std.specs.Prelude.{filter}
use Rattle.std.specs.List.{AllByRecursion, onto_first, slice_split, join_by}
use Rattle.std.specs.Fmt.{digits, digits_onto, digit_glyph}
use Rattle.std.proofs.lemmas.Bool.Decides.{nat_tests}
use Rattle.std.proofs.lemmas.List.Folds.{list_any-append}
use Rattle.bs_tableau.specs.Words.{words, is_blank, is_filled}
use Rattle.bs_script.specs.Words.{is_bad, has_bad_byte, is_skipped, is_alone}
use Rattle.bs_script.specs.Lines.{lines, without_return, kept_from}
use Rattle.bs_make.specs.Made.{joined}

pub by_cases : {P : Type 0} (b : Bool) → (b ≡ true → P) → (b ≡ false → P) → P
by_cases true f g = f refl
by_cases false f g = g refl

-- a line without a bad byte that is neither blank nor a comment
abbrev pub IsClean : List ℕ → Type 0
IsClean line = (has_bad_byte line ≡ false) × (is_skipped line ≡ false)

-- one that does not end a session
abbrev pub IsCommand : List ℕ → Type 0
IsCommand line = IsClean line × (is_alone (codes "end") (words line) ≡ false)

pub both_hold : {A : Type 0} (P : A → Type 0) (xs ys : List A) → AllByRecursion P xs → AllByRecursion P ys → AllByRecursion P (xs ++ ys)
both_hold P [] ys h k = k
both_hold P (x ∷ xs) ys h k = (h.0, both_hold P xs ys h.1 k)

-- ---- the lines of a text
either_false : (a b : Bool) → (a || b) ≡ false → (a ≡ false) × (b ≡ false)
either_false true b e = absurd (cc)
either_false false b e = (refl, e)

no_byte : (byte b : ℕ) → is_bad byte ≡ true → is_bad b ≡ false → (b == byte) ≡ false
no_byte byte b bad good = by_cases (b == byte) (λ e. let same : b ≡ byte = eqb-true b byte e in absurd (cc)) (λ e. e)

line_ends : (line rest : List ℕ) → has_bad_byte line ≡ false → lines (line ++ 10 ∷ rest) ≡ line ∷ lines rest
line_ends [] rest good = refl
line_ends (b ∷ line) rest good =
    let h = either_false (is_bad b) (has_bad_byte line) good in
    rw (no_byte 10 b refl h.0, line_ends line rest h.1) refl

pub lines-joined : (ls : List (List ℕ)) → AllByRecursion IsClean ls → lines (joined ls) ≡ ls
lines-joined [] h = refl
lines-joined (l ∷ ls) h = line_ends l (joined ls) h.0.0 ∙ ap (λ x. l ∷ x) (lines-joined ls h.1)

no_return : (line : List ℕ) → has_bad_byte line ≡ false → without_return line ≡ line
no_return [] good = refl
no_return (b ∷ []) good = rw (no_byte 13 b refl (either_false (is_bad b) false good).0) refl
no_return (b ∷ c ∷ line) good = ap (λ x. b ∷ x) (no_return (c ∷ line) (either_false (is_bad b) (has_bad_byte (c ∷ line)) good).1)

-- lines with their numbers
abbrev pub numbered : ℕ → List (List ℕ) → List (ℕ × List ℕ)
numbered n [] = []
numbered n (l ∷ ls) = (n, l) ∷ numbered (n + 1) ls

pub all_kept : (n : ℕ) (ls : List (List ℕ)) → AllByRecursion IsClean ls → kept_from n ls ≡ numbered n ls
all_kept n [] h = refl
all_kept n (l ∷ ls) h = rw (no_return l h.0.0, h.0.1) (ap (λ x. (n, l) ∷ x) (all_kept (n + 1) ls h.1))

-- ---- a line whose first byte is known
alone_in : (b : ℕ) (parts : List (List ℕ)) → (b == 101) ≡ false → is_alone (codes "end") (filter is_filled (onto_first b parts)) ≡ false
alone_in b [] e = rw e refl
alone_in b (part ∷ parts) e = elim (filter is_filled parts) as (λ ws. is_alone (codes "end") ((b ∷ part) ∷ ws) ≡ false) [ [] ↦ rw e refl | ◌∷◌ w ws ↦ refl ]

-- a line that begins with another byte than a blank, `#` and `e` is a command
pub command_from : (b : ℕ) (line : List ℕ) → is_blank b ≡ false → (b == 35) ≡ false → (b == 101) ≡ false → has_bad_byte (b ∷ line) ≡ false → IsCommand (b ∷ line)
command_from b line blank note other good = ((good, rw blank note), rw blank (alone_in b (slice_split is_blank line) other))

-- ---- numbers and lists of them
good_both : (a b : List ℕ) → has_bad_byte a ≡ false → has_bad_byte b ≡ false → has_bad_byte (a ++ b) ≡ false
good_both a b h k = list_any-append is_bad a b ∙ rw (h, k) refl

good_digit : (d : ℕ) → d < 10 → is_bad (48 + d) ≡ false
good_digit d lt = grind (arith, nat_tests)

good_onto : (k n : ℕ) (acc : List ℕ) → has_bad_byte acc ≡ false → has_bad_byte (digits_onto k 10 false n acc) ≡ false
good_onto zero n acc h = h
good_onto (suc k) n acc h =
    let small : n % 10 < 10 = omega arith in
    let digit : is_bad (digit_glyph false (n % 10)) ≡ false = rw (is_below (n % 10) small) (good_digit (n % 10) small) in
    let more : has_bad_byte (digit_glyph false (n % 10) ∷ acc) ≡ false = rw digit h in
    by_cases (n / 10 == 0) (λ e. rw e more) (λ e. rw e (good_onto k (n / 10) (digit_glyph false (n % 10) ∷ acc) more))
  where
    is_below : (d : ℕ) → d < 10 → nat_lt d 10 ≡ true
    is_below d lt = grind (arith, nat_tests)

pub good_decimal : (n : ℕ) → has_bad_byte (decimal n) ≡ false
unfolding digits
good_decimal n = good_onto 64 n [] refl

pub good_behind : (front : List ℕ) (n : ℕ) → has_bad_byte front ≡ false → has_bad_byte (front ++ decimal n) ≡ false
good_behind front n h = good_both front (decimal n) h (good_decimal n)

good_rest : (ns : List ℕ) → has_bad_byte (flat_map (λ n. codes "," ++ decimal n) ns) ≡ false
good_rest [] = refl
good_rest (n ∷ ns) = good_both (codes "," ++ decimal n) (flat_map (λ m. codes "," ++ decimal m) ns) (good_behind (codes ",") n refl) (good_rest ns)

pub good_list : (ns : List ℕ) → has_bad_byte (join_by decimal (codes ",") ns) ≡ false
good_list [] = refl
good_list (n ∷ ns) = good_both (decimal n) (flat_map (λ m. codes "," ++ decimal m) ns) (good_decimal n) (good_rest ns)

pub good_pair : (a b : List ℕ) → has_bad_byte a ≡ false → has_bad_byte b ≡ false → has_bad_byte (a ++ b) ≡ false
good_pair a b h k = good_both a b h k
