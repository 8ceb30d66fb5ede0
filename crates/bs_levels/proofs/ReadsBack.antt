-- Reading what was written.
use Rattle.std.proofs.Common.{◌≡◌, ℕ, suc, zero, ◌+◌, ◌-◌, ◌^◌, ◌≤◌, ◌<◌, Bool, true, false, ◌&&◌, List, [], ◌∷◌, ◌++◌, Some, Ok, length, get_or, eqb, ltb, leb, map, replicate, All, arith, refl, sym, ◌∙◌, ap, ap₂, append_assoc, decimal}
use Rattle.std.specs.List.{list_all, zip, join_with_byte, AllByRecursion}
use Rattle.std.specs.Str.{all_ascii_digits}
use Rattle.std.specs.Str.Parse.{digits_value}
use Rattle.std.specs.Int.{IsInRange}
use Rattle.std.proofs.lemmas.Str.Parse.{IsNumeralModel, numerals_by_value, tells_all_ascii_digits, digit_at}
use Rattle.std.proofs.lemmas.Fmt.{digits_value-decimal, digits_decimal, decimal_nonempty, decimal_digit, first_decimal}
use Rattle.std.proofs.lemmas.List.{length-map, get_or_default}
use Rattle.std.proofs.lemmas.List.Splits.{slice_split_at, slice_split_none}
use Rattle.std.proofs.lemmas.Bool.Decides.{nat_tests}
use Rattle.bs_tree.specs.Tree.{Forest, none, grow, Tree}
use Rattle.bs_tree.specs.Canonical.{level_sequence, level_sequence_at, canonical_of}
use Rattle.bs_tree.specs.Code.{tree_of, follows, has_valid_levels, is_level_sequence, IsCode}
use Rattle.bs_tree.specs.declared.TheConstants.{MAX_NODES, COLOURS}
use Rattle.bs_levels.proofs.Pairs.{is_sequence, parts_of}
use Rattle.bs_levels.specs.Words.{comma, pieces, numbers, number_of, number_within, has_number_start, largest_level, largest_colour}
use Rattle.bs_levels.specs.Levels.{is_valid, climbs_by_one, from_one, tree_with}
use Rattle.bs_levels.specs.TreeText.{levels_text, colours_text, has_colours}
use Rattle.bs_levels.specs.Laws.{ReadsBack, PlainReadsBack, CodeReadsBack}

own : IsNumeralModel (λ ds. all_ascii_digits ds ≡ true) (digits_value 10)
own = numerals_by_value _ tells_all_ascii_digits

and_both : (a b : Bool) → (a && b) ≡ true → (a ≡ true) × (b ≡ true)
and_both true b h = (refl, h)
and_both false b h = cc

both : (a b : Bool) → a ≡ true → b ≡ true → (a && b) ≡ true
both a b e f = rw (e, f) refl

by_cases : {G : Type 0} (b : Bool) → (b ≡ true → G) → (b ≡ false → G) → G
by_cases true p q = p refl
by_cases false p q = q refl

lt_of : (m n : ℕ) → ltb m n ≡ true → m < n
lt_of m n h = grind (arith, nat_tests)

le_of : (m n : ℕ) → leb m n ≡ true → m ≤ n
le_of m n h = grind (arith, nat_tests)

to_lt : (m n : ℕ) → m < n → ltb m n ≡ true
to_lt m n h = grind (arith, nat_tests)

to_le : (m n : ℕ) → m ≤ n → leb m n ≡ true
to_le m n h = grind (arith, nat_tests)

eq_of : (m n : ℕ) → eqb m n ≡ true → m ≡ n
eq_of m n h = grind (arith, nat_tests)

to_eq : (n : ℕ) → eqb n n ≡ true
to_eq n = grind (arith, nat_tests)

to_ne : (m n : ℕ) → (m ≡ n → ⊥) → eqb m n ≡ false
to_ne m n h = grind (arith, nat_tests)

-- ---- a number
starts : (w : List ℕ) → 0 < length w → (eqb (get_or w 0 0) 48 ≡ true → length w ≤ 1) → has_number_start w ≡ true
starts w some h =
    both (ltb 0 (length w)) _ (to_lt 0 (length w) some)
    (by_cases (eqb (get_or w 0 0) 48)
    (λ e. rw (e, to_le (length w) 1 (h e)) refl)
    (λ e. rw e refl))

decimal_starts : (n : ℕ) → n < 2 ^ 64 → has_number_start (decimal n) ≡ true
decimal_starts zero h =
    let e : length (decimal 0) ≡ 1 = ap (λ ds. length ds) (decimal_digit 0 (omega arith)) in
    starts (decimal 0) (decimal_nonempty 0 h) (λ _. omega (arith, e))
decimal_starts (suc n) h =
    let first : 48 < get_or (decimal (suc n)) 0 0 = first_decimal (suc n) (omega arith) h in
    starts (decimal (suc n)) (decimal_nonempty (suc n) h) (λ e. absurd (omega (arith, first, eq_of _ _ e)))

number_of-decimal : (n : ℕ) → n < 2 ^ 64 → number_of (decimal n) ≡ Some n
unfolding number_of
number_of-decimal n h = rw (both (has_number_start (decimal n)) (all_ascii_digits (decimal n)) (decimal_starts n h) (digits_decimal own n h), digits_value-decimal own n h) refl

number_within-decimal : (limit n : ℕ) → n < 2 ^ 64 → n ≤ limit → number_within limit (decimal n) ≡ Some n
number_within-decimal limit n h le = rw (number_of-decimal n h, to_le n limit le) refl

-- ---- the parts of a word
abbrev HasNoComma : List ℕ → Type 0
HasNoComma w = All (λ b. eqb b comma ≡ false) w

no_comma : (n : ℕ) → n < 2 ^ 64 → HasNoComma (decimal n)
no_comma n h k d lt =
    let w = decimal n in
    let digit : IsInRange 48 57 (get_or w k 0) = digit_at w k (own.to w (digits_decimal own n h)) lt in
    let same : get_or w k d ≡ get_or w k 0 = get_or_default w k d 0 lt in
    to_ne (get_or w k d) comma (λ e. omega (arith, digit.0, digit.1, same, e))

pieces-joined : {X : Type 0} (f : X → ℕ) (x : X) (xs : List X) → AllByRecursion (λ y. f y < 2 ^ 64) (x ∷ xs)
    → pieces (join_with_byte comma (map (λ y. decimal (f y)) (x ∷ xs))) ≡ map (λ y. decimal (f y)) (x ∷ xs)
pieces-joined f x [] h = slice_split_none (λ b. eqb b comma) (decimal (f x)) (no_comma (f x) h.0)
pieces-joined f x (y ∷ ys) h =
    slice_split_at (λ b. eqb b comma) (decimal (f x)) comma (join_with_byte comma (map (λ z. decimal (f z)) (y ∷ ys))) (no_comma (f x) h.0) refl
    ∙ ap (λ ps. decimal (f x) ∷ ps) (pieces-joined f y ys h.1)

numbers-decimals : {X : Type 0} (limit : ℕ) (f : X → ℕ) (xs : List X) → limit < 2 ^ 64 → AllByRecursion (λ y. f y ≤ limit) xs
    → numbers limit (map (λ y. decimal (f y)) xs) ≡ Some (map f xs)
numbers-decimals limit f [] l h = refl
numbers-decimals limit f (x ∷ xs) l h = rw (number_within-decimal limit (f x) (omega (arith, h.0)) h.0, numbers-decimals limit f xs l h.1) refl

wide : {X : Type 0} (limit : ℕ) (f : X → ℕ) (xs : List X) → limit < 2 ^ 64 → AllByRecursion (λ y. f y ≤ limit) xs → AllByRecursion (λ y. f y < 2 ^ 64) xs
wide limit f [] l h = tt
wide limit f (x ∷ xs) l h = (omega (arith, h.0), wide limit f xs l h.1)

numbers-joined : {X : Type 0} (limit : ℕ) (f : X → ℕ) (x : X) (xs : List X) → limit < 2 ^ 64 → AllByRecursion (λ y. f y ≤ limit) (x ∷ xs)
    → numbers limit (pieces (join_with_byte comma (map (λ y. decimal (f y)) (x ∷ xs)))) ≡ Some (map f (x ∷ xs))
numbers-joined limit f x xs l h = ap (numbers limit) (pieces-joined f x xs (wide limit f (x ∷ xs) l h)) ∙ numbers-decimals limit f (x ∷ xs) l h

-- ---- a level sequence
levels_small : (last : ℕ) (ps : List (ℕ × ℕ)) (most : ℕ) → follows last ps ≡ true → last + length ps ≤ most → AllByRecursion (λ (p : ℕ × ℕ). p.0 ≤ most) ps
levels_small last [] most h l = tt
levels_small last (p ∷ ps) most h l =
    let a = and_both (leb 2 p.0) (leb p.0 (suc last) && follows p.0 ps) h in
    let b = and_both (leb p.0 (suc last)) (follows p.0 ps) a.1 in
    let step : p.0 ≤ suc last = le_of p.0 (suc last) b.0 in
    (omega (arith, step), levels_small p.0 ps most b.1 (omega (arith, step)))

above_one : (last : ℕ) (ps : List (ℕ × ℕ)) → follows last ps ≡ true → list_all (λ k. ltb 1 k) (map (λ p. p.0) ps) ≡ true
above_one last [] h = refl
above_one last (p ∷ ps) h =
    let a = and_both (leb 2 p.0) (leb p.0 (suc last) && follows p.0 ps) h in
    let b = and_both (leb p.0 (suc last)) (follows p.0 ps) a.1 in
    both (ltb 1 p.0) (list_all (λ k. ltb 1 k) (map (λ q. q.0) ps)) (to_lt 1 p.0 (omega (arith, le_of 2 p.0 a.0))) (above_one p.0 ps b.1)

climbing : (last : ℕ) (ps : List (ℕ × ℕ)) → follows last ps ≡ true → climbs_by_one last (map (λ p. p.0) ps) ≡ true
climbing last [] h = refl
climbing last (p ∷ ps) h =
    let a = and_both (leb 2 p.0) (leb p.0 (suc last) && follows p.0 ps) h in
    let b = and_both (leb p.0 (suc last)) (follows p.0 ps) a.1 in
    both (leb p.0 (suc last)) (climbs_by_one p.0 (map (λ q. q.0) ps)) b.0 (climbing p.0 ps b.1)

colours_small : (ps : List (ℕ × ℕ)) → list_all (λ p. ltb p.1 COLOURS) ps ≡ true → AllByRecursion (λ (p : ℕ × ℕ). p.1 ≤ largest_colour) ps
colours_small [] h = tt
colours_small (p ∷ ps) h =
    let b = and_both (ltb p.1 COLOURS) (list_all (λ q. ltb q.1 COLOURS) ps) h in
    (omega (arith, lt_of p.1 COLOURS b.0), colours_small ps b.1)

from_one-same : (ls : List ℕ) → map (λ k. suc k - 1) ls ≡ ls
from_one-same [] = refl
from_one-same (l ∷ ls) = let e : suc l - 1 ≡ l = omega arith in ap₂ (λ (n : ℕ) (ns : List ℕ). n ∷ ns) e (from_one-same ls)

zip-parts : (ps : List (ℕ × ℕ)) → zip (map (λ p. p.0) ps) (map (λ p. p.1) ps) ≡ ps
zip-parts [] = refl
zip-parts (p ∷ ps) = ap (λ qs. p ∷ qs) (zip-parts ps)

zeros-parts : (ps : List (ℕ × ℕ)) → has_colours ps ≡ false → replicate (length ps) 0 ≡ map (λ p. p.1) ps
zeros-parts [] h = refl
zeros-parts (p ∷ ps) h =
    by_cases (eqb p.1 0)
    (λ e.
    let e0 : p.1 ≡ 0 = eq_of p.1 0 e in
    let rest : has_colours ps ≡ false = rw e at h in
    ap₂ (λ (n : ℕ) (ns : List ℕ). n ∷ ns) (sym e0) (zeros-parts ps rest))
    (λ e. let no : true ≡ false = rw e at h in cc)

-- what the words of a level sequence give
pub record AreWords (s : List (ℕ × ℕ)) : Type 0 where
  pub some : 0 < length s
  pub small : length s ≤ MAX_NODES
  pub levels : numbers largest_level (pieces (levels_text s)) ≡ Some (map (λ p. p.0) s)
  pub colours : numbers largest_colour (pieces (colours_text s)) ≡ Some (map (λ p. p.1) s)
  pub valid : is_valid (map (λ p. p.0) s) ≡ true
  pub same : from_one (map (λ p. p.0) s) ≡ map (λ p. p.0) s

pub words_of : (s : List (ℕ × ℕ)) → is_level_sequence s ≡ true → AreWords s
words_of [] h = cc
words_of (p ∷ ps) h =
    let parts = parts_of (p ∷ ps) h in
    let b = and_both (eqb p.0 1) (follows 1 ps) parts.valid in
    let one : p.0 ≡ 1 = eq_of p.0 1 b.0 in
    let small : length (p ∷ ps) ≤ MAX_NODES = parts.small in
    let low : p.0 ≤ largest_level = omega (arith, one) in
    let rest : AllByRecursion (λ (q : ℕ × ℕ). q.0 ≤ largest_level) ps = levels_small 1 ps largest_level b.1 (omega (arith, small)) in
    record {
      some = omega arith;
      small = small;
      levels = numbers-joined largest_level (λ (q : ℕ × ℕ). q.0) p ps (omega arith) (low, rest);
      colours = numbers-joined largest_colour (λ (q : ℕ × ℕ). q.1) p ps (omega arith) (colours_small (p ∷ ps) parts.colours);
      valid = ap (λ n. list_all (λ k. ltb n k) (map (λ q. q.0) ps) && climbs_by_one n (map (λ q. q.0) ps)) one
          ∙ both (list_all (λ k. ltb 1 k) (map (λ q. q.0) ps)) (climbs_by_one 1 (map (λ q. q.0) ps)) (above_one 1 ps b.1) (climbing 1 ps b.1);
      same = ap (λ n. map (λ k. suc k - n) (map (λ q. q.0) (p ∷ ps))) one ∙ from_one-same (map (λ q. q.0) (p ∷ ps));
    }

with_tree : (s : List (ℕ × ℕ)) (cs : List ℕ) → AreWords s → cs ≡ map (λ p. p.1) s → tree_with (map (λ p. p.0) s) (Some cs) ≡ Ok (tree_of s)
with_tree s cs w e =
    let n : length (map (λ (p : ℕ × ℕ). p.0) s) ≡ length s = length-map s (λ p. p.0) in
    let few : ltb MAX_NODES (length (map (λ (p : ℕ × ℕ). p.0) s)) ≡ false = not_lt MAX_NODES (length (map (λ p. p.0) s)) (omega (arith, n, w.small)) in
    rw (few, w.same, e, zip-parts s) refl
  where
    not_lt : (m k : ℕ) → k ≤ m → ltb m k ≡ false
    not_lt m k h = grind (arith, nat_tests)

pub reads_back : ReadsBack
reads_back s h =
    let w = words_of s h in
    let n : length (map (λ (p : ℕ × ℕ). p.1) s) ≡ length (map (λ (p : ℕ × ℕ). p.0) s) = length-map s (λ p. p.1) ∙ sym (length-map s (λ p. p.0)) in
    rw (w.levels, w.valid, w.colours, n, to_eq (length (map (λ (p : ℕ × ℕ). p.0) s))) (with_tree s (map (λ p. p.1) s) w refl)

pub plain_reads_back : PlainReadsBack
plain_reads_back s h plain =
    let w = words_of s h in
    let zeros : replicate (length (map (λ (p : ℕ × ℕ). p.0) s)) 0 ≡ map (λ p. p.1) s = ap (λ n. replicate n 0) (length-map s (λ p. p.0)) ∙ zeros-parts s plain in
    rw (w.levels, w.valid) (with_tree s (replicate (length (map (λ (p : ℕ × ℕ). p.0) s)) 0) w zeros)

-- ---- a code is a level sequence
follows_onto : (f : Forest) (level last : ℕ) (x : List (ℕ × ℕ)) → 2 ≤ level → level ≤ suc last → ((m : ℕ) → level ≤ suc m → follows m x ≡ true)
    → follows last (level_sequence_at level f ++ x) ≡ true
follows_onto none level last x low up h = h last up
follows_onto (grow c kids rest) level last x low up h =
    both (leb 2 level) _ (to_le 2 level low)
    (both (leb level (suc last)) _ (to_le level (suc last) up)
    (ap (follows level) (append_assoc (level_sequence_at (suc level) kids) (level_sequence_at level rest) x)
    ∙ follows_onto kids (suc level) level (level_sequence_at level rest ++ x) (omega arith) (omega arith)
    (λ m le. follows_onto rest level m x low (omega arith) h)))

tree_is_valid : (t : Tree) → has_valid_levels (level_sequence t) ≡ true
tree_is_valid t =
    ap (follows 1) (sym (append-nil' (level_sequence_at 2 t.below))) ∙ follows_onto t.below 2 1 [] (omega arith) (omega arith) (λ m le. refl)
  where
    append-nil' : (xs : List (ℕ × ℕ)) → xs ++ [] ≡ xs
    append-nil' [] = refl
    append-nil' (x ∷ xs) = ap (λ ys. x ∷ ys) (append-nil' xs)

colours_pass : (ps : List (ℕ × ℕ)) → AllByRecursion (λ (p : ℕ × ℕ). p.1 < COLOURS) ps → list_all (λ p. ltb p.1 COLOURS) ps ≡ true
colours_pass [] h = refl
colours_pass (p ∷ ps) h = both (ltb p.1 COLOURS) (list_all (λ q. ltb q.1 COLOURS) ps) (to_lt p.1 COLOURS h.0) (colours_pass ps h.1)

code_is_level_sequence : (s : List (ℕ × ℕ)) → IsCode s → is_level_sequence s ≡ true
code_is_level_sequence s code =
    let valid : has_valid_levels s ≡ true = ap has_valid_levels (sym code.canonical) ∙ tree_is_valid (canonical_of (tree_of s)) in
    is_sequence s valid code.small (colours_pass s code.colours)

pub code_reads_back : CodeReadsBack
code_reads_back s code = (tree_of s, reads_back s (code_is_level_sequence s code), code.canonical)
