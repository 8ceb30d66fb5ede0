-- Valid levels and colours give a level sequence.
use Rattle.std.proofs.Common.{◌≡◌, ℕ, suc, zero, ◌+◌, ◌-◌, ◌≤◌, ◌<◌, Bool, true, false, ◌&&◌, List, [], ◌∷◌, ◌++◌, Option, Some, None, length, drop, get_or, eqb, ltb, leb, map, replicate, arith, refl, sym, ◌∙◌, ap, ap₂, append_assoc}
use Rattle.std.specs.Prelude.{IfSome}
use Rattle.std.specs.List.{list_all, zip}
use Rattle.std.proofs.lemmas.List.{drop_more, length-map, get_or-map}
use Rattle.std.proofs.lemmas.Bool.Decides.{nat_tests}
use Rattle.bs_tree.specs.Code.{follows, has_valid_levels, is_level_sequence}
use Rattle.bs_tree.specs.declared.TheConstants.{MAX_NODES, COLOURS}
use Rattle.bs_levels.specs.Words.{pieces, numbers, before, at_most, number_of, largest_colour}
use Rattle.bs_levels.specs.Levels.{is_valid, climbs_by_one, from_one, colours_for, one_each, node_count}

and_both : (a b : Bool) → (a && b) ≡ true → (a ≡ true) × (b ≡ true)
and_both true b h = (refl, h)
and_both false b h = cc

both : (a b : Bool) → a ≡ true → b ≡ true → (a && b) ≡ true
both a b e f = rw (e, f) refl

by_cases : {G : Type 0} (b : Bool) → (b ≡ true → G) → (b ≡ false → G) → G
by_cases true p q = p refl
by_cases false p q = q refl

lt_of : (m n : ℕ) → ltb m n ≡ true → m < n
lt_of m n h = grind (arith, nat_tests)

le_of : (m n : ℕ) → leb m n ≡ true → m ≤ n
le_of m n h = grind (arith, nat_tests)

to_lt : (m n : ℕ) → m < n → ltb m n ≡ true
to_lt m n h = grind (arith, nat_tests)

to_le : (m n : ℕ) → m ≤ n → leb m n ≡ true
to_le m n h = grind (arith, nat_tests)

eq_of : (m n : ℕ) → eqb m n ≡ true → m ≡ n
eq_of m n h = grind (arith, nat_tests)

to_eq : (m n : ℕ) → m ≡ n → eqb m n ≡ true
to_eq m n h = grind (arith, nat_tests)

-- ---- how far levels climb
climbs : (last : ℕ) (ls : List ℕ) (i : ℕ) → climbs_by_one last ls ≡ true → i < length ls → get_or ls i 0 ≤ last + 1 + i
climbs last [] i h lt = absurd (omega arith)
climbs last (l ∷ ls) zero h lt = let b = and_both (leb l (suc last)) (climbs_by_one l ls) h in omega (arith, le_of l (suc last) b.0)
climbs last (l ∷ ls) (suc i) h lt = let b = and_both (leb l (suc last)) (climbs_by_one l ls) h in omega (arith, le_of l (suc last) b.0, climbs l ls i b.1 (omega arith))

-- each level of a tree is near the first
pub level_fits : (ls : List ℕ) (i : ℕ) → is_valid ls ≡ true → i < length ls → get_or ls i 0 ≤ get_or ls 0 0 + i
level_fits [] i h lt = absurd (omega arith)
level_fits (l ∷ ls) zero h lt = omega arith
level_fits (l ∷ ls) (suc i) h lt = let b = and_both (list_all (λ k. ltb l k) ls) (climbs_by_one l ls) h in omega (arith, climbs l ls i b.1 (omega arith))

above_first : (first : ℕ) (ls : List ℕ) (i : ℕ) → list_all (λ k. ltb first k) ls ≡ true → i < length ls → first < get_or ls i 0
above_first first [] i h lt = absurd (omega arith)
above_first first (l ∷ ls) zero h lt = let b = and_both (ltb first l) (list_all (λ k. ltb first k) ls) h in lt_of first l b.0
above_first first (l ∷ ls) (suc i) h lt = let b = and_both (ltb first l) (list_all (λ k. ltb first k) ls) h in above_first first ls i b.1 (omega arith)

pub first_least : (ls : List ℕ) (i : ℕ) → is_valid ls ≡ true → i < length ls → get_or ls 0 0 ≤ get_or ls i 0
first_least [] i h lt = absurd (omega arith)
first_least (l ∷ ls) zero h lt = omega arith
first_least (l ∷ ls) (suc i) h lt = let b = and_both (list_all (λ k. ltb l k) ls) (climbs_by_one l ls) h in omega (arith, above_first l ls i b.0 (omega arith))

-- ---- one pair more
pub length-from_one : (ls : List ℕ) → length (from_one ls) ≡ length ls
length-from_one [] = refl
length-from_one (l ∷ ls) = length-map (l ∷ ls) (λ k. suc k - l)

get_or-from_one : (ls : List ℕ) (i : ℕ) → i < length ls → get_or (from_one ls) i 0 ≡ suc (get_or ls i 0) - get_or ls 0 0
get_or-from_one [] i lt = absurd (omega arith)
get_or-from_one (l ∷ ls) i lt = get_or-map (λ k. suc k - l) (l ∷ ls) i 0 0 lt

pub pairs_step : (ls cs : List ℕ) (i : ℕ) (items new : List (ℕ × ℕ)) → i < length ls → length cs ≡ length ls
    → items ++ zip (drop i (from_one ls)) (drop i cs) ≡ zip (from_one ls) cs
    → new ≡ items ++ (suc (get_or ls i 0) - get_or ls 0 0, get_or cs i 0) ∷ []
    → new ++ zip (drop (i + 1) (from_one ls)) (drop (i + 1) cs) ≡ zip (from_one ls) cs
pairs_step ls cs i items new lt same e f =
    let levels = from_one ls in
    let d1 : drop i levels ≡ (suc (get_or ls i 0) - get_or ls 0 0) ∷ drop (i + 1) levels =
    drop_more levels i 0 (omega (arith, length-from_one ls)) ∙ ap (λ n. n ∷ drop (i + 1) levels) (get_or-from_one ls i lt) in
    let d2 : drop i cs ≡ get_or cs i 0 ∷ drop (i + 1) cs = drop_more cs i 0 (omega (arith, same)) in
    let pair : ℕ × ℕ = (suc (get_or ls i 0) - get_or ls 0 0, get_or cs i 0) in
    let tail : List (ℕ × ℕ) = zip (drop (i + 1) levels) (drop (i + 1) cs) in
    ap (λ ps. ps ++ tail) f
    ∙ append_assoc items (pair ∷ []) tail
    ∙ ap (λ ps. items ++ ps) (sym (ap₂ (λ (xs ys : List ℕ). zip xs ys) d1 d2))
    ∙ e

-- ---- a level sequence
follows_from : (first last : ℕ) (ls cs : List ℕ) → first ≤ last → list_all (λ k. ltb first k) ls ≡ true → climbs_by_one last ls ≡ true
    → follows (suc last - first) (zip (map (λ k. suc k - first) ls) cs) ≡ true
follows_from first last [] cs h a b = refl
follows_from first last (l ∷ ls) [] h a b = refl
follows_from first last (l ∷ ls) (c ∷ cs) h a b =
    let p = and_both (ltb first l) (list_all (λ k. ltb first k) ls) a in
    let q = and_both (leb l (suc last)) (climbs_by_one l ls) b in
    let above : first < l = lt_of first l p.0 in
    let step : l ≤ suc last = le_of l (suc last) q.0 in
    both _ _ (to_le 2 (suc l - first) (omega arith)) (both _ _ (to_le (suc l - first) (suc (suc last - first)) (omega arith)) (follows_from first l ls cs (omega arith) p.1 q.1))

valid_from : (ls cs : List ℕ) → is_valid ls ≡ true → length cs ≡ length ls → has_valid_levels (zip (from_one ls) cs) ≡ true
valid_from [] cs h same = cc
valid_from (l ∷ ls) [] h same = absurd (omega arith)
valid_from (l ∷ ls) (c ∷ cs) h same =
    let p = and_both (list_all (λ k. ltb l k) ls) (climbs_by_one l ls) h in
    let one : suc l - l ≡ 1 = omega arith in
    both _ _ (to_eq (suc l - l) 1 one)
    (ap (λ n. follows n (zip (map (λ k. suc k - l) ls) cs)) (sym one) ∙ follows_from l l ls cs (omega arith) p.0 p.1)

length-zip : (xs cs : List ℕ) → length (zip xs cs) ≤ length xs
length-zip [] cs = omega arith
length-zip (x ∷ xs) [] = omega arith
length-zip (x ∷ xs) (c ∷ cs) = omega (arith, length-zip xs cs)

colours_from : (xs cs : List ℕ) → list_all (λ c. leb c largest_colour) cs ≡ true → list_all (λ p. ltb p.1 COLOURS) (zip xs cs) ≡ true
colours_from [] cs h = refl
colours_from (x ∷ xs) [] h = refl
colours_from (x ∷ xs) (c ∷ cs) h =
    let b = and_both (leb c largest_colour) (list_all (λ k. leb k largest_colour) cs) h in
    both _ _ (to_lt c COLOURS (omega (arith, le_of c largest_colour b.0))) (colours_from xs cs b.1)

-- what makes a level sequence, and what it has
pub is_sequence : (ps : List (ℕ × ℕ)) → has_valid_levels ps ≡ true → length ps ≤ MAX_NODES → list_all (λ p. ltb p.1 COLOURS) ps ≡ true → is_level_sequence ps ≡ true
is_sequence ps h small colours = rw (h, to_le (length ps) MAX_NODES small, colours) refl

pub record HasParts (ps : List (ℕ × ℕ)) : Type 0 where
  pub valid : has_valid_levels ps ≡ true
  pub small : length ps ≤ MAX_NODES
  pub colours : list_all (λ p. ltb p.1 COLOURS) ps ≡ true

pub parts_of : (ps : List (ℕ × ℕ)) → is_level_sequence ps ≡ true → HasParts ps
parts_of ps h =
    let a = and_both (leb (length ps) MAX_NODES) (has_valid_levels ps && list_all (λ p. ltb p.1 COLOURS) ps) h in
    let b = and_both (has_valid_levels ps) (list_all (λ p. ltb p.1 COLOURS) ps) a.1 in
    record { valid = b.0; small = le_of (length ps) MAX_NODES a.0; colours = b.1 }

pub level_sequence_from : (ls cs : List ℕ) → is_valid ls ≡ true → length cs ≡ length ls → length ls ≤ MAX_NODES → list_all (λ c. leb c largest_colour) cs ≡ true
    → is_level_sequence (zip (from_one ls) cs) ≡ true
level_sequence_from ls cs h same small colours =
    let short : length (zip (from_one ls) cs) ≤ MAX_NODES = omega (arith, length-zip (from_one ls) cs, length-from_one ls) in
    is_sequence (zip (from_one ls) cs) (valid_from ls cs h same) short (colours_from (from_one ls) cs colours)

-- ---- the numbers of a word are within its limit
before_small : (limit : ℕ) (n : Option ℕ) (o : Option (List ℕ)) → IfSome o (λ ns. list_all (λ k. leb k limit) ns ≡ true)
    → IfSome (before (at_most limit n) o) (λ ns. list_all (λ k. leb k limit) ns ≡ true)
before_small limit None o h = tt
before_small limit (Some n) None h = by_cases (leb n limit) (λ e. rw e tt) (λ e. rw e tt)
before_small limit (Some n) (Some ns) h = by_cases (leb n limit) (λ e. rw e (rw e h)) (λ e. rw e tt)

numbers_small : (limit : ℕ) (ps : List (List ℕ)) → IfSome (numbers limit ps) (λ ns. list_all (λ k. leb k limit) ns ≡ true)
numbers_small limit [] = refl
numbers_small limit (p ∷ ps) = before_small limit (number_of p) (numbers limit ps) (numbers_small limit ps)

zeros_small : (n : ℕ) → list_all (λ k. leb k largest_colour) (replicate n 0) ≡ true
zeros_small zero = refl
zeros_small (suc n) = zeros_small n

zeros_long : (n : ℕ) → length {A = ℕ} (replicate n 0) ≡ n
zeros_long zero = refl
zeros_long (suc n) = ap suc (zeros_long n)

pub record AreLevels (n : ℕ) (ls : List ℕ) : Type 0 where
  pub counted : length ls ≡ n
  pub valid : is_valid ls ≡ true

same_some : (m n : ℕ) → Some m ≡ Some n → m ≡ n
same_some m n h = cc

pub levels_are : (n : ℕ) (ls : List ℕ) → node_count (Some ls) ≡ Some n → AreLevels n ls
levels_are n ls h =
    by_cases (is_valid ls)
    (λ e. let some : Some (length ls) ≡ Some n = rw e at h in record { counted = same_some (length ls) n some; valid = e })
    (λ e. let none : None ≡ Some n = rw e at h in cc)

pub record AreColours (n : ℕ) (cs : List ℕ) : Type 0 where
  pub one_each : length cs ≡ n
  pub small : list_all (λ k. leb k largest_colour) cs ≡ true

one_each_good : (n : ℕ) (o : Option (List ℕ)) → IfSome o (λ ns. list_all (λ k. leb k largest_colour) ns ≡ true) → IfSome (one_each n o) (AreColours n)
one_each_good n None h = tt
one_each_good n (Some cs) h =
    by_cases (eqb (length cs) n)
    (λ e. let good : AreColours n cs = record { one_each = eq_of (length cs) n e; small = h } in rw e good)
    (λ e. rw e tt)

pub colours_good : (n : ℕ) (w : Option (List ℕ)) → IfSome (colours_for n w) (AreColours n)
colours_good n None = record { one_each = zeros_long n; small = zeros_small n }
colours_good n (Some w) = one_each_good n (numbers largest_colour (pieces w)) (numbers_small largest_colour (pieces w))

pub colours_are : (n : ℕ) (w : Option (List ℕ)) (cs : List ℕ) → colours_for n w ≡ Some cs → AreColours n cs
colours_are n w cs e = rw e at (colours_good n w)
