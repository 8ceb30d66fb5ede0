-- What is left of a word after its first numbers.
use Rattle.std.proofs.Common.{◌≡◌, ℕ, suc, ◌+◌, ◌≤◌, ◌<◌, Bool, true, false, cond, ◌&&◌, List, [], ◌∷◌, ◌++◌, Option, Some, None, length, leb, ltb, arith, refl, sym, ◌∙◌, ap, subst, append_assoc, append-nil, length-append, zero-add, Bor, option_map}
use Rattle.std.specs.Prelude.{IfSome}
use Rattle.std.specs.Option.{option_map_or}
use Rattle.std.specs.List.{list_all}
use Rattle.bs_levels.specs.Words.{pieces, numbers, before, largest_level}
use Rattle.bs_levels.specs.Levels.{node_count, climbs_by_one}
use Rattle.bs_tree.specs.declared.TheConstants.{MAX_NODES}

-- the parts that are left
abbrev pub left : Option (Bor (List ℕ)) → List (List ℕ)
left o = option_map_or (λ rest. pieces rest.now) o []

-- the bytes that are left, with the comma before them
abbrev pub size : Option (Bor (List ℕ)) → ℕ
size o = option_map_or (λ rest. suc (length rest.now)) o 0

pub size_le : (o : Option (Bor (List ℕ))) (m : ℕ) → IfSome o (λ rest. length rest.now < m) → size o ≤ m
size_le None m h = omega arith
size_le (Some rest) m h = omega (arith, h)

-- ---- counting
pub record IsCounting (limit : ℕ) (word : List ℕ) (count : ℕ) (rest : Option (Bor (List ℕ))) : Type 0 where
  pub counted : option_map (λ ns. length ns) (numbers limit (pieces word)) ≡ option_map (λ ns. count + length ns) (numbers limit (left rest))
  pub room : count + size rest ≤ suc (length word)

count_zero : (o : Option (List ℕ)) → option_map (λ ns. length ns) o ≡ option_map (λ ns. 0 + length ns) o
count_zero None = refl
count_zero (Some ns) = ap Some (sym (zero-add (length ns)))

count_more : (n count : ℕ) (o : Option (List ℕ)) → option_map (λ ns. count + length ns) (before (Some n) o) ≡ option_map (λ ns. count + 1 + length ns) o
count_more n count None = refl
count_more n count (Some ns) = let e : count + length (n ∷ ns) ≡ count + 1 + length ns = omega arith in ap Some e

pub counting_start : (limit : ℕ) (word : Bor (List ℕ)) → IsCounting limit word.now 0 (Some word)
counting_start limit word = record { counted = count_zero (numbers limit (pieces word.now)); room = omega arith }

pub counting_step : (limit : ℕ) (word : List ℕ) (count n : ℕ) (text : Bor (List ℕ)) (after : Option (Bor (List ℕ))) → IsCounting limit word count (Some text)
    → numbers limit (pieces text.now) ≡ before (Some n) (numbers limit (left after)) → IfSome after (λ rest. length rest.now < length text.now) → IsCounting limit word (count + 1) after
counting_step limit word count n text after r e s = record {
  counted = r.counted ∙ ap (option_map (λ ns. count + length ns)) e ∙ count_more n count (numbers limit (left after));
  room = omega (arith, r.room, size_le after (length text.now) s);
}

pub counting_fails : (limit : ℕ) (word : List ℕ) (count : ℕ) (text : Bor (List ℕ)) → IsCounting limit word count (Some text) → numbers limit (pieces text.now) ≡ None
    → None ≡ option_map (λ ns. length ns) (numbers limit (pieces word))
counting_fails limit word count text r e = sym (r.counted ∙ ap (option_map (λ ns. count + length ns)) e)

pub counting_ends : (limit : ℕ) (word : List ℕ) (count : ℕ) → IsCounting limit word count None → Some count ≡ option_map (λ ns. length ns) (numbers limit (pieces word))
counting_ends limit word count r = let e : count ≡ count + 0 = omega arith in ap Some e ∙ sym r.counted

-- ---- valid levels
-- how many nodes there are where these are the levels after the first `count`
abbrev pub node_count_after : ℕ → ℕ → ℕ → Option (List ℕ) → Option ℕ
node_count_after count first last None = None
node_count_after count first last (Some ls) = cond (list_all (λ k. ltb first k) ls && climbs_by_one last ls) (Some (count + length ls)) None

pub record IsClimbing (word : List ℕ) (first last count : ℕ) (rest : Option (Bor (List ℕ))) : Type 0 where
  pub counted : node_count (numbers largest_level (pieces word)) ≡ node_count_after count first last (numbers largest_level (left rest))
  pub room : count + size rest ≤ suc (length word)

first_counted : (first : ℕ) (o : Option (List ℕ)) → node_count (before (Some first) o) ≡ node_count_after 1 first first o
first_counted first None = refl
first_counted first (Some ls) =
    let e : length (first ∷ ls) ≡ 1 + length ls = omega arith in
    ap (λ n. cond (list_all (λ k. ltb first k) ls && climbs_by_one first ls) (Some n) None) e

both_tests : (a b x y : Bool) → (a && b) ≡ true → ((a && x) && (b && y)) ≡ (x && y)
both_tests true true x y h = refl
both_tests true false x y h = cc
both_tests false b x y h = cc

one_fails : (a b x y : Bool) → (a && b) ≡ false → ((a && x) && (b && y)) ≡ false
one_fails true true x y h = cc
one_fails true false true y h = refl
one_fails true false false y h = refl
one_fails false b x y h = refl

next_counted : (first last level count : ℕ) (o : Option (List ℕ)) → (ltb first level && leb level (suc last)) ≡ true
    → node_count_after count first last (before (Some level) o) ≡ node_count_after (count + 1) first level o
next_counted first last level count None h = refl
next_counted first last level count (Some ls) h =
    let e : count + length (level ∷ ls) ≡ count + 1 + length ls = omega arith in
    rw (both_tests (ltb first level) (leb level (suc last)) (list_all (λ k. ltb first k) ls) (climbs_by_one level ls) h, e) refl

not_counted : (first last level count : ℕ) (o : Option (List ℕ)) → (ltb first level && leb level (suc last)) ≡ false
    → node_count_after count first last (before (Some level) o) ≡ None
not_counted first last level count None h = refl
not_counted first last level count (Some ls) h =
    rw (one_fails (ltb first level) (leb level (suc last)) (list_all (λ k. ltb first k) ls) (climbs_by_one level ls) h) refl

pub climbing_start : (word : List ℕ) (first : ℕ) (after : Option (Bor (List ℕ))) → numbers largest_level (pieces word) ≡ before (Some first) (numbers largest_level (left after))
    → IfSome after (λ rest. length rest.now < length word) → IsClimbing word first first 1 after
climbing_start word first after e s = record {
  counted = ap node_count e ∙ first_counted first (numbers largest_level (left after));
  room = omega (arith, size_le after (length word) s);
}

pub climbing_step : (word : List ℕ) (first last level count : ℕ) (text : Bor (List ℕ)) (after : Option (Bor (List ℕ))) → IsClimbing word first last count (Some text)
    → numbers largest_level (pieces text.now) ≡ before (Some level) (numbers largest_level (left after)) → IfSome after (λ rest. length rest.now < length text.now)
    → (ltb first level && leb level (suc last)) ≡ true → IsClimbing word first level (count + 1) after
climbing_step word first last level count text after r e s h = record {
  counted = r.counted ∙ ap (node_count_after count first last) e ∙ next_counted first last level count (numbers largest_level (left after)) h;
  room = omega (arith, r.room, size_le after (length text.now) s);
}

pub climbing_stops : (word : List ℕ) (first last level count : ℕ) (text : Bor (List ℕ)) (after : Option (Bor (List ℕ))) → IsClimbing word first last count (Some text)
    → numbers largest_level (pieces text.now) ≡ before (Some level) (numbers largest_level (left after)) → (ltb first level && leb level (suc last)) ≡ false
    → None ≡ node_count (numbers largest_level (pieces word))
climbing_stops word first last level count text after r e h =
    sym (r.counted ∙ ap (node_count_after count first last) e ∙ not_counted first last level count (numbers largest_level (left after)) h)

pub climbing_fails : (word : List ℕ) (first last count : ℕ) (text : Bor (List ℕ)) → IsClimbing word first last count (Some text) → numbers largest_level (pieces text.now) ≡ None
    → None ≡ node_count (numbers largest_level (pieces word))
climbing_fails word first last count text r e = sym (r.counted ∙ ap (node_count_after count first last) e)

pub climbing_ends : (word : List ℕ) (first last count : ℕ) → IsClimbing word first last count None → Some count ≡ node_count (numbers largest_level (pieces word))
climbing_ends word first last count r = let e : count ≡ count + 0 = omega arith in ap Some e ∙ sym r.counted

-- ---- keeping the numbers
pub record IsKeeping (limit : ℕ) (word items : List ℕ) (rest : Option (Bor (List ℕ))) : Type 0 where
  pub kept : numbers limit (pieces word) ≡ option_map (λ ns. items ++ ns) (numbers limit (left rest))

keep_none : (o : Option (List ℕ)) → o ≡ option_map (λ ns. [] ++ ns) o
keep_none None = refl
keep_none (Some ns) = refl

keep_more : (n : ℕ) (items : List ℕ) (o : Option (List ℕ)) → option_map (λ ns. items ++ ns) (before (Some n) o) ≡ option_map (λ ns. (items ++ n ∷ []) ++ ns) o
keep_more n items None = refl
keep_more n items (Some ns) = ap Some (sym (append_assoc items (n ∷ []) ns))

pub keeping_start : (limit : ℕ) (word : Bor (List ℕ)) → IsKeeping limit word.now [] (Some word)
keeping_start limit word = record { kept = keep_none (numbers limit (pieces word.now)) }

pub keeping_step : (limit : ℕ) (word items : List ℕ) (n : ℕ) (text : Bor (List ℕ)) (after : Option (Bor (List ℕ))) → IsKeeping limit word items (Some text)
    → numbers limit (pieces text.now) ≡ before (Some n) (numbers limit (left after)) → IsKeeping limit word (items ++ n ∷ []) after
keeping_step limit word items n text after r e = record { kept = r.kept ∙ ap (option_map (λ ns. items ++ ns)) e ∙ keep_more n items (numbers limit (left after)) }

pub keeping_ends : (limit : ℕ) (word items : List ℕ) → IsKeeping limit word items None → numbers limit (pieces word) ≡ Some items
keeping_ends limit word items r = r.kept ∙ ap Some (append-nil items)

-- ---- the numbers that are kept while there is room
pub record IsColumn (limit : ℕ) (word items : List ℕ) (count : ℕ) (rest : Option (Bor (List ℕ))) : Type 0 where
  pub kept : count ≤ MAX_NODES → IsKeeping limit word items rest
  pub all : count ≤ MAX_NODES → length items ≡ count

pub column_start : (limit : ℕ) (word : Bor (List ℕ)) (items : List ℕ) → items ≡ [] → IsColumn limit word.now items 0 (Some word)
column_start limit word items e = record {
  kept = λ h. subst (λ (xs : List ℕ). IsKeeping limit word.now xs (Some word)) (sym e) (keeping_start limit word);
  all = λ h. ap length e;
}

pub column_step : (limit : ℕ) (word items new : List ℕ) (count n : ℕ) (text : Bor (List ℕ)) (after : Option (Bor (List ℕ))) → IsColumn limit word items count (Some text)
    → numbers limit (pieces text.now) ≡ before (Some n) (numbers limit (left after)) → (length items < MAX_NODES → new ≡ items ++ n ∷ []) → IsColumn limit word new (count + 1) after
column_step limit word items new count n text after r e put =
    let grown : count + 1 ≤ MAX_NODES → new ≡ items ++ n ∷ [] = λ h. put (let k = r.all (omega arith) in omega arith) in
    record {
      kept = λ h. subst (λ (xs : List ℕ). IsKeeping limit word xs after) (sym (grown h)) (keeping_step limit word items n text after (r.kept (omega arith)) e);
      all = λ h. omega (arith, ap length (grown h), length-append items (n ∷ []), r.all (omega arith));
    }

-- the first number of a word is kept
pub column_first : (limit : ℕ) (word : Bor (List ℕ)) (empty items : List ℕ) (n : ℕ) (after : Option (Bor (List ℕ))) → numbers limit (pieces word.now) ≡ before (Some n) (numbers limit (left after))
    → empty ≡ [] → items ≡ empty ++ n ∷ [] → IsColumn limit word.now items 1 after
column_first limit word empty items n after e none put =
    let r = column_step limit word.now empty items 0 n word after (column_start limit word empty none) e (λ h. put) in
    record { kept = λ h. r.kept (omega arith); all = λ h. omega (arith, r.all (omega arith)) }

pub column_end : (limit : ℕ) (word items : List ℕ) (count : ℕ) → IsColumn limit word items count None → count ≤ MAX_NODES → numbers limit (pieces word) ≡ Some items
column_end limit word items count r h = keeping_ends limit word items (r.kept h)
