-- The trees of splittings and partitions have only the tree's colours, and the factors of a plan only those of their series.
use Rattle.std.proofs.Common.{◌≡◌, ℕ, zero, suc, ◌<◌, List, [], ◌∷◌, ◌++◌, map, length, replicate, Option, Some, None, option_map, arith, refl, sym, subst}
use Rattle.std.specs.List.{flat_map, AllByRecursion}
use Rattle.std.proofs.lemmas.List.Elements.{All-nil, All-cons, All-head, All-tail, All-append, All-take, All-drop}
use Rattle.std.proofs.Math.Seq.{take-append_seam, drop-append_seam}
use Rattle.bs_frac.specs.Fraction.{Fraction, whole}
use Rattle.bs_frac.specs.Written.{Term, add, subtract}
use Rattle.bs_tree.specs.Tree.{Forest, none, grow, Tree, forest, order, Coloured, IsColoured}
use Rattle.bs_tree.specs.Canonical.{canonical_of, level_sequence, level_sequence_at}
use Rattle.bs_tree.specs.Code.{IsCode, tree_of}
use Rattle.bs_tree.specs.SubtreeLaws.{code_sequence}
use Rattle.bs_tree.specs.ListLaws.{all_append, all_map, all_flat_map}
use Rattle.bs_tree.proofs.CodeOf.{coloured-sorted}
use Rattle.bs_split.specs.Splitting.{Cuts, cut_off, keep, cuts, Split, rooted, splits, init}
use Rattle.bs_split.specs.SplittingLaws.{OnSome}
use Rattle.bs_part.specs.Partition.{Part, parts, leaf, tail}
use Rattle.bs_part.proofs.Skeletons.{coloured-append}
use Rattle.bs_part.proofs.Colours.{items_coloured}
use Rattle.bs_series.specs.Series.{Series, exact, identity, average, method, compose, inverse, adjoint, substitute, modified, modifying, scale, empty_value, colours_of}
use Rattle.bs_series.specs.Plan.{Factor, fixed, at, turned, plan, kept_factor, split_factors, turned_factors, part_factors, term_map, term_factors, divisor_factors, OnFactor}
use Rattle.bs_series.specs.SeriesCode.{Code, IsColouredCode, HasItsColours, coded_factor}
use Rattle.bs_series.specs.Accepted.{ColoursFit}
use Rattle.bs_series.specs.Laws.{ColoursLaw}

-- ---- codes and their trees
front : (k : ℕ) (xs ys : Code) → IsColouredCode k (xs ++ ys) → IsColouredCode k xs
front k xs ys h = subst (IsColouredCode k) (take-append_seam xs ys) (All-take (λ (p : ℕ × ℕ). p.1 < k) (length xs) (xs ++ ys) h)

back : (k : ℕ) (xs ys : Code) → IsColouredCode k (xs ++ ys) → IsColouredCode k ys
back k xs ys h = subst (IsColouredCode k) (drop-append_seam xs ys) (All-drop (λ (p : ℕ × ℕ). p.1 < k) (length xs) (xs ++ ys) h)

read_at : (k l : ℕ) (f : Forest) → IsColouredCode k (level_sequence_at l f) → Coloured k f
read_at k l none h = tt
read_at k l (grow c kids rest) h =
    let P : ℕ × ℕ → Type 0 = λ p. p.1 < k in
    let more = All-tail P (l, c) (level_sequence_at (suc l) kids ++ level_sequence_at l rest) h in
    (All-head P (l, c) (level_sequence_at (suc l) kids ++ level_sequence_at l rest) h, read_at k (suc l) kids (front k _ _ more), read_at k l rest (back k (level_sequence_at (suc l) kids) _ more))

written_at : (k l : ℕ) (f : Forest) → Coloured k f → IsColouredCode k (level_sequence_at l f)
written_at k l none h = All-nil (λ (p : ℕ × ℕ). p.1 < k)
written_at k l (grow c kids rest) h =
    let P : ℕ × ℕ → Type 0 = λ p. p.1 < k in
    All-cons P (l, c) (level_sequence_at (suc l) kids ++ level_sequence_at l rest) h.0 (All-append P _ _ (written_at k (suc l) kids h.1) (written_at k l rest h.2))

tree_coloured : (k : ℕ) (t : Tree) → IsColouredCode k (level_sequence t) → IsColoured k t
tree_coloured k t h =
    let P : ℕ × ℕ → Type 0 = λ p. p.1 < k in
    (All-head P (1, t.colour) (level_sequence_at 2 t.below) h, read_at k 2 t.below (All-tail P (1, t.colour) (level_sequence_at 2 t.below) h))

pub sequence_coloured : (k : ℕ) (t : Tree) → IsColoured k t → IsColouredCode k (level_sequence t)
sequence_coloured k t h = All-cons (λ (p : ℕ × ℕ). p.1 < k) (1, t.colour) (level_sequence_at 2 t.below) h.0 (written_at k 2 t.below h.1)

pub code_coloured : (k : ℕ) (code : Code) → IsCode code → IsColouredCode k code → IsColoured k (tree_of code)
code_coloured k code is h = tree_coloured k (tree_of code) (subst (IsColouredCode k) (sym (code_sequence code is)) h)

-- ---- splittings
record Keeps (k : ℕ) (s : Cuts) : Type 0 where
  kept : Coloured k s.kept
  cut : Coloured k (forest s.cut)

cuts_coloured : (k : ℕ) (f : Forest) → Coloured k f → AllByRecursion (Keeps k) (cuts f)
cuts_coloured k none h = (record { kept = tt; cut = tt }, tt)
cuts_coloured k (grow c kids rest) h =
    let P = Keeps k in
    let t : Tree = record { colour = c; below = kids } in
    let later = cuts_coloured k rest h.2 in
    all_append P (map (cut_off t) (cuts rest)) (flat_map (λ j. map (keep c j) (cuts rest)) (cuts kids))
    (all_map P (cut_off t) P (λ s i. record { kept = i.kept; cut = (h.0, h.1, i.cut) }) (cuts rest) later)
    (all_flat_map P (λ j. map (keep c j) (cuts rest)) P
    (λ j g. all_map P (keep c j) P (λ s i. record { kept = (h.0, g.kept, i.kept); cut = coloured-append k j.cut s.cut g.cut i.cut }) (cuts rest) later)
    (cuts kids) (cuts_coloured k kids h.1))

all_coloured : (k : ℕ) (ts : List Tree) → Coloured k (forest ts) → AllByRecursion (IsColoured k) (map canonical_of ts)
all_coloured k [] h = tt
all_coloured k (t ∷ ts) h = ((h.0, coloured-sorted k t.below h.1), all_coloured k ts h.2)

abbrev pub SplitColoured : ℕ → Split → Type 0
SplitColoured k s = OnSome (IsColoured k) s.kept × AllByRecursion (IsColoured k) s.forest

pub splits_coloured : (k : ℕ) (t : Tree) → IsColoured k t → AllByRecursion (SplitColoured k) (splits t)
splits_coloured k t h = (
  (tt, ((h.0, coloured-sorted k t.below h.1), tt)),
  all_map (SplitColoured k) (rooted t.colour) (Keeps k) (λ s i. ((h.0, coloured-sorted k s.kept i.kept), all_coloured k s.cut i.cut)) (cuts t.below) (cuts_coloured k t.below h.1),
)

-- ---- all items but one
all_init : {X : Type 0} (P : X → Type 0) (xs : List X) → AllByRecursion P xs → AllByRecursion P (init xs)
all_init P [] h = tt
all_init P (x ∷ []) h = tt
all_init P (x ∷ (y ∷ ys)) h = (h.0, all_init P (y ∷ ys) h.1)

all_tail : {X : Type 0} (P : X → Type 0) (xs : List X) → AllByRecursion P xs → AllByRecursion P (tail xs)
all_tail P [] h = tt
all_tail P (x ∷ xs) h = h.1

-- ---- the factors of a plan
abbrev Fits : Factor Tree → Type 0
Fits = OnFactor (λ s t. IsColoured (colours_of s) t)

abbrev TermFits : Term (Factor Tree) → Type 0
TermFits r = AllByRecursion Fits (term_factors r)

at_all : (a : Series) (ts : List Tree) → AllByRecursion (IsColoured (colours_of a)) ts → AllByRecursion Fits (map (at a) ts)
at_all a ts h = all_map Fits (at a) (IsColoured (colours_of a)) (λ t k. k) ts h

turned_all : (a : Series) (ts : List Tree) → AllByRecursion (IsColoured (colours_of a)) ts → AllByRecursion Fits (map (turned a) ts)
turned_all a ts h = all_map Fits (turned a) (IsColoured (colours_of a)) (λ t k. k) ts h

kept_fits : (b : Series) (e : Fraction) (o : Option Tree) → OnSome (IsColoured (colours_of b)) o → Fits (kept_factor b e o)
kept_fits b e None h = tt
kept_fits b e (Some t) h = h

abbrev PartColoured : ℕ → Part → Type 0
PartColoured k p = IsColoured 1 p.skeleton × AllByRecursion (IsColoured k) p.parts

part_fits : (a b : Series) (p : Part) → colours_of a ≡ 1 → PartColoured (colours_of b) p → AllByRecursion Fits (part_factors a b p)
part_fits a b p e h = (subst (λ (k : ℕ). IsColoured k p.skeleton) (sym e) h.0, at_all b p.parts h.1)

same_as : (k m : ℕ) (t : Tree) → k ≡ m → IsColoured k t → IsColoured m t
same_as k m t e h = subst (λ (n : ℕ). IsColoured n t) e h

terms_fit : (s : Series) (t : Tree) → ColoursFit s → IsColoured (colours_of s) t → AllByRecursion TermFits (plan s t).terms
terms_fit (exact k) t f h = tt
terms_fit (identity k) t f h = tt
terms_fit (average k) t f h = tt
terms_fit (method n k) t f h = tt
terms_fit (compose a b) t f h =
    all_map TermFits (λ i. add (split_factors a (empty_value b) b i)) (SplitColoured (colours_of a))
    (λ i k. (kept_fits b (empty_value b) i.kept (subst (λ (n : ℕ). OnSome (IsColoured n) i.kept) f k.0), at_all a i.forest k.1)) (splits t) (splits_coloured (colours_of a) t h)
terms_fit (inverse a) t f h =
    all_map TermFits (λ i. subtract (split_factors a (whole 1) (inverse a) i)) (SplitColoured (colours_of a))
    (λ i k. (kept_fits (inverse a) (whole 1) i.kept k.0, at_all a i.forest k.1)) (init (splits t)) (all_init (SplitColoured (colours_of a)) (splits t) (splits_coloured (colours_of a) t h))
terms_fit (adjoint a) t f h =
    all_map TermFits (λ i. subtract (turned_factors a (adjoint a) i)) (SplitColoured (colours_of a))
    (λ i k. (kept_fits (adjoint a) (whole 1) i.kept k.0, turned_all a i.forest k.1)) (init (splits t)) (all_init (SplitColoured (colours_of a)) (splits t) (splits_coloured (colours_of a) t h))
terms_fit (substitute b a) t f h =
    all_map TermFits (λ p. add (part_factors a b p)) (PartColoured (colours_of b)) (λ p k. part_fits a b p f k) (parts t) (items_coloured (colours_of b) t h)
terms_fit (modified a) t f h = (
  (h, tt),
  all_map TermFits (λ p. subtract (part_factors (exact 1) (modified a) p)) (PartColoured (colours_of a)) (λ p k. part_fits (exact 1) (modified a) p refl k)
      (tail (parts t)) (all_tail (PartColoured (colours_of a)) (parts t) (items_coloured (colours_of a) t h)),
)
terms_fit (modifying a) t f h = (
  (same_as (colours_of a) 1 t f h, tt),
  all_map TermFits (λ p. subtract (part_factors a (modifying a) p)) (PartColoured (colours_of a)) (λ p k. part_fits a (modifying a) p f k)
      (tail (parts t)) (all_tail (PartColoured (colours_of a)) (parts t) (items_coloured (colours_of a) t h)),
)
terms_fit (scale a c) t f h = ((h, powers (order t)), tt)
  where
    powers : (n : ℕ) → AllByRecursion Fits (replicate n (fixed c))
    powers zero = tt
    powers (suc n) = (tt, powers n)

divisor_fits : (s : Series) (t : Tree) → ColoursFit s → AllByRecursion Fits (divisor_factors (plan s t).divisor)
divisor_fits (exact k) t f = tt
divisor_fits (identity k) t f = tt
divisor_fits (average k) t f = tt
divisor_fits (method n k) t f = tt
divisor_fits (compose a b) t f = tt
divisor_fits (inverse a) t f = tt
divisor_fits (adjoint a) t f = tt
divisor_fits (substitute b a) t f = tt
divisor_fits (modified a) t f = tt
divisor_fits (modifying a) t f = (same_as 1 (colours_of a) leaf (sym f) (omega arith, tt), tt)
divisor_fits (scale a c) t f = tt

-- ---- by codes
coded_fits : (f : Factor Tree) → Fits f → HasItsColours (coded_factor f)
coded_fits (fixed c) h = tt
coded_fits (at s t) h = sequence_coloured (colours_of s) t h
coded_fits (turned s t) h = sequence_coloured (colours_of s) t h

coded_term : (r : Term (Factor Tree)) → TermFits r → AllByRecursion HasItsColours (term_factors (term_map coded_factor r))
coded_term (add fs) h = all_map HasItsColours coded_factor Fits coded_fits fs h
coded_term (subtract fs) h = all_map HasItsColours coded_factor Fits coded_fits fs h

coded_divisor : (d : Option (Factor Tree)) → AllByRecursion Fits (divisor_factors d) → AllByRecursion HasItsColours (divisor_factors (option_map coded_factor d))
coded_divisor None h = tt
coded_divisor (Some f) h = (coded_fits f h.0, tt)

pub colours_law : ColoursLaw
colours_law s code is f h =
    let t = tree_of code in
    let k = code_coloured (colours_of s) code is h in
    let ts = (plan s t).terms in
    all_append HasItsColours (flat_map term_factors (map (term_map coded_factor) ts)) (divisor_factors (option_map coded_factor (plan s t).divisor))
    (all_flat_map HasItsColours term_factors (λ r. AllByRecursion HasItsColours (term_factors r)) (λ r g. g) (map (term_map coded_factor) ts)
    (all_map (λ r. AllByRecursion HasItsColours (term_factors r)) (term_map coded_factor) TermFits coded_term ts (terms_fit s t f k)))
    (coded_divisor (plan s t).divisor (divisor_fits s t f))
