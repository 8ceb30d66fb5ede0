-- The plan at a code is the plan over the items by codes.
use Rattle.std.proofs.Common.{◌≡◌, ℕ, zero, suc, List, [], ◌∷◌, map, length, replicate, Option, Some, None, option_map, refl, sym, ◌∙◌, ap, ap₂}
use Rattle.bs_frac.specs.Fraction.{Fraction, whole}
use Rattle.bs_frac.specs.Written.{Term, add, subtract}
use Rattle.bs_tree.specs.Tree.{Tree, order}
use Rattle.bs_tree.specs.Canonical.{level_sequence}
use Rattle.bs_tree.specs.Code.{tree_of, IsCode}
use Rattle.bs_tree.specs.SubtreeLaws.{code_sequence}
use Rattle.bs_split.specs.Splitting.{Split, splits, init, codes_of}
use Rattle.bs_part.specs.Partition.{Part, parts, tail, codes_of as part_codes_of}
use Rattle.bs_series.specs.Series.{Series, exact, identity, average, method, compose, inverse, adjoint, substitute, modified, modifying, scale, empty_value}
use Rattle.bs_series.specs.Plan.{Factor, fixed, at, turned, Plan, kept_factor, split_factors, turned_factors, part_factors, term_map}
use Rattle.bs_series.specs.SeriesCode.{Code, coded_factor, plan_at}
use Rattle.bs_series.specs.PlanItems.{kept_code, split_code_factors, turned_code_factors, part_code_factors, plan_by_items, ItemsLaw}
use Rattle.bs_series.proofs.Planned.{length-level_sequence}

coded_at : (a : Series) (ts : List Tree) → map coded_factor (map (at a) ts) ≡ map (at a) (map level_sequence ts)
coded_at a [] = refl
coded_at a (t ∷ ts) = ap (λ (fs : List (Factor Code)). at a (level_sequence t) ∷ fs) (coded_at a ts)

coded_turned : (a : Series) (ts : List Tree) → map coded_factor (map (turned a) ts) ≡ map (turned a) (map level_sequence ts)
coded_turned a [] = refl
coded_turned a (t ∷ ts) = ap (λ (fs : List (Factor Code)). turned a (level_sequence t) ∷ fs) (coded_turned a ts)

coded_kept : (b : Series) (e : Fraction) (o : Option Tree) → coded_factor (kept_factor b e o) ≡ kept_code b e (option_map level_sequence o)
coded_kept b e None = refl
coded_kept b e (Some t) = refl

coded_split : (a : Series) (e : Fraction) (b : Series) (s : Split) → map coded_factor (split_factors a e b s) ≡ split_code_factors a e b (codes_of s)
coded_split a e b s = ap₂ (λ (f : Factor Code) (fs : List (Factor Code)). f ∷ fs) (coded_kept b e s.kept) (coded_at a s.forest)

coded_turn : (a b : Series) (s : Split) → map coded_factor (turned_factors a b s) ≡ turned_code_factors a b (codes_of s)
coded_turn a b s = ap₂ (λ (f : Factor Code) (fs : List (Factor Code)). f ∷ fs) (coded_kept b (whole 1) s.kept) (coded_turned a s.forest)

coded_part : (a b : Series) (p : Part) → map coded_factor (part_factors a b p) ≡ part_code_factors a b (part_codes_of p)
coded_part a b p = ap (λ (fs : List (Factor Code)). at a (level_sequence p.skeleton) ∷ fs) (coded_at b p.parts)

module _ {X Y : Type 0} (item : X → Y) (f : X → List (Factor Tree)) (g : Y → List (Factor Code)) (same : (x : X) → map coded_factor (f x) ≡ g (item x)) where
  adds : (xs : List X) → map (term_map coded_factor) (map (λ x. add (f x)) xs) ≡ map (λ y. add (g y)) (map item xs)
  adds [] = refl
  adds (x ∷ xs) = ap₂ (λ (fs : List (Factor Code)) (ts : List (Term (Factor Code))). add fs ∷ ts) (same x) (adds xs)

  subtracts : (xs : List X) → map (term_map coded_factor) (map (λ x. subtract (f x)) xs) ≡ map (λ y. subtract (g y)) (map item xs)
  subtracts [] = refl
  subtracts (x ∷ xs) = ap₂ (λ (fs : List (Factor Code)) (ts : List (Term (Factor Code))). subtract fs ∷ ts) (same x) (subtracts xs)

init-map : {X Y : Type 0} (f : X → Y) (xs : List X) → init (map f xs) ≡ map f (init xs)
init-map f [] = refl
init-map f (x ∷ []) = refl
init-map {X} {Y} f (x ∷ (y ∷ ys)) = ap (λ (zs : List Y). f x ∷ zs) (init-map f (y ∷ ys))

tail-map : {X Y : Type 0} (f : X → Y) (xs : List X) → tail (map f xs) ≡ map f (tail xs)
tail-map f [] = refl
tail-map f (x ∷ xs) = refl

module _ (code : Code) (h : IsCode code) where
  abbrev t : Tree
  t = tree_of code

  here : level_sequence t ≡ code
  here = code_sequence code h

  alone : List (Term (Factor Code)) → Plan Code
  alone ts = record { terms = ts; divisor = None }

  powers : (c : Fraction) (n : ℕ) → map coded_factor (replicate n (fixed c)) ≡ replicate n (fixed c)
  powers c zero = refl
  powers c (suc n) = ap (λ (fs : List (Factor Code)). fixed c ∷ fs) (powers c n)

  pub items : (s : Series) → plan_at s code ≡ plan_by_items s code
  unfolding alone
  items (exact k) = refl
  items (identity k) = refl
  items (average k) = refl
  items (method n k) = refl
  items (compose a b) = ap alone (adds codes_of (split_factors a (empty_value b) b) (split_code_factors a (empty_value b) b) (coded_split a (empty_value b) b) (splits t))
  items (inverse a) =
      ap alone (subtracts codes_of (split_factors a (whole 1) (inverse a)) (split_code_factors a (whole 1) (inverse a)) (coded_split a (whole 1) (inverse a)) (init (splits t))
      ∙ ap (map (λ s. subtract (split_code_factors a (whole 1) (inverse a) s))) (sym (init-map codes_of (splits t))))
  items (adjoint a) =
      ap alone (subtracts codes_of (turned_factors a (adjoint a)) (turned_code_factors a (adjoint a)) (coded_turn a (adjoint a)) (init (splits t))
      ∙ ap (map (λ s. subtract (turned_code_factors a (adjoint a) s))) (sym (init-map codes_of (splits t))))
  items (substitute b a) = ap alone (adds part_codes_of (part_factors a b) (part_code_factors a b) (coded_part a b) (parts t))
  items (modified a) =
      ap₂ (λ (c : Code) (ts : List (Term (Factor Code))). alone (add (at a c ∷ []) ∷ ts)) here
      (subtracts part_codes_of (part_factors (exact 1) (modified a)) (part_code_factors (exact 1) (modified a)) (coded_part (exact 1) (modified a)) (tail (parts t))
      ∙ ap (map (λ p. subtract (part_code_factors (exact 1) (modified a) p))) (sym (tail-map part_codes_of (parts t))))
  items (modifying a) =
      ap₂ (λ (c : Code) (ts : List (Term (Factor Code))). let p : Plan Code = record { terms = add (at (exact 1) c ∷ []) ∷ ts; divisor = Some (at a ((1, 0) ∷ [])) } in p) here
      (subtracts part_codes_of (part_factors a (modifying a)) (part_code_factors a (modifying a)) (coded_part a (modifying a)) (tail (parts t))
      ∙ ap (map (λ p. subtract (part_code_factors a (modifying a) p))) (sym (tail-map part_codes_of (parts t))))
  items (scale a c) =
      ap₂ (λ (d : Code) (fs : List (Factor Code)). alone (add (at a d ∷ fs) ∷ [])) here
      (powers c (order t) ∙ ap (λ (n : ℕ). replicate n (fixed c)) (sym (length-level_sequence t) ∙ ap length here))

pub items_law : ItemsLaw
items_law s code h = items code h s
