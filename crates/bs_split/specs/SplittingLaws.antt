-- Laws of the list of splittings, for the layers above.
--
--   split_balanced t   == the orders of an item's trees add up to the order of t
--   SplitShape t       == the last item keeps t whole, and each other one keeps nothing or a smaller tree
--   order_kept, orders == the order of what is kept, and of a forest
--
-- Source: Chartier, Hairer and Vilmart (2010), the composition law; the order of the list is this project's.
use Rattle.std.proofs.Common.{◌≡◌, ℕ, suc, ◌+◌, ◌<◌, List, [], ◌∷◌, ◌++◌, map, Option, Some, None, arith, refl, sym, ◌∙◌, ap, subst, append_assoc, append-nil}
use Rattle.std.specs.List.{flat_map, AllByRecursion}
use Rattle.std.proofs.lemmas.Grind.{flat_map-append}
use Rattle.std.proofs.lemmas.List.{map-append}
use Rattle.bs_tree.specs.Tree.{Forest, none, grow, Tree, nodes, order, forest}
use Rattle.bs_tree.specs.Canonical.{canonical_of}
use Rattle.bs_tree.specs.ListLaws.{all_append, all_map, all_flat_map, all_any, all_both, all_front}
use Rattle.bs_tree.specs.SortingLaws.{IsCanonical, canonical_twice, order-canonical_of, nodes-append, nodes-canonical_of}
use Rattle.bs_split.specs.Splitting.{Cuts, cut_off, keep, cuts, Split, rooted, splits, init}

init_of : {X : Type 0} (xs : List X) (x : X) → init (xs ++ x ∷ []) ≡ xs
init_of [] x = refl
init_of (y ∷ []) x = refl
init_of {X} (y ∷ (z ∷ zs)) x = ap (λ (ws : List X). y ∷ ws) (init_of (z ∷ zs) x)

-- ---- every item reassembles to the list of trees, by number
abbrev pub IsBalanced : ℕ → Cuts → Type 0
IsBalanced n s = nodes s.kept + nodes (forest s.cut) ≡ n

keep_balanced : (c m n : ℕ) (k s : Cuts) → IsBalanced m k → IsBalanced n s → IsBalanced (suc m + n) (keep c k s)
keep_balanced c m n k s h i = omega (arith, nodes-append k.cut s.cut, h, i)

cut_balanced : (n : ℕ) (t : Tree) (s : Cuts) → IsBalanced n s → IsBalanced (order t + n) (cut_off t s)
cut_balanced n t s i = omega arith

pub balanced : (f : Forest) → AllByRecursion (IsBalanced (nodes f)) (cuts f)
balanced none = (refl, tt)
balanced (grow c kids rest) =
    let P = IsBalanced (nodes (grow c kids rest)) in
    let t : Tree = record { colour = c; below = kids } in
    all_append P (map (cut_off t) (cuts rest)) (flat_map (λ k. map (keep c k) (cuts rest)) (cuts kids))
    (all_map P (cut_off t) (IsBalanced (nodes rest)) (cut_balanced (nodes rest) t) (cuts rest) (balanced rest))
    (all_flat_map P (λ k. map (keep c k) (cuts rest)) (IsBalanced (nodes kids))
    (λ k h. all_map P (keep c k) (IsBalanced (nodes rest)) (λ s i. keep_balanced c (nodes kids) (nodes rest) k s h i) (cuts rest) (balanced rest))
    (cuts kids) (balanced kids))

-- ---- every item but the last cuts something
abbrev CutsSome : Cuts → Type 0
CutsSome s = 0 < nodes (forest s.cut)

abbrev whole_cuts : Forest → Cuts
whole_cuts f = record { kept = f; cut = [] }

record EndsWhole (f : Forest) (xs : List Cuts) : Type 0 where
  before : List Cuts
  is : xs ≡ before ++ whole_cuts f ∷ []
  some : AllByRecursion CutsSome before

ends_whole : (f : Forest) → EndsWhole f (cuts f)
ends_whole none = record { before = []; is = refl; some = tt }
ends_whole (grow c kids rest) =
    let t : Tree = record { colour = c; below = kids } in
    let k = ends_whole kids in
    let r = ends_whole rest in
    let row : Cuts → List Cuts = λ j. map (keep c j) (cuts rest) in
    let last_row = map (keep c (whole_cuts kids)) r.before in
    let e1 : row (whole_cuts kids) ≡ last_row ++ whole_cuts (grow c kids rest) ∷ [] =
    ap (map (keep c (whole_cuts kids))) r.is ∙ map-append (keep c (whole_cuts kids)) r.before (whole_cuts rest ∷ []) in
    let e2 : flat_map row (cuts kids) ≡ flat_map row k.before ++ (last_row ++ whole_cuts (grow c kids rest) ∷ []) =
    ap (flat_map row) k.is ∙ flat_map-append row k.before (whole_cuts kids ∷ []) ∙ ap (λ (zs : List Cuts). flat_map row k.before ++ zs) (append-nil (row (whole_cuts kids)) ∙ e1) in
    let e3 : flat_map row (cuts kids) ≡ (flat_map row k.before ++ last_row) ++ whole_cuts (grow c kids rest) ∷ [] =
    e2 ∙ sym (append_assoc (flat_map row k.before) last_row _) in
    record {
      before = map (cut_off t) (cuts rest) ++ (flat_map row k.before ++ last_row);
      is = ap (λ (zs : List Cuts). map (cut_off t) (cuts rest) ++ zs) e3 ∙ sym (append_assoc (map (cut_off t) (cuts rest)) (flat_map row k.before ++ last_row) _);
      some = all_append CutsSome (map (cut_off t) (cuts rest)) (flat_map row k.before ++ last_row)
          (all_map CutsSome (cut_off t) (λ _. Unit {0}) (λ s _. let z : 0 < suc (nodes kids) + nodes (forest s.cut) = omega arith in z) (cuts rest)
          (all_any (λ _. Unit {0}) (λ _. tt) (cuts rest)))
          (all_append CutsSome (flat_map row k.before) last_row
          (all_flat_map CutsSome row CutsSome
          (λ j h. all_map CutsSome (keep c j) (λ _. Unit {0}) (λ s _. let e = nodes-append j.cut s.cut in let h' : 0 < nodes (forest j.cut) = h in omega arith) (cuts rest)
          (all_any (λ _. Unit {0}) (λ _. tt) (cuts rest))) k.before k.some)
          (all_map CutsSome (keep c (whole_cuts kids)) CutsSome (λ s h. h) r.before r.some));
    }

-- ---- splittings
-- a canonical tree of fewer than n nodes
pub record KeepsSmaller (n : ℕ) (u : Tree) : Type 0 where
  pub smaller : order u < n
  pub canonical : IsCanonical u

abbrev pub OnSome : {X : Type 0} → (X → Type 0) → Option X → Type 0
OnSome P None = Unit {0}
OnSome P (Some x) = P x

kept_smaller : (c n : ℕ) (s : Cuts) → IsBalanced n s → CutsSome s → KeepsSmaller (suc n) (canonical_of (record { colour = c; below = s.kept }))
kept_smaller c n s h k =
    let u : Tree = record { colour = c; below = s.kept } in
    let e : order (canonical_of u) ≡ suc (nodes s.kept) = order-canonical_of u in
    let k' : 0 < nodes (forest s.cut) = k in
    record { smaller = omega arith; canonical = canonical_twice u }

pub record SplitShape (t : Tree) : Type 0 where
  pub before : List Split
  pub is : splits t ≡ before ++ record { kept = Some (canonical_of t); forest = [] } ∷ []
  pub init_is : init (splits t) ≡ before
  pub smaller : AllByRecursion (λ s. OnSome (KeepsSmaller (order t)) s.kept) before

pub split_shape : (t : Tree) → SplitShape t
split_shape t =
    let f : Forest = t.below in
    let w = ends_whole f in
    let nothing : Split = record { kept = None; forest = canonical_of t ∷ [] } in
    let last : Split = record { kept = Some (canonical_of t); forest = [] } in
    let with_root : List Cuts → List Split = map (rooted t.colour) in
    let Smaller : Cuts → Type 0 = λ s. KeepsSmaller (order t) (canonical_of (record { colour = t.colour; below = s.kept })) in
    let e : splits t ≡ (nothing ∷ with_root w.before) ++ last ∷ [] =
    ap (λ (xs : List Cuts). nothing ∷ with_root xs) w.is ∙ ap (λ (xs : List Split). nothing ∷ xs) (map-append (rooted t.colour) w.before _) in
    let b : AllByRecursion (IsBalanced (nodes f)) w.before =
    all_front (IsBalanced (nodes f)) w.before _ (subst (λ xs. AllByRecursion (IsBalanced (nodes f)) xs) w.is (balanced f)) in
    record {
      before = nothing ∷ with_root w.before;
      is = e;
      init_is = ap init e ∙ init_of (nothing ∷ with_root w.before) last;
      smaller = (
        tt,
        all_map (λ s. OnSome (KeepsSmaller (order t)) s.kept) (rooted t.colour) Smaller (λ s h. h) w.before
            (all_both (IsBalanced (nodes f)) CutsSome Smaller (kept_smaller t.colour (nodes f)) w.before b w.some),
      );
    }

-- ---- the orders of an item
abbrev pub order_kept : Option Tree → ℕ
order_kept None = 0
order_kept (Some t) = order t

abbrev pub orders : List Tree → ℕ
orders ts = nodes (forest ts)

pub split_balanced : (t : Tree) → AllByRecursion (λ s. order_kept s.kept + orders s.forest ≡ order t) (splits t)
split_balanced t = (
  let e = order-canonical_of t in omega arith,
  all_map (λ s. order_kept s.kept + orders s.forest ≡ order t) (rooted t.colour) (IsBalanced (nodes t.below))
      (λ s h. omega (arith, order-canonical_of (record { colour = t.colour; below = s.kept }), nodes-canonical_of s.cut, h)) (cuts t.below) (balanced t.below),
)
