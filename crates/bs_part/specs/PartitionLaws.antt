-- Laws of the list of partitions, for the layers above.
--
--   part_balanced t    == the orders of an item's parts add up to the order of t
--   PartShape t        == the first item is the leaf with t whole, and in each other one each part is a smaller tree
--   part_nodes t       == a skeleton has one node for each part
--   bare f             == a list of trees with colour 0 at each node
--   singles f          == the nodes of a list of trees, each a tree by itself, in preorder
--   LastPart t         == the last item has t's shape in colour 0 as skeleton, and its nodes as parts
--
-- Source: Chartier, Hairer and Vilmart (2010), the substitution law; the order of the list is this project's.
use Rattle.std.proofs.Common.{◌≡◌, ℕ, suc, ◌+◌, ◌<◌, List, [], ◌∷◌, ◌++◌, map, length, arith, refl, sym, ◌∙◌, ap, ap₂, subst, append_assoc, append-nil}
use Rattle.std.specs.List.{flat_map, AllByRecursion}
use Rattle.std.proofs.lemmas.Grind.{flat_map-append}
use Rattle.std.proofs.lemmas.List.{length-append, length-map, map-append}
use Rattle.bs_tree.specs.Tree.{Forest, none, grow, Tree, nodes, order, trees, forest}
use Rattle.bs_tree.specs.Canonical.{canonical_of}
use Rattle.bs_tree.specs.ListLaws.{all_append, all_map, all_flat_map, all_any, all_both}
use Rattle.bs_tree.specs.SortingLaws.{IsCanonical, canonical_twice, order-canonical_of, nodes-append, nodes-canonical_of}
use Rattle.bs_part.specs.Partition.{node, Pieces, keep_edge, cut_edge, pieces, Part, rooted, parts, leaf, tail}

-- the nodes of what is joined and of the parts, and one node that hangs for each part
pub record IsWhole (n : ℕ) (p : Pieces) : Type 0 where
  pub nodes_add_up : nodes p.joined + nodes (forest p.parts) ≡ n
  pub one_each : nodes (forest p.hung) ≡ length p.parts

abbrev IsCut : Pieces → Type 0
IsCut p = 0 < nodes (forest p.parts)

abbrev joined_whole : Forest → Pieces
joined_whole f = record { joined = f; hung = []; parts = [] }

kept_whole : (c m n : ℕ) (k p : Pieces) → IsWhole m k → IsWhole n p → IsWhole (suc m + n) (keep_edge c k p)
kept_whole c m n k p h i = record {
  nodes_add_up = omega (arith, nodes-append k.parts p.parts, h.nodes_add_up, i.nodes_add_up);
  one_each = omega (arith, nodes-append k.hung p.hung, length-append k.parts p.parts, h.one_each, i.one_each);
}

cut_whole : (c m n : ℕ) (k p : Pieces) → IsWhole m k → IsWhole n p → IsWhole (suc m + n) (cut_edge c k p)
cut_whole c m n k p h i = record {
  nodes_add_up = omega (arith, nodes-append k.parts p.parts, h.nodes_add_up, i.nodes_add_up);
  one_each = omega (arith, length-append k.parts p.parts, h.one_each, i.one_each);
}

pub whole : (f : Forest) → AllByRecursion (IsWhole (nodes f)) (pieces f)
whole none = (record { nodes_add_up = refl; one_each = refl }, tt)
whole (grow c kids rest) =
    let P = IsWhole (nodes (grow c kids rest)) in
    let kept : Pieces → List Pieces = λ k. map (keep_edge c k) (pieces rest) in
    let cut : Pieces → List Pieces = λ k. map (cut_edge c k) (pieces rest) in
    all_append P (flat_map kept (pieces kids)) (flat_map cut (pieces kids))
    (all_flat_map P kept (IsWhole (nodes kids))
    (λ k h. all_map P (keep_edge c k) (IsWhole (nodes rest)) (λ s i. kept_whole c (nodes kids) (nodes rest) k s h i) (pieces rest) (whole rest)) (pieces kids) (whole kids))
    (all_flat_map P cut (IsWhole (nodes kids))
    (λ k h. all_map P (cut_edge c k) (IsWhole (nodes rest)) (λ s i. cut_whole c (nodes kids) (nodes rest) k s h i) (pieces rest) (whole rest)) (pieces kids) (whole kids))

record BeginsWhole (f : Forest) (xs : List Pieces) : Type 0 where
  after : List Pieces
  is : xs ≡ joined_whole f ∷ after
  some : AllByRecursion IsCut after

begins_whole : (f : Forest) → BeginsWhole f (pieces f)
begins_whole none = record { after = []; is = refl; some = tt }
begins_whole (grow c kids rest) =
    let k = begins_whole kids in
    let r = begins_whole rest in
    let kept : Pieces → List Pieces = λ j. map (keep_edge c j) (pieces rest) in
    let cut : Pieces → List Pieces = λ j. map (cut_edge c j) (pieces rest) in
    let first = map (keep_edge c (joined_whole kids)) r.after in
    let e1 : kept (joined_whole kids) ≡ joined_whole (grow c kids rest) ∷ first = ap (map (keep_edge c (joined_whole kids))) r.is in
    let e2 : flat_map kept (pieces kids) ≡ joined_whole (grow c kids rest) ∷ (first ++ flat_map kept k.after) =
    ap (flat_map kept) k.is ∙ ap (λ (zs : List Pieces). zs ++ flat_map kept k.after) e1 in
    record {
      after = (first ++ flat_map kept k.after) ++ flat_map cut (pieces kids);
      is = ap (λ (zs : List Pieces). zs ++ flat_map cut (pieces kids)) e2;
      some = all_append IsCut (first ++ flat_map kept k.after) (flat_map cut (pieces kids))
          (all_append IsCut first (flat_map kept k.after)
          (all_map IsCut (keep_edge c (joined_whole kids)) IsCut (λ s h. h) r.after r.some)
          (all_flat_map IsCut kept IsCut
          (λ j h. all_map IsCut (keep_edge c j) (λ _. Unit {0}) (λ s _. let e = nodes-append j.parts s.parts in let h' : 0 < nodes (forest j.parts) = h in omega arith) (pieces rest)
          (all_any (λ _. Unit {0}) (λ _. tt) (pieces rest))) k.after k.some))
          (all_flat_map IsCut cut (λ _. Unit {0})
          (λ j _. all_map IsCut (cut_edge c j) (λ _. Unit {0}) (λ s _. let z : 0 < suc (nodes j.joined) + nodes (forest (j.parts ++ s.parts)) = omega arith in z) (pieces rest)
          (all_any (λ _. Unit {0}) (λ _. tt) (pieces rest))) (pieces kids) (all_any (λ _. Unit {0}) (λ _. tt) (pieces kids)));
    }

-- ---- partitions
-- a canonical tree of fewer than n nodes
pub record KeepsSmaller (n : ℕ) (u : Tree) : Type 0 where
  pub smaller : order u < n
  pub canonical : IsCanonical u

small_parts : (n : ℕ) (ts : List Tree) → nodes (forest ts) < n → AllByRecursion (KeepsSmaller n) (map canonical_of ts)
small_parts n [] h = tt
small_parts n (t ∷ ts) h = (record { smaller = let e = order-canonical_of t in omega arith; canonical = canonical_twice t }, small_parts n ts (omega arith))

pub record PartShape (t : Tree) : Type 0 where
  pub after : List Part
  pub is : parts t ≡ record { skeleton = leaf; parts = canonical_of t ∷ [] } ∷ after
  pub tail_is : tail (parts t) ≡ after
  pub smaller : AllByRecursion (λ p. AllByRecursion (KeepsSmaller (order t)) p.parts) after

pub part_shape : (t : Tree) → PartShape t
part_shape t =
    let w = begins_whole t.below in
    let n = order t in
    let Small : Pieces → Type 0 = λ p. AllByRecursion (KeepsSmaller n) (map canonical_of (node t.colour p.joined ∷ p.parts)) in
    let all : AllByRecursion (IsWhole (nodes t.below)) (joined_whole t.below ∷ w.after) = subst (λ xs. AllByRecursion (IsWhole (nodes t.below)) xs) w.is (whole t.below) in
    record {
      after = map (rooted t.colour) w.after;
      is = ap (map (rooted t.colour)) w.is;
      tail_is = ap (λ (ps : List Pieces). tail (map (rooted t.colour) ps)) w.is;
      smaller = all_map (λ p. AllByRecursion (KeepsSmaller n) p.parts) (rooted t.colour) Small (λ p h. h) w.after
          (all_both (IsWhole (nodes t.below)) IsCut Small
          (λ p b s. (
            record { smaller = let e = order-canonical_of (node t.colour p.joined) in let s' : 0 < nodes (forest p.parts) = s in omega (arith, b.nodes_add_up); canonical = canonical_twice (node t.colour p.joined) },
            small_parts n p.parts (omega (arith, b.nodes_add_up)),
          ))
          w.after all.1 w.some);
    }

abbrev pub orders : List Tree → ℕ
orders ts = nodes (forest ts)

pub part_balanced : (t : Tree) → AllByRecursion (λ p. orders p.parts ≡ order t) (parts t)
part_balanced t =
    all_map (λ p. orders p.parts ≡ order t) (rooted t.colour) (IsWhole (nodes t.below))
    (λ p h. omega (arith, order-canonical_of (node t.colour p.joined), nodes-canonical_of p.parts, h.nodes_add_up)) (pieces t.below) (whole t.below)

pub part_nodes : (t : Tree) → AllByRecursion (λ p. order p.skeleton ≡ length p.parts) (parts t)
part_nodes t =
    all_map (λ p. order p.skeleton ≡ length p.parts) (rooted t.colour) (IsWhole (nodes t.below))
    (λ p h. omega (arith, order-canonical_of (node 0 (forest p.hung)), length-map p.parts canonical_of, h.one_each)) (pieces t.below) (whole t.below)

-- ---- the last item
abbrev pub bare : Forest → Forest
bare none = none
bare (grow c kids rest) = grow 0 (bare kids) (bare rest)

abbrev pub singles : Forest → List Tree
singles none = []
singles (grow c kids rest) = node c none ∷ (singles kids ++ singles rest)

abbrev all_cut : Forest → Pieces
all_cut f = record { joined = none; hung = trees (bare f); parts = singles f }

again : (f : Forest) → forest (trees f) ≡ f
again none = refl
again (grow c kids rest) = ap (grow c kids) (again rest)

record EndsCut (f : Forest) (xs : List Pieces) : Type 0 where
  before : List Pieces
  is : xs ≡ before ++ all_cut f ∷ []

ends_cut : (f : Forest) → EndsCut f (pieces f)
ends_cut none = record { before = []; is = refl }
ends_cut (grow c kids rest) =
    let k = ends_cut kids in
    let r = ends_cut rest in
    let kept = flat_map (λ j. map (keep_edge c j) (pieces rest)) (pieces kids) in
    let row : Pieces → List Pieces = λ j. map (cut_edge c j) (pieces rest) in
    let last_row = map (cut_edge c (all_cut kids)) r.before in
    let last : cut_edge c (all_cut kids) (all_cut rest) ≡ all_cut (grow c kids rest) =
    ap (λ (g : Forest). let p : Pieces = record { joined = none; hung = node 0 g ∷ trees (bare rest); parts = singles (grow c kids rest) } in p) (again (bare kids)) in
    let e1 : row (all_cut kids) ≡ last_row ++ all_cut (grow c kids rest) ∷ [] =
    ap (map (cut_edge c (all_cut kids))) r.is ∙ map-append (cut_edge c (all_cut kids)) r.before (all_cut rest ∷ []) ∙ ap (λ (p : Pieces). last_row ++ p ∷ []) last in
    let e2 : flat_map row (pieces kids) ≡ flat_map row k.before ++ (last_row ++ all_cut (grow c kids rest) ∷ []) =
    ap (flat_map row) k.is ∙ flat_map-append row k.before (all_cut kids ∷ []) ∙ ap (λ (zs : List Pieces). flat_map row k.before ++ zs) (append-nil (row (all_cut kids)) ∙ e1) in
    let e3 : flat_map row (pieces kids) ≡ (flat_map row k.before ++ last_row) ++ all_cut (grow c kids rest) ∷ [] =
    e2 ∙ sym (append_assoc (flat_map row k.before) last_row _) in
    record {
      before = kept ++ (flat_map row k.before ++ last_row);
      is = ap (λ (zs : List Pieces). kept ++ zs) e3 ∙ sym (append_assoc kept (flat_map row k.before ++ last_row) _);
    }

singles_canonical : (f : Forest) → map canonical_of (singles f) ≡ singles f
singles_canonical none = refl
singles_canonical (grow c kids rest) =
    ap (λ (ts : List Tree). node c none ∷ ts)
    (map-append canonical_of (singles kids) (singles rest) ∙ ap₂ (λ (ts us : List Tree). ts ++ us) (singles_canonical kids) (singles_canonical rest))

pub record LastPart (t : Tree) : Type 0 where
  pub before : List Part
  pub is : parts t ≡ before ++ record { skeleton = canonical_of (node 0 (bare t.below)); parts = node t.colour none ∷ singles t.below } ∷ []

pub last_part : (t : Tree) → LastPart t
last_part t =
    let w = ends_cut t.below in
    let front = map (rooted t.colour) w.before in
    let last : rooted t.colour (all_cut t.below) ≡ record { skeleton = canonical_of (node 0 (bare t.below)); parts = node t.colour none ∷ singles t.below } =
    ap₂ (λ (g : Forest) (ts : List Tree). let p : Part = record { skeleton = canonical_of (node 0 g); parts = node t.colour none ∷ ts } in p) (again (bare t.below)) (singles_canonical t.below) in
    record {
      before = front;
      is = ap (map (rooted t.colour)) w.is ∙ map-append (rooted t.colour) w.before (all_cut t.below ∷ []) ∙ ap (λ (p : Part). front ++ p ∷ []) last;
    }
