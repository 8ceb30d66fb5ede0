-- The trees of an item are canonical, and have the tree's colours or 0.
use Rattle.std.proofs.Common.{ℕ, ◌<◌, List, [], ◌∷◌, map, take, drop, Bool, true, false, arith, subst}
use Rattle.std.specs.List.{AllByRecursion}
use Rattle.bs_tree.specs.Tree.{Forest, none, grow, Tree, nodes, forest, Coloured, IsColoured}
use Rattle.bs_tree.specs.Canonical.{canonical_of}
use Rattle.bs_tree.specs.ListLaws.{all_map, all_any}
use Rattle.bs_tree.specs.SortingLaws.{IsCanonical, canonical_twice}
use Rattle.bs_tree.proofs.CodeOf.{coloured-sorted}
use Rattle.bs_part.specs.Partition.{node, Pieces, Part, rooted, pieces, parts}
use Rattle.bs_part.specs.Words.{words, pieces_by}
use Rattle.bs_part.proofs.Skeletons.{coloured-append, hung_coloured}
use Rattle.bs_part.proofs.Words.{parts_are}

all_canonical : (ts : List Tree) → AllByRecursion IsCanonical (map canonical_of ts)
all_canonical [] = tt
all_canonical (t ∷ ts) = (canonical_twice t, all_canonical ts)

pub items_canonical : (t : Tree) → AllByRecursion (λ p. IsCanonical p.skeleton × AllByRecursion IsCanonical p.parts) (parts t)
items_canonical t =
    all_map (λ p. IsCanonical p.skeleton × AllByRecursion IsCanonical p.parts) (rooted t.colour) (λ _. Unit {0})
    (λ p _. (canonical_twice (node 0 (forest p.hung)), all_canonical (node t.colour p.joined ∷ p.parts))) (pieces t.below)
    (all_any (λ _. Unit {0}) (λ _. tt) (pieces t.below))

-- ---- colours
record Keeps (k : ℕ) (p : Pieces) : Type 0 where
  joined : Coloured k p.joined
  others : Coloured k (forest p.parts)

pieces_coloured : (k : ℕ) (f : Forest) (w : List Bool) → Coloured k f → Keeps k (pieces_by f w)
pieces_coloured k none w h = record { joined = tt; others = tt }
pieces_coloured k (grow c kids rest) [] h = record { joined = tt; others = tt }
pieces_coloured k (grow c kids rest) (true ∷ w) h =
    let u = take (nodes kids) w in
    let v = drop (nodes kids) w in
    let inner = pieces_coloured k kids u h.1 in
    let later = pieces_coloured k rest v h.2 in
    record { joined = (h.0, inner.joined, later.joined); others = coloured-append k (pieces_by kids u).parts (pieces_by rest v).parts inner.others later.others }
pieces_coloured k (grow c kids rest) (false ∷ w) h =
    let u = take (nodes kids) w in
    let v = drop (nodes kids) w in
    let inner = pieces_coloured k kids u h.1 in
    let later = pieces_coloured k rest v h.2 in
    record { joined = later.joined; others = (h.0, inner.joined, coloured-append k (pieces_by kids u).parts (pieces_by rest v).parts inner.others later.others) }

all_coloured : (k : ℕ) (ts : List Tree) → Coloured k (forest ts) → AllByRecursion (IsColoured k) (map canonical_of ts)
all_coloured k [] h = tt
all_coloured k (t ∷ ts) h = ((h.0, coloured-sorted k t.below h.1), all_coloured k ts h.2)

pub items_coloured : (k : ℕ) (t : Tree) → IsColoured k t → AllByRecursion (λ p. IsColoured 1 p.skeleton × AllByRecursion (IsColoured k) p.parts) (parts t)
items_coloured k t h =
    let P : Part → Type 0 = λ p. IsColoured 1 p.skeleton × AllByRecursion (IsColoured k) p.parts in
    let by : List Bool → Part = λ w. rooted t.colour (pieces_by t.below w) in
    let one : 0 < 1 = omega arith in
    let each : (w : List Bool) → P (by w) = λ w. let i = pieces_by t.below w in let c = pieces_coloured k t.below w h.1 in (
      (one, coloured-sorted 1 (forest i.hung) (hung_coloured 1 t.below w one)),
      all_coloured k (node t.colour i.joined ∷ i.parts) (h.0, c.joined, c.others),
    ) in
    let ws = words (nodes t.below) in
    subst (λ ps. AllByRecursion P ps) (parts_are t) (all_map P by (λ _. Unit {0}) (λ w _. each w) ws (all_any (λ _. Unit {0}) (λ _. tt) ws))
