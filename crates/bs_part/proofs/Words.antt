-- The list by words is the list by recursion.
use Rattle.std.proofs.Common.{◌≡◌, ℕ, suc, zero, ◌+◌, List, [], ◌∷◌, ◌++◌, map, length, Bool, true, false, cond, arith, refl, sym, ◌∙◌, ap, ap₂, append-nil}
use Rattle.std.specs.Prelude.{◌^◌}
use Rattle.std.specs.List.{flat_map, AllByRecursion}
use Rattle.std.proofs.Math.Nat.{pow-suc}
use Rattle.std.proofs.lemmas.Grind.{flat_map-append}
use Rattle.std.proofs.lemmas.List.Folds.{flat_map-map}
use Rattle.std.proofs.lemmas.List.{map-append, length-append, length-map}
use Rattle.bs_tree.specs.Tree.{Forest, none, grow, Tree, nodes}
use Rattle.bs_tree.specs.ListLaws.{all_append, all_map, all_any, map_same, flat_map_same}
use Rattle.bs_part.specs.Partition.{Pieces, keep_edge, cut_edge, pieces, rooted, parts}
use Rattle.bs_part.specs.Words.{words, pieces_by, parts_by_words}
use Rattle.bs_part.proofs.Lists.{map-map, map-flat_map, map_id, take_first, drop_first}

lengths : (n : ℕ) → AllByRecursion (λ w. length w ≡ n) (words n)
lengths zero = (refl, tt)
lengths (suc n) =
    let P : List Bool → Type 0 = λ w. length w ≡ suc n in
    let Q : List Bool → Type 0 = λ w. length w ≡ n in
    all_append P (map (λ w. true ∷ w) (words n)) (map (λ w. false ∷ w) (words n))
    (all_map P (λ w. true ∷ w) Q (λ w e. ap suc e) (words n) (lengths n))
    (all_map P (λ w. false ∷ w) Q (λ w e. ap suc e) (words n) (lengths n))

-- a word of m + n letters is one of m letters and one of n
words_add : (m n : ℕ) → words (m + n) ≡ flat_map (λ u. map (λ v. u ++ v) (words n)) (words m)
words_add zero n = let e : zero + n ≡ n = omega arith in ap words e ∙ sym (map_id (words n)) ∙ sym (append-nil (map (λ v. v) (words n)))
words_add (suc m) n =
    let e : suc m + n ≡ suc (m + n) = omega arith in
    let with : Bool → List (List Bool) → List (List Bool) = λ b ws. map (λ w. b ∷ w) ws in
    let row : List Bool → List (List Bool) = λ u. map (λ v. u ++ v) (words n) in
    let half : (b : Bool) → with b (words (m + n)) ≡ flat_map row (with b (words m)) =
    λ b. ap (with b) (words_add m n) ∙ map-flat_map (λ w. b ∷ w) row (words m)
    ∙ flat_map_same (λ u. map (λ w. b ∷ w) (row u)) (λ u. row (b ∷ u)) (words m)
    (all_any (λ (u : List Bool). map (λ w. b ∷ w) (row u) ≡ row (b ∷ u)) (λ u. map-map (λ w. b ∷ w) (λ v. u ++ v) (words n)) (words m))
    ∙ sym (flat_map-map row (λ w. b ∷ w) (words m)) in
    ap words e ∙ ap₂ (λ (xs ys : List (List Bool)). xs ++ ys) (half true) (half false) ∙ sym (flat_map-append row (with true (words m)) (with false (words m)))

abbrev edge : ℕ → Bool → Pieces → Pieces → Pieces
edge c b k later = cond b (keep_edge c k later) (cut_edge c k later)

pieces_row : (c : ℕ) (kids rest : Forest) → map (pieces_by rest) (words (nodes rest)) ≡ pieces rest → (b : Bool) (us : List (List Bool)) → AllByRecursion (λ u. length u ≡ nodes kids) us
    → AllByRecursion (λ u. map (λ w. pieces_by (grow c kids rest) (b ∷ w)) (map (λ v. u ++ v) (words (nodes rest))) ≡ map (edge c b (pieces_by kids u)) (pieces rest)) us
pieces_row c kids rest ih b [] h = tt
pieces_row c kids rest ih b (u ∷ us) h =
    let ws = words (nodes rest) in (
      map-map (λ w. pieces_by (grow c kids rest) (b ∷ w)) (λ v. u ++ v) ws
          ∙ map_same (λ v. pieces_by (grow c kids rest) (b ∷ (u ++ v))) (λ v. edge c b (pieces_by kids u) (pieces_by rest v)) ws
          (all_any (λ v. pieces_by (grow c kids rest) (b ∷ (u ++ v)) ≡ edge c b (pieces_by kids u) (pieces_by rest v))
          (λ v. ap₂ (λ (x y : List Bool). edge c b (pieces_by kids x) (pieces_by rest y)) (take_first (nodes kids) u v h.0) (drop_first (nodes kids) u v h.0)) ws)
          ∙ sym (map-map (edge c b (pieces_by kids u)) (pieces_by rest) ws)
          ∙ ap (map (edge c b (pieces_by kids u))) ih,
      pieces_row c kids rest ih b us h.1,
    )

pub pieces_by_words : (f : Forest) → map (pieces_by f) (words (nodes f)) ≡ pieces f
pieces_by_words none = refl
pieces_by_words (grow c kids rest) =
    let m = nodes kids in
    let n = nodes rest in
    let e : nodes (grow c kids rest) ≡ suc (m + n) = omega arith in
    let by : List Bool → Pieces = pieces_by (grow c kids rest) in
    let ih = pieces_by_words rest in
    let half : (b : Bool) → map by (map (λ w. b ∷ w) (words (m + n))) ≡ flat_map (λ k. map (edge c b k) (pieces rest)) (pieces kids) =
    λ b.
    map-map by (λ w. b ∷ w) (words (m + n))
    ∙ ap (map (λ w. by (b ∷ w))) (words_add m n)
    ∙ map-flat_map (λ w. by (b ∷ w)) (λ u. map (λ v. u ++ v) (words n)) (words m)
    ∙ flat_map_same (λ u. map (λ w. by (b ∷ w)) (map (λ v. u ++ v) (words n))) (λ u. map (edge c b (pieces_by kids u)) (pieces rest)) (words m)
    (pieces_row c kids rest ih b (words m) (lengths m))
    ∙ sym (flat_map-map (λ k. map (edge c b k) (pieces rest)) (pieces_by kids) (words m))
    ∙ ap (flat_map (λ k. map (edge c b k) (pieces rest))) (pieces_by_words kids) in
    ap (λ (i : ℕ). map by (words i)) e
    ∙ map-append by (map (λ w. true ∷ w) (words (m + n))) (map (λ w. false ∷ w) (words (m + n)))
    ∙ ap₂ (λ (xs ys : List Pieces). xs ++ ys) (half true) (half false)

pub parts_are : (t : Tree) → parts_by_words t ≡ parts t
parts_are t = sym (map-map (rooted t.colour) (pieces_by t.below) (words (nodes t.below))) ∙ ap (map (rooted t.colour)) (pieces_by_words t.below)

-- ---- how many
length-words : (n : ℕ) → length (words n) ≡ 2 ^ n
length-words zero = refl
length-words (suc n) =
    length-append (map (λ w. true ∷ w) (words n)) (map (λ w. false ∷ w) (words n))
    ∙ ap₂ (λ (i j : ℕ). i + j) (length-map (words n) (λ w. true ∷ w) ∙ length-words n) (length-map (words n) (λ w. false ∷ w) ∙ length-words n)
    ∙ omega (arith, pow-suc 2 n)

pub parts_count : (t : Tree) → length (parts t) ≡ 2 ^ nodes t.below
parts_count t =
    ap length (sym (parts_are t))
    ∙ length-map (words (nodes t.below)) (λ w. rooted t.colour (pieces_by t.below w))
    ∙ length-words (nodes t.below)
