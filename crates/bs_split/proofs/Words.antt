-- The list by words is the list by recursion.
use Rattle.std.proofs.Common.{◌≡◌, ℕ, suc, zero, ◌+◌, ◌≤◌, List, [], ◌∷◌, ◌++◌, map, take, drop, length, Bool, true, false, cond, ◌&&◌, None, arith, refl, sym, ◌∙◌, ap, ap₂, append-nil}
use Rattle.bs_tree.specs.Canonical.{canonical_of}
use Rattle.std.specs.Prelude.{◌^◌}
use Rattle.std.specs.List.{flat_map, filter, AllByRecursion}
use Rattle.std.proofs.Math.Nat.{pow-suc}
use Rattle.std.proofs.Math.Seq.{take-append_seam, drop-append_seam}
use Rattle.std.proofs.lemmas.Grind.{flat_map-append}
use Rattle.std.proofs.lemmas.List.Folds.{flat_map-map}
use Rattle.std.proofs.lemmas.List.{map-append, length-append, length-map}
use Rattle.bs_tree.specs.Tree.{Forest, none, grow, Tree, nodes}
use Rattle.bs_tree.specs.ListLaws.{all_append, all_map, all_any, map_same, flat_map_same}
use Rattle.bs_tree.specs.SortingLaws.{by_cases}
use Rattle.bs_split.specs.Splitting.{Cuts, cut_off, keep, cuts, Split, rooted, splits}
use Rattle.bs_split.specs.Words.{words, no_keep, is_choice, cuts_by, splits_by_words}
use Rattle.bs_split.proofs.Lists.{map-map, map-flat_map, map_id, filter-append, filter-map, filter_same, filter_none, all_filter, filter_fewer}

lengths : (n : ℕ) → AllByRecursion (λ w. length w ≡ n) (words n)
lengths zero = (refl, tt)
lengths (suc n) =
    let P : List Bool → Type 0 = λ w. length w ≡ suc n in
    let Q : List Bool → Type 0 = λ w. length w ≡ n in
    all_append P (map (λ w. false ∷ w) (words n)) (map (λ w. true ∷ w) (words n))
    (all_map P (λ w. false ∷ w) Q (λ w e. ap suc e) (words n) (lengths n))
    (all_map P (λ w. true ∷ w) Q (λ w e. ap suc e) (words n) (lengths n))

-- a word of m + n letters is one of m letters and one of n
words_add : (m n : ℕ) → words (m + n) ≡ flat_map (λ u. map (λ v. u ++ v) (words n)) (words m)
words_add zero n = let e : zero + n ≡ n = omega arith in ap words e ∙ sym (map_id (words n)) ∙ sym (append-nil (map (λ v. v) (words n)))
words_add (suc m) n =
    let e : suc m + n ≡ suc (m + n) = omega arith in
    let with : Bool → List (List Bool) → List (List Bool) = λ b ws. map (λ w. b ∷ w) ws in
    let row : List Bool → List (List Bool) = λ u. map (λ v. u ++ v) (words n) in
    let half : (b : Bool) → with b (words (m + n)) ≡ flat_map row (with b (words m)) =
    λ b. ap (with b) (words_add m n) ∙ map-flat_map (λ w. b ∷ w) row (words m)
    ∙ flat_map_same (λ u. map (λ w. b ∷ w) (row u)) (λ u. row (b ∷ u)) (words m)
    (all_any (λ (u : List Bool). map (λ w. b ∷ w) (row u) ≡ row (b ∷ u)) (λ u. map-map (λ w. b ∷ w) (λ v. u ++ v) (words n)) (words m))
    ∙ sym (flat_map-map row (λ w. b ∷ w) (words m)) in
    ap words e ∙ ap₂ (λ (xs ys : List (List Bool)). xs ++ ys) (half false) (half true) ∙ sym (flat_map-append row (with false (words m)) (with true (words m)))

take_first : (m : ℕ) (u v : List Bool) → length u ≡ m → take m (u ++ v) ≡ u
take_first m u v h = ap (λ (n : ℕ). take n (u ++ v)) (sym h) ∙ take-append_seam u v

drop_first : (m : ℕ) (u v : List Bool) → length u ≡ m → drop m (u ++ v) ≡ v
drop_first m u v h = ap (λ (n : ℕ). drop n (u ++ v)) (sym h) ∙ drop-append_seam u v

-- the words that pass by a test on the first m letters and one on the others
filter_words : (P Q : List Bool → Bool) (m n : ℕ)
    → filter (λ w. P (take m w) && Q (drop m w)) (words (m + n)) ≡ flat_map (λ u. map (λ v. u ++ v) (filter Q (words n))) (filter P (words m))
filter_words P Q m n =
    ap (filter (λ w. P (take m w) && Q (drop m w))) (words_add m n) ∙ go (words m) (lengths m)
  where
    row : (u : List Bool) → length u ≡ m → filter (λ w. P (take m w) && Q (drop m w)) (map (λ v. u ++ v) (words n)) ≡ cond (P u) (map (λ v. u ++ v) (filter Q (words n))) []
    row u h =
        filter-map (λ w. P (take m w) && Q (drop m w)) (λ v. u ++ v) (words n)
        ∙ ap (map (λ v. u ++ v)) (filter_same (λ v. P (take m (u ++ v)) && Q (drop m (u ++ v))) (λ v. P u && Q v) (words n)
        (all_any (λ v. (P (take m (u ++ v)) && Q (drop m (u ++ v))) ≡ (P u && Q v))
        (λ v. ap₂ (λ (x y : List Bool). P x && Q y) (take_first m u v h) (drop_first m u v h)) (words n)))
        ∙ by_cases (P u) (λ e. rw e refl) (λ e. rw e (ap (map (λ v. u ++ v)) (filter_none (words n))))

    go : (us : List (List Bool)) → AllByRecursion (λ u. length u ≡ m) us
        → filter (λ w. P (take m w) && Q (drop m w)) (flat_map (λ u. map (λ v. u ++ v) (words n)) us) ≡ flat_map (λ u. map (λ v. u ++ v) (filter Q (words n))) (filter P us)
    go [] h = refl
    go (u ∷ us) h =
        filter-append (λ w. P (take m w) && Q (drop m w)) (map (λ v. u ++ v) (words n)) (flat_map (λ x. map (λ v. x ++ v) (words n)) us)
        ∙ ap₂ (λ (xs ys : List (List Bool)). xs ++ ys) (row u h.0) (go us h.1)
        ∙ by_cases (P u) (λ e. rw e refl) (λ e. rw e refl)

abbrev nothing : ℕ → List Bool
nothing zero = []
nothing (suc n) = false ∷ nothing n

only_nothing : (m : ℕ) → filter no_keep (words m) ≡ nothing m ∷ []
only_nothing zero = refl
only_nothing (suc m) =
    filter-append no_keep (map (λ w. false ∷ w) (words m)) (map (λ w. true ∷ w) (words m))
    ∙ ap₂ (λ (xs ys : List (List Bool)). xs ++ ys) (filter-map no_keep (λ w. false ∷ w) (words m) ∙ ap (map (λ w. false ∷ w)) (only_nothing m))
    (filter-map no_keep (λ w. true ∷ w) (words m) ∙ ap (map (λ w. true ∷ w)) (filter_none (words m)))

choice : ℕ → Forest → Bool → Cuts → Cuts → Cuts
choice c kids b k l = cond b (keep c k l) (cut_off (record { colour = c; below = kids }) l)

cuts_row : (c : ℕ) (kids rest : Forest) → map (cuts_by rest) (filter (is_choice rest) (words (nodes rest))) ≡ cuts rest → (b : Bool) (us : List (List Bool)) → AllByRecursion (λ u. length u ≡ nodes kids) us
    → AllByRecursion (λ u. map (λ w. cuts_by (grow c kids rest) (b ∷ w)) (map (λ v. u ++ v) (filter (is_choice rest) (words (nodes rest)))) ≡ map (choice c kids b (cuts_by kids u)) (cuts rest)) us
unfolding choice
cuts_row c kids rest ih b [] h = tt
cuts_row c kids rest ih b (u ∷ us) h =
    let ws = filter (is_choice rest) (words (nodes rest)) in (
      map-map (λ w. cuts_by (grow c kids rest) (b ∷ w)) (λ v. u ++ v) ws
          ∙ map_same (λ v. cuts_by (grow c kids rest) (b ∷ (u ++ v))) (λ v. choice c kids b (cuts_by kids u) (cuts_by rest v)) ws
          (all_any (λ v. cuts_by (grow c kids rest) (b ∷ (u ++ v)) ≡ choice c kids b (cuts_by kids u) (cuts_by rest v))
          (λ v. ap₂ (λ (x y : List Bool). choice c kids b (cuts_by kids x) (cuts_by rest y)) (take_first (nodes kids) u v h.0) (drop_first (nodes kids) u v h.0)) ws)
          ∙ sym (map-map (choice c kids b (cuts_by kids u)) (cuts_by rest) ws)
          ∙ ap (map (choice c kids b (cuts_by kids u))) ih,
      cuts_row c kids rest ih b us h.1,
    )

pub cuts_by_words : (f : Forest) → map (cuts_by f) (filter (is_choice f) (words (nodes f))) ≡ cuts f
unfolding choice
cuts_by_words none = refl
cuts_by_words (grow c kids rest) =
    let m = nodes kids in
    let n = nodes rest in
    let e : nodes (grow c kids rest) ≡ suc (m + n) = omega arith in
    let by : List Bool → Cuts = cuts_by (grow c kids rest) in
    let ok : List Bool → Bool = is_choice (grow c kids rest) in
    let ws = filter (is_choice rest) (words n) in
    let half : (b : Bool) (P : List Bool → Bool) → ((w : List Bool) → ok (b ∷ w) ≡ (P (take m w) && is_choice rest (drop m w)))
    → map by (filter ok (map (λ w. b ∷ w) (words (m + n)))) ≡ flat_map (λ u. map (choice c kids b (cuts_by kids u)) (cuts rest)) (filter P (words m)) =
    λ b P same.
    ap (map by) (filter-map ok (λ w. b ∷ w) (words (m + n)))
    ∙ map-map by (λ w. b ∷ w) (filter (λ w. ok (b ∷ w)) (words (m + n)))
    ∙ ap (map (λ w. by (b ∷ w))) (filter_same (λ w. ok (b ∷ w)) (λ w. P (take m w) && is_choice rest (drop m w)) (words (m + n))
    (all_any (λ w. ok (b ∷ w) ≡ (P (take m w) && is_choice rest (drop m w))) same (words (m + n))) ∙ filter_words P (is_choice rest) m n)
    ∙ map-flat_map (λ w. by (b ∷ w)) (λ u. map (λ v. u ++ v) ws) (filter P (words m))
    ∙ flat_map_same (λ u. map (λ w. by (b ∷ w)) (map (λ v. u ++ v) ws)) (λ u. map (choice c kids b (cuts_by kids u)) (cuts rest)) (filter P (words m))
    (cuts_row c kids rest (cuts_by_words rest) b (filter P (words m)) (all_filter (λ u. length u ≡ m) P (words m) (lengths m))) in
    let cutting : flat_map (λ u. map (choice c kids false (cuts_by kids u)) (cuts rest)) (filter no_keep (words m)) ≡ map (cut_off (record { colour = c; below = kids })) (cuts rest) =
    ap (flat_map (λ u. map (choice c kids false (cuts_by kids u)) (cuts rest))) (only_nothing m) ∙ append-nil _ in
    let keeping : flat_map (λ u. map (choice c kids true (cuts_by kids u)) (cuts rest)) (filter (is_choice kids) (words m)) ≡ flat_map (λ k. map (keep c k) (cuts rest)) (cuts kids) =
    sym (flat_map-map (λ k. map (keep c k) (cuts rest)) (cuts_by kids) (filter (is_choice kids) (words m))) ∙ ap (flat_map (λ k. map (keep c k) (cuts rest))) (cuts_by_words kids) in
    ap (λ (i : ℕ). map by (filter ok (words i))) e
    ∙ ap (map by) (filter-append ok (map (λ w. false ∷ w) (words (m + n))) (map (λ w. true ∷ w) (words (m + n))))
    ∙ map-append by (filter ok (map (λ w. false ∷ w) (words (m + n)))) (filter ok (map (λ w. true ∷ w) (words (m + n))))
    ∙ ap₂ (λ (xs ys : List Cuts). xs ++ ys) (half false no_keep (λ w. refl) ∙ cutting) (half true (is_choice kids) (λ w. refl) ∙ keeping)

pub splits_are : (t : Tree) → splits_by_words t ≡ splits t
splits_are t =
    ap (λ (ss : List Split). whole ∷ ss)
    (sym (map-map (rooted t.colour) (cuts_by t.below) (filter (is_choice t.below) (words (nodes t.below)))) ∙ ap (map (rooted t.colour)) (cuts_by_words t.below))
  where
    whole : Split
    whole = record { kept = None; forest = canonical_of t ∷ [] }

-- ---- how many
length-words : (n : ℕ) → length (words n) ≡ 2 ^ n
length-words zero = refl
length-words (suc n) =
    length-append (map (λ w. false ∷ w) (words n)) (map (λ w. true ∷ w) (words n))
    ∙ ap₂ (λ (i j : ℕ). i + j) (length-map (words n) (λ w. false ∷ w) ∙ length-words n) (length-map (words n) (λ w. true ∷ w) ∙ length-words n)
    ∙ omega (arith, pow-suc 2 n)

pub splits_few : (t : Tree) → length (splits t) ≤ 2 ^ nodes t.below + 1
splits_few t =
    let ws = filter (is_choice t.below) (words (nodes t.below)) in
    omega (
      arith,
      ap length (sym (splits_are t)),
      length-map ws (λ w. rooted t.colour (cuts_by t.below w)),
      filter_fewer (is_choice t.below) (words (nodes t.below)),
      length-words (nodes t.below),
    )
