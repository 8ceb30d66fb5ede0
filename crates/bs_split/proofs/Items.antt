-- What the passes find of a code is the item of the word, and the last cut of it.
use Rattle.std.proofs.Common.{◌≡◌, ℕ, suc, zero, ◌+◌, ◌<◌, ◌≤◌, List, [], ◌∷◌, ◌++◌, map, take, drop, length, replicate, set, Bool, true, false, Option, Some, None, option_map, IfSome, arith, refl, sym, ◌∙◌, ap, ap₂, subst, append-nil, length-drop}
use Rattle.std.proofs.Math.Seq.{paste}
use Rattle.std.proofs.lemmas.List.{length-replicate, take_all}
use Rattle.bs_tree.specs.Tree.{Forest, none, Tree, nodes}
use Rattle.bs_tree.specs.Canonical.{level_sequence_at, level_sequence, canonical_sequence, canonical_of}
use Rattle.bs_tree.specs.Code.{IsCode, tree_of}
use Rattle.bs_tree.specs.Subtrees.{tree_at}
use Rattle.bs_tree.specs.Pruned.{pruned}
use Rattle.bs_tree.specs.SubtreeLaws.{code_sequence, length-level_sequence_at}
use Rattle.bs_split.specs.Splitting.{SplitCodes, codes_of, rooted}
use Rattle.bs_split.specs.Words.{cuts_by}
use Rattle.bs_split.specs.Walk.{last_cut, cut_pairs, last_pairs, advanced}
use Rattle.bs_split.proofs.Lists.{map-map}
use Rattle.bs_split.proofs.Passes.{cuts_kept, cut_sequence, last_sequence, placed, tree_first}
use Rattle.bs_split.proofs.Onward.{last_below, Below}

-- ---- a code
pub code_below : (s : List (ℕ × ℕ)) → IsCode s → drop 1 s ≡ level_sequence_at 2 (tree_of s).below ++ []
code_below s h = ap (λ (qs : List (ℕ × ℕ)). drop 1 qs) (sym (code_sequence s h)) ∙ sym (append-nil _)

pub code_nodes : (s : List (ℕ × ℕ)) → IsCode s → length s ≡ suc (nodes (tree_of s).below)
code_nodes s h = sym (ap length (code_sequence s h)) ∙ ap suc (length-level_sequence_at 2 (tree_of s).below)

whole_tree : (s : List (ℕ × ℕ)) → IsCode s → tree_at s 0 ≡ tree_of s
whole_tree s h =
    let t = tree_of s in
    let e : (1, t.colour) ∷ (level_sequence_at 2 t.below ++ []) ≡ s = ap (λ (qs : List (ℕ × ℕ)). (1, t.colour) ∷ qs) (append-nil _) ∙ code_sequence s h in
    ap (λ (qs : List (ℕ × ℕ)). tree_at qs 0) (sym e) ∙ tree_first 1 t.colour t.below none [] tt

-- ---- the item
pub item_of_code : (s : List (ℕ × ℕ)) (kept : List Bool) (k : List (ℕ × ℕ)) (forest : List (List (ℕ × ℕ))) → IsCode s → length s ≤ length kept
    → k ≡ canonical_sequence (pruned (tree_at s 0) (drop 1 kept)) → forest ≡ cut_pairs 0 (drop 1 s) (drop 1 kept)
    → (let item : SplitCodes = record { kept = Some k; forest = forest } in item) ≡ codes_of (rooted (tree_of s).colour (cuts_by (tree_of s).below (drop 1 kept)))
item_of_code s kept k forest h long kept_is cut_is =
    let t = tree_of s in
    let w = drop 1 kept in
    let i = cuts_by t.below w in
    let e : k ≡ canonical_sequence (record { colour = t.colour; below = i.kept }) =
    kept_is ∙ ap (λ (u : Tree). canonical_sequence (pruned u w)) (whole_tree s h)
    ∙ ap (λ (f : Forest). let u : Tree = record { colour = t.colour; below = f } in canonical_sequence u) (sym (cuts_kept t.below w)) in
    let c : forest ≡ map level_sequence (map canonical_of i.cut) =
    cut_is ∙ ap (λ (qs : List (ℕ × ℕ)). cut_pairs 0 qs w) (code_below s h)
    ∙ cut_sequence 2 t.below [] w tt (omega (arith, code_nodes s h, length-drop 1 kept))
    ∙ append-nil (map canonical_sequence i.cut) ∙ sym (map-map level_sequence canonical_of i.cut) in
    ap₂ (λ (x : List (ℕ × ℕ)) (xs : List (List (ℕ × ℕ))). let item : SplitCodes = record { kept = Some x; forest = xs } in item) e c

-- ---- the last cut
placed_one : (o : Option ℕ) → placed 1 o None ≡ option_map (λ i. suc i) o
placed_one None = refl
placed_one (Some j) = let e : 1 + j ≡ suc j = omega arith in ap (λ (n : ℕ). Some n) e

none_left : (n : ℕ) (o : Option ℕ) (s : List (ℕ × ℕ)) (w : List Bool) → length s ≡ 0 → last_pairs 0 n o s w ≡ o
none_left n o [] w h = refl
none_left n o (p ∷ s) w h = absurd (omega arith)

pub last_of_code : (s : List (ℕ × ℕ)) (kept : List Bool) (n : ℕ) (last : Option ℕ) → IsCode s → length s ≤ length kept → length s ≤ n
    → last_pairs 0 n last (drop n s) (drop n kept) ≡ last_pairs 0 1 None (drop 1 s) (drop 1 kept)
    → last ≡ option_map (λ i. suc i) (last_cut (tree_of s).below (drop 1 kept))
last_of_code s kept n last h long end found =
    let t = tree_of s in
    let w = drop 1 kept in
    sym (none_left n last (drop n s) (drop n kept) (omega (arith, length-drop n s))) ∙ found
    ∙ ap (λ (qs : List (ℕ × ℕ)). last_pairs 0 1 None qs w) (code_below s h)
    ∙ last_sequence 2 1 None t.below [] w tt (omega (arith, code_nodes s h, length-drop 1 kept))
    ∙ placed_one (last_cut t.below w)

within_suc : (n : ℕ) (o : Option ℕ) → Below n o → IfSome (option_map (λ i. suc i) o) (λ node. node < suc n)
within_suc n None h = tt
within_suc n (Some i) h = let lt : i < n = h in omega arith

pub last_within : (s : List (ℕ × ℕ)) (kept : List Bool) (last : Option ℕ) → IsCode s → last ≡ option_map (λ i. suc i) (last_cut (tree_of s).below (drop 1 kept))
    → IfSome last (λ node. node < length s)
last_within s kept last h e =
    let t = tree_of s in
    let r = within_suc (nodes t.below) (last_cut t.below (drop 1 kept)) (last_below t.below (drop 1 kept)) in
    subst (λ (n : ℕ). IfSome last (λ node. node < n)) (sym (code_nodes s h)) (subst (λ (o : Option ℕ). IfSome o (λ node. node < suc (nodes t.below))) (sym e) r)

-- ---- the next word
drop_all : (n : ℕ) (w : List Bool) → length w ≤ n → drop n w ≡ []
drop_all zero [] h = refl
drop_all (suc n) [] h = refl
drop_all zero (b ∷ w) h = absurd (omega arith)
drop_all (suc n) (b ∷ w) h = drop_all n w (omega arith)

paste_behind : (b : Bool) (w : List Bool) (i : ℕ) (u : List Bool) (n : ℕ) → paste (b ∷ w) (suc i) u n ≡ b ∷ paste w i u n
paste_behind b w i u n = let z : suc i + n ≡ suc (i + n) = omega arith in ap (λ (j : ℕ). b ∷ ((take i w ++ take n u) ++ drop j (b ∷ w))) z

pub pasted_is : (w : List Bool) (i k : ℕ) → i < length w → (i + 1) + k ≡ length w → paste (set w i true) (i + 1) (replicate k false) k ≡ advanced i w
pasted_is [] i k h e = absurd (omega arith)
pasted_is (b ∷ w) zero k h e =
    let z : 0 + 1 ≡ 1 = omega arith in
    let n : k ≡ length w = omega arith in
    let fs = replicate k false in
    ap (λ (i : ℕ). paste (true ∷ w) i fs k) z
    ∙ ap₂ (λ (us vs : List Bool). true ∷ (us ++ vs)) (take_all k fs (omega (arith, length-replicate k false))) (drop_all (1 + k) (true ∷ w) (omega arith))
    ∙ ap (λ (us : List Bool). true ∷ us) (append-nil fs)
    ∙ ap (λ (i : ℕ). true ∷ replicate i false) n
pasted_is (b ∷ w) (suc i) k h e =
    let z : suc i + 1 ≡ suc (i + 1) = omega arith in
    ap (λ (j : ℕ). paste (b ∷ set w i true) j (replicate k false) k) z
    ∙ paste_behind b (set w i true) (i + 1) (replicate k false) k
    ∙ ap (λ (us : List Bool). b ∷ us) (pasted_is w i k (omega arith) (omega arith))
