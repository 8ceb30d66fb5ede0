-- What the passes find of a code is the item of the word.
use Rattle.std.proofs.Common.{◌≡◌, ℕ, suc, zero, ◌+◌, ◌-◌, ◌<◌, ◌≤◌, List, [], ◌∷◌, ◌++◌, map, take, drop, length, replicate, set, get_or, Bool, true, false, Option, Some, None, option_map, cond, IfSome, arith, refl, sym, ◌∙◌, ap, ap₂, subst, append-nil, length-drop}
use Rattle.std.proofs.Math.Seq.{paste, drop-cons}
use Rattle.std.proofs.lemmas.List.{length-replicate, take_all, length-take-le, get_or-replicate}
use Rattle.bs_tree.specs.Tree.{none, Tree, nodes, forest}
use Rattle.bs_tree.specs.Canonical.{level_sequence_at, level_sequence, canonical_sequence, canonical_of}
use Rattle.bs_tree.specs.Code.{IsCode, tree_of, is_level_sequence}
use Rattle.bs_tree.specs.Subtrees.{tree_at}
use Rattle.bs_tree.specs.Pruned.{pruned}
use Rattle.bs_tree.specs.SubtreeLaws.{code_sequence, length-level_sequence_at, tree_of-level_sequence}
use Rattle.bs_part.specs.Partition.{node, Pieces}
use Rattle.bs_part.specs.Words.{pieces_by}
use Rattle.bs_part.specs.Walk.{last_kept, cut_after, letters, skeleton_of, item_by, part_pairs, hung_pairs, last_place}
use Rattle.bs_part.proofs.Lists.{map-map}
use Rattle.bs_part.proofs.Counter.{Below, last_below, placed, last_placed}
use Rattle.bs_part.proofs.Passes.{pieces_front, part_pruned, tree_first, part_sequence}
use Rattle.bs_part.proofs.Skeletons.{hung_small, hung_coloured, hung_sequence, sequence_valid}

-- ---- a code
pub code_below : (s : List (ℕ × ℕ)) → IsCode s → drop 1 s ≡ level_sequence_at 2 (tree_of s).below ++ []
code_below s h = ap (λ (qs : List (ℕ × ℕ)). drop 1 qs) (sym (code_sequence s h)) ∙ sym (append-nil _)

pub code_nodes : (s : List (ℕ × ℕ)) → IsCode s → length s ≡ suc (nodes (tree_of s).below)
code_nodes s h = sym (ap length (code_sequence s h)) ∙ ap suc (length-level_sequence_at 2 (tree_of s).below)

whole_tree : (s : List (ℕ × ℕ)) → IsCode s → tree_at s 0 ≡ tree_of s
whole_tree s h =
    let t = tree_of s in
    let e : (1, t.colour) ∷ (level_sequence_at 2 t.below ++ []) ≡ s = ap (λ (qs : List (ℕ × ℕ)). (1, t.colour) ∷ qs) (append-nil _) ∙ code_sequence s h in
    ap (λ (qs : List (ℕ × ℕ)). tree_at qs 0) (sym e) ∙ tree_first 1 t.colour t.below none [] tt

-- only the letters of the code's own nodes matter
own_letters : (s : List (ℕ × ℕ)) (kept : List Bool) → IsCode s → pieces_by (tree_of s).below (drop 1 kept) ≡ pieces_by (tree_of s).below (letters s kept)
own_letters s kept h =
    let f = (tree_of s).below in
    let n : nodes f ≡ length s - 1 = omega (arith, code_nodes s h) in
    sym (pieces_front f (drop 1 kept)) ∙ ap (λ (m : ℕ). pieces_by f (take m (drop 1 kept))) n

-- ---- the parts
no_parts : (ps : List (ℕ × ℕ)) (w : List Bool) → length ps ≡ 0 → part_pairs ps w ≡ []
no_parts [] w h = refl
no_parts (p ∷ ps) w h = absurd (omega arith)

pub parts_of_code : (s : List (ℕ × ℕ)) (kept : List Bool) (n : ℕ) (parts : List (List (ℕ × ℕ))) → IsCode s → length s ≤ length kept → length s ≤ n
    → parts ++ part_pairs (drop n s) (drop n kept) ≡ canonical_sequence (pruned (tree_at s 0) (drop 1 kept)) ∷ part_pairs (drop 1 s) (drop 1 kept)
    → parts ≡ (item_by s (letters s kept)).parts
parts_of_code s kept n parts h long end found =
    let t = tree_of s in
    let w = drop 1 kept in
    let i = pieces_by t.below w in
    let none_left : part_pairs (drop n s) (drop n kept) ≡ [] = no_parts (drop n s) (drop n kept) (omega (arith, length-drop n s)) in
    let first : pruned (tree_at s 0) w ≡ node t.colour i.joined = ap (λ (u : Tree). pruned u w) (whole_tree s h) ∙ part_pruned t w in
    let others : part_pairs (drop 1 s) w ≡ map canonical_sequence i.parts =
    ap (λ (qs : List (ℕ × ℕ)). part_pairs qs w) (code_below s h)
    ∙ part_sequence 2 t.below [] w tt (omega (arith, code_nodes s h, length-drop 1 kept))
    ∙ append-nil (map canonical_sequence i.parts) in
    sym (append-nil parts) ∙ ap (λ (cs : List (List (ℕ × ℕ))). parts ++ cs) (sym none_left) ∙ found
    ∙ ap₂ (λ (u : Tree) (cs : List (List (ℕ × ℕ))). canonical_sequence u ∷ cs) first others
    ∙ sym (map-map level_sequence canonical_of (node t.colour i.joined ∷ i.parts))
    ∙ ap (λ (p : Pieces). map level_sequence (map canonical_of (node t.colour p.joined ∷ p.parts))) (own_letters s kept h)

-- ---- the skeleton
none_hung : (ds : List ℕ) (ps : List (ℕ × ℕ)) (w : List Bool) → length ps ≡ 0 → hung_pairs ds ps w ≡ []
none_hung ds [] w h = refl
none_hung ds (p ∷ ps) w h = absurd (omega arith)

pub all_hung : (ds : List ℕ) (ps : List (ℕ × ℕ)) (w : List Bool) (n : ℕ) (pairs whole : List (ℕ × ℕ)) → length ps ≤ n
    → pairs ++ hung_pairs ds (drop n ps) (drop n w) ≡ whole → pairs ≡ whole
all_hung ds ps w n pairs whole end found =
    sym (append-nil pairs) ∙ ap (λ (qs : List (ℕ × ℕ)). pairs ++ qs) (sym (none_hung ds (drop n ps) (drop n w) (omega (arith, length-drop n ps)))) ∙ found

pub skeleton_sequence : (s : List (ℕ × ℕ)) (kept : List Bool) (ps : List (ℕ × ℕ)) → IsCode s → length s ≤ length kept
    → ps ≡ (1, 0) ∷ hung_pairs (replicate 17 1) (drop 1 s) (drop 1 kept) → ps ≡ level_sequence (skeleton_of (tree_of s) (letters s kept))
skeleton_sequence s kept ps h long found =
    let f = (tree_of s).below in
    let w = drop 1 kept in
    let small = h.small in
    let ds : List ℕ = replicate 17 1 in
    let all : length ds ≡ 17 = length-replicate {A = ℕ} 17 1 in
    let one : get_or ds 1 0 ≡ 1 = get_or-replicate {A = ℕ} 17 1 1 0 (let z : 1 < 17 = omega arith in z) in
    found
    ∙ ap (λ (qs : List (ℕ × ℕ)). (1, 0) ∷ hung_pairs (replicate 17 1) qs w) (code_below s h)
    ∙ ap (λ (qs : List (ℕ × ℕ)). (1, 0) ∷ qs)
    (hung_sequence ds 1 f [] w (omega (arith, code_nodes s h, small, all)) (omega (arith, code_nodes s h, length-drop 1 kept))
    ∙ append-nil (level_sequence_at (suc (get_or ds 1 0)) (forest (pieces_by f w).hung))
    ∙ ap (λ (l : ℕ). level_sequence_at (suc l) (forest (pieces_by f w).hung)) one)
    ∙ ap (λ (p : Pieces). level_sequence (node 0 (forest p.hung))) (own_letters s kept h)

pub skeleton_valid : (s : List (ℕ × ℕ)) (kept : List Bool) (ps : List (ℕ × ℕ)) → IsCode s → length s ≤ length kept
    → ps ≡ (1, 0) ∷ hung_pairs (replicate 17 1) (drop 1 s) (drop 1 kept) → is_level_sequence ps ≡ true
skeleton_valid s kept ps h long found =
    let f = (tree_of s).below in
    let w = letters s kept in
    let small = h.small in
    subst (λ (qs : List (ℕ × ℕ)). is_level_sequence qs ≡ true) (sym (skeleton_sequence s kept ps h long found))
    (sequence_valid (skeleton_of (tree_of s) w) (omega (arith, hung_small f w, code_nodes s h, small)) (let z : 0 < 4 = omega arith in z) (hung_coloured 4 f w (omega arith)))

pub skeleton_of_code : (s : List (ℕ × ℕ)) (kept : List Bool) (ps r : List (ℕ × ℕ)) → IsCode s → length s ≤ length kept
    → ps ≡ (1, 0) ∷ hung_pairs (replicate 17 1) (drop 1 s) (drop 1 kept) → r ≡ canonical_sequence (tree_of ps)
    → r ≡ canonical_sequence (skeleton_of (tree_of s) (letters s kept))
skeleton_of_code s kept ps r h long found is =
    is ∙ ap (λ (qs : List (ℕ × ℕ)). canonical_sequence (tree_of qs)) (skeleton_sequence s kept ps h long found)
    ∙ ap canonical_sequence (tree_of-level_sequence (skeleton_of (tree_of s) (letters s kept)))

-- ---- the last keep
placed_one : (o : Option ℕ) → placed 1 o None ≡ option_map (λ i. suc i) o
placed_one None = refl
placed_one (Some j) = let e : 1 + j ≡ suc j = omega arith in ap (λ (n : ℕ). Some n) e

none_more : (n : ℕ) (o : Option ℕ) (w : List Bool) → length w ≡ 0 → last_place n o w ≡ o
none_more n o [] h = refl
none_more n o (b ∷ w) h = absurd (omega arith)

pub last_of_code : (s : List (ℕ × ℕ)) (kept : List Bool) (n : ℕ) (last : Option ℕ) → length s ≤ n
    → last_place n last (take (length s - n) (drop n kept)) ≡ last_place 1 None (letters s kept)
    → last ≡ option_map (λ i. suc i) (last_kept (letters s kept))
last_of_code s kept n last end found =
    let z : length s - n ≡ 0 = omega arith in
    let nil : length (take (length s - n) (drop n kept)) ≡ 0 = ap (λ (m : ℕ). length (take m (drop n kept))) z in
    sym (none_more n last (take (length s - n) (drop n kept)) nil) ∙ found ∙ last_placed 1 None (letters s kept) ∙ placed_one (last_kept (letters s kept))

within_suc : (n : ℕ) (o : Option ℕ) → Below n o → IfSome (option_map (λ i. suc i) o) (λ node. node < suc n)
within_suc n None h = tt
within_suc n (Some i) h = let lt : i < n = h in omega arith

pub length-letters : (s : List (ℕ × ℕ)) (kept : List Bool) → IsCode s → length s ≤ length kept → suc (length (letters s kept)) ≡ length s
length-letters s kept h long =
    let some = h.some in
    let z : length s - 1 ≤ length (drop 1 kept) = omega (arith, length-drop 1 kept) in
    omega (arith, length-take-le (length s - 1) (drop 1 kept) z)

pub last_within : (s : List (ℕ × ℕ)) (kept : List Bool) (last : Option ℕ) → IsCode s → length s ≤ length kept → last ≡ option_map (λ i. suc i) (last_kept (letters s kept))
    → IfSome last (λ node. node < length s)
last_within s kept last h long e =
    let w = letters s kept in
    subst (λ (n : ℕ). IfSome last (λ node. node < n)) (length-letters s kept h long)
    (subst (λ (o : Option ℕ). IfSome o (λ node. node < suc (length w))) (sym e) (within_suc (length w) (last_kept w) (last_below w)))

-- one step of the pass
pub last_step : (w : List Bool) (i n : ℕ) (o : Option ℕ) (b : Bool) → i < n → n ≤ length w → get_or w i false ≡ b
    → last_place i o (take (n - i) (drop i w)) ≡ last_place (i + 1) (cond b (Some i) o) (take (n - (i + 1)) (drop (i + 1) w))
last_step w i n o b h k e =
    let z : n - i ≡ suc (n - (i + 1)) = omega arith in
    let y : suc i ≡ i + 1 = omega arith in
    ap (λ (m : ℕ). last_place i o (take m (drop i w))) z
    ∙ ap (λ (v : List Bool). last_place i o (take (suc (n - (i + 1))) v)) (drop-cons w i false (omega arith) ∙ ap (λ (a : Bool). a ∷ drop (suc i) w) e)
    ∙ ap (λ (j : ℕ). last_place j (cond b (Some i) o) (take (n - (i + 1)) (drop j w))) y

-- ---- the next word
drop_all : (n : ℕ) (w : List Bool) → length w ≤ n → drop n w ≡ []
drop_all zero [] h = refl
drop_all (suc n) [] h = refl
drop_all zero (b ∷ w) h = absurd (omega arith)
drop_all (suc n) (b ∷ w) h = drop_all n w (omega arith)

paste_behind : (b : Bool) (w : List Bool) (i : ℕ) (u : List Bool) (n : ℕ) → paste (b ∷ w) (suc i) u n ≡ b ∷ paste w i u n
paste_behind b w i u n = let z : suc i + n ≡ suc (i + n) = omega arith in ap (λ (j : ℕ). b ∷ ((take i w ++ take n u) ++ drop j (b ∷ w))) z

pub pasted_is : (w : List Bool) (i k : ℕ) → i < length w → (i + 1) + k ≡ length w → paste (set w i false) (i + 1) (replicate k true) k ≡ cut_after i w
pasted_is [] i k h e = absurd (omega arith)
pasted_is (b ∷ w) zero k h e =
    let z : 0 + 1 ≡ 1 = omega arith in
    let n : k ≡ length w = omega arith in
    let ts = replicate k true in
    ap (λ (i : ℕ). paste (false ∷ w) i ts k) z
    ∙ ap₂ (λ (us vs : List Bool). false ∷ (us ++ vs)) (take_all k ts (omega (arith, length-replicate k true))) (drop_all (1 + k) (false ∷ w) (omega arith))
    ∙ ap (λ (us : List Bool). false ∷ us) (append-nil ts)
    ∙ ap (λ (i : ℕ). false ∷ replicate i true) n
pasted_is (b ∷ w) (suc i) k h e =
    let z : suc i + 1 ≡ suc (i + 1) = omega arith in
    ap (λ (j : ℕ). paste (b ∷ set w i false) j (replicate k true) k) z
    ∙ paste_behind b (set w i false) (i + 1) (replicate k true) k
    ∙ ap (λ (us : List Bool). b ∷ us) (pasted_is w i k (omega arith) (omega arith))
