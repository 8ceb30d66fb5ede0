-- What is left before a call of `next` is the item that it gives, and what is left after it.
use Rattle.std.proofs.Common.{◌≡◌, ℕ, suc, ◌-◌, ◌<◌, ◌≤◌, List, [], ◌∷◌, map, take, drop, length, replicate, Bool, true, false, Option, Some, None, option_map, arith, refl, sym, ◌∙◌, ap, ap₂, length-drop}
use Rattle.std.proofs.lemmas.List.{take-replicate}
use Rattle.bs_tree.specs.Tree.{nodes}
use Rattle.bs_tree.specs.Code.{IsCode, tree_of}
use Rattle.bs_part.specs.Partition.{PartCodes, codes_of, rooted, part_codes}
use Rattle.bs_part.specs.Words.{words, pieces_by}
use Rattle.bs_part.specs.Walk.{words_from, last_kept, cut_after, letters, item_by, left}
use Rattle.bs_part.proofs.Counter.{from_keeps, after, onward, Below, last_below, take_within, behind}
use Rattle.bs_part.proofs.Items.{code_nodes, length-letters}
use Rattle.bs_part.proofs.Lists.{map-map}
use Rattle.bs_part.proofs.Words.{parts_are}

-- ---- before the first call
pub new_is : (s : List (ℕ × ℕ)) → IsCode s → left false s (replicate 16 true) ≡ part_codes s
new_is s h =
    let t = tree_of s in
    let small = h.small in
    let n : length s - 1 ≡ nodes t.below = omega (arith, code_nodes s h) in
    ap (λ (w : List Bool). map (item_by s) (words_from w)) (take-replicate (length s - 1) 15 true (omega arith))
    ∙ ap (map (item_by s)) (from_keeps (length s - 1))
    ∙ ap (λ (m : ℕ). map (item_by s) (words m)) n
    ∙ sym (map-map codes_of (λ w. rooted t.colour (pieces_by t.below w)) (words (nodes t.below)))
    ∙ ap (map codes_of) (parts_are t)

-- ---- a call
abbrev pub item_of : List (ℕ × ℕ) → List (List (ℕ × ℕ)) → PartCodes
item_of k ps = record { skeleton = k; parts = ps }

next_letters : (s : List (ℕ × ℕ)) (kept : List Bool) (i : ℕ) → IsCode s → length s ≤ length kept → i < length (letters s kept)
    → letters s (cut_after (suc i) kept) ≡ cut_after i (letters s kept)
next_letters s kept i h long lt =
    ap (λ (v : List Bool). take (length s - 1) v) (behind i kept)
    ∙ take_within (length s - 1) i (drop 1 kept) (omega (arith, length-letters s kept h long)) (omega (arith, length-drop 1 kept))

begun : (s : List (ℕ × ℕ)) (kept : List Bool) → left false s kept ≡ item_by s (letters s kept) ∷ map (item_by s) (after (letters s kept) (last_kept (letters s kept)))
begun s kept = ap (map (item_by s)) (onward (letters s kept))

pub next_some : (done : Bool) (s : List (ℕ × ℕ)) (kept next : List Bool) (node : ℕ) (now new : List PartCodes) (item : PartCodes)
    → IsCode s → length s ≤ length kept → done ≡ false → left done s kept ≡ now → item ≡ item_by s (letters s kept)
    → Some node ≡ option_map (λ i. suc i) (last_kept (letters s kept)) → next ≡ cut_after node kept → new ≡ left false s next
    → now ≡ item ∷ new
next_some done s kept next node now new item h long is view item_is last_is next_is new_is =
    sym view ∙ ap (λ (b : Bool). left b s kept) is ∙ begun s kept
    ∙ ap₂ (λ (i : PartCodes) (is : List PartCodes). i ∷ is) (sym item_is) (go (last_kept (letters s kept)) (last_below (letters s kept)) last_is ∙ sym new_is)
  where
    go : (o : Option ℕ) → Below (length (letters s kept)) o → Some node ≡ option_map (λ i. suc i) o → map (item_by s) (after (letters s kept) o) ≡ left false s next
    go None lt e = cc
    go (Some i) lt e =
        let n : node ≡ suc i = cc in
        ap (λ (w : List Bool). map (item_by s) (words_from w))
        (sym (next_letters s kept i h long lt) ∙ ap (λ (j : ℕ). letters s (cut_after j kept)) (sym n) ∙ ap (letters s) (sym next_is))

pub next_last : (done : Bool) (s : List (ℕ × ℕ)) (kept : List Bool) (now new : List PartCodes) (item : PartCodes)
    → done ≡ false → left done s kept ≡ now → item ≡ item_by s (letters s kept)
    → None ≡ option_map (λ i. suc i) (last_kept (letters s kept)) → new ≡ []
    → now ≡ item ∷ new
next_last done s kept now new item is view item_is last_is new_is =
    sym view ∙ ap (λ (b : Bool). left b s kept) is ∙ begun s kept
    ∙ ap₂ (λ (i : PartCodes) (is : List PartCodes). i ∷ is) (sym item_is) (go (last_kept (letters s kept)) last_is ∙ sym new_is)
  where
    go : (o : Option ℕ) → None ≡ option_map (λ i. suc i) o → map (item_by s) (after (letters s kept) o) ≡ []
    go None e = refl
    go (Some i) e = cc
