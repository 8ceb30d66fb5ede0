-- What is left before a call of `next` is the item that it gives, and what is left after it.
use Rattle.std.proofs.Common.{◌≡◌, ℕ, suc, ◌≤◌, List, [], ◌∷◌, map, drop, length, replicate, Bool, false, Option, Some, None, option_map, arith, refl, sym, ◌∙◌, ap, ap₂, length-drop}
use Rattle.bs_tree.specs.Canonical.{canonical_of}
use Rattle.bs_tree.specs.Code.{IsCode, tree_of}
use Rattle.bs_split.specs.Splitting.{Cuts, cuts, SplitCodes, codes_of, rooted}
use Rattle.bs_split.specs.Words.{cuts_by}
use Rattle.bs_split.specs.Walk.{cuts_from, last_cut, advanced, left}
use Rattle.bs_split.specs.declared.splits.Stage.{Stage}
use Rattle.bs_split.specs.declared.splits.Stage.TheVariants.{Whole, Rooted}
use Rattle.bs_split.proofs.Items.{code_nodes}
use Rattle.bs_split.proofs.Lists.{map-map}
use Rattle.bs_split.proofs.Onward.{from_cuts, onward, after}

abbrev pub item_of : Option (List (ℕ × ℕ)) → List (List (ℕ × ℕ)) → SplitCodes
item_of k f = record { kept = k; forest = f }

pub whole_next : (stage : Stage) (s : List (ℕ × ℕ)) (kept : List Bool) (now new : List SplitCodes) (k : Option (List (ℕ × ℕ))) (f : List (List (ℕ × ℕ)))
    → IsCode s → stage ≡ Whole → left stage s kept ≡ now → k ≡ None → f ≡ s ∷ [] → new ≡ left Rooted s (replicate 16 false)
    → now ≡ item_of k f ∷ new
whole_next stage s kept now new k f h is view k_is f_is new_is =
    let t = tree_of s in
    let first : codes_of (record { kept = None; forest = canonical_of t ∷ [] }) ≡ item_of k f =
    ap (λ (x : List (ℕ × ℕ)). item_of None (x ∷ [])) h.canonical ∙ sym (ap₂ item_of k_is f_is) in
    let small = h.small in
    let rest : map codes_of (map (rooted t.colour) (cuts t.below)) ≡ new =
    map-map codes_of (rooted t.colour) (cuts t.below)
    ∙ ap (map (λ (i : Cuts). codes_of (rooted t.colour i))) (sym (from_cuts t.below 15 (omega (arith, code_nodes s h, small))))
    ∙ sym new_is in
    sym view ∙ ap (λ (st : Stage). left st s kept) is ∙ ap₂ (λ (i : SplitCodes) (is : List SplitCodes). i ∷ is) first rest

items : (s : List (ℕ × ℕ)) → List Cuts → List SplitCodes
items s ks = map (λ k. codes_of (rooted (tree_of s).colour k)) ks

behind : (i : ℕ) (kept : List Bool) → drop 1 (advanced (suc i) kept) ≡ advanced i (drop 1 kept)
behind i [] = refl
behind i (b ∷ w) = refl

to_next : (s : List (ℕ × ℕ)) (kept : List Bool) → IsCode s → length s ≤ length kept
    → left Rooted s kept ≡ codes_of (rooted (tree_of s).colour (cuts_by (tree_of s).below (drop 1 kept))) ∷ items s (after (tree_of s).below (drop 1 kept) (last_cut (tree_of s).below (drop 1 kept)))
unfolding items
to_next s kept h long = ap (items s) (onward (tree_of s).below (drop 1 kept) (omega (arith, code_nodes s h, length-drop 1 kept)))

pub rooted_next : (stage : Stage) (s : List (ℕ × ℕ)) (kept next : List Bool) (node : ℕ) (now new : List SplitCodes) (item : SplitCodes)
    → IsCode s → length s ≤ length kept → stage ≡ Rooted → left stage s kept ≡ now
    → item ≡ codes_of (rooted (tree_of s).colour (cuts_by (tree_of s).below (drop 1 kept)))
    → Some node ≡ option_map (λ i. suc i) (last_cut (tree_of s).below (drop 1 kept)) → next ≡ advanced node kept → new ≡ left Rooted s next
    → now ≡ item ∷ new
unfolding items
rooted_next stage s kept next node now new item h long is view item_is last_is next_is new_is =
    sym view ∙ ap (λ (st : Stage). left st s kept) is ∙ to_next s kept h long
    ∙ ap₂ (λ (i : SplitCodes) (is : List SplitCodes). i ∷ is) (sym item_is) (go (last_cut (tree_of s).below (drop 1 kept)) last_is ∙ sym new_is)
  where
    go : (o : Option ℕ) → Some node ≡ option_map (λ i. suc i) o → items s (after (tree_of s).below (drop 1 kept) o) ≡ left Rooted s next
    go None e = cc
    go (Some i) e =
        let n : node ≡ suc i = cc in
        ap (λ (w : List Bool). items s (cuts_from (tree_of s).below w)) (sym (behind i kept) ∙ ap (λ (j : ℕ). drop 1 (advanced j kept)) (sym n) ∙ ap (λ (w : List Bool). drop 1 w) (sym next_is))

pub rooted_last : (stage : Stage) (s : List (ℕ × ℕ)) (kept : List Bool) (now new : List SplitCodes) (item : SplitCodes)
    → IsCode s → length s ≤ length kept → stage ≡ Rooted → left stage s kept ≡ now
    → item ≡ codes_of (rooted (tree_of s).colour (cuts_by (tree_of s).below (drop 1 kept)))
    → None ≡ option_map (λ i. suc i) (last_cut (tree_of s).below (drop 1 kept)) → new ≡ []
    → now ≡ item ∷ new
unfolding items
rooted_last stage s kept now new item h long is view item_is last_is new_is =
    sym view ∙ ap (λ (st : Stage). left st s kept) is ∙ to_next s kept h long
    ∙ ap₂ (λ (i : SplitCodes) (is : List SplitCodes). i ∷ is) (sym item_is) (go (last_cut (tree_of s).below (drop 1 kept)) last_is ∙ sym new_is)
  where
    go : (o : Option ℕ) → None ≡ option_map (λ i. suc i) o → items s (after (tree_of s).below (drop 1 kept) o) ≡ []
    go None e = refl
    go (Some i) e = cc
