-- The replies from the lines of the items, and the numbers of the items.
use Rattle.std.proofs.Common.{◌≡◌, ℕ, suc, ◌+◌, ◌*◌, ◌<◌, List, [], ◌∷◌, ◌++◌, map, length, Some, None, slice_get, refl, sym, ◌∙◌, ap, ap₂, arith, add-one, append_assoc, append-nil}
use Rattle.std.specs.List.{flat_map}
use Rattle.std.proofs.lemmas.Grind.{flat_map-append}
use Rattle.std.proofs.lemmas.List.{length-map, length-append}
use Rattle.std.proofs.lemmas.List.Folds.{flat_map-map}
use Rattle.std.proofs.lemmas.Nat.{pow_below}
use Rattle.bs_tree.specs.Tree.{nodes}
use Rattle.bs_tree.specs.Code.{IsCode, tree_of, child_codes}
use Rattle.bs_split.specs.Splitting.{Cuts, cuts, rooted, splits, codes_of, split_codes}
use Rattle.bs_split.proofs.Items.{code_nodes}
use Rattle.bs_split.proofs.Words.{splits_few}
use Rattle.bs_part.specs.Partition.{part_codes, parts, tail}
use Rattle.bs_part.specs.Partition as part
use Rattle.bs_part.proofs.Words.{parts_count}
use Rattle.bs_catalog.specs.Shelf.{Code, split_row, split_rows, part_row, part_rows}
use Rattle.bs_catalog.specs.Making.{without_first, made, all_made, splits_made, parts_made}
use Rattle.bs_catalog.specs.declared.way.Way.{Way}
use Rattle.bs_catalog.specs.declared.way.Way.TheVariants.{CutOff, Keep, Join, Sever}
use Rattle.bs_catalog.proofs.RowLaws.{by_first, of_leaf}
use Rattle.bs_reply.specs.Lines.{count_line, split_line, part_line}
use Rattle.bs_reply.specs.declared.line.Word.TheVariants.{Split, Partition}
use Rattle.bs_listing.specs.Items.{split_item, split_reply, partition_reply}
use Rattle.bs_listing.specs.Texts.{spaced, head_text, item_line}
use Rattle.bs_listing.specs.Sides.{kept_row, kept_items, parted_row, parted_items, line_end}
use Rattle.bs_listing.specs.Writes.{lines_under, all_lines}
use Rattle.bs_listing.proofs.BySide.{kept_rows, parted_rows}
use Rattle.bs_listing.proofs.Lines.{line_of}

-- ---- the lines of rows that are made
under_lines : {X : Type 0} (way : Way) (row : X → List Code) (k : List Code) (rs : List X) → flat_map item_line (map (made way k) (map row rs)) ≡ lines_under way row k rs
under_lines way row k rs = flat_map-map item_line (made way k) (map row rs) ∙ flat_map-map (λ (r : List Code). item_line (made way k r)) row rs

made_lines : {X : Type 0} (way : Way) (row : X → List Code) (ks rs : List X) → flat_map item_line (all_made way (map row ks) (map row rs)) ≡ all_lines way row ks rs
made_lines way row [] rs = refl
made_lines way row (k ∷ ks) rs =
    flat_map-append item_line (map (made way (row k)) (map row rs)) (all_made way (map row ks) (map row rs))
    ∙ ap₂ (λ (s t : List ℕ). s ++ t) (under_lines way row (row k) rs) (made_lines way row ks rs)

pub split_lines : (s x : Code) → IsCode s → slice_get (child_codes s) 0 ≡ Some x
    → flat_map item_line (split_rows s) ≡ lines_under CutOff kept_row (x ∷ []) (kept_items (without_first s)) ++ all_lines Keep kept_row (kept_items x) (kept_items (without_first s))
split_lines s x h first =
    let ks = kept_items x in
    let rs = kept_items (without_first s) in
    ap (flat_map item_line) ((by_first s x h first).splits ∙ ap₂ (splits_made x) (kept_rows x) (kept_rows (without_first s)))
    ∙ flat_map-append item_line (map (made CutOff (x ∷ [])) (map kept_row rs)) (all_made Keep (map kept_row ks) (map kept_row rs))
    ∙ ap₂ (λ (s t : List ℕ). s ++ t) (under_lines CutOff kept_row (x ∷ []) rs) (made_lines Keep kept_row ks rs)

pub part_lines : (s x : Code) → IsCode s → slice_get (child_codes s) 0 ≡ Some x
    → flat_map item_line (part_rows s)
    ≡ all_lines Join parted_row (parted_items x) (parted_items (without_first s)) ++ all_lines Sever parted_row (parted_items x) (parted_items (without_first s))
part_lines s x h first =
    let ks = parted_items x in
    let rs = parted_items (without_first s) in
    ap (flat_map item_line) ((by_first s x h first).parts ∙ ap₂ parts_made (parted_rows x) (parted_rows (without_first s)))
    ∙ flat_map-append item_line (all_made Join (map parted_row ks) (map parted_row rs)) (all_made Sever (map parted_row ks) (map parted_row rs))
    ∙ ap₂ (λ (s t : List ℕ). s ++ t) (made_lines Join parted_row ks rs) (made_lines Sever parted_row ks rs)

-- ---- how many there are
all_count : (way : Way) (ks rs : List (List Code)) → length (all_made way ks rs) ≡ length ks * length rs
all_count way [] rs = omega arith
all_count way (k ∷ ks) rs =
    omega (arith, all_count way ks rs, length-map rs (made way k), length-append (map (made way k) rs) (all_made way ks rs))

split_number : (code : Code) → length (split_codes code) ≡ length (split_rows code) + 1
split_number code = ap suc (sym (length-map (tail (split_codes code)) split_row)) ∙ sym (add-one (length (split_rows code)))

pub split_count : (s x : Code) → IsCode s → slice_get (child_codes s) 0 ≡ Some x
    → length (split_codes s) ≡ length (kept_items x) * length (kept_items (without_first s)) + length (kept_items (without_first s)) + 1
split_count s x h first =
    let ks = map kept_row (kept_items x) in
    let rs = map kept_row (kept_items (without_first s)) in
    let rows : length (split_rows s) ≡ length (splits_made x ks rs) =
    ap length ((by_first s x h first).splits ∙ ap₂ (splits_made x) (kept_rows x) (kept_rows (without_first s))) in
    let all : length (all_made Keep ks rs) ≡ length (kept_items x) * length (kept_items (without_first s)) =
    all_count Keep ks rs ∙ ap₂ (λ (m n : ℕ). m * n) (length-map (kept_items x) kept_row) (length-map (kept_items (without_first s)) kept_row) in
    omega (
      arith,
      split_number s,
      rows,
      all,
      length-append (map (made CutOff (x ∷ [])) rs) (all_made Keep ks rs),
      length-map rs (made CutOff (x ∷ [])),
      length-map (kept_items (without_first s)) kept_row,
    )

pub part_count : (s x : Code) → IsCode s → slice_get (child_codes s) 0 ≡ Some x
    → length (part_codes s) ≡ length (parted_items x) * length (parted_items (without_first s)) + length (parted_items x) * length (parted_items (without_first s))
part_count s x h first =
    let ks = map parted_row (parted_items x) in
    let rs = map parted_row (parted_items (without_first s)) in
    let rows : length (part_rows s) ≡ length (parts_made ks rs) =
    ap length ((by_first s x h first).parts ∙ ap₂ parts_made (parted_rows x) (parted_rows (without_first s))) in
    let all : (way : Way) → length (all_made way ks rs) ≡ length (parted_items x) * length (parted_items (without_first s)) =
    λ way. all_count way ks rs ∙ ap₂ (λ (m n : ℕ). m * n) (length-map (parted_items x) parted_row) (length-map (parted_items (without_first s)) parted_row) in
    omega (arith, length-map (part_codes s) part_row, rows, all Join, all Sever, length-append (all_made Join ks rs) (all_made Sever ks rs))

pub splits_fit : (code : Code) → IsCode code → length (split_codes code) < 18446744073709551616
splits_fit code h =
    let t = tree_of code in
    let below : nodes t.below < 63 = omega (arith, code_nodes code h, h.small) in
    omega (arith, length-map (splits t) codes_of, splits_few t, pow_below (nodes t.below) 63 below)

pub parts_fit : (code : Code) → IsCode code → length (part_codes code) < 18446744073709551616
parts_fit code h =
    let t = tree_of code in
    let below : nodes t.below < 63 = omega (arith, code_nodes code h, h.small) in
    omega (arith, length-map (parts t) part.codes_of, parts_count t, pow_below (nodes t.below) 63 below)

-- ---- the replies
rooted_lines : (colour : ℕ) (ks : List Cuts) → flat_map item_line (map split_row (map codes_of (map (rooted colour) ks))) ≡ flat_map split_item (map codes_of (map (rooted colour) ks))
rooted_lines colour [] = refl
rooted_lines colour (k ∷ ks) = ap (λ (t : List ℕ). split_item (codes_of (rooted colour k)) ++ t) (rooted_lines colour ks)

split_items : (code : Code) → IsCode code → flat_map split_item (split_codes code) ≡ split_line None (code ∷ []) ++ flat_map item_line (split_rows code)
split_items code h =
    ap (λ (c : Code). split_line None (c ∷ []) ++ flat_map split_item (tail (split_codes code))) h.canonical
    ∙ ap (λ (t : List ℕ). split_line None (code ∷ []) ++ t) (sym (rooted_lines (tree_of code).colour (cuts (tree_of code).below)))

pub split_reply_of : (code : Code) (number : ℕ) (out front later : List ℕ) → IsCode code → number ≡ length (split_codes code)
    → front ≡ out ++ (count_line Split number ++ split_line None (code ∷ [])) → later ≡ front ++ flat_map item_line (split_rows code) → later ≡ out ++ split_reply code
split_reply_of code number out front later h number_is front_is later_is =
    let lines = flat_map item_line (split_rows code) in
    let whole = split_line None (code ∷ []) in
    later_is
    ∙ ap (λ (t : List ℕ). t ++ lines) front_is
    ∙ append_assoc out (count_line Split number ++ whole) lines
    ∙ ap (λ (t : List ℕ). out ++ t) (append_assoc (count_line Split number) whole lines)
    ∙ ap (λ (n : ℕ). out ++ (count_line Split n ++ (whole ++ lines))) number_is
    ∙ ap (λ (t : List ℕ). out ++ (count_line Split (length (split_codes code)) ++ t)) (sym (split_items code h))

pub partition_reply_of : (code : Code) (number : ℕ) (out front later : List ℕ) → number ≡ length (part_codes code) → front ≡ out ++ count_line Partition number
    → later ≡ front ++ flat_map item_line (part_rows code) → later ≡ out ++ partition_reply code
partition_reply_of code number out front later number_is front_is later_is =
    let lines = flat_map item_line (part_rows code) in
    later_is
    ∙ ap (λ (t : List ℕ). t ++ lines) front_is
    ∙ append_assoc out (count_line Partition number) lines
    ∙ ap (λ (n : ℕ). out ++ (count_line Partition n ++ lines)) number_is
    ∙ ap (λ (t : List ℕ). out ++ (count_line Partition (length (part_codes code)) ++ t)) (flat_map-map item_line part_row (part_codes code))

-- ---- a tree of one node
pub leaf_split_count : (code : Code) → IsCode code → length (child_codes code) ≡ 0 → 2 ≡ length (split_codes code)
leaf_split_count code h leaf = omega (arith, split_number code, ap length (of_leaf code h leaf).splits)

pub leaf_part_count : (code : Code) → IsCode code → length (child_codes code) ≡ 0 → 1 ≡ length (part_codes code)
leaf_part_count code h leaf = omega (arith, length-map (part_codes code) part_row, ap length (of_leaf code h leaf).parts)

pub leaf_split_line : (code : Code) → IsCode code → length (child_codes code) ≡ 0 → head_text code ++ line_end ≡ flat_map item_line (split_rows code)
leaf_split_line code h leaf =
    ap (λ (t : List ℕ). t ++ line_end) (sym (append-nil (head_text code)))
    ∙ line_of code [] [] [] line_end refl refl
    ∙ sym (append-nil (part_line code []))
    ∙ ap (flat_map item_line) (sym (of_leaf code h leaf).splits)

pub leaf_part_line : (code : Code) → IsCode code → length (child_codes code) ≡ 0 → head_text ((1, 0) ∷ []) ++ (spaced code ++ []) ++ line_end ≡ flat_map item_line (part_rows code)
leaf_part_line code h leaf =
    line_of ((1, 0) ∷ []) (code ∷ []) [] (spaced code ++ []) line_end refl refl
    ∙ sym (append-nil (part_line ((1, 0) ∷ []) (code ∷ [])))
    ∙ ap (flat_map item_line) (sym (of_leaf code h leaf).parts)
