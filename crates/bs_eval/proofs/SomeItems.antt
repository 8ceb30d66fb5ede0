-- Each tree has a splitting that keeps the root, and a partition.
use Rattle.std.proofs.Common.{◌≡◌, ℕ, zero, suc, ◌+◌, ◌<◌, ◌≤◌, ◌^◌, List, [], ◌∷◌, ◌++◌, map, length, refl, sym, ◌∙◌, ap, subst, arith, length-append}
use Rattle.std.proofs.lemmas.List.{length-map}
use Rattle.std.specs.List.{flat_map}
use Rattle.bs_catalog.specs.Shelf.{Code, split_rows, part_rows, split_row, part_row}
use Rattle.bs_tree.specs.Code.{tree_of}
use Rattle.bs_tree.specs.Tree.{Forest, none, grow}
use Rattle.bs_catalog.specs.Splitting.{Cuts, cuts, cut_off, keep, rooted, codes_of}
use Rattle.bs_catalog.specs.Partition.{Pieces, pieces, keep_edge, cut_edge, rooted as part_rooted, codes_of as part_codes_of}

cuts_some : (f : Forest) → 0 < length (cuts f)
cuts_some none = omega arith
cuts_some (grow c kids rest) =
    let h = cuts_some rest in
    let a = length-append (map (cut_off (record { colour = c; below = kids })) (cuts rest)) (flat_map (λ k. map (keep c k) (cuts rest)) (cuts kids)) in
    let b = length-map (cuts rest) (cut_off (record { colour = c; below = kids })) in
    omega (arith, h, a, b)

flat_some : {X Y : Type 0} (f : X → List Y) (xs : List X) → 0 < length xs → ((x : X) → 0 < length (f x)) → 0 < length (flat_map f xs)
flat_some f [] l h = l
flat_some f (x ∷ xs) l h = let a = length-append (f x) (flat_map f xs) in let b = h x in omega (arith, a, b)

pieces_some : (f : Forest) → 0 < length (pieces f)
pieces_some none = omega arith
pieces_some (grow c kids rest) =
    let one = flat_some (λ k. map (keep_edge c k) (pieces rest)) (pieces kids) (pieces_some kids) (λ k. let r = pieces_some rest in let m = length-map (pieces rest) (keep_edge c k) in omega (arith, r, m)) in
    let a = length-append (flat_map (λ k. map (keep_edge c k) (pieces rest)) (pieces kids)) (flat_map (λ k. map (cut_edge c k) (pieces rest)) (pieces kids)) in
    omega (arith, one, a)

pub split_rows_some : (code : Code) → 0 < length (split_rows code)
split_rows_some code =
    let t = tree_of code in let xs = cuts t.below in
    let a = length-map (map codes_of (map (rooted t.colour) xs)) split_row in
    let b = length-map (map (rooted t.colour) xs) codes_of in
    let d = length-map xs (rooted t.colour) in
    let h = cuts_some t.below in
    omega (arith, a, b, d, h)

pub part_rows_some : (code : Code) → 0 < length (part_rows code)
part_rows_some code =
    let t = tree_of code in let xs = pieces t.below in
    let a = length-map (map part_codes_of (map (part_rooted t.colour) xs)) part_row in
    let b = length-map (map (part_rooted t.colour) xs) part_codes_of in
    let d = length-map xs (part_rooted t.colour) in
    let h = pieces_some t.below in
    omega (arith, a, b, d, h)
