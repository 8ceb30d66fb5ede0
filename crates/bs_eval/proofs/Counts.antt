-- A tree has not many splittings and partitions.
use Rattle.std.proofs.Common.{◌≡◌, ℕ, zero, suc, ◌+◌, ◌*◌, ◌^◌, ◌≤◌, List, [], ◌∷◌, ◌++◌, map, length, refl, sym, ◌∙◌, ap, subst, arith, length-append}
use Rattle.std.specs.List.{flat_map}
use Rattle.std.proofs.lemmas.Nat.{pow-add, mul-le}
use Rattle.std.proofs.lemmas.List.{length-map}
use Rattle.bs_tree.specs.Tree.{Forest, none, grow, Tree, nodes}
use Rattle.bs_catalog.specs.Splitting.{Cuts, cuts, cut_off, keep, splits, rooted}
use Rattle.bs_catalog.specs.Partition.{Pieces, pieces, keep_edge, cut_edge, parts, rooted as joined_root}

flat_length : {X Y : Type 0} (f : X → List Y) (m : ℕ) → ((x : X) → length (f x) ≡ m) → (xs : List X) → length (flat_map f xs) ≡ length xs * m
flat_length f m h [] = omega arith
flat_length f m h (x ∷ xs) = omega (arith, length-append (f x) (flat_map f xs), h x, flat_length f m h xs)

one_le : (m : ℕ) → 1 ≤ 2 ^ m
one_le zero = omega arith
one_le (suc m) = let h = one_le m in let e = pow-add 2 1 m in omega (arith, h, e)

power_grow : (m n : ℕ) → 2 ^ (suc m + n) ≡ 2 * 2 ^ m * 2 ^ n
power_grow m n =
    let z : 2 ^ suc m ≡ 2 ^ m * 2 = ap (λ (k : ℕ). 2 ^ k) (let y : suc m ≡ m + 1 = omega arith in y) ∙ pow-add 2 m 1 in
    pow-add 2 (suc m) n ∙ ap (λ (k : ℕ). k * 2 ^ n) z ∙ (let y : 2 ^ m * 2 * 2 ^ n ≡ 2 * 2 ^ m * 2 ^ n = omega arith in y)

cuts_few : (f : Forest) → length (cuts f) ≤ 2 ^ nodes f
cuts_few none = omega arith
cuts_few (grow c kids rest) =
    let a = length (cuts kids) in
    let b = length (cuts rest) in
    let here = map (cut_off (record { colour = c; below = kids })) (cuts rest) in
    let e : length (flat_map (λ (k : Cuts). map (keep c k) (cuts rest)) (cuts kids)) ≡ a * b = flat_length (λ (k : Cuts). map (keep c k) (cuts rest)) b (λ k. length-map (cuts rest) (keep c k)) (cuts kids) in
    let n : length (cuts (grow c kids rest)) ≡ b + a * b = omega (arith, length-append here (flat_map (λ (k : Cuts). map (keep c k) (cuts rest)) (cuts kids)), length-map (cuts rest) (cut_off (record { colour = c; below = kids })), e) in
    let p : suc a * b ≤ 2 * 2 ^ nodes kids * 2 ^ nodes rest = mul-le (suc a) b (2 * 2 ^ nodes kids) (2 ^ nodes rest) (omega (arith, cuts_few kids, one_le (nodes kids))) (cuts_few rest) in
    subst (λ (m : ℕ). length (cuts (grow c kids rest)) ≤ m) (sym (power_grow (nodes kids) (nodes rest))) (omega (arith, n, p))

pub splits_few : (t : Tree) → length (splits t) ≤ 2 ^ nodes t.below + 1
splits_few t = omega (arith, length-map (cuts t.below) (rooted t.colour), cuts_few t.below)

pieces_few : (f : Forest) → length (pieces f) ≤ 2 ^ nodes f
pieces_few none = omega arith
pieces_few (grow c kids rest) =
    let a = length (pieces kids) in
    let b = length (pieces rest) in
    let kept = flat_map (λ (k : Pieces). map (keep_edge c k) (pieces rest)) (pieces kids) in
    let gone = flat_map (λ (k : Pieces). map (cut_edge c k) (pieces rest)) (pieces kids) in
    let d : length kept ≡ a * b = flat_length (λ (k : Pieces). map (keep_edge c k) (pieces rest)) b (λ k. length-map (pieces rest) (keep_edge c k)) (pieces kids) in
    let e : length gone ≡ a * b = flat_length (λ (k : Pieces). map (cut_edge c k) (pieces rest)) b (λ k. length-map (pieces rest) (cut_edge c k)) (pieces kids) in
    let n : length (pieces (grow c kids rest)) ≡ a * b + a * b = omega (arith, length-append kept gone, d, e) in
    let p : a * b ≤ 2 ^ nodes kids * 2 ^ nodes rest = mul-le a b (2 ^ nodes kids) (2 ^ nodes rest) (pieces_few kids) (pieces_few rest) in
    subst (λ (m : ℕ). length (pieces (grow c kids rest)) ≤ m) (sym (power_grow (nodes kids) (nodes rest))) (omega (arith, n, p))

pub parts_few : (t : Tree) → length (parts t) ≤ 2 ^ nodes t.below
parts_few t = omega (arith, length-map (pieces t.below) (joined_root t.colour), pieces_few t.below)
