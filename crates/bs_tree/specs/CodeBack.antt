-- A list and its padding give the fields of a list kept in place back.
use Rattle.std.specs.Prelude.{◌≡◌, ℕ, ◌-◌, ◌≤◌, List, [], ◌∷◌, ◌++◌, length, take, drop, replicate}
use Rattle.std.proofs.Common.{arith, ap, ap₂, sym, ◌∙◌}
use Rattle.std.proofs.lemmas.List.{take-append-drop, length-take-le}
use Rattle.bs_tree.specs.declared.pairs.Pairs.TheInside.{Inside as PairsInside}
use Rattle.bs_tree.specs.declared.code_list.CodeList.TheInside.{Inside as CodesInside}
use Rattle.bs_tree.specs.declared.TheConstants.{MAX_NODES}

-- what stands behind the codes of a list
abbrev pub code_padding : List (ℕ × ℕ)
code_padding = (1, 0) ∷ []

padded : {X : Type 0} (x : X) (len : ℕ) (xs : List X) → length xs ≡ MAX_NODES → len ≤ MAX_NODES → drop len xs ≡ replicate (MAX_NODES - len) x
    → (length (take len xs) ≡ len) × (take len xs ++ replicate (MAX_NODES - length (take len xs)) x ≡ xs)
padded {X} x len xs full h pad =
    let e : length (take len xs) ≡ len = length-take-le len xs (omega arith) in (
      e,
      ap (λ (n : ℕ). take len xs ++ replicate (MAX_NODES - n) x) e ∙ ap (λ (ys : List X). take len xs ++ ys) (sym pad) ∙ take-append-drop len xs,
    )

pub pairs_back : (len : ℕ) (nodes : List (ℕ × ℕ)) → length nodes ≡ MAX_NODES → len ≤ MAX_NODES → drop len nodes ≡ replicate (MAX_NODES - len) (0, 0)
    → let back : PairsInside = record { len = length (take len nodes); nodes = take len nodes ++ replicate (MAX_NODES - length (take len nodes)) (0, 0) } in
    let a : PairsInside = record { len = len; nodes = nodes } in back ≡ a
pairs_back len nodes full h pad =
    let p = padded (0, 0) len nodes full h pad in
    ap₂ (λ (n : ℕ) (xs : List (ℕ × ℕ)). let a : PairsInside = record { len = n; nodes = xs } in a) p.0 p.1

pub codes_back : (len : ℕ) (codes : List (List (ℕ × ℕ))) → length codes ≡ MAX_NODES → len ≤ MAX_NODES → drop len codes ≡ replicate (MAX_NODES - len) code_padding
    → let back : CodesInside = record { len = length (take len codes); codes = take len codes ++ replicate (MAX_NODES - length (take len codes)) code_padding } in
    let a : CodesInside = record { len = len; codes = codes } in back ≡ a
codes_back len codes full h pad =
    let p = padded code_padding len codes full h pad in
    ap₂ (λ (n : ℕ) (xs : List (List (ℕ × ℕ))). let a : CodesInside = record { len = n; codes = xs } in a) p.0 p.1
