-- One step of each loop that finds a place or makes a sequence.
use Rattle.std.proofs.Common.{◌≡◌, ℕ, suc, zero, ◌<◌, ◌≤◌, ◌+◌, ◌-◌, List, [], ◌∷◌, ◌++◌, length, take, drop, get_or, slice_get, refl, ap, ap₂, subst, sym, ◌∙◌, arith, All, IfSome, Option, Some, append_assoc, length-append}
use Rattle.std.proofs.lemmas.List.{drop-append-le}
use Rattle.std.proofs.lemmas.List.Elements.{All-cons}
use Rattle.std.proofs.lemmas.Option.{slice_get-get_or}
use Rattle.bs_enum.specs.Successor.{chain, turned}

-- ---- looking for the parent
pub some_at : (P : ℕ × ℕ → Type 0) (xs : List (ℕ × ℕ)) (i : ℕ) (d : ℕ × ℕ) → i < length xs → P (get_or xs i d) → IfSome (slice_get xs i) P
some_at P xs i d h p = subst (λ (o : Option (ℕ × ℕ)). IfSome o P) (sym (slice_get-get_or xs i d h)) p

back_at : (xs : List (ℕ × ℕ)) (i : ℕ) (d : ℕ × ℕ) → i < length xs → drop i xs ≡ get_or xs i d ∷ drop (i + 1) xs
back_at [] i d h = absurd (omega arith)
back_at (x ∷ xs) zero d h = refl
back_at (x ∷ xs) (suc i) d h = back_at xs i d (omega arith) ∙ ap (λ (n : ℕ). get_or xs i d ∷ drop n (x ∷ xs)) (let e : suc (i + 1) ≡ suc i + 1 = omega arith in e)

-- a place of this level or deeper is not the root's
pub not_root : (l : ℕ) (xs : List (ℕ × ℕ)) (i : ℕ) (d : ℕ × ℕ) → 0 < length xs → IfSome (slice_get xs 0) (λ root. root.0 < l) → l ≤ (get_or xs i d).0 → 0 < i
not_root l [] i d n r h = absurd (omega arith)
not_root l (x ∷ xs) zero d n r h = absurd (omega arith)
not_root l (x ∷ xs) (suc i) d n r h = omega arith

pub one_back : (P : ℕ × ℕ → Type 0) (xs : List (ℕ × ℕ)) (i : ℕ) (d : ℕ × ℕ) → i < length xs → 0 < i → P (get_or xs i d) → All P (drop (i + 1) xs) → All P (drop (i - 1 + 1) xs)
one_back P xs i d h n p a =
    let e : drop (i - 1 + 1) xs ≡ get_or xs i d ∷ drop (i + 1) xs = ap (λ (j : ℕ). drop j xs) (let f : i - 1 + 1 ≡ i = omega arith in f) ∙ back_at xs i d h in
    subst (All P) (sym e) (All-cons P (get_or xs i d) (drop (i + 1) xs) p a)

-- ---- chains
chain_last : (l k m : ℕ) → chain l k (suc m) ≡ chain l k m ++ (l + 1 + m, k - 1) ∷ []
chain_last l k zero = ap (λ (i : ℕ). let p : ℕ × ℕ = (i, k - 1) in p ∷ []) (let e : suc l ≡ l + 1 + 0 = omega arith in e)
chain_last l k (suc m) =
    ap (λ (ps : List (ℕ × ℕ)). (suc l, k - 1) ∷ ps)
    (chain_last (suc l) k m ∙ ap (λ (i : ℕ). chain (suc l) k m ++ (i, k - 1) ∷ []) (let e : suc l + 1 + m ≡ l + 1 + suc m = omega arith in e))

pub chain_more : (xs ys zs : List (ℕ × ℕ)) (l k m : ℕ) → ys ≡ xs ++ chain l k m → zs ≡ ys ++ (l + 1 + m, k - 1) ∷ [] → zs ≡ xs ++ chain l k (m + 1)
chain_more xs ys zs l k m e f =
    f ∙ ap (λ (v : List (ℕ × ℕ)). v ++ (l + 1 + m, k - 1) ∷ []) e ∙ append_assoc xs (chain l k m) ((l + 1 + m, k - 1) ∷ [])
    ∙ ap (λ (v : List (ℕ × ℕ)). xs ++ v) (sym (chain_last l k m) ∙ ap (chain l k) (let g : suc m ≡ m + 1 = omega arith in g))

-- ---- copies
pub copy_more : (d m n : ℕ) (xs zs : List (ℕ × ℕ)) (q z : ℕ × ℕ) → 0 < d → d ≤ length xs → m ≡ suc n → q ≡ get_or xs (length xs - d) z → zs ≡ xs ++ q ∷ []
    → xs ++ turned m (drop (length xs - d) xs) ≡ zs ++ turned n (drop (length zs - d) zs)
copy_more d m n xs zs q z s k e f g =
    let i : ℕ = length xs - d in
    let at : drop i xs ≡ q ∷ drop (i + 1) xs = back_at xs i z (omega arith) ∙ ap (λ (p : ℕ × ℕ). p ∷ drop (i + 1) xs) (sym f) in
    let size : length zs - d ≡ i + 1 = omega (arith, ap length g, length-append xs (q ∷ [])) in
    let rest : drop (length zs - d) zs ≡ drop (i + 1) xs ++ q ∷ [] = ap₂ (λ (j : ℕ) (v : List (ℕ × ℕ)). drop j v) size g ∙ drop-append-le (i + 1) xs (q ∷ []) (omega arith) in
    ap₂ (λ (j : ℕ) (v : List (ℕ × ℕ)). xs ++ turned j v) e at
    ∙ sym (append_assoc xs (q ∷ []) (turned n (drop (i + 1) xs ++ q ∷ [])))
    ∙ ap₂ (λ (v w : List (ℕ × ℕ)). v ++ turned n w) (sym g) (sym rest)
