-- Lists of numbers as text, one more at a time.
use Rattle.std.proofs.Common.{◌≡◌, ℕ, ◌+◌, ◌<◌, false, cond, List, [], ◌∷◌, ◌++◌, length, take, get_or, eqb, map, arith, refl, sym, ◌∙◌, ap, append_assoc}
use Rattle.std.specs.List.{join_with_byte}
use Rattle.std.proofs.lemmas.List.{take_more, map-append, length-map, length-take-le}
use Rattle.std.proofs.lemmas.Bool.Decides.{nat_tests}
use Rattle.bs_levels.specs.Words.{comma}

abbrev pub joined : List (List ℕ) → List ℕ
joined ps = join_with_byte comma ps

-- what stands before a number that comes after n others
abbrev pub separator : ℕ → List ℕ
separator n = cond (eqb n 0) [] (comma ∷ [])

joined_more : (ps : List (List ℕ)) (p : List ℕ) → 0 < length ps → joined (ps ++ (p ∷ [])) ≡ joined ps ++ (comma ∷ p)
joined_more [] p l = absurd (omega arith)
joined_more (q ∷ []) p l = refl
joined_more (q ∷ r ∷ ps) p l = ap (λ v. q ++ (comma ∷ v)) (joined_more (r ∷ ps) p (omega arith)) ∙ sym (append_assoc q (comma ∷ joined (r ∷ ps)) (comma ∷ p))

not_first : (n : ℕ) → 0 < n → eqb n 0 ≡ false
not_first n l = grind (arith, nat_tests)

joined_onto : (ps : List (List ℕ)) (p : List ℕ) → joined (ps ++ (p ∷ [])) ≡ joined ps ++ separator (length ps) ++ p
joined_onto [] p = refl
joined_onto (q ∷ ps) p =
    rw (not_first (length (q ∷ ps)) (omega arith)) (joined_more (q ∷ ps) p (omega arith) ∙ sym (append_assoc (joined (q ∷ ps)) (comma ∷ []) p))

pub text_more : {X : Type 0} (g : X → List ℕ) (xs : List X) (i : ℕ) (d : X) → i < length xs
    → joined (map g (take (i + 1) xs)) ≡ joined (map g (take i xs)) ++ separator i ++ g (get_or xs i d)
text_more g xs i d lt =
    let n : length (map g (take i xs)) ≡ i = length-map (take i xs) g ∙ length-take-le i xs (omega arith) in
    ap (λ ys. joined (map g ys)) (take_more xs i d lt)
    ∙ ap joined (map-append g (take i xs) (get_or xs i d ∷ []))
    ∙ joined_onto (map g (take i xs)) (g (get_or xs i d))
    ∙ ap (λ k. joined (map g (take i xs)) ++ separator k ++ g (get_or xs i d)) n

-- one more number behind a text that stands behind other bytes
pub push_text : {X : Type 0} (g : X → List ℕ) (xs : List X) (i : ℕ) (d : X) (out items new : List ℕ) → i < length xs → items ≡ out ++ joined (map g (take i xs))
    → new ≡ items ++ separator i ++ g (get_or xs i d) → new ≡ out ++ joined (map g (take (i + 1) xs))
push_text g xs i d out items new lt e f =
    f
    ∙ ap (λ ys. ys ++ separator i ++ g (get_or xs i d)) e
    ∙ ap (λ ys. ys ++ g (get_or xs i d)) (append_assoc out (joined (map g (take i xs))) (separator i))
    ∙ append_assoc out (joined (map g (take i xs)) ++ separator i) (g (get_or xs i d))
    ∙ ap (λ ys. out ++ ys) (sym (text_more g xs i d lt))
