-- What a code has of its children, in bs_core's words.
use Rattle.std.proofs.Common.{◌≡◌, ℕ, ◌+◌, ◌<◌, ◌≤◌, List, [], ◌∷◌, length, map, sum, get_or, refl, sym, ap, ◌∙◌, subst, arith}
use Rattle.std.specs.List.{All}
use Rattle.std.proofs.lemmas.List.Elements.{All-head, All-tail}
use Rattle.std.proofs.lemmas.List.Sums.{sum_by-cons}
use Rattle.bs_tree.specs.Code.{IsCode, child_codes, root_colour}
use Rattle.bs_tree.specs.declared.TheConstants.{MAX_NODES}
use Rattle.bs_tree.proofs.CodeFacts.{children_add_up, children_are_codes}
use Rattle.bs_core.specs.Codes.{Code, children}
use Rattle.bs_core.specs.Canonical.{Each}
use Rattle.bs_core.proofs.Basics.{children_is}
use Rattle.bs_core.proofs.Pairs.{each_mono}

each_of : {A : Type 0} (P : A → Type 0) (xs : List A) → All P xs → Each P xs
each_of P [] h = tt
each_of P (x ∷ xs) h = (All-head P x xs h, each_of P xs (All-tail P x xs h))

-- the order is one more than those of the children
pub order_is : (c : Code) → IsCode c → length c ≡ 1 + sum (map length (children c))
order_is c e = children_add_up c e ∙ ap (λ (cs : List Code). 1 + sum (map length cs)) (sym (children_is c))

pub sum_cons : (c : Code) (cs : List Code) → sum (map length (c ∷ cs)) ≡ length c + sum (map length cs)
sum_cons c cs = sum_by-cons (λ (k : ℕ). k) (length c) (map length cs)

pub children_codes : (c : Code) → IsCode c → Each IsCode (children c)
children_codes c e = each_mono (λ d. IsCode d × (length d < length c)) IsCode (children c) (λ d h. h.0) (subst (Each (λ d. IsCode d × (length d < length c))) (sym (children_is c)) (each_of (λ d. IsCode d × (length d < length c)) (child_codes c) (children_are_codes c e)))

pub many_codes : (cs : List Code) → Each IsCode cs → length cs ≤ sum (map length cs)
many_codes [] e = omega arith
many_codes (c ∷ cs) e = let r = many_codes cs e.1 in let q = sum_cons c cs in let s = e.0.some in omega arith

pub children_few : (c : Code) → IsCode c → length (children c) < MAX_NODES
children_few c e = let r = many_codes (children c) (children_codes c e) in let q = order_is c e in let s = e.small in omega arith

pub first_colour : (c : Code) (d : ℕ × ℕ) → 0 < length c → (get_or c 0 d).1 ≡ root_colour c
first_colour [] d h = absurd (omega arith)
first_colour (p ∷ ps) d h = refl
