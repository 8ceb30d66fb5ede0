-- The codes that are made of two codes, by the trees that these describe.
use Rattle.std.proofs.Common.{◌≡◌, ℕ, suc, List, [], ◌∷◌, ◌++◌, take, drop, length, ◌-◌, arith, Option, Some, None, IfSome, true, false, cond, refl, subst, ap, ap₂, sym, ◌∙◌, append_assoc}
use Rattle.bs_tree.specs.Tree.{Forest, none, grow, Tree, forest}
use Rattle.bs_tree.specs.Canonical.{level_sequence, level_sequence_at, insert, sorted, is_above, canonical_of, canonical_sequence}
use Rattle.bs_tree.specs.Code.{tree_of, deeper}
use Rattle.bs_tree.specs.SortingLaws.{sorted-sorted, insert_comm, by_cases}
use Rattle.bs_tree.specs.SubtreeLaws.{tree_of-level_sequence}
use Rattle.bs_part.specs.Partition.{node}
use Rattle.std.proofs.lemmas.List.{map-append, take_all, length-drop}
use Rattle.bs_catalog.specs.Shelf.{Code}
use Rattle.bs_catalog.specs.Making.{attached, attached_pairs, merged, merged_pairs}
use Rattle.bs_tree.specs.Code.{code_of_pairs, is_level_sequence}

deeper_sequence : (l : ℕ) (f : Forest) → deeper (level_sequence_at l f) ≡ level_sequence_at (suc l) f
deeper_sequence l none = refl
deeper_sequence l (grow c kids rest) =
    ap (λ (ps : List (ℕ × ℕ)). (suc l, c) ∷ ps)
    (map-append (λ (p : ℕ × ℕ). let q : ℕ × ℕ = (suc p.0, p.1) in q) (level_sequence_at (suc l) kids) (level_sequence_at l rest)
    ∙ ap₂ (λ (x y : List (ℕ × ℕ)). x ++ y) (deeper_sequence (suc l) kids) (deeper_sequence l rest))

-- the code of a tree of sorted parts
of_sequence : (t : Tree) → canonical_sequence (tree_of (level_sequence t)) ≡ canonical_sequence t
of_sequence t = ap canonical_sequence (tree_of-level_sequence t)

pub attached_is : (c d : ℕ) (a b : Forest) → attached (canonical_sequence (node c b)) (canonical_sequence (node d a)) ≡ canonical_sequence (node c (grow d a b))
unfolding attached
attached_is c d a b =
    let t : Tree = node c (grow d (sorted a) (sorted b)) in
    let e : attached_pairs (canonical_sequence (node c b)) (canonical_sequence (node d a)) ≡ level_sequence t =
    ap (λ (ps : List (ℕ × ℕ)). (1, c) ∷ ((2, d) ∷ (ps ++ level_sequence_at 2 (sorted b)))) (deeper_sequence 2 (sorted a)) in
    ap (λ (ps : List (ℕ × ℕ)). canonical_sequence (tree_of ps)) e ∙ of_sequence t
    ∙ ap₂ (λ (x y : Forest). level_sequence (node c (insert (node d x) y))) (sorted-sorted a) (sorted-sorted b)

-- ---- the children of two roots below one
abbrev onto : Forest → Forest → Forest
onto none z = z
onto (grow c kids rest) z = insert (node c (sorted kids)) (onto rest z)

abbrev joined_forest : Forest → Forest → Forest
joined_forest none g = g
joined_forest (grow c kids rest) g = grow c kids (joined_forest rest g)

sorted_joined : (f g : Forest) → sorted (joined_forest f g) ≡ onto f (sorted g)
sorted_joined none g = refl
sorted_joined (grow c kids rest) g = ap (insert (node c (sorted kids))) (sorted_joined rest g)

onto_insert : (t : Tree) (f z : Forest) → onto (insert t f) z ≡ insert (canonical_of t) (onto f z)
onto_insert t none z = refl
onto_insert t (grow d below more) z =
    by_cases (is_above (node d below) t)
    (λ e. rw e (ap (insert (node d (sorted below))) (onto_insert t more z) ∙ insert_comm (node d (sorted below)) (canonical_of t) (onto more z)))
    (λ e. rw e refl)

onto_sorted : (f z : Forest) → onto (sorted f) z ≡ onto f z
onto_sorted none z = refl
onto_sorted (grow c kids rest) z =
    onto_insert (node c (sorted kids)) (sorted rest) z
    ∙ ap₂ (λ (x y : Forest). insert (node c x) y) (sorted-sorted kids) (onto_sorted rest z)

joined_again : (f g : Forest) → sorted (joined_forest (sorted f) (sorted g)) ≡ sorted (joined_forest f g)
joined_again f g =
    sorted_joined (sorted f) (sorted g) ∙ ap (onto (sorted f)) (sorted-sorted g) ∙ onto_sorted f (sorted g) ∙ sym (sorted_joined f g)

joined_sequence : (l : ℕ) (f g : Forest) → level_sequence_at l f ++ level_sequence_at l g ≡ level_sequence_at l (joined_forest f g)
joined_sequence l none g = refl
joined_sequence l (grow c kids rest) g =
    ap (λ (ps : List (ℕ × ℕ)). (l, c) ∷ ps)
    (append_assoc (level_sequence_at (suc l) kids) (level_sequence_at l rest) (level_sequence_at l g)
    ∙ ap (λ (ps : List (ℕ × ℕ)). level_sequence_at (suc l) kids ++ ps) (joined_sequence l rest g))

joined_forests : (ts us : List Tree) → forest (ts ++ us) ≡ joined_forest (forest ts) (forest us)
joined_forests [] us = refl
joined_forests (t ∷ ts) us = ap (grow t.colour t.below) (joined_forests ts us)

pub merged_is : (c d : ℕ) (ts us : List Tree) → merged (canonical_sequence (node c (forest us))) (canonical_sequence (node d (forest ts))) ≡ canonical_sequence (node c (forest (ts ++ us)))
unfolding merged
merged_is c d ts us =
    let f = forest ts in
    let g = forest us in
    let t : Tree = node c (joined_forest (sorted f) (sorted g)) in
    let e : merged_pairs (canonical_sequence (node c g)) (canonical_sequence (node d f)) ≡ level_sequence t =
    ap (λ (ps : List (ℕ × ℕ)). (1, c) ∷ ps) (joined_sequence 2 (sorted f) (sorted g)) in
    ap (λ (ps : List (ℕ × ℕ)). canonical_sequence (tree_of ps)) e ∙ of_sequence t
    ∙ ap (λ (x : Forest). level_sequence (node c x)) (joined_again f g ∙ ap sorted (sym (joined_forests ts us)))

-- ---- as a call makes them
pub some_code : (r : Option Code) (ps : List (ℕ × ℕ)) → r ≡ code_of_pairs ps → IfSome r (λ code. code ≡ canonical_sequence (tree_of ps))
some_code r ps e =
    subst (λ (o : Option Code). IfSome o (λ code. code ≡ canonical_sequence (tree_of ps))) (sym e)
    (elim (is_level_sequence ps) as (λ b. IfSome (cond b (Some (canonical_sequence (tree_of ps))) None) (λ code. code ≡ canonical_sequence (tree_of ps))) [
      | true ↦ refl
      | false ↦ tt
    ])

pub three_parts : {X : Type 0} (x y z p0 p1 p2 p3 : List X) → p0 ≡ [] → p1 ≡ p0 ++ x → p2 ≡ p1 ++ y → p3 ≡ p2 ++ z → p3 ≡ x ++ (y ++ z)
three_parts {X} x y z p0 p1 p2 p3 e0 e1 e2 e3 =
    e3 ∙ ap (λ (ps : List X). ps ++ z) (e2 ∙ ap (λ (ps : List X). ps ++ y) (e1 ∙ ap (λ (ps : List X). ps ++ x) e0)) ∙ append_assoc x y z

pub two_parts : {X : Type 0} (x y p0 p1 p2 : List X) → p0 ≡ [] → p1 ≡ p0 ++ x → p2 ≡ p1 ++ y → p2 ≡ x ++ y
two_parts {X} x y p0 p1 p2 e0 e1 e2 = e2 ∙ ap (λ (ps : List X). ps ++ y) (e1 ∙ ap (λ (ps : List X). ps ++ x) e0)

pub from_place : {X : Type 0} (n : ℕ) (xs : List X) → take (length xs - n) (drop n xs) ≡ drop n xs
from_place n xs = take_all (length xs - n) (drop n xs) (omega (arith, length-drop n xs))

pub on_some : {X : Type 0} (r : Option X) (P Q : X → Type 0) → ((x : X) → P x → Q x) → IfSome r P → IfSome r Q
on_some None P Q f h = tt
on_some (Some x) P Q f h = f x h
