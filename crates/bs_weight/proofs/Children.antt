-- The children of a code, and the product of their edge sums.
use Rattle.std.proofs.Common.{◌≡◌, ℕ, zero, suc, ◌+◌, ◌<◌, List, ◌∷◌, ◌++◌, length, take, get_or, slice_get, Option, Some, None, option_map, All, refl, sym, ◌∙◌, ap, subst, arith}
use Rattle.std.proofs.lemmas.List.{length-map, take_all}
use Rattle.std.proofs.lemmas.List.Elements.{All-nil, All-cons, All-head, All-tail, All-append, All-take, All-drop}
use Rattle.std.proofs.lemmas.List.Sums.{fold_more}
use Rattle.std.proofs.lemmas.Option.{slice_get-map, slice_get_within}
use Rattle.std.proofs.Math.Seq.{take-append_seam, drop-append_seam}
use Rattle.bs_frac.specs.Fraction.{whole}
use Rattle.bs_frac.specs.Written.{checked, product_all}
use Rattle.bs_frac.specs.declared.coef.Coef.{Coef}
use Rattle.bs_tree.specs.Tree.{Forest, none, grow, Tree, trees, Coloured}
use Rattle.bs_tree.specs.Canonical.{level_sequence, level_sequence_at, canonical_sequence}
use Rattle.bs_tree.specs.Code.{IsCode, tree_of, child_codes}
use Rattle.bs_tree.specs.SubtreeLaws.{tree_of-level_sequence, code_sequence}
use Rattle.bs_tree.proofs.CodeFacts.{child_written}
use Rattle.bs_tableau.specs.Table.{Table}
use Rattle.bs_tableau.specs.WrittenWeight.{edge_sum, edge_sums, stage_value}

-- ---- colours below k
abbrev Below : ℕ → List (ℕ × ℕ) → Type 0
Below k ps = All (λ pair. pair.1 < k) ps

front : (k : ℕ) (xs ys : List (ℕ × ℕ)) → Below k (xs ++ ys) → Below k xs
front k xs ys h = subst (Below k) (take-append_seam xs ys) (All-take (λ (p : ℕ × ℕ). p.1 < k) (length xs) (xs ++ ys) h)

back : (k : ℕ) (xs ys : List (ℕ × ℕ)) → Below k (xs ++ ys) → Below k ys
back k xs ys h = subst (Below k) (drop-append_seam xs ys) (All-drop (λ (p : ℕ × ℕ). p.1 < k) (length xs) (xs ++ ys) h)

coloured : (k l : ℕ) (f : Forest) → Below k (level_sequence_at l f) → Coloured k f
coloured k l none h = tt
coloured k l (grow c kids rest) h =
    let P : ℕ × ℕ → Type 0 = λ p. p.1 < k in
    let more = All-tail P (l, c) (level_sequence_at (suc l) kids ++ level_sequence_at l rest) h in
    (All-head P (l, c) (level_sequence_at (suc l) kids ++ level_sequence_at l rest) h, coloured k (suc l) kids (front k _ _ more), coloured k l rest (back k (level_sequence_at (suc l) kids) _ more))

written : (k l : ℕ) (f : Forest) → Coloured k f → Below k (level_sequence_at l f)
written k l none h = All-nil (λ (p : ℕ × ℕ). p.1 < k)
written k l (grow c kids rest) h =
    let P : ℕ × ℕ → Type 0 = λ p. p.1 < k in
    All-cons P (l, c) (level_sequence_at (suc l) kids ++ level_sequence_at l rest) h.0 (All-append P _ _ (written k (suc l) kids h.1) (written k l rest h.2))

kid_coloured : (k : ℕ) (f : Forest) (place : ℕ) (t : Tree) → Coloured k f → slice_get (trees f) place ≡ Some t → (t.colour < k) × Coloured k t.below
kid_coloured k none place t h e = cc
kid_coloured k (grow c kids rest) zero t h e =
    let same : (let u : Tree = record { colour = c; below = kids } in u) ≡ t = cc in
    subst (λ (u : Tree). (u.colour < k) × Coloured k u.below) same (h.0, h.1)
kid_coloured k (grow c kids rest) (suc place) t h e = kid_coloured k rest place t h.2 e

-- ---- a child of a code
pub record IsChild (s : List (ℕ × ℕ)) (place : ℕ) (child : List (ℕ × ℕ)) : Type 0 where
  pub tree : slice_get (trees (tree_of s).below) place ≡ Some (tree_of child)
  pub colours : (k : ℕ) → Below k s → Below k child

kid : (s : List (ℕ × ℕ)) (place : ℕ) (child : List (ℕ × ℕ)) (t : Tree) → IsCode s → slice_get (trees (tree_of s).below) place ≡ Some t → canonical_sequence t ≡ child → IsChild s place child
kid s place child t h at e =
    let w : level_sequence t ≡ child = sym (child_written s place t h at) ∙ e in
    let same : t ≡ tree_of child = sym (tree_of-level_sequence t) ∙ ap tree_of w in
    record {
      tree = at ∙ ap (λ (u : Tree). Some u) same;
      colours = λ k b.
          let P : ℕ × ℕ → Type 0 = λ p. p.1 < k in
          let whole = tree_of s in
          let all : Below k ((1, whole.colour) ∷ level_sequence_at 2 whole.below) = subst (Below k) (sym (code_sequence s h)) b in
          let c = kid_coloured k whole.below place t (coloured k 2 whole.below (All-tail P (1, whole.colour) (level_sequence_at 2 whole.below) all)) at in
          subst (Below k) w (All-cons P (1, t.colour) (level_sequence_at 2 t.below) c.0 (written k 2 t.below c.1));
    }

pub is_child : (s : List (ℕ × ℕ)) (place : ℕ) (child : List (ℕ × ℕ)) → IsCode s → slice_get (child_codes s) place ≡ Some child → IsChild s place child
is_child s place child h e = go (slice_get ts place) refl (sym (slice_get-map canonical_sequence ts place) ∙ e)
  where
    ts : List Tree
    ts = trees (tree_of s).below

    go : (o : Option Tree) → slice_get ts place ≡ o → option_map canonical_sequence o ≡ Some child → IsChild s place child
    go None at k = cc
    go (Some t) at k = kid s place child t h at (let same : canonical_sequence t ≡ child = cc in same)

-- ---- the product of the edge sums of the first children
abbrev pub of_first : Table → Forest → ℕ → ℕ → Coef
of_first t f i n = product_all checked (take n (edge_sums checked t f i))

length-edge_sums : (t : Table) (f : Forest) (i : ℕ) → length (edge_sums checked t f i) ≡ length (trees f)
length-edge_sums t none i = refl
length-edge_sums t (grow c kids rest) i = ap suc (length-edge_sums t rest i)

edge_sum_at : (t : Table) (f : Forest) (i place : ℕ) (v : Tree) (d : Coef) → slice_get (trees f) place ≡ Some v
    → get_or (edge_sums checked t f i) place d ≡ edge_sum checked t v.colour i (stage_value checked t v.below)
edge_sum_at t none i place v d e = cc
edge_sum_at t (grow c kids rest) i zero v d e =
    let same : (let u : Tree = record { colour = c; below = kids } in u) ≡ v = cc in
    ap (λ (u : Tree). edge_sum checked t u.colour i (stage_value checked t u.below)) same
edge_sum_at t (grow c kids rest) i (suc place) v d e = edge_sum_at t rest i place v d e

pub one_more : (t : Table) (f : Forest) (i place : ℕ) (v : Tree) (x y : Coef) → slice_get (trees f) place ≡ Some v
    → x ≡ of_first t f i place → y ≡ edge_sum checked t v.colour i (stage_value checked t v.below) → checked.product x y ≡ of_first t f i (place + 1)
one_more t f i place v x y e h k =
    let sums = edge_sums checked t f i in
    let lt : place < length sums = omega (arith, length-edge_sums t f i, slice_get_within (trees f) place v e) in
    ap (λ z. checked.product z y) h
    ∙ ap (checked.product (of_first t f i place)) (k ∙ sym (edge_sum_at t f i place v y e))
    ∙ sym (fold_more checked.product (checked.of (whole 1)) sums place y lt)

pub all_children : (t : Table) (s : List (ℕ × ℕ)) (i n : ℕ) → n ≡ length (child_codes s) → of_first t (tree_of s).below i n ≡ stage_value checked t (tree_of s).below i
all_children t s i n e =
    let f = (tree_of s).below in
    let sums = edge_sums checked t f i in
    ap (product_all checked) (take_all n sums (omega (arith, e, length-map (trees f) canonical_sequence, length-edge_sums t f i)))
