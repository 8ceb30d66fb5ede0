-- The steps of the walk over a level sequence.
use Rattle.std.proofs.Common.{◌≡◌, ℕ, suc, ◌-◌, ◌<◌, ◌≤◌, List, [], ◌∷◌, ◌++◌, fold, length, take, drop, get_or, append_assoc, append-nil, refl, sym, ◌∙◌, ap, subst, arith}
use Rattle.std.proofs.lemmas.List.{take_all}
use Rattle.bs_frac.specs.Fraction.{whole}
use Rattle.bs_frac.specs.Written.{checked, product_all}
use Rattle.bs_frac.specs.declared.coef.Coef.{Coef}
use Rattle.bs_tree.specs.Tree.{Forest, none, grow}
use Rattle.bs_tree.specs.Canonical.{level_sequence, level_sequence_at, canonical_of}
use Rattle.bs_tree.specs.Code.{tree_of, IsCode}
use Rattle.bs_tree.specs.SubtreeLaws.{tree_of-level_sequence}
use Rattle.bs_tableau.specs.Table.{Table, matrix_entry, weight_entry}
use Rattle.bs_tableau.specs.WrittenWeight.{edge_sum, edge_sums, stage_value, root_sum, written_weight}
use Rattle.bs_tableau.specs.declared.TheConstants.{MAX_STAGES}
use Rattle.bs_weight.specs.Walk.{stage_in, MultipliesBy, IsBelow, IsMultiplied, MultipliesTrees}
use Rattle.bs_weight.proofs.Sums.{sum_below-same}

-- ---- the pairs
abbrev behind_first : List (ℕ × ℕ) → List (ℕ × ℕ)
behind_first pairs = take (length pairs - 1) (drop 1 pairs)

behind_first-cons : (p : ℕ × ℕ) (ps : List (ℕ × ℕ)) → behind_first (p ∷ ps) ≡ ps
behind_first-cons p ps = take_all (length (p ∷ ps) - 1) ps (omega arith)

below_more : (level : ℕ) (later : List (ℕ × ℕ)) → IsBelow level later → IsBelow (suc level) later
below_more level [] h = tt
below_more level (p ∷ ps) h = omega arith

below_rest : (level : ℕ) (f : Forest) (later : List (ℕ × ℕ)) → IsBelow level later → IsBelow (suc level) (level_sequence_at level f ++ later)
below_rest level none later h = below_more level later h
below_rest level (grow c kids rest) later h = omega arith

head_of : (p q : ℕ × ℕ) (ps qs : List (ℕ × ℕ)) → p ∷ ps ≡ q ∷ qs → p ≡ q
head_of p q ps qs e = ap (λ xs. get_or xs 0 p) e

tail_of : (p q : ℕ × ℕ) (ps qs : List (ℕ × ℕ)) → p ∷ ps ≡ q ∷ qs → ps ≡ qs
tail_of p q ps qs e = ap (λ xs. drop 1 xs) e

-- ---- equal values at each stage
pub edge_sum-same : (t : Table) (c d i : ℕ) (p q : ℕ → Coef) → c ≡ d → ((j : ℕ) → j < t.stages → p j ≡ q j) → edge_sum checked t c i p ≡ edge_sum checked t d i q
edge_sum-same t c d i p q e h =
    ap (λ n. edge_sum checked t n i p) e
    ∙ sum_below-same (λ j. product_all checked (checked.of (matrix_entry t d i j) ∷ p j ∷ [])) (λ j. product_all checked (checked.of (matrix_entry t d i j) ∷ q j ∷ [])) t.stages
    (λ j lt. ap (λ x. product_all checked (checked.of (matrix_entry t d i j) ∷ x ∷ [])) (h j lt))

pub root_sum-same : (t : Table) (c d : ℕ) (p q : ℕ → Coef) → c ≡ d → ((j : ℕ) → j < t.stages → p j ≡ q j) → root_sum checked t c p ≡ root_sum checked t d q
root_sum-same t c d p q e h =
    ap (λ n. root_sum checked t n p) e
    ∙ sum_below-same (λ j. product_all checked (checked.of (weight_entry t d j) ∷ p j ∷ [])) (λ j. product_all checked (checked.of (weight_entry t d j) ∷ q j ∷ [])) t.stages
    (λ j lt. ap (λ x. product_all checked (checked.of (weight_entry t d j) ∷ x ∷ [])) (h j lt))

-- ---- no tree is left
pub stops-empty : (t : Table) (level : ℕ) (pairs : List (ℕ × ℕ)) (values : List Coef) → length pairs < 1 → MultipliesTrees t level pairs values values pairs
stops-empty t level (p ∷ ps) values h f later low e = absurd (omega arith)
stops-empty t level [] values h none later low e = record { left = e; values = λ i lt. refl }
stops-empty t level [] values h (grow c kids rest) later low e = absurd (let n = ap length e in omega arith)

pub stops-below : (t : Table) (level : ℕ) (pairs : List (ℕ × ℕ)) (values : List Coef) → 1 ≤ length pairs → (get_or pairs 0 (0, 0)).0 < level → MultipliesTrees t level pairs values values pairs
stops-below t level [] values h l f later low e = absurd (omega arith)
stops-below t level (p ∷ ps) values h l none later low e = record { left = e; values = λ i lt. refl }
stops-below t level (p ∷ ps) values h l (grow c kids rest) later low e =
    absurd (let n : p.0 ≡ level = ap (λ (q : ℕ × ℕ). q.0) (head_of p (level, c) ps _ e) in omega arith)

-- ---- one tree, and the trees behind it
module _ (t : Table) (level top colour : ℕ) (pairs : List (ℕ × ℕ)) (old ones child sums between new : List Coef) (behind rest : List (ℕ × ℕ))
    (is_one : (i : ℕ) → i < MAX_STAGES → stage_in ones i ≡ checked.of (whole 1)) (few : t.stages ≤ MAX_STAGES)
    (below : MultipliesTrees t (suc top) (behind_first pairs) ones child behind)
    (summed : (i : ℕ) → i < t.stages → stage_in sums i ≡ edge_sum checked t colour i (stage_in child))
    (edge : MultipliesBy t.stages old between (stage_in sums))
    (after : MultipliesTrees t level behind between new rest) where
  pub goes_on : 1 ≤ length pairs → level ≤ (get_or pairs 0 (0, 0)).0 → top ≡ (get_or pairs 0 (0, 0)).0 → colour ≡ (get_or pairs 0 (0, 0)).1 → MultipliesTrees t level pairs old new rest
  goes_on h l n k f later low e = go pairs f h l n k e refl
    where
      go : (ps : List (ℕ × ℕ)) (g : Forest) → 1 ≤ length ps → level ≤ (get_or ps 0 (0, 0)).0 → top ≡ (get_or ps 0 (0, 0)).0 → colour ≡ (get_or ps 0 (0, 0)).1
          → ps ≡ level_sequence_at level g ++ later → pairs ≡ ps → IsMultiplied t g later old new rest
      go [] g h' l' n' k' e' same = absurd (omega arith)
      go (p ∷ ps) none h' l' n' k' e' same = absurd (let low' : IsBelow level (p ∷ ps) = subst (IsBelow level) (sym e') low in omega arith)
      go (p ∷ ps) (grow c kids more) h' l' n' k' e' same =
          let others = level_sequence_at level more ++ later in
          let first_pair = head_of p (level, c) ps _ e' in
          let same_level : suc level ≡ suc top = ap suc (sym (n' ∙ ap (λ (q : ℕ × ℕ). q.0) first_pair)) in
          let there : ps ≡ level_sequence_at (suc top) kids ++ others =
          tail_of p (level, c) ps _ e' ∙ append_assoc (level_sequence_at (suc level) kids) (level_sequence_at level more) later ∙ ap (λ m. level_sequence_at m kids ++ others) same_level in
          let low' : IsBelow (suc top) others = subst (λ m. IsBelow m others) same_level (below_rest level more later low) in
          let first : IsMultiplied t kids others ones child behind = below kids others low' (ap behind_first same ∙ behind_first-cons p ps ∙ there) in
          let second : IsMultiplied t more later between new rest = after more later low first.left in
          let same_colour : colour ≡ c = k' ∙ ap (λ (q : ℕ × ℕ). q.1) first_pair in
          let kid : (j : ℕ) → j < t.stages → stage_in child j ≡ stage_value checked t kids j =
          λ j lt. first.values j lt ∙ ap (λ z. fold checked.product z (edge_sums checked t kids j)) (is_one j (omega arith)) in
          record {
            left = second.left;
            values = λ i lt.
                second.values i lt
                ∙ ap (λ z. fold checked.product z (edge_sums checked t more i))
                (edge i lt ∙ ap (checked.product (stage_in old i)) (summed i lt ∙ edge_sum-same t colour c i (stage_in child) (stage_value checked t kids) same_colour kid));
          }

-- ---- the whole tree
code_is_sequence : (s : List (ℕ × ℕ)) → IsCode s → s ≡ level_sequence (tree_of s)
code_is_sequence s h =
    let u = canonical_of (tree_of s) in
    let e : s ≡ level_sequence u = sym h.canonical in
    e ∙ ap level_sequence (sym (ap tree_of e ∙ tree_of-level_sequence u))

pub whole_tree : (t : Table) (s : List (ℕ × ℕ)) (colour : ℕ) (ones values : List Coef) (rest : List (ℕ × ℕ))
    → IsCode s → ((i : ℕ) → i < MAX_STAGES → stage_in ones i ≡ checked.of (whole 1)) → t.stages ≤ MAX_STAGES
    → MultipliesTrees t (suc (get_or s 0 (0, 0)).0) (behind_first s) ones values rest → colour ≡ (get_or s 0 (0, 0)).1
    → root_sum checked t colour (stage_in values) ≡ written_weight checked t (tree_of s)
whole_tree t s colour ones values rest h is_one few walked k =
    let tree = tree_of s in
    let e : s ≡ (1, tree.colour) ∷ level_sequence_at 2 tree.below = code_is_sequence s h in
    let m : IsMultiplied t tree.below [] ones values rest =
    subst (λ (xs : List (ℕ × ℕ)). MultipliesTrees t (suc (get_or {A = ℕ × ℕ} xs 0 (0, 0)).0) (behind_first s) ones values rest) e walked tree.below [] tt (ap behind_first e ∙ behind_first-cons (1, tree.colour) (level_sequence_at 2 tree.below) ∙ sym (append-nil (level_sequence_at 2 tree.below))) in
    root_sum-same t colour tree.colour (stage_in values) (stage_value checked t tree.below)
    (k ∙ ap (λ (xs : List (ℕ × ℕ)). (get_or xs 0 (0, 0)).1) e)
    (λ j lt. m.values j lt ∙ ap (λ z. fold checked.product z (edge_sums checked t tree.below j)) (is_one j (omega arith)))
