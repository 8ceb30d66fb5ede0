-- Equal trees that stand side by side, and the symmetry of a code.
use Rattle.std.proofs.Common.{◌≡◌, ℕ, suc, zero, ◌+◌, ◌-◌, ◌*◌, ◌≤◌, ◌<◌, ◌^◌, true, false, ltb, eqb, List, [], ◌∷◌, ◌++◌, length, take, drop, refl, ap, ap₂, subst, sym, ◌∙◌, arith, append_assoc, append-nil, length-append, mul-pos}
use Rattle.std.specs.Bool.{Decides}
use Rattle.std.specs.List.{prefix_len, starts_with}
use Rattle.std.specs.declared.cmp.Ordering.{Ordering}
use Rattle.std.specs.declared.cmp.Ordering.TheVariants.{Less, Equal, Greater}
use Rattle.std.specs.Ordering.{ordering_then, nat_cmp, is_gt}
use Rattle.std.proofs.lemmas.Bool.{ne_eqb, le-ltb, and_parts}
use Rattle.std.proofs.lemmas.Bool.Decides.{nat_tests}
use Rattle.std.proofs.lemmas.Cmp.{tied_itself}
use Rattle.std.proofs.lemmas.List.{drop_more}
use Rattle.std.proofs.lemmas.Slice.Eq.{starts_is}
use Rattle.std.proofs.Math.Seq.{take-append_seam, drop-append_seam}
use Rattle.bs_tree.specs.Tree.{Forest, none, grow, Tree}
use Rattle.bs_tree.specs.Canonical.{level_sequence_at, sequence_cmp, pair_cmp, compare, tree_cmp}
use Rattle.bs_tree.specs.Code.{IsCode, tree_of}
use Rattle.bs_tree.specs.Numbers.{symmetry, symmetry_of, count_alike}
use Rattle.bs_tree.specs.OrderLaws.{pair_total, compare_onto, then_assoc, nat_cmp-same}
use Rattle.bs_tree.specs.Subtrees.{first_count, same_pair, repeats_within, repeats, later_same, class_sizes}
use Rattle.bs_tree.specs.SortingLaws.{by_cases, same_tree}
use Rattle.bs_tree.proofs.Canon.{isomorphic_refl}
use Rattle.bs_tree.specs.SubtreeLaws.{IsLow, low_rest, length-level_sequence_at, greater_run}
use Rattle.bs_tree.proofs.Bounds.{left_le, small_numbers}
use Rattle.bs_tree.proofs.CodeFacts.{code_tree, code_written, code_within}
use Rattle.bs_tree.proofs.Ordered.{IsLast, IsOrdered, ordered-sorted, count_below}

-- ---- how often a list begins with another
pub repeats_end : (most : ℕ) (first ps : List (ℕ × ℕ)) → starts_with same_pair ps first ≡ false → repeats_within most first ps ≡ 0
repeats_end zero first ps h = refl
repeats_end (suc most) first ps h = rw h refl

repeats_again : (most : ℕ) (first ps : List (ℕ × ℕ)) → 0 < most → starts_with same_pair ps first ≡ true
    → repeats_within most first ps ≡ suc (repeats_within (most - 1) first (drop (length first) ps))
repeats_again zero first ps h e = absurd (omega arith)
repeats_again (suc most) first ps h e = rw e (ap (λ (n : ℕ). suc (repeats_within n first (drop (length first) ps))) (let k : most ≡ suc most - 1 = omega arith in k))

-- one time more
pub repeats_more : (total count : ℕ) (first rest : List (ℕ × ℕ)) (all : ℕ) → count < total → starts_with same_pair rest first ≡ true
    → count + repeats_within (total - count) first rest ≡ all → (count + 1) + repeats_within (total - (count + 1)) first (drop (length first) rest) ≡ all
repeats_more total count first rest all h e inv =
    let a = repeats_again (total - count) first rest (omega arith) e in
    let n : total - count - 1 ≡ total - (count + 1) = omega arith in
    let b : repeats_within (total - count - 1) first (drop (length first) rest) ≡ repeats_within (total - (count + 1)) first (drop (length first) rest) =
    ap (λ (k : ℕ). repeats_within k first (drop (length first) rest)) n in
    omega (arith, a, b, inv)

-- ---- the pairs of one tree before others
same_pair-Decides : (p q : ℕ × ℕ) → Decides (same_pair p q) (p ≡ q)
same_pair-Decides p q = (
  λ h.
      let b = and_parts (eqb p.0 q.0) (eqb p.1 q.1) h in
      ap₂ (λ (m n : ℕ). let r : ℕ × ℕ = (m, n) in r) (eqb_same p.0 q.0 b.0) (eqb_same p.1 q.1 b.1),
  λ e. subst (λ (r : ℕ × ℕ). same_pair p r ≡ true) e (rw (eqb_refl p.0, eqb_refl p.1) refl),
)
  where
    eqb_same : (a b : ℕ) → eqb a b ≡ true → a ≡ b
    eqb_same a b h = grind (arith, nat_tests)

    eqb_refl : (a : ℕ) → eqb a a ≡ true
    eqb_refl a = grind (arith, nat_tests)

starts_out : (ps first : List (ℕ × ℕ)) → starts_with same_pair ps first ≡ true → ps ≡ first ++ drop (length first) ps
starts_out ps first h = (starts_is same_pair-Decides ps first (starts_with same_pair ps first) refl).0 h

starts_in : (first rest : List (ℕ × ℕ)) → starts_with same_pair (first ++ rest) first ≡ true
starts_in first rest = (starts_is same_pair-Decides (first ++ rest) first (starts_with same_pair (first ++ rest) first) refl).1 rest refl

abbrev pub one_at : ℕ → Tree → List (ℕ × ℕ)
one_at l t = (l, t.colour) ∷ level_sequence_at (suc l) t.below

-- no list is below the lists that it begins
not_less : (ps ys : List (ℕ × ℕ)) → sequence_cmp (ps ++ ys) ps ≡ Less → ⊥
not_less [] [] h = cc
not_less [] (y ∷ ys) h = cc
not_less (p ∷ ps) ys h =
    let e : pair_cmp p p ≡ Equal = tied_itself pair_total p in
    not_less ps ys (ap (λ (o : Ordering). ordering_then o (sequence_cmp (ps ++ ys) ps)) (sym e) ∙ h)

less_before : (l : ℕ) (u t : Tree) (y : List (ℕ × ℕ)) → IsLow (suc l) y → tree_cmp u t ≡ Less → sequence_cmp (one_at l u ++ y) (one_at l t) ≡ Less
less_before l u t y low h =
    let e : sequence_cmp (level_sequence_at (suc l) u.below ++ y) (level_sequence_at (suc l) t.below) ≡ ordering_then (compare u.below t.below) (sequence_cmp y []) =
    ap (sequence_cmp (level_sequence_at (suc l) u.below ++ y)) (sym (append-nil (level_sequence_at (suc l) t.below))) ∙ compare_onto (suc l) u.below t.below y [] low tt in
    rw (nat_cmp-same l, e)
    (sym (then_assoc (nat_cmp u.colour t.colour) (compare u.below t.below) (sequence_cmp y [])) ∙ ap (λ (o : Ordering). ordering_then o (sequence_cmp y [])) h)

low_starts : (l : ℕ) (t : Tree) (x : List (ℕ × ℕ)) → IsLow l x → starts_with same_pair x (one_at l t) ≡ false
low_starts l t [] h = refl
low_starts l t (p ∷ xs) h = rw (ne_eqb l p.0 (λ e. omega arith)) refl

by_ordering : {G : Type 0} (o : Ordering) → (o ≡ Less → G) → (o ≡ Equal → G) → (o ≡ Greater → G) → G
by_ordering Less p q r = p refl
by_ordering Equal p q r = q refl
by_ordering Greater p q r = r refl

-- the later trees that equal one stand right behind it
same_ahead : (l : ℕ) (t : Tree) (f : Forest) (x : List (ℕ × ℕ)) (most : ℕ) → IsOrdered t.below → IsOrdered f → IsLast t f → IsLow l x
    → length (level_sequence_at l f ++ x) ≤ most → repeats_within most (one_at l t) (level_sequence_at l f ++ x) ≡ count_alike t f
same_ahead l t none x most a h k low n = repeats_end most (one_at l t) x (low_starts l t x low)
same_ahead l t (grow d below more) x most a h k low n =
    let u : Tree = record { colour = d; below = below } in
    let tail : List (ℕ × ℕ) = level_sequence_at l more ++ x in
    let whole : List (ℕ × ℕ) = one_at l u ++ tail in
    let e : level_sequence_at l (grow d below more) ++ x ≡ whole = ap (λ (ps : List (ℕ × ℕ)). (l, d) ∷ ps) (append_assoc (level_sequence_at (suc l) below) (level_sequence_at l more) x) in
    let size : length whole ≤ most = subst (λ (ps : List (ℕ × ℕ)). length ps ≤ most) e n in
    ap (repeats_within most (one_at l t)) e ∙ by_ordering (tree_cmp u t)
    (λ c.
    let unlike : starts_with same_pair whole (one_at l t) ≡ false = by_cases (starts_with same_pair whole (one_at l t))
    (λ y. absurd (not_less (one_at l t) (drop (length (one_at l t)) whole)
    (subst (λ (ps : List (ℕ × ℕ)). sequence_cmp ps (one_at l t) ≡ Less) (starts_out whole (one_at l t) y) (less_before l u t tail (low_rest l more x low) c))))
    (λ n. n) in
    repeats_end most (one_at l t) whole unlike ∙ sym (count_below t (grow d below more) a h c))
    (λ c.
    let P : Tree → Type 0 = λ v. repeats_within most (one_at l v) whole ≡ count_alike v (grow d below more) in
    let back : drop (length (one_at l u)) whole ≡ tail = drop-append_seam (one_at l u) tail in
    let left : length tail ≤ most - 1 = omega (arith, size, length-append (one_at l u) tail) in
    let again = repeats_again most (one_at l u) whole (omega arith) (starts_in (one_at l u) tail) in
    let here : P u = again ∙ ap (λ (ps : List (ℕ × ℕ)). suc (repeats_within (most - 1) (one_at l u) ps)) back
    ∙ ap suc (same_ahead l u more x (most - 1) h.0 h.2 h.1 low left) ∙ rw (isomorphic_refl u) refl in
    subst P (same_tree u t c) here)
    (λ c. let z : is_gt (tree_cmp u t) ≡ true = ap is_gt c in cc)

-- ---- the product over all nodes
first_whole : (l : ℕ) (t : Tree) (tail : List (ℕ × ℕ)) → prefix_len (λ (q : ℕ × ℕ). ltb l q.0) tail ≡ 0 → first_count (one_at l t ++ tail) ≡ length (one_at l t)
first_whole l t tail h =
    let e = greater_run l (suc l) t.below tail (omega arith) in
    omega (arith, e, h, length-level_sequence_at (suc l) t.below)

low_run : (l : ℕ) (f : Forest) (x : List (ℕ × ℕ)) → IsLow l x → prefix_len (λ (q : ℕ × ℕ). ltb l q.0) (level_sequence_at l f ++ x) ≡ 0
low_run l none [] h = refl
low_run l none (p ∷ xs) h = rw (le-ltb l p.0 (omega arith)) refl
low_run l (grow c kids rest) x h = rw (le-ltb l l (omega arith)) refl

later_same_is : (l : ℕ) (t : Tree) (rest : Forest) (x : List (ℕ × ℕ)) → IsOrdered t.below → IsOrdered rest → IsLast t rest → IsLow l x
    → later_same (one_at l t ++ (level_sequence_at l rest ++ x)) ≡ count_alike t rest
later_same_is l t rest x a h k low =
    let tail : List (ℕ × ℕ) = level_sequence_at l rest ++ x in
    let whole : List (ℕ × ℕ) = one_at l t ++ tail in
    let n : first_count whole ≡ length (one_at l t) = first_whole l t tail (low_run l rest x low) in
    let front : take (first_count whole) whole ≡ one_at l t = ap (λ (i : ℕ). take i whole) n ∙ take-append_seam (one_at l t) tail in
    let back : drop (first_count whole) whole ≡ tail = ap (λ (i : ℕ). drop i whole) n ∙ drop-append_seam (one_at l t) tail in
    ap₂ repeats front back ∙ same_ahead l t rest x (length tail) a h k low (omega arith)

classes_forest : (l : ℕ) (f : Forest) (x : List (ℕ × ℕ)) → IsOrdered f → IsLow l x → class_sizes (level_sequence_at l f ++ x) ≡ symmetry_of f * class_sizes x
classes_forest l none x h low = omega arith
classes_forest l (grow c kids rest) x h low =
    let t : Tree = record { colour = c; below = kids } in
    let tail : List (ℕ × ℕ) = level_sequence_at l rest ++ x in
    let e : level_sequence_at l (grow c kids rest) ++ x ≡ one_at l t ++ tail = ap (λ (ps : List (ℕ × ℕ)). (l, c) ∷ ps) (append_assoc (level_sequence_at (suc l) kids) (level_sequence_at l rest) x) in
    let n : later_same (one_at l t ++ tail) ≡ count_alike t rest = later_same_is l t rest x h.0 h.2 h.1 low in
    let a : class_sizes (level_sequence_at (suc l) kids ++ tail) ≡ symmetry_of kids * class_sizes tail = classes_forest (suc l) kids tail h.0 (low_rest l rest x low) in
    let b : class_sizes tail ≡ symmetry_of rest * class_sizes x = classes_forest l rest x h.2 low in
    ap class_sizes e ∙ ap₂ (λ (m k : ℕ). suc m * k) n (a ∙ ap (λ (k : ℕ). symmetry_of kids * k) b) ∙ products (symmetry_of kids) (count_alike t rest) (symmetry_of rest) (class_sizes x)
  where
    products : (s m r y : ℕ) → suc m * (s * (r * y)) ≡ (s * suc m * r) * y
    products s m r y = omega arith

pub code_classes : (s : List (ℕ × ℕ)) → IsCode s → class_sizes s ≡ symmetry (tree_of s)
code_classes s h =
    let t = tree_of s in
    let ordered : IsOrdered t.below = subst (λ (u : Tree). IsOrdered u.below) (code_tree s h) (ordered-sorted t.below) in
    let e : level_sequence_at 1 (grow t.colour t.below none) ++ [] ≡ s = append-nil (level_sequence_at 1 (grow t.colour t.below none)) ∙ append-nil (one_at 1 t) ∙ code_written s h in
    ap class_sizes (sym e) ∙ classes_forest 1 (grow t.colour t.below none) [] (ordered, tt, tt) tt ∙ omega arith

pub code_classes_fit : (s : List (ℕ × ℕ)) → IsCode s → class_sizes s < 2 ^ 64
code_classes_fit s h =
    let w = code_within s h in
    let m = (small_numbers (tree_of s) (omega (arith, w.0, h.small))).0 in
    omega (arith, code_classes s h, m)

pub classes_pos : (ps : List (ℕ × ℕ)) → 0 < class_sizes ps
classes_pos [] = omega arith
classes_pos (p ∷ ps) = mul-pos (omega arith) (classes_pos ps)

-- one more node
classes_more : (ps : List (ℕ × ℕ)) (i : ℕ) → i < length ps → class_sizes (drop i ps) ≡ suc (later_same (drop i ps)) * class_sizes (drop (i + 1) ps)
classes_more ps i h = rw (drop_more ps i (0, 0) h) refl

pub classes_step : (p i total : ℕ) (ps : List (ℕ × ℕ)) → i < length ps → p * class_sizes (drop i ps) ≡ total
    → (p * (later_same (drop i ps) + 1) ≤ total) × ((p * (later_same (drop i ps) + 1)) * class_sizes (drop (i + 1) ps) ≡ total)
classes_step p i total ps h e =
    let n = later_same (drop i ps) + 1 in
    let r = class_sizes (drop (i + 1) ps) in
    let s : suc (later_same (drop i ps)) ≡ n = omega arith in
    let m : p * (n * r) ≡ total = ap (λ (k : ℕ). p * k) (sym (classes_more ps i h ∙ ap (λ (k : ℕ). k * r) s)) ∙ e in
    (left_le p n r total (classes_pos (drop (i + 1) ps)) m, (let z : (p * n) * r ≡ p * (n * r) = omega arith in z) ∙ m)
