-- The loops that put trees in.
use Rattle.std.proofs.Common.{◌≡◌, ℕ, suc, zero, ◌+◌, ◌-◌, ◌≤◌, ◌<◌, true, false, cond, List, [], ◌∷◌, ◌++◌, length, take, drop, get_or, refl, ap, ap₂, subst, sym, ◌∙◌, arith, append_assoc, append-nil, length-drop, reverse, All}
use Rattle.std.proofs.Math.Seq.{take-take, take-append_seam, drop-append_seam}
use Rattle.std.proofs.lemmas.List.{drop-drop, drop_at, drop_all, drop_more, length-take-le, length-reverse, reverse-append, reverse-reverse, take_all, take_at, take_more}
use Rattle.std.proofs.lemmas.List.Elements.{All-nil, All-cons, All-append}
use Rattle.std.proofs.lemmas.Slice.{between_is}
use Rattle.std.specs.Ordering.{is_gt, is_le, ordering_then}
use Rattle.std.specs.declared.cmp.Ordering.{Ordering}
use Rattle.std.specs.declared.cmp.Ordering.TheVariants.{Less, Equal, Greater}
use Rattle.bs_tree.specs.Tree.{Forest, none, grow, nodes}
use Rattle.bs_tree.specs.Canonical.{level_sequence, level_sequence_at, canonical_sequence, pair_cmp, sequence_cmp}
use Rattle.bs_tree.specs.Subtrees.{first_count, subtree_of, IsSubtree}
use Rattle.bs_tree.specs.SubtreeLaws.{length-level_sequence_at}
use Rattle.bs_tree.specs.SortingLaws.{by_cases}
use Rattle.bs_tree.specs.InsertionLaws.{from_level_is, inserted_is}
use Rattle.bs_tree.specs.Insertion.{from_level, greater_first, greater_within, greater_count, moved, first_inserted, inserted}

abbrev Pairs : Type 0
Pairs = List (ℕ × ℕ)

none_greater : (most : ℕ) (t : Pairs) → greater_within most t [] ≡ 0
none_greater zero t = refl
none_greater (suc most) [] = refl
none_greater (suc most) (p ∷ t) = refl

enough : (a b : ℕ) (t ps : Pairs) → length ps ≤ a → length ps ≤ b → greater_within a t ps ≡ greater_within b t ps
enough a b t [] h k = none_greater a t ∙ sym (none_greater b t)
enough zero b t (p ∷ ps) h k = absurd (omega arith)
enough (suc a) zero t (p ∷ ps) h k = absurd (omega arith)
enough (suc a) (suc b) t (p ∷ ps) h k =
    let n = first_count (p ∷ ps) in
    let rest : Pairs = drop n (p ∷ ps) in
    let short : length rest ≤ length ps = omega (arith, length-drop n (p ∷ ps)) in
    ap (λ (m : ℕ). cond (is_gt (sequence_cmp (take n (p ∷ ps)) t)) (n + m) 0) (enough a b t rest (omega arith) (omega arith))

-- one more tree that is passed
pub count_more : (t ps : Pairs) → 0 < greater_first ps t → greater_count t ps ≡ greater_first ps t + greater_count t (drop (greater_first ps t) ps)
count_more t [] h = by_cases (is_gt (sequence_cmp [] t)) (λ k. absurd (let e : 0 < 0 = rw k at h in omega arith)) (λ k. absurd (let e : 0 < 0 = rw k at h in omega arith))
count_more t (p ∷ ps) h =
    let n = first_count (p ∷ ps) in
    let rest : Pairs = drop n (p ∷ ps) in
    by_cases (is_gt (sequence_cmp (take n (p ∷ ps)) t))
    (λ k. rw k (ap (λ (m : ℕ). n + m) (enough (length ps) (length rest) t rest (omega (arith, length-drop n (p ∷ ps))) (omega arith))))
    (λ k. absurd (let e : 0 < 0 = rw k at h in omega arith))

-- the tree that is not passed
pub count_end : (t ps : Pairs) → greater_first ps t ≡ 0 → greater_count t ps ≡ 0
count_end t [] h = refl
count_end t (p ∷ ps) h =
    by_cases (is_gt (sequence_cmp (take (first_count (p ∷ ps)) (p ∷ ps)) t))
    (λ k. absurd (let e : first_count (p ∷ ps) ≡ 0 = rw k at h in omega arith))
    (λ k. rw k refl)

-- ---- the first tree put behind others
pub turned : (ps : Pairs) (n m : ℕ) → (drop n (take (n + m) ps) ++ take n (take (n + m) ps)) ++ drop (n + m) ps ≡ moved n m ps
turned ps n m =
    let later : drop n (take (n + m) ps) ≡ take m (drop n ps) = sym (between_is ps n (n + m)) ∙ ap (λ (i : ℕ). take i (drop n ps)) (omega arith) in
    let first : take n (take (n + m) ps) ≡ take n ps = take-take n (n + m) ps (omega arith) in
    ap₂ (λ (a b : Pairs). (a ++ b) ++ drop (n + m) ps) later first
    ∙ ap (λ (c : Pairs). (take m (drop n ps) ++ take n ps) ++ c) (sym (drop-drop m n ps))
    ∙ append_assoc (take m (drop n ps)) (take n ps) (drop m (drop n ps))

pub moved_is : (ps : Pairs) (n m : ℕ) → n ≡ first_count ps → m ≡ greater_count (take n ps) (drop n ps) → moved n m ps ≡ first_inserted ps
moved_is ps n m e h = ap (λ (k : ℕ). moved n k ps) h ∙ ap (λ (i : ℕ). moved i (greater_count (take i ps) (drop i ps)) ps) e

-- ---- the tree of one more node
pub one_more : (old now new : Pairs) (i k : ℕ) → i < length old → now ≡ take (i + 1) old ++ inserted (drop (i + 1) old) → k ≡ length now - i
    → new ≡ first_inserted (take k (drop i now)) → take i now ++ (new ++ drop k (drop i now)) ≡ take i old ++ inserted (drop i old)
one_more old now new i k lt h size e =
    let front : Pairs = take i old in
    let p = get_or old i (0, 0) in
    let back : Pairs = p ∷ inserted (drop (i + 1) old) in
    let len : length front ≡ i = length-take-le i old (omega arith) in
    let whole : now ≡ front ++ back =
    h ∙ ap (λ (xs : Pairs). xs ++ inserted (drop (i + 1) old)) (take_more old i (0, 0) lt) ∙ append_assoc front (p ∷ []) (inserted (drop (i + 1) old)) in
    let a : take i now ≡ front = ap (take i) whole ∙ take_at front back i len in
    let b : drop i now ≡ back = ap (drop i) whole ∙ drop_at front back i len in
    let fits : length back ≤ k = omega (arith, ap length b, length-drop i now) in
    let nothing : drop k (drop i now) ≡ [] = ap (drop k) b ∙ drop_all k back fits in
    let part : new ≡ first_inserted back = e ∙ ap first_inserted (ap (take k) b ∙ take_all k back fits) in
    ap₂ (λ (xs ys : Pairs). xs ++ ys) a (ap₂ (λ (xs ys : Pairs). xs ++ ys) part nothing ∙ append-nil (first_inserted back))
    ∙ ap (λ (xs : Pairs). front ++ inserted xs) (sym (drop_more old i (0, 0) lt))

-- ---- the levels of a tree
levels_above : (l m : ℕ) (f : Forest) → m ≤ l → l + nodes f ≤ m + 255 → All (λ (p : ℕ × ℕ). (m ≤ p.0) × (p.0 < m + 255)) (level_sequence_at l f)
levels_above l m none k h = All-nil (λ (p : ℕ × ℕ). (m ≤ p.0) × (p.0 < m + 255))
levels_above l m (grow c kids rest) k h =
    let P : ℕ × ℕ → Type 0 = λ p. (m ≤ p.0) × (p.0 < m + 255) in
    All-cons P (l, c) (level_sequence_at (suc l) kids ++ level_sequence_at l rest) (k, omega arith)
    (All-append P (level_sequence_at (suc l) kids) (level_sequence_at l rest) (levels_above (suc l) m kids (omega arith) (omega arith)) (levels_above l m rest k (omega arith)))

pub levels_from : (ps : Pairs) → IsSubtree ps → All (λ (p : ℕ × ℕ). ((get_or ps 0 (0, 0)).0 ≤ p.0) × (p.0 < (get_or ps 0 (0, 0)).0 + 255)) ps
levels_from [] h = absurd (let k = h.some in omega arith)
levels_from (p ∷ ps) h =
    let P : ℕ × ℕ → Type 0 = λ q. (p.0 ≤ q.0) × (q.0 < p.0 + 255) in
    let f = (subtree_of (p ∷ ps)).below in
    let size : nodes f ≡ length ps = sym (length-level_sequence_at (suc p.0) f) ∙ ap length h.shape in
    let small = h.small in
    All-cons P p ps (omega arith, omega arith) (subst (All P) h.shape (levels_above (suc p.0) p.0 f (omega arith) (omega arith)))

pub from_root : (ps : Pairs) → IsSubtree ps → from_level (get_or ps 0 (0, 0)).0 ps ≡ level_sequence (subtree_of ps)
from_root [] h = absurd (let k = h.some in omega arith)
from_root (p ∷ ps) h = from_level_is p ps h

-- the steps of the whole: the levels from 1, then each tree put in
pub canonical_by : (ps empty copied ordered : Pairs) → IsSubtree ps → empty ≡ [] → copied ≡ empty ++ from_level (get_or ps 0 (0, 0)).0 ps → ordered ≡ inserted copied
    → ordered ≡ canonical_sequence (subtree_of ps)
canonical_by ps empty copied ordered h a b c =
    c ∙ ap inserted (b ∙ ap (λ (xs : Pairs). xs ++ from_level (get_or ps 0 (0, 0)).0 ps) a ∙ from_root ps h) ∙ inserted_is (subtree_of ps)

-- ---- a list that is no greater begins with no greater one
then_greater : (o a b : Ordering) → (is_gt a ≡ true → is_gt b ≡ true) → is_gt (ordering_then o a) ≡ true → is_gt (ordering_then o b) ≡ true
then_greater Less a b f h = h
then_greater Equal a b f h = f h
then_greater Greater a b f h = refl

front_greater : (n : ℕ) (ps t : Pairs) → is_gt (sequence_cmp (take n ps) t) ≡ true → is_gt (sequence_cmp ps t) ≡ true
front_greater zero ps [] h = cc
front_greater zero ps (q ∷ t) h = cc
front_greater (suc n) [] t h = h
front_greater (suc n) (p ∷ ps) [] h = refl
front_greater (suc n) (p ∷ ps) (q ∷ t) h = then_greater (pair_cmp p q) (sequence_cmp (take n ps) t) (sequence_cmp ps t) (front_greater n ps t) h

le_not_gt : (o : Ordering) → is_le o ≡ true → is_gt o ≡ false
le_not_gt Less h = refl
le_not_gt Equal h = refl
le_not_gt Greater h = cc

pub none_first : (ps t : Pairs) → is_le (sequence_cmp ps t) ≡ true → 0 ≡ greater_first ps t
none_first ps t h =
    by_cases (is_gt (sequence_cmp (take (first_count ps) ps) t))
    (λ k. let e : is_gt (sequence_cmp ps t) ≡ true = front_greater (first_count ps) ps t k in let f : is_gt (sequence_cmp ps t) ≡ false = le_not_gt (sequence_cmp ps t) h in cc)
    (λ k. rw k refl)

-- three reversals
pub turned_round : (ps : Pairs) (n : ℕ) → n ≤ length ps
    → reverse (take n (reverse (take n ps) ++ drop n ps) ++ reverse (drop n (reverse (take n ps) ++ drop n ps))) ≡ drop n ps ++ take n ps
turned_round ps n h =
    let a : Pairs = reverse (take n ps) in
    let b : Pairs = drop n ps in
    let long : length a ≡ n = omega (arith, length-reverse (take n ps), length-take-le n ps h) in
    let front : take n (a ++ b) ≡ a = ap (λ (i : ℕ). take i (a ++ b)) (sym long) ∙ take-append_seam a b in
    let back : drop n (a ++ b) ≡ b = ap (λ (i : ℕ). drop i (a ++ b)) (sym long) ∙ drop-append_seam a b in
    ap₂ (λ (x y : Pairs). reverse (x ++ reverse y)) front back
    ∙ reverse-append a (reverse b)
    ∙ ap₂ (λ (x y : Pairs). x ++ y) (reverse-reverse b) (reverse-reverse (take n ps))
