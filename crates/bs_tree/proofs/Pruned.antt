-- Pairs that stay where some nodes are cut off.
use Rattle.std.proofs.Common.{◌≡◌, ℕ, suc, zero, ◌+◌, ◌-◌, ◌≤◌, ◌<◌, Bool, true, false, cond, ltb, List, [], ◌∷◌, ◌++◌, length, take, drop, get_or, refl, ap, ap₂, subst, sym, ◌∙◌, arith, append_assoc, append-nil, length-drop}
use Rattle.std.specs.List.{prefix_len}
use Rattle.std.proofs.lemmas.List.{drop-drop, drop-take, length-take-le}
use Rattle.std.proofs.Math.Seq.{drop-cons}
use Rattle.bs_tree.specs.Tree.{Forest, none, grow, Tree, nodes, Coloured}
use Rattle.bs_tree.specs.Canonical.{level_sequence_at}
use Rattle.bs_tree.specs.Subtrees.{subtree_of, tree_at, first_count, IsSubtree}
use Rattle.bs_tree.specs.Pruned.{kept_by, pruned, kept_pairs}
use Rattle.bs_tree.specs.SubtreeLaws.{subtree_at, IsLow, low_rest, run_of, drop_kids, sequence_from, sequence_subtree, subtree_of-sequence, subtree_within}

kept_without : (k : ℕ) (ps : List (ℕ × ℕ)) → kept_pairs k ps [] ≡ []
kept_without k [] = refl
kept_without k (p ∷ ps) = refl

pub kept_skip : (k : ℕ) (ps : List (ℕ × ℕ)) (w : List Bool) → kept_pairs k ps w ≡ kept_pairs 0 (drop k ps) (drop k w)
kept_skip zero ps w = refl
kept_skip (suc k) [] w = refl
kept_skip (suc k) (p ∷ ps) [] = sym (kept_without 0 (drop k ps))
kept_skip (suc k) (p ∷ ps) (b ∷ w) = kept_skip k ps w

-- the first of two runs of letters
take-front : (m n : ℕ) (w : List Bool) → take m (take (m + n) w) ≡ take m w
take-front zero n w = refl
take-front (suc m) n [] = let e : suc m + n ≡ suc (m + n) = omega arith in ap (λ (k : ℕ). take (suc m) (take k [])) e
take-front (suc m) n (b ∷ w) = let e : suc m + n ≡ suc (m + n) = omega arith in ap (λ (k : ℕ). take (suc m) (take k (b ∷ w))) e ∙ ap (λ (u : List Bool). b ∷ u) (take-front m n w)

-- only the letters of its own nodes matter
pub kept_front : (f : Forest) (w : List Bool) → kept_by f (take (nodes f) w) ≡ kept_by f w
kept_front none w = refl
kept_front (grow c kids rest) [] =
    let e : nodes (grow c kids rest) ≡ suc (nodes kids + nodes rest) = omega arith in
    ap (λ (k : ℕ). kept_by (grow c kids rest) (take k [])) e
kept_front (grow c kids rest) (b ∷ w) =
    let m = nodes kids in
    let n = nodes rest in
    let e : nodes (grow c kids rest) ≡ suc (m + n) = omega arith in
    ap (λ (k : ℕ). kept_by (grow c kids rest) (take k (b ∷ w))) e
    ∙ ap₂ (λ (u v : List Bool). cond b (grow c (kept_by kids u) (kept_by rest v)) (kept_by rest v)) (take-front m n w) (drop-take m n w)
    ∙ ap (λ (g : Forest). cond b (grow c (kept_by kids (take m w)) g) g) (kept_front rest (drop m w))

pub kept_sequence : (l : ℕ) (f : Forest) (x : List (ℕ × ℕ)) (w : List Bool) → IsLow l x → nodes f ≤ length w
    → kept_pairs 0 (level_sequence_at l f ++ x) w ≡ level_sequence_at l (kept_by f w) ++ kept_pairs 0 x (drop (nodes f) w)
kept_sequence l none x w low h = refl
kept_sequence l (grow c kids rest) x [] low h = absurd (omega arith)
kept_sequence l (grow c kids rest) x (false ∷ w) low h =
    let m = nodes kids in
    let y = level_sequence_at l rest ++ x in
    let z = level_sequence_at (suc l) kids ++ y in
    let e : nodes (grow c kids rest) ≡ suc (m + nodes rest) = omega arith in
    ap (λ (qs : List (ℕ × ℕ)). kept_pairs 0 ((l, c) ∷ qs) (false ∷ w)) (append_assoc (level_sequence_at (suc l) kids) (level_sequence_at l rest) x)
    ∙ ap (λ (k : ℕ). kept_pairs k z w) (run_of l kids rest x low)
    ∙ kept_skip m z w
    ∙ ap (λ (qs : List (ℕ × ℕ)). kept_pairs 0 qs (drop m w)) (drop_kids (suc l) kids y)
    ∙ kept_sequence l rest x (drop m w) low (omega (arith, length-drop m w))
    ∙ ap (λ (v : List Bool). level_sequence_at l (kept_by rest (drop m w)) ++ kept_pairs 0 x v) (drop-drop (nodes rest) m w ∙ ap (λ (k : ℕ). drop k (false ∷ w)) (sym e))
kept_sequence l (grow c kids rest) x (true ∷ w) low h =
    let m = nodes kids in
    let y = level_sequence_at l rest ++ x in
    let k = kept_by kids (take m w) in
    let r = kept_by rest (drop m w) in
    let e : nodes (grow c kids rest) ≡ suc (m + nodes rest) = omega arith in
    let s = level_sequence_at (suc l) k in
    let t = level_sequence_at l r in
    let u = kept_pairs 0 x (drop (nodes rest) (drop m w)) in
    ap (λ (qs : List (ℕ × ℕ)). (l, c) ∷ kept_pairs 0 qs w) (append_assoc (level_sequence_at (suc l) kids) (level_sequence_at l rest) x)
    ∙ ap (λ (qs : List (ℕ × ℕ)). (l, c) ∷ qs)
    (kept_sequence (suc l) kids y w (low_rest l rest x low) (omega arith)
    ∙ ap₂ (λ (g : Forest) (v : List (ℕ × ℕ)). level_sequence_at (suc l) g ++ v) (sym (kept_front kids w)) (kept_sequence l rest x (drop m w) low (omega (arith, length-drop m w)))
    ∙ sym (append_assoc s t u)
    ∙ ap (λ (v : List Bool). (s ++ t) ++ kept_pairs 0 x v) (drop-drop (nodes rest) m w ∙ ap (λ (i : ℕ). drop i (true ∷ w)) (sym e)))

-- a false letter leaves a whole subtree out
pub kept_cut : (ps : List (ℕ × ℕ)) (w : List Bool) (i n : ℕ) → i < length ps → i < length w → get_or w i false ≡ false → n ≡ first_count (drop i ps)
    → kept_pairs 0 (drop i ps) (drop i w) ≡ kept_pairs 0 (drop (i + n) ps) (drop (i + n) w)
kept_cut ps w i n h k e count =
    let p = get_or ps i (0, 0) in
    let qs = drop (suc i) ps in
    let v = drop (suc i) w in
    let here : drop i ps ≡ p ∷ qs = drop-cons ps i (0, 0) h in
    let r = prefix_len (λ (q : ℕ × ℕ). ltb p.0 q.0) qs in
    let c : n ≡ suc r = count ∙ ap first_count here in
    let z : suc i + r ≡ i + n = omega arith in
    ap₂ (kept_pairs 0) here (drop-cons w i false k ∙ ap (λ (b : Bool). b ∷ v) e)
    ∙ kept_skip r qs v
    ∙ ap₂ (kept_pairs 0) (drop-drop r (suc i) ps ∙ ap (λ (j : ℕ). drop j ps) z) (drop-drop r (suc i) w ∙ ap (λ (j : ℕ). drop j w) z)

-- a true letter keeps the node
pub kept_more : (ps : List (ℕ × ℕ)) (w : List Bool) (i : ℕ) → i < length ps → i < length w → get_or w i false ≡ true
    → kept_pairs 0 (drop i ps) (drop i w) ≡ get_or ps i (0, 0) ∷ kept_pairs 0 (drop (i + 1) ps) (drop (i + 1) w)
kept_more ps w i h k e =
    let z : suc i ≡ i + 1 = omega arith in
    ap₂ (kept_pairs 0) (drop-cons ps i (0, 0) h) (drop-cons w i false k ∙ ap (λ (b : Bool). b ∷ drop (suc i) w) e)
    ∙ ap (λ (j : ℕ). get_or ps i (0, 0) ∷ kept_pairs 0 (drop j ps) (drop j w)) z

-- ---- within the bounds
pub kept_within : (f : Forest) (w : List Bool) → Coloured 4 f → (nodes (kept_by f w) ≤ nodes f) × Coloured 4 (kept_by f w)
kept_within none w h = (omega arith, tt)
kept_within (grow c kids rest) [] h = (omega arith, tt)
kept_within (grow c kids rest) (false ∷ w) h = let r = kept_within rest (drop (nodes kids) w) h.2 in (omega (arith, r.0), r.1)
kept_within (grow c kids rest) (true ∷ w) h =
    let k = kept_within kids (take (nodes kids) w) h.1 in
    let r = kept_within rest (drop (nodes kids) w) h.2 in
    (omega (arith, k.0, r.0), (h.0, k.1, r.1))

pub record IsPruned (ps : List (ℕ × ℕ)) (w : List Bool) (qs : List (ℕ × ℕ)) : Type 0 where
  pub subtree : IsSubtree qs
  pub tree : subtree_of qs ≡ pruned (subtree_of ps) w

-- the root and the pairs that stay are the sequence of the pruned tree
pub pruned_pairs : (ps : List (ℕ × ℕ)) (w : List Bool) → IsSubtree ps → length ps ≤ suc (length w) → IsPruned ps w (get_or ps 0 (0, 0) ∷ kept_pairs 0 (drop 1 ps) w)
pruned_pairs [] w h n = absurd (let k = h.some in omega arith)
pruned_pairs (p ∷ ps) w h n =
    let t = subtree_of (p ∷ ps) in
    let inside = subtree_within (p ∷ ps) h in
    let small = h.small in
    let k = kept_within t.below w inside.2 in
    let u = pruned t w in
    let e : p ∷ kept_pairs 0 ps w ≡ sequence_from p.0 u =
    ap (λ (qs : List (ℕ × ℕ)). p ∷ kept_pairs 0 qs w) (sym h.shape ∙ sym (append-nil (level_sequence_at (suc p.0) t.below)))
    ∙ ap (λ (qs : List (ℕ × ℕ)). p ∷ qs) (kept_sequence (suc p.0) t.below [] w tt (omega (arith, inside.0)) ∙ append-nil _) in
    record {
      subtree = subst IsSubtree (sym e) (sequence_subtree p.0 u (inside.1, k.1) (omega (arith, k.0, inside.0)));
      tree = ap subtree_of e ∙ subtree_of-sequence p.0 u;
    }

-- ---- the subtree of a node
pub pruned_at : (ps : List (ℕ × ℕ)) (w : List Bool) (i e : ℕ) (first qs : List (ℕ × ℕ)) (u : List Bool) → IsSubtree ps → i < length ps → length ps ≤ length w → e ≡ i + first_count (drop i ps)
    → first ≡ take (e - i) (drop i ps) → u ≡ take (e - i) (drop i w) → qs ≡ get_or first 0 (0, 0) ∷ kept_pairs 0 (drop 1 first) (drop 1 u)
    → IsSubtree qs × (subtree_of qs ≡ pruned (tree_at ps i) (drop (i + 1) w))
pruned_at ps w i e first qs u h lt k end first_is u_is qs_is =
    let a = subtree_at ps i h lt in
    let t = tree_at ps i in
    let m = nodes t.below in
    let order_is = a.order_is in
    let fits = a.fits in
    let size : e - i ≡ suc m = omega arith in
    let size' : e - i ≡ first_count (drop i ps) = omega arith in
    let same : first ≡ take (first_count (drop i ps)) (drop i ps) = first_is ∙ ap (λ (n : ℕ). take n (drop i ps)) size' in
    let split : suc m ≡ 1 + m = omega arith in
    let letters : drop 1 u ≡ take m (drop (i + 1) w) =
    ap (λ (v : List Bool). drop 1 v) (u_is ∙ ap (λ (n : ℕ). take n (drop i w)) (size ∙ split)) ∙ drop-take 1 m (drop i w) ∙ ap (take m) (drop-drop 1 i w) in
    let long : length first ≤ suc (length (drop 1 u)) = omega (
      arith,
      ap length same,
      length-take-le (first_count (drop i ps)) (drop i ps) (omega (arith, length-drop i ps)),
      ap length letters,
      length-take-le m (drop (i + 1) w) (omega (arith, length-drop (i + 1) w)),
    ) in
    let r = pruned_pairs first (drop 1 u) (subst IsSubtree (sym same) a.subtree) long in
    let tree : pruned (subtree_of first) (drop 1 u) ≡ pruned t (drop (i + 1) w) =
    ap₂ (λ (ps : List (ℕ × ℕ)) (v : List Bool). pruned (subtree_of ps) v) same letters
    ∙ ap (λ (f : Forest). let v : Tree = record { colour = t.colour; below = f } in v) (kept_front t.below (drop (i + 1) w)) in
    (subst IsSubtree (sym qs_is) r.subtree, ap subtree_of qs_is ∙ r.tree ∙ tree)
