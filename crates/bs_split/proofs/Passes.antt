-- The passes over pairs and letters, and what they find of a list of trees.
use Rattle.std.proofs.Common.{◌≡◌, ℕ, suc, zero, ◌+◌, ◌<◌, ◌≤◌, List, [], ◌∷◌, ◌++◌, map, take, drop, length, get_or, Bool, true, false, cond, ltb, Option, Some, None, option_map, arith, refl, sym, ◌∙◌, ap, ap₂, append_assoc, length-drop}
use Rattle.std.specs.List.{prefix_len}
use Rattle.std.proofs.lemmas.List.{drop-drop, drop-take, map-append}
use Rattle.std.proofs.Math.Seq.{drop-cons}
use Rattle.bs_tree.specs.Tree.{Forest, none, grow, Tree, nodes}
use Rattle.bs_tree.specs.Canonical.{level_sequence_at, canonical_sequence}
use Rattle.bs_tree.specs.Subtrees.{tree_at, first_count, subtree_of}
use Rattle.bs_tree.specs.Pruned.{kept_by}
use Rattle.bs_tree.specs.SubtreeLaws.{IsLow, low_rest, run_of, take_kids, drop_kids, subtree_of-sequence}
use Rattle.bs_split.specs.Splitting.{Cuts, cut_off, keep}
use Rattle.bs_split.specs.Words.{cuts_by}
use Rattle.bs_split.specs.Walk.{or_else, last_cut, cut_pairs, last_pairs}

-- ---- letters
take-front : (m n : ℕ) (w : List Bool) → take m (take (m + n) w) ≡ take m w
take-front zero n w = refl
take-front (suc m) n [] = let e : suc m + n ≡ suc (m + n) = omega arith in ap (λ (k : ℕ). take (suc m) (take k [])) e
take-front (suc m) n (b ∷ w) = let e : suc m + n ≡ suc (m + n) = omega arith in ap (λ (k : ℕ). take (suc m) (take k (b ∷ w))) e ∙ ap (λ (u : List Bool). b ∷ u) (take-front m n w)

choose : ℕ → Forest → Bool → Cuts → Cuts → Cuts
choose c kids b k l = cond b (keep c k l) (cut_off (record { colour = c; below = kids }) l)

-- only the letters of its own nodes matter
pub cuts_front : (f : Forest) (w : List Bool) → cuts_by f (take (nodes f) w) ≡ cuts_by f w
unfolding choose
cuts_front none w = refl
cuts_front (grow c kids rest) [] =
    let e : nodes (grow c kids rest) ≡ suc (nodes kids + nodes rest) = omega arith in
    ap (λ (k : ℕ). cuts_by (grow c kids rest) (take k [])) e
cuts_front (grow c kids rest) (b ∷ w) =
    let m = nodes kids in
    let n = nodes rest in
    let e : nodes (grow c kids rest) ≡ suc (m + n) = omega arith in
    ap (λ (k : ℕ). cuts_by (grow c kids rest) (take k (b ∷ w))) e
    ∙ ap₂ (λ (u v : List Bool). choose c kids b (cuts_by kids u) (cuts_by rest v)) (take-front m n w) (drop-take m n w)
    ∙ ap (choose c kids b (cuts_by kids (take m w))) (cuts_front rest (drop m w))

-- ---- what is kept
keeps : ℕ → Bool → Forest → Forest → Forest
keeps c b k l = cond b (grow c k l) l

pub cuts_kept : (f : Forest) (w : List Bool) → (cuts_by f w).kept ≡ kept_by f w
cuts_kept none w = refl
cuts_kept (grow c kids rest) [] = refl
cuts_kept (grow c kids rest) (true ∷ w) = ap₂ (grow c) (cuts_kept kids (take (nodes kids) w)) (cuts_kept rest (drop (nodes kids) w))
cuts_kept (grow c kids rest) (false ∷ w) = cuts_kept rest (drop (nodes kids) w)

-- ---- what is cut off
cut_without : (k : ℕ) (ps : List (ℕ × ℕ)) → cut_pairs k ps [] ≡ []
cut_without k [] = refl
cut_without k (p ∷ ps) = refl

cut_skip : (k : ℕ) (ps : List (ℕ × ℕ)) (w : List Bool) → cut_pairs k ps w ≡ cut_pairs 0 (drop k ps) (drop k w)
cut_skip zero ps w = refl
cut_skip (suc k) [] w = refl
cut_skip (suc k) (p ∷ ps) [] = sym (cut_without 0 (drop k ps))
cut_skip (suc k) (p ∷ ps) (b ∷ w) = cut_skip k ps w

-- the tree that the list begins with
pub tree_first : (l c : ℕ) (kids rest : Forest) (x : List (ℕ × ℕ)) → IsLow l x
    → tree_at ((l, c) ∷ (level_sequence_at (suc l) kids ++ (level_sequence_at l rest ++ x))) 0 ≡ record { colour = c; below = kids }
tree_first l c kids rest x low =
    let y = level_sequence_at l rest ++ x in
    ap (λ (n : ℕ). subtree_of (take (suc n) ((l, c) ∷ (level_sequence_at (suc l) kids ++ y)))) (run_of l kids rest x low)
    ∙ ap (λ (qs : List (ℕ × ℕ)). subtree_of ((l, c) ∷ qs)) (take_kids (suc l) kids y)
    ∙ subtree_of-sequence l (record { colour = c; below = kids })

pub cut_sequence : (l : ℕ) (f : Forest) (x : List (ℕ × ℕ)) (w : List Bool) → IsLow l x → nodes f ≤ length w
    → cut_pairs 0 (level_sequence_at l f ++ x) w ≡ map canonical_sequence (cuts_by f w).cut ++ cut_pairs 0 x (drop (nodes f) w)
cut_sequence l none x w low h = refl
cut_sequence l (grow c kids rest) x [] low h = absurd (omega arith)
cut_sequence l (grow c kids rest) x (false ∷ w) low h =
    let m = nodes kids in
    let y = level_sequence_at l rest ++ x in
    let z = level_sequence_at (suc l) kids ++ y in
    let e : nodes (grow c kids rest) ≡ suc (m + nodes rest) = omega arith in
    let t : Tree = record { colour = c; below = kids } in
    let later : cut_pairs m z w ≡ map canonical_sequence (cuts_by rest (drop m w)).cut ++ cut_pairs 0 x (drop (nodes (grow c kids rest)) (false ∷ w)) =
    cut_skip m z w
    ∙ ap (λ (qs : List (ℕ × ℕ)). cut_pairs 0 qs (drop m w)) (drop_kids (suc l) kids y)
    ∙ cut_sequence l rest x (drop m w) low (omega (arith, length-drop m w))
    ∙ ap (λ (v : List Bool). map canonical_sequence (cuts_by rest (drop m w)).cut ++ cut_pairs 0 x v) (drop-drop (nodes rest) m w ∙ ap (λ (k : ℕ). drop k (false ∷ w)) (sym e)) in
    ap (λ (qs : List (ℕ × ℕ)). cut_pairs 0 ((l, c) ∷ qs) (false ∷ w)) (append_assoc (level_sequence_at (suc l) kids) (level_sequence_at l rest) x)
    ∙ ap (λ (k : ℕ). canonical_sequence (tree_at ((l, c) ∷ z) 0) ∷ cut_pairs k z w) (run_of l kids rest x low)
    ∙ ap₂ (λ (u : Tree) (cs : List (List (ℕ × ℕ))). canonical_sequence u ∷ cs) (tree_first l c kids rest x low) later
cut_sequence l (grow c kids rest) x (true ∷ w) low h =
    let m = nodes kids in
    let y = level_sequence_at l rest ++ x in
    let e : nodes (grow c kids rest) ≡ suc (m + nodes rest) = omega arith in
    let k = (cuts_by kids (take m w)).cut in
    let r = (cuts_by rest (drop m w)).cut in
    let u = cut_pairs 0 x (drop (nodes rest) (drop m w)) in
    ap (λ (qs : List (ℕ × ℕ)). cut_pairs 0 qs w) (append_assoc (level_sequence_at (suc l) kids) (level_sequence_at l rest) x)
    ∙ cut_sequence (suc l) kids y w (low_rest l rest x low) (omega arith)
    ∙ ap₂ (λ (s : Cuts) (v : List (List (ℕ × ℕ))). map canonical_sequence s.cut ++ v) (sym (cuts_front kids w)) (cut_sequence l rest x (drop m w) low (omega (arith, length-drop m w)))
    ∙ sym (append_assoc (map canonical_sequence k) (map canonical_sequence r) u)
    ∙ ap₂ (λ (cs : List (List (ℕ × ℕ))) (v : List Bool). cs ++ cut_pairs 0 x v) (sym (map-append canonical_sequence k r)) (drop-drop (nodes rest) m w ∙ ap (λ (i : ℕ). drop i (true ∷ w)) (sym e))

-- ---- the last cut
last_without : (k i : ℕ) (o : Option ℕ) (ps : List (ℕ × ℕ)) → last_pairs k i o ps [] ≡ o
last_without k i o [] = refl
last_without k i o (p ∷ ps) = refl

last_skip : (k i : ℕ) (o : Option ℕ) (ps : List (ℕ × ℕ)) (w : List Bool) → last_pairs k i o ps w ≡ last_pairs 0 (k + i) o (drop k ps) (drop k w)
last_skip zero i o ps w = let e : zero + i ≡ i = omega arith in ap (λ (j : ℕ). last_pairs 0 j o ps w) (sym e)
last_skip (suc k) i o [] w = refl
last_skip (suc k) i o (p ∷ ps) [] = sym (last_without 0 (suc k + i) o (drop k ps))
last_skip (suc k) i o (p ∷ ps) (b ∷ w) = let e : k + suc i ≡ suc k + i = omega arith in last_skip k (suc i) o ps w ∙ ap (λ (j : ℕ). last_pairs 0 j o (drop k ps) (drop k w)) e

-- a place within a list of trees that begins at place i
abbrev pub placed : ℕ → Option ℕ → Option ℕ → Option ℕ
placed i None o = o
placed i (Some j) o = Some (i + j)

placed_else : (i m : ℕ) (r o other : Option ℕ) → placed (suc i + m) r (placed i other o) ≡ placed i (or_else (option_map (λ j. suc (m + j)) r) other) o
placed_else i m None o other = refl
placed_else i m (Some j) o other = let e : (suc i + m) + j ≡ i + suc (m + j) = omega arith in ap (λ (n : ℕ). Some n) e

placed_suc : (i : ℕ) (r o : Option ℕ) → placed (suc i) r o ≡ placed i (option_map (λ j. suc j) r) o
placed_suc i None o = refl
placed_suc i (Some j) o = let e : suc i + j ≡ i + suc j = omega arith in ap (λ (n : ℕ). Some n) e

last_front : (f : Forest) (w : List Bool) → last_cut f (take (nodes f) w) ≡ last_cut f w
last_front none w = refl
last_front (grow c kids rest) [] =
    let e : nodes (grow c kids rest) ≡ suc (nodes kids + nodes rest) = omega arith in
    ap (λ (k : ℕ). last_cut (grow c kids rest) (take k [])) e
last_front (grow c kids rest) (b ∷ w) =
    let m = nodes kids in
    let n = nodes rest in
    let e : nodes (grow c kids rest) ≡ suc (m + n) = omega arith in
    let put : Option ℕ → List Bool → Option ℕ = λ r u. or_else (option_map (λ i. suc (m + i)) r) (cond b (option_map (λ i. suc i) (last_cut kids u)) (Some 0)) in
    ap (λ (k : ℕ). last_cut (grow c kids rest) (take k (b ∷ w))) e
    ∙ ap₂ (λ (v u : List Bool). put (last_cut rest v) u) (drop-take m n w) (take-front m n w)
    ∙ ap (λ (r : Option ℕ). put r (take m w)) (last_front rest (drop m w))

pub last_sequence : (l i : ℕ) (o : Option ℕ) (f : Forest) (x : List (ℕ × ℕ)) (w : List Bool) → IsLow l x → nodes f ≤ length w
    → last_pairs 0 i o (level_sequence_at l f ++ x) w ≡ last_pairs 0 (i + nodes f) (placed i (last_cut f w) o) x (drop (nodes f) w)
last_sequence l i o none x w low h = let e : i + 0 ≡ i = omega arith in ap (λ (j : ℕ). last_pairs 0 j o x w) (sym e)
last_sequence l i o (grow c kids rest) x [] low h = absurd (omega arith)
last_sequence l i o (grow c kids rest) x (false ∷ w) low h =
    let m = nodes kids in
    let y = level_sequence_at l rest ++ x in
    let z = level_sequence_at (suc l) kids ++ y in
    let e : nodes (grow c kids rest) ≡ suc (m + nodes rest) = omega arith in
    let r = last_cut rest (drop m w) in
    let at : m + suc i ≡ suc i + m = omega arith in
    let end : (suc i + m) + nodes rest ≡ i + nodes (grow c kids rest) = omega arith in
    let here : i ≡ i + 0 = omega arith in
    ap (λ (qs : List (ℕ × ℕ)). last_pairs 0 i o ((l, c) ∷ qs) (false ∷ w)) (append_assoc (level_sequence_at (suc l) kids) (level_sequence_at l rest) x)
    ∙ ap (λ (k : ℕ). last_pairs k (suc i) (Some i) z w) (run_of l kids rest x low)
    ∙ last_skip m (suc i) (Some i) z w
    ∙ ap₂ (λ (j : ℕ) (qs : List (ℕ × ℕ)). last_pairs 0 j (Some i) qs (drop m w)) at (drop_kids (suc l) kids y)
    ∙ last_sequence l (suc i + m) (Some i) rest x (drop m w) low (omega (arith, length-drop m w))
    ∙ ap (λ (a : Option ℕ). last_pairs 0 ((suc i + m) + nodes rest) a x (drop (nodes rest) (drop m w)))
    (ap (λ (j : ℕ). placed (suc i + m) r (Some j)) here ∙ placed_else i m r o (Some 0))
    ∙ ap₂ (λ (j : ℕ) (v : List Bool). last_pairs 0 j (placed i (or_else (option_map (λ j. suc (m + j)) r) (Some 0)) o) x v) end (drop-drop (nodes rest) m w ∙ ap (λ (k : ℕ). drop k (false ∷ w)) (sym e))
last_sequence l i o (grow c kids rest) x (true ∷ w) low h =
    let m = nodes kids in
    let y = level_sequence_at l rest ++ x in
    let e : nodes (grow c kids rest) ≡ suc (m + nodes rest) = omega arith in
    let k = last_cut kids (take m w) in
    let r = last_cut rest (drop m w) in
    let inner = option_map (λ j. suc j) k in
    let end : (suc i + m) + nodes rest ≡ i + nodes (grow c kids rest) = omega arith in
    ap (λ (qs : List (ℕ × ℕ)). last_pairs 0 (suc i) o qs w) (append_assoc (level_sequence_at (suc l) kids) (level_sequence_at l rest) x)
    ∙ last_sequence (suc l) (suc i) o kids y w (low_rest l rest x low) (omega arith)
    ∙ ap (λ (a : Option ℕ). last_pairs 0 (suc i + m) (placed (suc i) a o) y (drop m w)) (sym (last_front kids w))
    ∙ ap (λ (a : Option ℕ). last_pairs 0 (suc i + m) a y (drop m w)) (placed_suc i k o)
    ∙ last_sequence l (suc i + m) (placed i inner o) rest x (drop m w) low (omega (arith, length-drop m w))
    ∙ ap (λ (a : Option ℕ). last_pairs 0 ((suc i + m) + nodes rest) a x (drop (nodes rest) (drop m w))) (placed_else i m r o inner)
    ∙ ap₂ (λ (j : ℕ) (v : List Bool). last_pairs 0 j (placed i (or_else (option_map (λ j. suc (m + j)) r) inner) o) x v) end (drop-drop (nodes rest) m w ∙ ap (λ (k : ℕ). drop k (true ∷ w)) (sym e))

-- ---- one step of a pass
pub run_behind : (ps : List (ℕ × ℕ)) (i e : ℕ) → i < length ps → e ≡ i + first_count (drop i ps)
    → e ≡ suc i + prefix_len (λ (q : ℕ × ℕ). ltb (get_or ps i (0, 0)).0 q.0) (drop (suc i) ps)
run_behind ps i e h end = omega (arith, end, ap first_count (drop-cons ps i (0, 0) h))

pub cut_more : (ps : List (ℕ × ℕ)) (w : List Bool) (i : ℕ) → i < length ps → i < length w → get_or w i false ≡ true
    → cut_pairs 0 (drop i ps) (drop i w) ≡ cut_pairs 0 (drop (i + 1) ps) (drop (i + 1) w)
cut_more ps w i h k e =
    let z : suc i ≡ i + 1 = omega arith in
    ap₂ (cut_pairs 0) (drop-cons ps i (0, 0) h) (drop-cons w i false k ∙ ap (λ (b : Bool). b ∷ drop (suc i) w) e)
    ∙ ap (λ (j : ℕ). cut_pairs 0 (drop j ps) (drop j w)) z

pub cut_one : (ps : List (ℕ × ℕ)) (w : List Bool) (i e : ℕ) → i < length ps → i < length w → get_or w i false ≡ false → e ≡ i + first_count (drop i ps)
    → cut_pairs 0 (drop i ps) (drop i w) ≡ canonical_sequence (tree_at ps i) ∷ cut_pairs 0 (drop e ps) (drop e w)
cut_one ps w i e h k b end =
    let p = get_or ps i (0, 0) in
    let qs = drop (suc i) ps in
    let v = drop (suc i) w in
    let here : drop i ps ≡ p ∷ qs = drop-cons ps i (0, 0) h in
    let r = prefix_len (λ (q : ℕ × ℕ). ltb p.0 q.0) qs in
    let z : suc i + r ≡ e = sym (run_behind ps i e h end) in
    let tree : tree_at (p ∷ qs) 0 ≡ tree_at ps i = ap (λ (ss : List (ℕ × ℕ)). tree_at ss 0) (sym here) in
    ap₂ (cut_pairs 0) here (drop-cons w i false k ∙ ap (λ (a : Bool). a ∷ v) b)
    ∙ ap₂ (λ (t : Tree) (cs : List (List (ℕ × ℕ))). canonical_sequence t ∷ cs) tree
    (cut_skip r qs v ∙ ap₂ (cut_pairs 0) (drop-drop r (suc i) ps ∙ ap (λ (j : ℕ). drop j ps) z) (drop-drop r (suc i) w ∙ ap (λ (j : ℕ). drop j w) z))

pub last_more : (ps : List (ℕ × ℕ)) (w : List Bool) (i : ℕ) (o : Option ℕ) → i < length ps → i < length w → get_or w i false ≡ true
    → last_pairs 0 i o (drop i ps) (drop i w) ≡ last_pairs 0 (i + 1) o (drop (i + 1) ps) (drop (i + 1) w)
last_more ps w i o h k e =
    let z : suc i ≡ i + 1 = omega arith in
    ap₂ (last_pairs 0 i o) (drop-cons ps i (0, 0) h) (drop-cons w i false k ∙ ap (λ (b : Bool). b ∷ drop (suc i) w) e)
    ∙ ap (λ (j : ℕ). last_pairs 0 j o (drop j ps) (drop j w)) z

pub last_one : (ps : List (ℕ × ℕ)) (w : List Bool) (i e : ℕ) (o : Option ℕ) → i < length ps → i < length w → get_or w i false ≡ false → e ≡ i + first_count (drop i ps)
    → last_pairs 0 i o (drop i ps) (drop i w) ≡ last_pairs 0 e (Some i) (drop e ps) (drop e w)
last_one ps w i e o h k b end =
    let p = get_or ps i (0, 0) in
    let qs = drop (suc i) ps in
    let v = drop (suc i) w in
    let r = prefix_len (λ (q : ℕ × ℕ). ltb p.0 q.0) qs in
    let z : suc i + r ≡ e = sym (run_behind ps i e h end) in
    let z' : r + suc i ≡ e = omega (arith, z) in
    ap₂ (last_pairs 0 i o) (drop-cons ps i (0, 0) h) (drop-cons w i false k ∙ ap (λ (a : Bool). a ∷ v) b)
    ∙ last_skip r (suc i) (Some i) qs v
    ∙ ap (λ (j : ℕ). last_pairs 0 j (Some i) (drop r qs) (drop r v)) z'
    ∙ ap₂ (last_pairs 0 e (Some i)) (drop-drop r (suc i) ps ∙ ap (λ (j : ℕ). drop j ps) z) (drop-drop r (suc i) w ∙ ap (λ (j : ℕ). drop j w) z)
