-- The pass over pairs and letters for the parts, and what it finds of a list of trees.
use Rattle.std.proofs.Common.{◌≡◌, ℕ, suc, ◌+◌, ◌<◌, ◌≤◌, List, [], ◌∷◌, ◌++◌, map, take, drop, length, get_or, Bool, true, false, cond, arith, refl, sym, ◌∙◌, ap, ap₂, append_assoc, length-drop}
use Rattle.std.proofs.lemmas.List.{drop-drop, drop-take, map-append}
use Rattle.std.proofs.Math.Seq.{drop-cons}
use Rattle.bs_tree.specs.Tree.{Forest, none, grow, Tree, nodes}
use Rattle.bs_tree.specs.Canonical.{level_sequence_at, canonical_sequence}
use Rattle.bs_tree.specs.Subtrees.{tree_at, subtree_of}
use Rattle.bs_tree.specs.Pruned.{kept_by, pruned}
use Rattle.bs_tree.specs.SubtreeLaws.{IsLow, low_rest, run_of, take_kids, subtree_of-sequence}
use Rattle.bs_part.specs.Partition.{node, Pieces, keep_edge, cut_edge}
use Rattle.bs_part.specs.Words.{pieces_by}
use Rattle.bs_part.specs.Walk.{part_pairs}
use Rattle.bs_part.proofs.Lists.{take-front}

abbrev edge : ℕ → Bool → Pieces → Pieces → Pieces
edge c b k later = cond b (keep_edge c k later) (cut_edge c k later)

-- only the letters of its own nodes matter
pub pieces_front : (f : Forest) (w : List Bool) → pieces_by f (take (nodes f) w) ≡ pieces_by f w
pieces_front none w = refl
pieces_front (grow c kids rest) [] =
    let e : nodes (grow c kids rest) ≡ suc (nodes kids + nodes rest) = omega arith in
    ap (λ (k : ℕ). pieces_by (grow c kids rest) (take k [])) e
pieces_front (grow c kids rest) (b ∷ w) =
    let m = nodes kids in
    let n = nodes rest in
    let e : nodes (grow c kids rest) ≡ suc (m + n) = omega arith in
    ap (λ (k : ℕ). pieces_by (grow c kids rest) (take k (b ∷ w))) e
    ∙ ap₂ (λ (u v : List Bool). edge c b (pieces_by kids u) (pieces_by rest v)) (take-front m n w) (drop-take m n w)
    ∙ ap (edge c b (pieces_by kids (take m w))) (pieces_front rest (drop m w))

-- what is joined is what stays where the nodes of cut edges go, with all below them
pub pieces_joined : (f : Forest) (w : List Bool) → (pieces_by f w).joined ≡ kept_by f w
pieces_joined none w = refl
pieces_joined (grow c kids rest) [] = refl
pieces_joined (grow c kids rest) (true ∷ w) = ap₂ (grow c) (pieces_joined kids (take (nodes kids) w)) (pieces_joined rest (drop (nodes kids) w))
pieces_joined (grow c kids rest) (false ∷ w) = pieces_joined rest (drop (nodes kids) w)

pub part_pruned : (t : Tree) (w : List Bool) → pruned t w ≡ node t.colour (pieces_by t.below w).joined
part_pruned t w = ap (node t.colour) (sym (pieces_joined t.below w))

-- the tree that the list begins with
pub tree_first : (l c : ℕ) (kids rest : Forest) (x : List (ℕ × ℕ)) → IsLow l x
    → tree_at ((l, c) ∷ (level_sequence_at (suc l) kids ++ (level_sequence_at l rest ++ x))) 0 ≡ record { colour = c; below = kids }
tree_first l c kids rest x low =
    let y = level_sequence_at l rest ++ x in
    ap (λ (n : ℕ). subtree_of (take (suc n) ((l, c) ∷ (level_sequence_at (suc l) kids ++ y)))) (run_of l kids rest x low)
    ∙ ap (λ (qs : List (ℕ × ℕ)). subtree_of ((l, c) ∷ qs)) (take_kids (suc l) kids y)
    ∙ subtree_of-sequence l (record { colour = c; below = kids })

-- the parts of the children and of the later trees, as the pass finds them
join_parts : (b : Bool) (c : ℕ) (kids rest : Forest) (y x : List (ℕ × ℕ)) (w : List Bool) (found : List (List (ℕ × ℕ)))
    → found ≡ map canonical_sequence (pieces_by kids w).parts ++ part_pairs y (drop (nodes kids) w)
    → part_pairs y (drop (nodes kids) w) ≡ map canonical_sequence (pieces_by rest (drop (nodes kids) w)).parts ++ part_pairs x (drop (nodes rest) (drop (nodes kids) w))
    → found ≡ map canonical_sequence ((pieces_by kids (take (nodes kids) w)).parts ++ (pieces_by rest (drop (nodes kids) w)).parts) ++ part_pairs x (drop (nodes (grow c kids rest)) (b ∷ w))
join_parts b c kids rest y x w found e1 e2 =
    let m = nodes kids in
    let e : nodes (grow c kids rest) ≡ suc (m + nodes rest) = omega arith in
    let k = (pieces_by kids (take m w)).parts in
    let r = (pieces_by rest (drop m w)).parts in
    let u = part_pairs x (drop (nodes rest) (drop m w)) in
    e1
    ∙ ap₂ (λ (p : Pieces) (v : List (List (ℕ × ℕ))). map canonical_sequence p.parts ++ v) (sym (pieces_front kids w)) e2
    ∙ sym (append_assoc (map canonical_sequence k) (map canonical_sequence r) u)
    ∙ ap₂ (λ (cs : List (List (ℕ × ℕ))) (v : List Bool). cs ++ part_pairs x v) (sym (map-append canonical_sequence k r)) (drop-drop (nodes rest) m w ∙ ap (λ (i : ℕ). drop i (b ∷ w)) (sym e))

pub part_sequence : (l : ℕ) (f : Forest) (x : List (ℕ × ℕ)) (w : List Bool) → IsLow l x → nodes f ≤ length w
    → part_pairs (level_sequence_at l f ++ x) w ≡ map canonical_sequence (pieces_by f w).parts ++ part_pairs x (drop (nodes f) w)
part_sequence l none x w low h = refl
part_sequence l (grow c kids rest) x [] low h = absurd (omega arith)
part_sequence l (grow c kids rest) x (true ∷ w) low h =
    let m = nodes kids in
    let y = level_sequence_at l rest ++ x in
    ap (λ (qs : List (ℕ × ℕ)). part_pairs qs w) (append_assoc (level_sequence_at (suc l) kids) (level_sequence_at l rest) x)
    ∙ join_parts true c kids rest y x w (part_pairs (level_sequence_at (suc l) kids ++ y) w)
    (part_sequence (suc l) kids y w (low_rest l rest x low) (omega arith))
    (part_sequence l rest x (drop m w) low (omega (arith, length-drop m w)))
part_sequence l (grow c kids rest) x (false ∷ w) low h =
    let m = nodes kids in
    let y = level_sequence_at l rest ++ x in
    let z = level_sequence_at (suc l) kids ++ y in
    let part : pruned (tree_at ((l, c) ∷ z) 0) w ≡ node c (pieces_by kids (take m w)).joined =
    ap (λ (t : Tree). pruned t w) (tree_first l c kids rest x low) ∙ part_pruned (node c kids) w
    ∙ ap (λ (p : Pieces). node c p.joined) (sym (pieces_front kids w)) in
    ap (λ (qs : List (ℕ × ℕ)). part_pairs ((l, c) ∷ qs) (false ∷ w)) (append_assoc (level_sequence_at (suc l) kids) (level_sequence_at l rest) x)
    ∙ ap₂ (λ (t : Tree) (cs : List (List (ℕ × ℕ))). canonical_sequence t ∷ cs) part
    (join_parts false c kids rest y x w (part_pairs z w)
    (part_sequence (suc l) kids y w (low_rest l rest x low) (omega arith))
    (part_sequence l rest x (drop m w) low (omega (arith, length-drop m w))))

-- ---- one step of the pass
pub part_more : (ps : List (ℕ × ℕ)) (w : List Bool) (i : ℕ) → i < length ps → i < length w → get_or w i false ≡ true
    → part_pairs (drop i ps) (drop i w) ≡ part_pairs (drop (i + 1) ps) (drop (i + 1) w)
part_more ps w i h k e =
    let z : suc i ≡ i + 1 = omega arith in
    ap₂ part_pairs (drop-cons ps i (0, 0) h) (drop-cons w i false k ∙ ap (λ (b : Bool). b ∷ drop (suc i) w) e)
    ∙ ap (λ (j : ℕ). part_pairs (drop j ps) (drop j w)) z

pub part_one : (ps : List (ℕ × ℕ)) (w : List Bool) (i : ℕ) → i < length ps → i < length w → get_or w i false ≡ false
    → part_pairs (drop i ps) (drop i w) ≡ canonical_sequence (pruned (tree_at ps i) (drop (i + 1) w)) ∷ part_pairs (drop (i + 1) ps) (drop (i + 1) w)
part_one ps w i h k e =
    let z : suc i ≡ i + 1 = omega arith in
    let p = get_or ps i (0, 0) in
    let qs = drop (suc i) ps in
    let here : drop i ps ≡ p ∷ qs = drop-cons ps i (0, 0) h in
    let tree : tree_at (p ∷ qs) 0 ≡ tree_at ps i = ap (λ (ss : List (ℕ × ℕ)). tree_at ss 0) (sym here) in
    ap₂ part_pairs here (drop-cons w i false k ∙ ap (λ (b : Bool). b ∷ drop (suc i) w) e)
    ∙ ap (λ (t : Tree). canonical_sequence (pruned t (drop (suc i) w)) ∷ part_pairs qs (drop (suc i) w)) tree
    ∙ ap (λ (j : ℕ). canonical_sequence (pruned (tree_at ps i) (drop j w)) ∷ part_pairs (drop j ps) (drop j w)) z
