-- The pass over pairs and letters for the skeleton, and what it finds of a list of trees.
use Rattle.std.proofs.Common.{◌≡◌, ◌≢◌, ℕ, suc, zero, ◌+◌, ◌-◌, ◌<◌, ◌≤◌, List, [], ◌∷◌, ◌++◌, take, drop, length, get_or, set, slice_get, Bool, true, false, cond, leb, Option, IfSome, arith, refl, sym, ◌∙◌, ap, ap₂, subst, append_assoc, length-drop, length-set}
use Rattle.std.specs.List.{AllByRecursion}
use Rattle.std.proofs.lemmas.Bool.{le-leb, and_from}
use Rattle.std.proofs.lemmas.List.{drop-drop, get_or-set_same, get_or-set_other}
use Rattle.std.proofs.lemmas.Option.{slice_get-get_or}
use Rattle.std.proofs.Math.Seq.{drop-cons}
use Rattle.bs_tree.specs.Tree.{Forest, none, grow, Tree, nodes, forest, Coloured}
use Rattle.bs_tree.specs.Canonical.{level_sequence_at, level_sequence}
use Rattle.bs_tree.specs.Code.{is_level_sequence, has_valid_levels}
use Rattle.bs_tree.specs.SubtreeLaws.{length-level_sequence_at, coloured_sequence}
use Rattle.bs_tree.specs.SortingLaws.{nodes-append}
use Rattle.bs_tree.specs.declared.TheConstants.{MAX_NODES}
use Rattle.bs_tree.proofs.Levels.{levels_valid, colours_all}
use Rattle.bs_part.specs.Partition.{Pieces}
use Rattle.bs_part.specs.Words.{pieces_by}
use Rattle.bs_part.specs.Walk.{hung_pairs}
use Rattle.bs_part.proofs.Passes.{pieces_front}

-- ---- what hangs is small, and has colour 0
pub hung_small : (f : Forest) (w : List Bool) → nodes (forest (pieces_by f w).hung) ≤ nodes f
hung_small none w = omega arith
hung_small (grow c kids rest) [] = omega arith
hung_small (grow c kids rest) (true ∷ w) =
    let k = pieces_by kids (take (nodes kids) w) in
    let r = pieces_by rest (drop (nodes kids) w) in
    omega (arith, nodes-append k.hung r.hung, hung_small kids (take (nodes kids) w), hung_small rest (drop (nodes kids) w))
hung_small (grow c kids rest) (false ∷ w) = omega (arith, hung_small kids (take (nodes kids) w), hung_small rest (drop (nodes kids) w))

pub coloured-append : (k : ℕ) (ts us : List Tree) → Coloured k (forest ts) → Coloured k (forest us) → Coloured k (forest (ts ++ us))
coloured-append k [] us h g = g
coloured-append k (t ∷ ts) us h g = (h.0, h.1, coloured-append k ts us h.2 g)

pub hung_coloured : (k : ℕ) (f : Forest) (w : List Bool) → 0 < k → Coloured k (forest (pieces_by f w).hung)
hung_coloured k none w some = tt
hung_coloured k (grow c kids rest) [] some = tt
hung_coloured k (grow c kids rest) (true ∷ w) some =
    let inner = pieces_by kids (take (nodes kids) w) in
    let later = pieces_by rest (drop (nodes kids) w) in
    coloured-append k inner.hung later.hung (hung_coloured k kids (take (nodes kids) w) some) (hung_coloured k rest (drop (nodes kids) w) some)
hung_coloured k (grow c kids rest) (false ∷ w) some = (some, hung_coloured k kids (take (nodes kids) w) some, hung_coloured k rest (drop (nodes kids) w) some)

-- the level sequence of a small tree is one
pub sequence_valid : (t : Tree) → nodes t.below < MAX_NODES → t.colour < 4 → Coloured 4 t.below → is_level_sequence (level_sequence t) ≡ true
sequence_valid t small c k =
    let s = level_sequence t in
    and_from (leb (length s) MAX_NODES) _ (le-leb (length s) MAX_NODES (omega (arith, length-level_sequence_at 2 t.below)))
    (and_from (has_valid_levels s) _ (levels_valid t) (colours_all s (c, coloured_sequence 2 t.below k)))

sequence-append : (l : ℕ) (ts us : List Tree) → level_sequence_at l (forest (ts ++ us)) ≡ level_sequence_at l (forest ts) ++ level_sequence_at l (forest us)
sequence-append l [] us = refl
sequence-append l (t ∷ ts) us =
    let kids = level_sequence_at (suc l) t.below in
    ap (λ (qs : List (ℕ × ℕ)). (l, t.colour) ∷ (kids ++ qs)) (sequence-append l ts us)
    ∙ ap (λ (qs : List (ℕ × ℕ)). (l, t.colour) ∷ qs) (sym (append_assoc kids (level_sequence_at l (forest ts)) (level_sequence_at l (forest us))))

-- ---- the levels behind a list of trees that hang below one at this level
pub entry : List ℕ → ℕ → Bool → ℕ
entry ds l b = cond b (get_or ds l 0) (suc (get_or ds l 0))

pub marked : List ℕ → ℕ → Forest → List Bool → List ℕ
marked ds l none w = ds
marked ds l (grow c kids rest) [] = ds
marked ds l (grow c kids rest) (b ∷ w) = marked (marked (set ds (suc l) (entry ds l b)) (suc l) kids w) l rest (drop (nodes kids) w)

pub length-marked : (ds : List ℕ) (l : ℕ) (f : Forest) (w : List Bool) → length (marked ds l f w) ≡ length ds
unfolding marked
length-marked ds l none w = refl
length-marked ds l (grow c kids rest) [] = refl
length-marked ds l (grow c kids rest) (b ∷ w) =
    let es = set ds (suc l) (entry ds l b) in
    length-marked (marked es (suc l) kids w) l rest (drop (nodes kids) w) ∙ length-marked es (suc l) kids w ∙ length-set ds (suc l) (entry ds l b)

-- the levels up to it stay
marked_upto : (ds : List ℕ) (l i : ℕ) (f : Forest) (w : List Bool) → i ≤ l → get_or (marked ds l f w) i 0 ≡ get_or ds i 0
unfolding marked
marked_upto ds l i none w h = refl
marked_upto ds l i (grow c kids rest) [] h = refl
marked_upto ds l i (grow c kids rest) (b ∷ w) h =
    let es = set ds (suc l) (entry ds l b) in
    let other : i ≢ suc l = λ e. absurd (omega arith) in
    marked_upto (marked es (suc l) kids w) l i rest (drop (nodes kids) w) h
    ∙ marked_upto es (suc l) i kids w (omega arith)
    ∙ get_or-set_other ds (suc l) i (entry ds l b) 0 other

pub hung_sequence : (ds : List ℕ) (l : ℕ) (f : Forest) (x : List (ℕ × ℕ)) (w : List Bool) → l + nodes f < length ds → nodes f ≤ length w
    → hung_pairs ds (level_sequence_at (suc l) f ++ x) w
    ≡ level_sequence_at (suc (get_or ds l 0)) (forest (pieces_by f w).hung) ++ hung_pairs (marked ds l f w) x (drop (nodes f) w)
unfolding marked entry
hung_sequence ds l none x w room h = refl
hung_sequence ds l (grow c kids rest) x [] room h = absurd (omega arith)
hung_sequence ds l (grow c kids rest) x (true ∷ w) room h =
    let m = nodes kids in
    let d = get_or ds l 0 in
    let es = set ds (suc l) d in
    let fs = marked es (suc l) kids w in
    let y = level_sequence_at (suc l) rest ++ x in
    let z = level_sequence_at (suc (suc l)) kids ++ y in
    let k = (pieces_by kids (take m w)).hung in
    let r = (pieces_by rest (drop m w)).hung in
    let u = hung_pairs (marked fs l rest (drop m w)) x (drop (nodes rest) (drop m w)) in
    let e : nodes (grow c kids rest) ≡ suc (m + nodes rest) = omega arith in
    let up : suc l - 1 ≡ l = omega arith in
    let here : get_or es (suc l) 0 ≡ d = get_or-set_same ds (suc l) d 0 (omega arith) in
    let there : get_or fs l 0 ≡ d = marked_upto es (suc l) l kids w (omega arith) ∙ get_or-set_other ds (suc l) l d 0 (λ q. absurd (omega arith)) in
    ap (λ (qs : List (ℕ × ℕ)). hung_pairs ds ((suc l, c) ∷ qs) (true ∷ w)) (append_assoc (level_sequence_at (suc (suc l)) kids) (level_sequence_at (suc l) rest) x)
    ∙ ap (λ (i : ℕ). hung_pairs (set ds (suc l) (get_or ds i 0)) z w) up
    ∙ hung_sequence es (suc l) kids y w (omega (arith, length-set ds (suc l) d)) (omega arith)
    ∙ ap₂ (λ (i : ℕ) (p : Pieces). level_sequence_at (suc i) (forest p.hung) ++ hung_pairs fs y (drop m w)) here (sym (pieces_front kids w))
    ∙ ap (λ (qs : List (ℕ × ℕ)). level_sequence_at (suc d) (forest k) ++ qs)
    (hung_sequence fs l rest x (drop m w) (omega (arith, length-marked es (suc l) kids w, length-set ds (suc l) d)) (omega (arith, length-drop m w))
    ∙ ap (λ (i : ℕ). level_sequence_at (suc i) (forest r) ++ u) there)
    ∙ sym (append_assoc (level_sequence_at (suc d) (forest k)) (level_sequence_at (suc d) (forest r)) u)
    ∙ ap₂ (λ (qs : List (ℕ × ℕ)) (v : List Bool). qs ++ hung_pairs (marked fs l rest (drop m w)) x v) (sym (sequence-append (suc d) k r)) (drop-drop (nodes rest) m w ∙ ap (λ (i : ℕ). drop i (true ∷ w)) (sym e))
hung_sequence ds l (grow c kids rest) x (false ∷ w) room h =
    let m = nodes kids in
    let d = get_or ds l 0 in
    let es = set ds (suc l) (suc d) in
    let fs = marked es (suc l) kids w in
    let y = level_sequence_at (suc l) rest ++ x in
    let z = level_sequence_at (suc (suc l)) kids ++ y in
    let k = (pieces_by kids (take m w)).hung in
    let r = (pieces_by rest (drop m w)).hung in
    let u = hung_pairs (marked fs l rest (drop m w)) x (drop (nodes rest) (drop m w)) in
    let e : nodes (grow c kids rest) ≡ suc (m + nodes rest) = omega arith in
    let up : suc l - 1 ≡ l = omega arith in
    let here : get_or es (suc l) 0 ≡ suc d = get_or-set_same ds (suc l) (suc d) 0 (omega arith) in
    let there : get_or fs l 0 ≡ d = marked_upto es (suc l) l kids w (omega arith) ∙ get_or-set_other ds (suc l) l (suc d) 0 (λ q. absurd (omega arith)) in
    ap (λ (qs : List (ℕ × ℕ)). hung_pairs ds ((suc l, c) ∷ qs) (false ∷ w)) (append_assoc (level_sequence_at (suc (suc l)) kids) (level_sequence_at (suc l) rest) x)
    ∙ ap (λ (i : ℕ). (suc (get_or ds i 0), 0) ∷ hung_pairs (set ds (suc l) (suc (get_or ds i 0))) z w) up
    ∙ ap (λ (qs : List (ℕ × ℕ)). (suc d, 0) ∷ qs)
    (hung_sequence es (suc l) kids y w (omega (arith, length-set ds (suc l) (suc d))) (omega arith)
    ∙ ap₂ (λ (i : ℕ) (p : Pieces). level_sequence_at (suc i) (forest p.hung) ++ hung_pairs fs y (drop m w)) here (sym (pieces_front kids w))
    ∙ ap (λ (qs : List (ℕ × ℕ)). level_sequence_at (suc (suc d)) (forest k) ++ qs)
    (hung_sequence fs l rest x (drop m w) (omega (arith, length-marked es (suc l) kids w, length-set ds (suc l) (suc d))) (omega (arith, length-drop m w))
    ∙ ap (λ (i : ℕ). level_sequence_at (suc i) (forest r) ++ u) there)
    ∙ sym (append_assoc (level_sequence_at (suc (suc d)) (forest k)) (level_sequence_at (suc d) (forest r)) u)
    ∙ ap (λ (v : List Bool). (level_sequence_at (suc (suc d)) (forest k) ++ level_sequence_at (suc d) (forest r)) ++ hung_pairs (marked fs l rest (drop m w)) x v) (drop-drop (nodes rest) m w ∙ ap (λ (i : ℕ). drop i (false ∷ w)) (sym e)))

-- ---- one step of the pass
pub hung_more : (ds : List ℕ) (ps : List (ℕ × ℕ)) (w : List Bool) (i l : ℕ) → i < length ps → i < length w → get_or w i false ≡ true → l ≡ (get_or ps i (0, 0)).0
    → hung_pairs ds (drop i ps) (drop i w) ≡ hung_pairs (set ds l (get_or ds (l - 1) 0)) (drop (i + 1) ps) (drop (i + 1) w)
hung_more ds ps w i l h k e level =
    let z : suc i ≡ i + 1 = omega arith in
    ap₂ (hung_pairs ds) (drop-cons ps i (0, 0) h) (drop-cons w i false k ∙ ap (λ (b : Bool). b ∷ drop (suc i) w) e)
    ∙ ap (λ (n : ℕ). hung_pairs (set ds n (get_or ds (n - 1) 0)) (drop (suc i) ps) (drop (suc i) w)) (sym level)
    ∙ ap (λ (j : ℕ). hung_pairs (set ds l (get_or ds (l - 1) 0)) (drop j ps) (drop j w)) z

pub hung_one : (ds : List ℕ) (ps : List (ℕ × ℕ)) (w : List Bool) (i l : ℕ) → i < length ps → i < length w → get_or w i false ≡ false → l ≡ (get_or ps i (0, 0)).0
    → hung_pairs ds (drop i ps) (drop i w) ≡ (get_or ds (l - 1) 0 + 1, 0) ∷ hung_pairs (set ds l (get_or ds (l - 1) 0 + 1)) (drop (i + 1) ps) (drop (i + 1) w)
hung_one ds ps w i l h k e level =
    let z : suc i ≡ i + 1 = omega arith in
    let s : suc (get_or ds (l - 1) 0) ≡ get_or ds (l - 1) 0 + 1 = omega arith in
    ap₂ (hung_pairs ds) (drop-cons ps i (0, 0) h) (drop-cons w i false k ∙ ap (λ (b : Bool). b ∷ drop (suc i) w) e)
    ∙ ap (λ (n : ℕ). (suc (get_or ds (n - 1) 0), 0) ∷ hung_pairs (set ds n (suc (get_or ds (n - 1) 0))) (drop (suc i) ps) (drop (suc i) w)) (sym level)
    ∙ ap₂ (λ (n j : ℕ). (n, 0) ∷ hung_pairs (set ds l n) (drop j ps) (drop j w)) s z

-- ---- levels stay small
pub within_more : (n : ℕ) (ds : List ℕ) → AllByRecursion (λ d. d ≤ n) ds → AllByRecursion (λ d. d ≤ n + 1) ds
within_more n [] h = tt
within_more n (d ∷ ds) h = (let k = h.0 in omega arith, within_more n ds h.1)

pub within_set : (n : ℕ) (ds : List ℕ) (i e : ℕ) → e ≤ n → AllByRecursion (λ d. d ≤ n) ds → AllByRecursion (λ d. d ≤ n) (set ds i e)
within_set n [] i e k h = tt
within_set n (d ∷ ds) zero e k h = (k, h.1)
within_set n (d ∷ ds) (suc i) e k h = (h.0, within_set n ds i e k h.1)

pub within_at : (n : ℕ) (ds : List ℕ) (i : ℕ) → AllByRecursion (λ d. d ≤ n) ds → get_or ds i 0 ≤ n
within_at n [] i h = omega arith
within_at n (d ∷ ds) zero h = h.0
within_at n (d ∷ ds) (suc i) h = within_at n ds i h.1

-- the level of a node
pub level_at : (s : List (ℕ × ℕ)) (i r l : ℕ) → i < length s → IfSome (slice_get s i) (λ pair. r ≡ pair.0) → l ≡ r → l ≡ (get_or s i (0, 0)).0
level_at s i r l h e same = same ∙ subst (λ (o : Option (ℕ × ℕ)). IfSome o (λ pair. r ≡ pair.0)) (slice_get-get_or s i (0, 0) h) e
