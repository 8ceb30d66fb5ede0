-- The first tree of a list of pairs, and the trees after it.
use Rattle.std.proofs.Common.{◌≡◌, ℕ, suc, zero, true, false, length-append, ◌+◌, ◌≤◌, ◌<◌, ltb, List, [], ◌∷◌, ◌++◌, length, ◌-◌, length-drop, take, drop, refl, ap, ap₂, subst, sym, ◌∙◌, arith, append_assoc, append-nil}
use Rattle.std.specs.List.{AllByRecursion, prefix_len}
use Rattle.std.proofs.lemmas.Bool.{lt-ltb, le-ltb, ltb-true, ltb-false}
use Rattle.bs_tree.specs.SortingLaws.{by_cases}
use Rattle.std.proofs.lemmas.Bool.Decides.{nat_tests}
use Rattle.std.proofs.Math.Seq.{take-append_seam, drop-append_seam}
use Rattle.std.proofs.lemmas.List.{drop-drop}
use Rattle.bs_tree.specs.Tree.{Forest, none, grow, Tree, nodes, order, trees, Coloured, IsColoured}
use Rattle.bs_tree.specs.Canonical.{level_sequence, level_sequence_at, canonical_of}
use Rattle.bs_tree.specs.Code.{IsCode, Parsed, parse, tree_of}
use Rattle.bs_tree.specs.Subtrees.{forest_at, subtree_of, tree_at, level_below, first_count, IsSubtree}
use Rattle.bs_tree.specs.ListLaws.{all_append}
use Rattle.bs_tree.specs.declared.TheConstants.{MAX_NODES}

-- nothing, or a list that begins below this level
abbrev pub IsLow : ℕ → List (ℕ × ℕ) → Type 0
IsLow l [] = Unit {0}
IsLow l (x ∷ xs) = x.0 < l

pub low_more : (l : ℕ) (x : List (ℕ × ℕ)) → IsLow l x → IsLow (suc l) x
low_more l [] h = tt
low_more l (p ∷ xs) h = omega arith

pub low_rest : (l : ℕ) (f : Forest) (x : List (ℕ × ℕ)) → IsLow l x → IsLow (suc l) (level_sequence_at l f ++ x)
low_rest l none x h = low_more l x h
low_rest l (grow c kids rest) x h = omega arith

below : (m n : ℕ) → m < n → ltb m n ≡ true
below m n h = grind (arith, nat_tests)

not_below : (n : ℕ) → ltb n n ≡ false
not_below n = grind (arith, nat_tests)

parse_nothing : (fuel l : ℕ) (x : List (ℕ × ℕ)) → IsLow l x → parse fuel l x ≡ (let r : Parsed = record { found = none; left = x } in r)
parse_nothing zero l x h = refl
parse_nothing (suc fuel) l [] h = refl
parse_nothing (suc fuel) l (p ∷ ps) h = rw (below p.0 l h) refl

pub parse_sequence : (fuel l : ℕ) (f : Forest) (x : List (ℕ × ℕ)) → nodes f ≤ fuel → IsLow l x
    → parse fuel l (level_sequence_at l f ++ x) ≡ (let r : Parsed = record { found = f; left = x } in r)
parse_sequence fuel l none x h low = parse_nothing fuel l x low
parse_sequence zero l (grow c kids rest) x h low = absurd (omega arith)
parse_sequence (suc fuel) l (grow c kids rest) x h low =
    let k = parse_sequence fuel (suc l) kids (level_sequence_at l rest ++ x) (omega arith) (low_rest l rest x low) in
    let r = parse_sequence fuel l rest x (omega arith) low in
    rw (not_below l, append_assoc (level_sequence_at (suc l) kids) (level_sequence_at l rest) x, k, r) refl

pub length-level_sequence_at : (l : ℕ) (f : Forest) → length (level_sequence_at l f) ≡ nodes f
length-level_sequence_at l none = refl
length-level_sequence_at l (grow c kids rest) =
    omega (arith, length-append (level_sequence_at (suc l) kids) (level_sequence_at l rest), length-level_sequence_at (suc l) kids, length-level_sequence_at l rest)

pub forest_at-sequence : (level : ℕ) (f : Forest) → forest_at level (level_sequence_at level f) ≡ f
forest_at-sequence level f =
    let s = level_sequence_at level f in
    let e = parse_sequence (length s) level f [] (omega (arith, length-level_sequence_at level f)) tt in
    ap (λ (r : Parsed). r.found) (ap (parse (length s) level) (sym (append-nil s)) ∙ e)

-- ---- the run of greater levels behind a root
pub greater_run : (l m : ℕ) (f : Forest) (x : List (ℕ × ℕ)) → l < m → prefix_len (λ (q : ℕ × ℕ). ltb l q.0) (level_sequence_at m f ++ x) ≡ nodes f + prefix_len (λ (q : ℕ × ℕ). ltb l q.0) x
greater_run l m none x h = omega arith
greater_run l m (grow c kids rest) x h =
    let e1 = greater_run l (suc m) kids (level_sequence_at m rest ++ x) (omega arith) in
    let e2 = greater_run l m rest x h in
    rw (lt-ltb l m h, append_assoc (level_sequence_at (suc m) kids) (level_sequence_at m rest) x) (omega (arith, e1, e2))

pub run_ends : (l : ℕ) (f : Forest) → prefix_len (λ (q : ℕ × ℕ). ltb l q.0) (level_sequence_at l f) ≡ 0
run_ends l none = refl
run_ends l (grow c kids rest) = rw (le-ltb l l (omega arith)) refl

pub first_count-is : (l c : ℕ) (kids more : Forest) → first_count (level_sequence_at l (grow c kids more)) ≡ suc (nodes kids)
first_count-is l c kids more = let e = greater_run l (suc l) kids (level_sequence_at l more) (omega arith) in omega (arith, e, run_ends l more)

take_first : (l c : ℕ) (kids more : Forest) → take (suc (nodes kids)) (level_sequence_at l (grow c kids more)) ≡ (l, c) ∷ level_sequence_at (suc l) kids
take_first l c kids more = ap (λ (ps : List (ℕ × ℕ)). (l, c) ∷ ps)
    (ap (λ (n : ℕ). take n (level_sequence_at (suc l) kids ++ level_sequence_at l more)) (sym (length-level_sequence_at (suc l) kids))
    ∙ take-append_seam (level_sequence_at (suc l) kids) (level_sequence_at l more))

drop_first : (l c : ℕ) (kids more : Forest) → drop (suc (nodes kids)) (level_sequence_at l (grow c kids more)) ≡ level_sequence_at l more
drop_first l c kids more =
    ap (λ (n : ℕ). drop n (level_sequence_at (suc l) kids ++ level_sequence_at l more)) (sym (length-level_sequence_at (suc l) kids))
    ∙ drop-append_seam (level_sequence_at (suc l) kids) (level_sequence_at l more)

-- ---- colours of parts
pub colours_take : (ys xs : List (ℕ × ℕ)) → AllByRecursion (λ (p : ℕ × ℕ). p.1 < 4) (ys ++ xs) → AllByRecursion (λ (p : ℕ × ℕ). p.1 < 4) ys × AllByRecursion (λ (p : ℕ × ℕ). p.1 < 4) xs
colours_take [] xs h = (tt, h)
colours_take (y ∷ ys) xs h = let r = colours_take ys xs h.1 in ((h.0, r.0), r.1)

pub coloured_from : (l : ℕ) (f : Forest) → AllByRecursion (λ (p : ℕ × ℕ). p.1 < 4) (level_sequence_at l f) → Coloured 4 f
coloured_from l none h = tt
coloured_from l (grow c kids rest) h =
    let r = colours_take (level_sequence_at (suc l) kids) (level_sequence_at l rest) h.1 in
    (h.0, coloured_from (suc l) kids r.0, coloured_from l rest r.1)

-- ---- one step over the trees of a list
-- what is left of the list ps, whose root's children are being read
pub record IsRest (ps rest : List (ℕ × ℕ)) : Type 0 where
  pub shape : level_sequence_at (level_below ps) (forest_at (level_below ps) rest) ≡ rest
  pub colours : AllByRecursion (λ p. p.1 < 4) rest
  pub shorter : length rest < length ps
  pub small : length ps ≤ MAX_NODES

pub record IsStep (ps rest first later : List (ℕ × ℕ)) : Type 0 where
  pub subtree : IsSubtree first
  pub fits : first_count rest ≤ length rest
  pub shorter : length first < length ps
  pub more : IsRest ps later
  pub parts : trees (forest_at (level_below ps) rest) ≡ subtree_of first ∷ trees (forest_at (level_below ps) later)
  pub level : level_below first ≡ suc (level_below ps)

pub start : (ps : List (ℕ × ℕ)) → IsSubtree ps → IsRest ps (drop 1 ps) × (forest_at (level_below ps) (drop 1 ps) ≡ (subtree_of ps).below)
start [] h = absurd (let k = h.some in omega arith)
start (p ∷ ps) h = (record { shape = h.shape; colours = h.colours.1; shorter = omega arith; small = h.small }, refl)

step_at : (ps : List (ℕ × ℕ)) (f : Forest) (rest : List (ℕ × ℕ)) → level_sequence_at (level_below ps) f ≡ rest → IsRest ps rest → 0 < length rest → IsStep ps rest (take (first_count rest) rest) (drop (first_count rest) rest)
step_at ps none rest e h some = absurd (let z : 0 ≡ length rest = ap length e in omega arith)
step_at ps (grow c kids more) rest e h some =
    let l = level_below ps in
    let whole = level_sequence_at l (grow c kids more) in
    let P : List (ℕ × ℕ) → Type 0 = λ r. IsRest ps r → IsStep ps r (take (first_count r) r) (drop (first_count r) r) in
    let at_whole : P whole = λ k.
    let n = first_count-is l c kids more in
    let first : take (first_count whole) whole ≡ (l, c) ∷ level_sequence_at (suc l) kids = ap (λ (i : ℕ). take i whole) n ∙ take_first l c kids more in
    let later : drop (first_count whole) whole ≡ level_sequence_at l more = ap (λ (i : ℕ). drop i whole) n ∙ drop_first l c kids more in
    let Q : List (ℕ × ℕ) → List (ℕ × ℕ) → Type 0 = λ x y. IsStep ps whole x y in
    let cols = colours_take ((l, c) ∷ level_sequence_at (suc l) kids) (level_sequence_at l more) k.colours in
    let size : length whole ≡ suc (nodes kids) + nodes more = length-level_sequence_at l (grow c kids more) in
    let size_first : length ((l, c) ∷ level_sequence_at (suc l) kids) ≡ suc (nodes kids) = ap suc (length-level_sequence_at (suc l) kids) in
    let size_later : length (level_sequence_at l more) ≡ nodes more = length-level_sequence_at l more in
    let below : forest_at (suc l) (level_sequence_at (suc l) kids) ≡ kids = forest_at-sequence (suc l) kids in
    let bound = k.shorter in
    let bound_all = k.small in
    subst (λ x. Q x (drop (first_count whole) whole)) (sym first)
    (subst (Q ((l, c) ∷ level_sequence_at (suc l) kids)) (sym later)
    (record {
      subtree = record {
        some = omega arith;
        shape = ap (level_sequence_at (suc l)) below;
        small = omega arith;
        colours = cols.0;
      };
      fits = omega arith;
      shorter = omega arith;
      more = record { shape = ap (level_sequence_at l) (forest_at-sequence l more); colours = cols.1; shorter = omega arith; small = bound_all };
      parts = ap trees (forest_at-sequence l (grow c kids more))
          ∙ ap₂ (λ (b m : Forest). let t : Tree = record { colour = c; below = b } in t ∷ trees m) (sym below) (sym (forest_at-sequence l more));
      level = refl;
    })) in
    subst P e at_whole h

pub step : (ps rest : List (ℕ × ℕ)) → IsRest ps rest → 0 < length rest → IsStep ps rest (take (first_count rest) rest) (drop (first_count rest) rest)
step ps rest h some = step_at ps (forest_at (level_below ps) rest) rest h.shape h some

-- nothing is left
pub at_end : (ps rest : List (ℕ × ℕ)) → length rest ≡ 0 → trees (forest_at (level_below ps) rest) ≡ []
at_end ps [] h = refl
at_end ps (p ∷ rest) h = absurd (omega arith)

-- the tree of a whole list
pub subtree_within : (ps : List (ℕ × ℕ)) → IsSubtree ps → (order (subtree_of ps) ≡ length ps) × ((subtree_of ps).colour < 4) × Coloured 4 (subtree_of ps).below
subtree_within [] h = absurd (let k = h.some in omega arith)
subtree_within (p ∷ ps) h =
    let f = forest_at (suc p.0) ps in (
      ap suc (sym (length-level_sequence_at (suc p.0) f) ∙ ap length h.shape),
      h.colours.0,
      coloured_from (suc p.0) f (subst (AllByRecursion (λ (p : ℕ × ℕ). p.1 < 4)) (sym h.shape) h.colours.1),
    )

-- ---- the tree of a code
pub tree_of-level_sequence : (t : Tree) → tree_of (level_sequence t) ≡ t
tree_of-level_sequence t =
    let e = parse_sequence (length (level_sequence_at 2 t.below)) 2 t.below [] (omega (arith, length-level_sequence_at 2 t.below)) tt in
    let e' : parse (length (level_sequence_at 2 t.below)) 2 (level_sequence_at 2 t.below) ≡ (let r : Parsed = record { found = t.below; left = [] } in r) =
    ap (parse (length (level_sequence_at 2 t.below)) 2) (sym (append-nil (level_sequence_at 2 t.below))) ∙ e in
    ap (λ (r : Parsed). let u : Tree = record { colour = t.colour; below = r.found } in u) e'

pub code_canonical : (s : List (ℕ × ℕ)) → IsCode s → canonical_of (tree_of s) ≡ tree_of s
code_canonical s h = sym (tree_of-level_sequence (canonical_of (tree_of s))) ∙ ap tree_of h.canonical

pub code_sequence : (s : List (ℕ × ℕ)) → IsCode s → level_sequence (tree_of s) ≡ s
code_sequence s h = ap level_sequence (sym (code_canonical s h)) ∙ h.canonical

-- ---- a tree within a longer list
pub coloured_sequence : (l : ℕ) (f : Forest) → Coloured 4 f → AllByRecursion (λ (p : ℕ × ℕ). p.1 < 4) (level_sequence_at l f)
coloured_sequence l none h = tt
coloured_sequence l (grow c kids rest) h = (
  h.0,
  all_append (λ (p : ℕ × ℕ). p.1 < 4) (level_sequence_at (suc l) kids) (level_sequence_at l rest) (coloured_sequence (suc l) kids h.1) (coloured_sequence l rest h.2),
)

-- the level sequence of a tree whose root has this level
abbrev pub sequence_from : ℕ → Tree → List (ℕ × ℕ)
sequence_from l t = (l, t.colour) ∷ level_sequence_at (suc l) t.below

pub subtree_of-sequence : (l : ℕ) (t : Tree) → subtree_of (sequence_from l t) ≡ t
subtree_of-sequence l t = ap (λ (f : Forest). let u : Tree = record { colour = t.colour; below = f } in u) (forest_at-sequence (suc l) t.below)

pub sequence_subtree : (l : ℕ) (t : Tree) → IsColoured 4 t → order t ≤ MAX_NODES → IsSubtree (sequence_from l t)
sequence_subtree l t h n = record {
  some = omega arith;
  shape = ap (level_sequence_at (suc l)) (forest_at-sequence (suc l) t.below);
  small = omega (arith, length-level_sequence_at (suc l) t.below);
  colours = (h.0, coloured_sequence (suc l) t.below h.1);
}

pub run_low : (l : ℕ) (x : List (ℕ × ℕ)) → IsLow (suc l) x → prefix_len (λ (q : ℕ × ℕ). ltb l q.0) x ≡ 0
run_low l [] h = refl
run_low l (p ∷ x) h = rw (le-ltb l p.0 (omega arith)) refl

-- the pairs below the root are the run of greater levels behind it
pub run_of : (l : ℕ) (kids rest : Forest) (x : List (ℕ × ℕ)) → IsLow l x
    → prefix_len (λ (q : ℕ × ℕ). ltb l q.0) (level_sequence_at (suc l) kids ++ (level_sequence_at l rest ++ x)) ≡ nodes kids
run_of l kids rest x h = omega (arith, greater_run l (suc l) kids (level_sequence_at l rest ++ x) (omega arith), run_low l (level_sequence_at l rest ++ x) (low_rest l rest x h))

pub take_kids : (l : ℕ) (kids : Forest) (y : List (ℕ × ℕ)) → take (nodes kids) (level_sequence_at l kids ++ y) ≡ level_sequence_at l kids
take_kids l kids y = ap (λ (n : ℕ). take n (level_sequence_at l kids ++ y)) (sym (length-level_sequence_at l kids)) ∙ take-append_seam (level_sequence_at l kids) y

pub drop_kids : (l : ℕ) (kids : Forest) (y : List (ℕ × ℕ)) → drop (nodes kids) (level_sequence_at l kids ++ y) ≡ y
drop_kids l kids y = ap (λ (n : ℕ). drop n (level_sequence_at l kids ++ y)) (sym (length-level_sequence_at l kids)) ∙ drop-append_seam (level_sequence_at l kids) y

lt_or_ge : {G : Type 0} (m n : ℕ) → (m < n → G) → (n ≤ m → G) → G
lt_or_ge m n p q = by_cases (ltb m n) (λ e. p (ltb-true m n e)) (λ e. q (ltb-false m n e))

-- a list that begins with a tree whose root has this level
pub record IsTreeAt (ps : List (ℕ × ℕ)) : Type 0 where
  pub level : ℕ
  pub tree : Tree
  pub count : first_count ps ≡ order tree
  pub first : take (first_count ps) ps ≡ sequence_from level tree
  pub fits : first_count ps ≤ length ps
  pub coloured : IsColoured 4 tree

pub tree_here : (l c : ℕ) (kids rest : Forest) (x : List (ℕ × ℕ)) → IsLow l x → c < 4 → Coloured 4 kids
    → IsTreeAt ((l, c) ∷ (level_sequence_at (suc l) kids ++ (level_sequence_at l rest ++ x)))
tree_here l c kids rest x low h k =
    let y = level_sequence_at l rest ++ x in
    let e : first_count ((l, c) ∷ (level_sequence_at (suc l) kids ++ y)) ≡ suc (nodes kids) = ap suc (run_of l kids rest x low) in
    record {
      level = l;
      tree = record { colour = c; below = kids };
      count = e;
      first = ap (λ (n : ℕ). take n ((l, c) ∷ (level_sequence_at (suc l) kids ++ y))) e ∙ ap (λ (ps : List (ℕ × ℕ)). (l, c) ∷ ps) (take_kids (suc l) kids y);
      fits = omega (arith, e, length-append (level_sequence_at (suc l) kids) y, length-level_sequence_at (suc l) kids);
      coloured = (h, k);
    }

pub tree_within : (l : ℕ) (f : Forest) (x : List (ℕ × ℕ)) (i : ℕ) → IsLow l x → Coloured 4 f → i < nodes f → IsTreeAt (drop i (level_sequence_at l f ++ x))
tree_within l none x i low h lt = absurd (omega arith)
tree_within l (grow c kids rest) x zero low h lt =
    subst (λ (qs : List (ℕ × ℕ)). IsTreeAt ((l, c) ∷ qs)) (sym (append_assoc (level_sequence_at (suc l) kids) (level_sequence_at l rest) x)) (tree_here l c kids rest x low h.0 h.1)
tree_within l (grow c kids rest) x (suc i) low h lt =
    let y = level_sequence_at l rest ++ x in
    subst (λ (qs : List (ℕ × ℕ)). IsTreeAt (drop i qs)) (sym (append_assoc (level_sequence_at (suc l) kids) (level_sequence_at l rest) x))
    (lt_or_ge i (nodes kids)
    (λ below. tree_within (suc l) kids y i (low_rest l rest x low) h.1 below)
    (λ behind.
    let e : nodes kids + (i - nodes kids) ≡ i = omega arith in
    let same : drop i (level_sequence_at (suc l) kids ++ y) ≡ drop (i - nodes kids) y =
    ap (λ (n : ℕ). drop n (level_sequence_at (suc l) kids ++ y)) (sym e)
    ∙ sym (drop-drop (i - nodes kids) (nodes kids) (level_sequence_at (suc l) kids ++ y))
    ∙ ap (drop (i - nodes kids)) (drop_kids (suc l) kids y) in
    subst IsTreeAt (sym same) (tree_within l rest x (i - nodes kids) low h.2 (omega arith))))

-- the subtree of a node is a tree within the bounds
pub record IsSubtreeAt (ps : List (ℕ × ℕ)) (i : ℕ) : Type 0 where
  pub subtree : IsSubtree (take (first_count (drop i ps)) (drop i ps))
  pub fits : i + first_count (drop i ps) ≤ length ps
  pub order_is : order (tree_at ps i) ≡ first_count (drop i ps)

pub subtree_at : (ps : List (ℕ × ℕ)) (i : ℕ) → IsSubtree ps → i < length ps → IsSubtreeAt ps i
subtree_at [] i h lt = absurd (omega arith)
subtree_at (p ∷ ps) i h lt =
    let t = subtree_of (p ∷ ps) in
    let w = subtree_within (p ∷ ps) h in
    let whole : sequence_from p.0 t ≡ p ∷ ps = ap (λ (qs : List (ℕ × ℕ)). p ∷ qs) h.shape in
    let seq : level_sequence_at p.0 (grow t.colour t.below none) ++ [] ≡ p ∷ ps = append-nil _ ∙ ap (λ (qs : List (ℕ × ℕ)). p ∷ qs) (append-nil _) ∙ whole in
    let a = subst (λ (qs : List (ℕ × ℕ)). IsTreeAt (drop i qs)) seq (tree_within p.0 (grow t.colour t.below none) [] i tt (w.1, w.2, tt) (omega (arith, w.0))) in
    let n = length-drop i (p ∷ ps) in
    let small = h.small in
    record {
      subtree = subst IsSubtree (sym a.first) (sequence_subtree a.level a.tree a.coloured (omega (arith, a.count, a.fits)));
      fits = omega (arith, a.fits);
      order_is = ap order (ap subtree_of a.first ∙ subtree_of-sequence a.level a.tree) ∙ sym a.count;
    }
