-- The loops that read the children of a root one after the other.
use Rattle.std.proofs.Common.{leb, ◌&&◌, ◌≡◌, ℕ, suc, ◌+◌, ◌-◌, ◌<◌, true, false, ltb, List, [], ◌∷◌, ◌++◌, length, take, drop, get_or, refl, ap, ap₂, subst, sym, ◌∙◌, arith, append_assoc, append-nil}
use Rattle.std.specs.List.{prefix_len}
use Rattle.std.proofs.lemmas.Bool.{and_parts, and_from, both_ways}
use Rattle.bs_tree.specs.SortingLaws.{by_cases}
use Rattle.std.proofs.lemmas.List.{take_all}
use Rattle.bs_tree.specs.Tree.{Forest, Tree, trees, forest}
use Rattle.bs_tree.specs.Canonical.{canonical_sequence}
use Rattle.bs_tree.specs.Code.{IsCode, follows}
use Rattle.bs_tree.specs.Subtrees.{forest_at, subtree_of, level_below, first_count, IsSubtree}
use Rattle.bs_tree.proofs.Trees.{forest-trees}
use Rattle.bs_tree.proofs.CodeOf.{canon_is_code}
use Rattle.bs_tree.specs.SubtreeLaws.{IsRest, IsStep, step, at_end, subtree_within}

-- ---- the first tree
pub first_count_by : (ps : List (ℕ × ℕ)) (n : ℕ) → 0 < length ps → n ≡ prefix_len (λ (q : ℕ × ℕ). ltb (get_or ps 0 (0, 0)).0 q.0) (take (length ps - 1) (drop 1 ps)) → 1 + n ≡ first_count ps
first_count_by [] n h e = absurd (omega arith)
first_count_by (p ∷ ps) n h e =
    let whole : take (suc (length ps) - 1) ps ≡ ps = take_all (suc (length ps) - 1) ps (omega arith) in
    omega (arith, e, ap (prefix_len (λ (q : ℕ × ℕ). ltb p.0 q.0)) whole)

pub step_by : (ps rest : List (ℕ × ℕ)) (n : ℕ) (first later : List (ℕ × ℕ)) → n ≡ first_count rest → first ≡ take n rest → later ≡ drop n rest → IsRest ps rest → 0 < length rest → IsStep ps rest first later
step_by ps rest n first later e a b h some =
    let a' : first ≡ take (first_count rest) rest = a ∙ ap (λ (i : ℕ). take i rest) e in
    let b' : later ≡ drop (first_count rest) rest = b ∙ ap (λ (i : ℕ). drop i rest) e in
    subst (λ (x : List (ℕ × ℕ)). IsStep ps rest x later) (sym a') (subst (IsStep ps rest (take (first_count rest) rest)) (sym b') (step ps rest h some))

pub root_colour_is : (ps : List (ℕ × ℕ)) → 0 < length ps → (get_or ps 0 (0, 0)).1 ≡ (subtree_of ps).colour
root_colour_is [] h = absurd (omega arith)
root_colour_is (p ∷ ps) h = refl

pub subtree_colour : (ps : List (ℕ × ℕ)) → IsSubtree ps → (get_or ps 0 (0, 0)).1 < 4
subtree_colour ps h = let w = subtree_within ps h in let e = root_colour_is ps h.some in omega (arith, e, w.1)

-- ---- the trees read so far, and those that are left
abbrev pub Reads : List Tree → List (ℕ × ℕ) → List (ℕ × ℕ) → Type 0
Reads done ps rest = done ++ trees (forest_at (level_below ps) rest) ≡ trees (subtree_of ps).below

pub more_trees : (ps rest first later : List (ℕ × ℕ)) (done : List Tree) → IsStep ps rest first later → Reads done ps rest → Reads (done ++ subtree_of first ∷ []) ps later
more_trees ps rest first later done s h =
    append_assoc done (subtree_of first ∷ []) (trees (forest_at (level_below ps) later)) ∙ ap (λ (ts : List Tree). done ++ ts) (sym s.parts) ∙ h

pub all_trees : (ps rest : List (ℕ × ℕ)) (done : List Tree) → length rest ≡ 0 → Reads done ps rest → done ≡ trees (subtree_of ps).below
all_trees ps rest done e h = sym (append-nil done) ∙ ap (λ (ts : List Tree). done ++ ts) (sym (at_end ps rest e)) ∙ h

pub whole_is_code : (ps : List (ℕ × ℕ)) → IsSubtree ps → IsCode (canonical_sequence (subtree_of ps))
whole_is_code ps whole = let w = subtree_within ps whole in canon_is_code (subtree_of ps) (let k = whole.small in omega (arith, w.0)) w.1 w.2

pub whole_tree : (ps rest : List (ℕ × ℕ)) (t : Tree) → IsSubtree ps → length rest ≡ 0 → t.colour ≡ (subtree_of ps).colour → Reads (trees t.below) ps rest → t ≡ subtree_of ps
whole_tree ps rest t whole e c h =
    let b : t.below ≡ (subtree_of ps).below = sym (forest-trees t.below) ∙ ap forest (all_trees ps rest (trees t.below) e h) ∙ forest-trees (subtree_of ps).below in
    ap₂ (λ (i : ℕ) (f : Forest). let u : Tree = record { colour = i; below = f } in u) c b

-- ---- the test of levels
pub follows_on : (last : ℕ) (p : ℕ × ℕ) (ps : List (ℕ × ℕ)) → (leb 2 p.0 && leb p.0 (last + 1)) ≡ true → follows last (p ∷ ps) ≡ follows p.0 ps
follows_on last p ps h =
    let a = and_parts (leb 2 p.0) (leb p.0 (last + 1)) h in
    let e : leb p.0 (suc last) ≡ true = (let n : suc last ≡ last + 1 = omega arith in ap (leb p.0) n) ∙ a.1 in
    rw (a.0, e) refl

pub follows_not : (last : ℕ) (p : ℕ × ℕ) (ps : List (ℕ × ℕ)) → (leb 2 p.0 && leb p.0 (last + 1)) ≡ false → follows last (p ∷ ps) ≡ false
follows_not last p ps h =
    by_cases (leb 2 p.0)
    (λ a. by_cases (leb p.0 (suc last))
    (λ b. let c : leb p.0 (last + 1) ≡ true = (let n : last + 1 ≡ suc last = omega arith in ap (leb p.0) n) ∙ b in absurd (both_ways _ h (and_from (leb 2 p.0) _ a c)))
    (λ b. rw (a, b) refl))
    (λ a. rw a refl)
