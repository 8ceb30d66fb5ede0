-- Lists of pairs with valid levels are the level sequences of trees.
use Rattle.std.proofs.Common.{◌≡◌, ℕ, suc, zero, ◌≤◌, ◌<◌, true, ◌&&◌, ltb, leb, eqb, List, [], ◌∷◌, ◌++◌, length, drop, refl, ap, ap₂, subst, sym, ◌∙◌, arith, append_assoc, append-nil, IsTrue, ◌↔◌}
use Rattle.std.specs.List.{AllByRecursion, list_all}
use Rattle.std.proofs.lemmas.Bool.{ltb-true, ltb-false, leb-true, eqb-true, le-leb, lt-ltb, and_parts, and_from}
use Rattle.bs_tree.specs.Tree.{Forest, none, grow, Tree}
use Rattle.bs_tree.specs.Canonical.{level_sequence, level_sequence_at}
use Rattle.bs_tree.specs.Code.{Parsed, parse, tree_of, follows, has_valid_levels, is_level_sequence}
use Rattle.bs_tree.specs.Subtrees.{forest_at, subtree_of, IsSubtree}
use Rattle.bs_tree.specs.SortingLaws.{by_cases}
use Rattle.bs_tree.specs.declared.TheConstants.{MAX_NODES}

-- ---- reading pairs, and writing the trees again
-- each level is at most the bound, which is one more than the level before
abbrev Steps : ℕ → List (ℕ × ℕ) → Type 0
Steps bound [] = Unit {0}
Steps bound (p ∷ ps) = (p.0 ≤ bound) × Steps (suc p.0) ps

-- what is left after the trees at a level
abbrev Left : ℕ → List (ℕ × ℕ) → Type 0
Left level [] = Unit {0}
Left level (p ∷ ps) = (p.0 < level) × Steps (suc p.0) ps

left_steps : (level : ℕ) (ps : List (ℕ × ℕ)) → Left (suc level) ps → Steps level ps
left_steps level [] h = tt
left_steps level (p ∷ ps) h = (omega arith, h.1)

record IsRead (level : ℕ) (ps : List (ℕ × ℕ)) (r : Parsed) : Type 0 where
  written : level_sequence_at level r.found ++ r.left ≡ ps
  rest : Left level r.left
  shorter : length r.left ≤ length ps

read_all : (fuel level : ℕ) (ps : List (ℕ × ℕ)) → length ps ≤ fuel → Steps level ps → IsRead level ps (parse fuel level ps)
read_all zero level [] h s = record { written = refl; rest = tt; shorter = omega arith }
read_all zero level (p ∷ ps) h s = absurd (omega arith)
read_all (suc fuel) level [] h s = record { written = refl; rest = tt; shorter = omega arith }
read_all (suc fuel) level (p ∷ ps) h s =
    by_cases (ltb p.0 level)
    (λ e. let low = ltb-true p.0 level e in rw e (record { written = refl; rest = (low, s.1); shorter = omega arith }))
    (λ e.
    let same : p.0 ≡ level = let k = ltb-false p.0 level e in omega arith in
    let kids = parse fuel (suc level) ps in
    let a : IsRead (suc level) ps kids = read_all fuel (suc level) ps (omega arith) (subst (λ (l : ℕ). Steps (suc l) ps) same s.1) in
    let b : IsRead level kids.left (parse fuel level kids.left) = read_all fuel level kids.left (let k = a.shorter in omega arith) (left_steps level kids.left a.rest) in
    rw e (record {
      written =
          ap (λ (qs : List (ℕ × ℕ)). (level, p.1) ∷ qs) (append_assoc (level_sequence_at (suc level) kids.found) (level_sequence_at level (parse fuel level kids.left).found) (parse fuel level kids.left).left
          ∙ ap (λ (qs : List (ℕ × ℕ)). level_sequence_at (suc level) kids.found ++ qs) b.written ∙ a.written)
          ∙ ap (λ (l : ℕ). let q : ℕ × ℕ = (l, p.1) in q ∷ ps) (sym same);
      rest = b.rest;
      shorter = let k = a.shorter in let m = b.shorter in omega arith;
    }))

follows_steps : (last : ℕ) (ps : List (ℕ × ℕ)) → follows last ps ≡ true → Steps (suc last) ps × AllByRecursion (λ (p : ℕ × ℕ). 2 ≤ p.0) ps
follows_steps last [] h = (tt, tt)
follows_steps last (p ∷ ps) h =
    let a = and_parts (leb 2 p.0) (leb p.0 (suc last) && follows p.0 ps) h in
    let b = and_parts (leb p.0 (suc last)) (follows p.0 ps) a.1 in
    let r = follows_steps p.0 ps b.1 in
    ((leb-true p.0 (suc last) b.0, r.0), (leb-true 2 p.0 a.0, r.1))

end_of : (f : Forest) (x ps : List (ℕ × ℕ)) → level_sequence_at 2 f ++ x ≡ ps → AllByRecursion (λ (p : ℕ × ℕ). 2 ≤ p.0) ps → AllByRecursion (λ (p : ℕ × ℕ). 2 ≤ p.0) x
end_of f x ps e h = tail (level_sequence_at 2 f) (subst (AllByRecursion (λ (p : ℕ × ℕ). 2 ≤ p.0)) (sym e) h)
  where
    tail : (ys : List (ℕ × ℕ)) → AllByRecursion (λ (p : ℕ × ℕ). 2 ≤ p.0) (ys ++ x) → AllByRecursion (λ (p : ℕ × ℕ). 2 ≤ p.0) x
    tail [] k = k
    tail (y ∷ ys) k = tail ys k.1

nothing_left : (x : List (ℕ × ℕ)) → Left 2 x → AllByRecursion (λ (p : ℕ × ℕ). 2 ≤ p.0) x → x ≡ []
nothing_left [] h k = refl
nothing_left (p ∷ ps) h k = absurd (omega arith)

pub written_again : (ps : List (ℕ × ℕ)) → has_valid_levels ps ≡ true → level_sequence (tree_of ps) ≡ ps
written_again [] h = cc
written_again (p ∷ ps) h =
    let a = and_parts (eqb p.0 1) (follows 1 ps) h in
    let first : p.0 ≡ 1 = eqb-true p.0 1 a.0 in
    let s = follows_steps 1 ps a.1 in
    let r = parse (length ps) 2 ps in
    let w : IsRead 2 ps r = read_all (length ps) 2 ps (omega arith) s.0 in
    let none_left : r.left ≡ [] = nothing_left r.left w.rest (end_of r.found r.left ps w.written s.1) in
    let e : level_sequence_at 2 r.found ≡ ps = sym (append-nil (level_sequence_at 2 r.found)) ∙ ap (λ (x : List (ℕ × ℕ)). level_sequence_at 2 r.found ++ x) (sym none_left) ∙ w.written in
    ap₂ (λ (l : ℕ) (qs : List (ℕ × ℕ)). let q : ℕ × ℕ = (l, p.1) in q ∷ qs) (sym first) e

-- ---- the level sequence of a tree is valid
head_follows : (last level : ℕ) (rest : List (ℕ × ℕ)) (c : ℕ) → 2 ≤ level → level ≤ suc last → follows level rest ≡ true → follows last ((level, c) ∷ rest) ≡ true
head_follows last level rest c h k e = and_from (leb 2 level) _ (le-leb 2 level h) (and_from (leb level (suc last)) _ (le-leb level (suc last) k) e)

forest_follows : (level : ℕ) (f : Forest) (x : List (ℕ × ℕ)) (last : ℕ) → 2 ≤ level → level ≤ suc last → ((l : ℕ) → level ≤ suc l → follows l x ≡ true) → follows last (level_sequence_at level f ++ x) ≡ true
forest_follows level none x last h k then_ = then_ last k
forest_follows level (grow c kids rest) x last h k then_ =
    let inner : (l : ℕ) → suc level ≤ suc l → follows l (level_sequence_at level rest ++ x) ≡ true = λ l m. forest_follows level rest x l h (omega arith) then_ in
    let e = forest_follows (suc level) kids (level_sequence_at level rest ++ x) level (omega arith) (omega arith) inner in
    head_follows last level ((level_sequence_at (suc level) kids ++ level_sequence_at level rest) ++ x) c h k (rw append_assoc e)

pub levels_valid : (t : Tree) → has_valid_levels (level_sequence t) ≡ true
levels_valid t =
    let e = forest_follows 2 t.below [] 1 (omega arith) (omega arith) (λ l h. refl) in
    subst (λ (ps : List (ℕ × ℕ)). follows 1 ps ≡ true) (append-nil (level_sequence_at 2 t.below)) e

-- ---- the whole list is one tree
all_colours : (ps : List (ℕ × ℕ)) → list_all (λ (p : ℕ × ℕ). ltb p.1 4) ps ≡ true → AllByRecursion (λ (p : ℕ × ℕ). p.1 < 4) ps
all_colours [] h = tt
all_colours (p ∷ ps) h = let a = and_parts (ltb p.1 4) (list_all (λ (q : ℕ × ℕ). ltb q.1 4) ps) h in (ltb-true p.1 4 a.0, all_colours ps a.1)

pub colours_all : (ps : List (ℕ × ℕ)) → AllByRecursion (λ (p : ℕ × ℕ). p.1 < 4) ps → list_all (λ (p : ℕ × ℕ). ltb p.1 4) ps ≡ true
colours_all [] h = refl
colours_all (p ∷ ps) h = and_from (ltb p.1 4) _ (lt-ltb p.1 4 h.0) (colours_all ps h.1)

same_tree_of : (ps : List (ℕ × ℕ)) → has_valid_levels ps ≡ true → subtree_of ps ≡ tree_of ps
same_tree_of [] h = refl
same_tree_of (p ∷ ps) h =
    let a = and_parts (eqb p.0 1) (follows 1 ps) h in
    ap (λ (l : ℕ). let t : Tree = record { colour = p.1; below = forest_at (suc l) ps } in t) (eqb-true p.0 1 a.0)

tail_of : (p : ℕ × ℕ) (ps qs : List (ℕ × ℕ)) (q : ℕ × ℕ) → (q ∷ qs) ≡ (p ∷ ps) → qs ≡ ps
tail_of p ps qs q e = ap (drop 1) e

pub level_sequence_subtree : (ps : List (ℕ × ℕ)) → is_level_sequence ps ≡ true → IsSubtree ps × (subtree_of ps ≡ tree_of ps)
level_sequence_subtree [] h = cc
level_sequence_subtree (p ∷ ps) h =
    let a = and_parts (leb (suc (length ps)) MAX_NODES) (has_valid_levels (p ∷ ps) && list_all (λ (q : ℕ × ℕ). ltb q.1 4) (p ∷ ps)) h in
    let b = and_parts (has_valid_levels (p ∷ ps)) (list_all (λ (q : ℕ × ℕ). ltb q.1 4) (p ∷ ps)) a.1 in
    let v = and_parts (eqb p.0 1) (follows 1 ps) b.0 in
    let first : p.0 ≡ 1 = eqb-true p.0 1 v.0 in
    let w = tail_of p ps _ _ (written_again (p ∷ ps) b.0) in (
      record {
        some = omega arith;
        shape = subst (λ (l : ℕ). level_sequence_at (suc l) (forest_at (suc l) ps) ≡ ps) (sym first) w;
        small = leb-true (suc (length ps)) MAX_NODES a.0;
        colours = all_colours (p ∷ ps) b.1;
      },
      same_tree_of (p ∷ ps) b.0,
    )

pub valid_levels-describe : (ps : List (ℕ × ℕ)) → IsTrue (has_valid_levels ps) ↔ (level_sequence (tree_of ps) ≡ ps)
valid_levels-describe ps = (written_again ps, λ e. subst (λ (qs : List (ℕ × ℕ)). has_valid_levels qs ≡ true) e (levels_valid (tree_of ps)))
