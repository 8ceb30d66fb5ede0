-- Texts that are written line by line.
use Rattle.std.proofs.Common.{◌≡◌, ℕ, suc, ◌+◌, ◌-◌, ◌<◌, ◌≤◌, List, [], ◌∷◌, ◌++◌, codes, decimal, flat_map, refl, sym, ap, ◌∙◌, append_assoc, append-nil, arith}
use Rattle.bs_make.specs.Draws.{next, drawn, after_draws}
use Rattle.std.proofs.lemmas.Grind.{common_steps}
use Rattle.std.specs.Fmt.{digits}
use Rattle.bs_make.specs.Made.{joined, tree_name, further, tree_line, tree_lines, after_tree, after_trees, session_block, session_lines, after_session}

pub joined_append : (ls ms : List (List ℕ)) → joined (ls ++ ms) ≡ joined ls ++ joined ms
joined_append [] ms = refl
joined_append (l ∷ ls) ms = ap (λ x. l ++ 10 ∷ x) (joined_append ls ms) ∙ sym (append_assoc l (10 ∷ joined ls) (joined ms))

-- one piece more of a text
pub one_more : (out new piece rest all : List ℕ) → out ++ (piece ++ rest) ≡ all → new ≡ out ++ piece → new ++ rest ≡ all
one_more out new piece rest all h e = ap (λ x. x ++ rest) e ∙ append_assoc out piece rest ∙ h

one_fewer : (n k : ℕ) → k < n → n - k ≡ suc (n - (k + 1))
one_fewer n k lt = omega arith

pub levels-more : (n k level x : ℕ) (out new all : List ℕ) → k < n
    → out ++ flat_map (λ l. codes "," ++ decimal l) (further (n - k) level x) ≡ all → new ≡ out ++ (codes "," ++ decimal (2 + drawn level x))
    → new ++ flat_map (λ l. codes "," ++ decimal l) (further (n - (k + 1)) (2 + drawn level x) (next x)) ≡ all
levels-more n k level x out new all lt h e = one_more out new (codes "," ++ decimal (2 + drawn level x)) _ all (let f = rw (one_fewer n k lt) at h in f) e

pub draws-more : (n k x : ℕ) → k < n → after_draws (n - (k + 1)) (next x) ≡ after_draws (n - k) x
draws-more n k x lt = rw (one_fewer n k lt) refl

pub trees-more : (n k x : ℕ) (out new all : List ℕ) → k < n → out ++ joined (tree_lines (n - k) k x) ≡ all → new ≡ out ++ (tree_line k x ++ codes "\n")
    → new ++ joined (tree_lines (n - (k + 1)) (k + 1) (after_tree x)) ≡ all
trees-more n k x out new all lt h e =
    let f : out ++ (tree_line k x ++ 10 ∷ joined (tree_lines (n - (k + 1)) (k + 1) (after_tree x))) ≡ all = rw (one_fewer n k lt) at h in
    one_more out new (tree_line k x ++ codes "\n") _ all (ap (λ y. out ++ y) (append_assoc (tree_line k x) (codes "\n") _) ∙ f) e

pub trees-after : (n k x : ℕ) → k < n → after_trees (n - (k + 1)) (after_tree x) ≡ after_trees (n - k) x
trees-after n k x lt = rw (one_fewer n k lt) refl

none_left : (n k : ℕ) → n ≤ k → n - k ≡ 0
none_left n k le = omega arith

pub trees-end : (n k x : ℕ) (out all : List ℕ) → n ≤ k → out ++ joined (tree_lines (n - k) k x) ≡ all → out ≡ all
trees-end n k x out all le h = let f : out ++ [] ≡ all = rw (none_left n k le) at h in sym (append-nil out) ∙ f

pub trees_after-end : (n k x y : ℕ) → n ≤ k → after_trees (n - k) x ≡ y → x ≡ y
trees_after-end n k x y le h = rw (none_left n k le) at h

pub sessions-end : (n k x : ℕ) (out all : List ℕ) → n ≤ k → out ++ joined (session_lines (n - k) x) ≡ all → out ≡ all
unfolding session_lines
sessions-end n k x out all le h = let f : out ++ [] ≡ all = rw (none_left n k le) at h in sym (append-nil out) ∙ f

pub sessions-more : (n k x : ℕ) (out new all : List ℕ) → k < n → out ++ joined (session_lines (n - k) x) ≡ all → new ≡ out ++ joined (session_block x)
    → new ++ joined (session_lines (n - (k + 1)) (after_session x)) ≡ all
unfolding session_lines
sessions-more n k x out new all lt h e =
    let f : out ++ joined (session_block x ++ session_lines (n - (k + 1)) (after_session x)) ≡ all = rw (one_fewer n k lt) at h in
    one_more out new (joined (session_block x)) _ all (ap (λ y. out ++ y) (sym (joined_append (session_block x) _)) ∙ f) e

-- four pieces behind one another
pub four_pieces : (old a b c d n m e : List ℕ) → n ≡ old ++ a → m ≡ n ++ b ++ c → e ≡ m ++ d → e ≡ old ++ (a ++ (b ++ (c ++ d)))
four_pieces old a b c d n m e h i j = rw (j, i, h) (
    append_assoc ((old ++ a) ++ b) c d ∙ append_assoc (old ++ a) b (c ++ d) ∙ append_assoc old a (b ++ (c ++ d)))

-- lines behind lines
pub lines_more : (old n m : List ℕ) (ls ms : List (List ℕ)) → n ≡ old ++ joined ls → m ≡ n ++ joined ms → m ≡ old ++ joined (ls ++ ms)
lines_more old n m ls ms h i = i ∙ ap (λ x. x ++ joined ms) h ∙ append_assoc old (joined ls) (joined ms) ∙ ap (λ x. old ++ x) (sym (joined_append ls ms))

-- the pieces of a tree's line
tree_grouped : (old a b c d e f : List ℕ) → ((((old ++ a) ++ b) ++ (c ++ d)) ++ e) ++ f ≡ (old ++ (((a ++ b) ++ c) ++ (d ++ e))) ++ f
tree_grouped old a b c d e f = grind (arith, common_steps)

pub tree_written : (old n1 n2 n3 n4 n5 : List ℕ) (j x : ℕ) → n1 ≡ old ++ codes "tree " → n2 ≡ n1 ++ tree_name j → n3 ≡ n2 ++ codes " 1"
    → n4 ≡ n3 ++ flat_map (λ l. codes "," ++ decimal l) (further (drawn 10 x) 1 (next x)) → n5 ≡ n4 ++ codes "\n" → n5 ≡ old ++ tree_line j x ++ codes "\n"
unfolding tree_line digits
tree_written old n1 n2 n3 n4 n5 j x h i k l m =
    rw (m, l, k, i, h) (tree_grouped old (codes "tree ") (tree_name j) (codes " ") (codes "1") (flat_map (λ y. codes "," ++ decimal y) (further (drawn 10 x) 1 (next x))) (codes "\n"))
