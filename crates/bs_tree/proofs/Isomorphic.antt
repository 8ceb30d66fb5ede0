-- Two trees are isomorphic exactly where their canonical forms are equal.
use Rattle.std.proofs.Common.{◌≡◌, ℕ, Bool, true, false, ◌&&◌, ◌||◌, refl, ap, ap₂, sym, ◌∙◌, arith, eqb, Option, Some, None}
use Rattle.std.proofs.lemmas.Bool.Decides.{nat_tests}
use Rattle.std.specs.declared.cmp.Ordering.{Ordering}
use Rattle.std.specs.declared.cmp.Ordering.TheVariants.{Less, Equal, Greater}
use Rattle.std.specs.Ordering.{is_eq}
use Rattle.std.proofs.lemmas.Cmp.{tied_itself}
use Rattle.bs_tree.specs.Tree.{Forest, none, grow, Tree}
use Rattle.bs_tree.specs.Canonical.{tree_cmp, is_above, insert, sorted}
use Rattle.bs_tree.specs.Isomorphic.{is_empty, take_first, isomorphic_lists}
use Rattle.bs_tree.specs.SortingLaws.{by_cases, insert_comm, insert_inj, same_tree, tree_total}

by_option : {G : Type 0} (o : Option Forest) → (o ≡ None → G) → ((f : Forest) → o ≡ Some f → G) → G
by_option None p q = p refl
by_option (Some f) p q = q f refl

abbrev pub sorted_tree : ℕ → Forest → Tree
sorted_tree d below = record { colour = d; below = sorted below }

sorted-take_first : (p : ℕ → Forest → Bool) (t : Tree) → ((d : ℕ) (below : Forest) → p d below ≡ true → sorted_tree d below ≡ t)
    → (g left : Forest) → take_first p g ≡ Some left → sorted g ≡ insert t (sorted left)
sorted-take_first p t sound none left h = cc
sorted-take_first p t sound (grow d below more) left h =
    by_cases (p d below)
    (λ e. let h' : Some more ≡ Some left = rw e at h in
    let same : more ≡ left = cc in
    ap₂ insert (sound d below e) (ap sorted same))
    (λ e. by_option (take_first p more)
    (λ k. let h' : None ≡ Some left = simp (e, k) at h in cc)
    (λ f k. let h' : Some (grow d below f) ≡ Some left = simp (e, k) at h in
    let same : grow d below f ≡ left = cc in
    ap (insert (sorted_tree d below)) (sorted-take_first p t sound more f k)
    ∙ insert_comm (sorted_tree d below) t (sorted f) ∙ ap (λ x. insert t (sorted x)) same))

-- ---- a tree among the trees of a list
abbrev has : Tree → Forest → Bool
has t none = false
has t (grow d below more) = is_eq (tree_cmp (record { colour = d; below = below }) t) || has t more

or_swap : (a b c : Bool) → (a || (b || c)) ≡ (b || (a || c))
or_swap true true c = refl
or_swap true false c = refl
or_swap false true c = refl
or_swap false false c = refl

has-insert : (t u : Tree) (f : Forest) → has t (insert u f) ≡ (is_eq (tree_cmp u t) || has t f)
has-insert t u none = refl
has-insert t u (grow d below more) =
    let v : Tree = record { colour = d; below = below } in
    by_cases (is_above v u)
    (λ e. let ih = has-insert t u more in simp (e, ih) (or_swap (is_eq (tree_cmp v t)) (is_eq (tree_cmp u t)) (has t more)))
    (λ e. simp e)

eq_equal : (o : Ordering) → is_eq o ≡ true → o ≡ Equal
eq_equal Less h = cc
eq_equal Equal h = refl
eq_equal Greater h = cc

or_false : (a b : Bool) → a ≡ false → b ≡ false → (a || b) ≡ false
or_false a b h k = cc (h, k, ap (λ x. x || b) h)

missing : (p : ℕ → Forest → Bool) (t : Tree) → ((d : ℕ) (below : Forest) → sorted_tree d below ≡ t → p d below ≡ true)
    → (g : Forest) → take_first p g ≡ None → has t (sorted g) ≡ false
missing p t complete none h = refl
missing p t complete (grow d below more) h =
    by_cases (p d below)
    (λ e. let h' : Some more ≡ None = rw e at h in cc)
    (λ e. by_option (take_first p more)
    (λ k. let ih = missing p t complete more k in
    has-insert t (sorted_tree d below) (sorted more) ∙
    by_cases (is_eq (tree_cmp (sorted_tree d below) t))
    (λ y. let same : sorted_tree d below ≡ t = same_tree (sorted_tree d below) t (eq_equal _ y) in
    let z : p d below ≡ true = complete d below same in
    cc)
    (λ n. simp (n, ih)))
    (λ f k. let h' : Some (grow d below f) ≡ None = simp (e, k) at h in cc))

and_both : (a b : Bool) → (a && b) ≡ true → (a ≡ true) × (b ≡ true)
and_both true b h = (refl, h)
and_both false b h = cc

eqb_same : (a b : ℕ) → eqb a b ≡ true → a ≡ b
eqb_same a b h = grind (arith, nat_tests)

eqb_refl : (a : ℕ) → eqb a a ≡ true
eqb_refl a = grind (arith, nat_tests)

empty_none : (g : Forest) → is_empty g ≡ true → g ≡ none
empty_none none h = refl
empty_none (grow d below more) h = cc

pub sorted_from_isomorphic : (f g : Forest) → isomorphic_lists f g ≡ true → sorted f ≡ sorted g
sorted_from_isomorphic none g h = ap sorted (sym (empty_none g h))
sorted_from_isomorphic (grow c kids rest) g h =
    by_option (take_first (λ d below. eqb c d && isomorphic_lists kids below) g)
    (λ k. let h' : false ≡ true = rw k at h in cc)
    (λ left k.
    let h' : isomorphic_lists rest left ≡ true = rw k at h in
    ap (insert (sorted_tree c kids)) (sorted_from_isomorphic rest left h')
    ∙ sym (sorted-take_first (λ d below. eqb c d && isomorphic_lists kids below) (sorted_tree c kids)
    (λ d below e.
    let b = and_both _ _ e in
    let e1 = eqb_same c d b.0 in
    let e2 = sorted_from_isomorphic kids below b.1 in
    ap₂ (λ (n : ℕ) (x : Forest). let v : Tree = record { colour = n; below = x } in v) (sym e1) (sym e2))
    g left k))

insert_some : (t : Tree) (f : Forest) → is_empty (insert t f) ≡ false
insert_some t none = refl
insert_some t (grow d below more) =
    by_cases (is_above (record { colour = d; below = below }) t) (λ e. simp e) (λ e. simp e)

sorted_none : (g : Forest) → none ≡ sorted g → g ≡ none
sorted_none none h = refl
sorted_none (grow d below more) h =
    let e : true ≡ false = ap is_empty h ∙ insert_some (sorted_tree d below) (sorted more) in cc

pub isomorphic_from_sorted : (f g : Forest) → sorted f ≡ sorted g → isomorphic_lists f g ≡ true
isomorphic_from_sorted none g h = ap is_empty (sorted_none g h)
isomorphic_from_sorted (grow c kids rest) g h =
    let p : ℕ → Forest → Bool = λ d below. eqb c d && isomorphic_lists kids below in
    let t : Tree = sorted_tree c kids in
    by_option (take_first p g)
    (λ k.
    let out : has t (sorted g) ≡ false = missing p t
    (λ d below e.
    let e1 : d ≡ c = ap (λ (x : Tree). x.colour) e in
    let e2 : sorted below ≡ sorted kids = ap (λ (x : Tree). x.below) e in
    let ih : isomorphic_lists kids below ≡ true = isomorphic_from_sorted kids below (sym e2) in
    rw (e1, ih, eqb_refl c) refl)
    g k in
    let there : has t (sorted g) ≡ true =
    ap (has t) (sym h) ∙ has-insert t t (sorted rest) ∙ ap (λ (o : Ordering). is_eq o || has t (sorted rest)) (tied_itself tree_total t) in
    cc)
    (λ left k.
    let split : sorted g ≡ insert t (sorted left) = sorted-take_first p t
    (λ d below e.
    let b = and_both _ _ e in
    let e1 = eqb_same c d b.0 in
    let e2 = sorted_from_isomorphic kids below b.1 in
    ap₂ (λ (n : ℕ) (x : Forest). let v : Tree = record { colour = n; below = x } in v) (sym e1) (sym e2))
    g left k in
    let same : sorted rest ≡ sorted left = insert_inj t (sorted rest) (sorted left) (h ∙ split) in
    rw k (isomorphic_from_sorted rest left same))
