-- The laws of the lists of all trees.
use Rattle.std.proofs.Common.{◌≡◌, ℕ, zero, suc, ◌+◌, length-append, ◌<◌, ◌≤◌, List, [], ◌∷◌, length, Bool, true, refl, ap, subst, sym, ◌∙◌, arith, IsTrue, All}
use Rattle.std.specs.Prelude.{Contains}
use Rattle.std.specs.List.{AllByRecursion}
use Rattle.std.specs.Ordering.{flip_args}
use Rattle.std.specs.declared.cmp.Ordering.{Ordering}
use Rattle.std.specs.declared.cmp.Ordering.TheVariants.{Less}
use Rattle.std.specs.List.Sorted.{IsStrictlySortedBy}
use Rattle.std.proofs.lemmas.List.Elements.{All-from_recursion, All-weaker}
use Rattle.bs_tree.specs.Tree.{Forest, none, grow, Tree, order, IsColoured, Coloured}
use Rattle.bs_tree.specs.Canonical.{canonical_sequence, sequence_cmp, sorted}
use Rattle.bs_tree.specs.Code.{IsCode, tree_of}
use Rattle.bs_tree.specs.declared.TheConstants.{MAX_NODES, COLOURS}
use Rattle.bs_tree.specs.SubtreeLaws.{length-level_sequence_at}
use Rattle.bs_tree.specs.SortingLaws.{nodes-sorted}
use Rattle.bs_tree.proofs.CodeOf.{canon_is_code}
use Rattle.bs_enum.proofs.Lists.{Falls}
use Rattle.bs_enum.specs.AllTrees.{is_canonical, all_trees, tree_count, trees_up_to}
use Rattle.bs_enum.specs.Laws.{CanonicalIsDecided, EachTreeIsListed, OnlyTreesAreListed, ListDecreases, ListedAreCodes, CountIsOfTheList}
use Rattle.bs_enum.proofs.Steps.{Member}
use Rattle.bs_enum.proofs.Forests.{canonical_from, canonical_to, member_canonical, member_tree}
use Rattle.bs_enum.proofs.Listed.{trees_fall, trees_are_members, IsOfOrder}
use Rattle.bs_enum.proofs.Left.{member_listed, listed_member}

pub canonical_is_decided : CanonicalIsDecided
canonical_is_decided s = (λ h. (tree_of s, canonical_from s h), λ h. canonical_to h.0 s h.1)

length-canonical : (t : Tree) → length (canonical_sequence t) ≡ order t
length-canonical t = ap suc (length-level_sequence_at 2 (sorted t.below) ∙ nodes-sorted t.below)

pub each_tree_is_listed : EachTreeIsListed
each_tree_is_listed n k t e c = member_listed n k (canonical_sequence t) (record { member = member_canonical k t c; size = length-canonical t ∙ e })

all_of_order : (n k : ℕ) → All (IsOfOrder n k) (all_trees n k)
all_of_order n k = All-from_recursion (IsOfOrder n k) (all_trees n k) (trees_are_members n k)

pub only_trees_are_listed : OnlyTreesAreListed
only_trees_are_listed n k =
    All-weaker (IsOfOrder n k) (λ s. (t : Tree) × (order t ≡ n) × IsColoured k t × (canonical_sequence t ≡ s))
    (λ s o. let m = member_tree k s o.member in (tree_of s, m.order_is ∙ o.size, m.coloured, m.canonical)) (all_trees n k) (all_of_order n k)

falls_sorted : {X : Type 0} (R : X → X → Ordering) (xs : List X) → Falls R xs → IsStrictlySortedBy (flip_args R) xs
unfolding IsStrictlySortedBy
falls_sorted R [] h = tt
falls_sorted R (x ∷ xs) h = (h.0, falls_sorted R xs h.1)

pub list_decreases : ListDecreases
list_decreases n k = falls_sorted sequence_cmp (all_trees n k) (trees_fall n k)

coloured_more : (j k : ℕ) (f : Forest) → j ≤ k → Coloured j f → Coloured k f
coloured_more j k none e h = tt
coloured_more j k (grow c kids rest) e h = (let a = h.0 in omega arith, coloured_more j k kids e h.1, coloured_more j k rest e h.2)

-- a member within the bounds is a code
pub member_code : (n k : ℕ) (s : List (ℕ × ℕ)) → n ≤ MAX_NODES → k ≤ COLOURS → IsOfOrder n k s → IsCode s
member_code n k s a b o =
    let m = member_tree k s o.member in
    let c = m.coloured in
    subst IsCode m.canonical
    (canon_is_code (tree_of s) (omega (arith, m.order_is, o.size)) (let d = c.0 in omega arith) (coloured_more k COLOURS (tree_of s).below b c.1))

pub listed_are_codes : ListedAreCodes
listed_are_codes n k a b = All-weaker (IsOfOrder n k) IsCode (λ s o. member_code n k s a b o) (all_trees n k) (all_of_order n k)

pub listed_code : (n k : ℕ) (s : List (ℕ × ℕ)) → n ≤ MAX_NODES → k ≤ COLOURS → Contains (all_trees n k) s → IsCode s
listed_code n k s a b c = member_code n k s a b (listed_member n k s c)

pub count_is_of_the_list : CountIsOfTheList
count_is_of_the_list zero k = refl
count_is_of_the_list (suc n) k =
    length-append (trees_up_to n k) (all_trees (suc n) k) ∙ ap (λ (m : ℕ). m + tree_count (suc n) k) (count_is_of_the_list n k)
