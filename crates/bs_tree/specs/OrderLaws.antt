-- The order of sequences is the order of trees.
use Rattle.std.proofs.Common.{◌≡◌, ℕ, suc, ◌<◌, List, [], ◌∷◌, ◌++◌, refl, ap, ap₂, sym, ◌∙◌, arith, append_assoc, append-nil}
use Rattle.std.specs.declared.cmp.Ordering.{Ordering}
use Rattle.std.specs.declared.cmp.Ordering.TheVariants.{Less, Equal, Greater}
use Rattle.std.specs.Ordering.{nat_cmp, ordering_then, ordering_reverse}
use Rattle.std.specs.Cmp.{IsTotalOrder}
use Rattle.std.proofs.lemmas.Cmp.{nat_cmp_total, tied_itself, lists_total, on_total, then_total}
use Rattle.std.proofs.lemmas.Bool.Decides.{nat_tests}
use Rattle.bs_tree.specs.Tree.{Forest, none, grow}
use Rattle.bs_tree.specs.Canonical.{level_sequence_at}
use Rattle.bs_tree.specs.Canonical.{pair_cmp, sequence_cmp, compare}

-- nothing, or a list that begins below this level
abbrev pub IsLow : ℕ → List (ℕ × ℕ) → Type 0
IsLow l [] = Unit {0}
IsLow l (x ∷ xs) = x.0 < l

nat_cmp-less : (m n : ℕ) → m < n → nat_cmp m n ≡ Less
nat_cmp-less m n h = grind (arith, nat_tests)

nat_cmp-greater : (m n : ℕ) → n < m → nat_cmp m n ≡ Greater
nat_cmp-greater m n h = grind (arith, nat_tests)

pub nat_cmp-same : (n : ℕ) → nat_cmp n n ≡ Equal
nat_cmp-same n = tied_itself nat_cmp_total n

pub then_assoc : (a b c : Ordering) → ordering_then (ordering_then a b) c ≡ ordering_then a (ordering_then b c)
then_assoc Less b c = refl
then_assoc Equal b c = refl
then_assoc Greater b c = refl

low_less : (l d : ℕ) (x ys : List (ℕ × ℕ)) → IsLow l x → sequence_cmp x ((l, d) ∷ ys) ≡ Less
low_less l d [] ys h = refl
low_less l d (p ∷ xs) ys h = rw (nat_cmp-less p.0 l h) refl

low_greater : (l d : ℕ) (x ys : List (ℕ × ℕ)) → IsLow l x → sequence_cmp ((l, d) ∷ ys) x ≡ Greater
low_greater l d [] ys h = refl
low_greater l d (p ∷ xs) ys h = rw (nat_cmp-greater l p.0 h) refl

low_more : (l : ℕ) (x : List (ℕ × ℕ)) → IsLow l x → IsLow (suc l) x
low_more l [] h = tt
low_more l (p ∷ xs) h = omega arith

low_rest : (l : ℕ) (f : Forest) (x : List (ℕ × ℕ)) → IsLow l x → IsLow (suc l) (level_sequence_at l f ++ x)
low_rest l none x h = low_more l x h
low_rest l (grow c kids rest) x h = omega arith

pub compare_onto : (l : ℕ) (f g : Forest) (x y : List (ℕ × ℕ)) → IsLow l x → IsLow l y
    → sequence_cmp (level_sequence_at l f ++ x) (level_sequence_at l g ++ y) ≡ ordering_then (compare f g) (sequence_cmp x y)
compare_onto l none none x y h k = refl
compare_onto l none (grow d below more) x y h k = low_less l d x _ h
compare_onto l (grow c kids rest) none x y h k = low_greater l c y _ k
compare_onto l (grow c kids rest) (grow d below more) x y h k =
    rw (
      nat_cmp-same l,
      append_assoc (level_sequence_at (suc l) kids) (level_sequence_at l rest) x,
      append_assoc (level_sequence_at (suc l) below) (level_sequence_at l more) y,
      compare_onto (suc l) kids below (level_sequence_at l rest ++ x) (level_sequence_at l more ++ y) (low_rest l rest x h) (low_rest l more y k),
      compare_onto l rest more x y h k,
    )
    (simp then_assoc)

then-equal : (o : Ordering) → ordering_then o Equal ≡ o
then-equal Less = refl
then-equal Equal = refl
then-equal Greater = refl

pub compare_is : (l : ℕ) (f g : Forest) → sequence_cmp (level_sequence_at l f) (level_sequence_at l g) ≡ compare f g
compare_is l f g =
    let e = compare_onto l f g [] [] tt tt in
    let e1 = append-nil (level_sequence_at l f) in
    let e2 = append-nil (level_sequence_at l g) in
    sym (ap₂ (λ (xs ys : List (ℕ × ℕ)). sequence_cmp xs ys) e1 e2) ∙ e ∙ then-equal (compare f g)

pub pair_total : IsTotalOrder pair_cmp
pair_total = then_total (on_total (λ (p : ℕ × ℕ). p.0) nat_cmp_total) (on_total (λ (p : ℕ × ℕ). p.1) nat_cmp_total)

pub sequence_total : IsTotalOrder sequence_cmp
sequence_total = lists_total pair_total

pub compare_total : IsTotalOrder compare
compare_total =
    let s : Forest → List (ℕ × ℕ) = level_sequence_at 0 in
    record {
      antisymm = λ f g. sym (compare_is 0 f g) ∙ sequence_total.antisymm (s f) (s g) ∙ ap ordering_reverse (compare_is 0 g f);
      trans = λ f g h p q. sym (compare_is 0 f h) ∙ sequence_total.trans (s f) (s g) (s h) (compare_is 0 f g ∙ p) (compare_is 0 g h ∙ q);
      congr = λ f g h p. sym (compare_is 0 f h) ∙ sequence_total.congr (s f) (s g) (s h) (compare_is 0 f g ∙ p) ∙ compare_is 0 g h;
    }

pub nat_cmp-equal : (m n : ℕ) → nat_cmp m n ≡ Equal → m ≡ n
nat_cmp-equal m n h = grind (arith, nat_tests)

pub then-equal_both : (a b : Ordering) → ordering_then a b ≡ Equal → (a ≡ Equal) × (b ≡ Equal)
then-equal_both Less b h = cc
then-equal_both Equal b h = (refl, h)
then-equal_both Greater b h = cc

pub same_from_compare : (f g : Forest) → compare f g ≡ Equal → f ≡ g
same_from_compare none none h = refl
same_from_compare none (grow d below more) h = cc
same_from_compare (grow c kids rest) none h = cc
same_from_compare (grow c kids rest) (grow d below more) h =
    let a = then-equal_both _ _ h in
    let b = then-equal_both _ _ a.0 in
    let e1 = nat_cmp-equal c d b.0 in
    let e2 = same_from_compare kids below b.1 in
    let e3 = same_from_compare rest more a.1 in
    cc
