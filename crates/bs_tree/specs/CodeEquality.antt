-- The test of equality of codes decides equality.
use Rattle.std.proofs.Common.{◌≡◌, ℕ, List, [], ◌∷◌, true, refl, ap, ap₂, subst}
use Rattle.std.specs.Bool.{Decides}
use Rattle.std.specs.Cmp.{IsEquivalence}
use Rattle.std.specs.declared.cmp.Ordering.{Ordering}
use Rattle.std.specs.declared.cmp.Ordering.TheVariants.{Less, Equal, Greater}
use Rattle.std.specs.Ordering.{eq_by_cmp, is_eq}
use Rattle.std.proofs.lemmas.Cmp.{eq_by_cmp_equiv, tied_itself}
use Rattle.bs_tree.specs.Canonical.{sequence_cmp}
use Rattle.bs_tree.specs.Code.{same_code}
use Rattle.bs_tree.specs.OrderLaws.{sequence_total, then-equal_both, nat_cmp-equal}

pub sequence_equivalence : IsEquivalence (eq_by_cmp sequence_cmp)
sequence_equivalence = eq_by_cmp_equiv sequence_total

same_sequence : (s r : List (ℕ × ℕ)) → sequence_cmp s r ≡ Equal → s ≡ r
same_sequence [] [] h = refl
same_sequence [] (y ∷ ys) h = cc
same_sequence (x ∷ xs) [] h = cc
same_sequence (x ∷ xs) (y ∷ ys) h =
    let a = then-equal_both _ _ h in
    let b = then-equal_both _ _ a.0 in
    let e0 = nat_cmp-equal x.0 y.0 b.0 in
    let e1 = nat_cmp-equal x.1 y.1 b.1 in
    let rest = same_sequence xs ys a.1 in
    ap₂ (λ (p : ℕ × ℕ) (ps : List (ℕ × ℕ)). p ∷ ps) (ap₂ (λ (m n : ℕ). let p : ℕ × ℕ = (m, n) in p) e0 e1) rest

is_eq-true : (o : Ordering) → is_eq o ≡ true → o ≡ Equal
is_eq-true Less h = cc
is_eq-true Equal h = refl
is_eq-true Greater h = cc

pub same_code-Decides : (a b : List (ℕ × ℕ)) → Decides (same_code a b) (a ≡ b)
same_code-Decides a b = (
  λ h. same_sequence a b (is_eq-true (sequence_cmp a b) h),
  λ e. subst (λ (x : List (ℕ × ℕ)). same_code a x ≡ true) e (ap is_eq (tied_itself sequence_total a)),
)
