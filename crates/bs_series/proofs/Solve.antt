-- A rule that reads smaller trees alone has one solution.
use Rattle.std.proofs.Common.{◌≡◌, ℕ, suc, zero, ◌<◌, ◌≤◌, arith, sym, subst}
use Rattle.bs_frac.specs.Fraction.{Fraction, SameFraction}
use Rattle.bs_tree.specs.Tree.{Tree, nodes, order}
use Rattle.bs_tree.specs.Canonical.{canonical_of}
use Rattle.bs_series.specs.Value.{within, solution}
use Rattle.bs_frac.proofs.Same.{same_trans}

abbrev pub IsLocal : {N : Type 0} → ((Tree → N) → Tree → N) → Type 0
IsLocal {N} step = (x y : Tree → N) (t : Tree) → ((u : Tree) → order u < order t → x u ≡ y u) → step x t ≡ step y t

module _ {N : Type 0} (start : N) (step : (Tree → N) → Tree → N) (local : IsLocal step) where
  within_more : (m n : ℕ) (t : Tree) → order t ≤ m → order t ≤ n → within m start step t ≡ within n start step t
  within_more zero n t h k = absurd (omega arith)
  within_more (suc m) zero t h k = absurd (omega arith)
  within_more (suc m) (suc n) t h k = local (within m start step) (within n start step) t (λ u l. within_more m n u (omega arith) (omega arith))

  pub solution_unfold : (t : Tree) → solution start step t ≡ step (solution start step) t
  solution_unfold t = local (within (nodes t.below) start step) (solution start step) t
      (λ u l. within_more (nodes t.below) (order u) u (omega arith) (let h : order u ≤ order u = omega arith in h))

-- what a rule keeps is kept by its solution
pub within_keeps : {N : Type 0} (P : N → Type 0) (start : N) (step : (Tree → N) → Tree → N) → P start
    → ((x : Tree → N) → ((u : Tree) → P (x u)) → (t : Tree) → P (step x t)) → (n : ℕ) (t : Tree) → P (within n start step t)
within_keeps P start step h k zero t = h
within_keeps P start step h k (suc n) t = k (within n start step) (λ u. within_keeps P start step h k n u) t

abbrev pub IsLocalSame : ((Tree → Fraction) → Tree → Fraction) → Type 0
IsLocalSame step = (x y : Tree → Fraction) (t : Tree) → canonical_of t ≡ t
    → ((u : Tree) → canonical_of u ≡ u → order u < order t → SameFraction (x u) (y u)) → SameFraction (step x t) (step y t)

module _ (start : Fraction) (step : (Tree → Fraction) → Tree → Fraction) (local : IsLocal step) (same : IsLocalSame step) (n : ℕ) (y : Tree → Fraction)
    (solves : (t : Tree) → canonical_of t ≡ t → order t ≤ n → SameFraction (y t) (step y t)) where
  unique_within : (m : ℕ) (t : Tree) → canonical_of t ≡ t → order t ≤ m → order t ≤ n → SameFraction (y t) (solution start step t)
  unique_within zero t c h k = absurd (omega arith)
  unique_within (suc m) t c h k =
      subst (λ v. SameFraction (y t) v) (sym (solution_unfold start step local t))
      (same_trans (solves t c k) (same y (solution start step) t c (λ u d l. unique_within m u d (omega arith) (omega arith))))

  pub unique : (t : Tree) → canonical_of t ≡ t → order t ≤ n → SameFraction (y t) (solution start step t)
  unique t c k = unique_within (order t) t c (omega arith) k
