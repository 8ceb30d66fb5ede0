-- The order of pairs, and what a change of a sheet leaves at each pair.
use Rattle.std.proofs.Common.{◌≡◌, ℕ, true, false, Option, Some, None, cond, refl, sym, ◌∙◌, ap, ap₂, subst}
use Rattle.std.specs.Cmp.{IsTotalOrder, then_total, on_total, nat_cmp_total, tied_itself}
use Rattle.std.specs.FinMap as map
use Rattle.std.specs.FinMap.{IsAntisymmetric}
use Rattle.std.specs.Ordering.{is_eq, eq_by_cmp}
use Rattle.std.specs.declared.cmp.Ordering.{Ordering}
use Rattle.std.specs.declared.cmp.Ordering.TheVariants.{Less, Equal, Greater}
use Rattle.bs_frac.specs.declared.coef.Coef.{Coef}
use Rattle.bs_tree.specs.CodeEquality.{same_code-Decides}
use Rattle.bs_tree.specs.OrderLaws.{sequence_total, nat_cmp-equal, then-equal_both}
use Rattle.bs_series.specs.SeriesCode.{Code}
use Rattle.bs_alone.specs.Sheet.{Sheet, pair_cmp, no_pairs, kept, kept_with, IsOther}

pub pair_total : IsTotalOrder pair_cmp
pair_total = then_total (on_total (λ (p : ℕ × Code). p.0) nat_cmp_total) (on_total (λ (p : ℕ × Code). p.1) sequence_total)

pub same_pair : IsAntisymmetric pair_cmp
same_pair p q h =
    let both = then-equal_both _ _ h in
    ap₂ (λ (i : ℕ) (code : Code). let pair : ℕ × Code = (i, code) in pair) (nat_cmp-equal p.0 q.0 both.0) ((same_code-Decides p.1 q.1).0 (ap is_eq both.1))

pub is_eq-true : (o : Ordering) → is_eq o ≡ true → o ≡ Equal
is_eq-true Less h = cc
is_eq-true Equal h = refl
is_eq-true Greater h = cc

-- the value at a pair after a change
pub kept-with : (sheet : Sheet) (i : ℕ) (code : Code) (c : Coef) (j : ℕ) (other : Code)
    → kept (kept_with sheet i code c) j other ≡ cond (eq_by_cmp pair_cmp (j, other) (i, code)) (Some c) (kept sheet j other)
kept-with sheet i code c j other = map.get-insert pair_total sheet (i, code) c (j, other)

pub found : (sheet : Sheet) (i : ℕ) (code : Code) (c : Coef) → kept (kept_with sheet i code c) i code ≡ Some c
found sheet i code c = kept-with sheet i code c i code ∙ ap (λ o. cond (is_eq o) (Some c) (kept sheet i code)) (tied_itself pair_total (i, code))

-- either the two pairs are one, or the value is the old one
pub kept-cases : (P : Option Coef → Type 0) (sheet : Sheet) (i : ℕ) (code : Code) (c : Coef) (j : ℕ) (other : Code)
    → ((j ≡ i) → (other ≡ code) → P (Some c)) → (IsOther i code j other → P (kept sheet j other)) → P (kept (kept_with sheet i code c) j other)
kept-cases P sheet i code c j other here there =
    subst P (sym (kept-with sheet i code c j other))
    (elim (eq_by_cmp pair_cmp (j, other) (i, code)) as (λ b. eq_by_cmp pair_cmp (j, other) (i, code) ≡ b → P (cond b (Some c) (kept sheet j other))) [
      | true ↦ λ e. let same = then-equal_both _ _ (is_eq-true _ e) in here (nat_cmp-equal j i same.0) ((same_code-Decides other code).0 (ap is_eq same.1))
      | false ↦ λ e. there (λ both. let tied : eq_by_cmp pair_cmp (j, other) (i, code) ≡ true =
          ap₂ (λ (m : ℕ) (s : Code). eq_by_cmp pair_cmp (m, s) (i, code)) both.0 both.1 ∙ ap is_eq (tied_itself pair_total (i, code)) in cc)
    ] refl)

pub others : (sheet : Sheet) (i : ℕ) (code : Code) (c : Coef) (j : ℕ) (other : Code) → IsOther i code j other
    → kept (kept_with sheet i code c) j other ≡ kept sheet j other
others sheet i code c j other apart =
    kept-cases (λ o. o ≡ kept sheet j other) sheet i code c j other (λ e f. absurd (apart (e, f))) (λ _. refl)

pub none_kept : (i : ℕ) (code : Code) → kept no_pairs i code ≡ None
none_kept i code = map.get-empty pair_cmp (i, code)
