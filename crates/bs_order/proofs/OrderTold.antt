-- An order that is told is met.
use Rattle.std.proofs.Common.{◌≡◌, ℕ, zero, suc, ◌+◌, ◌-◌, ◌<◌, ◌&&◌, ℤ, pos, negsuc, map, Bool, true, false, List, [], ◌∷◌, refl, ap, ap₂, subst, inl, inr, arith, ◌==◌}
use Rattle.std.specs.List.{AllByRecursion, list_any, prefix_len, range_with_len}
use Rattle.std.proofs.lemmas.Bool.{cases_Bool, eqb-true}
use Rattle.std.proofs.lemmas.List.Elements.{All-from_recursion}
use Rattle.bs_frac.specs.Fraction.{Fraction, SameFraction}
use Rattle.bs_frac.specs.declared.coef.Coef.{Coef}
use Rattle.bs_frac.specs.declared.coef.Coef.TheVariants.{Value, Overflow}
use Rattle.bs_tree.specs.Code.{tree_of}
use Rattle.bs_enum.specs.AllTrees.{all_trees}
use Rattle.bs_tableau.specs.ElementaryWeight.{elementary_weight}
use Rattle.bs_tableau.specs.Table.{Table, IsBegun}
use Rattle.bs_tableau.specs.Laws.{IfValue}
use Rattle.bs_tableau.proofs.CheckedWeights.{written_is_weight_law}
use Rattle.bs_reply.specs.Verdicts.{same_whole, same_pair, verdict}
use Rattle.bs_reply.specs.declared.verdict.Verdict.{Verdict}
use Rattle.bs_reply.specs.declared.verdict.Verdict.TheVariants.{Holds, Fails, Unknown}
use Rattle.bs_order.specs.Laws.{OrderIsMet}
use Rattle.bs_order.specs.OrderConditions.{target_of, weight_at, verdict_at, together, verdict_of_order, is_holding, is_failing, is_unknown}

-- ---- the numbers in front pass
prefix-passes : (p : ℕ → Bool) (a len i : ℕ) → i < prefix_len p (range_with_len a len) → p (a + i) ≡ true
prefix-passes p a zero i h = absurd (omega (arith, h))
prefix-passes p a (suc len) zero h =
    elim (cases_Bool (p a)) [
      | inl e ↦ subst (λ n. p n ≡ true) (let s : a ≡ a + 0 = omega arith in s) e
      | inr e ↦ let none : zero < 0 = rw e at h in absurd (omega (arith, none))
    ]
prefix-passes p a (suc len) (suc i) h =
    elim (cases_Bool (p a)) [
      | inl e ↦
          let less : suc i < 1 + prefix_len p (range_with_len (a + 1) len) = rw e at h in
          subst (λ n. p n ≡ true) (let s : a + 1 + i ≡ a + suc i = omega arith in s) (prefix-passes p (a + 1) len i (omega (arith, less)))
      | inr e ↦ let none : suc i < 0 = rw e at h in absurd (omega (arith, none))
    ]

-- ---- verdicts that hold together hold each
each_holds : (vs : List Verdict) → list_any is_failing vs ≡ false → list_any is_unknown vs ≡ false → AllByRecursion (λ v. v ≡ Holds) vs
each_holds [] f u = tt
each_holds (Holds ∷ vs) f u = (refl, each_holds vs f u)
each_holds (Fails ∷ vs) f u = cc
each_holds (Unknown ∷ vs) f u = cc

together-each : (vs : List Verdict) → is_holding (together vs) ≡ true → AllByRecursion (λ v. v ≡ Holds) vs
together-each vs h =
    elim (cases_Bool (list_any is_failing vs)) [
      | inl f ↦ let no : false ≡ true = rw f at h in cc
      | inr f ↦
          elim (cases_Bool (list_any is_unknown vs)) [
            | inl u ↦ let no : false ≡ true = rw (f, u) at h in cc
            | inr u ↦ each_holds vs f u
          ]
    ]

-- ---- a verdict that holds is on the target
whole-same : (m n : ℤ) → same_whole m n ≡ true → m ≡ n
whole-same (pos m) (pos n) h = ap pos (eqb-true m n h)
whole-same (pos m) (negsuc n) h = cc
whole-same (negsuc m) (pos n) h = cc
whole-same (negsuc m) (negsuc n) h = ap negsuc (eqb-true m n h)

both : (a b : Bool) → (a && b) ≡ true → (a ≡ true) × (b ≡ true)
both true b h = (refl, h)
both false b h = cc

pair-same : (x y : Fraction) → same_pair x y ≡ true → x ≡ y
pair-same x y h =
    let parts = both (same_whole x.top y.top) (x.bottom == y.bottom) h in
    ap₂ (λ (top : ℤ) (bottom : ℕ). let z : Fraction = record { top = top; bottom = bottom } in z) (whole-same x.top y.top parts.0) (eqb-true x.bottom y.bottom parts.1)

verdict-value : (c : Coef) (target : Fraction) → verdict c target ≡ Holds → c ≡ Value target
verdict-value (Value x) target h =
    elim (cases_Bool (same_pair x target)) [
      | inl e ↦ ap Value (pair-same x target e)
      | inr e ↦ let no : Fails ≡ Holds = rw e at h in cc
    ]
verdict-value Overflow target h = cc

value-weight : (t : Table) → IsBegun t → (code : List (ℕ × ℕ)) → verdict_at t code ≡ Holds → SameFraction (target_of code) (elementary_weight t (tree_of code))
value-weight t begun code h =
    subst (λ c. IfValue c (λ x. SameFraction x (elementary_weight t (tree_of code)))) (verdict-value (weight_at t code) (target_of code) h)
    (written_is_weight_law t begun (tree_of code))

each_weight : (t : Table) → IsBegun t → (codes : List (List (ℕ × ℕ))) → AllByRecursion (λ v. v ≡ Holds) (map (verdict_at t) codes)
    → AllByRecursion (λ code. SameFraction (target_of code) (elementary_weight t (tree_of code))) codes
each_weight t begun [] h = tt
each_weight t begun (code ∷ codes) h = (value-weight t begun code h.0, each_weight t begun codes h.1)

pub order_is_met : OrderIsMet
order_is_met t begun p n some within =
    let passes : is_holding (verdict_of_order t (1 + (n - 1))) ≡ true = prefix-passes (λ i. is_holding (verdict_of_order t i)) 1 p (n - 1) (omega (arith, within, some)) in
    let here : is_holding (verdict_of_order t n) ≡ true = subst (λ i. is_holding (verdict_of_order t i) ≡ true) (let e : 1 + (n - 1) ≡ n = omega (arith, some) in e) passes in
    All-from_recursion _ (all_trees n t.colours) (each_weight t begun (all_trees n t.colours) (together-each (map (verdict_at t) (all_trees n t.colours)) here))
