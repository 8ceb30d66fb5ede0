-- Order conditions: the target of a tree, and the order that the verdicts tell.
use Rattle.std.proofs.Common.{◌≡◌, ℕ, zero, suc, ◌+◌, ◌<◌, ◌≤◌, ◌/◌, ◌&&◌, map, nat_lt, Bool, true, false, List, ◌++◌, take, length, Some, refl, sym, ◌∙◌, ap, subst, arith, nat_le, pos, add-one}
use Rattle.std.specs.List.{flat_map, prefix_len, range_with_len}
use Rattle.std.proofs.Math.Seq.{take-append_seam}
use Rattle.std.proofs.lemmas.Bool.Decides.{nat_tests}
use Rattle.bs_frac.specs.Fraction.{Fraction}
use Rattle.bs_frac.specs.Checked.{largest, checked_fraction}
use Rattle.bs_frac.proofs.GcdLaws.{gcd-one}
use Rattle.std.proofs.lemmas.List.{append_assoc}
use Rattle.std.proofs.lemmas.List.Concat.{flat_map-append}
use Rattle.bs_enum.specs.AllTrees.{all_trees, trees_up_to}
use Rattle.bs_enum.specs.Walk.{Ahead, whole}
use Rattle.bs_tableau.specs.Table.{Table}
use Rattle.bs_reply.specs.declared.verdict.Verdict.{Verdict}
use Rattle.bs_order.specs.OrderConditions.{verdict_at, together, verdict_of_order, is_holding, is_unknown, order_of, is_open}

-- ---- one over a whole number
pub one_over : (d : ℕ) → d ≤ largest → checked_fraction false 1 d ≡ Some (record { top = pos 1; bottom = d })
one_over d small =
    let fits : nat_le d largest ≡ true = grind (arith, nat_tests) in
    let itself : d / 1 ≡ d = omega arith in
    rw (gcd-one d, itself, fits) refl

-- ---- how many numbers from the first on pass
pub prefix-all : (p : ℕ → Bool) (a len : ℕ) → ((n : ℕ) → n < len → p (a + n) ≡ true) → prefix_len p (range_with_len a len) ≡ len
prefix-all p a zero h = refl
prefix-all p a (suc len) h =
    let here : p a ≡ true = subst (λ n. p n ≡ true) (let e : a + 0 ≡ a = omega arith in e) (h 0 (omega arith)) in
    let rest = prefix-all p (a + 1) len (λ n less. subst (λ m. p m ≡ true) (let e : a + suc n ≡ a + 1 + n = omega arith in e) (h (suc n) (omega arith))) in
    rw here (ap (λ n. 1 + n) rest ∙ (let e : 1 + len ≡ suc len = omega arith in e))

pub prefix-until : (p : ℕ → Bool) (a len i : ℕ) → i < len → ((n : ℕ) → n < i → p (a + n) ≡ true) → p (a + i) ≡ false → prefix_len p (range_with_len a len) ≡ i
prefix-until p a zero i less h stop = absurd (omega (arith, less))
prefix-until p a (suc len) zero less h stop =
    let here : p a ≡ false = subst (λ n. p n ≡ false) (let e : a + 0 ≡ a = omega arith in e) stop in
    rw here refl
prefix-until p a (suc len) (suc i) less h stop =
    let here : p a ≡ true = subst (λ n. p n ≡ true) (let e : a + 0 ≡ a = omega arith in e) (h 0 (omega arith)) in
    let rest = prefix-until p (a + 1) len i (omega (arith, less)) (λ n below. subst (λ m. p m ≡ true) (let e : a + suc n ≡ a + 1 + n = omega arith in e) (h (suc n) (omega (arith, below))))
    (subst (λ m. p m ≡ false) (let e : a + suc i ≡ a + 1 + i = omega arith in e) stop)
    in
    rw here (ap (λ n. 1 + n) rest ∙ (let e : 1 + i ≡ suc i = omega arith in e))

pub some_is : (x y : Fraction) → Some x ≡ Some y → x ≡ y
some_is x y e = cc

-- ---- the order
-- the verdicts on a whole walk are those on its order
pub verdict-read : (t : Table) (m k : ℕ) (w : Ahead) → w ≡ whole (m + 1) k → k ≡ t.colours → together (map (verdict_at t) w.left) ≡ verdict_of_order t (1 + m)
verdict-read t m k w whole_is colours_is =
    let n : m + 1 ≡ 1 + m = omega arith in
    ap (λ (a : Ahead). together (map (verdict_at t) a.left)) whole_is
    ∙ ap (λ (c : ℕ). together (map (verdict_at t) (all_trees (m + 1) c))) colours_is
    ∙ ap (λ (i : ℕ). verdict_of_order t i) n

module _ (t : Table) (p m : ℕ) (below : (n : ℕ) → n < m → is_holding (verdict_of_order t (1 + n)) ≡ true) where
  pub order-stops : (v : Verdict) → m < p → verdict_of_order t (1 + m) ≡ v → is_holding v ≡ false → m ≡ order_of t p
  order-stops v less is stop =
      sym (prefix-until (λ n. is_holding (verdict_of_order t n)) 1 p m less below (ap is_holding is ∙ stop))

  pub open-stops : (v : Verdict) → m < p → verdict_of_order t (1 + m) ≡ v → is_holding v ≡ false → is_unknown v ≡ is_open t p
  open-stops v less is stop =
      let smaller : nat_lt m p ≡ true = grind (arith, nat_tests) in
      let here : nat_lt m p && is_unknown (verdict_of_order t (1 + m)) ≡ is_unknown v = rw (smaller, is) refl in
      sym here ∙ ap (λ (i : ℕ). nat_lt i p && is_unknown (verdict_of_order t (1 + i))) (order-stops v less is stop)

  pub order-whole : m ≡ p → p ≡ order_of t p
  order-whole e =
      sym (prefix-all (λ n. is_holding (verdict_of_order t n)) 1 p (λ n less. below n (subst (λ i. n < i) (sym e) less)))

  pub open-whole : m ≡ p → false ≡ is_open t p
  open-whole e =
      let no : nat_lt p p ≡ false = grind (arith, nat_tests) in
      let here : nat_lt p p && is_unknown (verdict_of_order t (1 + p)) ≡ false = rw no refl in
      sym here ∙ ap (λ (i : ℕ). nat_lt i p && is_unknown (verdict_of_order t (1 + i))) (order-whole e)

-- ---- a text for each tree, order after order
module _ (f : List (ℕ × ℕ) → List ℕ) where
  up_to-more : (m k : ℕ) → flat_map f (trees_up_to (m + 1) k) ≡ flat_map f (trees_up_to m k) ++ flat_map f (all_trees (m + 1) k)
  up_to-more m k = rw (add-one m) (flat_map-append f (trees_up_to m k) (all_trees (suc m) k))

  pub texts-more : (out now later : List ℕ) (m k c : ℕ) (w : Ahead) → now ≡ out ++ flat_map f (trees_up_to m c) → later ≡ now ++ flat_map f w.left → w ≡ whole (m + 1) k → k ≡ c
      → later ≡ out ++ flat_map f (trees_up_to (m + 1) c)
  texts-more out now later m k c w now_is later_is whole_is colours_is =
      later_is
      ∙ ap (λ (a : Ahead). now ++ flat_map f a.left) whole_is
      ∙ ap (λ (i : ℕ). now ++ flat_map f (all_trees (m + 1) i)) colours_is
      ∙ ap (λ (text : List ℕ). text ++ flat_map f (all_trees (m + 1) c)) now_is
      ∙ append_assoc out (flat_map f (trees_up_to m c)) (flat_map f (all_trees (m + 1) c))
      ∙ ap (λ (text : List ℕ). out ++ text) (sym (up_to-more m c))

pub front-kept : (out text later : List ℕ) → later ≡ out ++ text → take (length out) later ≡ out
front-kept out text later e = ap (take (length out)) e ∙ take-append_seam out text
