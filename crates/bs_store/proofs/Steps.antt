-- Steps that change no table and no list: a view is cut in two, two become one, and a look.
use Rattle.std.proofs.Common.{◌≡◌, ℕ, zero, suc, ◌+◌, ◌≤◌, List, [], ◌∷◌, ◌++◌, set, true, false, if◌then◌else◌, refl, sym, ap, ◌∙◌, subst, arith}
use Rattle.std.specs.Prelude.{nat_lt}
use mathlib.Core.Option.{none, some, some-ne-none, some-injective}
use lib.ListN.{get_elem?}
use Rattle.atomic_table.specs.Table.{State, Me, step, keeps, Allows, Splits, Joins}
use Rattle.atomic_table.proofs.Lists.{set_again, set_else}
use Rattle.bs_core.specs.Canonical.{Each}
use Rattle.bs_core.proofs.Agree.{each_at}
use Rattle.bs_store.specs.Rule.{nothing, both, front, lasts, without_last, last_hand, tables_at, hands_at, total, below, Fits, Kept, Looked}
use Rattle.bs_store.specs.declared.view.Hand.{Hand}
use Rattle.bs_store.specs.declared.view.Numbered.{Numbered}
use Rattle.bs_store.specs.declared.view.View.{View}

module _ {A : Type 0} (P : A → Type 0) where
  pub each_set : (xs : List A) (i : ℕ) (y : A) → Each P xs → P y → Each P (set xs i y)
  each_set [] i y h p = tt
  each_set (x ∷ xs) zero y h p = (p, h.1)
  each_set (x ∷ xs) (suc i) y h p = (h.0, each_set xs i y h.1 p)

  pub each_append : (xs ys : List A) → Each P xs → Each P ys → Each P (xs ++ ys)
  each_append [] ys h k = k
  each_append (x ∷ xs) ys h k = (h.0, each_append xs ys h.1 k)

  pub front_each : (xs : List A) → Each P xs → Each P (front xs)
  front_each [] h = tt
  front_each (x ∷ []) h = tt
  front_each (x ∷ y ∷ ys) h = (h.0, front_each (y ∷ ys) h.1)

  pub each_lasts : (xs : List A) → Each P xs → Each P (lasts xs)
  each_lasts [] h = tt
  each_lasts (x ∷ []) h = h
  each_lasts (x ∷ y ∷ ys) h = each_lasts (y ∷ ys) h.1

pub total_set : (f : View → ℕ) (views : List View) (i : ℕ) (v w : View) → get_elem? views i ≡ some v → total f (set views i w) + f v ≡ total f views + f w
total_set f [] i v w e = absurd (some-ne-none v (sym e))
total_set f (x ∷ xs) zero v w e = let s : f x ≡ f v = ap f (some-injective x v e) in omega arith
total_set f (x ∷ xs) (suc i) v w e = let s = total_set f xs i v w e in omega arith

pub total_one : (f : View → ℕ) (views : List View) (i : ℕ) (v : View) → get_elem? views i ≡ some v → f v ≤ total f views
total_one f [] i v e = absurd (some-ne-none v (sym e))
total_one f (x ∷ xs) zero v e = let s : f x ≡ f v = ap f (some-injective x v e) in omega arith
total_one f (x ∷ xs) (suc i) v e = let s = total_one f xs i v e in omega arith

pub below_one : (k n : ℕ) → below k n ≤ 1
below_one k n = elim (nat_lt k n) as (λ b. (if b then 1 else 0) ≤ 1) [ true ↦ omega arith | false ↦ omega arith ]

-- a view has each pass at most once
pub at_most_once : (n m id : ℕ) (views : List View) (v : View) → Kept n m views → get_elem? views id ≡ some v → (k : ℕ) → hands_at k v.hands ≤ 1
at_most_once n m id views v kept at k = let r = total_one (λ u. hands_at k u.hands) views id v at in let b = below_one k m in let c = kept.one_hand k in omega arith

pub total_append : (f : View → ℕ) (xs ys : List View) → total f (xs ++ ys) ≡ total f xs + total f ys
total_append f [] ys = omega arith
total_append f (x ∷ xs) ys = let s = total_append f xs ys in omega arith

pub tables_at_append : (k : ℕ) (xs ys : List Numbered) → tables_at k (xs ++ ys) ≡ tables_at k xs + tables_at k ys
tables_at_append k [] ys = omega arith
tables_at_append k (x ∷ xs) ys = let s = tables_at_append k xs ys in omega arith

pub hands_at_append : (k : ℕ) (xs ys : List Hand) → hands_at k (xs ++ ys) ≡ hands_at k xs + hands_at k ys
hands_at_append k [] ys = omega arith
hands_at_append k (x ∷ xs) ys = let s = hands_at_append k xs ys in omega arith

pub hands_at_cut : (k : ℕ) (xs : List Hand) → hands_at k (front xs) + hands_at k (lasts xs) ≡ hands_at k xs
hands_at_cut k [] = refl
hands_at_cut k (x ∷ []) = omega arith
hands_at_cut k (x ∷ y ∷ ys) = let s = hands_at_cut k (y ∷ ys) in omega arith

abbrev pub Ruled : ℕ → ℕ → State (Unit {0}) View → Type 0
Ruled n m s = Kept n m s.views

-- a pass leaves
pub leaves : (n m id : ℕ) (v : View) → Splits (Ruled n m) id v (without_last v) (last_hand v)
leaves n m id v s kept at =
    let l = without_last v in
    let r = last_hand v in
    let mine = each_at (Fits kept.tables kept.hands) s.views id v kept.each at in
    let left : Fits kept.tables kept.hands l = record { tables = mine.tables; hands = front_each _ v.hands mine.hands } in
    let right : Fits kept.tables kept.hands r = record { tables = tt; hands = each_lasts _ v.hands mine.hands } in record {
      tables = kept.tables;
      hands = kept.hands;
      tables_long = kept.tables_long;
      hands_long = kept.hands_long;
      good = kept.good;
      each = each_append _ (set s.views id l) (r ∷ []) (each_set _ s.views id l kept.each left) (right, tt);
      one_table = λ k.
          let a = total_append (λ u. tables_at k u.tables) (set s.views id l) (r ∷ []) in
          let b = total_set (λ u. tables_at k u.tables) s.views id v l at in
          let c = kept.one_table k in omega arith;
      one_hand = λ k.
          let a = total_append (λ u. hands_at k u.hands) (set s.views id l) (r ∷ []) in
          let b = total_set (λ u. hands_at k u.hands) s.views id v l at in
          let d = hands_at_cut k v.hands in
          let c = kept.one_hand k in omega arith;
    }

-- a view takes in another
pub joins : (n m id : ℕ) (v : View) (other : ℕ) (w : View) → Joins (Ruled n m) id v other w (both v w) nothing
joins n m id v other w s kept at apart there =
    let b = both v w in
    let was : get_elem? s.views other ≡ some w = sym (set_else s.views id other b apart) ∙ there in
    let F = Fits kept.tables kept.hands in
    let mine = each_at F s.views id v kept.each at in
    let theirs = each_at F s.views other w kept.each was in
    let whole : F b = record { tables = each_append _ v.tables w.tables mine.tables theirs.tables; hands = each_append _ v.hands w.hands mine.hands theirs.hands } in
    let none : F nothing = record { tables = tt; hands = tt } in record {
      tables = kept.tables;
      hands = kept.hands;
      tables_long = kept.tables_long;
      hands_long = kept.hands_long;
      good = kept.good;
      each = each_set F (set s.views id b) other nothing (each_set F s.views id b kept.each whole) none;
      one_table = λ k.
          let f : View → ℕ = λ u. tables_at k u.tables in
          let p = total_set f s.views id v b at in
          let q = total_set f (set s.views id b) other w nothing there in
          let r = tables_at_append k v.tables w.tables in
          let c = kept.one_table k in omega arith;
      one_hand = λ k.
          let f : View → ℕ = λ u. hands_at k u.hands in
          let p = total_set f s.views id v b at in
          let q = total_set f (set s.views id b) other w nothing there in
          let r = hands_at_append k v.hands w.hands in
          let c = kept.one_hand k in omega arith;
    }

-- a look changes nothing
pub looks : (n m slots id word : ℕ) (me : Me (Unit {0}) View) → Allows (Ruled n m) slots id me word (λ x. x) (Looked (step slots word 0 0 none) me)
looks n m slots id word me s kept deep at wide =
    let mine = each_at (Fits kept.tables kept.hands) s.views id me.0 kept.each at in (
      me.0,
      keeps,
      tt,
      subst (Kept n m) (sym (set_again s.views id me.0 at)) kept,
      (refl, record { n = n; tables = kept.tables; hands = kept.hands; good = kept.good; fits = mine; once = at_most_once n m id s.views me.0 kept at }),
    )
