-- A change of one view, and of the state with it.
use Rattle.std.proofs.Common.{◌≡◌, ◌≢◌, ℕ, zero, suc, ◌+◌, ◌≤◌, ◌==◌, List, [], ◌∷◌, map, length, set, true, false, if◌then◌else◌, refl, sym, ap, ◌∙◌, subst, ⊎_elim, arith}
use mathlib.Core.Option.{some, some-ne-none, some-injective}
use lib.ListN.{get_elem?}
use Rattle.atomic_table.proofs.Lists.{at_set}
use Rattle.bs_core.proofs.Agree.{each_at}
use Rattle.bs_core.proofs.Basics.{by_test, at_place_here, at_place_else, length_at_place}
use Rattle.bs_core.specs.Canonical.{Each}
use Rattle.bs_core.specs.Machine.{at_place, list_at}
use Rattle.bs_core.specs.declared.table.Held.{Held}
use Rattle.bs_core.specs.declared.table.Table.{Table}
use Rattle.bs_store.proofs.Steps.{total_set, total_one, below_one}
use Rattle.bs_store.specs.Rule.{on_numbered, view, tables_at, hands_at, total, below, Fits, Kept, Good, played, on_hand, held_by, list_in}
use Rattle.bs_store.specs.declared.view.Hand.{Hand}
use Rattle.bs_store.specs.declared.view.Numbered.{Numbered}
use Rattle.bs_store.specs.declared.view.View.{View}

pub each_of : {A : Type 0} (P : A → Type 0) (xs : List A) → ((i : ℕ) (x : A) → get_elem? xs i ≡ some x → P x) → Each P xs
each_of P [] h = tt
each_of P (x ∷ xs) h = (h zero x refl, each_of P xs (λ i. h (suc i)))

pub each_map : {A : Type 0} (P Q : A → Type 0) (f : A → A) (xs : List A) → ((x : A) → P x → Q (f x)) → Each P xs → Each Q (map f xs)
each_map P Q f [] h e = tt
each_map P Q f (x ∷ xs) h e = (h x e.0, each_map P Q f xs h e.1)

pub total_two : (f : View → ℕ) (views : List View) (i j : ℕ) (v u : View) → j ≢ i → get_elem? views i ≡ some v → get_elem? views j ≡ some u → f v + f u ≤ total f views
total_two f [] i j v u n e e' = absurd (some-ne-none v (sym e))
total_two f (x ∷ xs) zero zero v u n e e' = absurd (n refl)
total_two f (x ∷ xs) zero (suc j) v u n e e' = let s : f x ≡ f v = ap f (some-injective x v e) in let t = total_one f xs j u e' in omega arith
total_two f (x ∷ xs) (suc i) zero v u n e e' = let s : f x ≡ f u = ap f (some-injective x u e') in let t = total_one f xs i v e in omega arith
total_two f (x ∷ xs) (suc i) (suc j) v u n e e' = let t = total_two f xs i j v u (λ q. n (ap suc q)) e e' in omega arith

-- what stands here stands in no other view
pub elsewhere : (f : View → ℕ) (views : List View) (i j k n : ℕ) (v u : View) → total f views ≡ below k n → 1 ≤ f v → j ≢ i → get_elem? views i ≡ some v → get_elem? views j ≡ some u → f u ≡ 0
elsewhere f views i j k n v u all one apart e e' = let t = total_two f views i j v u apart e e' in let b = below_one k n in omega arith

-- tables
abbrev pub TableAt : List Table → Numbered → Type 0
TableAt ts t = get_elem? ts t.number ≡ some t.table

pub table_fits : (s : ℕ) (T : Table → Table) (ts : List Table) (t : Numbered) → TableAt ts t → TableAt (at_place s T ts) (on_numbered s T t)
table_fits s T ts t e = by_test s t.number (λ b. TableAt (at_place s T ts) (if b then record { number = t.number; table = T t.table } else t))
    (λ q. subst (λ k. get_elem? (at_place s T ts) k ≡ some (T t.table)) q (at_place_here T s ts t.table (subst (λ k. get_elem? ts k ≡ some t.table) (sym q) e)))
    (λ q. at_place_else T s t.number ts (λ r. q (sym r)) ∙ e)

pub tables_stay : (s : ℕ) (T : Table → Table) (ts : List Table) (xs : List Numbered) → tables_at s xs ≡ 0 → Each (TableAt ts) xs → Each (TableAt (at_place s T ts)) xs
tables_stay s T ts [] zr e = tt
tables_stay s T ts (x ∷ xs) zr e = (by_test s x.number (λ b. (if b then 1 else 0) + tables_at s xs ≡ 0 → TableAt (at_place s T ts) x) (λ q z. absurd (omega arith)) (λ q z. at_place_else T s x.number ts (λ r. q (sym r)) ∙ e.0) zr, tables_stay s T ts xs (omega arith) e.1)

pub tables_at_same : (k s : ℕ) (T : Table → Table) (xs : List Numbered) → tables_at k (map (on_numbered s T) xs) ≡ tables_at k xs
tables_at_same k s T [] = refl
tables_at_same k s T (x ∷ xs) =
    let r = tables_at_same k s T xs in
    let q : (on_numbered s T x).number ≡ x.number = elim (s == x.number) as (λ b. (if b then record { number = x.number; table = T x.table } else x).number ≡ x.number) [ true ↦ refl | false ↦ refl ] in
    ap (λ j. (if k == j then 1 else 0) + tables_at k (map (on_numbered s T) xs)) q ∙ ap (λ j. (if k == x.number then 1 else 0) + j) r

-- passes
abbrev pub HandAt : List Hand → Hand → Type 0
HandAt hs h = get_elem? hs h.number ≡ some h

pub hand_fits : (k gain : ℕ) (f : List Held → List Held) (hs : List Hand) (h : Hand) → HandAt hs h → HandAt (at_place k (played gain f) hs) (on_hand k gain f h)
hand_fits k gain f hs h e = by_test k h.number (λ b. HandAt (at_place k (played gain f) hs) (if b then played gain f h else h))
    (λ q. subst (λ j. get_elem? (at_place k (played gain f) hs) j ≡ some (played gain f h)) q (at_place_here (played gain f) k hs h (subst (λ j. get_elem? hs j ≡ some h) (sym q) e)))
    (λ q. at_place_else (played gain f) k h.number hs (λ r. q (sym r)) ∙ e)

pub hands_stay : (k gain : ℕ) (f : List Held → List Held) (hs : List Hand) (xs : List Hand) → hands_at k xs ≡ 0 → Each (HandAt hs) xs → Each (HandAt (at_place k (played gain f) hs)) xs
hands_stay k gain f hs [] zr e = tt
hands_stay k gain f hs (x ∷ xs) zr e = (by_test k x.number (λ b. (if b then 1 else 0) + hands_at k xs ≡ 0 → HandAt (at_place k (played gain f) hs) x) (λ q z. absurd (omega arith)) (λ q z. at_place_else (played gain f) k x.number hs (λ r. q (sym r)) ∙ e.0) zr, hands_stay k gain f hs xs (omega arith) e.1)

pub hands_at_same : (j k gain : ℕ) (f : List Held → List Held) (xs : List Hand) → hands_at j (map (on_hand k gain f) xs) ≡ hands_at j xs
hands_at_same j k gain f [] = refl
hands_at_same j k gain f (x ∷ xs) =
    let r = hands_at_same j k gain f xs in
    let q : (on_hand k gain f x).number ≡ x.number = elim (k == x.number) as (λ b. (if b then played gain f x else x).number ≡ x.number) [ true ↦ refl | false ↦ refl ] in
    ap (λ i. (if j == i then 1 else 0) + hands_at j (map (on_hand k gain f) xs)) q ∙ ap (λ i. (if j == x.number then 1 else 0) + i) r

pub held_at_place : (k gain : ℕ) (f : List Held → List Held) (hs : List Hand) → held_by (at_place k (played gain f) hs) ≡ at_place k f (held_by hs)
held_at_place k gain f [] = refl
held_at_place zero gain f (h ∷ hs) = refl
held_at_place (suc k) gain f (h ∷ hs) = ap (λ l. h.held ∷ l) (held_at_place k gain f hs)

-- the list of a pass in a view is its list in the state
pub list_of : (k : ℕ) (hs : List Hand) (h : Hand) → get_elem? hs k ≡ some h → list_at k (held_by hs) ≡ h.held
list_of k [] h e = absurd (some-ne-none h (sym e))
list_of zero (x ∷ xs) h e = ap (λ (y : Hand). y.held) (some-injective x h e)
list_of (suc k) (x ∷ xs) h e = list_of k xs h e

pub list_same : (k : ℕ) (hs xs : List Hand) → 1 ≤ hands_at k xs → Each (HandAt hs) xs → list_in k xs ≡ list_at k (held_by hs)
list_same k hs [] one e = absurd (omega arith)
list_same k hs (x ∷ xs) one e = by_test k x.number (λ b. 1 ≤ (if b then 1 else 0) + hands_at k xs → (if b then x.held else list_in k xs) ≡ list_at k (held_by hs))
    (λ q z. sym (list_of k hs x (subst (λ j. get_elem? hs j ≡ some x) (sym q) e.0)))
    (λ q z. list_same k hs xs (omega arith) e.1)
    one

-- a view changes, and the state with it
unfoldable pub turned : (n m id s : ℕ) (T : Table → Table) (v : View) (hands hands' : List Hand) (views : List View) (kept : Kept n m views) → get_elem? views id ≡ some v → 1 ≤ tables_at s v.tables
    → Each (HandAt hands') hands → ((j : ℕ) (u : View) → j ≢ id → get_elem? views j ≡ some u → Each (HandAt hands') u.hands) → ((k : ℕ) → hands_at k hands ≡ hands_at k v.hands) → length hands' ≡ length kept.hands
    → Good n (at_place s T kept.tables) hands'
    → Kept n m (set views id (view (map (on_numbered s T) v.tables) hands))
turned n m id s T v hands hands' views kept at one mine others counts long good =
    let ts = at_place s T kept.tables in
    let w = view (map (on_numbered s T) v.tables) hands in
    let own = each_at (Fits kept.tables kept.hands) views id v kept.each at in
    let fits_w : Fits ts hands' w = record { tables = each_map (TableAt kept.tables) (TableAt ts) (on_numbered s T) v.tables (table_fits s T kept.tables) own.tables; hands = mine } in
    let other : (j : ℕ) (u : View) → j ≢ id → get_elem? views j ≡ some u → Fits ts hands' u = λ j u apart e.
    let was = each_at (Fits kept.tables kept.hands) views j u kept.each e in
    record { tables = tables_stay s T kept.tables u.tables (elsewhere (λ x. tables_at s x.tables) views id j s n v u (kept.one_table s) one apart at e) was.tables; hands = others j u apart e } in record {
      tables = ts;
      hands = hands';
      tables_long = length_at_place T s kept.tables ∙ kept.tables_long;
      hands_long = long ∙ kept.hands_long;
      good = good;
      each = each_of (Fits ts hands') (set views id w) (λ j u e. ⊎_elim
          (λ (x : (j ≡ id) × (w ≡ u)). subst (Fits ts hands') x.1 fits_w)
          (λ (x : (j ≢ id) × (get_elem? views j ≡ some u)). other j u x.0 x.1)
          (at_set views id j w u e));
      one_table = λ k.
          let f : View → ℕ = λ x. tables_at k x.tables in
          let p = total_set f views id v w at in
          let q = tables_at_same k s T v.tables in
          let r = kept.one_table k in omega arith;
      one_hand = λ k.
          let f : View → ℕ = λ x. hands_at k x.hands in
          let p = total_set f views id v w at in
          let q = counts k in
          let r = kept.one_hand k in omega arith;
    }
