-- How a store is made.
use Rattle.std.specs.Prelude.{nat_lt}
use Rattle.bs_core.proofs.Runs.{opening_canonical}
use Rattle.std.proofs.Common.{replicate, ap₂, append-nil, ◌≡◌, ◌⊎◌, ℕ, zero, suc, ◌+◌, ◌-◌, ◌<◌, ◌≤◌, List, [], ◌∷◌, ◌++◌, length, set, true, false, if◌then◌else◌, refl, sym, ap, ◌∙◌, subst, arith, inl, inr, ⊎_elim, length-append, All, Some, lt-ltb, ltb-true}
use mathlib.Core.Option.{some}
use mathlib.Core.Logic.{dite}
use native.Mathlib.Decide.{dec_le}
use lib.ListN.{get_elem?}
use Rattle.atomic_table.specs.Table.{Splits}
use Rattle.std.specs.Prelude.{slice_get}
use Rattle.std.proofs.lemmas.List.Elements.{All-append}
use Rattle.atomic_table.specs.Seated.{TableId}
use Rattle.bs_core.proofs.Agree.{each_at}
use Rattle.bs_core.proofs.Basics.{by_test}
use Rattle.bs_core.specs.declared.table.Entry.{Entry}
use Rattle.bs_core.specs.Canonical.{every, link_lists, Each, Canonical}
use Rattle.bs_core.specs.Machine.{state_of, no_table, most}
use Rattle.bs_core.specs.declared.table.Held.{Held}
use Rattle.bs_core.specs.declared.table.Table.{Table}
use Rattle.bs_store.proofs.Steps.{each_set, each_append, total_set, total_append, Ruled}
use Rattle.bs_store.specs.Rule.{Paths, size, view, rest_of, first_of, new_numbered, new_hand, new_tables, new_hands, all_of, tables_at, hands_at, below, Fits, Kept, Known, held_by, sum_gains, state}
use Rattle.bs_store.specs.Seats.{OfPass, OfDesk, IsAt, new_pass, NewPasses}
use Rattle.bs_store.specs.declared.view.Hand.{Hand}
use Rattle.bs_store.specs.declared.view.Numbered.{Numbered}
use Rattle.bs_store.specs.declared.view.View.{View}

-- a view is cut in two
pub cuts : (n m id : ℕ) (v l r : View) → ((ts : List Table) (hs : List Hand) → Fits ts hs v → Fits ts hs l × Fits ts hs r) → ((k : ℕ) → tables_at k l.tables + tables_at k r.tables ≡ tables_at k v.tables) → ((k : ℕ) → hands_at k l.hands + hands_at k r.hands ≡ hands_at k v.hands) → Splits (Ruled n m) id v l r
cuts n m id v l r parts tables hands s kept at =
    let both = parts kept.tables kept.hands (each_at (Fits kept.tables kept.hands) s.views id v kept.each at) in record {
      tables = kept.tables;
      hands = kept.hands;
      tables_long = kept.tables_long;
      hands_long = kept.hands_long;
      good = kept.good;
      each = each_append _ (set s.views id l) (r ∷ []) (each_set _ s.views id l kept.each both.0) (both.1, tt);
      one_table = λ k.
          let a = total_append (λ u. tables_at k u.tables) (set s.views id l) (r ∷ []) in
          let b = total_set (λ u. tables_at k u.tables) s.views id v l at in
          let d = tables k in
          let c = kept.one_table k in omega arith;
      one_hand = λ k.
          let a = total_append (λ u. hands_at k u.hands) (set s.views id l) (r ∷ []) in
          let b = total_set (λ u. hands_at k u.hands) s.views id v l at in
          let d = hands k in
          let c = kept.one_hand k in omega arith;
    }

each_rest : {A : Type 0} (P : A → Type 0) (xs : List A) → Each P xs → Each P (rest_of xs) × Each P (first_of xs)
each_rest P [] e = (tt, tt)
each_rest P (x ∷ xs) e = (e.1, (e.0, tt))

rest_hands : (k : ℕ) (xs : List Hand) → hands_at k (rest_of xs) + hands_at k (first_of xs) ≡ hands_at k xs
rest_hands k [] = refl
rest_hands k (x ∷ xs) = omega arith

rest_tabs : (k : ℕ) (xs : List Numbered) → tables_at k (rest_of xs) + tables_at k (first_of xs) ≡ tables_at k xs
rest_tabs k [] = refl
rest_tabs k (x ∷ xs) = omega arith

hand_parts : (v : View) (ts : List Table) (hs : List Hand) → Fits ts hs v → Fits ts hs (view v.tables (rest_of v.hands)) × Fits ts hs (view [] (first_of v.hands))
hand_parts v ts hs f = let e = each_rest _ v.hands f.hands in (record { tables = f.tables; hands = e.0 }, record { tables = tt; hands = e.1 })

tab_parts : (v : View) (ts : List Table) (hs : List Hand) → Fits ts hs v → Fits ts hs (view (rest_of v.tables) v.hands) × Fits ts hs (view (first_of v.tables) [])
tab_parts v ts hs f = let e = each_rest _ v.tables f.tables in (record { tables = e.0; hands = f.hands }, record { tables = e.1; hands = tt })

pub deals_pass : (n m id : ℕ) (v : View) → Splits (Ruled n m) id v (view v.tables (rest_of v.hands)) (view [] (first_of v.hands))
deals_pass n m id v = cuts n m id v (view v.tables (rest_of v.hands)) (view [] (first_of v.hands)) (hand_parts v) (λ k. omega arith) (λ k. rest_hands k v.hands)

pub deals_table : (n m id : ℕ) (v : View) → Splits (Ruled n m) id v (view (rest_of v.tables) v.hands) (view (first_of v.tables) [])
deals_table n m id v = cuts n m id v (view (rest_of v.tables) v.hands) (view (first_of v.tables) []) (tab_parts v) (λ k. rest_tabs k v.tables) (λ k. omega arith)

known_part : (v w : View) → ((k : ℕ) → hands_at k w.hands ≤ hands_at k v.hands) → ((ts : List Table) (hs : List Hand) → Fits ts hs v → Fits ts hs w) → Known v → Known w
known_part v w less f k = record { once = λ j. let r = k.once j in let l = less j in omega arith; n = k.n; tables = k.tables; hands = k.hands; good = k.good; fits = f k.tables k.hands k.fits }

pub known_pass : (v : View) → Known v → Known (view v.tables (rest_of v.hands)) × Known (view [] (first_of v.hands))
known_pass v k = (known_part v (view v.tables (rest_of v.hands)) (λ k. let r = rest_hands k v.hands in omega arith) (λ ts hs f. (hand_parts v ts hs f).0) k, known_part v (view [] (first_of v.hands)) (λ k. let r = rest_hands k v.hands in omega arith) (λ ts hs f. (hand_parts v ts hs f).1) k)

pub known_table : (v : View) → Known v → Known (view (rest_of v.tables) v.hands) × Known (view (first_of v.tables) [])
known_table v k = (known_part v (view (rest_of v.tables) v.hands) (λ k. omega arith) (λ ts hs f. (tab_parts v ts hs f).0) k, known_part v (view (first_of v.tables) []) (λ k. omega arith) (λ ts hs f. (tab_parts v ts hs f).1) k)

-- the state at the start
none_held : (i m : ℕ) → held_by (new_hands i m) ≡ replicate m []
none_held i zero = refl
none_held i (suc m) = ap (λ (ls : List (List Held)). [] ∷ ls) (none_held (suc i) m)

empties_long : (n : ℕ) → length (replicate n no_table) ≡ n
empties_long zero = refl
empties_long (suc n) = ap suc (empties_long n)

empties_at : (n i : ℕ) → i < n → get_elem? (replicate n no_table) i ≡ some no_table
empties_at zero i h = absurd (omega arith)
empties_at (suc n) zero h = refl
empties_at (suc n) (suc i) h = empties_at n i (omega arith)

no_links : (n : ℕ) → link_lists (replicate n no_table) ≡ []
no_links zero = refl
no_links (suc n) = no_links n

no_size : (m : ℕ) → size (replicate m []) ≡ 0
no_size zero = refl
no_size (suc m) = let r = no_size m in omega arith

no_paths : (i m n : ℕ) → Paths (replicate n no_table) (new_hands i m)
no_paths i zero n = tt
no_paths i (suc m) n = (tt, no_paths (suc i) m n)

long_hands : (i m : ℕ) → length (new_hands i m) ≡ m
long_hands i zero = refl
long_hands i (suc m) = ap suc (long_hands (suc i) m)

new_hand_at : (i m k : ℕ) → k < m → get_elem? (new_hands i m) k ≡ some (new_hand (i + k))
new_hand_at i zero k h = absurd (omega arith)
new_hand_at i (suc m) zero h = ap (λ j. some (new_hand j)) (let r : i ≡ i + 0 = omega arith in r)
new_hand_at i (suc m) (suc k) h = new_hand_at (suc i) m k (omega arith) ∙ ap (λ j. some (new_hand j)) (let r : suc i + k ≡ i + suc k = omega arith in r)

-- a fact of each number from i up to i + n
from_tabs : (P : Numbered → Type 0) (i n : ℕ) → ((k : ℕ) → i ≤ k → k < i + n → P (new_numbered k)) → Each P (new_tables i n)
from_tabs P i zero h = tt
from_tabs P i (suc n) h = (h i (omega arith) (omega arith), from_tabs P (suc i) n (λ k a b. h k (omega arith) (omega arith)))

from_hands : (P : Hand → Type 0) (i n : ℕ) → ((k : ℕ) → i ≤ k → k < i + n → P (new_hand k)) → Each P (new_hands i n)
from_hands P i zero h = tt
from_hands P i (suc n) h = (h i (omega arith) (omega arith), from_hands P (suc i) n (λ k a b. h k (omega arith) (omega arith)))

tabs_out : (k i n : ℕ) → (k < i) ⊎ (i + n ≤ k) → tables_at k (new_tables i n) ≡ 0
tabs_out k i zero o = refl
tabs_out k i (suc n) o = let r = tabs_out k (suc i) n (⊎_elim (λ a. inl (omega arith)) (λ a. inr (omega arith)) o) in
    by_test k i (λ b. (if b then 1 else 0) + tables_at k (new_tables (suc i) n) ≡ zero) (λ e. absurd (⊎_elim (λ (a : k < i). omega arith) (λ (a : i + suc n ≤ k). omega arith) o)) (λ _. omega arith)

tabs_in : (k i n : ℕ) → i ≤ k → k < i + n → tables_at k (new_tables i n) ≡ 1
tabs_in k i zero a b = absurd (omega arith)
tabs_in k i (suc n) a b = by_test k i (λ u. (if u then 1 else 0) + tables_at k (new_tables (suc i) n) ≡ suc zero)
    (λ e. let r = tabs_out k (suc i) n (inl (omega arith)) in omega arith)
    (λ e. let r = tabs_in k (suc i) n (omega arith) (omega arith) in omega arith)

hands_out : (k i n : ℕ) → (k < i) ⊎ (i + n ≤ k) → hands_at k (new_hands i n) ≡ 0
hands_out k i zero o = refl
hands_out k i (suc n) o = let r = hands_out k (suc i) n (⊎_elim (λ a. inl (omega arith)) (λ a. inr (omega arith)) o) in
    by_test k i (λ b. (if b then 1 else 0) + hands_at k (new_hands (suc i) n) ≡ zero) (λ e. absurd (⊎_elim (λ (a : k < i). omega arith) (λ (a : i + suc n ≤ k). omega arith) o)) (λ _. omega arith)

hands_in : (k i n : ℕ) → i ≤ k → k < i + n → hands_at k (new_hands i n) ≡ 1
hands_in k i zero a b = absurd (omega arith)
hands_in k i (suc n) a b = by_test k i (λ u. (if u then 1 else 0) + hands_at k (new_hands (suc i) n) ≡ suc zero)
    (λ e. let r = hands_out k (suc i) n (inl (omega arith)) in omega arith)
    (λ e. let r = hands_in k (suc i) n (omega arith) (omega arith) in omega arith)

in_below : (k n : ℕ) → k < n → below k n ≡ 1
in_below k n h = rw (lt-ltb k n h) refl

out_below : (k n : ℕ) → ¬ (k < n) → below k n ≡ 0
out_below k n h = elim (nat_lt k n) as (λ b. nat_lt k n ≡ b → (if b then 1 else 0) ≡ zero) [ true ↦ (λ e. absurd (h (ltb-true k n e))) | false ↦ (λ _. refl) ] refl

all_empty : (g n : ℕ) → Each (λ (t : Table). Each (λ (e : Entry). e.count ≡ most → most ≤ g) t.entries) (replicate n no_table)
all_empty g zero = tt
all_empty g (suc n) = (tt, all_empty g n)

start_size : (n m : ℕ) → size (every (state (replicate n no_table) (new_hands 0 m))) ≡ 0
start_size n m = ap₂ (λ (ls : List (List Held)) (ks : List (List Held)). size (ls ++ ks)) (none_held 0 m) (no_links n) ∙ ap size (append-nil (replicate m [])) ∙ no_size m

pub begins : (n m : ℕ) → Kept n m (all_of n m ∷ [])
begins n m = record {
  tables = replicate n no_table;
  hands = new_hands 0 m;
  tables_long = empties_long n;
  hands_long = long_hands 0 m;
  good = record {
    canonical = subst (λ (ls : List (List Held)). Canonical n (state_of (replicate n no_table) ls)) (sym (none_held 0 m)) (opening_canonical n m);
    enough = (let r = start_size n m in omega arith, all_empty (sum_gains (new_hands 0 m)) n);
    paths = no_paths 0 m n;
  };
  each = (record { tables = from_tabs _ 0 n (λ k a b. empties_at n k (omega arith)); hands = from_hands _ 0 m (λ k a b. new_hand_at 0 m k (omega arith) ∙ ap (λ j. some (new_hand j)) (let r : 0 + k ≡ k = omega arith in r)) }, tt);
  one_table = λ k. dite (dec_lt k n) (λ h. let a = tabs_in k 0 n (omega arith) (omega arith) in let b = in_below k n h in omega arith) (λ h. let a = tabs_out k 0 n (inr (omega arith)) in let b = out_below k n h in omega arith);
  one_hand = λ k. dite (dec_lt k m) (λ h. let a = hands_in k 0 m (omega arith) (omega arith) in let b = in_below k m h in omega arith) (λ h. let a = hands_out k 0 m (inr (omega arith)) in let b = out_below k m h in omega arith);
}
  where
    dec_lt : (a b : ℕ) → Dec (a < b)
    dec_lt a b = dec_le (suc a) b

pub hands_step : (i m : ℕ) → i < m → new_hands i (m - i) ≡ new_hand i ∷ new_hands (i + 1) (m - (i + 1))
hands_step i m h = let e : m - i ≡ suc (m - (i + 1)) = omega arith in let s : suc i ≡ i + 1 = omega arith in ap (new_hands i) e ∙ ap (λ j. new_hand i ∷ new_hands j (m - (i + 1))) s

pub tables_step : (i n : ℕ) → i < n → new_tables i (n - i) ≡ new_numbered i ∷ new_tables (i + 1) (n - (i + 1))
tables_step i n h = let e : n - i ≡ suc (n - (i + 1)) = omega arith in let s : suc i ≡ i + 1 = omega arith in ap (new_tables i) e ∙ ap (λ j. new_numbered i ∷ new_tables j (n - (i + 1))) s

pub one_more_pass : (t : TableId) (ps : List OfPass) (n : ℕ) → length ps ≡ n → NewPasses t ps → NewPasses t (ps ++ new_pass t n ∷ [])
one_more_pass t ps n long all i h = dite (dec_le (suc i) n)
    (λ below. early ps (new_pass t n) i (new_pass t i) (all i (omega arith)))
    (λ above. let r = length-append ps (new_pass t n ∷ []) in let e : i ≡ n = omega arith in late ps i n (long) e)
  where
    early : (xs : List OfPass) (y : OfPass) (j : ℕ) (x : OfPass) → slice_get xs j ≡ Some x → slice_get (xs ++ y ∷ []) j ≡ Some x
    early [] y j x e = absurd (cc)
    early (z ∷ zs) y zero x e = e
    early (z ∷ zs) y (suc j) x e = early zs y j x e

    last : (xs : List OfPass) (y : OfPass) → slice_get (xs ++ y ∷ []) (length xs) ≡ Some y
    last [] y = refl
    last (z ∷ zs) y = last zs y

    late : (xs : List OfPass) (j k : ℕ) → length xs ≡ k → j ≡ k → slice_get (xs ++ new_pass t k ∷ []) j ≡ Some (new_pass t j)
    late xs j k l e = subst (λ q. slice_get (xs ++ new_pass t k ∷ []) q ≡ Some (new_pass t q)) (sym e) (subst (λ q. slice_get (xs ++ new_pass t k ∷ []) q ≡ Some (new_pass t k)) l (last xs (new_pass t k)))

pub one_more_desk : (t : TableId) (ds : List OfDesk) (d : OfDesk) → All (IsAt t) ds → IsAt t d → All (IsAt t) (ds ++ d ∷ [])
one_more_desk t ds d all here = All-append (IsAt t) ds (d ∷ []) all (one d here)
  where
    one : (x : OfDesk) → IsAt t x → All (IsAt t) (x ∷ [])
    one x h zero e l = h
    one x h (suc k) e l = absurd (omega arith)
