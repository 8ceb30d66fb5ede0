-- A pass goes in and out with a path.
use Rattle.std.proofs.Common.{◌≡◌, ◌≢◌, ℕ, zero, suc, ◌+◌, ◌≤◌, List, [], ◌∷◌, ◌++◌, set, if◌then◌else◌, refl, sym, ap, ◌∙◌, subst, ⊎_elim, arith}
use mathlib.Core.Option.{some, some-ne-none, some-injective}
use lib.ListN.{get_elem?}
use Rattle.atomic_table.specs.Table.{Splits, Joins}
use Rattle.atomic_table.proofs.Lists.{at_set, set_else}
use Rattle.bs_core.proofs.Agree.{each_at}
use Rattle.bs_core.proofs.Basics.{by_test, at_place_here, at_place_else, length_at_place}
use Rattle.bs_core.proofs.Pairs.{each_mono}
use Rattle.bs_core.specs.Canonical.{Stands, Each, Canonical, link_lists}
use Rattle.bs_core.specs.Machine.{most, State, at_place}
use Rattle.bs_core.specs.declared.table.Entry.{Entry}
use Rattle.bs_core.specs.declared.table.Held.{Held}
use Rattle.bs_core.specs.declared.table.Table.{Table}
use Rattle.bs_store.proofs.Paths.{link_stands}
use Rattle.bs_store.proofs.Steps.{each_append, total_set, total_append, hands_at_append, tables_at_append, Ruled, leaves, below_one}
use Rattle.bs_store.proofs.Turns.{HandAt, each_of, elsewhere}
use Rattle.bs_store.specs.Rule.{view, both, nothing, tables_at, hands_at, total, Fits, Kept, Good, held_by, size, sum_gains, Among, LinkOf, links_under, Trail, Path, Paths, pathed, lasts, without_last}
use Rattle.bs_store.specs.Seats.{alone}
use Rattle.bs_store.specs.declared.view.Hand.{Hand}
use Rattle.bs_store.specs.declared.view.Numbered.{Numbered}
use Rattle.bs_store.specs.declared.view.View.{View}

-- the links of a pair of the path come to it
among_front : (q : Held) (xs ys : List Held) → Among q xs → Among q (xs ++ ys)
among_front q [] ys h = absurd (some-ne-none q (sym h.1))
among_front q (x ∷ xs) ys (zero, at) = (zero, at)
among_front q (x ∷ xs) ys (suc i, at) = let r = among_front q xs ys (i, at) in (suc r.0, r.1)

pub trail_links : (tables : List Table) (seen : List Held) (q : Held) (ls : List Held) → Among q seen → Each (λ p. LinkOf tables q p) ls → Trail tables seen ls
trail_links tables seen q [] h e = tt
trail_links tables seen q (p ∷ ps) h e = ((q, h, e.0), trail_links tables (seen ++ p ∷ []) q ps (among_front q seen (p ∷ []) h) e.1)

append_step : (seen : List Held) (p : Held) (ps : List Held) → (seen ++ p ∷ []) ++ ps ≡ seen ++ p ∷ ps
append_step [] p ps = refl
append_step (x ∷ seen) p ps = ap (λ (l : List Held). x ∷ l) (append_step seen p ps)

append_none : (seen : List Held) → seen ++ [] ≡ seen
append_none [] = refl
append_none (x ∷ seen) = ap (λ (l : List Held). x ∷ l) (append_none seen)

pub trail_more : (tables : List Table) (seen ps : List Held) (q : Held) (ls : List Held) → Among q (seen ++ ps) → Each (λ p. LinkOf tables q p) ls → Trail tables seen ps → Trail tables seen (ps ++ ls)
trail_more tables seen [] q ls h e t = trail_links tables seen q ls (subst (Among q) (append_none seen) h) e
trail_more tables seen (p ∷ ps) q ls h e t = (t.0, trail_more tables (seen ++ p ∷ []) ps q ls (subst (Among q) (sym (append_step seen p ps)) h) e t.1)

all_among : (ls : List Held) → Each (λ p. Among p ls) ls
all_among [] = tt
all_among (x ∷ xs) = ((zero, refl), each_mono (λ p. Among p xs) (λ p. Among p (x ∷ xs)) xs (λ p h. (suc h.0, h.1)) (all_among xs))

-- a path that goes on by the links of one of its pairs
pub path_more : (tables : List Table) (held path : List Held) (q : Held) → Among q path → Path tables held path → Path tables held (path ++ links_under tables q)
path_more tables held [] q h t = absurd (some-ne-none q (sym h.1))
path_more tables held (p ∷ ps) q h t = (t.0, trail_more tables (p ∷ []) ps q (links_under tables q) h (all_among (links_under tables q)) t.1)

-- a pass of the state gets another path
held_pathed : (k : ℕ) (p : List Held) (hs : List Hand) → held_by (at_place k (pathed p) hs) ≡ held_by hs
held_pathed k p [] = refl
held_pathed zero p (h ∷ hs) = refl
held_pathed (suc k) p (h ∷ hs) = ap (λ (l : List (List Held)). h.held ∷ l) (held_pathed k p hs)

gains_pathed : (k : ℕ) (p : List Held) (hs : List Hand) → sum_gains (at_place k (pathed p) hs) ≡ sum_gains hs
gains_pathed k p [] = refl
gains_pathed zero p (h ∷ hs) = refl
gains_pathed (suc k) p (h ∷ hs) = ap (λ x. h.gains + x) (gains_pathed k p hs)

paths_pathed : (tables : List Table) (k : ℕ) (p : List Held) (hs : List Hand) (h : Hand) → get_elem? hs k ≡ some h → Path tables h.held p → Paths tables hs → Paths tables (at_place k (pathed p) hs)
paths_pathed tables k p [] h at t e = absurd (some-ne-none h (sym at))
paths_pathed tables zero p (x ∷ xs) h at t e = (subst (λ (y : Hand). Path tables y.held p) (sym (some-injective x h at)) t, e.1)
paths_pathed tables (suc k) p (x ∷ xs) h at t e = (e.0, paths_pathed tables k p xs h at t e.1)

pub repath : (n k : ℕ) (p : List Held) (tables : List Table) (hs : List Hand) (h : Hand) → get_elem? hs k ≡ some h → Path tables h.held p → Good n tables hs → Good n tables (at_place k (pathed p) hs)
repath n k p tables hs h at t good =
    let a = held_pathed k p hs in
    let b = gains_pathed k p hs in
    record {
      canonical = subst (λ (ls : List (List Held)). Canonical n (let r : State = record { tables = tables; lists = ls } in r)) (sym a) good.canonical;
      enough = subst (λ x. (size (held_by (at_place k (pathed p) hs) ++ link_lists tables) ≤ x) × Each (λ (t : Table). Each (λ (e : Entry). e.count ≡ most → most ≤ x) t.entries) tables) (sym b) (subst (λ (ls : List (List Held)). (size (ls ++ link_lists tables) ≤ sum_gains hs) × Each (λ (t : Table). Each (λ (e : Entry). e.count ≡ most → most ≤ sum_gains hs) t.entries) tables) (sym a) good.enough);
      paths = paths_pathed tables k p hs h at t good.paths;
    }

-- another pass stays
stays : (k : ℕ) (F : Hand → Hand) (hs xs : List Hand) → hands_at k xs ≡ 0 → Each (HandAt hs) xs → Each (HandAt (at_place k F hs)) xs
stays k F hs [] z e = tt
stays k F hs (x ∷ xs) z e = (by_test k x.number (λ b. (if b then 1 else 0) + hands_at k xs ≡ 0 → HandAt (at_place k F hs) x) (λ q z. absurd (omega arith)) (λ q z. at_place_else F k x.number hs (λ r. q (sym r)) ∙ e.0) z, stays k F hs xs (omega arith) e.1)

-- a pass goes in, and has a path there
pub joins_path : (n m id : ℕ) (v : View) (other : ℕ) (h : Hand) (p : List Held) → ((tables : List Table) (hands : List Hand) → Good n tables hands → get_elem? hands h.number ≡ some h → Path tables h.held p) → Joins (Ruled n m) id v other (alone h) (both v (alone (pathed p h))) nothing
joins_path n m id v other h p path s kept at apart there =
    let w = alone h in
    let b = both v (alone (pathed p h)) in
    let was : get_elem? s.views other ≡ some w = sym (set_else s.views id other b apart) ∙ there in
    let F = Fits kept.tables kept.hands in
    let k = h.number in
    let hs = at_place k (pathed p) kept.hands in
    let F' = Fits kept.tables hs in
    let mine = each_at F s.views id v kept.each at in
    let theirs = each_at F s.views other w kept.each was in
    let one : 1 ≤ hands_at k w.hands = by_test k k (λ u. 1 ≤ (if u then 1 else 0) + 0) (λ _. omega arith) (λ e. absurd (e refl)) in
    let keep : (j : ℕ) (u : View) → j ≢ other → get_elem? s.views j ≡ some u → F' u = λ j u ne e.
    let old = each_at F s.views j u kept.each e in
    record { tables = old.tables; hands = stays k (pathed p) kept.hands u.hands (elsewhere (λ x. hands_at k x.hands) s.views other j k m w u (kept.one_hand k) one ne was e) old.hands } in
    let mine' = keep id v (λ e. apart (sym e)) at in
    let whole : F' b = record { tables = each_append _ v.tables [] mine'.tables tt; hands = each_append _ v.hands (pathed p h ∷ []) mine'.hands (at_place_here (pathed p) k kept.hands h theirs.hands.0, tt) } in
    let none : F' nothing = record { tables = tt; hands = tt } in
    let inner : Each F' (set (set s.views id b) other nothing) = each_of F' (set (set s.views id b) other nothing) (λ j u e. ⊎_elim
    (λ (x : (j ≡ other) × (nothing ≡ u)). subst F' x.1 none)
    (λ (x : (j ≢ other) × (get_elem? (set s.views id b) j ≡ some u)). ⊎_elim
    (λ (y : (j ≡ id) × (b ≡ u)). subst F' y.1 whole)
    (λ (y : (j ≢ id) × (get_elem? s.views j ≡ some u)). keep j u x.0 y.1)
    (at_set s.views id j b u x.1))
    (at_set (set s.views id b) other j nothing u e)) in
    record {
      tables = kept.tables;
      hands = hs;
      tables_long = kept.tables_long;
      hands_long = length_at_place (pathed p) k kept.hands ∙ kept.hands_long;
      good = repath n k p kept.tables kept.hands h theirs.hands.0 (path kept.tables kept.hands kept.good theirs.hands.0) kept.good;
      each = inner;
      one_table = λ i.
          let f : View → ℕ = λ u. tables_at i u.tables in
          let a = total_set f s.views id v b at in
          let q = total_set f (set s.views id b) other w nothing there in
          let r = tables_at_append i v.tables [] in
          let c = kept.one_table i in omega arith;
      one_hand = λ i.
          let f : View → ℕ = λ u. hands_at i u.hands in
          let a = total_set f s.views id v b at in
          let q = total_set f (set s.views id b) other w nothing there in
          let r = hands_at_append i v.hands (pathed p h ∷ []) in
          let c = kept.one_hand i in omega arith;
    }

-- the last of some views, which is one pass, gets another path
others_stay : (k : ℕ) (p : List Held) (tables : List Table) (hs : List Hand) (us : List View) → total (λ u. hands_at k u.hands) us ≡ 0 → Each (Fits tables hs) us → Each (Fits tables (at_place k (pathed p) hs)) us
others_stay k p tables hs [] z e = tt
others_stay k p tables hs (u ∷ us) z e = (record { tables = e.0.tables; hands = stays k (pathed p) hs u.hands (omega arith) e.0.hands }, others_stay k p tables hs us (omega arith) e.1)

each_end : {A : Type 0} (P : A → Type 0) (xs : List A) (x : A) → Each P (xs ++ x ∷ []) → Each P xs × P x
each_end P [] x e = (tt, e.0)
each_end P (y ∷ ys) x e = let r = each_end P ys x e.1 in ((e.0, r.0), r.1)

repath_last : (n m : ℕ) (us : List View) (h : Hand) (p : List Held) → ((tables : List Table) (hands : List Hand) → Good n tables hands → Each (Fits tables hands) us → get_elem? hands h.number ≡ some h → Path tables h.held p) → Kept n m (us ++ alone h ∷ []) → Kept n m (us ++ alone (pathed p h) ∷ [])
repath_last n m us h p path kept =
    let k = h.number in
    let hs = at_place k (pathed p) kept.hands in
    let e = each_end (Fits kept.tables kept.hands) us (alone h) kept.each in
    let at : get_elem? kept.hands k ≡ some h = e.1.hands.0 in
    let f : View → ℕ = λ u. hands_at k u.hands in
    let a = total_append f us (alone h ∷ []) in
    let one : hands_at k (h ∷ []) ≡ suc 0 = by_test k k (λ u. (if u then 1 else 0) + 0 ≡ suc 0) (λ _. omega arith) (λ e. absurd (e refl)) in
    let c = kept.one_hand k in
    let b = below_one k m in
    let last : Fits kept.tables hs (alone (pathed p h)) = record { tables = tt; hands = (at_place_here (pathed p) k kept.hands h at, tt) } in
    record {
      tables = kept.tables;
      hands = hs;
      tables_long = kept.tables_long;
      hands_long = length_at_place (pathed p) k kept.hands ∙ kept.hands_long;
      good = repath n k p kept.tables kept.hands h at (path kept.tables kept.hands kept.good e.0 at) kept.good;
      each = each_append _ us (alone (pathed p h) ∷ []) (others_stay k p kept.tables kept.hands us (omega arith) e.0) (last, tt);
      one_table = λ i. let x = total_append (λ u. tables_at i u.tables) us (alone h ∷ []) in let y = total_append (λ u. tables_at i u.tables) us (alone (pathed p h) ∷ []) in let z = kept.one_table i in omega arith;
      one_hand = λ i. let x = total_append (λ u. hands_at i u.hands) us (alone h ∷ []) in let y = total_append (λ u. hands_at i u.hands) us (alone (pathed p h) ∷ []) in let z = kept.one_hand i in omega arith;
    }

-- a pass goes out, and has a path there
pub leaves_path : (n m id : ℕ) (v : View) (h : Hand) (p : List Held) → lasts v.hands ≡ h ∷ [] → ((tables : List Table) (hands : List Hand) → Good n tables hands → Each (λ (t : Numbered). get_elem? tables t.number ≡ some t.table) v.tables → get_elem? hands h.number ≡ some h → Path tables h.held p) → Splits (Ruled n m) id v (without_last v) (alone (pathed p h))
leaves_path n m id v h p is path s kept at =
    let l = without_last v in
    let us = set s.views id l in
    let plain : Kept n m (us ++ alone h ∷ []) = subst (λ (hs : List Hand). Kept n m (us ++ view [] hs ∷ [])) is (leaves n m id v s kept at) in
    repath_last n m us h p (λ tables hands good fits here. path tables hands good (each_at (Fits tables hands) us id l fits (set_there s.views id v l at)).tables here) plain
  where
    set_there : (xs : List View) (i : ℕ) (x y : View) → get_elem? xs i ≡ some x → get_elem? (set xs i y) i ≡ some y
    set_there [] i x y e = absurd (some-ne-none x (sym e))
    set_there (z ∷ zs) zero x y e = refl
    set_there (z ∷ zs) (suc i) x y e = set_there zs i x y e

-- the pairs of a path stand
trail_stands : (n : ℕ) (g : State) (seen ps : List Held) → Canonical n g → Each (Stands g.tables) seen → Trail g.tables seen ps → Each (Stands g.tables) ps
trail_stands n g seen [] c h t = tt
trail_stands n g seen (p ∷ ps) c h ((q, (i, at), l), t) =
    let s = link_stands n g q p c (each_at (Stands g.tables) seen i q h at) l in
    (s, trail_stands n g (seen ++ p ∷ []) ps c (each_append (Stands g.tables) seen (p ∷ []) h (s, tt)) t)

pub path_stands : (n : ℕ) (g : State) (held path : List Held) → Canonical n g → Each (Stands g.tables) held → Path g.tables held path → Each (Stands g.tables) path
path_stands n g held [] c h t = tt
path_stands n g held (p ∷ ps) c h ((i, at), t) = let s = each_at (Stands g.tables) held i p h at in (s, trail_stands n g (p ∷ []) ps c (s, tt) t)
