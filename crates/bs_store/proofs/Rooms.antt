-- What a room and a pass know.
use Rattle.std.proofs.Common.{◌≡◌, ◌≢◌, ℕ, zero, suc, ◌+◌, ◌<◌, ◌≤◌, ◌==◌, List, [], ◌∷◌, ◌++◌, map, refl, sym, ap, ◌∙◌, subst, arith, if◌then◌else◌}
use mathlib.Core.Option.{some, some-ne-none, some-injective}
use lib.ListN.{get_elem?}
use Rattle.bs_tree.specs.Code.{IsCode}
use Rattle.bs_store.specs.Walks.{Sound}
use Rattle.bs_core.proofs.Agree.{entry_of, each_at, stands_agree, one_slot}
use Rattle.bs_core.proofs.Basics.{by_test}
use Rattle.bs_core.proofs.Links.{each_front}
use Rattle.bs_core.proofs.Pairs.{each_mono, each_list, code_of}
use Rattle.bs_core.specs.Canonical.{Each, Has, Stands, link_lists}
use Rattle.bs_core.specs.Codes.{Code, same}
use Rattle.bs_core.specs.Machine.{stripe_in, on_table, times, code_at}
use Rattle.bs_core.specs.declared.event.Event.{Event}
use Rattle.bs_core.specs.declared.name.Name.{Name}
use Rattle.bs_core.specs.declared.table.Held.{Held}
use Rattle.bs_core.specs.declared.table.Table.{Table}
use Rattle.bs_store.proofs.Changes.{path_same, path_of}
use Rattle.bs_store.proofs.Steps.{front_each, each_lasts, hands_at_cut, hands_at_append}
use Rattle.bs_store.proofs.Turns.{each_of, list_of, list_same, HandAt, TableAt}
use Rattle.bs_store.specs.Rule.{path_in, tables_at, hands_at, Known, state, held_by, list_in, on_tables, front, lasts, without_last, last_hand, both}
use Rattle.bs_store.specs.Seats.{table_of, alone, Agree, AgreeBoth, Told}
use Rattle.bs_store.specs.declared.view.Hand.{Hand}
use Rattle.bs_store.specs.declared.view.View.{View}

-- the pairs of a pass that is known stand
pub held_stand : (ts : List Table) (hs : List Hand) (h : Hand) → Each (Each (Stands ts)) (held_by hs) → HandAt hs h → Each (Stands ts) h.held
held_stand ts hs h pairs at = subst (Each (Stands ts)) (list_of h.number hs h at) (each_list (Stands ts) h.number (held_by hs) pairs)

pub known_agree : (h : Hand) → Known (alone h) → Agree h.held
known_agree h k i j p q at at' =
    let e = held_stand k.tables k.hands h (each_front _ (held_by k.hands) (link_lists k.tables) k.good.canonical.pairs) k.fits.hands.0 in
    stands_agree k.n (state k.tables k.hands) p q k.good.canonical (each_at (Stands k.tables) h.held i p e at) (each_at (Stands k.tables) h.held j q e at')

-- a name has one code, a code has one name, and each code is one
pub known_sound : (h : Hand) → Known (alone h) → Sound h.held
known_sound h k =
    let a = known_agree h k in
    let e = held_stand k.tables k.hands h (each_front _ (held_by k.hands) (link_lists k.tables) k.good.canonical.pairs) k.fits.hands.0 in
    record {
      one_code = each_of _ h.held (λ i p at. each_of _ h.held (λ j q at'. (a i j p q at at').0));
      one_name = each_of _ h.held (λ i p at. each_of _ h.held (λ j q at'. (a i j p q at at').1));
      codes = each_mono (Stands k.tables) (λ (p : Held). IsCode p.code) h.held (λ p s. subst IsCode s.2.4 (entry_of k.n (state k.tables k.hands) p k.good.canonical s).sound) e;
    }

-- a room's table is the only one of its view
pub table_here : (n : ℕ) (t : Table) → 1 ≤ tables_at n (table_of n t)
table_here n t = by_test n n (λ u. 1 ≤ (if u then 1 else 0) + 0) (λ _. omega arith) (λ e. absurd (e refl))

pub tables_moved : (e : Event) (n : ℕ) (l : List Held) (t : Table) → stripe_in e ≡ n → on_tables e l (table_of n t) ≡ table_of n (on_table e l t)
tables_moved e n l t q = by_test (stripe_in e) n (λ u. (if u then record { number = n; table = on_table e l t } else record { number = n; table = t }) ∷ [] ≡ table_of n (on_table e l t)) (λ _. refl) (λ x. absurd (x q))

-- the entry of a held name stands in the room
pub entry_here : (p n : ℕ) (x : Name) (t : Table) (v : View) → Known v → v.tables ≡ table_of n t → x.stripe ≡ n → 1 ≤ hands_at p v.hands → 0 < times x (list_in p v.hands) → Has x.slot (code_at x (list_in p v.hands)) t.entries
entry_here p n x t v k is q inside held =
    let same = list_same p k.hands v.hands inside k.fits.hands in
    let e = subst (Each (Stands k.tables)) (sym same) (each_list (Stands k.tables) p (held_by k.hands) (each_front _ (held_by k.hands) (link_lists k.tables) k.good.canonical.pairs)) in
    let stands = code_of (Stands k.tables) x (list_in p v.hands) held e in
    let at : get_elem? k.tables n ≡ some t = (subst (Each (TableAt k.tables)) is k.fits.tables).0 in
    let at' : get_elem? k.tables n ≡ some stands.0 = subst (λ i. get_elem? k.tables i ≡ some stands.0) q stands.1 in
    let table : stands.0 ≡ t = some-injective stands.0 t (sym at' ∙ at) in
    subst (λ (u : Table). Has x.slot (code_at x (list_in p v.hands)) u.entries) table stands.2

-- the last pass of a view
pub front_push : {A : Type 0} (xs : List A) (x : A) → front (xs ++ x ∷ []) ≡ xs
front_push [] x = refl
front_push (y ∷ []) x = refl
front_push (y ∷ z ∷ zs) x = ap (λ l. y ∷ l) (front_push (z ∷ zs) x)

pub lasts_push : {A : Type 0} (xs : List A) (x : A) → lasts (xs ++ x ∷ []) ≡ x ∷ []
lasts_push [] x = refl
lasts_push (y ∷ []) x = refl
lasts_push (y ∷ z ∷ zs) x = lasts_push (z ∷ zs) x

pub map_push : {A : Type 0} (f : A → A) (xs : List A) (x : A) → map f (xs ++ x ∷ []) ≡ map f xs ++ f x ∷ []
map_push f [] x = refl
map_push f (y ∷ ys) x = ap (λ l. f y ∷ l) (map_push f ys x)

pub known_left : (v : View) → Known v → Known (without_last v)
known_left v k = record { n = k.n; tables = k.tables; hands = k.hands; good = k.good; fits = record { tables = k.fits.tables; hands = front_each _ v.hands k.fits.hands }; once = λ j. let r = k.once j in let c = hands_at_cut j v.hands in omega arith }

pub known_right : (v : View) → Known v → Known (last_hand v)
known_right v k = record { n = k.n; tables = k.tables; hands = k.hands; good = k.good; fits = record { tables = tt; hands = each_lasts _ v.hands k.fits.hands }; once = λ j. let r = k.once j in let c = hands_at_cut j v.hands in omega arith }

pub inside_push : (h : Hand) (xs : List Hand) → 1 ≤ hands_at h.number (xs ++ h ∷ [])
inside_push h [] = by_test h.number h.number (λ u. 1 ≤ (if u then 1 else 0) + 0) (λ _. omega arith) (λ e. absurd (e refl))
inside_push h (x ∷ xs) = let r = inside_push h xs in omega arith

each_last : {A : Type 0} (P : A → Type 0) (xs : List A) (x : A) → Each P (xs ++ x ∷ []) → P x
each_last P [] x e = e.0
each_last P (y ∷ ys) x e = each_last P ys x e.1

pub list_push : (h : Hand) (xs : List Hand) (v : View) → Known v → v.hands ≡ xs ++ h ∷ [] → list_in h.number (xs ++ h ∷ []) ≡ h.held
list_push h xs v k is =
    let fits = subst (Each (HandAt k.hands)) is k.fits.hands in
    list_same h.number k.hands (xs ++ h ∷ []) (inside_push h xs) fits ∙ list_of h.number k.hands h (each_last (HandAt k.hands) xs h fits)

pub path_push : (h : Hand) (xs : List Hand) (v : View) → Known v → v.hands ≡ xs ++ h ∷ [] → path_in h.number (xs ++ h ∷ []) ≡ h.path
path_push h xs v k is =
    let fits = subst (Each (HandAt k.hands)) is k.fits.hands in
    path_same h.number k.hands (xs ++ h ∷ []) (inside_push h xs) fits ∙ path_of h.number k.hands h (each_last (HandAt k.hands) xs h fits)

pub known_both : (h k : Hand) (v : View) → v ≡ both (alone h) (alone k) → Known v → AgreeBoth h.held k.held
known_both h k v is known i j p q at at' =
    let fits = (subst Known is known).fits.hands in
    let kn = subst Known is known in
    let one = held_stand kn.tables kn.hands h (each_front _ (held_by kn.hands) (link_lists kn.tables) kn.good.canonical.pairs) fits.0 in
    let other = held_stand kn.tables kn.hands k (each_front _ (held_by kn.hands) (link_lists kn.tables) kn.good.canonical.pairs) fits.1.0 in
    stands_agree kn.n (state kn.tables kn.hands) p q kn.good.canonical (each_at (Stands kn.tables) h.held i p one at) (each_at (Stands kn.tables) k.held j q other at')

-- the numbers of the two last passes differ
pub two_differ : (h k : Hand) (xs : List Hand) (v : View) → Known v → v.hands ≡ xs ++ h ∷ [] ++ k ∷ [] → h.number ≢ k.number
two_differ h k xs v known is same =
    let once = known.once k.number in
    let e = ap (hands_at k.number) is in
    let a = hands_at_append k.number (xs ++ h ∷ []) (k ∷ []) in
    let b = hands_at_append k.number xs (h ∷ []) in
    let one = inside_push k [] in
    let other = subst (λ j. 1 ≤ hands_at j ([] ++ h ∷ [])) same (inside_push h []) in
    omega arith

-- what a look tells of the passes inside
pub known_told : (v : View) → Known v → Told v.hands
known_told v k = (
  each_of _ v.hands (λ i h at.
      let one = each_present v.hands i h at in
      let here = each_at (HandAt k.hands) v.hands i h k.fits.hands at in
      (one, list_same h.number k.hands v.hands one k.fits.hands ∙ list_of h.number k.hands h here, path_same h.number k.hands v.hands one k.fits.hands ∙ path_of h.number k.hands h here)),
  k.once,
)
  where
    each_present : (hs : List Hand) (i : ℕ) (h : Hand) → get_elem? hs i ≡ some h → 1 ≤ hands_at h.number hs
    each_present [] i h at = absurd (some-ne-none h (sym at))
    each_present (x ∷ xs) zero h at = let q = some-injective x h at in subst (λ (y : Hand). 1 ≤ (if y.number == x.number then 1 else 0) + hands_at y.number xs) q (by_test x.number x.number (λ u. 1 ≤ (if u then 1 else 0) + hands_at x.number xs) (λ _. omega arith) (λ e. absurd (e refl)))
    each_present (x ∷ xs) (suc i) h at = let r = each_present xs i h at in omega arith

pub last_of_each : {A : Type 0} (P : A → Type 0) (xs : List A) (x : A) → Each P (xs ++ x ∷ []) → P x
last_of_each P xs x e = each_last P xs x e

pub front_of_each : {A : Type 0} (P : A → Type 0) (xs ys : List A) → Each P (xs ++ ys) → Each P xs
front_of_each P [] ys e = tt
front_of_each P (x ∷ xs) ys e = (e.0, front_of_each P xs ys e.1)

-- the code that stands at a slot of a room is that of the held name
pub code_here : (c : Code) (n : ℕ) (x : Name) (t : Table) (v : View) (l : List Held) → Known v → v.tables ≡ table_of n t → Has x.slot (code_at x l) t.entries → Has x.slot c t.entries → c ≡ code_at x l
code_here c n x t v l k is here found =
    let at : get_elem? k.tables n ≡ some t = (subst (Each (TableAt k.tables)) is k.fits.tables).0 in
    one_slot x.slot c (code_at x l) t.entries ((k.good.canonical.tables n t at).slots_differ x.slot) found here
