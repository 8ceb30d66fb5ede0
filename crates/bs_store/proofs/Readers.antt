-- What a pass that reads knows: its path, and the entry of a name on it.
use Rattle.std.proofs.Common.{◌≡◌, ℕ, zero, suc, ◌+◌, ◌<◌, ◌≤◌, List, [], ◌∷◌, ◌++◌, length, map, refl, sym, ap, ◌∙◌, subst, arith, if◌then◌else◌, Some, Option}
use mathlib.Core.Option.{some, some-ne-none, some-injective}
use lib.ListN.{get_elem?}
use Rattle.atomic_table.specs.Table.{Splits, Joins, Me}
use Rattle.bs_tree.specs.Code.{IsCode}
use Rattle.bs_core.specs.Codes.{Code, children}
use Rattle.bs_core.specs.Keys.{key_in}
use Rattle.bs_core.specs.Machine.{times, code_at, pair, linked, slots, table_at, at_place}
use Rattle.bs_core.specs.Canonical.{Each, Counts, Has, Stands, every, link_lists}
use Rattle.bs_core.specs.declared.name.Name.{Name}
use Rattle.bs_core.specs.declared.table.Held.{Held}
use Rattle.bs_core.specs.declared.table.Table.{Table}
use Rattle.bs_core.specs.declared.table.Entry as table
use Rattle.bs_core.proofs.Basics.{by_test, name_test, at_place_here}
use Rattle.bs_core.proofs.Pairs.{each_mono, code_of, has_slots}
use Rattle.bs_core.proofs.Links.{table_is, each_front}
use Rattle.bs_core.proofs.Agree.{each_at, entry_of, stands_agree}
use Rattle.bs_stripe.specs.Places.{entry_at}
use Rattle.bs_stripe.specs.Laws.{kept_of}
use Rattle.bs_stripe.specs.declared.place.Entry.{Entry}
use Rattle.bs_store.specs.declared.walk_read.Pending.{Pending}
use Rattle.bs_store.specs.declared.view.Hand.{Hand}
use Rattle.bs_store.specs.declared.view.Numbered.{Numbered}
use Rattle.bs_store.specs.declared.view.View.{View}
use Rattle.bs_store.specs.Walks.{Sound}
use Rattle.bs_store.specs.Rule.{view, both, nothing, Good, Known, state, held_by, Among, links_at, Path, pathed, lasts, without_last}
use Rattle.bs_store.specs.Seats.{InRoom, alone, first_hand, first_table, hand_of, table_of, with_hands}
use Rattle.bs_store.specs.Reading.{There, entered, kept, step_on, IsReader}
use Rattle.bs_store.proofs.Steps.{each_lasts, Ruled}
use Rattle.bs_store.proofs.Turns.{each_of, HandAt, TableAt}
use Rattle.bs_store.proofs.Trails.{path_more, repath, joins_path, leaves_path, path_stands}
use Rattle.bs_store.proofs.Rooms.{held_stand, lasts_push}
use Rattle.bs_store.proofs.Stripes.{kept_here}
use Rattle.bs_store.proofs.LentRooms.{table_at_here, one_here}

-- ---- paths
pub among_first : (x : Name) (l : List Held) → 0 < times x l → Among (pair x (code_at x l)) l
among_first x [] h = absurd (omega arith)
among_first x (p ∷ ps) h = name_test x p.name (λ b. 0 < (if b then 1 else 0) + times x ps → Among (pair x (if b then p.code else code_at x ps)) (p ∷ ps))
    (λ q _. (zero, λ i. some (pair (sym q i) p.code)))
    (λ _ z. let r = among_first x ps (omega arith) in (suc r.0, r.1))
    h

entered_path : (tables : List Table) (x : Name) (held path : List Held) → There x held path → Path tables held path → Path tables held (entered x held path)
entered_path tables x held [] h t = (among_first x held h, tt)
entered_path tables x held (p ∷ ps) h t = t

pub entered_there : (x : Name) (held path : List Held) → There x held path → 0 < times x (entered x held path)
entered_there x held [] h = name_test x x (λ b. 0 < (if b then 1 else 0) + 0) (λ _. omega arith) (λ n. absurd (n refl))
entered_there x held (p ∷ ps) h = h

kept_path : (tables : List Table) (held path : List Held) (q : Held) (xs : List Name) (ys : List Pending) → Among q path → xs ≡ links_at q.name.slot (table_at q.name.stripe tables).entries → Path tables held path → Path tables held (kept ys (path ++ linked xs (children q.code)))
kept_path tables held path q xs [] a e t = tt
kept_path tables held path q xs (y ∷ ys) a e t = subst (λ (ns : List Name). Path tables held (path ++ linked ns (children q.code))) (sym e) (path_more tables held path q a t)

-- the path with which a hand leaves, in every good state that the view fits
step_path : (k : ℕ) (t : Table) (v : View) (h : Hand) (x : Name) (ys : List Pending) → v.tables ≡ table_of k t → x.stripe ≡ k → 0 < times x h.path
    → (n : ℕ) (tables : List Table) (hands : List Hand) → Good n tables hands → Each (λ (u : Numbered). get_elem? tables u.number ≡ some u.table) v.tables → get_elem? hands h.number ≡ some h → Path tables h.held (step_on x ys t h)
step_path k t v h x ys is here there n tables hands good fits at =
    let q = pair x (code_at x h.path) in
    let at_k : get_elem? tables k ≡ some t = (subst (Each (TableAt tables)) is fits).0 in
    let at_x : get_elem? tables x.stripe ≡ some t = subst (λ i. get_elem? tables i ≡ some t) (sym here) at_k in
    kept_path tables h.held h.path q (links_at x.slot t.entries) ys (among_first x h.path there) (ap (λ (u : Table). links_at x.slot u.entries) (sym (table_is x.stripe tables t at_x))) (each_at (λ (y : Hand). Path tables y.held y.path) hands h.number h good.paths at)

-- ---- steps of the seats
pub joins_on : (n m id : ℕ) (v : View) (other : ℕ) (w : View) (h : Hand) (x : Name) (p : List Held) → w ≡ alone h → There x h.held h.path → p ≡ entered x h.held h.path → Joins (Ruled n m) id v other w (both v (view w.tables (map (pathed p) w.hands))) nothing
joins_on n m id v other w h x p is there e =
    subst (λ (u : View). Joins (Ruled n m) id v other u (both v (view u.tables (map (pathed p) u.hands))) nothing) (sym is)
    (joins_path n m id v other h p (λ tables hands good at. subst (Path tables h.held) (sym e) (entered_path tables x h.held h.path there (each_at (λ (y : Hand). Path tables y.held y.path) hands h.number h good.paths at))))

pub leaves_on : (n m id k : ℕ) (t : Table) (v : View) (h : Hand) (x : Name) (ys : List Pending) (p : List Held) → v.tables ≡ table_of k t → x.stripe ≡ k → lasts v.hands ≡ h ∷ [] → 0 < times x h.path → p ≡ step_on x ys t h → Splits (Ruled n m) id v (without_last v) (view [] (map (pathed p) (lasts v.hands)))
leaves_on n m id k t v h x ys p is here last there e =
    subst (λ (hs : List Hand). Splits (Ruled n m) id v (without_last v) (view [] (map (pathed p) hs))) (sym last)
    (leaves_path n m id v h p last (λ tables hands good fits at. subst (Path tables h.held) (sym e) (step_path k t v h x ys is here there n tables hands good fits at)))

pub known_on : (k : ℕ) (t : Table) (v : View) (h : Hand) (x : Name) (ys : List Pending) (p : List Held) → Known v → v.tables ≡ table_of k t → x.stripe ≡ k → lasts v.hands ≡ h ∷ [] → 0 < times x h.path → p ≡ step_on x ys t h → Known (alone (pathed p h))
known_on k t v h x ys p known is here last there e =
    let at : HandAt known.hands h = (subst (Each (HandAt known.hands)) last (each_lasts (HandAt known.hands) v.hands known.fits.hands)).0 in
    let path = subst (Path known.tables h.held) (sym e) (step_path k t v h x ys is here there known.n known.tables known.hands known.good known.fits.tables at) in
    record {
      n = known.n;
      tables = known.tables;
      hands = at_place h.number (pathed p) known.hands;
      good = repath known.n h.number p known.tables known.hands h at path known.good;
      fits = record { tables = tt; hands = (at_place_here (pathed p) h.number known.hands h at, tt) };
      once = λ j. by_test j h.number (λ u. (if u then 1 else 0) + 0 ≤ 1) (λ _. omega arith) (λ _. omega arith);
    }

-- ---- what stands
hand_stands : (v : View) (h : Hand) (known : Known v) → HandAt known.hands h → Each (Stands known.tables) h.path
hand_stands v h known at =
    let g = state known.tables known.hands in
    let held = held_stand known.tables known.hands h (each_front (Each (Stands known.tables)) (held_by known.hands) (link_lists known.tables) known.good.canonical.pairs) at in
    path_stands known.n g h.held h.path known.good.canonical held (each_at (λ (y : Hand). Path known.tables y.held y.path) known.hands h.number h known.good.paths at)

pub known_path : (h : Hand) → Known (alone h) → Sound h.path
known_path h known =
    let g = state known.tables known.hands in
    let S = Stands known.tables in
    let e = hand_stands (alone h) h known known.fits.hands.0 in
    record {
      one_code = each_of _ h.path (λ i p at. each_of _ h.path (λ j q at'. (stands_agree known.n g p q known.good.canonical (each_at S h.path i p e at) (each_at S h.path j q e at')).0));
      one_name = each_of _ h.path (λ i p at. each_of _ h.path (λ j q at'. (stands_agree known.n g p q known.good.canonical (each_at S h.path i p e at) (each_at S h.path j q e at')).1));
      codes = each_mono S (λ (p : Held). IsCode p.code) h.path (λ p s. subst IsCode s.2.4 (entry_of known.n g p known.good.canonical s).sound) e;
    }

links_found : (s : ℕ) (c : Code) (es : List table.Entry) → slots s es ≤ 1 → (h : Has s c es) → links_at s es ≡ h.1.links
links_found s c [] one h = absurd (some-ne-none h.1 (sym h.2))
links_found s c (x ∷ xs) one (zero, y, at, a, b) =
    let q = some-injective x y at in
    let here : s ≡ x.slot = sym a ∙ sym (ap (λ (z : table.Entry). z.slot) q) in
    by_test s x.slot (λ u. (if u then x.links else links_at s xs) ≡ y.links) (λ _. ap (λ (z : table.Entry). z.links) q) (λ n. absurd (n here))
links_found s c (x ∷ xs) one (suc k, y, at, a, b) =
    let h : Has s c xs = (k, y, at, a, b) in
    let many = has_slots s c xs h in
    by_test s x.slot (λ u. (if u then 1 else 0) + slots s xs ≤ 1 → (if u then x.links else links_at s xs) ≡ y.links) (λ _ z. absurd (omega arith)) (λ _ z. links_found s c xs (omega arith) h) one

-- the entry of a name on the path of the last pass
pub record EntryOn (x : Name) (c : Code) (t : Table) (es : List (Option Entry)) : Type 0 where
  pub entry : table.Entry
  pub here : entry_at x.slot es ≡ Some (let r : Entry = record { key = key_in entry; count = entry.count } in r)
  pub links : links_at x.slot t.entries ≡ entry.links
  pub code : entry.code ≡ c
  pub all : length entry.links ≡ length (children c)

pub entry_on : (k : ℕ) (t : Table) (v : View) (h : Hand) (x : Name) (es : List (Option Entry)) → Known v → v.tables ≡ table_of k t → lasts v.hands ≡ h ∷ [] → es ≡ kept_of t → x.stripe ≡ k → 0 < times x h.path → EntryOn x (code_at x h.path) t es
entry_on k t v h x es known is last same here there =
    let c = code_at x h.path in
    let at : HandAt known.hands h = (subst (Each (HandAt known.hands)) last (each_lasts (HandAt known.hands) v.hands known.fits.hands)).0 in
    let stands = code_of (Stands known.tables) x h.path there (hand_stands v h known at) in
    let at_k = table_at_here k t v known is in
    let at_x : get_elem? known.tables k ≡ some stands.0 = subst (λ i. get_elem? known.tables i ≡ some stands.0) here stands.1 in
    let table_same : stands.0 ≡ t = some-injective stands.0 t (sym at_x ∙ at_k) in
    let has : Has x.slot c t.entries = subst (λ (u : Table). Has x.slot c u.entries) table_same stands.2 in
    let counts = (known.good.canonical.tables k t at_k).entries in
    let one = one_here k t v known is x.slot in
    let low = each_mono (Counts known.n k t.mark (every (state known.tables known.hands))) (λ (e : table.Entry). e.slot < t.mark) t.entries (λ e c. c.below) counts in
    record {
      entry = has.1;
      here = ap (entry_at x.slot) same ∙ kept_here x.slot c t low one has;
      links = links_found x.slot c t.entries one has;
      code = has.4;
      all = (each_at (Counts known.n k t.mark (every (state known.tables known.hands))) t.entries has.0 has.1 counts has.2).full ∙ ap (λ (d : Code). length (children d)) has.4;
    }

-- ---- in and out of a room
abbrev Mine : Type 0
Mine = Me (Unit {0}) View

pub first_none : (ts : List Numbered) → first_table (ts ++ []) ≡ first_table ts
first_none [] = refl
first_none (t ∷ ts) = refl

-- the hand that came in
pub record CameIn (room to : InRoom) (g : Hand) : Type 0 where
  pub last : lasts to.hands ≡ g ∷ []
  pub first : first_hand (lasts to.hands) ≡ g
  pub table : to.table ≡ room.table
  pub number : to.number ≡ room.number

pub came_in : (room to : InRoom) (me : Mine) (h : Hand) (x : Name) → me ≡ (alone h, []) → to ≡ with_hands room (room.hands ++ pathed (entered x (first_hand me.0.hands).held (first_hand me.0.hands).path) (first_hand me.0.hands) ∷ []) → CameIn room to (pathed (entered x h.held h.path) h)
came_in room to me h x is e =
    let P : Hand → Hand = λ k. pathed (entered x k.held k.path) k in
    let hands : to.hands ≡ room.hands ++ P h ∷ [] = ap (λ (r : InRoom). r.hands) e ∙ ap (λ (m : Mine). room.hands ++ P (first_hand m.0.hands) ∷ []) is in
    let last = ap lasts hands ∙ lasts_push room.hands (P h) in
    record { last = last; first = ap first_hand last; table = ap (λ (r : InRoom). r.table) e; number = ap (λ (r : InRoom). r.number) e }

-- the hand that goes out
pub record WentOut (views : List View) (k : ℕ) (h : Hand) : Type 0 where
  pub is : hand_of views ≡ h
  pub reader : IsReader k views

pub went_out : (views : List View) (res : Mine) (k : ℕ) (h : Hand) → views ≡ res.0 ∷ [] → res ≡ (alone h, []) → Known res.0 → h.number ≡ k → WentOut views k h
went_out views res k h is me known number =
    let a : res.0 ≡ alone h = ap (λ (m : Mine). m.0) me in
    let whole : views ≡ alone h ∷ [] = is ∙ ap (λ (u : View). u ∷ []) a in
    record { is = ap hand_of whole; reader = subst (IsReader k) (sym whole) (record { one = refl; numbered = number; known = subst Known a known }) }
