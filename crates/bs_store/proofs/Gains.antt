-- An event keeps that what is held and linked was gained.
use Rattle.std.proofs.Common.{◌≡◌, ◌⊎◌, ℕ, zero, suc, ◌+◌, ◌-◌, ◌<◌, ◌≤◌, ◌==◌, true, false, List, [], ◌∷◌, ◌++◌, length, refl, sym, ap, ◌∙◌, subst, arith, inl, inr, ⊎_elim, if◌then◌else◌, length-append}
use mathlib.Core.Option.{some, some-ne-none, some-injective}
use lib.ListN.{get_elem?}
use Rattle.bs_core.proofs.Basics.{by_test, length_at_place}
use Rattle.bs_core.proofs.Links.{turn, links_raise, links_append}
use Rattle.bs_core.proofs.Pairs.{each_mono, each_join, push}
use Rattle.bs_core.specs.Canonical.{Each, all_times, Counts, Canonical, links_each, link_lists, every}
use Rattle.bs_core.specs.Codes.{Code, children, same}
use Rattle.bs_core.specs.Machine.{most, is_name, times, code_at, without, pair, one_more, raise_in, lower, lower_in, codes, new_entry, raised, lowered, added, interned, at_place, State, list_at, links_of, linked, freed, taken, left, without_code, coded, HasAll}
use Rattle.bs_core.specs.declared.name.Name.{Name}
use Rattle.bs_core.specs.declared.table.Entry.{Entry}
use Rattle.bs_core.specs.declared.table.Held.{Held}
use Rattle.bs_core.specs.declared.table.Table.{Table}
use Rattle.bs_store.specs.Rule.{sum_gains, held_by, Enough, state, size, played}
use Rattle.bs_store.specs.declared.view.Hand.{Hand}

pub size_append : (ls ms : List (List Held)) → size (ls ++ ms) ≡ size ls + size ms
size_append [] ms = omega arith
size_append (l ∷ ls) ms = let r = size_append ls ms in omega arith

at_size : (p : ℕ) (f : List Held → List Held) (ls : List (List Held)) → p < length ls → size (at_place p f ls) + length (list_at p ls) ≡ size ls + length (f (list_at p ls))
at_size p f [] h = absurd (omega arith)
at_size zero f (l ∷ ls) h = omega arith
at_size (suc p) f (l ∷ ls) h = let r = at_size p f ls (omega arith) in omega arith

link_size : (s : ℕ) (T : Table → Table) (tables : List Table) (t : Table) → get_elem? tables s ≡ some t → size (link_lists (at_place s T tables)) + size (links_each t.entries) ≡ size (link_lists tables) + size (links_each (T t).entries)
link_size s T [] t at = absurd (some-ne-none t (sym at))
link_size zero T (y ∷ ys) t at =
    let a = size_append (links_each (T y).entries) (link_lists ys) in
    let b = size_append (links_each y.entries) (link_lists ys) in
    let e : y ≡ t = some-injective y t at in
    let c : size (links_each (T y).entries) ≡ size (links_each (T t).entries) = ap (λ (z : Table). size (links_each (T z).entries)) e in
    let d : size (links_each y.entries) ≡ size (links_each t.entries) = ap (λ (z : Table). size (links_each z.entries)) e in omega arith
link_size (suc s) T (y ∷ ys) t at =
    let a = size_append (links_each y.entries) (link_lists (at_place s T ys)) in
    let b = size_append (links_each y.entries) (link_lists ys) in
    let r = link_size s T ys t at in omega arith

every_size : (s : ℕ) (T : Table → Table) (p : ℕ) (f : List Held → List Held) (g : State) (t : Table) → get_elem? g.tables s ≡ some t → p < length g.lists
    → size (every (turn s T p f g)) + (length (list_at p g.lists) + size (links_each t.entries)) ≡ size (every g) + (length (f (list_at p g.lists)) + size (links_each (T t).entries))
every_size s T p f g t at within =
    let a = size_append (at_place p f g.lists) (link_lists (at_place s T g.tables)) in
    let b = size_append g.lists (link_lists g.tables) in
    let c = at_size p f g.lists within in
    let d = link_size s T g.tables t at in omega arith

lower_size : (s : ℕ) (es : List Entry) → size (links_each (lower_in s es)) + length (freed s es) ≡ size (links_each es)
lower_size s [] = omega arith
lower_size s (e ∷ es) = elim (s == e.slot) as (λ b. size (links_each (if b then lower e ++ es else e ∷ lower_in s es)) + length (if b then (if e.count == 1 then links_of e else []) else freed s es) ≡ length (links_of e) + size (links_each es)) [
  | true ↦ elim (e.count == 1) as (λ b. size (links_each ((if b then [] else (if e.count == most then e ∷ [] else record { slot = e.slot; code = e.code; links = e.links; count = e.count - 1 } ∷ [])) ++ es)) + length (if b then links_of e else []) ≡ length (links_of e) + size (links_each es)) [
    | true ↦ omega arith
    | false ↦ elim (e.count == most) as (λ b. size (links_each ((if b then e ∷ [] else record { slot = e.slot; code = e.code; links = e.links; count = e.count - 1 } ∷ []) ++ es)) + 0 ≡ length (links_of e) + size (links_each es)) [ true ↦ omega arith | false ↦ omega arith ]
  ]
  | false ↦ (let r = lower_size s es in omega arith)
]

one_less : (c : Code) (l : List Held) → 0 < coded c l → length (without_code c l) + 1 ≡ length l
one_less c [] h = absurd (omega arith)
one_less c (p ∷ ps) h = elim (same c p.code) as (λ b. 0 < (if b then 1 else 0) + coded c ps → length (if b then ps else p ∷ without_code c ps) + 1 ≡ suc (length ps)) [ true ↦ (λ z. omega arith) | false ↦ (λ z. let r = one_less c ps (omega arith) in omega arith) ] h

all_less : (cs : List Code) (l : List Held) → HasAll cs l → length (left cs l) + length (linked (taken cs l) cs) ≡ length l
all_less [] l h = omega arith
all_less (c ∷ cs) l h = let r = all_less cs (without_code c l) h.1 in let q = one_less c l h.0 in omega arith

pub length_without : (m : Name) (l : List Held) → 0 < times m l → length (without m l) + 1 ≡ length l
length_without m [] h = absurd (omega arith)
length_without m (p ∷ ps) h = elim (is_name m p.name) as (λ b. 0 < (if b then 1 else 0) + times m ps → length (if b then ps else p ∷ without m ps) + 1 ≡ suc (length ps)) [ true ↦ (λ _. omega arith) | false ↦ (λ z. let r = length_without m ps (omega arith) in omega arith) ] h

times_length : (x : Name) (l : List Held) → times x l ≤ length l
times_length x [] = omega arith
times_length x (p ∷ ps) = let r = times_length x ps in elim (is_name x p.name) as (λ b. (if b then 1 else 0) + times x ps ≤ suc (length ps)) [ true ↦ omega arith | false ↦ omega arith ]

all_times_size : (x : Name) (ls : List (List Held)) → all_times x ls ≤ size ls
all_times_size x [] = omega arith
all_times_size x (l ∷ ls) = let r = all_times_size x ls in let q = times_length x l in omega arith

pub gains_place : (k gain : ℕ) (f : List Held → List Held) (hs : List Hand) → k < length (held_by hs) → sum_gains (at_place k (played gain f) hs) ≡ sum_gains hs + gain
gains_place k gain f [] h = absurd (omega arith)
gains_place zero gain f (x ∷ xs) h = omega arith
gains_place (suc k) gain f (x ∷ xs) h = let r = gains_place k gain f xs (omega arith) in omega arith

abbrev pub Full : ℕ → Entry → Type 0
Full g e = e.count ≡ most → most ≤ g

abbrev pub Within : ℕ → Entry → Type 0
Within h e = (e.count ≤ h) ⊎ (e.count ≡ most)

raise_full : (s g g' h : ℕ) (es : List Entry) → h + 1 ≤ g' → g ≤ g' → Each (Within h) es → Each (Full g) es → Each (Full g') (raise_in s es)
raise_full s g g' h [] a b w f = tt
raise_full s g g' h (e ∷ es) a b w f = (
  elim (s == e.slot) as (λ u. Full g' (if u then record { slot = e.slot; code = e.code; links = e.links; count = one_more e.count } else e)) [
    | true ↦ by_test e.count most (λ u. (if u then e.count else e.count + 1) ≡ most → most ≤ g') (λ q z. let r = f.0 q in omega arith) (λ q z. ⊎_elim (λ r. omega arith) (λ r. absurd (q r)) w.0)
    | false ↦ (λ z. let r = f.0 z in omega arith)
  ],
  raise_full s g g' h es a b w.1 f.1,
)

lower_full : (s g h : ℕ) (es : List Entry) → h ≤ g → Each (Within h) es → Each (Full g) es → Each (Full g) (lower_in s es)
lower_full s g h [] a w f = tt
lower_full s g h (e ∷ es) a w f = elim (s == e.slot) as (λ u. Each (Full g) (if u then lower e ++ es else e ∷ lower_in s es)) [
  | true ↦ each_join (Full g) (lower e) es (by_test e.count 1 (λ u. Each (Full g) (if u then [] else (if e.count == most then e ∷ [] else record { slot = e.slot; code = e.code; links = e.links; count = e.count - 1 } ∷ [])))
      (λ _. tt)
      (λ _. by_test e.count most (λ u. Each (Full g) (if u then e ∷ [] else record { slot = e.slot; code = e.code; links = e.links; count = e.count - 1 } ∷ [])) (λ q. (f.0, tt)) (λ q. ((λ z. ⊎_elim (λ r. omega arith) (λ r. absurd (q r)) w.0), tt)))) f.1
  | false ↦ (f.0, lower_full s g h es a w.1 f.1)
]

abbrev AllFull : ℕ → List Table → Type 0
AllFull g ts = Each (λ (t : Table). Each (Full g) t.entries) ts

all_full : (g g' : ℕ) (ts : List Table) → g ≤ g' → AllFull g ts → AllFull g' ts
all_full g g' ts le = each_mono (λ (t : Table). Each (Full g) t.entries) (λ (t : Table). Each (Full g') t.entries) ts (λ t. each_mono (Full g) (Full g') t.entries (λ e f z. let r = f z in omega arith))

place_full : (g g' s : ℕ) (T : Table → Table) (ts : List Table) → g ≤ g' → ((t : Table) → get_elem? ts s ≡ some t → Each (Full g) t.entries → Each (Full g') (T t).entries) → AllFull g ts → AllFull g' (at_place s T ts)
place_full g g' s T [] le h e = tt
place_full g g' zero T (t ∷ ts) le h e = (h t refl e.0, all_full g g' ts le e.1)
place_full g g' (suc s) T (t ∷ ts) le h e = (each_mono (Full g) (Full g') t.entries (λ x f z. let r = f z in omega arith) e.0, place_full g g' s T ts le h e.1)

within_all : (n i mk : ℕ) (ls : List (List Held)) (es : List Entry) → Each (Counts n i mk ls) es → Each (Within (size ls)) es
within_all n i mk ls es = each_mono (Counts n i mk ls) (Within (size ls)) es (λ e c. ⊎_elim (λ q. let r = all_times_size (record { stripe = i; slot = e.slot }) ls in inl (omega arith)) (λ q. inr q) c.counted)

interned_full : (s : ℕ) (c : Code) (xs : List Name) (t : Table) (g g' h : ℕ) → h + 1 ≤ g' → g ≤ g' → Each (Within h) t.entries → Each (Full g) t.entries → Each (Full g') (interned s c xs t).entries
interned_full s c xs t g g' h a b w f = elim (codes c t.entries == 0) as (λ u. Each (Full g') (if u then added s c xs t else raised s t).entries) [
  | true ↦ each_join (Full g') t.entries (new_entry s c xs ∷ []) (each_mono (Full g) (Full g') t.entries (λ e q z. let r = q z in omega arith) f) ((λ z. absurd (omega arith)), tt)
  | false ↦ raise_full s g g' h t.entries a b w f
]

-- what a party's step gains
module _ (n s k gain : ℕ) (T : Table → Table) (f : List Held → List Held) (ts : List Table) (hs : List Hand) (t : Table) (at : get_elem? ts s ≡ some t) (in_range : k < length (held_by hs)) (c : Canonical n (state ts hs)) (enough : Enough ts hs)
    (grows : length (f (list_at k (held_by hs))) + size (links_each (T t).entries) ≤ length (list_at k (held_by hs)) + size (links_each t.entries) + gain)
    (full : (g g' h : ℕ) → h + gain ≤ g' → g ≤ g' → Each (Within h) t.entries → Each (Full g) t.entries → Each (Full g') (T t).entries) where
  pub turn_enough : (size (every (turn s T k f (state ts hs))) ≤ sum_gains hs + gain) × AllFull (sum_gains hs + gain) (at_place s T ts)
  turn_enough =
      let e = enough.0 in
      let r = every_size s T k f (state ts hs) t at in_range in (
        omega arith,
        place_full (sum_gains hs) (sum_gains hs + gain) s T ts (omega arith) (λ t' at' z.
            let q : t ≡ t' = some-injective t t' (sym at ∙ at') in
            subst (λ (y : Table). Each (Full (sum_gains hs + gain)) (T y).entries) q (full (sum_gains hs) (sum_gains hs + gain) (size (every (state ts hs))) (omega arith) (omega arith) (within_all n s t.mark (every (state ts hs)) t.entries (c.tables s t at).entries) (subst (λ (y : Table). Each (Full (sum_gains hs)) y.entries) (sym q) z))) enough.1,
      )

pub hold_grows : (m : Name) (l : List Held) (t : Table) → length (push m (code_at m l) l) + size (links_each (raised m.slot t).entries) ≤ length l + size (links_each t.entries) + 1
hold_grows m l t = let r = length-append l (pair m (code_at m l) ∷ []) in let z : size (links_each (raised m.slot t).entries) ≡ size (links_each t.entries) = ap size (links_raise m.slot t.entries) in omega arith

pub release_grows : (m : Name) (l : List Held) (t : Table) → 0 < times m l → length (without m l ++ freed m.slot t.entries) + size (links_each (lowered m.slot t).entries) ≤ length l + size (links_each t.entries) + 0
release_grows m l t h = let r = length-append (without m l) (freed m.slot t.entries) in let q = length_without m l h in let z = lower_size m.slot t.entries in omega arith

pub intern_grows : (m : Name) (c : Code) (l : List Held) (t : Table) → HasAll (children c) l → length (push m c (if codes c t.entries == 0 then left (children c) l else l)) + size (links_each (interned m.slot c (taken (children c) l) t).entries) ≤ length l + size (links_each t.entries) + 1
intern_grows m c l t h =
    let xs = taken (children c) l in
    elim (codes c t.entries == 0) as (λ b. length (push m c (if b then left (children c) l else l)) + size (links_each (if b then added m.slot c xs t else raised m.slot t).entries) ≤ length l + size (links_each t.entries) + 1) [
      | true ↦ (let r = length-append (left (children c) l) (pair m c ∷ []) in let q = all_less (children c) l h in
          let z : size (links_each (added m.slot c xs t).entries) ≡ size (links_each t.entries) + (length (linked xs (children c)) + 0) = ap size (links_append t.entries (new_entry m.slot c xs ∷ [])) ∙ size_append (links_each t.entries) (linked xs (children c) ∷ []) in omega arith)
      | false ↦ (let r = length-append l (pair m c ∷ []) in let z : size (links_each (raised m.slot t).entries) ≡ size (links_each t.entries) = ap size (links_raise m.slot t.entries) in omega arith)
    ]

pub hold_full : (s : ℕ) (t : Table) (g g' h : ℕ) → h + 1 ≤ g' → g ≤ g' → Each (Within h) t.entries → Each (Full g) t.entries → Each (Full g') (raised s t).entries
hold_full s t g g' h a b w f = raise_full s g g' h t.entries a b w f

pub release_full : (s : ℕ) (t : Table) (g g' h : ℕ) → h + 0 ≤ g' → g ≤ g' → Each (Within h) t.entries → Each (Full g) t.entries → Each (Full g') (lowered s t).entries
release_full s t g g' h a b w f = lower_full s g' h t.entries (omega arith) w (each_mono (Full g) (Full g') t.entries (λ e q z. let r = q z in omega arith) f)

pub intern_full : (s : ℕ) (c : Code) (xs : List Name) (t : Table) (g g' h : ℕ) → h + 1 ≤ g' → g ≤ g' → Each (Within h) t.entries → Each (Full g) t.entries → Each (Full g') (interned s c xs t).entries
intern_full = interned_full

-- a pair moves
pub move_enough : (s p q : ℕ) (m : Name) (c : Code) (ts : List Table) (hs : List Hand) → p < length (held_by hs) → q < length (held_by hs) → 0 < times m (list_at p (held_by hs)) → Enough ts hs
    → (size (at_place q (push m c) (at_place p (without m) (held_by hs)) ++ link_lists ts) ≤ sum_gains hs) × AllFull (sum_gains hs) ts
move_enough s p q m c ts hs p_in q_in has enough =
    let ls = held_by hs in
    let mid = at_place p (without m) ls in
    let a = at_size p (without m) ls p_in in
    let b = length_without m (list_at p ls) has in
    let d = at_size q (push m c) mid (subst (λ k. q < k) (sym (length_at_place (without m) p ls)) q_in) in
    let e = length-append (list_at q mid) (pair m c ∷ []) in
    let k = size_append (at_place q (push m c) mid) (link_lists ts) in
    let k' = size_append ls (link_lists ts) in
    let z = enough.0 in (omega arith, enough.1)
