-- A pass goes in, an event happens, and it comes out.
use Rattle.std.proofs.Common.{◌≡◌, ◌≢◌, ℕ, ◌+◌, ◌≤◌, ◌==◌, Bool, List, [], ◌∷◌, ◌++◌, map, refl, sym, ap, ◌∙◌, subst, arith, add-zero, if◌then◌else◌, Result, Ok, Err, IfOk, OnOk, OnErr}
use Rattle.std.specs.declared.alloc.AllocError.{AllocError}
use Rattle.atomic_table.specs.Table.{Me}
use Rattle.atomic_table.specs.Seated.{TableId}
use Rattle.bs_core.specs.Codes.{Code, children}
use Rattle.bs_core.specs.Machine.{on_list, code_at, without, freed, codes, left, pair}
use Rattle.bs_core.specs.declared.name.Name.{Name}
use Rattle.bs_core.specs.declared.table.Held.{Held}
use Rattle.bs_core.specs.declared.event.Event.TheVariants.{Intern, Release, Give}
use Rattle.bs_core.proofs.Basics.{by_test}
use Rattle.bs_core.proofs.Pairs.{push}
use Rattle.bs_stripe.specs.declared.stripe.Lowered.{Lowered}
use Rattle.bs_store.specs.declared.view.Hand.{Hand}
use Rattle.bs_store.specs.declared.view.View.{View}
use Rattle.bs_store.specs.declared.walk.Interned.{Interned}
use Rattle.bs_store.specs.Rule.{view, Known, on_hand, played, lasts, front, list_in, path_in, hands_at}
use Rattle.bs_store.specs.Seats.{OfPass, InRoom, with_hands, room_after, alone, hand, first_hand, hand_of, IsPass, Told, Leaves}
use Rattle.bs_store.specs.Walks.{Interns, Released}
use Rattle.bs_store.proofs.Steps.{hands_at_append}
use Rattle.bs_store.proofs.Rooms.{lasts_push, front_push, map_push, last_of_each, front_of_each, inside_push}

abbrev pub Mine : Type 0
Mine = Me (Unit {0}) View

abbrev pub hit_at : Bool → ℕ → (List Held → List Held) → Hand → Hand
hit_at b gain f h = if b then played gain f h else h

pub hit_hand : (p gain : ℕ) (f : List Held → List Held) (h : Hand) → h.number ≡ p → h.path ≡ [] → on_hand p gain f h ≡ hand p (f h.held) (h.gains + gain)
hit_hand p gain f h q no_path = by_test p h.number (λ u. hit_at u gain f h ≡ hand p (f h.held) (h.gains + gain)) (λ _. λ i. record { number = q i; held = f h.held; gains = h.gains + gain; path = no_path i }) (λ e. absurd (e (sym q)))

pub miss_hand : (p gain : ℕ) (f : List Held → List Held) (h : Hand) → h.number ≢ p → on_hand p gain f h ≡ h
miss_hand p gain f h n = by_test p h.number (λ u. hit_at u gain f h ≡ h) (λ e. absurd (n (sym e))) (λ _. refl)

-- the hand that comes out
out : (views : List View) (h : Hand) (hs : List Hand) (res : Mine) → views ≡ res.0 ∷ [] → res ≡ (view [] (lasts hs), []) → lasts hs ≡ h ∷ [] → Known res.0 → h.path ≡ [] → (hand_of views ≡ h) × IsPass h.number views
out views h hs res is me last known no_path =
    let alone_is : res.0 ≡ alone h = ap (λ (m : Mine). m.0) me ∙ ap (view []) last in
    let whole : views ≡ alone h ∷ [] = is ∙ ap (λ (u : View). u ∷ []) alone_is in
    (ap hand_of whole, subst (IsPass h.number) (sym whole) (record { one = refl; numbered = refl; no_path = no_path; known = subst Known alone_is known }))

hands_in : (h : Hand) (m : Mine) (r0 r1 : InRoom) → m ≡ (alone h, []) → r1 ≡ with_hands r0 (r0.hands ++ first_hand m.0.hands ∷ []) → r1.hands ≡ r0.hands ++ h ∷ []
hands_in h m r0 r1 me entered = ap (λ (r : InRoom). r.hands) entered ∙ ap (λ (k : Mine). r0.hands ++ first_hand k.0.hands ∷ []) me

pub visited : (p gain : ℕ) (f : List Held → List Held) (h : Hand) (m : Mine) (r0 r1 r2 : InRoom) (res : Mine) (views : List View)
    → h.number ≡ p → h.path ≡ [] → m ≡ (alone h, []) → r1 ≡ with_hands r0 (r0.hands ++ first_hand m.0.hands ∷ []) → r2.hands ≡ map (on_hand p gain f) r1.hands → res ≡ (view [] (lasts r2.hands), []) → Known res.0 → views ≡ res.0 ∷ []
    → (hand_of views ≡ hand p (f h.held) (h.gains + gain)) × IsPass p views
visited p gain f h m r0 r1 r2 res views number no_path me entered changed left known is =
    let g = on_hand p gain f in
    let last : lasts r2.hands ≡ hand p (f h.held) (h.gains + gain) ∷ [] =
    ap lasts (changed ∙ ap (map g) (hands_in h m r0 r1 me entered) ∙ map_push g r0.hands h) ∙ lasts_push (map g r0.hands) (g h) ∙ ap (λ (k : Hand). k ∷ []) (hit_hand p gain f h number no_path) in
    out views (hand p (f h.held) (h.gains + gain)) r2.hands res is left last known refl

pub unchanged : (p : ℕ) (h : Hand) (m : Mine) (r0 r1 r2 : InRoom) (res : Mine) (views : List View)
    → h.number ≡ p → h.path ≡ [] → m ≡ (alone h, []) → r1 ≡ with_hands r0 (r0.hands ++ first_hand m.0.hands ∷ []) → r2.hands ≡ r1.hands → res ≡ (view [] (lasts r2.hands), []) → Known res.0 → views ≡ res.0 ∷ []
    → (hand_of views ≡ h) × IsPass p views
unchanged p h m r0 r1 r2 res views number no_path me entered same left known is =
    let last : lasts r2.hands ≡ h ∷ [] = ap lasts (same ∙ hands_in h m r0 r1 me entered) ∙ lasts_push r0.hands h in
    let o = out views h r2.hands res is left last known no_path in
    (o.0, subst (λ k. IsPass k views) number o.1)

abbrev pub of_hand : TableId → ℕ → Hand → OfPass
of_hand t n h = record { store = t; number = n; held = h.held; gains = h.gains }

-- the list that is inside is the one that came
pub entered_list : (p : ℕ) (h : Hand) (m : Mine) (r1 : InRoom) → h.number ≡ p → m ≡ (alone h, []) → list_in (first_hand m.0.hands).number r1.hands ≡ (first_hand m.0.hands).held → list_in p r1.hands ≡ h.held
entered_list p h m r1 number me held = subst (λ (k : ℕ). list_in k r1.hands ≡ h.held) number (subst (λ (n : Mine). list_in (first_hand n.0.hands).number r1.hands ≡ (first_hand n.0.hands).held) me held)

-- ---- one node is interned
pub visited_intern : (p : ℕ) (c : Code) (answer : Result Interned AllocError) (h : Hand) (m : Mine) (r0 r1 r2 : InRoom) (res : Mine) (views : List View) (old : OfPass) (t t' : TableId)
    → IfOk answer (λ i. i.new ≡ (codes c r1.table.entries == 0)) → IfOk answer (λ i. r2 ≡ room_after (Intern p c i.name) r1) → OnErr answer (r2 ≡ r1)
    → h.number ≡ p → h.path ≡ [] → m ≡ (alone h, []) → r1 ≡ with_hands r0 (r0.hands ++ first_hand m.0.hands ∷ []) → res ≡ (view [] (lasts r2.hands), []) → Known res.0 → views ≡ res.0 ∷ [] → of_hand t p h ≡ old → t' ≡ t
    → IsPass p views × IfOk answer (λ i. Interns c i.name i.new old.held (hand_of views).held) × OnOk answer ((hand_of views).gains ≡ old.gains + 1) × OnErr answer (of_hand t' p (hand_of views) ≡ old) × (r2.number ≡ r0.number)
visited_intern p c (Ok i) h m r0 r1 r2 res views old t t' new ok err number no_path me entered out_is known is was store =
    let f = on_list (Intern p c i.name) r1.table in
    let v = visited p 1 f h m r0 r1 r2 res views number no_path me entered (ap (λ (r : InRoom). r.hands) ok) out_is known is in (
      v.1,
      ap (λ (k : Hand). k.held) v.0 ∙ subst (λ (l : List Held). f h.held ≡ (if codes c r1.table.entries == 0 then left (children c) l else l) ++ pair i.name c ∷ []) (ap (λ (o : OfPass). o.held) was) refl
          ∙ ap (λ (b : Bool). (if b then left (children c) old.held else old.held) ++ pair i.name c ∷ []) (sym new),
      ap (λ (k : Hand). k.gains) v.0 ∙ ap (λ (o : OfPass). o.gains + 1) was,
      tt,
      ap (λ (r : InRoom). r.number) ok ∙ ap (λ (r : InRoom). r.number) entered,
    )
visited_intern p c (Err e) h m r0 r1 r2 res views old t t' new ok err number no_path me entered out_is known is was store =
    let v = unchanged p h m r0 r1 r2 res views number no_path me entered (ap (λ (r : InRoom). r.hands) err) out_is known is in
    (v.1, tt, tt, ap (λ (k : Hand). of_hand t' p k) v.0 ∙ ap (λ (x : TableId). of_hand x p h) store ∙ was, ap (λ (r : InRoom). r.number) err ∙ ap (λ (r : InRoom). r.number) entered)

-- ---- a name is released
pub released : (res : Lowered) (p : ℕ) (x : Name) (r1 : InRoom) (h k : Hand) (old new : List Held) → k.held ≡ on_list (Release p x) r1.table h.held → Leaves res (code_at x (list_in p r1.hands)) (freed x.slot r1.table.entries)
    → list_in p r1.hands ≡ h.held → h.held ≡ old → new ≡ k.held → Released res x old new
released res p x r1 h k old new out_is gone here was now =
    (freed x.slot r1.table.entries, now ∙ out_is ∙ ap (λ (l : List Held). without x l ++ freed x.slot r1.table.entries) was, subst (λ (l : List Held). Leaves res (code_at x l) (freed x.slot r1.table.entries)) (here ∙ was) gone)

-- ---- a pair moves: two passes go in, and come out
pub visited_give : (p q : ℕ) (x : Name) (h k : Hand) (m m' : Mine) (r0 r1 r2 r3 r4 : InRoom) (res res' : Mine) (views views' : List View)
    → h.number ≡ p → h.path ≡ [] → k.number ≡ q → k.path ≡ [] → m ≡ (alone h, []) → m' ≡ (alone k, [])
    → r1 ≡ with_hands r0 (r0.hands ++ first_hand m.0.hands ∷ []) → r2 ≡ with_hands r1 (r1.hands ++ first_hand m'.0.hands ∷ []) → Told r2.hands → r3 ≡ room_after (Give p q x) r2
    → res' ≡ (view [] (lasts r3.hands), []) → Known res'.0 → r4 ≡ with_hands r3 (front r3.hands) → res ≡ (view [] (lasts r4.hands), []) → Known res.0 → views ≡ res.0 ∷ [] → views' ≡ res'.0 ∷ []
    → (hand_of views ≡ hand p (without x h.held) h.gains) × IsPass p views × (hand_of views' ≡ hand q (push x (code_at x h.held) k.held) k.gains) × IsPass q views'
visited_give p q x h k m m' r0 r1 r2 r3 r4 res res' views views' hp hn kq kn me me' in1 in2 told given out1 known1 front4 out2 known2 is is' =
    let xs = r0.hands in
    let hands2 : r2.hands ≡ (xs ++ h ∷ []) ++ k ∷ [] = hands_in k m' r1 r2 me' in2 ∙ ap (λ l. l ++ k ∷ []) (hands_in h m r0 r1 me in1) in
    let told' = subst Told hands2 told in
    let about_h = last_of_each _ xs h (front_of_each _ (xs ++ h ∷ []) (k ∷ []) told'.0) in
    let apart : h.number ≢ k.number = λ same.
    let a = hands_at_append k.number (xs ++ h ∷ []) (k ∷ []) in
    let b = hands_at_append k.number xs (h ∷ []) in
    let once = told'.1 k.number in
    let one = inside_push k [] in
    let other = subst (λ j. 1 ≤ hands_at j ([] ++ h ∷ [])) same (inside_push h []) in
    omega arith in
    let found : list_in p r2.hands ≡ h.held = ap (λ j. list_in j r2.hands) (sym hp) ∙ ap (list_in h.number) hands2 ∙ about_h.1 in
    let f : List Held → List Held = without x in
    let g : List Held → List Held = push x (code_at x (list_in p r2.hands)) in
    let F = on_hand p 0 f in
    let G = on_hand q 0 g in
    let h1 : F h ≡ hand p (f h.held) (h.gains + 0) = hit_hand p 0 f h hp hn in
    let h2 : G (F h) ≡ hand p (f h.held) h.gains =
    ap G (h1 ∙ ap (hand p (f h.held)) (add-zero h.gains)) ∙ miss_hand q 0 g (hand p (f h.held) h.gains) (λ e. apart (hp ∙ e ∙ sym kq)) in
    let k1 : F k ≡ k = miss_hand p 0 f k (λ e. apart (hp ∙ sym e)) in
    let k2 : G (F k) ≡ hand q (push x (code_at x h.held) k.held) k.gains =
    ap G k1 ∙ hit_hand q 0 g k kq kn ∙ ap (hand q (g k.held)) (add-zero k.gains) ∙ ap (λ (l : List Held). hand q (push x (code_at x l) k.held) k.gains) found in
    let ys : List Hand = map G (map F xs) in
    let hands3 : r3.hands ≡ (ys ++ G (F h) ∷ []) ++ G (F k) ∷ [] =
    ap (λ (r : InRoom). r.hands) given ∙ ap (λ l. map G (map F l)) hands2 ∙ ap (map G) (map_push F (xs ++ h ∷ []) k ∙ ap (λ l. l ++ F k ∷ []) (map_push F xs h))
    ∙ map_push G (map F xs ++ F h ∷ []) (F k) ∙ ap (λ l. l ++ G (F k) ∷ []) (map_push G (map F xs) (F h)) in
    let last1 : lasts r3.hands ≡ hand q (push x (code_at x h.held) k.held) k.gains ∷ [] = ap lasts hands3 ∙ lasts_push (ys ++ G (F h) ∷ []) (G (F k)) ∙ ap (λ (z : Hand). z ∷ []) k2 in
    let hands4 : r4.hands ≡ ys ++ G (F h) ∷ [] = ap (λ (r : InRoom). r.hands) front4 ∙ ap front hands3 ∙ front_push (ys ++ G (F h) ∷ []) (G (F k)) in
    let last2 : lasts r4.hands ≡ hand p (f h.held) h.gains ∷ [] = ap lasts hands4 ∙ lasts_push ys (G (F h)) ∙ ap (λ (z : Hand). z ∷ []) h2 in
    let o = out views (hand p (f h.held) h.gains) r4.hands res is out2 last2 known2 refl in
    let o' = out views' (hand q (push x (code_at x h.held) k.held) k.gains) r3.hands res' is' out1 last1 known1 refl in
    (o.0, o.1, o'.0, o'.1)

-- the two differ, once they are both inside
pub inside_differ : (h k : Hand) (m m' : Mine) (r0 r1 r2 : InRoom) → m ≡ (alone h, []) → m' ≡ (alone k, []) → r1 ≡ with_hands r0 (r0.hands ++ first_hand m.0.hands ∷ []) → r2 ≡ with_hands r1 (r1.hands ++ first_hand m'.0.hands ∷ []) → Told r2.hands → h.number ≢ k.number
inside_differ h k m m' r0 r1 r2 me me' in1 in2 told same =
    let xs = r0.hands in
    let hands2 : r2.hands ≡ (xs ++ h ∷ []) ++ k ∷ [] = hands_in k m' r1 r2 me' in2 ∙ ap (λ l. l ++ k ∷ []) (hands_in h m r0 r1 me in1) in
    let told' = subst Told hands2 told in
    let a = hands_at_append k.number (xs ++ h ∷ []) (k ∷ []) in
    let b = hands_at_append k.number xs (h ∷ []) in
    let once = told'.1 k.number in
    let one = inside_push k [] in
    let other = subst (λ j. 1 ≤ hands_at j ([] ++ h ∷ [])) same (inside_push h []) in
    omega arith

-- both are inside, with what they hold
pub both_inside : (h k : Hand) (m m' : Mine) (r0 r1 r2 : InRoom) → m ≡ (alone h, []) → m' ≡ (alone k, []) → r1 ≡ with_hands r0 (r0.hands ++ first_hand m.0.hands ∷ []) → r2 ≡ with_hands r1 (r1.hands ++ first_hand m'.0.hands ∷ []) → Told r2.hands
    → (1 ≤ hands_at h.number r2.hands) × (list_in h.number r2.hands ≡ h.held) × (path_in h.number r2.hands ≡ h.path)
both_inside h k m m' r0 r1 r2 me me' in1 in2 told =
    let xs = r0.hands in
    let hands2 : r2.hands ≡ (xs ++ h ∷ []) ++ k ∷ [] = hands_in k m' r1 r2 me' in2 ∙ ap (λ l. l ++ k ∷ []) (hands_in h m r0 r1 me in1) in
    let told' = subst Told hands2 told in
    let about = last_of_each _ xs h (front_of_each _ (xs ++ h ∷ []) (k ∷ []) told'.0) in
    subst (λ (hs : List Hand). (1 ≤ hands_at h.number hs) × (list_in h.number hs ≡ h.held) × (path_in h.number hs ≡ h.path)) (sym hands2) about
