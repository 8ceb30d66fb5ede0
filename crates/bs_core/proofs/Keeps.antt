-- An allowed event keeps a canonical state.
use Rattle.std.proofs.Common.{◌≡◌, ◌≢◌, ℕ, zero, suc, ◌+◌, ◌<◌, ◌≤◌, ◌==◌, Bool, List, [], ◌∷◌, ◌++◌, length, refl, sym, ap, ◌∙◌, subst, arith, inl, ⊎_elim, if◌then◌else◌}
use mathlib.Core.Option.{some, some-ne-none, some-injective}
use mathlib.Core.Logic.{dite}
use native.Mathlib.Decide.{ℕ_discrete}
use lib.ListN.{get_elem?}
use Rattle.bs_core.specs.declared.name.Name.{Name}
use Rattle.bs_core.specs.declared.table.Held.{Held}
use Rattle.bs_core.specs.declared.table.Table.{Table}
use Rattle.bs_core.specs.Codes.{Code, children, stripe_of}
use Rattle.bs_tree.specs.Code.{IsCode}
use Rattle.bs_core.specs.Machine.{after, on_list, times, code_at, without, pair, slots, codes, new_entry, raised, lowered, added, interned, at_place, State, list_at, table_at, linked, freed, taken, left, HasAll}
use Rattle.bs_core.specs.Canonical.{Each, all_times, Counts, Orderly, Has, Stands, Canonical, links_each, link_lists, every}
use Rattle.bs_core.specs.declared.event.Event.{Event}
use Rattle.bs_core.specs.declared.event.Event.TheVariants.{Intern, Hold, Release, Give, Look, Keep, Evict}
use Rattle.bs_core.proofs.May.{May}
use Rattle.bs_core.proofs.Basics.{by_test, name_test, code_test, at_place_here, at_place_else, length_at_place}
use Rattle.bs_core.proofs.Pairs.{hit_same, each_mono, each_both, each_join, times_append, times_pair, times_without, at_count, each_place_at, each_list, each_without, code_of, push, each_push, counted, has_front, has_back, has_raise, Remains, has_lower, has_slots, has_codes, slots_raise, codes_raise, slots_append, codes_append, slots_lower, codes_lower}
use Rattle.bs_core.proofs.Counting.{slot_name, Up, Down, Level, other_stripe, all_same, raise_counts, untouched, lower_counts, other_slot}
use Rattle.bs_core.proofs.Links.{turn, every_count, every_each, table_is, table_there, all_times_append, each_front, each_back, links_raise, links_append, lower_links, lower_each, freed_each, all_codes, taken_long, each_left, each_taken}

-- what was at a place
at_place_back : {A : Type 0} (F : A → A) (i : ℕ) (xs : List A) (y : A) → get_elem? (at_place i F xs) i ≡ some y → (x : A) × (get_elem? xs i ≡ some x) × (y ≡ F x)
at_place_back F i [] y e = absurd (some-ne-none y (sym e))
at_place_back F zero (x ∷ xs) y e = (x, refl, sym (some-injective (F x) y e))
at_place_back F (suc i) (x ∷ xs) y e = at_place_back F i xs y e

-- one stripe changes, and the lists
pub canonical_step : (n s : ℕ) (T : Table → Table) (g : State) (ls' : List (List Held)) → (let g' : State = record { tables = at_place s T g.tables; lists = ls' } in Canonical n g
    → ((t : Table) → get_elem? g.tables s ≡ some t → Orderly n (every g) s t → Orderly n (every g') s (T t))
    → ((i x : ℕ) → i ≢ s → all_times (slot_name i x) (every g') ≡ all_times (slot_name i x) (every g))
    → Each (Each (Stands (at_place s T g.tables))) (every g')
    → Canonical n g')
canonical_step n s T g ls' c here away pairs =
    let g' : State = record { tables = at_place s T g.tables; lists = ls' } in
    let new : (t : Table) → get_elem? (at_place s T g.tables) s ≡ some t → Orderly n (every g') s t = λ t at. let b = at_place_back T s g.tables t at in subst (Orderly n (every g') s) (sym b.2) (here b.0 b.1 (c.tables s b.0 b.1)) in
    record {
      tables = λ i t at. dite (ℕ_discrete i s)
          (λ e. subst (λ k. Orderly n (every g') k t) (sym e) (new t (subst (λ k. get_elem? (at_place s T g.tables) k ≡ some t) e at)))
          (λ e.
          let o = c.tables i t (sym (at_place_else T s i g.tables e) ∙ at) in
          record { entries = all_same n i t.mark t.mark (every g) (every g') (omega arith) t.entries (λ x. away i x e) o.entries; slots_differ = o.slots_differ; codes_differ = o.codes_differ });
      pairs = pairs;
    }

-- a pair that stands still stands
pub stands_on : (s : ℕ) (T : Table → Table) (tables : List Table) (p : Held) → ((t : Table) → get_elem? tables s ≡ some t → p.name.stripe ≡ s → Has p.name.slot p.code t.entries → Has p.name.slot p.code (T t).entries) → Stands tables p → Stands (at_place s T tables) p
stands_on s T tables p keep h = dite (ℕ_discrete p.name.stripe s)
    (λ e.
    let at = subst (λ k. get_elem? tables k ≡ some h.0) e h.1 in
    (T h.0, subst (λ k. get_elem? (at_place s T tables) k ≡ some (T h.0)) (sym e) (at_place_here T s tables h.0 at), keep h.0 at e h.2))
    (λ e. (h.0, at_place_else T s p.name.stripe tables e ∙ h.1, h.2))

raised_orderly : (n : ℕ) (m : Name) (ls ls' : List (List Held)) (t : Table) → Up m ls ls' → Orderly n ls m.stripe t → Orderly n ls' m.stripe (raised m.slot t)
raised_orderly n m ls ls' t u o = record {
  entries = raise_counts n m.stripe t.mark t.mark ls ls' (omega arith) m m.slot t.entries refl u o.entries;
  slots_differ = λ x. let r = slots_raise x m.slot t.entries in let q = o.slots_differ x in omega arith;
  codes_differ = λ x. let r = codes_raise x m.slot t.entries in let q = o.codes_differ x in omega arith;
}

-- the list of a party stands
pub party_stands : (p : ℕ) (g : State) (P : Held → Type 0) → Each (Each P) (every g) → Each P (list_at p g.lists)
party_stands p g P h = each_list P p g.lists (each_front (Each P) g.lists (link_lists g.tables) h)

-- the pair of a held name stands
pub held_stands : (n p : ℕ) (m : Name) (g : State) → 0 < times m (list_at p g.lists) → Canonical n g → Stands g.tables (pair m (code_at m (list_at p g.lists)))
held_stands n p m g has c = code_of (Stands g.tables) m (list_at p g.lists) has (party_stands p g (Stands g.tables) c.pairs)

pub hold_keeps : (n p : ℕ) (m : Name) (g : State) → May n (Hold p m) g → Canonical n g → Canonical n (after (Hold p m) g)
hold_keeps n p m g may c =
    let l = list_at p g.lists in
    let code = code_at m l in
    let f : List Held → List Held = λ k. push m (code_at m k) k in
    let T = raised m.slot in
    let s = m.stripe in
    let g' = turn s T p f g in
    let own = held_stands n p m g may.1 c in
    let t = own.0 in
    let u : Up m (every g) (every g') = λ x.
    let r = every_count x s T p f g t own.1 may.0 in
    let q = times_pair x m code l in
    let z : all_times x (links_each (T t).entries) ≡ all_times x (links_each t.entries) = ap (all_times x) (links_raise m.slot t.entries) in omega arith in
    let S = Stands g.tables in
    let S' = Stands g'.tables in
    let stands : (q : Held) → S q → S' q = λ q. stands_on s T g.tables q (λ t _ _ h. has_raise m.slot q.name.slot q.code t.entries h) in
    canonical_step n s T g g'.lists c
    (λ t _ o. raised_orderly n m (every g) (every g') t u o)
    (λ i x e. let k = u (slot_name i x) in let h = other_stripe i x m e in omega arith)
    (each_mono (Each S) (Each S') (every g') (λ k. each_mono S S' k stands)
    (every_each S s T p f g t own.1 (λ e _. each_push S m code l own e) (λ _ e. subst (Each (Each S)) (sym (links_raise m.slot t.entries)) e) (party_stands p g S c.pairs) c.pairs))

-- the entry of a pair that is held twice stays
pub lower_stands : (n : ℕ) (m : Name) (g : State) (ls' : List (List Held)) → Canonical n g → Down m (every g) ls' → (q : Held) → 1 ≤ all_times q.name ls' → Stands g.tables q → Stands (at_place m.stripe (lowered m.slot) g.tables) q
lower_stands n m g ls' c d q one = stands_on m.stripe (lowered m.slot) g.tables q (λ t at is h. has_lower m.slot q.name.slot q.code t.entries (each_mono (Counts n m.stripe t.mark (every g)) (Remains m.slot q.name.slot) t.entries (λ e k a b one_left.
    let same : q.name ≡ m = λ j. record { stripe = is j; slot = b j } in
    let r = subst (λ y. 1 ≤ all_times y ls') same one in
    let z = d m in
    let y = hit_same m in
    let w : slot_name m.stripe e.slot ≡ m = λ j. record { stripe = m.stripe; slot = a j } in
    ⊎_elim (λ x. let v : e.count ≡ all_times m (every g) = x ∙ ap (λ x. all_times x (every g)) w in absurd (omega arith)) (λ x. absurd (omega arith)) k.counted)
    (c.tables m.stripe t at).entries) h)

both_each : (P Q : Held → Type 0) (ls : List (List Held)) → Each (Each P) ls → Each (Each Q) ls → Each (Each (λ q. P q × Q q)) ls
both_each P Q [] a b = tt
both_each P Q (l ∷ ls) a b = (each_both P Q l a.0 b.0, both_each P Q ls a.1 b.1)

-- a pair less: those that came were links of the entry that left
pub release_down : (n p : ℕ) (m : Name) (g : State) → May n (Release p m) g → Canonical n g → Down m (every g) (every (after (Release p m) g))
release_down n p m g may c x =
    let l = list_at p g.lists in
    let T = lowered m.slot in
    let s = m.stripe in
    let own = held_stands n p m g may.1 c in
    let t = own.0 in
    let f : List Held → List Held = on_list (Release p m) (table_at s g.tables) in
    let is = table_is s g.tables t own.1 in
    let r = every_count x s T p f g t own.1 may.0 in
    let q = times_without x m l may.1 in
    let z = lower_links x m.slot t.entries in
    let w = times_append x (without m l) (freed m.slot (table_at s g.tables).entries) in
    let v : times x (freed m.slot (table_at s g.tables).entries) ≡ times x (freed m.slot t.entries) = ap (λ (y : Table). times x (freed m.slot y.entries)) is in omega arith

pub release_keeps : (n p : ℕ) (m : Name) (g : State) → May n (Release p m) g → Canonical n g → Canonical n (after (Release p m) g)
release_keeps n p m g may c =
    let l = list_at p g.lists in
    let T = lowered m.slot in
    let s = m.stripe in
    let own = held_stands n p m g may.1 c in
    let t = own.0 in
    let f : List Held → List Held = on_list (Release p m) (table_at s g.tables) in
    let g' = turn s T p f g in
    let is = table_is s g.tables t own.1 in
    let d : Down m (every g) (every g') = release_down n p m g may c in
    let S = Stands g.tables in
    let S' = Stands g'.tables in
    canonical_step n s T g g'.lists c
    (λ t _ o. record {
      entries = lower_counts n m.stripe t.mark t.mark (every g) (every g') (omega arith) m m.slot t.entries refl (o.slots_differ m.slot) d o.entries;
      slots_differ = λ x. let r = slots_lower x m.slot t.entries in let q = o.slots_differ x in omega arith;
      codes_differ = λ x. let r = codes_lower x m.slot t.entries in let q = o.codes_differ x in omega arith;
    })
    (λ i x e. let k = d (slot_name i x) in let h = other_stripe i x m e in omega arith)
    (each_mono (Each (λ q. S q × (1 ≤ all_times q.name (every g')))) (Each S') (every g') (λ l. each_mono (λ q. S q × (1 ≤ all_times q.name (every g'))) S' l (λ q h. lower_stands n m g (every g') c d q h.1 h.0))
    (both_each S (λ q. 1 ≤ all_times q.name (every g')) (every g')
    (every_each S s T p f g t own.1
    (λ e k. each_join S (without m l) (freed m.slot (table_at s g.tables).entries) (each_without S m l e) (subst (λ (y : Table). Each S (freed m.slot y.entries)) (sym is) (freed_each (Each S) m.slot t.entries tt k)))
    (λ e k. lower_each (Each S) m.slot t.entries k)
    (party_stands p g S c.pairs) c.pairs)
    (counted (every g'))))

-- no pair or link has the name of a vacant slot
no_pairs : (m : Name) (tables : List Table) (t : Table) (ls : List (List Held)) → get_elem? tables m.stripe ≡ some t → slots m.slot t.entries ≡ 0 → Each (Each (Stands tables)) ls → all_times m ls ≡ 0
no_pairs m tables t [] at vacant e = refl
no_pairs m tables t (l ∷ ls) at vacant e = let r = no_pairs m tables t ls at vacant e.1 in let q = one_list l e.0 in omega arith
  where
    one_list : (k : List Held) → Each (Stands tables) k → times m k ≡ 0
    one_list [] h = refl
    one_list (p ∷ ps) h = let r = one_list ps h.1 in name_test m p.name (λ b. (if b then 1 else 0) + times m ps ≡ zero)
        (λ q.
        let at' : get_elem? tables m.stripe ≡ some h.0.0 = subst (λ (y : Name). get_elem? tables y.stripe ≡ some h.0.0) (sym q) h.0.1 in
        let same : t ≡ h.0.0 = some-injective t h.0.0 (sym at ∙ at') in
        let has : Has m.slot p.code t.entries = subst (λ (y : Table). Has m.slot p.code y.entries) (sym same) (subst (λ (y : Name). Has y.slot p.code h.0.0.entries) (sym q) h.0.2) in
        let k = has_slots m.slot p.code t.entries has in absurd (omega arith))
        (λ _. omega arith)

-- a new entry
added_orderly : (n : ℕ) (m : Name) (c : Code) (xs : List Name) (ls ls' : List (List Held)) (t : Table) → m.stripe ≡ stripe_of n c → IsCode c → length xs ≡ length (children c) → codes c t.entries ≡ 0 → slots m.slot t.entries ≡ 0 → m.slot ≤ t.mark → all_times m ls ≡ 0 → Up m ls ls' → Orderly n ls m.stripe t → Orderly n ls' m.stripe (added m.slot c xs t)
added_orderly n m c xs ls ls' t here code long no_code no_slot low vacant u o =
    let mark' = if m.slot == t.mark then m.slot + 1 else t.mark in
    let room : (t.mark ≤ mark') × (m.slot < mark') = by_test m.slot t.mark (λ b. (t.mark ≤ (if b then m.slot + 1 else t.mark)) × (m.slot < (if b then m.slot + 1 else t.mark))) (λ e. (omega arith, omega arith)) (λ e. (omega arith, omega arith)) in
    record {
      entries = each_join (Counts n m.stripe mark' ls') t.entries (new_entry m.slot c xs ∷ [])
          (untouched n m.stripe t.mark mark' ls ls' room.0 m.slot t.entries no_slot (λ x w. let k = u (slot_name m.stripe x) in let h = other_slot m.stripe x m.slot m refl w in omega arith) o.entries)
          (record { here = sym here; sound = code; below = room.1; full = long; positive = omega arith; counted = inl (let k = u m in let h = hit_same m in omega arith) }, tt);
      slots_differ = λ x. subst (λ k. k ≤ 1) (sym (slots_append x t.entries (new_entry m.slot c xs ∷ []))) (let q = o.slots_differ x in
          by_test x m.slot (λ b. slots x t.entries + ((if b then 1 else 0) + 0) ≤ 1) (λ e. let z = subst (λ y. slots y t.entries ≡ 0) (sym e) no_slot in omega arith) (λ _. omega arith));
      codes_differ = λ x. subst (λ k. k ≤ 1) (sym (codes_append x t.entries (new_entry m.slot c xs ∷ []))) (let q = o.codes_differ x in
          code_test x c (λ b. codes x t.entries + ((if b then 1 else 0) + 0) ≤ 1) (λ e. let z = subst (λ y. codes y t.entries ≡ 0) (sym e) no_code in omega arith) (λ _. omega arith));
    }

-- a pair that stands comes to a party, and its entry counts one more
pub pushed_keeps : (n p : ℕ) (c : Code) (m : Name) (g : State) → p < length g.lists → Stands g.tables (pair m c) → Canonical n g → Canonical n (turn m.stripe (raised m.slot) p (push m c) g)
pushed_keeps n p c m g within own h =
    let l = list_at p g.lists in
    let T = raised m.slot in
    let s = m.stripe in
    let t = own.0 in
    let at = own.1 in
    let g' = turn s T p (push m c) g in
    let u : Up m (every g) (every g') = λ x.
    let r = every_count x s T p (push m c) g t at within in
    let q = times_pair x m c l in
    let z : all_times x (links_each (T t).entries) ≡ all_times x (links_each t.entries) = ap (all_times x) (links_raise m.slot t.entries) in omega arith in
    let S = Stands g.tables in
    let S' = Stands g'.tables in
    let stands : (q : Held) → S q → S' q = λ q. stands_on s T g.tables q (λ t _ _ k. has_raise m.slot q.name.slot q.code t.entries k) in
    canonical_step n s T g g'.lists h
    (λ t _ o. raised_orderly n m (every g) (every g') t u o)
    (λ i x e. let k = u (slot_name i x) in let y = other_stripe i x m e in omega arith)
    (each_mono (Each S) (Each S') (every g') (λ k. each_mono S S' k stands)
    (every_each S s T p (push m c) g t at (λ e _. each_push S m c l own e) (λ _ e. subst (Each (Each S)) (sym (links_raise m.slot t.entries)) e) (party_stands p g S h.pairs) h.pairs))

-- a new entry takes pairs of the party as its links
pub fresh_keeps : (n p : ℕ) (c : Code) (m : Name) (g : State) → (let l = list_at p g.lists in let t = table_at m.stripe g.tables in m.stripe ≡ stripe_of n c → IsCode c → p < length g.lists → m.stripe < length g.tables → HasAll (children c) l
    → codes c t.entries ≡ 0 → slots m.slot t.entries ≡ 0 → m.slot ≤ t.mark → Canonical n g → Canonical n (turn m.stripe (added m.slot c (taken (children c) l)) p (λ k. push m c (left (children c) k)) g))
fresh_keeps n p c m g is code within here all no_code no_slot low h =
    let l = list_at p g.lists in
    let ks = children c in
    let xs = taken ks l in
    let T = added m.slot c xs in
    let s = m.stripe in
    let t = table_at s g.tables in
    let at = table_there s g.tables here in
    let f : List Held → List Held = λ k. push m c (left ks k) in
    let g' = turn s T p f g in
    let more = links_append t.entries (new_entry m.slot c xs ∷ []) in
    let u : Up m (every g) (every g') = λ x.
    let r = every_count x s T p f g t at within in
    let q = times_pair x m c (left ks l) in
    let y = all_codes x ks l all in
    let z : all_times x (links_each (T t).entries) ≡ all_times x (links_each t.entries) + (times x (linked xs ks) + 0) = ap (all_times x) more ∙ all_times_append x (links_each t.entries) (linked xs ks ∷ []) in omega arith in
    let S = Stands g.tables in
    let S' = Stands g'.tables in
    let stands : (q : Held) → S q → S' q = λ q. stands_on s T g.tables q (λ t _ _ k. has_back q.name.slot q.code t.entries (new_entry m.slot c xs ∷ []) k) in
    let own : S' (pair m c) = (T t, at_place_here T s g.tables t at, has_front m.slot c t.entries (new_entry m.slot c xs ∷ []) (zero, new_entry m.slot c xs, refl, refl, refl)) in
    let lst = party_stands p g S h.pairs in
    canonical_step n s T g g'.lists h
    (λ t' at' o.
    let e : t ≡ t' = some-injective t t' (sym at ∙ at') in
    subst (λ (y : Table). Orderly n (every g') s (added m.slot c xs y)) e (added_orderly n m c xs (every g) (every g') t is code (taken_long ks l) no_code no_slot low (no_pairs m g.tables t (every g) at no_slot h.pairs) u (subst (λ (y : Table). Orderly n (every g) s y) (sym e) o)))
    (λ i x e. let k = u (slot_name i x) in let y = other_stripe i x m e in omega arith)
    (every_each S' s T p f g t at
    (λ e _. each_push S' m c (left ks l) own (each_left S' ks l e))
    (λ e k. subst (Each (Each S')) (sym more) (each_join (Each S') (links_each t.entries) (linked xs ks ∷ []) k (each_taken S' ks l all e, tt)))
    (each_mono S S' l stands lst)
    (each_mono (Each S) (Each S') (every g) (λ k. each_mono S S' k stands) h.pairs))

pub intern_keeps : (n p : ℕ) (c : Code) (m : Name) (g : State) → May n (Intern p c m) g → Canonical n g → Canonical n (after (Intern p c m) g)
intern_keeps n p c m g may h =
    let l = list_at p g.lists in
    let t = table_at m.stripe g.tables in
    let xs = taken (children c) l in
    let here = may.2 in
    let F : Bool → (Table → Table) → Type 0 = λ b T. Canonical n (turn m.stripe T p (λ k. push m c (if b then left (children c) k else k)) g) in
    let swap : (T : Table → Table) → T t ≡ interned m.slot c xs t → at_place m.stripe T g.tables ≡ at_place m.stripe (interned m.slot c xs) g.tables = λ T e. at_place_same T (interned m.slot c xs) m.stripe g.tables e in
    let G : Bool → List Table → Type 0 = λ b ts. Canonical n (let r : State = record { tables = ts; lists = at_place p (λ k. push m c (if b then left (children c) k else k)) g.lists } in r) in
    ⊎_elim
    (λ found.
    let r = has_codes m.slot c t.entries found in
    let ne : codes c t.entries ≢ 0 = λ e. omega arith in
    let k = pushed_keeps n p c m g may.1 (t, table_there m.stripe g.tables here, found) h in
    let e : raised m.slot t ≡ interned m.slot c xs t = by_test (codes c t.entries) 0 (λ b. raised m.slot t ≡ (if b then added m.slot c xs t else raised m.slot t)) (λ q. absurd (ne q)) (λ _. refl) in
    subst (G (codes c t.entries == 0)) (swap (raised m.slot) e) (by_test (codes c t.entries) 0 (λ b. G b (at_place m.stripe (raised m.slot) g.tables)) (λ q. absurd (ne q)) (λ _. k)))
    (λ new.
    let k = fresh_keeps n p c m g may.0 may.5 may.1 here may.3 new.0 new.1 new.2 h in
    let e : added m.slot c xs t ≡ interned m.slot c xs t = by_test (codes c t.entries) 0 (λ b. added m.slot c xs t ≡ (if b then added m.slot c xs t else raised m.slot t)) (λ _. refl) (λ q. absurd (q new.0)) in
    subst (G (codes c t.entries == 0)) (swap (added m.slot c xs) e) (by_test (codes c t.entries) 0 (λ b. G b (at_place m.stripe (added m.slot c xs) g.tables)) (λ _. k) (λ q. absurd (q new.0))))
    may.4
  where
    at_place_same : (T U : Table → Table) (s : ℕ) (ts : List Table) → T (table_at s ts) ≡ U (table_at s ts) → at_place s T ts ≡ at_place s U ts
    at_place_same T U s [] e = refl
    at_place_same T U zero (x ∷ xs) e = ap (λ (y : Table). y ∷ xs) e
    at_place_same T U (suc s) (x ∷ xs) e = ap (λ (ys : List Table). x ∷ ys) (at_place_same T U s xs e)

pub same_place : {A : Type 0} (i : ℕ) (xs : List A) → at_place i (λ (x : A). x) xs ≡ xs
same_place i [] = refl
same_place zero (x ∷ xs) = refl
same_place (suc i) (x ∷ xs) = ap (λ l. x ∷ l) (same_place i xs)

pub give_keeps : (n p q : ℕ) (m : Name) (g : State) → May n (Give p q m) g → Canonical n g → Canonical n (after (Give p q m) g)
give_keeps n p q m g may h =
    let l = list_at p g.lists in
    let c = code_at m l in
    let mid = at_place p (without m) g.lists in
    let ls' = at_place q (push m c) mid in
    let T : Table → Table = λ t. t in
    let s = m.stripe in
    let g' : State = record { tables = at_place s T g.tables; lists = ls' } in
    let back = same_place s g.tables in
    let level : Level (every g) (every g') = λ x.
    let a = at_count x p (without m) g.lists may.0 in
    let b = times_without x m l may.2 in
    let d = at_count x q (push m c) mid (subst (λ k. q < k) (sym (length_at_place (without m) p g.lists)) may.1) in
    let e = times_pair x m c (list_at q mid) in
    let k = all_times_append x ls' (link_lists g'.tables) in
    let k' = all_times_append x g.lists (link_lists g.tables) in
    let z : all_times x (link_lists g'.tables) ≡ all_times x (link_lists g.tables) = ap (λ (ts : List Table). all_times x (link_lists ts)) back in omega arith in
    let S = Stands g.tables in
    let stands : S (pair m c) = held_stands n p m g may.2 h in
    canonical_step n s T g ls' h
    (λ t at o. record { entries = all_same n s t.mark t.mark (every g) (every g') (omega arith) t.entries (λ x. level (slot_name s x)) o.entries; slots_differ = o.slots_differ; codes_differ = o.codes_differ })
    (λ i x e. level (slot_name i x))
    (subst (λ (ts : List Table). Each (Each (Stands ts)) (ls' ++ link_lists ts)) (sym back)
    (each_join (Each S) ls' (link_lists g.tables)
    (each_place_at S q (push m c) mid (each_push S m c (list_at q mid) stands)
    (each_place_at S p (without m) g.lists (each_without S m l) (each_front (Each S) g.lists (link_lists g.tables) h.pairs)))
    (each_back (Each S) g.lists (link_lists g.tables) h.pairs)))

pub keep_keeps : (n p q : ℕ) (m : Name) (g : State) → May n (Keep p q m) g → Canonical n g → Canonical n (after (Keep p q m) g)
keep_keeps n p q m g may h =
    let l = list_at p g.lists in
    let c = code_at m l in
    let own = held_stands n p m g may.2 h in
    let k = pushed_keeps n q c m g may.1 own h in
    subst (λ (ls : List (List Held)). Canonical n (let r : State = record { tables = at_place m.stripe (raised m.slot) g.tables; lists = at_place q (push m c) ls } in r)) (sym (same_place p g.lists)) k

same_state : (n s p : ℕ) (g : State) → Canonical n g → Canonical n (record { tables = at_place s (λ (t : Table). t) g.tables; lists = at_place p (λ (l : List Held). l) g.lists })
same_state n s p g h =
    subst (λ (ts : List Table). Canonical n (record { tables = ts; lists = at_place p (λ (l : List Held). l) g.lists })) (sym (same_place s g.tables))
    (subst (λ (ls : List (List Held)). Canonical n (record { tables = g.tables; lists = ls })) (sym (same_place p g.lists)) h)

pub event_keeps : (n : ℕ) (e : Event) (g : State) → May n e g → Canonical n g → Canonical n (after e g)
event_keeps n (Intern p c m) g may h = intern_keeps n p c m g may h
event_keeps n (Hold p m) g may h = hold_keeps n p m g may h
event_keeps n (Release p m) g may h = release_keeps n p m g may h
event_keeps n (Give p q m) g may h = give_keeps n p q m g may h
event_keeps n (Look p q m) g may h = same_state n m.stripe p g h
event_keeps n (Keep p q m) g may h = keep_keeps n p q m g may h
event_keeps n (Evict q m) g may h = release_keeps n q m g may h
