-- Which lists an event changes, and that a keep is a hold and then a give.
use Rattle.std.proofs.Common.{◌≡◌, ◌≢◌, ℕ, zero, suc, ◌+◌, ◌<◌, ◌&&◌, Bool, true, false, List, [], ◌∷◌, ◌++◌, length, refl, sym, ap, ap₂, ◌∙◌, subst, arith, if◌then◌else◌}
use Rattle.std.specs.Prelude.{nat_lt}
use Rattle.std.proofs.lemmas.Bool.{lt-ltb, ltb-true}
use mathlib.Core.Logic.{dite}
use native.Mathlib.Decide.{ℕ_discrete}
use Rattle.bs_tree.specs.SortingLaws.{by_cases}
use Rattle.bs_core.specs.Codes.{Code, same}
use Rattle.bs_core.specs.Machine.{State, Stepped, allowed, after, on_list, on_other, is_name, times, code_at, without, pair, list_at, table_at, at_place, party_in, other_in, stripe_in, raised}
use Rattle.bs_core.specs.Laws.{OtherListsStay, KeepIsHoldThenGive, often}
use Rattle.bs_core.specs.declared.name.Name.{Name}
use Rattle.bs_core.specs.declared.table.Held.{Held}
use Rattle.bs_core.specs.declared.event.Event.{Event}
use Rattle.bs_core.specs.declared.event.Event.TheVariants.{Intern, Hold, Release, Give, Look, Keep, Evict}
use Rattle.bs_core.specs.declared.event.Outcome.TheVariants.{Done, NotAllowed}
use Rattle.bs_core.proofs.Basics.{name_test, length_at_place}
use Rattle.bs_core.proofs.May.{there}
use Rattle.bs_core.proofs.Pairs.{times_pair, hit}
use Rattle.bs_core.proofs.Keeps.{same_place}

-- ---- lists at their places
pub list_else : (i j : ℕ) (f : List Held → List Held) (ls : List (List Held)) → i ≢ j → list_at i (at_place j f ls) ≡ list_at i ls
list_else i j f [] n = refl
list_else zero zero f (l ∷ ls) n = absurd (n refl)
list_else zero (suc j) f (l ∷ ls) n = refl
list_else (suc i) zero f (l ∷ ls) n = refl
list_else (suc i) (suc j) f (l ∷ ls) n = list_else i j f ls (λ e. n (ap suc e))

pub list_here : (i : ℕ) (f : List Held → List Held) (ls : List (List Held)) → i < length ls → list_at i (at_place i f ls) ≡ f (list_at i ls)
list_here i f [] h = absurd (omega arith)
list_here zero f (l ∷ ls) h = refl
list_here (suc i) f (l ∷ ls) h = list_here i f ls (omega arith)

other_stays : (e : Event) (l : List Held) (ls : List (List Held)) (i : ℕ) → i ≢ other_in e → list_at i (on_other e l ls) ≡ list_at i ls
other_stays (Intern p c x) l ls i n = refl
other_stays (Hold p x) l ls i n = refl
other_stays (Release p x) l ls i n = refl
other_stays (Give p q x) l ls i n = list_else i q (λ k. k ++ pair x (code_at x l) ∷ []) ls n
other_stays (Look p q x) l ls i n = refl
other_stays (Keep p q x) l ls i n = list_else i q (λ k. k ++ pair x (code_at x l) ∷ []) ls n
other_stays (Evict q x) l ls i n = refl

abbrev stepped : Bool → Event → State → Stepped
stepped b e g = if b then record { state = after e g; outcome = Done } else record { state = g; outcome = NotAllowed }

pub lists_stay : OtherListsStay
lists_stay n e g i first other = by_cases (allowed n e g)
    (λ a. subst (λ b. list_at i (stepped b e g).state.lists ≡ list_at i g.lists) (sym a)
    (let l = list_at (party_in e) g.lists in
    let f = on_list e (table_at (stripe_in e) g.tables) in
    other_stays e l (at_place (party_in e) f g.lists) i other ∙ list_else i (party_in e) f g.lists first))
    (λ a. subst (λ b. list_at i (stepped b e g).state.lists ≡ list_at i g.lists) (sym a) refl)

-- ---- pairs by name and code
hits : Name → Code → Held → ℕ
hits y d p = if is_name y p.name && same d p.code then 1 else 0

often_append : (y : Name) (d : Code) (ps qs : List Held) → often y d (ps ++ qs) ≡ often y d ps + often y d qs
often_append y d [] qs = omega arith
often_append y d (p ∷ ps) qs = let r = often_append y d ps qs in omega arith

-- the first pair of a name leaves
often_without : (y : Name) (d : Code) (x : Name) (l : List Held) → 0 < times x l → often y d (without x l) + often y d (pair x (code_at x l) ∷ []) ≡ often y d l
often_without y d x [] h = absurd (omega arith)
often_without y d x (p ∷ ps) h = name_test x p.name
    (λ b. 0 < (if b then 1 else 0) + times x ps → often y d (if b then ps else p ∷ without x ps) + often y d (pair x (if b then p.code else code_at x ps) ∷ []) ≡ often y d (p ∷ ps))
    (λ e z. let s : often y d (pair x p.code ∷ []) ≡ often y d (p ∷ []) = ap (λ (k : Name). often y d (pair k p.code ∷ [])) e in omega arith)
    (λ n z. let r = often_without y d x ps (omega arith) in omega arith)
    h

code_push : (x : Name) (l ks : List Held) → 0 < times x l → code_at x (l ++ ks) ≡ code_at x l
code_push x [] ks h = absurd (omega arith)
code_push x (p ∷ ps) ks h = name_test x p.name (λ b. 0 < (if b then 1 else 0) + times x ps → (if b then p.code else code_at x (ps ++ ks)) ≡ (if b then p.code else code_at x ps))
    (λ e z. refl)
    (λ n z. code_push x ps ks (omega arith))
    h

all_true : (a b c d : Bool) → a ≡ true → b ≡ true → c ≡ true → d ≡ true → (a && (b && (c && d))) ≡ true
all_true true true true true ha hb hc hd = refl
all_true true true true false ha hb hc hd = cc
all_true true true false d ha hb hc hd = cc
all_true true false c d ha hb hc hd = cc
all_true false b c d ha hb hc hd = cc

-- ---- a keep
pub keep_is : KeepIsHoldThenGive
keep_is n p q x g ok =
    let t = there n (Keep p q x) g ok in
    let ls = g.lists in
    let l = list_at p ls in
    let c = code_at x l in
    let held = ltb-true 0 (times x l) t.3 in
    let f : List Held → List Held = λ k. k ++ pair x (code_at x k) ∷ [] in
    let h = after (Hold p x) g in
    let l' = list_at p h.lists in
    let long : length h.lists ≡ length ls = length_at_place f p ls in
    let here : l' ≡ l ++ pair x c ∷ [] = list_here p f ls t.0 in
    let more : times x l' ≡ times x l + hit x x = ap (times x) here ∙ times_pair x x c l in
    let code : code_at x l' ≡ c = ap (code_at x) here ∙ code_push x l (pair x c ∷ []) held in
    let stripes : length h.tables ≡ length g.tables = length_at_place (raised x.slot) x.stripe g.tables in
    let given : List Held → List Held = λ k. k ++ pair x (code_at x l') ∷ [] in
    let kept : List Held → List Held = λ k. k ++ pair x c ∷ [] in
    let mid = at_place p (without x) h.lists in
    let still = at_place p (λ (k : List Held). k) ls in
    let mid_long : length mid ≡ length ls = length_at_place (without x) p h.lists ∙ long in
    let still_long : length still ≡ length ls = length_at_place (λ (k : List Held). k) p ls in
    let mid_here : list_at p mid ≡ without x l' = list_here p (without x) h.lists (subst (λ k. p < k) (sym long) t.0) in
    let still_here : list_at p still ≡ l = list_here p (λ (k : List Held). k) ls t.0 in
    let mid_else : (i : ℕ) → i ≢ p → list_at i mid ≡ list_at i ls = λ i u. list_else i p (without x) h.lists u ∙ list_else i p f ls u in
    let still_else : (i : ℕ) → i ≢ p → list_at i still ≡ list_at i ls = λ i u. list_else i p (λ (k : List Held). k) ls u in
    let room : q < length mid = subst (λ k. q < k) (sym mid_long) t.1 in
    let room' : q < length still = subst (λ k. q < k) (sym still_long) t.1 in
    record {
      hold = all_true (nat_lt p (length ls)) (nat_lt p (length ls)) (nat_lt x.stripe (length g.tables)) (nat_lt 0 (times x l)) (lt-ltb p (length ls) t.0) (lt-ltb p (length ls) t.0) (lt-ltb x.stripe (length g.tables) t.2) t.3;
      give = all_true (nat_lt p (length h.lists)) (nat_lt q (length h.lists)) (nat_lt x.stripe (length h.tables)) (nat_lt 0 (times x l'))
          (lt-ltb p (length h.lists) (subst (λ k. p < k) (sym long) t.0)) (lt-ltb q (length h.lists) (subst (λ k. q < k) (sym long) t.1)) (lt-ltb x.stripe (length h.tables) (subst (λ k. x.stripe < k) (sym stripes) t.2)) (lt-ltb 0 (times x l') (omega arith));
      tables = same_place x.stripe h.tables;
      others = λ i u. dite (ℕ_discrete i q)
          (λ e. subst (λ j. list_at j (at_place q given mid) ≡ list_at j (at_place q kept still)) (sym e)
          (let v : q ≢ p = λ w. u (e ∙ w) in
          list_here q given mid room ∙ ap₂ (λ (k : List Held) (d : Code). k ++ pair x d ∷ []) (mid_else q v ∙ sym (still_else q v)) code ∙ sym (list_here q kept still room')))
          (λ w. list_else i q given mid w ∙ mid_else i u ∙ sym (still_else i u) ∙ sym (list_else i q kept still w));
      first = λ y d.
          let a = often_without y d x l' (omega arith) in
          let b : often y d l' ≡ often y d l + often y d (pair x c ∷ []) = ap (often y d) here ∙ often_append y d l (pair x c ∷ []) in
          let k : often y d (pair x (code_at x l') ∷ []) ≡ often y d (pair x c ∷ []) = ap (λ (z : Code). often y d (pair x z ∷ [])) code in
          dite (ℕ_discrete p q)
          (λ e. subst (λ j. often y d (list_at p (at_place j given mid)) ≡ often y d (list_at p (at_place j kept still))) e
          (let r : often y d (list_at p (at_place p given mid)) ≡ often y d (without x l') + often y d (pair x (code_at x l') ∷ []) = ap (often y d) (list_here p given mid (subst (λ j. p < j) (sym mid_long) t.0) ∙ ap given mid_here) ∙ often_append y d (without x l') (pair x (code_at x l') ∷ []) in
          let s : often y d (list_at p (at_place p kept still)) ≡ often y d l + often y d (pair x c ∷ []) = ap (often y d) (list_here p kept still (subst (λ j. p < j) (sym still_long) t.0) ∙ ap kept still_here) ∙ often_append y d l (pair x c ∷ []) in omega arith))
          (λ w.
          let r : often y d (list_at p (at_place q given mid)) ≡ often y d (without x l') = ap (often y d) (list_else p q given mid w ∙ mid_here) in
          let s : often y d (list_at p (at_place q kept still)) ≡ often y d l = ap (often y d) (list_else p q kept still w ∙ still_here) in omega arith);
    }
