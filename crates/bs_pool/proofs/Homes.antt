-- The thieves come home.
use Rattle.std.proofs.Common.{◌≡◌, ℕ, suc, ◌+◌, ◌<◌, List, [], ◌∷◌, length, map, set, get_or, refl, ap, sym, subst, ◌∙◌, arith, Vec, Global}
use Rattle.std.proofs.lemmas.List.{get_or-set_same, get_or-set_other, length-set, get_or-map}
use Rattle.crossbeam_deque.specs.Handles.{view, stealer_deque, worker_deque, worker_view}
use mathlib.Core.Logic.{dite}
use native.Mathlib.Decide.{ℕ_discrete}
use Rattle.bs_pool.specs.declared.hand.Hand.{Hand}
use Rattle.bs_pool.specs.declared.thief.Thief.{Thief}
use Rattle.bs_pool.specs.declared.seat.Seat.{Seat}
use Rattle.bs_pool.specs.Hands.{times, total}
use Rattle.bs_pool.specs.Seats.{own, deque_of, crew_of, carried, own_of_all, taken_of_all, Lined}
use Rattle.bs_pool.specs.Moves.{Both, Rejoined, Got, Home}
use Rattle.bs_pool.proofs.Totals.{times_append, total_at}
use Rattle.bs_pool.proofs.Lists.{same_map, same_default}

pub lined_first : (k : ℕ) (ts us : List Thief) (t : Thief) (seats : List Seat) (e : Seat) → ts ≡ t ∷ us → Lined k ts seats → stealer_deque t.taker ≡ deque_of (get_or seats k e)
lined_first k ts us t seats e s h =
    let g : Lined k (t ∷ us) seats = subst (λ l. Lined k l seats) s h in g.each 0 t e (omega arith) ∙ ap (λ i. deque_of (get_or seats i e)) (let q : k + 0 ≡ k = omega arith in q)

pub lined_rest : (k : ℕ) (ts us : List Thief) (t : Thief) (seats : List Seat) → ts ≡ t ∷ us → Lined k ts seats → Lined (k + 1) us seats
lined_rest k ts us t seats s h =
    let g : Lined k (t ∷ us) seats = subst (λ l. Lined k l seats) s h in record {
      long = let o = g.long in omega arith;
      each = λ j d e l. g.each (suc j) d e (omega arith) ∙ ap (λ i. deque_of (get_or seats i e)) (let q : k + suc j ≡ k + 1 + j = omega arith in q);
    }

pub lined_below : (k : ℕ) (ts us : List Thief) (t : Thief) (seats : List Seat) → ts ≡ t ∷ us → Lined k ts seats → k < length seats
lined_below k ts us t seats s h = let o = h.long in let n : length ts ≡ length us + 1 = ap length s ∙ omega arith in omega arith

pub lined_all : (ts : List Thief) (seats : List Seat) → crew_of ts ≡ map deque_of seats → Lined 0 ts seats
lined_all ts seats e = record {
  long = let a = long_map (λ (t : Thief). stealer_deque t.taker) ts in let b = long_map deque_of seats in let c = ap length e in omega arith;
  each = λ j d e' l.
      let m : j < length seats = let a = long_map (λ (t : Thief). stealer_deque t.taker) ts in let b = long_map deque_of seats in let c = ap length e in omega arith in
      sym (get_or-map (λ (t : Thief). stealer_deque t.taker) ts j d (deque_of e') l) ∙ ap (λ l'. get_or l' j (deque_of e')) e ∙ get_or-map deque_of seats j e' (deque_of e') m
      ∙ ap (λ i. deque_of (get_or seats i e')) (let q : j ≡ 0 + j = omega arith in q);
}
  where
    long_map : {A B : Type 0} (f : A → B) (l : List A) → length (map f l) ≡ length l
    long_map f [] = refl
    long_map f (y ∷ ys) = let r = long_map f ys in omega arith

-- one thief has come home
pub got_of : (t : Thief) (a b : Seat) → (view t.pass).put ≡ [] → Rejoined t a b → Got a b
got_of t a b n r = record { beside = r.beside; parts = ap (λ (u : Hand). u.parts) r.now; put = ap (λ (u : Hand). u.put) r.now }

pub home_taken : (x : ℕ) (seats : List Seat) (k : ℕ) (v w : Seat) (ts us : List Thief) (t : Thief) (all before : ℕ) → k < length seats → v ≡ get_or seats k v → Rejoined t v w → ts ≡ t ∷ us
    → own_of_all x seats + carried x ts ≡ all → own_of_all x (set seats k w) + carried x us ≡ all
home_taken x seats k v w ts us t all before l e r s h =
    let a = total_at (λ (u : Seat). times x (own u).taken) seats k v w l in
    let b : times x (own w).taken ≡ times x (own v).taken + times x (view t.pass).taken = ap (λ (u : Hand). times x u.taken) r.now ∙ times_append x (own v).taken (view t.pass).taken in
    let c : times x (own v).taken ≡ times x (own (get_or seats k v)).taken = ap (λ (u : Seat). times x (own u).taken) e in
    let d : carried x ts ≡ times x (view t.pass).taken + carried x us = ap (carried x) s in omega arith

-- what is read of the seats is the same after a write that leaves it
set_field : {B : Type 0} (F : Seat → B) (now : List Seat) (k : ℕ) (v w : Seat) → k < length now → v ≡ get_or now k v → F w ≡ F v → (j : ℕ) (d : Seat) → F (get_or (set now k w) j d) ≡ F (get_or now j d)
set_field F now k v w l e f j d = dite (ℕ_discrete j k)
    (λ s. ap (λ i. F (get_or (set now k w) i d)) s ∙ ap F (get_or-set_same now k w d l) ∙ f ∙ ap F (e ∙ same_default now k v d l) ∙ ap (λ i. F (get_or now i d)) (sym s))
    (λ n. ap F (get_or-set_other now k j w d n))

pub total_same : (f : Seat → ℕ) (xs ys : List Seat) → length ys ≡ length xs → ((i : ℕ) (d : Seat) → i < length xs → f (get_or ys i d) ≡ f (get_or xs i d)) → total f ys ≡ total f xs
total_same f [] [] n h = refl
total_same f [] (y ∷ ys) n h = absurd (omega arith)
total_same f (x ∷ xs) [] n h = absurd (omega arith)
total_same f (x ∷ xs) (y ∷ ys) n h = let here : f y ≡ f x = h 0 x (omega arith) in let r = total_same f xs ys (omega arith) (λ i d l. h (suc i) d (omega arith)) in omega arith

abbrev thieves_of_all : ℕ → List Seat → ℕ
thieves_of_all x seats = total (λ (s : Seat). carried x s.thieves.items) seats

pub taken_parts : (x : ℕ) (seats : List Seat) → taken_of_all x seats ≡ own_of_all x seats + thieves_of_all x seats
taken_parts x [] = refl
taken_parts x (s ∷ seats) = let r = taken_parts x seats in omega arith

pub home_crew : (k : ℕ) (old now : List Seat) (v w : Seat) (ts : List Thief) → Home k old now → k < length now → v ≡ get_or now k v → w.deque ≡ v.deque → ts ≡ v.thieves.items → Lined 0 ts (set now k w)
home_crew k old now v w ts h l e q t =
    lined_all ts (set now k w) (ap crew_of t ∙ ap (λ (s : Seat). crew_of s.thieves.items) e ∙ h.crews k v (let o = h.long in omega arith) (omega arith) ∙ sym h.deques
    ∙ sym (same_map deque_of now (set now k w) (length-set now k w) (λ j d o. set_field deque_of now k v w l e (λ i. worker_deque (q i)) j d)))

pub home_more : (k : ℕ) (old now new : List Seat) (v w : Seat) (ts : List Thief) → Home k old now → k < length now → v ≡ get_or now k v → w.deque ≡ v.deque → w.done ≡ v.done → w.short ≡ v.short → w.thieves.items ≡ []
    → ts ≡ v.thieves.items → Both Got (set now k w) new → ((x : ℕ) → own_of_all x new ≡ own_of_all x (set now k w) + carried x ts) → Home (k + 1) old new
home_more k old now new v w ts h l e dq dn sh em te b ta =
    let same : (j : ℕ) (d : Seat) → own (get_or (set now k w) j d) ≡ own (get_or now j d) = set_field own now k v w l e (λ i. worker_view (dq i)) in record {
      long = b.0 ∙ length-set now k w ∙ h.long;
      done = λ j d o. (at j d o).beside.done ∙ set_field (λ (s : Seat). s.done) now k v w l e dn j d ∙ h.done j d o;
      short = λ j d o. (at j d o).beside.short ∙ set_field (λ (s : Seat). s.short) now k v w l e sh j d ∙ h.short j d o;
      put = λ j d o. (at j d o).put ∙ ap (λ (u : Hand). u.put) (same j d) ∙ h.put j d o;
      parts = λ j d o.
          let p = (at j d o).parts in
          let q : (own (get_or (set now k w) j d)).parts ≡ (own (get_or now j d)).parts = ap (λ (u : Hand). u.parts) (same j d) in
          let r = h.parts j d o in omega arith;
      deques = same_map deque_of (set now k w) new b.0 (λ j d o. (b.1 j d o).beside.deque) ∙ same_map deque_of now (set now k w) (length-set now k w) (λ j d o. set_field deque_of now k v w l e (λ i. worker_deque (dq i)) j d) ∙ h.deques;
      empty = λ j d o m. dite (ℕ_discrete j k)
          (λ s. ap (λ (u : Vec Thief Global). u.items) (at j d o).beside.thieves ∙ ap (λ i. (get_or (set now k w) i d).thieves.items) s ∙ ap (λ (u : Seat). u.thieves.items) (get_or-set_same now k w d l) ∙ em)
          (λ n. ap (λ (u : Vec Thief Global). u.items) (at j d o).beside.thieves ∙ ap (λ (u : Seat). u.thieves.items) (get_or-set_other now k j w d n) ∙ h.empty j d o (omega arith));
      crews = λ j d o m.
          ap (λ (u : Vec Thief Global). crew_of u.items) (at j d o).beside.thieves ∙ ap (λ (u : Seat). crew_of u.thieves.items) (get_or-set_other now k j w d (λ s. absurd (omega arith))) ∙ h.crews j d o (omega arith);
      taken = λ x.
          let a = taken_parts x new in
          let a' = taken_parts x now in
          let c = ta x in
          let f = total_same (λ (s : Seat). carried x s.thieves.items) (set now k w) new b.0 (λ j d o. ap (λ (u : Vec Thief Global). carried x u.items) (b.1 j d o).beside.thieves) in
          let g = total_at (λ (s : Seat). carried x s.thieves.items) now k v w l in
          let z : carried x w.thieves.items ≡ 0 = ap (carried x) em in
          let y : carried x ts ≡ carried x (get_or now k v).thieves.items = ap (carried x) te ∙ ap (λ (s : Seat). carried x s.thieves.items) e in
          let i = total_at (λ (s : Seat). times x (own s).taken) now k v w l in
          let i' : times x (own w).taken ≡ times x (own (get_or now k v)).taken = (λ i. times x (worker_view (dq i)).taken) ∙ ap (λ (s : Seat). times x (own s).taken) e in
          let r = h.taken x in omega arith;
    }
  where
    at : (j : ℕ) (d : Seat) → j < length old → Got (get_or (set now k w) j d) (get_or new j d)
    at j d o = b.1 j d (let p = length-set now k w in let q = h.long in omega arith)
