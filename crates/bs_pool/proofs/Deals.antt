-- The jobs are dealt, and each seat gets its thieves.
use Rattle.std.proofs.Common.{◌≡◌, ℕ, suc, ◌+◌, ◌-◌, ◌<◌, false, List, [], ◌∷◌, ◌++◌, length, map, take, set, get_or, All, refl, ap, sym, ◌∙◌, arith, Vec, Global}
use Rattle.std.proofs.lemmas.List.Elements.{All-set}
use Rattle.std.proofs.lemmas.List.{map-append, get_or-set_same, get_or-set_other, length-set}
use Rattle.crossbeam_deque.specs.Handles.{view, stealer_deque, worker_deque, worker_view}
use Rattle.std.proofs.lemmas.Grind.{take_at_read}
use mathlib.Core.Logic.{dite}
use native.Mathlib.Decide.{ℕ_discrete}
use Rattle.bs_pool.specs.declared.hand.Hand.{Hand}
use Rattle.bs_pool.specs.declared.thief.Thief.{Thief}
use Rattle.bs_pool.specs.declared.seat.Seat.{Seat}
use Rattle.bs_pool.specs.Hands.{times, total, below}
use Rattle.bs_pool.specs.Seats.{own, deque_of, crew_of, carried, put_of_all, New, Ready}
use Rattle.bs_pool.specs.Moves.{Both, Put, Gave}
use Rattle.bs_pool.proofs.Totals.{times_append, total_at, total_append}
use Rattle.bs_pool.proofs.Lists.{same_map, same_default}

-- a job is dealt
pub dealt_new : (job : ℕ) (a b : Seat) → Put job a b → New a → New b
dealt_new job a b p n = record {
  done = ap (λ (v : Vec (ℕ × Vec ℕ Global) Global). v.items) p.beside.done ∙ n.done;
  short = p.beside.short ∙ n.short;
  parts = ap (λ (h : Hand). h.parts) p.now ∙ n.parts;
  taken = ap (λ (h : Hand). h.taken) p.now ∙ n.taken;
  thieves = ap (λ (v : Vec Thief Global). v.items) p.beside.thieves ∙ n.thieves;
}

pub dealt_put : (x job : ℕ) (seats : List Seat) (i : ℕ) (v w : Seat) → i < length seats → v ≡ get_or seats i v → Put job v w
    → put_of_all x seats ≡ below x job → put_of_all x (set seats i w) ≡ below x (job + 1)
dealt_put x job seats i v w l e p h =
    let s = total_at (λ (u : Seat). times x (own u).put) seats i v w l in
    let a : times x (own w).put ≡ times x (own v).put + times x (job ∷ []) = ap (λ (u : Hand). times x u.put) p.now ∙ times_append x (own v).put (job ∷ []) in
    let b : times x (own v).put ≡ times x (own (get_or seats i v)).put = ap (λ (u : Seat). times x (own u).put) e in
    let c : below x (job + 1) ≡ below x job + times x (job ∷ []) = let k : below x (job + 1) ≡ below x (suc job) = ap (below x) (let q : job + 1 ≡ suc job = omega arith in q) in omega arith in
    omega arith

-- one more thief of a crew
pub crew_more : (seats : List Seat) (k : ℕ) (v : Seat) (ts us : List Thief) (t : Thief) → k < length seats → v ≡ get_or seats k v → stealer_deque t.taker ≡ deque_of v → us ≡ ts ++ t ∷ []
    → crew_of ts ≡ map deque_of (take k seats) → crew_of us ≡ map deque_of (take (k + 1) seats)
crew_more seats k v ts us t l e o u h =
    ap crew_of u ∙ map-append (λ (w : Thief). stealer_deque w.taker) ts (t ∷ []) ∙ ap (λ z. z ++ stealer_deque t.taker ∷ []) h ∙ ap (λ z. map deque_of (take k seats) ++ z ∷ []) (o ∙ ap deque_of e)
    ∙ sym (map-append deque_of (take k seats) (get_or seats k v ∷ [])) ∙ ap (map deque_of) (sym (take_at_read seats k v l).1)

pub none_more : (x : ℕ) (ts us : List Thief) (t : Thief) → us ≡ ts ++ t ∷ [] → (view t.pass).taken ≡ [] → carried x ts ≡ 0 → carried x us ≡ 0
none_more x ts us t u n h =
    let a = ap (carried x) u ∙ total_append (λ (w : Thief). times x (view w.pass).taken) ts (t ∷ []) in
    let b : times x (view t.pass).taken ≡ 0 = ap (times x) n in omega arith

-- the first k seats have their crews
pub record Hired (k : ℕ) (old now : List Seat) : Type 0 where
  pub long : length now ≡ length old
  pub done : All (λ s. s.done.items ≡ []) now
  pub short : All (λ s. s.short ≡ false) now
  pub taken : All (λ s. (own s).taken ≡ []) now
  pub carry : All (λ s. (x : ℕ) → carried x s.thieves.items ≡ 0) now
  pub put : (x : ℕ) → put_of_all x now ≡ put_of_all x old
  pub parts : All (λ s. (own s).parts + k ≡ 1024) now
  pub deques : map deque_of now ≡ map deque_of old
  pub crews : (j : ℕ) (d : Seat) → j < k → crew_of (get_or now j d).thieves.items ≡ map deque_of old

pub hired_none : (seats : List Seat) → All New seats → Hired 0 seats seats
hired_none seats n = record {
  long = refl;
  done = λ k d l. (n k d l).done;
  short = λ k d l. (n k d l).short;
  taken = λ k d l. (n k d l).taken;
  carry = λ k d l x. ap (carried x) (n k d l).thieves;
  put = λ x. refl;
  parts = λ k d l. let p = (n k d l).parts in omega arith;
  deques = refl;
  crews = λ j d l. absurd (omega arith);
}

total_same : (f : Seat → ℕ) (xs ys : List Seat) → length ys ≡ length xs → ((i : ℕ) (d : Seat) → i < length xs → f (get_or ys i d) ≡ f (get_or xs i d)) → total f ys ≡ total f xs
total_same f [] [] n h = refl
total_same f [] (y ∷ ys) n h = absurd (omega arith)
total_same f (x ∷ xs) [] n h = absurd (omega arith)
total_same f (x ∷ xs) (y ∷ ys) n h = let here : f y ≡ f x = h 0 x (omega arith) in let r = total_same f xs ys (omega arith) (λ i d l. h (suc i) d (omega arith)) in omega arith

-- each gave a part
gave : (k : ℕ) (old now mid : List Seat) → Hired k old now → Both Gave now mid → k < 64 → (length mid ≡ length old) × (All (λ s. s.done.items ≡ []) mid) × (All (λ s. s.short ≡ false) mid) × (All (λ s. (own s).taken ≡ []) mid)
    × (All (λ s. (x : ℕ) → carried x s.thieves.items ≡ 0) mid) × ((x : ℕ) → put_of_all x mid ≡ put_of_all x old) × (All (λ s. (own s).parts + (k + 1) ≡ 1024) mid) × (map deque_of mid ≡ map deque_of old)
    × ((j : ℕ) (d : Seat) → j < k → j < length now → crew_of (get_or mid j d).thieves.items ≡ map deque_of old)
gave k old now mid h b few = (
  b.0 ∙ h.long,
  (λ j d l. ap (λ (v : Vec (ℕ × Vec ℕ Global) Global). v.items) (at j d l).beside.done ∙ h.done j d (was j l)),
  (λ j d l. (at j d l).beside.short ∙ h.short j d (was j l)),
  (λ j d l. ap (λ (u : Hand). u.taken) (at j d l).now ∙ h.taken j d (was j l)),
  (λ j d l x. ap (λ (v : Vec Thief Global). carried x v.items) (at j d l).beside.thieves ∙ h.carry j d (was j l) x),
  (λ x. total_same (λ (u : Seat). times x (own u).put) now mid b.0 (λ j d l. ap (λ (u : Hand). times x u.put) (b.1 j d l).now) ∙ h.put x),
  (λ j d l. let p : (own (get_or mid j d)).parts ≡ (own (get_or now j d)).parts - 1 = ap (λ (u : Hand). u.parts) (at j d l).now in let q = h.parts j d (was j l) in omega arith),
  same_map deque_of now mid b.0 (λ j d l. (b.1 j d l).beside.deque) ∙ h.deques,
  (λ j d l m. ap (λ (v : Vec Thief Global). crew_of v.items) (b.1 j d m).beside.thieves ∙ h.crews j d l),
)
  where
    was : (j : ℕ) → j < length mid → j < length now
    was j l = let o = b.0 in omega arith

    at : (j : ℕ) (d : Seat) → j < length mid → Gave (get_or now j d) (get_or mid j d)
    at j d l = b.1 j d (was j l)

pub hired_more : (k : ℕ) (old now mid : List Seat) (v w : Seat) → Hired k old now → Both Gave now mid → k < 64 → k < length mid → v ≡ get_or mid k v
    → w.deque ≡ v.deque → w.done ≡ v.done → w.short ≡ v.short → crew_of w.thieves.items ≡ map deque_of now → ((x : ℕ) → carried x w.thieves.items ≡ 0) → Hired (k + 1) old (set mid k w)
hired_more k old now mid v w h b few l e dq dn sh cr ca =
    let m = gave k old now mid h b few in
    let own_same : own w ≡ own v = λ i. worker_view (dq i) in record {
      long = length-set mid k w ∙ m.0;
      done = All-set (λ s. s.done.items ≡ []) mid k w (ap (λ (u : Vec (ℕ × Vec ℕ Global) Global). u.items) dn ∙ ap (λ (s : Seat). s.done.items) e ∙ m.1 k v l) m.1;
      short = All-set (λ s. s.short ≡ false) mid k w (sh ∙ ap (λ (s : Seat). s.short) e ∙ m.2 k v l) m.2;
      taken = All-set (λ s. (own s).taken ≡ []) mid k w (ap (λ (u : Hand). u.taken) own_same ∙ ap (λ (s : Seat). (own s).taken) e ∙ m.3 k v l) m.3;
      carry = All-set (λ s. (x : ℕ) → carried x s.thieves.items ≡ 0) mid k w ca m.4;
      put = λ x.
          let t = total_at (λ (u : Seat). times x (own u).put) mid k v w l in
          let a : times x (own w).put ≡ times x (own (get_or mid k v)).put = ap (λ (u : Hand). times x u.put) own_same ∙ ap (λ (s : Seat). times x (own s).put) e in
          let p = m.5 x in omega arith;
      parts = All-set (λ s. (own s).parts + (k + 1) ≡ 1024) mid k w (ap (λ (u : Hand). u.parts + (k + 1)) own_same ∙ ap (λ (s : Seat). (own s).parts + (k + 1)) e ∙ m.6 k v l) m.6;
      deques = same_map deque_of mid (set mid k w) (length-set mid k w) (λ j d o. dite (ℕ_discrete j k)
          (λ s. ap (λ i. deque_of (get_or (set mid k w) i d)) s ∙ ap deque_of (get_or-set_same mid k w d l) ∙ (λ i. worker_deque (dq i)) ∙ ap deque_of e ∙ ap deque_of (same_default mid k v d l) ∙ ap (λ i. deque_of (get_or mid i d)) (sym s))
          (λ n. ap deque_of (get_or-set_other mid k j w d n))) ∙ m.7;
      crews = λ j d o. dite (ℕ_discrete j k)
          (λ s. ap (λ i. crew_of (get_or (set mid k w) i d).thieves.items) s ∙ ap (λ (u : Seat). crew_of u.thieves.items) (get_or-set_same mid k w d l) ∙ cr ∙ h.deques)
          (λ n. ap (λ (u : Seat). crew_of u.thieves.items) (get_or-set_other mid k j w d n) ∙ m.8 j d (omega arith) (let q = b.0 in omega arith));
    }

pub hired_all : (jobs : ℕ) (old now : List Seat) → Hired (length old) old now → ((x : ℕ) → put_of_all x old ≡ below x jobs) → Ready jobs now
hired_all jobs old now h p = record {
  done = h.done;
  short = h.short;
  taken = λ k d l x. let a : times x (own (get_or now k d)).taken ≡ 0 = ap (times x) (h.taken k d l) in let b = h.carry k d l x in omega arith;
  put = λ x. h.put x ∙ p x;
  parts = λ k d l. let q = h.parts k d l in let o = h.long in omega arith;
  crews = λ k d l. h.crews k d (let o = h.long in omega arith) ∙ sym h.deques;
}

-- one more new seat
pub unput_more : (x : ℕ) (seats more : List Seat) (s : Seat) → more ≡ seats ++ s ∷ [] → (own s).put ≡ [] → put_of_all x seats ≡ 0 → put_of_all x more ≡ 0
unput_more x seats more s e n h =
    let a = ap (put_of_all x) e ∙ total_append (λ (u : Seat). times x (own u).put) seats (s ∷ []) in
    let b : times x (own s).put ≡ 0 = ap (times x) n in omega arith
