-- What a worker takes it does.
use Rattle.std.proofs.Common.{◌≡◌, ℕ, ◌+◌, ◌<◌, true≢false, List, [], ◌∷◌, ◌++◌, length, map, set, get_or, zero, suc, refl, ap, sym, subst, ◌∙◌, ⊎_elim, arith, Option, Some, None, Vec, Global}
use Rattle.std.specs.Prelude.{MatchOption}
use Rattle.std.specs.Option.{option_to_list}
use Rattle.crossbeam_deque.specs.Handles.{view, stealer_deque, worker_deque, worker_view}
use Rattle.bs_pool.specs.declared.thief.Thief.{Thief}
use Rattle.bs_pool.specs.declared.seat.Seat.{Seat}
use Rattle.crossbeam_deque.specs.declared.handles.Worker.{Worker}
use Rattle.bs_pool.specs.declared.hand.Hand.{Hand}
use Rattle.bs_pool.specs.declared.hand.Fair.{Fair}
use Rattle.bs_pool.specs.Hands.{hand, times, Spent}
use Rattle.bs_pool.specs.Seats.{job_of, jobs_at, own, crew_of, carried}
use Rattle.bs_pool.specs.Moves.{Stays, Took, Did, Grown}
use Rattle.bs_pool.proofs.Totals.{times_append, total_at}

abbrev Owner : Type 0
Owner = Worker ℕ Global Hand Fair

abbrev hand_of : Owner → Hand
hand_of v = worker_view v

pub stays_same : (a : Seat) → Stays a a
stays_same a = record { worker = refl; deque = refl; parts = refl; put = refl; crew = refl }

pub stays_then : (a b c : Seat) → Stays a b → Stays b c → Stays a c
stays_then a b c s t = record { worker = t.worker ∙ s.worker; deque = t.deque ∙ s.deque; parts = t.parts ∙ s.parts; put = t.put ∙ s.put; crew = t.crew ∙ s.crew }

pub none_taken : (a : Seat) → Took [] a a
none_taken a = record { stays = stays_same a; done = refl; short = refl; taken = λ x. omega arith }

pub took_then : (ps qs : List ℕ) (a b c : Seat) → Took ps a b → Took qs b c → Took (ps ++ qs) a c
took_then ps qs a b c s t = record {
  stays = stays_then a b c s.stays t.stays;
  done = t.done ∙ s.done;
  short = t.short ∙ s.short;
  taken = λ x. let p = s.taken x in let q = t.taken x in let r = times_append x ps qs in omega arith;
}

pub map_set : {A B : Type 0} (f : A → B) (xs : List A) (i : ℕ) (d y : A) → i < length xs → f y ≡ f (get_or xs i d) → map f (set xs i y) ≡ map f xs
map_set f [] i d y l e = refl
map_set f (x ∷ xs) zero d y l e = ap (λ z. z ∷ map f xs) e
map_set f (x ∷ xs) (suc i) d y l e = ap (λ z. f x ∷ z) (map_set f xs i d y (omega arith) e)

pub crew_set : (ts : List Thief) (i : ℕ) (d t : Thief) → i < length ts → stealer_deque t.taker ≡ stealer_deque (get_or ts i d).taker → crew_of (set ts i t) ≡ crew_of ts
crew_set ts i d t l e = map_set (λ (u : Thief). stealer_deque u.taker) ts i d t l e

abbrev taken : Thief → List ℕ
taken t = (view t.pass).taken

pub stolen : (x : ℕ) (ts : List Thief) (i : ℕ) (d t : Thief) (got : Option ℕ) → i < length ts
    → MatchOption got (taken t ≡ taken (get_or ts i d)) (λ job. taken t ≡ taken (get_or ts i d) ++ job ∷ [])
    → carried x (set ts i t) ≡ carried x ts + times x (option_to_list got)
stolen x ts i d t None l e = let s = total_at (λ (u : Thief). times x (taken u)) ts i d t l in let a = ap (times x) e in omega arith
stolen x ts i d t (Some job) l e =
    let s = total_at (λ (u : Thief). times x (taken u)) ts i d t l in
    let a = ap (times x) e ∙ times_append x (taken (get_or ts i d)) (job ∷ []) in omega arith

-- thieves were at work, and nothing else
pub thieves_took : (got : List ℕ) (a b : Seat) → b.worker ≡ a.worker → b.deque ≡ a.deque → b.done ≡ a.done → b.short ≡ a.short → crew_of b.thieves.items ≡ crew_of a.thieves.items
    → ((x : ℕ) → carried x b.thieves.items ≡ carried x a.thieves.items + times x got) → Took got a b
thieves_took got a b n w d s c h = record {
  stays = record { worker = n; deque = ap (λ (v : Owner). worker_deque v) w; parts = ap (λ (v : Owner). (hand_of v).parts) w; put = ap (λ (v : Owner). (hand_of v).put) w; crew = c };
  done = d;
  short = s;
  taken = λ x. let p = h x in let o : times x (own b).taken ≡ times x (own a).taken = ap (λ (v : Owner). times x (hand_of v).taken) w in omega arith;
}

-- the owner was at work, and nothing else
owner_took : (got : List ℕ) (a b : Seat) → b.worker ≡ a.worker → worker_deque b.deque ≡ worker_deque a.deque → b.thieves ≡ a.thieves → b.done ≡ a.done → b.short ≡ a.short
    → own b ≡ hand (own a).parts (own a).put ((own a).taken ++ got) → Took got a b
owner_took got a b n w t d s e = record {
  stays = record { worker = n; deque = w; parts = ap (λ (h : Hand). h.parts) e; put = ap (λ (h : Hand). h.put) e; crew = ap (λ (v : Vec Thief Global). crew_of v.items) t };
  done = d;
  short = s;
  taken = λ x.
      let o : times x (own b).taken ≡ times x (own a).taken + times x got = ap (λ (h : Hand). times x h.taken) e ∙ times_append x (own a).taken got in
      let c : carried x b.thieves.items ≡ carried x a.thieves.items = ap (λ (v : Vec Thief Global). carried x v.items) t in omega arith;
}

pub owner_pops : (got : Option ℕ) (a b : Seat) → b.worker ≡ a.worker → worker_deque b.deque ≡ worker_deque a.deque → b.thieves ≡ a.thieves → b.done ≡ a.done → b.short ≡ a.short
    → MatchOption got ((own b ≡ own a) × Spent (own a)) (λ x. own b ≡ hand (own a).parts (own a).put ((own a).taken ++ x ∷ []))
    → MatchOption got (Took [] a b × Spent (own b)) (λ x. Took (x ∷ []) a b)
owner_pops None a b n w t d s e = (
  record {
    stays = record { worker = n; deque = w; parts = ap (λ (h : Hand). h.parts) e.0; put = ap (λ (h : Hand). h.put) e.0; crew = ap (λ (v : Vec Thief Global). crew_of v.items) t };
    done = d;
    short = s;
    taken = λ x.
        let o : times x (own b).taken ≡ times x (own a).taken = ap (λ (h : Hand). times x h.taken) e.0 in
        let c : carried x b.thieves.items ≡ carried x a.thieves.items = ap (λ (v : Vec Thief Global). carried x v.items) t in omega arith;
  },
  subst Spent (sym e.0) e.1,
)
owner_pops (Some x) a b n w t d s e = owner_took (x ∷ []) a b n w t d s e

-- a job of one's own, or else of another's
pub other_took : (got : Option ℕ) (a b c : Seat) → Took [] a b → Spent (own b) → Took (option_to_list got) b c → own c ≡ own b
    → MatchOption got (Took [] a c × Spent (own c)) (λ x. Took (x ∷ []) a c)
other_took None a b c s p t e = (took_then [] [] a b c s t, subst Spent (sym e) p)
other_took (Some x) a b c s p t e = took_then [] (x ∷ []) a b c s t

pub none_grown : (a : Seat) → Grown a a
none_grown a = record { stays = stays_same a; sound = λ s. (s, λ x. refl) }

pub grows_idle : (a b c : Seat) → Grown a b → Took [] b c → Grown a c
grows_idle a b c g t = record {
  stays = stays_then a b c g.stays t.stays;
  sound = λ s.
      let r = g.sound (sym t.short ∙ s) in (
        r.0,
        λ x.
            let j : times x (jobs_at c) ≡ times x (jobs_at b) = ap (λ (v : Vec (ℕ × Vec ℕ Global) Global). times x (map job_of v.items)) t.done in
            let k = t.taken x in
            let h = r.1 x in omega arith,
      );
}

pub grows : (job : ℕ) (a b c d : Seat) → Grown a b → Took (job ∷ []) b c → Did job c d → Grown a d
grows job a b c d g t did = record {
  stays = stays_then a b d g.stays (stays_then b c d t.stays (record {
    worker = did.worker;
    deque = ap (λ (w : Owner). worker_deque w) did.deque;
    parts = ap (λ (w : Owner). (hand_of w).parts) did.deque;
    put = ap (λ (w : Owner). (hand_of w).put) did.deque;
    crew = ap (λ (v : Vec Thief Global). crew_of v.items) did.thieves;
  }));
  sound = λ s. ⊎_elim (λ e. absurd (true≢false (sym e ∙ s)))
      (λ e.
      let r = g.sound (sym t.short ∙ sym e.0 ∙ s) in (
        r.0,
        λ x.
            let o : times x (own d).taken ≡ times x (own c).taken = ap (λ (w : Owner). times x (hand_of w).taken) did.deque in
            let w : carried x d.thieves.items ≡ carried x c.thieves.items = ap (λ (v : Vec Thief Global). carried x v.items) did.thieves in
            let n : times x (jobs_at d) ≡ times x (jobs_at c ++ job ∷ []) = ap (times x) e.1 in
            let n' = times_append x (jobs_at c) (job ∷ []) in
            let j : times x (jobs_at c) ≡ times x (jobs_at b) = ap (λ (v : Vec (ℕ × Vec ℕ Global) Global). times x (map job_of v.items)) t.done in
            let k = t.taken x in
            let h = r.1 x in omega arith,
      ))
      did.done;
}
