-- Each job was done once.
use Rattle.std.proofs.Common.{◌≡◌, ℕ, suc, ◌+◌, ◌-◌, ◌<◌, false, List, [], ◌∷◌, length, map, reverse, get_or, All, refl, ap, sym, subst, ◌∙◌, arith, Vec, Global}
use Rattle.std.proofs.lemmas.List.{get_or-reverse, get_or-map, length-reverse}
use Rattle.bs_pool.specs.declared.thief.Thief.{Thief}
use Rattle.bs_pool.specs.declared.seat.Seat.{Seat}
use Rattle.bs_pool.specs.Hands.{times, total, below}
use Rattle.bs_pool.specs.Seats.{job_of, own, deque_of, crew_of, carried, jobs_at, taken_at, put_of_all, own_of_all, taken_of_all, jobs_of_all, Ready, Manned}
use Rattle.bs_pool.specs.Moves.{Both, Grown, Ended, Home}
use Rattle.bs_pool.proofs.Homes.{total_same, taken_parts}
use Rattle.bs_pool.proofs.Lists.{same_map}

-- a relation at each place holds of the lists turned round
long_map : {A B : Type 0} (f : A → B) (l : List A) → length (map f l) ≡ length l
long_map f [] = refl
long_map f (y ∷ ys) = let r = long_map f ys in omega arith

module _ {M A : Type 0} (f : M → A) where
  rev_at : (ms : List M) (m : M) (xs : List A) (i : ℕ) (d : A) → reverse (map f ms) ≡ xs → i < length ms → get_or xs i d ≡ f (get_or ms (length ms - 1 - i) m)
  rev_at ms m xs i d e l =
      let n = long_map f ms in
      ap (λ z. get_or z i d) (sym e) ∙ get_or-reverse (map f ms) i d (omega arith) ∙ ap (λ k. get_or (map f ms) (k - 1 - i) d) n ∙ get_or-map f ms (length ms - 1 - i) m d (omega arith)

  long_turned : (ms : List M) (xs : List A) → reverse (map f ms) ≡ xs → length xs ≡ length ms
  long_turned ms xs e = ap length (sym e) ∙ length-reverse (map f ms) ∙ long_map f ms

  pub both_turned : (R : A → A → Type 0) (ms ns : List M) (xs ys : List A) → reverse (map f ms) ≡ xs → ys ≡ reverse (map f ns) → Both (λ m n. R (f m) (f n)) ms ns → Both R xs ys
  both_turned R [] ns xs ys e o b = (long_turned ns ys (sym o) ∙ b.0 ∙ sym (long_turned [] xs e), λ i d l. absurd (let n = long_turned [] xs e in omega arith))
  both_turned R (m ∷ ms) ns xs ys e o b = (
    long_turned ns ys (sym o) ∙ b.0 ∙ sym (long_turned (m ∷ ms) xs e),
    λ i d l.
        let n = long_turned (m ∷ ms) xs e in
        let here : i < length (m ∷ ms) = omega arith in
        let k : ℕ = length (m ∷ ms) - 1 - i in
        let x = rev_at (m ∷ ms) m xs i d e here in
        let y : get_or ys i d ≡ f (get_or ns k m) = rev_at ns m ys i d (sym o) (let p = b.0 in omega arith) ∙ ap (λ z. f (get_or ns (z - 1 - i) m)) b.0 in
        subst (λ z. R z (get_or ys i d)) (sym x) (subst (λ z. R (f (get_or (m ∷ ms) k m)) z) (sym y) (b.1 k m (omega arith))),
  )

total_zero : (f : Seat → ℕ) (xs : List Seat) → All (λ s. f s ≡ 0) xs → total f xs ≡ 0
total_zero f [] h = refl
total_zero f (x ∷ xs) h = let a : f x ≡ 0 = h 0 x (omega arith) in let r = total_zero f xs (λ k d l. h (suc k) d (omega arith)) in omega arith

total_eq : (f g : Seat → ℕ) (xs : List Seat) → All (λ s. f s ≡ g s) xs → total f xs ≡ total g xs
total_eq f g [] h = refl
total_eq f g (x ∷ xs) h = let a : f x ≡ g x = h 0 x (omega arith) in let r = total_eq f g xs (λ k d l. h (suc k) d (omega arith)) in omega arith

grown_sum : (x : ℕ) (xs ys : List Seat) → Both Grown xs ys → All (λ s. s.short ≡ false) ys → jobs_of_all x ys + taken_of_all x xs ≡ jobs_of_all x xs + taken_of_all x ys
grown_sum x [] [] b h = refl
grown_sum x [] (y ∷ ys) b h = absurd (let n = b.0 in omega arith)
grown_sum x (z ∷ xs) [] b h = absurd (let n = b.0 in omega arith)
grown_sum x (z ∷ xs) (y ∷ ys) b h =
    let g : Grown z y = b.1 0 z (omega arith) in
    let e = (g.sound (h 0 y (omega arith))).1 x in
    let r = grown_sum x xs ys ((let n = b.0 in omega arith), λ i d l. b.1 (suc i) d (omega arith)) (λ k d l. h (suc k) d (omega arith)) in omega arith

grown_short : (xs ys : List Seat) → Both Grown xs ys → All (λ s. s.short ≡ false) ys → All (λ s. s.short ≡ false) xs
grown_short xs ys b h k d l = ((b.1 k d l).sound (h k d (let n = b.0 in omega arith))).0

no_crew : (x : ℕ) (ts : List Thief) → length (crew_of ts) ≡ 0 → carried x ts ≡ 0
no_crew x [] e = refl
no_crew x (t ∷ ts) e = absurd (omega arith)

pub manned : (jobs : ℕ) (old now : List Seat) → Ready jobs old → Both Grown old now → Manned now
manned jobs old now r b = record {
  parts = λ k d l. let m : k < length old = let n = b.0 in omega arith in let p = (b.1 k d m).stays.parts in let q = r.parts k d m in let n = b.0 in omega arith;
  crews = λ k d l. let m : k < length old = let n = b.0 in omega arith in (b.1 k d m).stays.crew ∙ r.crews k d m ∙ sym (same_map deque_of old now b.0 (λ i e o. (b.1 i e o).stays.deque));
}

pub once : (jobs : ℕ) (a b c d : List Seat) → Ready jobs a → Both Grown a b → Home (length b) b c → Both Ended c d → All (λ s. s.short ≡ false) d → (x : ℕ) → jobs_of_all x d ≡ below x jobs
once jobs a b c d r g h e none x =
    let last : Both Grown c d = (e.0, λ i w l. (e.1 i w l).grown) in
    let short_c : All (λ s. s.short ≡ false) c = grown_short c d last none in
    let short_b : All (λ s. s.short ≡ false) b = λ k w l. sym (h.short k w l) ∙ short_c k w (let n = h.long in omega arith) in
    let first = grown_sum x a b g short_b in
    let second = grown_sum x c d last none in
    let no_done : jobs_of_all x a ≡ 0 = total_zero (λ (s : Seat). times x (jobs_at s)) a (λ k w l. ap (λ es. times x (map job_of es)) (r.done k w l)) in
    let no_taken : taken_of_all x a ≡ 0 = total_zero (taken_at x) a (λ k w l. r.taken k w l x) in
    let same_jobs : jobs_of_all x c ≡ jobs_of_all x b = total_same (λ (s : Seat). times x (jobs_at s)) b c h.long (λ k w l. ap (λ (v : Vec (ℕ × Vec ℕ Global) Global). times x (map job_of v.items)) (h.done k w l)) in
    let same_taken = h.taken x in
    let parts = taken_parts x d in
    let no_thieves : total (λ (s : Seat). carried x s.thieves.items) d ≡ 0 = total_zero (λ (s : Seat). carried x s.thieves.items) d (λ k w l.
    let m : k < length c = let n = e.0 in omega arith in
    let m' : k < length b = let n = h.long in omega arith in
    no_crew x (get_or d k w).thieves.items (ap length ((e.1 k w m).grown.stays.crew ∙ ap crew_of (h.empty k w m' m')))) in
    let all_taken : put_of_all x d ≡ own_of_all x d = total_eq (λ (s : Seat). times x (own s).put) (λ (s : Seat). times x (own s).taken) d (λ k w l.
    let m : k < length c = let n = e.0 in omega arith in
    let m' : k < length b = let n = h.long in omega arith in
    let p = (e.1 k w m).grown.stays.parts in
    let q = h.parts k w m' in
    (e.1 k w m).spent (none k w l) (omega arith) x) in
    let put_d : put_of_all x d ≡ put_of_all x c = total_same (λ (s : Seat). times x (own s).put) c d e.0 (λ k w l. ap (times x) (e.1 k w l).grown.stays.put) in
    let put_c : put_of_all x c ≡ put_of_all x b = total_same (λ (s : Seat). times x (own s).put) b c h.long (λ k w l. ap (times x) (h.put k w l)) in
    let put_b : put_of_all x b ≡ put_of_all x a = total_same (λ (s : Seat). times x (own s).put) a b g.0 (λ k w l. ap (times x) (g.1 k w l).stays.put) in
    let dealt = r.put x in omega arith
