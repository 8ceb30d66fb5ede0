-- The answers come to their places.
use Rattle.std.proofs.Common.{◌≡◌, ℕ, ◌+◌, ◌<◌, List, [], ◌∷◌, map, length, ap, arith, Vec, Global, Option, Result, Ok, Err, subst, sym, refl, zero, suc, ◌==◌, if◌then◌else◌, eq-eqb}
use Rattle.std.specs.Prelude.{IfSome, IfOk}
use mathlib.Core.Logic.{dite}
use native.Mathlib.Decide.{ℕ_discrete}
use Rattle.bs_pool.specs.declared.seat.Seat.{Seat}
use Rattle.bs_pool.specs.Hands.{times, below}
use Rattle.bs_pool.specs.Places.{Filled, Placed, Empty}
use Rattle.bs_pool.specs.Seats.{job_of, jobs_at, jobs_of_all}

pub filled_mono : (f g : ℕ → ℕ) (ps : List (Option (Vec ℕ Global))) → ((x : ℕ) → 0 < g x → 0 < f x) → Filled f ps → Filled g ps
filled_mono f g ps m h j d l p = h j d l (m j p)

pub one_more : (x : ℕ) (es rest : List (ℕ × Vec ℕ Global)) (e : ℕ × Vec ℕ Global) (g all : ℕ) → es ≡ e ∷ rest → g + times x (map job_of es) ≡ all → g + times x (e.0 ∷ []) + times x (map job_of rest) ≡ all
one_more x es rest e g all s h = let a : times x (map job_of es) ≡ times x (e.0 ∷ map job_of rest) = ap (λ l. times x (map job_of l)) s in omega arith

pub one_seat_more : (x : ℕ) (ss rest : List Seat) (s : Seat) (g all : ℕ) → ss ≡ s ∷ rest → g + jobs_of_all x ss ≡ all → g + times x (jobs_at s) + jobs_of_all x rest ≡ all
one_seat_more x ss rest s g all e h = let a : jobs_of_all x ss ≡ times x (jobs_at s) + jobs_of_all x rest = ap (jobs_of_all x) e in omega arith

pub none_left : (f all left g : ℕ → ℕ) (ps : List (Option (Vec ℕ Global))) → ((x : ℕ) → left x ≡ 0) → Filled g ps → ((x : ℕ) → g x + left x ≡ f x + all x) → Filled (λ x. f x + all x) ps
none_left f all left g ps z h e = filled_mono g (λ x. f x + all x) ps (λ x p. let a = z x in let b = e x in omega arith) h

pub no_jobs : (x : ℕ) (es : List (ℕ × Vec ℕ Global)) → length es ≡ 0 → times x (map job_of es) ≡ 0
no_jobs x [] e = refl
no_jobs x (y ∷ ys) e = absurd (omega arith)

pub no_seats : (x : ℕ) (ss : List Seat) → length ss ≡ 0 → jobs_of_all x ss ≡ 0
no_seats x [] e = refl
no_seats x (y ∷ ys) e = absurd (omega arith)

pub below_one : (x n : ℕ) → x < n → 0 < below x n
below_one x zero l = absurd (omega arith)
below_one x (suc n) l = dite (ℕ_discrete n x)
    (λ e. let h : (if n == x then 1 else 0) ≡ suc zero = ap (λ b. if b then suc zero else zero) (eq-eqb n x e) in omega arith)
    (λ ne. let r = below_one x n (omega arith) in omega arith)

pub all_filled : (ps : List (Option (Vec ℕ Global))) (f : ℕ → ℕ) → Filled (λ x. 0 + f x) ps → ((x : ℕ) → f x ≡ below x (length ps)) → Filled (λ _. 1) ps
all_filled ps f h e j d l p = h j d l (let a = e j in let b = below_one j (length ps) l in omega arith)

pub none_filled : (ps : List (Option (Vec ℕ Global))) → Filled (λ _. 0) ps
none_filled ps j d l p = absurd (omega arith)

pub empty_placed : (answer : ℕ → List ℕ) (ps : List (Option (Vec ℕ Global))) → Empty ps → Placed answer ps
empty_placed answer ps h j d l = subst (λ o. IfSome o (λ v. v.items ≡ answer j)) (sym (h j d l)) tt

pub if_ok_mono : {A E : Type 0} (P Q : A → Type 0) (r : Result A E) → ((v : A) → P v → Q v) → IfOk r P → IfOk r Q
if_ok_mono P Q (Ok v) m h = m v h
if_ok_mono P Q (Err e) m h = tt
