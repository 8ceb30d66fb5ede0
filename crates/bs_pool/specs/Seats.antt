-- What a worker has at its seat: its deque, a thief for each deque, and the jobs that it has done.
--
--   local_of m, seat_of m   == a member of the pool is a local and a seat
--   job_of e                == the job that was done
--   IsDone answer e         == its text is the job's answer; AllDone answer s: each job done at the seat was answered so
--   jobs_at s               == the jobs that were done at the seat
--   own s, deque_of s       == what the seat's owner knows of its deque, and which deque that is
--   crew_of ts              == from which deques these thieves take
--   carried x ts            == how often these thieves have taken x; taken_at x s: how often it was taken at the seat
--   put_of_all, own_of_all, taken_of_all, jobs_of_all
--                           == how often x was put, taken by the owners, taken by all, and done, over all seats
--   Fresh s                 == nothing was done at the seat
--   New s                   == no job was taken or done at it, and its owner has every part
--   Ready jobs seats        == the jobs below `jobs` are dealt, none is taken, and each seat has a thief for each deque
--   Manned seats            == each seat has a thief for each deque, and each deque has given a part for each
--   Lined k ts seats        == these thieves are those for the deques from place k on
--
-- Source: this project's own.
use Rattle.std.specs.Prelude.{◌≡◌, ℕ, ◌+◌, ◌<◌, false, List, [], All, Vec, map, length, slice_index_or}
use Rattle.std.specs.declared.alloc.Global.{Global}
use Rattle.atomic_blocks.specs.Lent.{RowsId}
use Rattle.crossbeam_deque.specs.Handles.{view, stealer_deque, worker_deque, worker_view}
use Rattle.bs_pool.specs.declared.hand.Hand.{Hand}
use Rattle.bs_pool.specs.declared.thief.Thief.{Thief}
use Rattle.bs_pool.specs.declared.seat.Seat.{Seat}
use Rattle.bs_pool.specs.declared.seat.Member.{Member}
use Rattle.bs_pool.specs.Hands.{times, total, below}

module _ {L : Type 0} where
  abbrev pub local_of : Member L → L
  local_of m = m.local

  abbrev pub seat_of : Member L → Seat
  seat_of m = m.seat

-- ---- the jobs done
abbrev pub job_of : ℕ × Vec ℕ Global → ℕ
job_of e = e.0

abbrev pub IsDone : (ℕ → List ℕ) → ℕ × Vec ℕ Global → Type 0
IsDone answer e = e.1.items ≡ answer e.0

abbrev pub AllDone : (ℕ → List ℕ) → Seat → Type 0
AllDone answer s = All (IsDone answer) s.done.items

abbrev pub jobs_at : Seat → List ℕ
jobs_at s = map job_of s.done.items

-- ---- the deque and the thieves
abbrev pub own : Seat → Hand
own s = worker_view s.deque

abbrev pub deque_of : Seat → RowsId × Global
deque_of s = worker_deque s.deque

abbrev pub crew_of : List Thief → List (RowsId × Global)
crew_of ts = map (λ t. stealer_deque t.taker) ts

abbrev pub carried : ℕ → List Thief → ℕ
carried x ts = total (λ (t : Thief). times x (view t.pass).taken) ts

abbrev pub taken_at : ℕ → Seat → ℕ
taken_at x s = times x (own s).taken + carried x s.thieves.items

-- ---- over all seats
abbrev pub put_of_all : ℕ → List Seat → ℕ
put_of_all x seats = total (λ (s : Seat). times x (own s).put) seats

abbrev pub own_of_all : ℕ → List Seat → ℕ
own_of_all x seats = total (λ (s : Seat). times x (own s).taken) seats

abbrev pub taken_of_all : ℕ → List Seat → ℕ
taken_of_all x seats = total (taken_at x) seats

abbrev pub jobs_of_all : ℕ → List Seat → ℕ
jobs_of_all x seats = total (λ (s : Seat). times x (jobs_at s)) seats

-- ---- before and after the workers
abbrev pub Fresh : Seat → Type 0
Fresh s = s.done.items ≡ []

pub record New (s : Seat) : Type 0 where
  pub done : s.done.items ≡ []
  pub short : s.short ≡ false
  pub parts : (own s).parts ≡ 1024
  pub taken : (own s).taken ≡ []
  pub thieves : s.thieves.items ≡ []

pub record Ready (jobs : ℕ) (seats : List Seat) : Type 0 where
  pub done : All (λ s. s.done.items ≡ []) seats
  pub short : All (λ s. s.short ≡ false) seats
  pub taken : All (λ s. (x : ℕ) → taken_at x s ≡ 0) seats
  pub put : (x : ℕ) → put_of_all x seats ≡ below x jobs
  pub parts : All (λ s. (own s).parts + length seats ≡ 1024) seats
  pub crews : All (λ s. crew_of s.thieves.items ≡ map deque_of seats) seats

pub record Manned (seats : List Seat) : Type 0 where
  pub parts : All (λ s. (own s).parts + length seats ≡ 1024) seats
  pub crews : All (λ s. crew_of s.thieves.items ≡ map deque_of seats) seats

pub record Lined (k : ℕ) (ts : List Thief) (seats : List Seat) : Type 0 where
  pub long : length ts + k ≡ length seats
  pub each : (j : ℕ) (d : Thief) (e : Seat) → j < length ts → stealer_deque (slice_index_or ts j d).taker ≡ deque_of (slice_index_or seats (k + j) e)
