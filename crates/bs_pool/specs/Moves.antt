-- How a seat changes while its worker is at work, and before and after that.
--
--   Both R xs ys     == two lists are as long, and R holds of what stands at each place
--   Stays            == the worker's number, which deque, its parts, what was put into it, and from which deques the thieves take: all as before
--   Took got         == the jobs `got` were taken, and none was done
--   Did job          == one job was done, or there was no memory
--   Grown            == what was taken was done, each job as often, unless there was no memory
--   Ended            == and there is nothing left to take
--   Beside           == all but what the owner knows of its deque stays
--   Put job          == a job is put into the deque
--   Parted t, Gave   == the thief t, or some thief, got a part of the deque
--   Rejoined t, Got  == the thief t, or some thief, brought its part back, with what it took
--   Home k           == the thieves of the first k seats are back
--
-- Source: this project's own.
-- While workers run, each changes its own seat, by `Grown`. Sums over all seats are made once, at the end.
use Rattle.std.specs.Prelude.{◌≡◌, ℕ, ◌+◌, ◌-◌, ◌⊎◌, true, false, List, [], ◌∷◌, ◌++◌, map, length, ◌<◌, ◌≤◌, slice_index_or}
use Rattle.crossbeam_deque.specs.Handles.{view, stealer_deque, worker_deque}
use Rattle.bs_pool.specs.declared.thief.Thief.{Thief}
use Rattle.bs_pool.specs.declared.seat.Seat.{Seat}
use Rattle.bs_pool.specs.Hands.{hand, times, Spent}
use Rattle.bs_pool.specs.Seats.{jobs_at, own, deque_of, crew_of, taken_at, taken_of_all}

abbrev pub Both : {A : Type 0} → (A → A → Type 0) → List A → List A → Type 0
Both {A} R xs ys = (length ys ≡ length xs) × ((i : ℕ) (d : A) → i < length xs → R (slice_index_or xs i d) (slice_index_or ys i d))

-- ---- at work
pub record Stays (old new : Seat) : Type 0 where
  pub worker : new.worker ≡ old.worker
  pub deque : worker_deque new.deque ≡ worker_deque old.deque
  pub parts : (own new).parts ≡ (own old).parts
  pub put : (own new).put ≡ (own old).put
  pub crew : crew_of new.thieves.items ≡ crew_of old.thieves.items

pub record Took (got : List ℕ) (old new : Seat) : Type 0 where
  pub stays : Stays old new
  pub done : new.done ≡ old.done
  pub short : new.short ≡ old.short
  pub taken : (x : ℕ) → taken_at x new ≡ taken_at x old + times x got

pub record Did (job : ℕ) (old new : Seat) : Type 0 where
  pub worker : new.worker ≡ old.worker
  pub deque : new.deque ≡ old.deque
  pub thieves : new.thieves ≡ old.thieves
  pub done : (new.short ≡ true) ⊎ ((new.short ≡ old.short) × (jobs_at new ≡ jobs_at old ++ job ∷ []))

pub record Grown (old new : Seat) : Type 0 where
  pub stays : Stays old new
  pub sound : new.short ≡ false → (old.short ≡ false) × ((x : ℕ) → times x (jobs_at new) + taken_at x old ≡ times x (jobs_at old) + taken_at x new)

pub record Ended (old new : Seat) : Type 0 where
  pub grown : Grown old new
  pub spent : new.short ≡ false → Spent (own new)

-- ---- before: the jobs are dealt, and each thief gets its part
pub record Beside (old new : Seat) : Type 0 where
  pub deque : deque_of new ≡ deque_of old
  pub thieves : new.thieves ≡ old.thieves
  pub done : new.done ≡ old.done
  pub short : new.short ≡ old.short

pub record Put (job : ℕ) (old new : Seat) : Type 0 where
  pub beside : Beside old new
  pub now : own new ≡ hand (own old).parts ((own old).put ++ job ∷ []) (own old).taken

pub record Parted (t : Thief) (old new : Seat) : Type 0 where
  pub beside : Beside old new
  pub now : own new ≡ hand ((own old).parts - 1) (own old).put (own old).taken
  pub of_it : stealer_deque t.taker ≡ deque_of old
  pub none : (view t.pass).taken ≡ []

pub record Gave (old new : Seat) : Type 0 where
  pub beside : Beside old new
  pub now : own new ≡ hand ((own old).parts - 1) (own old).put (own old).taken

-- ---- after: each thief brings its part back
pub record Rejoined (t : Thief) (old new : Seat) : Type 0 where
  pub beside : Beside old new
  pub now : own new ≡ hand ((own old).parts + 1) (own old).put ((own old).taken ++ (view t.pass).taken)

pub record Got (old new : Seat) : Type 0 where
  pub beside : Beside old new
  pub parts : (own new).parts ≡ (own old).parts + 1
  pub put : (own new).put ≡ (own old).put

pub record Home (k : ℕ) (old now : List Seat) : Type 0 where
  pub long : length now ≡ length old
  pub done : (j : ℕ) (d : Seat) → j < length old → (slice_index_or now j d).done ≡ (slice_index_or old j d).done
  pub short : (j : ℕ) (d : Seat) → j < length old → (slice_index_or now j d).short ≡ (slice_index_or old j d).short
  pub put : (j : ℕ) (d : Seat) → j < length old → (own (slice_index_or now j d)).put ≡ (own (slice_index_or old j d)).put
  pub parts : (j : ℕ) (d : Seat) → j < length old → (own (slice_index_or now j d)).parts + length old ≡ 1024 + k
  pub deques : map deque_of now ≡ map deque_of old
  pub empty : (j : ℕ) (d : Seat) → j < length old → j < k → (slice_index_or now j d).thieves.items ≡ []
  pub crews : (j : ℕ) (d : Seat) → j < length old → k ≤ j → crew_of (slice_index_or now j d).thieves.items ≡ map deque_of old
  pub taken : (x : ℕ) → taken_of_all x now ≡ taken_of_all x old
