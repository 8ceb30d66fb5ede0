-- What is said of one run that makes its input from a seed and reads none.
--
--   Summarizes seed summary              == the made input of the seed is a script, and this is the summary of its text
--   IsMade .. allowed seed before after status == what holds of a run of this status, which found the sink as `before`
--                                           and left it as `after`; where the words are in the usage, as `allowed`, a
--                                           status has to come
--
-- Source: this project; the made input and its summary are those of bs_make, `Rose`, `Adds` and `AddsFront` those of
-- sinks (bs_io).
use Rattle.std.specs.Prelude.{◌≡◌, ◌≢◌, ℕ, ◌⊎◌, List, Option, Ok}
use Rattle.bs_io.specs.Outside.{Rose, NoFault, Adds, AddsFront}
use Rattle.bs_make.specs.Made.{made_text}
use Rattle.bs_make.specs.Summary.{summary_text}
use Rattle.bs_top.specs.Output.{text_of}
use Rattle.bs_top.specs.Run.{IsFlushed}
use Rattle.bs_top.specs.declared.status.Status.{Status}
use Rattle.bs_top.specs.declared.status.Status.TheVariants as status

abbrev pub Summarizes : ℕ → List ℕ → Type 0
Summarizes seed summary =
    (text : List ℕ) × (text_of (made_text seed) ≡ Ok text) × (summary ≡ summary_text seed (made_text seed) text)

pub record IsMade {K : Type 0} (written : K → Option (List ℕ)) (flushed : K → Option ℕ) (sink_faults : K → ℕ) (allowed : Type 0) (seed : ℕ) (before after : K) (ended : Status) : Type 0 where
  -- what each status says of the bytes that were written
  pub done : ended ≡ status.Done → (summary : List ℕ) × Summarizes seed summary × Adds (written before) summary (written after)
  pub done_flushed : ended ≡ status.Done → IsFlushed (written after) (flushed after)
  pub write_fault_front : ended ≡ status.WriteFault → (summary : List ℕ) × Summarizes seed summary × AddsFront (written before) summary (written after)
  pub write_fault_unflushed : ended ≡ status.WriteFault → flushed after ≡ flushed before
  pub unwritten : (ended ≡ status.Done) ⊎ (ended ≡ status.WriteFault) ⊎ (after ≡ before)
  -- no fault is swallowed
  pub write_fault : ended ≡ status.WriteFault → Rose (sink_faults before) (sink_faults after)
  pub write_calm : ended ≢ status.WriteFault → sink_faults after ≡ sink_faults before
  -- which status comes; want of memory alone is free
  pub complete : allowed → NoFault (sink_faults before) (sink_faults after) → (ended ≡ status.Done) ⊎ (ended ≡ status.NoMemory)
  pub others : allowed → (ended ≡ status.Done) ⊎ (ended ≡ status.WriteFault) ⊎ (ended ≡ status.NoMemory)
