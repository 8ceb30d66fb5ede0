-- What is said of one run: what it read, and what it said on errs.
--
--   ReadsAll old input new               == where a source tells its bytes: the input was all that it had left, and it
--                                           is at its end
--   ReadsAs old new said                 == some input was read so, and `text_of` says this of it
--   IsFlushed written flushed            == where a sink tells its bytes: all that was written is flushed
--   Reports old faults line new faults'  == the sink gained the line and no fault came; or its faults rose, and it
--                                           gained some front of the line
--   IsRun .. allowed old new before after status == what holds of a run of this status, which found the source as `old`
--                                           and left it as `new`, and the sink as `before` and `after`; where the
--                                           words say that the input is to be read, as `allowed`, a status has to come
--   joined texts                         == the texts one after another
--   Answers r said                       == r is the text that is said, in pieces, or the refusal; want of memory is free
--
-- Source: this project; `Rose`, `Adds` and `AddsFront` are those of sources and sinks (bs_io).
use Rattle.std.specs.Prelude.{◌≡◌, ◌≢◌, ℕ, ◌+◌, ◌<◌, ◌≤◌, ◌⊎◌, List, [], length, flat_map, Option, Some, IfSome, Result, Ok, Err, Vec}
use Rattle.std.specs.declared.alloc.Global.{Global}
use Rattle.bs_io.specs.Outside.{Rose, NoFault, TakesExactly, TakesAtMost, Adds, AddsFront}
use Rattle.bs_top.specs.Output.{text_of}
use Rattle.bs_top.specs.declared.run.TheConstants.{INPUT_LIMIT}
use Rattle.bs_top.specs.declared.status.Status.{Status}
use Rattle.bs_top.specs.declared.status.Status.TheVariants as status
use Rattle.bs_script.specs.declared.reason.Reason.{Reason}
use Rattle.bs_script.specs.declared.reason.ScriptFault.{ScriptFault}
use Rattle.bs_script.specs.declared.reason.ScriptFault.TheVariants.{Refused, Memory}

abbrev pub ReadsAll : Option (List ℕ) → List ℕ → Option (List ℕ) → Type 0
ReadsAll old input new = IfSome old (λ told. (told ≡ input) × (new ≡ Some []))

abbrev pub ReadsAs : Option (List ℕ) → Option (List ℕ) → Result (List ℕ) (ℕ × Reason) → Type 0
ReadsAs old new said = (input : List ℕ) × ReadsAll old input new × (text_of input ≡ said)

abbrev pub IsFlushed : Option (List ℕ) → Option ℕ → Type 0
IsFlushed written flushed = IfSome written (λ all. flushed ≡ Some (length all))

abbrev pub Reports : Option (List ℕ) → ℕ → List ℕ → Option (List ℕ) → ℕ → Type 0
Reports old faults line new faults' = (Adds old line new × (faults' ≡ faults)) ⊎ (Rose faults faults' × AddsFront old line new)

pub record IsRun {S K : Type 0} (left : S → Option (List ℕ)) (faults : S → ℕ) (written : K → Option (List ℕ)) (flushed : K → Option ℕ) (sink_faults : K → ℕ) (allowed : Type 0) (old new : S) (before after : K) (ended : Status) : Type 0 where
  -- what each status says of the bytes that were read and written
  pub done : ended ≡ status.Done → (text : List ℕ) × ReadsAs (left old) (left new) (Ok text) × Adds (written before) text (written after)
  pub done_flushed : ended ≡ status.Done → IsFlushed (written after) (flushed after)
  pub refused : (line : ℕ) (reason : Reason) → ended ≡ status.Refused line reason → ReadsAs (left old) (left new) (Err (line, reason))
  pub write_fault_front : ended ≡ status.WriteFault → (text : List ℕ) × ReadsAs (left old) (left new) (Ok text) × AddsFront (written before) text (written after)
  pub write_fault_unflushed : ended ≡ status.WriteFault → flushed after ≡ flushed before
  pub too_long : ended ≡ status.TooLong → TakesExactly (left old) (INPUT_LIMIT + 1) (left new)
  pub within_limit : ended ≢ status.TooLong → TakesAtMost (left old) INPUT_LIMIT (left new)
  pub unwritten : (ended ≡ status.Done) ⊎ (ended ≡ status.WriteFault) ⊎ (after ≡ before)
  -- no fault is swallowed
  pub read_fault : ended ≡ status.ReadFault → Rose (faults old) (faults new)
  pub read_calm : ended ≢ status.ReadFault → faults new ≡ faults old
  pub write_fault : ended ≡ status.WriteFault → Rose (sink_faults before) (sink_faults after)
  pub write_calm : ended ≢ status.WriteFault → sink_faults after ≡ sink_faults before
  -- which status comes where no fault does; want of memory alone is free
  pub complete : (input text : List ℕ) → allowed → left old ≡ Some input → length input ≤ INPUT_LIMIT → text_of input ≡ Ok text → NoFault (faults old) (faults new) → NoFault (sink_faults before) (sink_faults after) → (ended ≡ status.Done) ⊎ (ended ≡ status.NoMemory)
  pub refuses : (input : List ℕ) (line : ℕ) (reason : Reason) → allowed → left old ≡ Some input → length input ≤ INPUT_LIMIT → text_of input ≡ Err (line, reason) → NoFault (faults old) (faults new) → (ended ≡ status.Refused line reason) ⊎ (ended ≡ status.NoMemory)
  pub overlong : (input : List ℕ) → allowed → left old ≡ Some input → INPUT_LIMIT < length input → NoFault (faults old) (faults new) → (ended ≡ status.TooLong) ⊎ (ended ≡ status.NoMemory)

abbrev pub Fails : ScriptFault → Result (List ℕ) (ℕ × Reason) → Type 0
Fails (Refused line reason) said = said ≡ Err (line, reason)
Fails (Memory cause) said = Unit {0}

abbrev pub joined : List (Vec ℕ Global) → List ℕ
joined texts = flat_map (λ text. text.items) texts

abbrev pub Answers : Result (Vec (Vec ℕ Global) Global) ScriptFault → Result (List ℕ) (ℕ × Reason) → Type 0
Answers (Ok texts) said = said ≡ Ok (joined texts.items)
Answers (Err fault) said = Fails fault said
