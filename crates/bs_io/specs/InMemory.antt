-- A source and a sink in memory, as contracts see them, and what a call of each does.
--
--   Reading                  == a source: the bytes left, the most that a call gives, the numbers of the calls that fail,
--                               and how many calls and faults there were so far
--   ReadFails s              == the next read fails: its number, from 1, is listed
--   read_count s size        == how many bytes the next read gives, into a buffer of this size
--   after_read s n           == the source after a read of n bytes
--   after_read_fault s       == the source after a read that failed
--
--   Writing                  == a sink: the bytes written, how many it has room for, the most that a call takes, the
--                               numbers of the writes that fail, how many writes there were so far, the length at the
--                               last flush, whether each flush fails, and how many faults there were so far
--   WriteFails s piece       == the next write of this piece fails: its number is listed, or the sink is full and the
--                               piece isn't empty
--   write_count s size       == how many bytes the next write takes, of a piece of this size
--   after_write s taken      == the sink after a write that took these bytes
--   after_write_fault s      == the sink after a write that failed
--   after_flush_fault s      == the sink after a flush that failed
--
-- Source: this project.
-- The code keeps the bytes of a source whole, with the place that was reached.
use Rattle.std.specs.Prelude.{◌≡◌, ℕ, ◌-◌, ◌<◌, ◌⊎◌, min, Bool, List, ◌++◌, length, drop, Contains}
use Rattle.bs_io.specs.Outside.{one_more}

pub record Reading : Type 0 where
  pub left : List ℕ
  pub step : ℕ
  pub fails : List ℕ
  pub calls : ℕ
  pub faults : ℕ

abbrev pub ReadFails : Reading → Type 0
ReadFails s = Contains s.fails (one_more s.calls)

abbrev pub read_count : Reading → ℕ → ℕ
read_count s size = min (min s.step size) (length s.left)

abbrev pub after_read : Reading → ℕ → Reading
after_read s n = record s { left = drop n s.left; calls = one_more s.calls }

abbrev pub after_read_fault : Reading → Reading
after_read_fault s = record s { calls = one_more s.calls; faults = one_more s.faults }

pub record Writing : Type 0 where
  pub bytes : List ℕ
  pub room : ℕ
  pub step : ℕ
  pub fails : List ℕ
  pub calls : ℕ
  pub flushed : ℕ
  pub cannot_flush : Bool
  pub faults : ℕ

abbrev pub WriteFails : Writing → List ℕ → Type 0
WriteFails s piece = Contains s.fails (one_more s.calls) ⊎ ((length s.bytes ≡ s.room) × (0 < length piece))

abbrev pub write_count : Writing → ℕ → ℕ
write_count s size = min (min s.step size) (s.room - length s.bytes)

abbrev pub after_write : Writing → List ℕ → Writing
after_write s taken = record s { bytes = s.bytes ++ taken; calls = one_more s.calls }

abbrev pub after_write_fault : Writing → Writing
after_write_fault s = record s { calls = one_more s.calls; faults = one_more s.faults }

abbrev pub after_flush_fault : Writing → Writing
after_flush_fault s = record s { faults = one_more s.faults }
