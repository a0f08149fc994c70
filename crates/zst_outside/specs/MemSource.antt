-- An input in memory, as its contracts see it.
use Rattle.std.specs.Prelude.{ℕ, List, take, drop, length, nat_le}
use Rattle.zst_outside.specs.States.{SourceState}
use Rattle.zst_outside.specs.Schedule.{Schedule, after_done}
use Rattle.zst_outside.specs.declared.mem_source.MemSource.{MemSource}

pub record Input : Type 0 where
  -- the bytes that are left
  pub left : List ℕ
  -- the most that a call gives
  pub piece : ℕ
  pub schedule : Schedule

abbrev pub input_of : MemSource → Input
input_of s = record { left = drop s.place s.bytes.items; piece = s.piece; schedule = s.plan }

-- after a call that gave so many bytes
abbrev pub after_giving : ℕ → Input → Input
after_giving count i = record i { left = drop count i.left; schedule = after_done i.schedule }

-- what it gave is the front of its bytes
abbrev pub source_state : MemSource → SourceState
source_state s = record { given = take s.place s.bytes.items; ended = nat_le (length s.bytes.items) s.place; faults = s.plan.faults }
