-- An output in memory, as its contracts see it.
use Rattle.std.specs.Prelude.{ℕ, List, ◌++◌}
use Rattle.zst_outside.specs.States.{SinkState}
use Rattle.zst_outside.specs.Schedule.{Schedule, after_done}
use Rattle.zst_outside.specs.declared.mem_sink.MemSink.{MemSink}

pub record Output : Type 0 where
  -- the bytes that were written
  pub written : List ℕ
  -- the most that a call takes
  pub piece : ℕ
  pub schedule : Schedule

abbrev pub output_of : MemSink → Output
output_of s = record { written = s.bytes.items; piece = s.piece; schedule = s.plan }

-- after a call that took these bytes
abbrev pub after_taking : List ℕ → Output → Output
after_taking bytes o = record o { written = o.written ++ bytes; schedule = after_done o.schedule }

-- it keeps what it took, so that nothing waits
abbrev pub sink_state : MemSink → SinkState
sink_state s = record { written = s.bytes.items; waiting = 0; faults = s.plan.faults }
