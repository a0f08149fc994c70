-- What an output shows.
use Rattle.std.specs.Prelude.{◌≡◌, ◌<◌, ℕ, List, ◌++◌, length, Option, Result, IfOk, OnOk}
use Rattle.std.specs.Io.{WritesAtMost}
use Rattle.std.specs.Io.KnownBytes.{append_known, Keeps, WriteAppends}
use Rattle.zst_outside.specs.Causes.{HasCause}
use Rattle.zst_outside.specs.States.{SinkState, HandedOn, TakesFront}
use Rattle.zst_file.specs.Streams.{text_of}
use Rattle.zst_file.specs.declared.output.Output.{Output}

-- what it took so far: what its calls handed on, and then what waits in its buffer
abbrev pub output_state : {W : Type 0} → Output W → SinkState
output_state it = record { written = text_of it.pipe.log.events ++ it.buffer.items; waiting = length it.buffer.items; faults = it.pipe.faults }

-- the writer under it
abbrev pub writer_of : {W : Type 0} → Output W → W
writer_of it = it.pipe.inner

-- the bytes that the writer holds, where it tells, and then those that wait
abbrev pub held_by : {W : Type 0} → (W → Option (List ℕ)) → Output W → Option (List ℕ)
held_by contents it = append_known (contents it.pipe.inner) it.buffer.items

-- A call of an output: a front of the bytes was taken, some of them where there are any, and the writer was given the same, or a fault
-- was counted.
pub record TakesSome {W E : Type 0} (contents : W → Option (List ℕ)) (old new : Output W) (from : List ℕ) (result : Result ℕ E) : Type 0 where
  pub bound : WritesAtMost result from
  pub some : IfOk result (λ n. 0 < length from → 0 < n)
  pub bytes : TakesFront (output_state old) (output_state new) result from
  pub count_stays : OnOk result ((output_state new).faults ≡ (output_state old).faults)
  pub cause : HasCause (output_state old).faults (output_state new).faults result
  -- a writer that tells what it holds was given the same
  pub writer : WriteAppends (held_by contents old) (held_by contents new) result from

-- all that waited was handed on, or a fault was counted; no byte was lost or came
pub record Empties {W T E : Type 0} (contents : W → Option (List ℕ)) (old new : Output W) (result : Result T E) : Type 0 where
  pub written : (output_state new).written ≡ (output_state old).written
  pub flushed : OnOk result (HandedOn (output_state new))
  pub count_stays : OnOk result ((output_state new).faults ≡ (output_state old).faults)
  pub cause : HasCause (output_state old).faults (output_state new).faults result
  pub writer : Keeps (held_by contents old) (held_by contents new)
