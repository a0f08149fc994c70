-- The calls on a file, an input and an output, each with its answer.
use Rattle.std.specs.Prelude.{ℕ, Bool, List}

pub data Event : Type 0 where
  -- a file was read at a place: whether that succeeded, and the bytes that came
  read : (place : ℕ) (done : Bool) (bytes : List ℕ) → Event
  -- a file was written at a place: whether that succeeded, and the bytes that it was given
  wrote : (place : ℕ) (done : Bool) (bytes : List ℕ) → Event
  -- a file was synced: whether that succeeded
  synced : (done : Bool) → Event
  -- an input gave these bytes into a buffer with so much room
  gave : (room : ℕ) (bytes : List ℕ) → Event
  -- an output took these bytes
  took : (bytes : List ℕ) → Event
