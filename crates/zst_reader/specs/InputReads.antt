-- What reading more of an input does to a reader.
use Rattle.std.specs.Prelude.{ℕ, ◌+◌, ◌^◌, ◌≡◌, List, ◌++◌, length, min, take, Result, OnOk}
use Rattle.zst_outside.specs.Causes.{HasCause}
use Rattle.zst_outside.specs.States.{SourceState, Gave}
use Rattle.zst_record.specs.Heads.{Covered}
use Rattle.zst_reader.specs.Window.{ToldOf}
use Rattle.zst_reader.specs.StandsFor.{StandsFor, pushed_of, handed_of, mark_of, room_of}
use Rattle.zst_reader.specs.declared.reader.Reader.{Reader}

-- a stream has at most so many bytes
abbrev pub stream_limit : ℕ
stream_limit = 2 ^ 62

-- these bytes were pushed, and nothing was handed out
pub record Pushes (old new : Reader) (bytes : List ℕ) : Type 0 where
  pub pushed : pushed_of new ≡ pushed_of old + length bytes
  pub handed : handed_of new ≡ handed_of old
  pub mark : mark_of new ≡ mark_of old
  pub stands : (text : List ℕ) (handed : List Covered) → StandsFor old text handed → StandsFor new (text ++ bytes) handed

-- so many bytes of a piece were pushed, which are all of it or fill the reader, and nothing was handed out
pub record PushesFront (old new : Reader) (piece : List ℕ) (taken : ℕ) : Type 0 where
  pub count : taken ≡ min (length piece) (room_of old)
  pub pushed : pushed_of new ≡ pushed_of old + taken
  pub handed : handed_of new ≡ handed_of old
  pub mark : mark_of new ≡ mark_of old
  pub stands : (text : List ℕ) (handed : List Covered) → StandsFor old text handed → StandsFor new (text ++ take taken piece) handed

-- The bytes that the input gave were pushed, as many as are told: none only at its end, or where it failed.
pub record Fills {E : Type 0} (input input' : SourceState) (old new : Reader) (result : Result ℕ E) : Type 0 where
  pub got : List ℕ
  pub consumed : Gave input input' got
  pub pushes : Pushes old new got
  pub told : ToldOf input' got result
  pub stays : OnOk result (input'.faults ≡ input.faults)
  pub cause : HasCause input.faults input'.faults result
