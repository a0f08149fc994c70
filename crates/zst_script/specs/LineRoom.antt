-- What the room for a line holds.
use Rattle.std.specs.Prelude.{ℕ, ◌≡◌, List, [], ◌++◌, length, slice_range, IsTrue, Result, Ok, Err, OnOk}
use Rattle.zst_outside.specs.Causes.{HasCause}
use Rattle.zst_outside.specs.States.{SourceState, Gave}
use Rattle.zst_script.specs.declared.line_room.LineRoom.{LineRoom}
use Rattle.zst_script.specs.declared.line_room.Span.{Span}

-- its bytes, the oldest first
abbrev pub items : LineRoom → List ℕ
items room = slice_range room.bytes.items room.start room.end

-- the bytes at these places
abbrev pub bytes_in : LineRoom → Span → List ℕ
bytes_in room span = slice_range room.bytes.items span.from span.to

-- how many bytes were got, none only at the end of the input; a fault gives none
abbrev pub ToldOf : {E : Type 0} → SourceState → List ℕ → Result ℕ E → Type 0
ToldOf input' got (Ok count) = (length got ≡ count) × (count ≡ 0 → IsTrue input'.ended)
ToldOf input' got (Err fault) = got ≡ []

-- what an input gave was added to what was held
pub record Takes {E : Type 0} (input input' : SourceState) (old new : List ℕ) (result : Result ℕ E) : Type 0 where
  pub got : List ℕ
  pub consumed : Gave input input' got
  pub grown : new ≡ old ++ got
  pub told : ToldOf input' got result
  pub stays : OnOk result (input'.faults ≡ input.faults)
  pub cause : HasCause input.faults input'.faults result
