-- What a window holds.
use Rattle.std.specs.Prelude.{ℕ, ◌≡◌, List, [], ◌++◌, length, slice_range, IsTrue, Result, Ok, Err, OnOk}
use Rattle.zst_outside.specs.Causes.{HasCause}
use Rattle.zst_outside.specs.States.{SourceState, Gave}
use Rattle.zst_reader.specs.declared.window.Window.{Window}

-- its bytes, the oldest first
abbrev pub items : Window → List ℕ
items w = slice_range w.bytes.items w.start w.end

-- how many bytes were got, none only at the end of the input; a fault gives none
abbrev pub ToldOf : {E : Type 0} → SourceState → List ℕ → Result ℕ E → Type 0
ToldOf input' got (Ok count) = (length got ≡ count) × (count ≡ 0 → IsTrue input'.ended)
ToldOf input' got (Err fault) = got ≡ []

-- what an input gave was added to what was held
pub record Takes {E : Type 0} (input input' : SourceState) (old new : List ℕ) (result : Result ℕ E) : Type 0 where
  pub got : List ℕ
  pub consumed : Gave input input' got
  pub grown : new ≡ old ++ got
  pub told : ToldOf input' got result
  pub stays : OnOk result (input'.faults ≡ input.faults)
  pub cause : HasCause input.faults input'.faults result
