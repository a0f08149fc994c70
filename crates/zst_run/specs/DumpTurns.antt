-- A dump that is under way.
use Rattle.std.specs.Prelude.{ℕ, ◌≡◌, ◌⊎◌, ◌+◌, ◌<◌, ◌≤◌, List, [], ◌∷◌, length, IsTrue, Option, None, Some, Result, Ok, Err}
use Rattle.zst_outside.specs.Causes.{Rose}
use Rattle.zst_outside.specs.States.{SourceState, SinkState, Gave}
use Rattle.zst_outside.specs.Printing.{Printed}
use Rattle.zst_model.specs.declared.refusals.faults.Quantity.TheVariants.{Stream}
use Rattle.zst_model.specs.declared.refusals.refusal.Refusal.{Refusal}
use Rattle.zst_model.specs.declared.refusals.refusal.Refusal.TheVariants as refusals
use Rattle.zst_model.specs.declared.refusals.stream_fault.StreamFault.TheVariants.{Truncated}
use Rattle.zst_record.specs.Heads.{Covered}
use Rattle.zst_reader.specs.InputReads.{Pushes, stream_limit}
use Rattle.zst_reader.specs.StandsFor.{StandsFor, pushed_of, handed_of}
use Rattle.zst_reader.specs.declared.reader.Reader.{Reader}
use Rattle.zst_dump.specs.RecordLines.{lines_of}
use Rattle.zst_dump.specs.Summary.{counts_of}
use Rattle.zst_dump.specs.declared.counts.Counts.{Counts}
use Rattle.zst_run.specs.Dumps.{Dumps, NoFault}

-- This text was pushed, the lines of the covered records so far are written, and no fault was counted.
pub record Dumping (input input' : SourceState) (out out' : SinkState) (r : Reader) (c : Counts) : Type 0 where
  pub text : List ℕ
  pub handed : List Covered
  pub stands : StandsFor r text handed
  pub consumed : Gave input input' text
  pub kept : NoFault input input'
  pub printed : Printed out out' (lines_of handed)
  pub counted : c ≡ counts_of handed

-- each turn hands out a record or pushes bytes
abbrev pub progress_of : Reader → ℕ
progress_of r = pushed_of r + handed_of r

-- The dump goes on, or it ended.
abbrev pub Turned : (input input' : SourceState) → (out out' : SinkState) → (old new : Reader) → Counts → Option (Result (Unit {0}) Refusal) → Type 0
Turned input input' out out' old new c None = Dumping input input' out out' new c × (progress_of old < progress_of new)
Turned input input' out out' old new c (Some result) = Dumps input input' out out' result

-- ---- more of the input

-- more was read and pushed
pub record TookMore (input input' : SourceState) (old new : Reader) : Type 0 where
  pub got : List ℕ
  pub some : 0 < length got
  pub consumed : Gave input input' got
  pub pushes : Pushes old new got
  pub kept : NoFault input input'

-- E20: the input ended after so many bytes
pub record IsAtEnd (input input' : SourceState) (count : ℕ) (refusal : Refusal) : Type 0 where
  pub is : refusal ≡ refusals.Stream (Truncated count)
  pub none : Gave input input' []
  pub ended : IsTrue input'.ended
  pub kept : NoFault input input'

-- E29: the input failed
pub record IsFailed (input input' : SourceState) (refusal : Refusal) : Type 0 where
  pub is : refusal ≡ refusals.SourceFault
  pub none : Gave input input' []
  pub later : input.faults ≤ input'.faults
  pub rose : Rose input.faults input'.faults

-- E23: after as many bytes as a stream may have came one more
pub record IsTooLong (input input' : SourceState) (count : ℕ) (refusal : Refusal) : Type 0 where
  pub is : refusal ≡ refusals.Limit Stream stream_limit
  pub full : count ≡ stream_limit
  pub byte : ℕ
  pub one : Gave input input' (byte ∷ [])
  pub kept : NoFault input input'

-- why no more of the input is taken after so many bytes
abbrev pub IsLast : (input input' : SourceState) → ℕ → Refusal → Type 0
IsLast input input' count refusal = IsAtEnd input input' count refusal ⊎ (IsFailed input input' refusal ⊎ IsTooLong input input' count refusal)

abbrev pub TakesMore : (input input' : SourceState) → (old new : Reader) → Result (Unit {0}) Refusal → Type 0
TakesMore input input' old new (Ok done) = TookMore input input' old new
TakesMore input input' old new (Err refusal) = IsLast input input' (pushed_of old) refusal
