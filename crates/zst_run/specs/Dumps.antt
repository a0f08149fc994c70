-- What a dump writes, and why it ends.
use Rattle.std.specs.Prelude.{ℕ, ◌≡◌, ◌+◌, ◌-◌, ◌^◌, ◌<◌, ◌≤◌, List, [], ◌++◌, length, take, IsTrue, Result, Ok, Err}
use Rattle.zst_outside.specs.Causes.{Rose}
use Rattle.zst_outside.specs.States.{SourceState, SinkState, Gave, HandedOn}
use Rattle.zst_outside.specs.Printing.{Wrote, Printed}
use Rattle.zst_model.specs.declared.refusals.faults.Quantity.TheVariants.{Stream}
use Rattle.zst_model.specs.declared.refusals.refusal.Refusal.{Refusal}
use Rattle.zst_model.specs.declared.refusals.refusal.Refusal.TheVariants as refusals
use Rattle.zst_record.specs.Heads.{Covered}
use Rattle.zst_model.specs.declared.refusals.stream_fault.StreamFault.TheVariants as faults
use Rattle.zst_stream.specs.Reading.{Reading, Outcome, waiting, faulty, complete, reading}
use Rattle.zst_reader.specs.InputReads.{stream_limit}
use Rattle.zst_dump.specs.RecordLines.{lines_of}
use Rattle.zst_dump.specs.Summary.{counts_of, summary_text}

-- the two last lines stand only after END
abbrev pub ending_of : Outcome → List Covered → List ℕ
ending_of complete cs = summary_text (counts_of cs)
ending_of waiting cs = []
ending_of (faulty fault) cs = []

-- the text of a dump: a line for each covered record, and after END the two last lines
abbrev pub dump_text : Reading → List ℕ
dump_text r = lines_of r.covered ++ ending_of r.outcome r.covered

-- all of the dump of a text was written and handed on, and no fault of the output was counted
abbrev pub WroteAll : List ℕ → SinkState → SinkState → Type 0
WroteAll text out out' = Printed out out' (dump_text (reading text)) × HandedOn out'

-- no fault of the input was counted
abbrev pub NoFault : SourceState → SourceState → Type 0
NoFault input input' = input'.faults ≡ input.faults

-- E23: so many bytes as a stream may have are there without END and without a fault, and one byte more came
pub record PastLimit (text : List ℕ) (out out' : SinkState) : Type 0 where
  pub longer : length text ≡ stream_limit + 1
  pub waits : (reading (take stream_limit text)).outcome ≡ waiting
  pub all : WroteAll (take stream_limit text) out out'

-- Why the dump of a text ended, and that it was written up to there. Where the output failed, a front was taken, and the last
-- `waiting` bytes of that front weren't handed on: these are lost.
abbrev pub Ends : List ℕ → SourceState → SourceState → SinkState → SinkState → Result (Unit {0}) Refusal → Type 0
Ends text input input' out out' (Ok done) = ((reading text).outcome ≡ complete) × NoFault input input' × WroteAll text out out'
Ends text input input' out out' (Err (refusals.Stream (faults.Truncated at))) =
    ((reading text).outcome ≡ waiting) × (at ≡ length text) × IsTrue input'.ended × NoFault input input' × WroteAll text out out'
Ends text input input' out out' (Err (refusals.Stream fault)) = ((reading text).outcome ≡ faulty fault) × NoFault input input' × WroteAll text out out'
Ends text input input' out out' (Err (refusals.Limit which number)) = (which ≡ Stream) × (number ≡ stream_limit) × NoFault input input' × PastLimit text out out'
Ends text input input' out out' (Err refusals.SourceFault) = ((reading text).outcome ≡ waiting) × Rose input.faults input'.faults × WroteAll text out out'
Ends text input input' out out' (Err refusals.SinkFault) = NoFault input input' × Rose out.faults out'.faults
Ends text input input' out out' (Err refusals.OutOfMemory) = (input' ≡ input) × (out' ≡ out)
Ends text input input' out out' (Err other) = ⊥

-- a text past the limit is refused for that
abbrev pub IsWithin : List ℕ → Result (Unit {0}) Refusal → Type 0
IsWithin text (Err (refusals.Limit which number)) = Unit {0}
IsWithin text result = length text ≤ stream_limit

-- This text was read of the input, and a front of its dump was written.
pub record Dumps (input input' : SourceState) (out out' : SinkState) (result : Result (Unit {0}) Refusal) : Type 0 where
  pub text : List ℕ
  pub consumed : Gave input input' text
  pub front : (rest : List ℕ) × Wrote out out' (dump_text (reading text)) rest
  pub ends : Ends text input input' out out' result
  pub within : IsWithin text result
  pub later : input.faults ≤ input'.faults

-- it isn't want of memory that is answered
abbrev pub HadMemory : Result (Unit {0}) Refusal → Type 0
HadMemory result = result ≡ Err refusals.OutOfMemory → ⊥

-- The ends of a dump exclude one another: of what the input and the output were and became there is one answer, want of
-- memory aside, where the counts of faults weren't at their last value.
abbrev pub HasOneAnswer : Type 0
HasOneAnswer =
    (input input' : SourceState) (out out' : SinkState) (one other : Result (Unit {0}) Refusal)
    → input.faults < 2 ^ 64 - 1 → out.faults < 2 ^ 64 - 1 → HadMemory one → HadMemory other
    → Dumps input input' out out' one → Dumps input input' out out' other → one ≡ other
