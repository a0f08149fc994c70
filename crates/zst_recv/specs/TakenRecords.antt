-- What a feed takes of a stream.
use Rattle.std.specs.Prelude.{◌≡◌, ◌⊎◌, ◌+◌, ◌^◌, ◌<◌, ◌++◌, ℕ, Bool, true, false, if◌then◌else◌, List, [], ◌∷◌, length, Option, Some, None, Result, Ok, Err}
use Rattle.zst_model.specs.declared.refusals.refusal.Refusal.{Refusal}
use Rattle.zst_model.specs.pools.Pool.{Partial, Pool}
use Rattle.zst_plan.specs.declared.receive.RecvAsk.{RecvAsk}
use Rattle.zst_pool.specs.Faults.{pool_refusal}
use Rattle.zst_pool.specs.declared.fault.PoolFault.{PoolFault}
use Rattle.zst_pool.specs.declared.fault.PoolFault.TheVariants as pools
use Rattle.zst_reader.specs.StandsFor.{StandsFor, HandsOut}
use Rattle.zst_reader.specs.declared.reader.Reader.{Reader}
use Rattle.zst_record.specs.RecordValues.{Fits}
use Rattle.zst_record.specs.Formats.{to_end}
use Rattle.zst_record.specs.Heads.{Covered, payload_len}
use Rattle.zst_record.specs.declared.head.Head.{Head}
use Rattle.zst_record.specs.declared.head.Head.TheVariants as heads
use Rattle.zst_stream.specs.PassedRecords.{StatesHeader, bare_head}
use Rattle.zst_stream.specs.Reading.{Outcome, waiting, faulty, complete, reading}
use Rattle.zst_recv.specs.Faults.{recv_refusal, stop_at}
use Rattle.zst_recv.specs.Feeds.{fault_of, new_records}
use Rattle.zst_recv.specs.ReceiveSteps.{EndedBatch, Batch, batch_of, first_fault, taken}
use Rattle.zst_recv.specs.Stages.{StandsBehind, is_live}
use Rattle.zst_recv.specs.declared.fault.RecvFault.{RecvFault}
use Rattle.zst_recv.specs.declared.fault.RecvFault.TheVariants as faults
use Rattle.zst_recv.specs.declared.stage.Stage as coded

-- a record that passed its checks, in a stream of some features: the header of a BEGIN can be stated
pub record IsRead (c : Covered) : Type 0 where
  pub features : ℕ
  pub fits : Fits features (bare_head c.head)
  pub payload : length c.payload ≡ payload_len c.head
  pub stated : StatesHeader c.head

-- the range of bytes that a record says ends within 64 bits, or goes to the object's end
abbrev pub EndFits : Head → Type 0
EndFits (heads.Write object kind offset count to) = offset + count < 2 ^ 64
EndFits (heads.Free object offset count to) = (count ≡ to_end) ⊎ (offset + count < 2 ^ 64)
EndFits (heads.Redact object offset count to) = offset + count < 2 ^ 64
EndFits head = Unit {0}

-- why a record isn't taken, where the pool was at rest: as the definition refuses it; or the disk is full or failed; nothing is damaged
abbrev pub StopFault : {A : Type 0} → Result A Refusal → PoolFault → Type 0
StopFault definition (pools.Plan fault) = definition ≡ Err (pool_refusal (pools.Plan fault))
StopFault definition (pools.CannotApply fault) = ⊥
StopFault definition (pools.Redacted object block) = ⊥
StopFault definition (pools.Full need largest) = Unit {0}
StopFault definition (pools.Damaged sector stated found) = ⊥
StopFault definition pools.DiskFault = Unit {0}
StopFault definition pools.Failed = ⊥
StopFault definition pools.OutOfMemory = ⊥

abbrev pub TakeFault : {A : Type 0} → Result A Refusal → RecvFault → Type 0
TakeFault definition (faults.Pool fault) = StopFault definition fault
TakeFault definition (faults.Stream fault) = ⊥
TakeFault definition (faults.CannotApply index fault) = definition ≡ Err (recv_refusal (faults.CannotApply index fault))

-- a partial state is made as the definition says, or the definition refuses it
abbrev pub Makes : (Partial → Type 0) → Result Partial Refusal → Result (Unit {0}) RecvFault → Type 0
Makes Is definition (Ok done) = (after : Partial) × (definition ≡ Ok after) × Is after
Makes Is definition (Err fault) = TakeFault definition fault

-- a record was taken as the definition says, or the definition refuses it; what was taken before stays
abbrev pub Takes : (Batch → Type 0) → Batch → Result Batch Refusal → Result (Unit {0}) RecvFault → Type 0
Takes Is batch definition (Ok done) = (after : Batch) × (definition ≡ Ok after) × Is after
Takes Is batch definition (Err fault) = TakeFault definition fault × Is batch

-- ---- as many records as are covered

-- these were taken
abbrev pub AreTaken : RecvAsk → Pool → List Covered → Batch → Batch → Type 0
AreTaken ask pool records batch after = batch_of ask pool records batch ≡ record { batch = after; fault = None }

-- and the reading of the text ends so with them
pub record Drained (ask : RecvAsk) (pool : Pool) (reader : Reader) (text : List ℕ) (handed : List Covered) (batch after : Batch) (outcome : Outcome) : Type 0 where
  pub records : List Covered
  pub reads : HandsOut reader text (handed ++ records) outcome
  pub were_taken : AreTaken ask pool records batch after

-- these are taken by the definition, and the next one that the text covers isn't; or the disk is full or failed
pub record Refused (ask : RecvAsk) (pool : Pool) (reader : Reader) (text : List ℕ) (handed : List Covered) (batch after : Batch) (fault : RecvFault) : Type 0 where
  pub records : List Covered
  pub next : Covered
  pub reads : StandsFor reader text (handed ++ (records ++ next ∷ []))
  pub were_taken : AreTaken ask pool records batch after
  pub refused : TakeFault (taken ask pool next after) fault

-- all that a text covers was taken, and whether END was covered; or the first fault, of the stream or of a record, before which the others were taken unless a block stopped it
abbrev pub Drains : RecvAsk → Pool → Reader → List ℕ → List Covered → (Batch → Type 0) → Batch → Result Bool RecvFault → Type 0
Drains ask pool reader text handed Is batch (Ok ended) =
    (after : Batch) × Drained ask pool reader text handed batch after (if ended then complete else waiting) × Is after
Drains ask pool reader text handed Is batch (Err (faults.Stream fault)) =
    (after : Batch) × Drained ask pool reader text handed batch after (faulty fault) × Is after
Drains ask pool reader text handed Is batch (Err fault) =
    (after : Batch) × Refused ask pool reader text handed batch after fault × (stop_at fault ≡ None → Is after)

-- whatever the image, the reader has handed out more of its text, and the stage stands behind it: it doesn't go on behind END
pub record HandedOn (reader : Reader) (text : List ℕ) (stage : coded.Stage) (ended : Bool) : Type 0 where
  pub handed : List Covered
  pub stands : StandsFor reader text handed
  pub behind : StandsBehind handed stage
  pub over : ended ≡ true → is_live stage ≡ false

-- ---- a piece

-- what the definition takes of a piece behind a text, and the first fault
abbrev pub taken_of : RecvAsk → Pool → List ℕ → List ℕ → Batch → EndedBatch
taken_of ask pool text piece batch = batch_of ask pool (new_records text piece) batch

abbrev pub fault_in : RecvAsk → Pool → List ℕ → List ℕ → Batch → Option Refusal
fault_in ask pool text piece batch = first_fault (taken_of ask pool text piece batch).fault (fault_of (reading (text ++ piece)).outcome)

-- the definition takes all that the piece covers, and finds no fault: the reader stands behind it, or has ended
pub record TakesAll (ask : RecvAsk) (pool : Pool) (reader : Reader) (text piece : List ℕ) (Is : Batch → Type 0) (batch : Batch) : Type 0 where
  pub whole : fault_in ask pool text piece batch ≡ None
  pub is : Is (taken_of ask pool text piece batch).batch
  pub waits : (reading (text ++ piece)).outcome ≡ waiting → (handed : List Covered) × HandsOut reader (text ++ piece) handed waiting
  pub ends : (reading (text ++ piece)).outcome ≡ complete → (read : List ℕ) × HandsOut reader read (reading (text ++ piece)).covered complete

-- why a piece isn't taken: the first fault of the definition; or the disk is full or failed
abbrev pub PieceFault : Option Refusal → PoolFault → Type 0
PieceFault first (pools.Plan fault) = first ≡ Some (pool_refusal (pools.Plan fault))
PieceFault first (pools.CannotApply fault) = ⊥
PieceFault first (pools.Redacted object block) = ⊥
PieceFault first (pools.Full need largest) = Unit {0}
PieceFault first (pools.Damaged sector stated found) = ⊥
PieceFault first pools.DiskFault = Unit {0}
PieceFault first pools.Failed = ⊥
PieceFault first pools.OutOfMemory = ⊥

abbrev pub ReadFault : Option Refusal → RecvFault → Type 0
ReadFault first (faults.Pool fault) = PieceFault first fault
ReadFault first (faults.Stream fault) = first ≡ Some (recv_refusal (faults.Stream fault))
ReadFault first (faults.CannotApply index fault) = first ≡ Some (recv_refusal (faults.CannotApply index fault))

-- a piece was read: all that it covers was taken, or what the definition takes before its first fault
abbrev pub Reads : RecvAsk → Pool → Reader → List ℕ → List ℕ → (Batch → Type 0) → Batch → Result (Unit {0}) RecvFault → Type 0
Reads ask pool reader text piece Is batch (Ok done) = TakesAll ask pool reader text piece Is batch
Reads ask pool reader text piece Is batch (Err fault) =
    ReadFault (fault_in ask pool text piece batch) fault × (fault_in ask pool text piece batch ≡ Some (recv_refusal fault) → Is (taken_of ask pool text piece batch).batch)
