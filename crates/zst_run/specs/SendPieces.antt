-- A send that is under way, piece by piece.
use Rattle.std.specs.Prelude.{ℕ, ◌+◌, ◌≡◌, ◌≢◌, ◌<◌, ◌≤◌, Bool, true, false, Contains, IfErr, IfOk, List, [], length, Option, None, Some, Result, Ok, Err}
use Rattle.zst_outside.specs.Causes.{Rose}
use Rattle.zst_outside.specs.Printing.{Printed, Wrote}
use Rattle.zst_outside.specs.States.{SinkState, HandedOn}
use Rattle.zst_outside.specs.declared.disk.Disk.{Ghosts}
use Rattle.zst_block.specs.IoStates.{IoState, IsHonest, blocks_of, disk_of, io_of}
use Rattle.zst_dir.specs.RowNames.{AreNamed}
use Rattle.zst_dir.specs.Rows.{Rows}
use Rattle.zst_model.specs.declared.refusals.faults.Quantity.TheVariants.{Runs, Stream}
use Rattle.zst_model.specs.declared.refusals.plan_fault.PlanFault.{PlanFault}
use Rattle.zst_model.specs.declared.refusals.refusal.Refusal.{Refusal}
use Rattle.zst_model.specs.declared.refusals.refusal.Refusal.TheVariants as refusals
use Rattle.zst_model.specs.declared.sends.header.Point.{Point}
use Rattle.zst_model.specs.pools.Pool.{Pool as Plain}
use Rattle.zst_model.specs.refusals.Refusal.{refusal_of}
use Rattle.zst_model.specs.sends.Headers.{Sent}
use Rattle.zst_pool.specs.Damage.{IsOf}
use Rattle.zst_pool.specs.declared.fault.PoolFault.{PoolFault}
use Rattle.zst_pool.specs.declared.fault.PoolFault.TheVariants as faults
use Rattle.zst_pool.specs.declared.pool.Pool.{Pool}
use Rattle.zst_reader.specs.InputReads.{stream_limit}
use Rattle.zst_send.specs.Damage.{IsDamagedSend}
use Rattle.zst_send.specs.KnownPointers.{IsAmong, Knows}
use Rattle.zst_send.specs.Openings.{IsDamagedOpening, IsPlanned, ReadsLists, StandsPlanned}
use Rattle.zst_send.specs.Sends as given
use Rattle.zst_send.specs.Sends.{SendFits, begun_text, sent_set}
use Rattle.zst_send.specs.declared.send.Send.{Send}
use Rattle.zst_tree.specs.Indices.{Blocks}
use Rattle.zst_run.specs.declared.send.SendRequest.{SendRequest}
use Rattle.zst_run.specs.Sends.{HasSet, IsOut, IsSendRefusal, OfGiving, SendsBy, TellsOf, start_of, to_give, to_send}

-- ---- opening

-- where the plan passes, a send is opened and all of its text is left, unless the disk failed or no memory is left; its other refusals are the plan's
abbrev pub OpensBy : Blocks → Option Point → Result Sent PlanFault → Result Send PoolFault → Type 0
OpensBy has start planned (Ok send) = (sent : Sent) × (planned ≡ Ok sent) × given.SendsFrom has send sent start [] (begun_text sent start)
OpensBy has start planned (Err (faults.Plan fault)) = planned ≡ Err fault
OpensBy has start planned (Err (faults.CannotApply fault)) = ⊥
OpensBy has start planned (Err (faults.Redacted object block)) = ⊥
OpensBy has start planned (Err (faults.Full need largest)) = ⊥
OpensBy has start planned (Err (faults.Damaged sector stated found)) = ⊥
OpensBy has start planned (Err faults.DiskFault) = Unit {0}
OpensBy has start planned (Err faults.Failed) = ⊥
OpensBy has start planned (Err faults.OutOfMemory) = Unit {0}

-- a send was opened for a request over these rows: it has the object set that is requested, it keeps no pointer yet that wouldn't stand in whatever
-- images, and what it keeps is in its ranges
pub record IsOpenedFor (request : SendRequest) (rows : Rows) (send : Send) : Type 0 where
  pub set : HasSet request rows (sent_set send)
  pub knows : (images : List (List ℕ)) → Knows (IsAmong images) send
  pub fits : SendFits send

-- E25 of an opening comes only of what is listed for the request's plan, as the disk had it
abbrev pub TellsLists : SendRequest → IoState → Rows → Result Send PoolFault → Type 0
TellsLists request io rows result = IfErr result (IsOf (IsDamagedOpening io.space.end io.disk.seen io.disk.size rows (to_send request)))

module _ {D : Type 0} {g : Ghosts D} where
  -- how a request is opened of a pool that works, which is only read
  pub record OpensFor (request : SendRequest) (old new : Pool D g) (result : Result Send PoolFault) : Type 0 where
    -- where what it needs stands it is opened by what it gives, whatever else is damaged
    pub opens : (running : Plain) → IsHonest new.io → AreNamed old.kept.dir running → StandsPlanned (blocks_of old.io) old.kept.dir running (to_send request running)
        → OpensBy (blocks_of new.io) (start_of request) (to_give request running) result
    -- whatever the object sets and the lists hold, its refusals are the plan's, and where that passes it is opened, unless a list can't be read or is too long
    pub planned : (running : Plain) → AreNamed old.kept.dir running → IsPlanned (to_send request running) result
    pub damaged : IsHonest new.io → TellsLists request (io_of old.io) old.kept.dir result
    pub opened : IfOk result (IsOpenedFor request old.kept.dir)
    pub reads : ReadsLists old new result

-- where its plan refuses a send, that is its answer, and nothing is written
abbrev pub IfUnplanned : Result Sent PlanFault → SinkState → SinkState → Result (Unit {0}) Refusal → Type 0
IfUnplanned (Ok sent) out out' result = Unit {0}
IfUnplanned (Err fault) out out' result = (result ≡ Err (refusal_of fault)) × (out' ≡ out)

-- ---- pieces

-- so many bytes were given, all of them are written, and no fault of the output was counted
pub record Sending (has : Blocks) (start : Option Point) (sent : Sent) (send : Send) (out out' : SinkState) (count : ℕ) : Type 0 where
  pub text : List ℕ
  pub left : List ℕ
  pub stands : given.SendsFrom has send sent start text left
  pub counted : count ≡ length text
  pub printed : Printed out out' text

-- the send goes on, or it ended
abbrev pub Passed : Blocks → Option Point → Sent → Send → (before after : ℕ) → SinkState → SinkState → ℕ → Option (Result (Unit {0}) Refusal) → Type 0
Passed has start sent send before after out out' count None = Sending has start sent send out out' count
Passed has start sent send before after out out' count (Some result) = SendsBy start (Ok sent) before after out out' result

module _ {D : Type 0} {g : Ghosts D} where
  -- a send that gives pieces: there is room for some bytes, what it keeps is in its ranges, and its pool works
  pub record GivesPieces (pool : Pool D g) (send : Send) (bytes : List ℕ) : Type 0 where
    pub room : 0 < length bytes
    pub fits : SendFits send
    pub works : pool.io.failed ≡ false

  -- What a piece leaves of a send and its pool, whatever the image: its object set stays, its pointers still stand in images that they stood in, what
  -- it keeps is in its ranges, and where it goes on the pool works.
  pub record PieceLeaves (old new : Pool D g) (send send' : Send) (result : Option (Result (Unit {0}) Refusal)) : Type 0 where
    pub set : sent_set send' ≡ sent_set send
    pub knows : (images : List (List ℕ)) → Contains images (disk_of old.io).seen → IsHonest new.io → Knows (IsAmong images) send → Knows (IsAmong images) send'
    pub fits : SendFits send'
    pub works : result ≡ None → new.io.failed ≡ false
    -- a send that goes on has met no damaged block
    pub told : result ≡ None → new.io.checksum_errors ≡ old.io.checksum_errors

  -- Why a send ends by this answer, whatever the image: each refusal has its cause, and none is of a plan or a list; E25 tells a damage of its object set,
  -- in images that its pointers stand in, of which one is what the disk reads.
  pub record WhySendEnds (old new : Pool D g) (send : Send) (out out' : SinkState) (answer : Result (Unit {0}) Refusal) : Type 0 where
    pub refused : IfErr answer (IsSendRefusal OfGiving (disk_of old.io) (disk_of new.io) out out')
    pub unplanned : (fault : PlanFault) → answer ≢ Err (refusals.Plan fault)
    pub listed : (number : ℕ) → answer ≢ Err (refusals.Limit Runs number)
    -- one that ends well has met no damaged block
    pub told : (done : Unit {0}) → answer ≡ Ok done → new.io.checksum_errors ≡ old.io.checksum_errors
    pub damaged : (images : List (List ℕ)) → Contains images (disk_of old.io).seen → IsHonest new.io → Knows (IsAmong images) send
        → TellsOf (IsDamagedSend (IsAmong images) (disk_of old.io).size (sent_set send)) answer

-- where it goes on, bytes were given, and no more than a stream may have
abbrev pub Advances : (old new : ℕ) → Option (Result (Unit {0}) Refusal) → Type 0
Advances old new None = (old < new) × (new ≤ stream_limit)
Advances old new (Some result) = Unit {0}

-- the whole piece is within a stream's bytes, written without a fault, and counted
pub record PieceWritten (piece : List ℕ) (old new : ℕ) (out out' : SinkState) : Type 0 where
  pub within : new ≤ stream_limit
  pub counted : new ≡ old + length piece
  pub printed : Printed out out' piece

-- it would go past a stream's bytes, so nothing of it is written, and what was written before is out
pub record PieceTooLong (piece : List ℕ) (old : ℕ) (out out' : SinkState) : Type 0 where
  pub longer : stream_limit < old + length piece
  pub kept : out'.written ≡ out.written
  pub later : out.faults ≤ out'.faults
  pub is_out : IsOut out out'

-- a front of it was written, and the output failed
pub record PieceLost (piece : List ℕ) (out out' : SinkState) : Type 0 where
  pub front : (rest : List ℕ) × Wrote out out' piece rest
  pub rose : Rose out.faults out'.faults

-- What writing a piece behind so many bytes comes to: more pieces are to come, or the send ends.
abbrev pub WritesPiece : List ℕ → Bool → (old new : ℕ) → SinkState → SinkState → Option (Result (Unit {0}) Refusal) → Type 0
WritesPiece piece is_last old new out out' None = (is_last ≡ false) × PieceWritten piece old new out out'
WritesPiece piece is_last old new out out' (Some (Ok done)) = (is_last ≡ true) × PieceWritten piece old (old + length piece) out out' × HandedOn out'
WritesPiece piece is_last old new out out' (Some (Err (refusals.Limit which number))) = (which ≡ Stream) × (number ≡ stream_limit) × PieceTooLong piece old out out'
WritesPiece piece is_last old new out out' (Some (Err refusals.SinkFault)) = PieceLost piece out out'
WritesPiece piece is_last old new out out' (Some (Err other)) = ⊥
