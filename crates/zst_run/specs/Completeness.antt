-- Runs that nothing stands in the way of: they are done, unless no memory was left.
use Rattle.std.specs.Prelude.{ℕ, ◌≡◌, ◌≢◌, ◌⊎◌, ◌↔◌, ◌≤◌, ◌+◌, ◌*◌, ◌++◌, false, Bool, IsTrue, List, [], length, Some, None, Result, Ok, Err}
use Rattle.std.specs.List.{concat}
use Rattle.zst_outside.specs.Causes.{Rose}
use Rattle.zst_outside.specs.Images.{DiskState}
use Rattle.zst_outside.specs.States.{SourceState, SinkState, Gave}
use Rattle.zst_uber.specs.Slots.{latest}
use Rattle.zst_space.specs.FreeSectors.{FreeSectors, largest_of}
use Rattle.zst_extents.specs.StoredExtents.{extent_blocks}
use Rattle.zst_image.specs.Bodies.{Body, free_by}
use Rattle.zst_image.specs.Commits.{commit_sectors}
use Rattle.zst_image.specs.FreedCommits.{dir_blocks}
use Rattle.zst_model.specs.declared.pools.command.Command.{Command}
use Rattle.zst_model.specs.declared.pools.command.Command.TheVariants as commands
use Rattle.zst_model.specs.declared.refusals.refusal.Refusal.{Refusal}
use Rattle.zst_model.specs.declared.refusals.refusal.Refusal.TheVariants as refusals
use Rattle.zst_model.specs.declared.sends.ask.SendAsk.{SendAsk}
use Rattle.zst_model.specs.pools.Limits.{last_number}
use Rattle.zst_model.specs.pools.Pool.{Partial, Pool}
use Rattle.zst_model.specs.pools.Soundness as soundness
use Rattle.zst_model.specs.pools.Step.{Stepped, stepped}
use Rattle.zst_model.specs.sends.Headers.{Sent, header_of}
use Rattle.zst_model.specs.states.State.{State}
use Rattle.zst_laws.specs.RedactionLists.{AreListed}
use Rattle.zst_dir.specs.Rows.{Rows}
use Rattle.zst_dir.specs.Spelling.{dir_bytes}
use Rattle.zst_image.specs.Reads.{Reads, ReadsAs, kept_rows}
use Rattle.zst_plan.specs.RecvPlan.{Base, Begins, component_for, recv_plan}
use Rattle.zst_plan.specs.declared.receive.RecvAsk.{RecvAsk}
use Rattle.zst_pool.specs.Cost.{CostsMore, cost_of}
use Rattle.zst_pool.specs.Reclaims.{AreUnreached, MayBeLeft}
use Rattle.zst_reader.specs.InputReads.{stream_limit}
use Rattle.zst_recv.specs.Feeds.{receives}
use Rattle.zst_recv.specs.ReceiveSteps.{Stops}
use Rattle.zst_recv.specs.Tokens.{token_told}
use Rattle.zst_replication.specs.Resumption.{IsUnderway}
use Rattle.zst_replication.specs.TakenSends.{IsInLimits}
use Rattle.zst_send.specs.Sends.{begun_text}
use Rattle.zst_stream.specs.Reading.{complete, reading}
use Rattle.zst_token.specs.declared.token.Token.{Token}
use Rattle.zst_run.specs.Checks.{Checks}
use Rattle.zst_run.specs.Commands.{Making, Opens, Stepping, as_kept, most_of}
use Rattle.zst_run.specs.Dumps.{Dumps}
use Rattle.zst_run.specs.Receives.{ArePieces, CostMore, IsTightOrNew, Receiving}
use Rattle.zst_run.specs.Replies.{Replies}
use Rattle.zst_run.specs.Runs.{Told}
use Rattle.zst_run.specs.declared.send.SendRequest.{SendRequest}
use Rattle.zst_run.specs.declared.send.SendRequest.TheVariants.{Named, Rest}
use Rattle.zst_run.specs.Replication.{IsReceiver, IsRestReceiver, IsRestSender, IsSender}
use Rattle.zst_run.specs.Sends.{ReadsFor, Sends, start_of, to_give}
use Rattle.zst_run.specs.Tokens.{Tokens}

-- no fault was counted in between
abbrev pub NoneCounted : (before after : ℕ) → Type 0
NoneCounted before after = ¬ (Rose before after)

-- it is done, or no memory was left (E32)
abbrev pub DoneOrNoMemory : Result (Unit {0}) Refusal → Type 0
DoneOrNoMemory result = (result ≡ Ok tt) ⊎ (result ≡ Err refusals.OutOfMemory)

-- The program tells either by its status: that with which what was done ends, which is 0 of each line but `check`, or that of E32.
abbrev pub DoneIsTold : Type 0
DoneIsTold = (note note' : SinkState) (status ends : ℕ) (result : Result (Unit {0}) Refusal) → DoneOrNoMemory result → Told note note' status ends result → (status ≡ ends) ⊎ (status ≡ 10)

-- ---- sends

-- A run of `send` from an image that reads as a pool for it: where it gives something, so that its plan passes and a redacted source has no more runs than a
-- list may have, what is to be sent is no longer than a stream may be, and neither the disk nor the output counted a fault, it is done, or no memory was left.
abbrev pub SendsComplete : (here here' : DiskState) → Type 0
SendsComplete here here' =
    (request : SendRequest) (pool : Pool) (sent : Sent) (out out' : SinkState) (result : Result (Unit {0}) Refusal)
    → here'.honest → ReadsFor request pool here.seen → to_give request pool ≡ Ok sent → length (begun_text sent (start_of request)) ≤ stream_limit
    → NoneCounted here.faults here'.faults → NoneCounted out.faults out'.faults
    → Sends request here here' out out' result → DoneOrNoMemory result

-- ---- receives

-- an input that has this text: a front of it was read, and all of it where the input told its end
pub record HasText (text : List ℕ) (input input' : SourceState) : Type 0 where
  pub read : List ℕ
  pub unread : List ℕ
  pub gave : Gave input input' read
  pub is : read ++ unread ≡ text
  pub whole : IsTrue input'.ended → unread ≡ []

-- these are pieces that are read of the front of a text
abbrev pub AreOfFront : List ℕ → List (List ℕ) → Type 0
AreOfFront text pieces = ArePieces pieces × ((rest : List ℕ) × (concat pieces ++ rest ≡ text))

-- The definition takes this text: its reading comes to END, and no pieces of its front are refused, so that the plan of BEGIN passes and each record applies.
pub record Takes (ask : RecvAsk) (pool : Pool) (text : List ℕ) : Type 0 where
  pub whole : (reading text).outcome ≡ complete
  pub accepts : (pieces : List (List ℕ)) → AreOfFront text pieces → (after : Pool) (refusal : Refusal) → receives ask pool pieces ≢ Stops after refusal

-- there is room for this text: by the body and the directory that are opened some free extent has as many sectors as its pieces cost
abbrev pub HasRoom : DiskState → List ℕ → Type 0
HasRoom here text = (body : Body) (rows : Rows) (pieces : List (List ℕ)) → Opens here body rows → AreOfFront text pieces
    → ¬ (CostMore (record { body = body; dir = kept_rows rows }) pieces)

-- A run of `receive` into an image that reads as a pool: where the definition takes the text that the input has, which is no longer than a stream may be, there is
-- room for it, and none of the disk, the input and the output counted a fault, it is done, or no memory was left.
abbrev pub ReceivesComplete : (here here' : DiskState) → Type 0
ReceivesComplete here here' =
    (tight : Bool) (ask : RecvAsk) (body : Body) (rows : Rows) (pool : Pool) (text : List ℕ) (input input' : SourceState) (out out' : SinkState) (result : Result (Unit {0}) Refusal)
    → here'.honest → ReadsAs tight body rows pool here.seen → IsTightOrNew tight ask pool
    → HasText text input input' → length text ≤ stream_limit → Takes ask pool text → HasRoom here text
    → NoneCounted here.faults here'.faults → NoneCounted input.faults input'.faults → NoneCounted out.faults out'.faults
    → Replies (Receiving ask here here' input input') out out' result → DoneOrNoMemory result

-- ---- what was sent

-- a run of `send` of what is asked, in which neither the disk nor the output counted a fault
pub record SendsWell (request : SendRequest) (here here' : DiskState) (out out' : SinkState) (result : Result (Unit {0}) Refusal) : Type 0 where
  pub honest : here'.honest
  pub sends : Sends request here here' out out' result
  pub disk : NoneCounted here.faults here'.faults
  pub sink : NoneCounted out.faults out'.faults

-- a run of `receive` of what is asked, in which none of the disk, the input and the output counted a fault
pub record ReceivesWell (ask : RecvAsk) (here here' : DiskState) (input input' : SourceState) (out out' : SinkState) (result : Result (Unit {0}) Refusal) : Type 0 where
  pub receives : Replies (Receiving ask here here' input input') out out' result
  pub disk : NoneCounted here.faults here'.faults
  pub source : NoneCounted input.faults input'.faults
  pub sink : NoneCounted out.faults out'.faults

-- a receive of what is sent is planned; its stream is no longer than one may be, the pool's number can rise with each of its bytes, of which there are no fewer
-- than commits, and there is room for it on the image
pub record CanTake (ask : RecvAsk) (pool : Pool) (sent : Sent) (here : DiskState) : Type 0 where
  pub component : List ℕ
  pub base : Base
  pub planned : recv_plan ask (header_of sent) pool ≡ Ok (Begins component base)
  pub short : length (begun_text sent None) ≤ stream_limit
  pub counts : pool.number + length (begun_text sent None) ≤ last_number
  pub room : HasRoom here (begun_text sent None)

-- A snapshot that one run sends another receives: where the one gives it and the plan of the other passes, there is room, and no fault was counted, the run of `send` is done, or no memory
-- was left; and where it is done, so is each run of `receive` whose input has what it wrote. That its records apply, and that no commit of it makes too many
-- partial states, datasets or snapshots, needs no premise: the plan asks for room.
abbrev pub TransfersComplete : (here here' there there' : DiskState) → Type 0
TransfersComplete here here' there there' =
    (tight : Bool) (ask : SendAsk) (receive : RecvAsk) (from into : Pool) (sent : Sent) (text : List ℕ) (out out' other other' : SinkState) (input input' : SourceState)
    (result answer : Result (Unit {0}) Refusal)
    → IsSender (Named ask) from sent here → IsReceiver tight receive into sent there there' → CanTake receive into sent there
    → SendsWell (Named ask) here here' out out' result → ReceivesWell receive there there' input input' other other' answer
    → DoneOrNoMemory result × (result ≡ Ok tt → out'.written ≡ out.written ++ text → HasText text input input' → DoneOrNoMemory answer)

-- a receive of the rest of what is sent, from this token's point: the asked component, or else the stream's, is one; the pool is within its limits; the rest is no
-- longer than a stream may be, the pool's number can rise with each of its bytes, and there is room for it on the image
pub record CanTakeRest (ask : RecvAsk) (pool : Pool) (sent also : Sent) (token : Token) (here : DiskState) : Type 0 where
  pub component : List ℕ
  pub named : component_for ask (header_of sent) ≡ Ok component
  pub limits : IsInLimits pool
  pub short : length (begun_text also (Some token.point)) ≤ stream_limit
  pub counts : pool.number + length (begun_text also (Some token.point)) ≤ last_number
  pub room : HasRoom here (begun_text also (Some token.point))

-- So it is of the rest, for a partial state that is on its way: a run of `send -t` with the token that the receiver's image tells, whose send gives the same view
-- as the one that was cut, and a run of `receive` whose input has what that wrote. That its plan passes needs no premise either.
abbrev pub RestTransfersComplete : (here here' there there' : DiskState) → Type 0
RestTransfersComplete here here' there there' =
    (tight : Bool) (token : Token) (receive : RecvAsk) (from into : Pool) (partial : Partial) (sent also : Sent) (state : State) (text : List ℕ) (out out' other other' : SinkState)
    (input input' : SourceState) (result answer : Result (Unit {0}) Refusal)
    → IsRestSender token from sent also here → IsRestReceiver tight token receive into there there' → IsUnderway sent receive.target state into partial
    → CanTakeRest receive into sent also token there
    → SendsWell (Rest token) here here' out out' result → ReceivesWell receive there there' input input' other other' answer
    → DoneOrNoMemory result × (result ≡ Ok tt → out'.written ≡ out.written ++ text → HasText text input input' → DoneOrNoMemory answer)

-- ---- the other lines

-- there is room for a command that is no reclaim: some extent that is free by this body has as many sectors as it takes at most, or as it takes with each directory of rows that name the pool that it makes
abbrev pub HasRoomFor : Command → Body → Rows → Pool → Result Stepped Refusal → Type 0
HasRoomFor command body rows pool after = (most_of command body rows pool ≤ largest_of (free_by body)) ⊎ ¬ (CostsMore (cost_of command).cells ((cost_of command).block pool) ((cost_of command).list pool) body after)

-- there is for a reclaim: by the body and the directory that are opened some extent that nothing reaches has as many sectors as it takes, beside each count of free extents that are left at some time while it takes no more blocks than the directory and these have
abbrev pub HasRoomToReclaim : DiskState → Type 0
HasRoomToReclaim here = (body : Body) (rows : Rows) (writable : FreeSectors) (taken count : ℕ) → Opens here body rows → AreUnreached here.seen (as_kept body rows) [] writable
    → MayBeLeft here.seen (as_kept body rows) [] writable taken count → taken ≤ dir_blocks (kept_rows rows) + extent_blocks count → commit_sectors (length (dir_bytes (kept_rows rows))) count ≤ largest_of writable

-- A run of a command on an image that reads as a pool: where the definition accepts it, there is room for it by the latest body, and neither
-- the disk nor the output counted a fault, it is done, or no memory was left.
abbrev pub StepsComplete : (here here' : DiskState) → Type 0
StepsComplete here here' =
    (tight : Bool) (now : ℕ) (command : Command) (body : Body) (rows : Rows) (pool : Pool) (done : Stepped) (out out' : SinkState) (result : Result (Unit {0}) Refusal)
    → here'.honest → ReadsAs tight body rows pool here.seen → stepped [] now command pool ≡ Ok done
    → (command ≢ commands.Reclaim → HasRoomFor command body rows pool (stepped [] now command pool)) → (command ≡ commands.Reclaim → HasRoomToReclaim here)
    → NoneCounted here.faults here'.faults → NoneCounted out.faults out'.faults
    → Replies (Stepping now command here here') out out' result → DoneOrNoMemory result

-- A run of `create`: where no pool is there, the image has as many sectors as are asked, and no fault was counted, it is done, or no memory was left.
abbrev pub CreatesComplete : (here here' : DiskState) → Type 0
CreatesComplete here here' =
    (sectors id : ℕ) (out out' : SinkState) (result : Result (Unit {0}) Refusal)
    → here'.honest → latest here.seen ≡ None → 512 * sectors ≤ here.size
    → NoneCounted here.faults here'.faults → NoneCounted out.faults out'.faults
    → Replies (Making sectors id here here') out out' result → DoneOrNoMemory result

-- A run of `token` on an image that reads as a pool: where that tells a token, and no fault was counted, it is done, or no memory was left.
abbrev pub TokensComplete : (here here' : DiskState) → Type 0
TokensComplete here here' =
    (dataset : List ℕ) (pool : Pool) (token : Token) (out out' : SinkState) (result : Result (Unit {0}) Refusal)
    → here'.honest → Reads false pool here.seen → token_told dataset pool ≡ Ok token
    → NoneCounted here.faults here'.faults → NoneCounted out.faults out'.faults
    → Tokens dataset here here' out out' result → DoneOrNoMemory result

-- A run of `check` on an image that reads as a pool: where no fault was counted, it is done, or no memory was left; and where it is done, it ends with status 0
-- exactly where the pool is sound, in all four parts.
abbrev pub ChecksComplete : (here here' : DiskState) → Type 0
ChecksComplete here here' =
    (pool : Pool) (out out' : SinkState) (result : Result (Unit {0}) Refusal)
    → here'.honest → Reads false pool here.seen
    → NoneCounted here.faults here'.faults → NoneCounted out.faults out'.faults
    → (checks : Checks here here' out out' result) → DoneOrNoMemory result × (result ≡ Ok tt → (checks.ends ≡ 0) ↔ (soundness.Sound pool × AreListed pool))

-- A run of `dump`: where the text that the input has is read to END, and no fault was counted, it is done, or no memory was left.
abbrev pub DumpsComplete : Type 0
DumpsComplete =
    (text : List ℕ) (input input' : SourceState) (out out' : SinkState) (result : Result (Unit {0}) Refusal)
    → HasText text input input' → length text ≤ stream_limit → (reading text).outcome ≡ complete
    → NoneCounted input.faults input'.faults → NoneCounted out.faults out'.faults
    → Dumps input input' out out' result → DoneOrNoMemory result
