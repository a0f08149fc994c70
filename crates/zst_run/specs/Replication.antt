-- What one run sends and another receives.
use Rattle.std.specs.Prelude.{ℕ, ◌≡◌, ◌≢◌, ◌⊎◌, ◌++◌, Bool, false, List, Some, None, Result, Ok, Err}
use Rattle.zst_outside.specs.Images.{DiskState, Leaves}
use Rattle.zst_outside.specs.States.{SourceState, SinkState, Gave}
use Rattle.zst_image.specs.Bodies.{Body}
use Rattle.zst_names.specs.Names.{IsDataset}
use Rattle.zst_model.specs.declared.refusals.refusal.Refusal.{Refusal}
use Rattle.zst_model.specs.declared.refusals.refusal.Refusal.TheVariants as refusals
use Rattle.zst_model.specs.declared.sends.ask.SendAsk.{SendAsk}
use Rattle.zst_model.specs.pools.Ancestry.{Source}
use Rattle.zst_model.specs.pools.KeptPool.{kept_of}
use Rattle.zst_model.specs.pools.Pool.{Pool, Partial, partial_of}
use Rattle.zst_model.specs.pools.Soundness.{Sound}
use Rattle.zst_model.specs.sends.Headers.{Sent, header_of, sent_view}
use Rattle.zst_model.specs.sends.Target.{target}
use Rattle.zst_model.specs.states.State.{State}
use Rattle.zst_dir.specs.Rows.{Rows}
use Rattle.zst_image.specs.Reads.{Reads, ReadsAs}
use Rattle.zst_plan.specs.RecvPlan.{Base, Begins, recv_plan}
use Rattle.zst_plan.specs.declared.receive.RecvAsk.{RecvAsk}
use Rattle.zst_send.specs.Sends.{begun_text}
use Rattle.zst_recv.specs.Tokens.{token_told}
use Rattle.zst_replication.specs.Histories.{StillRemembers}
use Rattle.zst_replication.specs.MatchingBases.{IsWithin}
use Rattle.zst_replication.specs.Outcomes.{Course, HasNothing, HasOneMore, Progress, base_name, course_from, course_on}
use Rattle.zst_replication.specs.Replicas.{MatchesBase, sent_state}
use Rattle.zst_replication.specs.Resumption.{Chain, IsUnderway}
use Rattle.zst_token.specs.Spelling.{IsToken}
use Rattle.zst_token.specs.declared.token.Token.{Token}
use Rattle.zst_run.specs.Receives.{IsTightOrNew, Keeps, Receiving}
use Rattle.zst_run.specs.Replies.{Replies}
use Rattle.zst_run.specs.declared.send.SendRequest.{SendRequest}
use Rattle.zst_run.specs.declared.send.SendRequest.TheVariants.{Named, Rest}
use Rattle.zst_run.specs.Sends.{ReadsFor, Sends, to_give}

-- an image is read as this pool for what is asked, and this is what a send of it gives, from its beginning or from a token's point, which is within what a
-- stream can say
pub record IsSender (request : SendRequest) (from : Pool) (sent : Sent) (here : DiskState) : Type 0 where
  pub reads : ReadsFor request from here.seen
  pub is : to_give request from ≡ Ok sent
  pub within : IsWithin sent

-- an image is read as this pool, whose sets are tight, or which lacks the target; the target has no partial state, and the base that the plan of the receive
-- begins with is fit for what is sent, as a full stream's is, one that the source remembers, and one that is redacted of that for some snapshots
pub record IsReceiver (tight : Bool) (ask : RecvAsk) (into : Pool) (sent : Sent) (there there' : DiskState) : Type 0 where
  pub body : Body
  pub rows : Rows
  pub honest : there'.honest
  pub reads : ReadsAs tight body rows into there.seen
  pub may : IsTightOrNew tight ask into
  pub alone : partial_of ask.target into ≡ None
  pub matches : MatchesBase sent ask into

-- an image is read as this pool for what a token asks, and that gives there the same view as what was sent, and is within what a stream can say
pub record IsRestSender (token : Token) (from : Pool) (sent also : Sent) (here : DiskState) : Type 0 where
  pub is_token : IsToken token
  pub reads : ReadsFor (Rest token) from here.seen
  pub is : to_give (Rest token) from ≡ Ok also
  pub same_view : sent_view also ≡ sent_view sent
  pub within : IsWithin also

-- an image is read as this pool, whose sets are tight, or which lacks the target, and which tells this token of it
pub record IsRestReceiver (tight : Bool) (token : Token) (ask : RecvAsk) (into : Pool) (there there' : DiskState) : Type 0 where
  pub body : Body
  pub rows : Rows
  pub honest : there'.honest
  pub reads : ReadsAs tight body rows into there.seen
  pub may : IsTightOrNew tight ask into
  pub told : token_told ask.target into ≡ Ok token

-- what was read of an input is a front of something that begins with this text
pub record IsReadOf (text : List ℕ) (input input' : SourceState) : Type 0 where
  pub read : List ℕ
  pub gave : Gave input input' read
  pub unread : List ℕ
  pub behind : List ℕ
  pub is : read ++ unread ≡ text ++ behind

-- the text that one run wrote is what another run read of
abbrev pub IsPiped : (out out' : SinkState) → (input input' : SourceState) → Type 0
IsPiped out out' input input' = (text : List ℕ) × (out'.written ≡ out.written ++ text) × IsReadOf text input input'

-- one snapshot more stands: the one that was sent, redacted as it was asked, under the name and over the base that the plan gives it
pub record IsReplicated (tight : Bool) (ask : RecvAsk) (into : Pool) (sent : Sent) (there' : DiskState) : Type 0 where
  pub after : Pool
  pub keeps : Keeps tight there' after
  pub component : List ℕ
  pub base : Base
  pub planned : recv_plan ask (header_of sent) into ≡ Ok (Begins component base)
  pub more : HasOneMore into (kept_of after) ask.target component (base_name base) (header_of sent) (sent_state sent)

-- A run of `send` that ended with status 0, and one of `receive` that read what it wrote and ended with status 0, leave one snapshot more: the one that
-- was sent, with its guid, objects, contents and holes, but for the pairs of the redaction bookmark, which are redacted; and all else as it was.
abbrev pub SentSnapshotStands : (here here' there there' : DiskState) → Type 0
SentSnapshotStands here here' there there' =
    (tight : Bool) (ask : SendAsk) (receive : RecvAsk) (from into : Pool) (sent : Sent) (out out' other other' : SinkState) (input input' : SourceState)
    → IsSender (Named ask) from sent here → here'.honest → IsReceiver tight receive into sent there there'
    → Sends (Named ask) here here' out out' (Ok tt) → Replies (Receiving receive there there' input input') other other' (Ok tt) → IsPiped out out' input input'
    → IsReplicated tight receive into sent there'

-- Whatever is read: a run of `receive` without -s that is refused, but for a fault of the disk or of the output, leaves nothing of the receive.
abbrev pub RefusedLeavesNothing : (there there' : DiskState) → Type 0
RefusedLeavesNothing there there' =
    (tight : Bool) (ask : RecvAsk) (body : Body) (rows : Rows) (into : Pool) (refusal : Refusal) (out out' : SinkState) (input input' : SourceState)
    → there'.honest → ReadsAs tight body rows into there.seen → IsTightOrNew tight ask into → partial_of ask.target into ≡ None → ask.keep ≡ false
    → Replies (Receiving ask there there' input input') out out' (Err refusal) → refusal ≢ refusals.DiskFault → refusal ≢ refusals.SinkFault
    → (after : Pool) × Keeps tight there' after × HasNothing ask into (kept_of after)

-- one snapshot more stands: what the view makes of the base, under the partial state's name and over its base, and the partial state is gone
pub record IsCompleted (tight : Bool) (ask : RecvAsk) (into : Pool) (partial : Partial) (sent : Sent) (state : State) (there' : DiskState) : Type 0 where
  pub after : Pool
  pub keeps : Keeps tight there' after
  pub whole : State
  pub is_target : target (sent_view sent) state ≡ Ok whole
  pub more : HasOneMore into (kept_of after) ask.target partial.component partial.base (header_of sent) whole

-- So does the rest: a run of `send -t` with the token that the receiver's pool tells, whose send gives the same view as the one that was cut, and a run
-- of `receive` that read what it wrote, where both ended with status 0.
abbrev pub SentRestStands : (here here' there there' : DiskState) → Type 0
SentRestStands here here' there there' =
    (tight : Bool) (token : Token) (receive : RecvAsk) (from into : Pool) (partial : Partial) (sent also : Sent) (state : State) (out out' other other' : SinkState) (input input' : SourceState)
    → IsRestSender token from sent also here → here'.honest → IsRestReceiver tight token receive into there there' → IsUnderway sent receive.target state into partial
    → Sends (Rest token) here here' out out' (Ok tt) → Replies (Receiving receive there there' input input') other other' (Ok tt) → IsPiped out out' input input'
    → IsCompleted tight receive into partial sent state there'

-- Wherever the stream of a send is cut off, and wherever in a write the receiver stops: each image on the way, and in the end, stood before or is in the
-- progress of the receive on its course: nothing, a partial state that is kept, or the whole snapshot.
abbrev pub IsOnItsWay : (tight : Bool) → RecvAsk → Pool → Sent → Course → DiskState → List ℕ → Type 0
IsOnItsWay tight ask into sent course there image =
    there.images image ⊎ ((after : Pool) × Reads tight (kept_of after) image × Progress ask (sent_view sent) course into (kept_of after))

-- all images of a run, and those in the end, are so
abbrev pub AreOnTheirWay : (tight : Bool) → RecvAsk → Pool → Sent → Course → (there there' : DiskState) → Type 0
AreOnTheirWay tight ask into sent course there there' =
    Leaves there there' (IsOnItsWay tight ask into sent course there) × ((c : List ℕ) → there'.images c → IsOnItsWay tight ask into sent course there c)

abbrev pub StopsAreProgress : (here there there' : DiskState) → Type 0
StopsAreProgress here there there' =
    (tight : Bool) (ask : SendAsk) (receive : RecvAsk) (from into : Pool) (sent : Sent) (component : List ℕ) (base : Base) (result : Result (Unit {0}) Refusal)
    (out out' : SinkState) (input input' : SourceState)
    → IsSender (Named ask) from sent here → IsReceiver tight receive into sent there there'
    → recv_plan receive (header_of sent) into ≡ Ok (Begins component base)
    → Replies (Receiving receive there there' input input') out out' result → IsReadOf (begun_text sent None) input input'
    → AreOnTheirWay tight receive into sent (course_from component base) there there'

-- So it is of the rest of a stream, which a token asked for.
abbrev pub RestsAreProgress : (here there there' : DiskState) → Type 0
RestsAreProgress here there there' =
    (tight : Bool) (token : Token) (receive : RecvAsk) (from into : Pool) (partial : Partial) (sent also : Sent) (state : State) (result : Result (Unit {0}) Refusal)
    (out out' : SinkState) (input input' : SourceState)
    → IsRestSender token from sent also here → IsRestReceiver tight token receive into there there' → IsUnderway sent receive.target state into partial
    → Replies (Receiving receive there there' input input') out out' result → IsReadOf (begun_text also (Some token.point)) input input'
    → AreOnTheirWay tight receive into sent (course_on partial state) there there'

-- each image stood before, or reads as a pool to which a chain of cut and resumed receives of what is sent leads
abbrev pub IsChained : (tight : Bool) → Sent → (target component : List ℕ) → Base → DiskState → List ℕ → Type 0
IsChained tight sent target component base there image =
    there.images image ⊎ ((after : Pool) × Reads tight (kept_of after) image × Chain sent target component base (kept_of after))

abbrev pub AreChained : (tight : Bool) → Sent → (target component : List ℕ) → Base → (there there' : DiskState) → Type 0
AreChained tight sent target component base there there' =
    Leaves there there' (IsChained tight sent target component base there) × ((c : List ℕ) → there'.images c → IsChained tight sent target component base there c)

-- Any number of runs of `receive`, each cut or stopped anywhere, and whatever else happens in between that leaves the target's partial state: a
-- first run of a send's stream, into a target without one, begins a chain, and each further run with the rest leads it on.
pub record RunsAreChained (here there there' : DiskState) : Type 0 where
  pub first : (tight : Bool) (ask : SendAsk) (receive : RecvAsk) (from into : Pool) (sent : Sent) (component : List ℕ) (base : Base) (result : Result (Unit {0}) Refusal)
      (out out' : SinkState) (input input' : SourceState)
      → IsSender (Named ask) from sent here → IsReceiver tight receive into sent there there'
      → recv_plan receive (header_of sent) into ≡ Ok (Begins component base)
      → Replies (Receiving receive there there' input input') out out' result → IsReadOf (begun_text sent None) input input'
      → AreChained tight sent receive.target component base there there'
  pub next : (tight : Bool) (token : Token) (receive : RecvAsk) (from into : Pool) (sent also : Sent) (component : List ℕ) (base : Base) (result : Result (Unit {0}) Refusal)
      (out out' : SinkState) (input input' : SourceState)
      → Chain sent receive.target component base into
      → IsRestSender token from sent also here → IsRestReceiver tight token receive into there there'
      → Replies (Receiving receive there there' input input') out out' result → IsReadOf (begun_text also (Some token.point)) input input'
      → AreChained tight sent receive.target component base there there'

-- And where its last run ends with status 0, one snapshot more stands: the one that was sent, with its guid, objects, contents and holes, redacted as it
-- was asked, of the first run's component and over its base.
abbrev pub ChainsComplete : (here there there' : DiskState) → Type 0
ChainsComplete here there there' =
    (tight : Bool) (token : Token) (receive : RecvAsk) (from into : Pool) (sent also : Sent) (component : List ℕ) (base : Base)
    (out out' : SinkState) (input input' : SourceState)
    → Chain sent receive.target component base into
    → IsRestSender token from sent also here → IsRestReceiver tight token receive into there there'
    → Replies (Receiving receive there there' input input') out out' (Ok tt) → IsReadOf (begun_text also (Some token.point)) input input'
    → (after : Pool) × Keeps tight there' after × HasOneMore into (kept_of after) receive.target component (base_name base) (header_of sent) (sent_state sent)

-- Whatever is read: of a receive into a sound pool each image on the way, and in the end, stood before or reads as a sound pool.
abbrev pub IsSoundAfter : (tight : Bool) → DiskState → List ℕ → Type 0
IsSoundAfter tight there image = there.images image ⊎ ((after : Pool) × Reads tight (kept_of after) image × Sound (kept_of after))

abbrev pub SoundStaysSound : (there there' : DiskState) → Type 0
SoundStaysSound there there' =
    (tight : Bool) (ask : RecvAsk) (body : Body) (rows : Rows) (into : Pool) (result : Result (Unit {0}) Refusal) (out out' : SinkState) (input input' : SourceState)
    → there'.honest → ReadsAs tight body rows into there.seen → IsTightOrNew tight ask into → IsDataset ask.target → Sound into
    → Replies (Receiving ask there there' input input') out out' result
    → Leaves there there' (IsSoundAfter tight there) × ((c : List ℕ) → there'.images c → IsSoundAfter tight there c)

-- Whatever is read: of a receive into a sound pool each image on the way, and in the end, stood before or reads as a pool in which each snapshot and
-- bookmark still stands, and remembers what it did.
abbrev pub StillRemembersAfter : (tight : Bool) → Source → State → DiskState → List ℕ → Type 0
StillRemembersAfter tight source state there image = there.images image ⊎ ((after : Pool) × Reads tight (kept_of after) image × StillRemembers (kept_of after) source state)

abbrev pub SourcesStillRemember : (there there' : DiskState) → Type 0
SourcesStillRemember there there' =
    (tight : Bool) (ask : RecvAsk) (body : Body) (rows : Rows) (into : Pool) (source : Source) (state : State)
    (result : Result (Unit {0}) Refusal) (out out' : SinkState) (input input' : SourceState)
    → there'.honest → ReadsAs tight body rows into there.seen → IsTightOrNew tight ask into → IsDataset ask.target → Sound into
    → StillRemembers into source state → Replies (Receiving ask there there' input input') out out' result
    → Leaves there there' (StillRemembersAfter tight source state there) × ((c : List ℕ) → there'.images c → StillRemembersAfter tight source state there c)
