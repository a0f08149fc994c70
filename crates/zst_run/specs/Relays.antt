-- What one run received is sent on as it is, and received once more.
use Rattle.std.specs.Prelude.{◌≡◌, Bool, None, Ok}
use Rattle.zst_outside.specs.Images.{DiskState}
use Rattle.zst_outside.specs.States.{SourceState, SinkState}
use Rattle.zst_model.specs.declared.sends.ask.SendAsk.{SendAsk}
use Rattle.zst_model.specs.pools.KeptPool.{kept_of}
use Rattle.zst_model.specs.pools.Pool.{Pool}
use Rattle.zst_model.specs.sends.Headers.{Sent}
use Rattle.zst_plan.specs.RecvPlan.{snapshot_name}
use Rattle.zst_plan.specs.declared.receive.RecvAsk.{RecvAsk}
use Rattle.zst_replication.specs.Relays.{GivesAlike}
use Rattle.zst_run.specs.Receives.{Receiving}
use Rattle.zst_run.specs.Replies.{Replies}
use Rattle.zst_run.specs.Replication.{IsPiped, IsReceiver, IsReplicated, IsSender}
use Rattle.zst_run.specs.Sends.{Sends, to_give}
use Rattle.zst_run.specs.declared.send.SendRequest.TheVariants.{Named}

-- a run of `send` and a run of `receive` that read what it wrote, both of which ended with status 0
pub record IsHop (ask : SendAsk) (receive : RecvAsk) (here here' there there' : DiskState) : Type 0 where
  pub honest : here'.honest
  pub out : SinkState
  pub out_after : SinkState
  pub sends : Sends (Named ask) here here' out out_after (Ok tt)
  pub input : SourceState
  pub input_after : SourceState
  pub reply : SinkState
  pub reply_after : SinkState
  pub receives : Replies (Receiving receive there there' input input_after) reply reply_after (Ok tt)
  pub piped : IsPiped out out_after input input_after

-- the snapshot that was received is asked for by its name and without --redact, and this is what a send of it gives, from whatever source
pub record IsSentOn (tight : Bool) (receive : RecvAsk) (into : Pool) (sent : Sent) (there' : DiskState) (done : IsReplicated tight receive into sent there') (again : SendAsk) (also : Sent) : Type 0 where
  pub named : again.snap ≡ snapshot_name receive.target done.component
  pub whole : again.redact ≡ None
  pub is : to_give (Named again) (kept_of done.after) ≡ Ok also

-- Four runs over three images, all of which ended with status 0: what a run of `send` wrote a run of `receive` made a snapshot of; a second run of `send` sent
-- that on from the image that this left, as it is; and what that wrote a second run of `receive` made a snapshot of. Then the last image has one snapshot more,
-- with the state that the first run gave, in which the same blocks are redacted, and with its guid, its time and its redaction guids.
abbrev pub RelayedSnapshotStands : (here here' there there' later far far' : DiskState) → Type 0
RelayedSnapshotStands here here' there there' later far far' =
    (tight : Bool) (ask : SendAsk) (receive : RecvAsk) (from into : Pool) (sent : Sent)
    → IsSender (Named ask) from sent here → IsReceiver tight receive into sent there there' → IsHop ask receive here here' there there'
    → (done : IsReplicated tight receive into sent there')
    × ((other : Bool) (again : SendAsk) (asked : RecvAsk) (third : Pool) (also : Sent)
    → IsSentOn tight receive into sent there' done again also → IsReceiver other asked third also far far' → IsHop again asked there' later far far'
    → IsReplicated other asked third also far' × GivesAlike sent also)
