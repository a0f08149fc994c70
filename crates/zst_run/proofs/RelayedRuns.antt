-- What was received and is sent on as it is gives what was sent.
use Rattle.std.specs.Prelude.{Bool, Ok}
use Rattle.std.specs.Option.{ok_or}
use Rattle.std.proofs.Common.{◌≡◌, ℕ, List, Option, Some, None, sym, ap, ◌∙◌}
use Rattle.zst_outside.specs.Images.{DiskState}
use Rattle.zst_image.proofs.PlainReads.{ReadsAs-plain}
use Rattle.zst_laws.proofs.pools.SendPlans.{plan_has_found}
use Rattle.zst_laws.specs.SendPlans.{PlansAreOfPool}
use Rattle.zst_model.specs.declared.refusals.plan_fault.PlanFault.{PlanFault}
use Rattle.zst_model.specs.declared.refusals.subjects.Name.TheVariants as names
use Rattle.zst_model.specs.declared.sends.ask.SendAsk.{SendAsk}
use Rattle.zst_model.specs.pools.KeptPool.{kept_of}
use Rattle.zst_model.specs.pools.Pool.{Bookmark, Pool, Snapshot, snapshot_named}
use Rattle.zst_model.specs.sends.Headers.{Sent, header_of}
use Rattle.zst_model.specs.sends.SendPlan.{absent, find_redaction, send_plan}
use Rattle.zst_plan.specs.declared.receive.RecvAsk.{RecvAsk}
use Rattle.zst_replication.specs.MatchingBases.{IsWithin, OneMoreIsKept, SentCanBeSent}
use Rattle.zst_replication.specs.Outcomes.{base_name}
use Rattle.zst_replication.specs.Relays.{GivesAlike, LeftIsSentOn}
use Rattle.zst_replication.specs.Replicas.{SentIsReceived, sent_state}
use Rattle.zst_run.specs.Relays.{IsHop, IsSentOn, RelayedSnapshotStands}
use Rattle.zst_run.specs.Replication.{IsReceiver, IsReplicated, IsSender}
use Rattle.zst_run.specs.Sends.{ReadsForSends}
use Rattle.zst_run.specs.declared.send.SendRequest.TheVariants.{Named}
use Rattle.zst_run.proofs.PipedRuns.{KeepsWhole, snapshot_stands}
use Rattle.zst_run.proofs.PlannedSends.{planned_of}
use Rattle.zst_run.proofs.Unreadable.{there_by_name}

-- ---- what is sent on

-- what is found by a name is what stands there, and what isn't named isn't found
found_is : (found : Option Snapshot) (fault : PlanFault) (own snapshot : Snapshot) → found ≡ Some own → ok_or found fault ≡ Ok snapshot → own ≡ snapshot
found_is None fault own snapshot there is = absurd (cc there)
found_is (Some other) fault own snapshot there is =
    let one : other ≡ own = cc there in
    let two : other ≡ snapshot = cc is in sym one ∙ two

none_found : (pool : Pool) (name : Option (List ℕ)) (redaction : Option Bookmark) → name ≡ None → find_redaction name pool ≡ Ok redaction → redaction ≡ None
none_found pool None redaction none is = let same : None ≡ redaction = cc is in sym same
none_found pool (Some name) redaction none is = absurd (cc none)

-- ---- the runs

module _ (plans : PlansAreOfPool) (left : LeftIsSentOn) (tight : Bool) (ask : SendAsk) (receive : RecvAsk) (from into : Pool) (sent : Sent) (here there' : DiskState) (sender : IsSender (Named ask) from sent here)
    (done : IsReplicated tight receive into sent there') (again : SendAsk) (also : Sent) (on : IsSentOn tight receive into sent there' done again also) where
  abbrev relay : Pool
  relay = kept_of done.after

  plan_on : send_plan again relay ≡ Ok also
  plan_on = planned_of (send_plan again relay) also on.is

  -- the snapshot that is sent on is the one that was received
  same_snapshot : done.more.snapshot ≡ also.snapshot
  same_snapshot =
      found_is (snapshot_named again.snap relay) (absent (names.Snapshot again.snap)) done.more.snapshot also.snapshot
      (ap (λ (name : List ℕ). snapshot_named name relay) on.named
      ∙ there_by_name into relay receive.target done.component (base_name done.base) (header_of sent) (sent_state sent) done.more)
      (plan_has_found again relay also plan_on).snapshot

  unmarked_on : also.redaction ≡ None
  unmarked_on = none_found relay again.redact also.redaction on.whole (plan_has_found again relay also plan_on).redaction

  -- so its send can be stated, and gives what the first one gave
  pub passed_on : IsWithin also × GivesAlike sent also
  passed_on =
      left from into relay receive.target done.component (base_name done.base) sent also
      (plans ask from sent sender.reads.2.lawful (planned_of (send_plan ask from) sent sender.is)).is_of
      sender.within done.more (sym same_snapshot) unmarked_on

-- a hop leaves its snapshot
hop_stands : KeepsWhole → SentCanBeSent → SentIsReceived → OneMoreIsKept → (tight : Bool) (ask : SendAsk) (receive : RecvAsk) (from into : Pool) (sent : Sent) (here here' there there' : DiskState)
    → IsSender (Named ask) from sent here → IsReceiver tight receive into sent there there' → IsHop ask receive here here' there there' → IsReplicated tight receive into sent there'
hop_stands keeps fits law kept tight ask receive from into sent here here' there there' sender receiver hop =
    snapshot_stands keeps fits law kept here here' there there' tight ask receive from into sent hop.out hop.out_after hop.reply hop.reply_after hop.input hop.input_after
    sender hop.honest receiver hop.sends hop.receives hop.piped

pub relayed_stands : KeepsWhole → SentCanBeSent → SentIsReceived → OneMoreIsKept → PlansAreOfPool → LeftIsSentOn → ReadsForSends → (here here' there there' later far far' : DiskState)
    → RelayedSnapshotStands here here' there there' later far far'
relayed_stands keeps fits law kept plans left for_sends here here' there there' later far far' tight ask receive from into sent sender receiver hop =
    let done = hop_stands keeps fits law kept tight ask receive from into sent here here' there there' sender receiver hop in
    let relay = kept_of done.after in (
      done,
      λ other again asked third also on next hop_on.
          let passed = passed_on plans left tight ask receive from into sent here there' sender done again also on in
          let sender_on : IsSender (Named again) relay also there' = record {
            reads = for_sends (Named again) relay there'.seen (done.keeps.0, done.keeps.1, ReadsAs-plain done.keeps.0 done.keeps.1 relay there'.seen done.keeps.2.reads);
            is = on.is;
            within = passed.0;
          } in (
            hop_stands keeps fits law kept other again asked relay third also there' later far far' sender_on next hop_on,
            passed.1,
          ),
    )
