-- What is sent of a lawful pool is bytes.
use Rattle.std.proofs.Common.{◌≡◌, ◌^◌, ◌<◌, ◌&&◌, nat_lt, length, Contains, Option, Some, None, Result, Ok, ◌∙◌}
use Rattle.std.proofs.lemmas.List.Elements.{All-contains, All-weaker}
use Rattle.zst_names.specs.Names.{IsSnapshot}
use Rattle.zst_names.proofs.SnapshotNames.{IsTextByte, snapshot_bytes}
use Rattle.zst_laws.specs.SendPlans.{PlansAreOfPool}
use Rattle.zst_model.specs.declared.refusals.faults.Lack.TheVariants as lacks
use Rattle.zst_model.specs.declared.refusals.faults.Quantity.TheVariants as quantities
use Rattle.zst_model.specs.declared.refusals.plan_fault.PlanFault.{PlanFault}
use Rattle.zst_model.specs.declared.refusals.plan_fault.PlanFault.TheVariants as plans
use Rattle.zst_model.specs.declared.sends.header.Point.{Point}
use Rattle.zst_model.specs.fields.Guids.{IsGuidSet}
use Rattle.zst_model.specs.pools.Limits.{most_runs}
use Rattle.zst_model.specs.pools.Pool.{IsGuid, IsPool, Pool, Snapshot}
use Rattle.zst_model.specs.sends.Headers.{Sent, choice_of, source_runs}
use Rattle.zst_model.specs.sends.SendPlan.{if_listed, is_redacted, send_plan, with_list}
use Rattle.zst_model.specs.states.State.{AreBytes, IsState}
use Rattle.zst_model.proofs.Results.{bind_ok, unless_ok}
use Rattle.zst_record.specs.Payload.{stated_point}
use Rattle.zst_stream.specs.Records.{TextIsBytes}
use Rattle.zst_plan.specs.ResumePlan.{resumed_send}
use Rattle.zst_plan.proofs.FoundTokens.{of_token}
use Rattle.zst_send.specs.Openings.{rest_of}
use Rattle.zst_send.specs.SentBytes.{RestsAreBytes, SentAreBytes}
use Rattle.zst_send.specs.Sends.{begun, begun_text}

-- what is opened was planned
planned : (plan : Result Sent PlanFault) (sent : Sent) → with_list plan ≡ Ok sent → plan ≡ Ok sent
planned plan sent e =
    let found = bind_ok plan if_listed sent e in
    found.1 ∙ (unless_ok (is_redacted found.0.source && nat_lt most_runs (length (source_runs found.0.source))) (plans.Limit quantities.Runs most_runs) (Ok found.0) sent found.2).1

module _ (law : TextIsBytes) (pool : Pool) (p : IsPool pool) (sent : Sent) (there : Contains pool.snapshots sent.snapshot) where
  lawful : IsState sent.snapshot.objects.state
  lawful = (All-contains (λ (s : Snapshot). IsGuid s.guid × IsGuidSet s.redact × IsState s.objects.state × (s.time < 2 ^ 64)) pool.snapshots sent.snapshot p.snapshots there).2

  name : AreBytes sent.snapshot.name
  name =
      let is = All-contains (λ (s : Snapshot). IsSnapshot s.name) pool.snapshots sent.snapshot p.named.snapshot_names there in
      All-weaker IsTextByte (λ byte. byte < 2 ^ 8) (λ byte h. h.1) sent.snapshot.name (snapshot_bytes sent.snapshot.name is)

  -- the text of a snapshot of the pool, from wherever it begins
  text : (start : Option Point) → AreBytes (begun_text sent start)
  text None = law (begun sent None) sent.snapshot.objects (choice_of sent) (stated_point None) lawful name
  text (Some point) = law (begun sent (Some point)) sent.snapshot.objects (choice_of sent) (stated_point (Some point)) lawful name

pub sent_are : TextIsBytes → PlansAreOfPool → SentAreBytes
sent_are law plans_are ask pool sent p e = text law pool p sent (plans_are ask pool sent p (planned (send_plan ask pool) sent e)).is_of.snapshot None

pub rests_are : TextIsBytes → RestsAreBytes
rests_are law token pool sent p e =
    let resumed = (unless_ok token.large (plans.Unsupported lacks.LargeBlocks) (resumed_send token pool) sent (planned (rest_of token pool) sent e)).1 in
    text law pool p sent (of_token token pool sent p resumed).snapshot (Some token.point)
