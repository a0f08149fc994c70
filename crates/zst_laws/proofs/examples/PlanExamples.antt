-- What is planned in small pools.
use Rattle.std.proofs.Common.{refl}
use Rattle.zst_model.specs.refusals.PlanFault.{plan_text}
use Rattle.zst_model.specs.refusals.Refusal.{text_of}
use Rattle.zst_model.specs.sends.Headers.{clone_flag, flags_of, free_records, spill_block}
use Rattle.zst_model.specs.sends.SendPlan.{is_before_in, send_plan}
use Rattle.zst_laws.specs.PlanExample.{BookmarksArePlanned, ClonesArePlanned, PlansAreTold, RedactedArePlanned, SnapshotsArePlanned}

pub snapshots_planned : SnapshotsArePlanned
unfolding send_plan is_before_in
snapshots_planned now = (refl, refl, refl, refl, refl, refl, refl)

pub bookmarks_planned : BookmarksArePlanned
unfolding send_plan is_before_in
bookmarks_planned now = (refl, refl)

pub plans_told : PlansAreTold
unfolding text_of plan_text
plans_told = (record { numbered = refl; worded = refl }, record { numbered = refl; worded = refl }, record { numbered = refl; worded = refl })

pub clones_planned : ClonesArePlanned
unfolding send_plan is_before_in flags_of clone_flag free_records spill_block
clones_planned = (refl, refl, refl, refl)

pub redacted_planned : RedactedArePlanned
unfolding send_plan is_before_in
redacted_planned = (refl, refl, refl, refl, refl, refl)
