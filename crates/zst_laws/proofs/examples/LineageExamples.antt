-- The examples of a clone and of a rollback.
use Rattle.std.proofs.Common.{[], ◌∷◌, refl}
use Rattle.std.specs.Fmt.{digits}
use Rattle.hex.specs.Hex.{encode_with}
use Rattle.zst_model.specs.pools.AnswerLines.{pool_lines}
use Rattle.zst_model.specs.pools.Pool.{inserted}
use Rattle.zst_model.specs.pools.Step.{stepped, last_number, last_guid, most_datasets, most_snapshots, most_bookmarks}
use Rattle.zst_model.specs.refusals.PlanFault.{plan_text}
use Rattle.zst_model.specs.refusals.Refusal.{text_of}
use Rattle.zst_model.specs.refusals.Texts.{guid_text}
use Rattle.zst_laws.specs.LineageExample.{first_taken, CloneHoldsOrigin, MarkHoldsHead, HoldersAreTold}
use Rattle.zst_laws.proofs.examples.StepExamples.{written_again}

pub clone_holds : CloneHoldsOrigin
unfolding stepped pool_lines inserted last_number last_guid most_datasets most_snapshots most_bookmarks guid_text encode_with digits
clone_holds now = (refl, refl, refl, refl, refl, refl, refl, refl)

pub mark_holds : MarkHoldsHead
unfolding stepped inserted last_number last_guid most_snapshots most_bookmarks digits
mark_holds now = (refl, written_again [] now 1 (first_taken now ∷ []) [], refl, refl, refl, refl, refl, refl)

pub holders_told : HoldersAreTold
unfolding text_of plan_text
holders_told = (record { numbered = refl; worded = refl }, record { numbered = refl; worded = refl }, record { numbered = refl; worded = refl })
