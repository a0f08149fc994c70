use Rattle.zst_plan.proofs.RefusedStreams.{origin_absent, origin_another, full_frees, source_absent, clone_of_kind}
use Rattle.zst_plan.proofs.laws.new_targets_are_refused.Goals as goal

pub returns : goal.returns
returns c = record { absent = origin_absent; another = origin_another; frees = full_frees; source = source_absent; kind = clone_of_kind }
