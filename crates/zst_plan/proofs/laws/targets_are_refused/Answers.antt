use Rattle.zst_plan.proofs.RefusedStreams.{target_there, latest_another, latest_absent, target_of_kind, head_changed, mark_later}
use Rattle.zst_plan.proofs.laws.targets_are_refused.Goals as goal

pub returns : goal.returns
returns c = record { there = target_there; another = latest_another; none = latest_absent; kind = target_of_kind; changed = head_changed; bookmark = mark_later }
