use Rattle.zst_laws.proofs.pools.StepRefusals.{dataset_there, target_there, datasets_full, targets_count, dataset_number}
use Rattle.zst_laws.proofs.step_refusals.new_datasets_are_refused.Goals as goal

pub returns : goal.returns
returns c = record { there = dataset_there; begun = target_there; full = datasets_full; counted = targets_count; number = dataset_number }
