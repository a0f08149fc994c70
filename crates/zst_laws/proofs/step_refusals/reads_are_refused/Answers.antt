use Rattle.zst_laws.proofs.pools.StepRefusals.{name_absent, read_object, read_redacted, read_far}
use Rattle.zst_laws.proofs.step_refusals.reads_are_refused.Goals as goal

pub returns : goal.returns
returns c = record { absent = name_absent; object = read_object; redacted = read_redacted; far = read_far }
