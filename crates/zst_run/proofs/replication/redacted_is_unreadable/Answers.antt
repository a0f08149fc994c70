use Rattle.zst_run.proofs.Unreadable as unreadable
use Rattle.zst_run.proofs.replication.redacted_is_unreadable.Goals as goal

pub returns-clause-exactly : goal.returns-clause-exactly
returns-clause-exactly g c = unreadable.redacted_exactly

pub returns-clause-unreadable : goal.returns-clause-unreadable
returns-clause-unreadable g c = λ there later. unreadable.redacted_is_unreadable _ _
