use Rattle.zst_replication.proofs.KeptReceives.{tokens_agree, tokens_of_kept}
use Rattle.zst_replication.proofs.feed_laws.tokens_are_of_kept.Goals as goal

pub returns : goal.returns
returns c = record { kept = tokens_of_kept; agree = tokens_agree }
