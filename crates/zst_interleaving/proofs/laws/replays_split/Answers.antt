use Rattle.zst_interleaving.proofs.SplitReplays as proofs
use Rattle.zst_interleaving.proofs.laws.replays_split.Goals as goal

pub returns : goal.returns
returns c = record { split = proofs.replays_split; ways = proofs.ways_in_events }
