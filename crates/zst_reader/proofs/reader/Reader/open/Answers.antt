use Rattle.std.proofs.Common.{refl}
use Rattle.zst_reader.proofs.StandsForLemmas.{opened}
use Rattle.zst_reader.proofs.reader.Reader.open.Goals as goal

pub returns : goal.returns
returns c = record { stands = opened _ c.in_ok-new.ensures c.first.ensures c.first.ensures.at refl refl; mark = refl }
