use Rattle.zst_stream.proofs.FindingLaws.{Finds-reading}
use Rattle.zst_stream.proofs.faults_are_found.Goals as goal

pub returns : goal.returns
returns c = Finds-reading
