use Rattle.zst_laws.proofs.examples.FileExamples.{small_points}
use Rattle.zst_laws.proofs.small_has_its_points.Goals as goal

pub returns : goal.returns
returns c = small_points
