use Rattle.zst_stream.proofs.Growth.{front}
use Rattle.zst_stream.proofs.fronts_agree.Goals as goal

pub returns : goal.returns
returns c = front
