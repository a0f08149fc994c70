use Rattle.zst_stream.proofs.ItemStreams.{payloads_fit}
use Rattle.zst_stream.proofs.payloads_fit.Goals as goal

pub returns : goal.returns
returns c = payloads_fit
