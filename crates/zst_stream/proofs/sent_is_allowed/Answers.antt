use Rattle.zst_stream.proofs.AllowedItems.{sent_allowed}
use Rattle.zst_stream.proofs.sent_is_allowed.Goals as goal

pub returns : goal.returns
returns c = sent_allowed
