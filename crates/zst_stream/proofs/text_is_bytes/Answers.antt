use Rattle.zst_stream.proofs.TextBytes.{text_is_bytes}
use Rattle.zst_stream.proofs.text_is_bytes.Goals as goal

pub returns : goal.returns
returns c = text_is_bytes
