use Rattle.zst_laws.proofs.examples.Meanings.{headers_from}
use Rattle.zst_laws.proofs.meanings.headers_say_resuming.Goals as goal

pub returns : goal.returns
returns c = headers_from
