use Rattle.zst_laws.proofs.examples.Meanings.{lists_can_be_redacted}
use Rattle.zst_laws.proofs.meanings.lists_can_be_redacted.Goals as goal

pub returns : goal.returns
returns c = lists_can_be_redacted
