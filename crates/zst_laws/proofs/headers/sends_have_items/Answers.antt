use Rattle.zst_laws.proofs.examples.HeaderExamples.{sent_items}
use Rattle.zst_laws.proofs.headers.sends_have_items.Goals as goal

pub returns : goal.returns
returns c = sent_items
