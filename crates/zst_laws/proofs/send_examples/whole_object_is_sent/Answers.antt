use Rattle.zst_laws.proofs.examples.SentObjects.{whole_items}
use Rattle.zst_laws.proofs.send_examples.whole_object_is_sent.Goals as goal

pub returns : goal.returns
returns c = whole_items
