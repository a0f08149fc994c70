use Rattle.zst_laws.proofs.examples.SentObjects.{changed_items}
use Rattle.zst_laws.proofs.send_examples.changed_objects_are_sent.Goals as goal

pub returns : goal.returns
returns c = changed_items
