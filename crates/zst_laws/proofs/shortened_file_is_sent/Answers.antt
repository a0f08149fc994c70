use Rattle.zst_laws.proofs.examples.FileExamples.{shortened_items}
use Rattle.zst_laws.proofs.shortened_file_is_sent.Goals as goal

pub returns : goal.returns
returns c = shortened_items
