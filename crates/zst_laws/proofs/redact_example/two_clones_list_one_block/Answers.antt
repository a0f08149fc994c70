use Rattle.zst_laws.proofs.examples.RedactExamples.{two_clones_list, redacted_items}
use Rattle.zst_laws.proofs.redact_example.two_clones_list_one_block.Goals as goal

pub returns : goal.returns
returns c = record { listed = two_clones_list; sent = redacted_items }
