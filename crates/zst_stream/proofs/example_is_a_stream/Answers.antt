use Rattle.zst_stream.proofs.ExampleLaws.{example-fits}
use Rattle.zst_stream.proofs.example_is_a_stream.Goals as goal

pub returns : goal.returns
returns c = example-fits
