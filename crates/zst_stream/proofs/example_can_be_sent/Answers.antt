use Rattle.zst_stream.proofs.ExampleLaws.{example-can}
use Rattle.zst_stream.proofs.example_can_be_sent.Goals as goal

pub returns : goal.returns
returns c = example-can
