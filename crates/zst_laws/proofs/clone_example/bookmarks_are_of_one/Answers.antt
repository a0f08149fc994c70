use Rattle.zst_laws.proofs.examples.CloneExamples.{made_of_one}
use Rattle.zst_laws.proofs.clone_example.bookmarks_are_of_one.Goals as goal

pub returns : goal.returns
returns c = made_of_one
