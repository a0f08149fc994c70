use Rattle.zst_dir.proofs.OneDirectory.{one_directory}
use Rattle.zst_dir.proofs.laws.bytes_are_one_directory.Goals as goal

pub returns : goal.returns
returns c = one_directory
