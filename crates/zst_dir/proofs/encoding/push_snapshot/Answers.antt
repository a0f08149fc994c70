use Rattle.std.proofs.Common.{rules, append_assoc}
use Rattle.std.proofs.lemmas.Result.{IfOk-equal}
use Rattle.zst_dir.specs.Spelling.{snapshot_bytes}
use Rattle.zst_dir.proofs.encoding.push_snapshot.Goals as goal

pub returns : goal.returns
unfolding snapshot_bytes
returns c = search (rules, IfOk-equal, append_assoc)
