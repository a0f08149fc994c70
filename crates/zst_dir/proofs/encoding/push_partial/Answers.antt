use Rattle.std.proofs.Common.{rules, append_assoc}
use Rattle.std.proofs.lemmas.Result.{IfOk-equal}
use Rattle.zst_dir.specs.Spelling.{partial_bytes}
use Rattle.zst_dir.proofs.encoding.push_partial.Goals as goal

pub returns : goal.returns
unfolding partial_bytes
returns c = search (rules, IfOk-equal, append_assoc)
