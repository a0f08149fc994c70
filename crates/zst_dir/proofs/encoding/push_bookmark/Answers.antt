use Rattle.std.proofs.Common.{rules, append_assoc}
use Rattle.std.proofs.lemmas.Result.{IfOk-equal}
use Rattle.zst_dir.specs.Spelling.{bookmark_bytes}
use Rattle.zst_dir.proofs.encoding.push_bookmark.Goals as goal

pub returns : goal.returns
unfolding bookmark_bytes
returns c = search (rules, IfOk-equal, append_assoc)
