use Rattle.std.proofs.Common.{rules, append_assoc}
use Rattle.std.proofs.lemmas.Result.{IfOk-equal}
use Rattle.zst_dir.specs.Spelling.{dataset_bytes}
use Rattle.zst_dir.proofs.encoding.push_dataset.Goals as goal

pub returns : goal.returns
unfolding dataset_bytes
returns c = λ all own. search (rules, IfOk-equal, append_assoc)
