use Rattle.std.proofs.Common.{rules, append_assoc}
use Rattle.std.proofs.lemmas.Result.{IfOk-equal}
use Rattle.zst_bytes.specs.Words.{text_bytes}
use Rattle.zst_bytes.proofs.words.push_text.Goals as goal

pub returns : goal.returns
unfolding text_bytes
returns c = search (rules, IfOk-equal, append_assoc)
