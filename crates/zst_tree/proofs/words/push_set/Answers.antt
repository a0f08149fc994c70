use Rattle.std.proofs.Common.{rules, append_assoc}
use Rattle.std.proofs.lemmas.Result.{IfOk-equal}
use Rattle.zst_tree.specs.Sets.{set_bytes}
use Rattle.zst_tree.proofs.words.push_set.Goals as goal

pub returns : goal.returns
unfolding set_bytes
returns c = search (rules, IfOk-equal, append_assoc)
