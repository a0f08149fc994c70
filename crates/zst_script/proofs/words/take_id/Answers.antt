use Rattle.std.proofs.Common.{arith}
use Rattle.zst_script.proofs.WordLists.{id_taken}
use Rattle.zst_script.proofs.words.take_id.Goals as goal

pub returns : goal.returns
returns c =
    id_taken c.args.words.now.items c.remove.new.self.items c.index.result.now c.as_str.result.now c.in_ok-id.id (omega arith) c.index.ensures c.as_str.ensures.value c.remove.ensures.items c.in_ok-id.ensures.0 c.in_ok-id.ensures.1
