use Rattle.std.proofs.Common.{arith}
use Rattle.zst_run.proofs.DumpLemmas.{no_memory}
use Rattle.zst_run.proofs.dump.dump.Goals as goal

pub returns-in_default : goal.returns-in_default
returns-in_default g c = no_memory _ _

pub turns-preserved : goal.turns-preserved
turns-preserved g c =
    let t = c.in-None.ensures _ _ c.turns.invariant.dumping in
    record { dumping = t.0; turns = let e = t.1 in let f = c.turns.invariant.turns in omega arith }
