use Rattle.std.proofs.Common.{arith}
use Rattle.zst_objset.proofs.trees.counted.Goals as goal

pub returns-clause-looks : goal.returns-clause-looks
returns-clause-looks g c =
    let looks = c.get.ensures.looks in
    record { looks = looks.by_steps.looks; calls = omega (arith, looks.by_steps.calls, looks.few) }
