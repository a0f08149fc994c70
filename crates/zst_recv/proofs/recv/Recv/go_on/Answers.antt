use Rattle.std.proofs.Common.{arith, rules}
use Rattle.zst_recv.proofs.recv.Recv.go_on.Goals as goal
use Rattle.zst_recv.proofs.recv.Recv.go_on.Goals.{then-done, else-done}

pub returns-clause-front : goal.returns-clause-front
returns-clause-front c = λ text handed stands over.
    elim c.if-done.branch [
      | then-done w ↦ omega (arith, w.used-is, w.saturating_sub.ensures, w.covered.ensures text handed stands)
      | else-done w ↦ absurd (search rules)
    ]
