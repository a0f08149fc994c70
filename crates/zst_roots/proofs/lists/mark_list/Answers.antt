use Rattle.std.proofs.Common.{arith}
use Rattle.zst_roots.proofs.lists.mark_list.Goals as goal

pub returns-then-row-eq0-clause-all : goal.returns-then-row-eq0-clause-all
returns-then-row-eq0-clause-all g c = λ honest sector reached under. absurd (omega (arith, reached.0, c.if-row-eq0.true))
