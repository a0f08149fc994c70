use Rattle.std.proofs.Common.{ap, arith}
use Rattle.zst_pool.proofs.CheckLemmas.{at_last_number, below_last_number}
use Rattle.zst_uber.specs.declared.uber.Uber.{Uber}
use Rattle.zst_pool.proofs.checks.check_number.Goals as goal

pub returns-then-number-ge-LAST_NUMBER-clause-judged : goal.returns-then-number-ge-LAST_NUMBER-clause-judged
returns-then-number-ge-LAST_NUMBER-clause-judged c = λ pool is. at_last_number pool (omega (arith, is, ap (λ (u : Uber). u.number) c.uber.ensures, c.if-number-ge-LAST_NUMBER.true))

pub returns-clause-judged : goal.returns-clause-judged
returns-clause-judged c = λ pool is. below_last_number pool (omega (arith, is, ap (λ (u : Uber). u.number) c.uber.ensures, c.if-number-ge-LAST_NUMBER.false))
