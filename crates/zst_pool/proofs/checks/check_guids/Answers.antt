use Rattle.std.proofs.Common.{ap, arith}
use Rattle.zst_pool.proofs.CheckLemmas.{at_last_guid, below_last_guid}
use Rattle.zst_uber.specs.declared.uber.Uber.{Uber}
use Rattle.zst_pool.proofs.checks.check_guids.Goals as goal

pub returns-then-guids-ge-LAST_GUID-clause-judged : goal.returns-then-guids-ge-LAST_GUID-clause-judged
returns-then-guids-ge-LAST_GUID-clause-judged c = λ rest. at_last_guid c.args.body.now.uber.guids rest (omega (arith, ap (λ (u : Uber). u.guids) c.uber.ensures, c.if-guids-ge-LAST_GUID.true))

pub returns-clause-judged : goal.returns-clause-judged
returns-clause-judged c = λ rest. below_last_guid c.args.body.now.uber.guids rest (omega (arith, ap (λ (u : Uber). u.guids) c.uber.ensures, c.if-guids-ge-LAST_GUID.false))
