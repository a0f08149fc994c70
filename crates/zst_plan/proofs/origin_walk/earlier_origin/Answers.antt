use Rattle.std.proofs.Common.{rules}
use Rattle.zst_plan.proofs.Origins.{earlier_found}
use Rattle.zst_plan.proofs.origin_walk.earlier_origin.Goals as goal

pub returns-clause-found : goal.returns-clause-found
returns-clause-found c = λ pool later are names.
    earlier_found pool later c.args.snapshot.now names c.origin_of.result c.filter.result (λ row b holds. search rules) c.filter.ensures (c.origin_of.ensures pool later are names)
