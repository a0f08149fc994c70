use Rattle.zst_check.proofs.OwnSnapshots.{own_stands}
use Rattle.zst_check.proofs.redactions.own_of.Goals as goal

pub returns-clause-own : goal.returns-clause-own
returns-clause-own c = λ pool bookmark snapshot are dated names.
    own_stands c.args.dir.now.snapshots pool c.args.row.now bookmark c.first_own.result c.first_own.ensures are.snapshots dated names snapshot
