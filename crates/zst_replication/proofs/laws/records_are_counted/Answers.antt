use Rattle.zst_replication.proofs.RecordCounts.{records_counted}
use Rattle.zst_replication.proofs.laws.records_are_counted.Goals as goal

pub returns : goal.returns
returns c = records_counted c.covered_in_order.ensures c.fronts_agree.ensures
