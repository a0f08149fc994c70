use Rattle.zst_replication.proofs.FeedFaults.{faults_keep_front, others_leave_all, unkept_leave_nothing, unplanned_leave_all}
use Rattle.zst_replication.proofs.feed_laws.refusals_leave_front.Goals as goal

pub returns : goal.returns
returns c = record {
  front = faults_keep_front c.fronts_agree.ensures c.received_is_state.ensures.applied;
  others = others_leave_all c.fronts_agree.ensures c.received_is_state.ensures.applied;
  unplanned = unplanned_leave_all c.fronts_agree.ensures c.received_is_state.ensures.applied;
  unkept = unkept_leave_nothing c.fronts_agree.ensures c.received_is_state.ensures.applied;
}
