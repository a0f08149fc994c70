use Rattle.zst_laws.proofs.pools.RefusedSends.{snapshot_wanted, source_wanted, bookmark_wanted, source_later, bookmark_other, relay_last, else_planned, long_list_refused}
use Rattle.zst_laws.proofs.send_plans.sends_are_refused_in_order.Goals as goal

pub returns : goal.returns
returns c = record {
  absent = snapshot_wanted;
  no_source = source_wanted;
  no_bookmark = bookmark_wanted;
  later = source_later;
  other = bookmark_other;
  relay = relay_last;
  planned = else_planned;
  long = long_list_refused;
}
