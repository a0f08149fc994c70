use Rattle.zst_replication.proofs.AcceptedSends.{rest_accepted, rest_taken}
use Rattle.zst_replication.proofs.laws.rest_is_accepted.Goals as goal

pub returns : goal.returns
returns c = record {
  taken = rest_taken c.grounds_stand.ensures c.items_are_near.ensures c.tokens_go_on.ensures;
  accepted = rest_accepted c.grounds_stand.ensures c.items_are_near.ensures c.tokens_go_on.ensures;
}
