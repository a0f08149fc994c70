use Rattle.zst_laws.proofs.pools.Redactions.{redact_absent, redact_wants_each, redact_elsewhere, redact_there, redact_relayed, redact_earlier, redacts_full, redact_long, redact_number}
use Rattle.zst_laws.proofs.redactions.redactions_are_refused.Goals as goal

pub returns : goal.returns
returns c = record {
  absent = redact_absent;
  each = redact_wants_each;
  elsewhere = redact_elsewhere;
  there = redact_there;
  relayed = redact_relayed;
  earlier = redact_earlier;
  full = redacts_full;
  long = redact_long;
  number = redact_number;
}
