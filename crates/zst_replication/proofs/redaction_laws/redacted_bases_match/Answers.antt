use Rattle.zst_replication.proofs.RedactedBases as redacted_bases
use Rattle.zst_replication.proofs.redaction_laws.redacted_bases_match.Goals as goal

pub returns : goal.returns
returns c = record {
  contained = redacted_bases.contained_is_base c.covered_is_base.ensures c.contained_is_covered.ensures;
  matches = redacted_bases.redacted_bases_match c.covered_is_base.ensures c.contained_is_covered.ensures;
  marked = redacted_bases.marked_sent;
}
