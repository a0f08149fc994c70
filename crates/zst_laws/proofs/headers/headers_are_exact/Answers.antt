use Rattle.zst_laws.proofs.examples.HeaderExamples.{full_header, volume_header, increment_headers, source_header, clone_headers, redacted_header, relay_headers}
use Rattle.zst_laws.proofs.headers.headers_are_exact.Goals as goal

pub returns : goal.returns
returns c = record {
  full = full_header;
  volume = volume_header;
  increments = increment_headers;
  source = source_header;
  clones = clone_headers;
  redacted = redacted_header;
  relayed = relay_headers;
}
