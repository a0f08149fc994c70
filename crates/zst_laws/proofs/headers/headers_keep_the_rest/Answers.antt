use Rattle.zst_laws.proofs.examples.HeaderExamples.{point_headers}
use Rattle.zst_laws.proofs.headers.headers_keep_the_rest.Goals as goal

pub returns : goal.returns
returns c = point_headers
