use Rattle.zst_laws.proofs.examples.HeaderExamples.{sent_is_stated, sent_has_view}
use Rattle.zst_laws.proofs.headers.sends_are_stated.Goals as goal

pub returns : goal.returns
returns c = record { header = sent_is_stated; view = sent_has_view }
