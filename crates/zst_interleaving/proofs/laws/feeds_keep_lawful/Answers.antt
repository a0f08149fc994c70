use Rattle.zst_interleaving.proofs.LawfulRecords.{feeds_lawful}
use Rattle.zst_interleaving.proofs.laws.feeds_keep_lawful.Goals as goal

pub returns : goal.returns
returns c = feeds_lawful c.received_is_state.ensures.state c.covered_fit.ensures
