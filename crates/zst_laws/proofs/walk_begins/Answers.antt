use Rattle.zst_laws.proofs.sends.Walk.{walk_starts}
use Rattle.zst_laws.proofs.walk_begins.Goals as goal

pub returns : goal.returns
returns c = walk_starts
