use Rattle.zst_laws.proofs.sends.Walk.{walk_stops}
use Rattle.zst_laws.proofs.walk_ends.Goals as goal

pub returns : goal.returns
returns c = walk_stops
