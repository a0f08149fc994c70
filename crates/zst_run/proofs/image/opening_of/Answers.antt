use Rattle.zst_run.proofs.LineRanges.{in_range}
use Rattle.zst_run.proofs.image.opening_of.Goals as goal

pub opening_for-requires : goal.opening_for-requires
opening_for-requires c = in_range c.in-Ok.line _ c.in-Ok.ensures.0 c.in-Ok.ensures.1
