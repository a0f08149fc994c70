use Rattle.zst_laws.proofs.sends.ExactSends.{view_is_view}
use Rattle.zst_laws.proofs.snapshot_has_view.Goals as goal

pub returns : goal.returns
returns c = view_is_view
