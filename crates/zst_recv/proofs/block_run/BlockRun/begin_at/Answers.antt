use Rattle.std.proofs.Common.{◌<◌, ℕ, subst, sym}
use Rattle.zst_objset.proofs.WriteLaws.{block_some}
use Rattle.zst_recv.proofs.block_run.BlockRun.begin_at.Goals as goal

pub nonzero_div-first : goal.nonzero_div-first
nonzero_div-first c = subst (λ (n : ℕ). 0 < n) (sym c.from.ensures) (block_some c.args.size c.requires.size)
