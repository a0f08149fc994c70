use Rattle.zst_run.proofs.PipedRuns.{refused_so}
use Rattle.zst_run.proofs.replication.refused_leaves_nothing.Goals as goal

pub returns : goal.returns
returns g c = λ there later. refused_so (c.keeping_is_done.ensures, c.images_keep_partials.ensures) c.cut_leaves_nothing.ensures c.left_is_kept.ensures _ _
