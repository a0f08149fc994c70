use Rattle.std.proofs.Common.{◌≡◌}
use Rattle.zst_dir.specs.Rows.{with_head_at}
use Rattle.zst_dir.proofs.Heads.{changed_to}
use Rattle.zst_dir.proofs.dir.set_head.Given as goal

abbrev pub invariant-loop-dataset : goal.invariant-loop-dataset
invariant-loop-dataset l = l.datasets ≡ changed_to (with_head_at l.name l.head) l.dataset-index l.initial.datasets
