use Rattle.std.proofs.Common.{◌≡◌}
use Rattle.zst_dir.specs.Rows.{with_objects_at}
use Rattle.zst_dir.proofs.Heads.{changed_to}
use Rattle.zst_dir.proofs.dir.set_objects.Given as goal

abbrev pub invariant-loop-row : goal.invariant-loop-row
invariant-loop-row l = l.datasets ≡ changed_to (with_objects_at l.name l.head l.redact) l.row-index l.initial.datasets
