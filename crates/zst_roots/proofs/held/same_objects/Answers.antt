use Rattle.std.proofs.Common.{List, subst, sym}
use Rattle.zst_dir.specs.declared.rows.Snapshot.{Snapshot}
use Rattle.zst_roots.specs.ReachedRows.{AreMarkedForSnapshots}
use Rattle.zst_roots.proofs.held.same_objects.Goals as goal

pub returns : goal.returns
returns c = λ image marks end are. c.objects_at.ensures.marked image marks end (subst (λ (rows : List Snapshot). AreMarkedForSnapshots image end marks rows) (sym c.snapshots-rows.ensures) are)
