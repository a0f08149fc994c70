use Rattle.std.proofs.Common.{List, subst}
use Rattle.zst_dir.specs.declared.rows.Snapshot.{Snapshot}
use Rattle.zst_block.specs.IoStates.{disk_of}
use Rattle.zst_roots.specs.WalkedRows.{IsOfOne}
use Rattle.zst_count.proofs.RowWalks.{one_met, one_read}
use Rattle.zst_count.proofs.rows.count_beside.Goals as goal

pub returns-clause-all : goal.returns-clause-all
returns-clause-all g c = λ honest known.
    let one = subst (λ (rows : List Snapshot). IsOfOne rows c.objects_at-known.result) c.snapshots.ensures c.objects_at-known.ensures.one in
    c.count_set.ensures.all honest (one_met (disk_of c.args.io.now).seen c.args.met.now.end c.args.met.now.marks c.args.dir.now.snapshots c.objects_at-known.result one known)

pub returns-clause-read : goal.returns-clause-read
returns-clause-read g c = λ honest known.
    let one = subst (λ (rows : List Snapshot). IsOfOne rows c.objects_at-known.result) c.snapshots.ensures c.objects_at-known.ensures.one in
    c.count_set.ensures.read honest (one_read (disk_of c.args.io.now).seen c.args.dir.now.snapshots c.objects_at-known.result one known)
