use Rattle.zst_dir.specs.Spelling.{snapshot_bytes}
use Rattle.zst_dir.proofs.SpelledRows.{spelled-none, spelled-more, spelled-all}
use Rattle.zst_dir.proofs.encoding.push_snapshots.Goals as goal

pub loop-snapshot-init : goal.loop-snapshot-init
loop-snapshot-init c = spelled-none snapshot_bytes c.args.out.now.items c.args.snapshots.now c.push_word.new.out.items c.in_ok-push_word.ensures

pub loop-snapshot-preserved : goal.loop-snapshot-preserved
loop-snapshot-preserved c =
    spelled-more snapshot_bytes c.args.out.now.items c.args.snapshots.now c.loop-snapshot.snapshot-index c.snapshot-item.result c.loop-snapshot.out.items c.push_snapshot.new.out.items
    c.loop-snapshot-test.true c.snapshot-item.is c.loop-snapshot.invariant c.in_ok-push_snapshot.ensures

pub returns : goal.returns
returns c = spelled-all snapshot_bytes c.args.out.now.items c.args.snapshots.now c.loop-snapshot.snapshot-index c.loop-snapshot.out.items c.loop-snapshot-test.false c.loop-snapshot.invariant
