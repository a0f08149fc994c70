use Rattle.std.proofs.Common.{◌<◌, IfSome}
use Rattle.zst_dir.specs.RowNames.{AreNamed, NamesSnapshot}
use Rattle.zst_model.specs.pools.Pool.{Pool, Snapshot}
use Rattle.zst_check.proofs.OnlyPlaces.{PassesOnly}
use Rattle.zst_check.proofs.OwnSnapshots.{is_later}
use Rattle.zst_check.proofs.redactions.only_behind.Given as goal

-- of the snapshots so far only the one that was found is so
abbrev pub invariant-loop-place : goal.invariant-loop-place
invariant-loop-place l = record {
  only : (pool : Pool) (own : Snapshot) → AreNamed l.dir pool → NamesSnapshot l.own own → PassesOnly (is_later pool own l.guid) pool.snapshots l.place l.found;
  inside : IfSome l.found (λ found. found < l.place);
}
