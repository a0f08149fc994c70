use Rattle.std.proofs.Common.{All, take, Contains}
use Rattle.zst_dir.specs.RowNames.{AreNamed, NamesSnapshot}
use Rattle.zst_model.specs.pools.Pool.{IsPool, Pool, Snapshot}
use Rattle.zst_model.specs.pools.Soundness.{Sound}
use Rattle.zst_check.specs.Redactions.{IsSetOfRow}
use Rattle.zst_check.proofs.RedactionSets.{HasSetsFor}
use Rattle.zst_check.proofs.redactions.redaction_sets.Given as goal

-- the sets are those of rows, and of the redaction snapshots of the guids so far
abbrev pub invariant-loop-guid : goal.invariant-loop-guid
invariant-loop-guid l = record {
  rows : All (IsSetOfRow l.dir.snapshots) l.sets.items;
  only : (pool : Pool) (own : Snapshot) → AreNamed l.dir pool → IsPool pool → Sound pool → Contains pool.snapshots own → NamesSnapshot l.own own
      → HasSetsFor l.dir.snapshots pool own (take l.guid-index l.guids) l.sets.items;
}
