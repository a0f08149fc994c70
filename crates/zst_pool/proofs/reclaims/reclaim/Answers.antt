use Rattle.std.specs.Prelude.{All, Err}
use Rattle.std.proofs.Common.{◌↔◌, ◌∙◌, ℕ, ◌<◌, List, false, subst, sym}
use Rattle.zst_space.specs.FreeSectors.{FreeSectors, IsFree}
use Rattle.zst_marks.specs.Marks.{IsMarked}
use Rattle.zst_block.specs.Blocks.{Has, IsBlock}
use Rattle.zst_block.specs.IoStates.{disk_of, io_of}
use Rattle.zst_block.specs.declared.fault.BlockFault.{BlockFault}
use Rattle.zst_block.proofs.IoCallLemmas.{Looks-then}
use Rattle.zst_model.proofs.Results.{err_is}
use Rattle.zst_objset.specs.Damage.{IfDamage}
use Rattle.zst_extents.specs.StoredExtents.{HasExtents}
use Rattle.zst_tree.specs.Damage.{IsSeen}
use Rattle.zst_tree.specs.Faults.{IfFault}
use Rattle.zst_tree.specs.Indices.{IsNoDamage}
use Rattle.zst_tree.specs.declared.or_memory.OrMemory.TheVariants.{Fault}
use Rattle.zst_uber.specs.declared.uber.Uber.{Uber}
use Rattle.zst_image.specs.Bodies.{free_by}
use Rattle.zst_image.specs.Reads.{HasDir, RunsBy, bound_of}
use Rattle.zst_image.proofs.OpenAnswers.{IsSynced-reads}
use Rattle.zst_roots.specs.RowDamage.{IsDamagedInPool}
use Rattle.zst_roots.specs.StandingRows.{HeldStands}
use Rattle.zst_roots.specs.Unreached.{IsFoundFor, IsReached, StaysReached}
use Rattle.zst_roots.specs.declared.unreached.UnreachedSectors.{UnreachedSectors}
use Rattle.zst_pool.specs.Damage.{reclaim_damage}
use Rattle.zst_pool.specs.Faults.{of_block, or_memory}
use Rattle.zst_pool.specs.declared.fault.PoolFault.TheVariants.{Plan}
use Rattle.zst_pool.proofs.QuerySteps.{ready_read, rests_read}
use Rattle.zst_pool.proofs.ReclaimRuns.{reclaim_committed, reclaim_planned, reclaim_stopped}
use Rattle.zst_pool.proofs.reclaims.reclaim.Goals as goal

pub returns-in_err-check_number : goal.returns-in_err-check_number
returns-in_err-check_number g c =
    let plan = c.in_err-check_number.field-0.0 in
    record {
      does = reclaim_planned c.args.held.now (io_of c.args.io.now) c.args.kept.now plan (err_is c.from_residual.result (Plan plan) c.from_residual.ensures.1) c.requires.begins.ready c.in_err-check_number.ensures.last c.in_err-check_number.ensures.judged;
    }

pub returns-in_err-settle : goal.returns-in_err-settle
returns-in_err-settle g c =
    let fault = c.in_err-settle.field-0.0 in
    let fell = c.from_residual-in_err-settle in
    let disk = c.in_err-settle.ensures.only in
    record {
      does = reclaim_stopped (Unit {0}) c.args.held.now (io_of c.args.io.now) (io_of c.settle.new.io) c.args.kept.now (Fault fault) (err_is fell.result (of_block fault) fell.ensures.1) c.in_err-settle.ensures.looks c.requires.begins.ready
          c.in_ok-check_number.ensures.below (λ running told rested standing. subst (λ (b : BlockFault). IsNoDamage b) (sym disk) tt)
          (λ told. subst (λ (b : BlockFault). IfDamage b (reclaim_damage c.args.held.now (disk_of c.args.io.now) c.args.kept.now.body c.args.kept.now.dir)) (sym disk) tt);
    }

pub find_unreached-requires : goal.find_unreached-requires
find_unreached-requires g c =
    let looks = c.in_ok-settle.ensures.looks in
    let ready = ready_read (disk_of c.args.io.now) (disk_of c.settle.new.io) c.args.kept.now looks.reads c.requires.begins.ready in
    record { in_range = rw c.uber.ensures ready.in_range }

pub returns-in_err-found : goal.returns-in_err-found
returns-in_err-found g c =
    let kept = c.args.kept.now in
    let held = c.args.held.now in
    let old = disk_of c.args.io.now in
    let mid = disk_of c.settle.new.io in
    let looks = c.in_ok-settle.ensures.looks in
    let walk = c.in_err-found.ensures in
    let fault = c.in_err-found.field-0.0 in
    let fell = c.from_residual-in_err-found in
    let free = looks.space ∙ c.requires.begins.space in
    let uber = c.uber.ensures in
    record {
      does = reclaim_stopped UnreachedSectors held (io_of c.args.io.now) (io_of c.find_unreached.new.io) kept fault (err_is fell.result (or_memory of_block fault) fell.ensures.1) (Looks-then looks walk.looks) c.requires.begins.ready c.in_ok-check_number.ensures.below
          (λ running told rested standing.
          let rest = rests_read old mid kept looks.reads running rested in
          let is = rest.rests.reads.described in
          walk.there (bound_of false running.number) running rest.rows kept.body.free told
          (subst (λ (space : FreeSectors). RunsBy (bound_of false running.number) (Has mid.seen space) kept.dir running) (sym free) rest.runs_by)
          (subst (λ (u : Uber). HasDir (Has mid.seen c.settle.new.io.space) u rest.rows) (sym uber) (subst (λ (space : FreeSectors). HasDir (Has mid.seen space) kept.body.uber rest.rows) (sym free) is.directory))
          (subst (λ (u : Uber). HasExtents (Has mid.seen c.settle.new.io.space) u.free_levels u.free_root u.free_count kept.body.free) (sym uber)
          (subst (λ (space : FreeSectors). HasExtents (Has mid.seen space) kept.body.uber.free_levels kept.body.uber.free_root kept.body.uber.free_count kept.body.free) (sym free) is.extents))
          (subst (λ (space : FreeSectors). All (HeldStands (Has mid.seen space)) held) (sym free)
          (subst (λ (seen : List ℕ). All (HeldStands (Has seen (free_by kept.body))) held) (sym looks.reads.seen) standing)))
          (λ told.
          subst (λ (u : Uber). IfFault {T = UnreachedSectors} (Err fault) (λ f. IfDamage f (IsDamagedInPool (IsSeen old.seen) old.size u kept.dir held))) uber
          (subst (λ (size : ℕ). IfFault {T = UnreachedSectors} (Err fault) (λ f. IfDamage f (IsDamagedInPool (IsSeen old.seen) size c.uber.result.now kept.dir held))) looks.reads.size
          (subst (λ (seen : List ℕ). IfFault {T = UnreachedSectors} (Err fault) (λ f. IfDamage f (IsDamagedInPool (IsSeen seen) mid.size c.uber.result.now kept.dir held))) looks.reads.seen (walk.damaged told))));
    }

pub commit_found-requires-clause-ready : goal.commit_found-requires-clause-ready
commit_found-requires-clause-ready g c =
    let looks = Looks-then c.in_ok-settle.ensures.looks c.in_ok-found.ensures.looks in
    ready_read (disk_of c.args.io.now) (disk_of c.find_unreached.new.io) c.args.kept.now looks.reads c.requires.begins.ready

pub commit_found-requires-clause-found : goal.commit_found-requires-clause-found
commit_found-requires-clause-found g c = subst (λ (u : Uber). IsFoundFor u c.in_ok-found.found) c.uber.ensures c.in_ok-found.ensures.fits

pub returns : goal.returns
returns g c =
    let kept = c.args.kept.now in
    let held = c.args.held.now in
    let old = disk_of c.args.io.now in
    let found = c.in_ok-found.found in
    let first = c.in_ok-settle.ensures in
    let walk = c.in_ok-found.ensures in
    let uber = c.uber.ensures in
    record {
      does = reclaim_committed held (io_of c.args.io.now) (io_of c.find_unreached.new.io) (io_of c.commit_found.new.io) kept found c.commit_found.result (Looks-then first.looks walk.looks)
          (IsSynced-reads (disk_of c.settle.new.io) (disk_of c.find_unreached.new.io) walk.looks.reads first.synced) c.requires.begins.ready c.in_ok-check_number.ensures.below c.datasets-lawful.ensures.lawful
          (subst (λ (u : Uber). IsFoundFor u found) uber walk.fits)
          (λ told.
          subst (λ (u : Uber). (sector : ℕ) → sector < u.end → IsMarked found.marks sector ↔ StaysReached (IsBlock old.seen) kept.dir held sector) uber
          (subst (λ (seen : List ℕ). (sector : ℕ) → sector < c.uber.result.now.end → IsMarked found.marks sector ↔ StaysReached (IsBlock seen) kept.dir held sector) first.looks.reads.seen (walk.marked told)))
          (λ told.
          subst (λ (u : Uber). (sector : ℕ) → sector < u.end → IsFree found.space sector ↔ ¬ IsReached (IsBlock old.seen) u kept.dir held sector) uber
          (subst (λ (seen : List ℕ). (sector : ℕ) → sector < c.uber.result.now.end → IsFree found.space sector ↔ ¬ IsReached (IsBlock seen) c.uber.result.now kept.dir held sector) first.looks.reads.seen (walk.free told)))
          c.commit_found.ensures.commits;
    }
