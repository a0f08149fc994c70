use Rattle.std.specs.Prelude.{IfErr, IfOk}
use Rattle.std.proofs.Common.{◌≡◌, ℕ, subst, sym}
use Rattle.zst_block.specs.Blocks.{Has}
use Rattle.zst_block.specs.IoStates.{disk_of, io_of}
use Rattle.zst_model.proofs.Results.{err_is}
use Rattle.zst_dir.specs.Rows.{Rows}
use Rattle.zst_image.specs.Commits.{NextIs}
use Rattle.zst_image.specs.FreedCommits.{FreedDir, IsFreedFull}
use Rattle.zst_image.specs.declared.commit_fault.CommitFault.TheVariants.{Full}
use Rattle.zst_pool.specs.FoundCommits.{over_found}
use Rattle.zst_pool.specs.declared.fault.PoolFault.TheVariants.{OutOfMemory}
use Rattle.zst_pool.proofs.ReclaimRuns.{found_starved}
use Rattle.zst_pool.proofs.UnreachedSectors.{found_fits, found_unmarked}
use Rattle.zst_pool.proofs.reclaims.commit_found.Goals as goal

-- what was found fits the disk
pub invariant_of-io : goal.invariant_of-io
invariant_of-io g c =
    let io = c.args.io.now in
    record { fits = found_fits (disk_of io) c.args.kept.now c.args.found c.requires.ready c.requires.found; told = io.told; behind = io.behind }

pub commit_unmarked-requires-clause-space : goal.commit_unmarked-requires-clause-space
commit_unmarked-requires-clause-space g c = found_unmarked c.args.kept.now c.args.found c.requires.found

pub returns-in_err-dir : goal.returns-in_err-dir
returns-in_err-dir g c = record {
  commits = found_starved c.args.kept.now c.args.found (io_of c.args.io.now) c.from_residual.result (err_is c.from_residual.result OutOfMemory c.from_residual.ensures.1) c.requires.ready c.requires.found;
}

pub returns : goal.returns
returns g c =
    let kept = c.args.kept.now in
    let found = c.args.found in
    let old = over_found found (io_of c.args.io.now) in
    let new = io_of c.commit_unmarked.new.io in
    let commit = c.commit_unmarked.ensures in
    let made = c.commit_unmarked.result in
    let same : c.in_ok-dir.dir ≡ kept.dir = c.in_ok-dir.ensures in
    record {
      commits = record {
        made = made;
        answers = c.of_committed.ensures;
        over = λ tight all next told are is. commit.over tight all next told are (subst (λ (rows : Rows). NextIs tight (Has old.disk.seen all) kept.body kept.body.uber.guids rows next) (sym same) is);
        done = subst (λ (rows : Rows). IfOk made (FreedDir kept.body rows found.marks old new)) same commit.made;
        full = subst (λ (rows : Rows). IfErr made (λ fault. (need largest : ℕ) → fault ≡ Full need largest → IsFreedFull rows found.marks found.space new.space need largest)) same commit.full;
        refused = commit.refused;
        disk = commit.disk;
        cause = commit.cause;
      };
    }
