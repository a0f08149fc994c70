use Rattle.std.proofs.Common.{◌∙◌, ◌*◌, ℕ, arith, rules, subst, sym}
use Rattle.zst_space.proofs.FreeSectorsLaws.{Rise-end}
use Rattle.zst_block.specs.Blocks.{FitsDisk}
use Rattle.zst_block.specs.IoStates.{disk_of}
use Rattle.zst_block.proofs.BlocksLaws.{Has-label}
use Rattle.zst_uber.proofs.Stages.{keeps_blocks}
use Rattle.zst_uber.proofs.commits.commit_event.Goals as goal

pub commit-outcome-requires-clause-room : goal.commit-outcome-requires-clause-room
commit-outcome-requires-clause-room g c =
    let fits = c.args.io.now.fits in
    omega (arith, Rise-end 8 c.args.io.now.space.end c.args.io.now.space.free fits.extents.extents, fits.extents.end, fits.sectors)

pub returns-then-is_err-clause-commits : goal.returns-then-is_err-clause-commits
returns-then-is_err-clause-commits g c = c.commit-outcome.ensures.commits

pub returns-then-is_err-clause-images : goal.returns-then-is_err-clause-images
returns-then-is_err-clause-images g c = λ image told now. keeps_blocks c.args.uber.now (disk_of c.args.io.now) image (c.commit-outcome.ensures.commits.images image told now)

pub returns-then-is_err-clause-kept : goal.returns-then-is_err-clause-kept
returns-then-is_err-clause-kept g c = λ space ptr bytes has. Has-label space _ _ ptr bytes c.commit-outcome.ensures.commits.written.writes.seen has

pub returns-then-is_err-clause-failed : goal.returns-then-is_err-clause-failed
returns-then-is_err-clause-failed g c = search rules

pub returns-then-is_err-clause-space : goal.returns-then-is_err-clause-space
returns-then-is_err-clause-space g c = search rules

pub returns-then-is_err-clause-same : goal.returns-then-is_err-clause-same
returns-then-is_err-clause-same g c = search rules

pub returns-else-is_err-clause-commits : goal.returns-else-is_err-clause-commits
returns-else-is_err-clause-commits g c = c.commit-outcome.ensures.commits

pub returns-else-is_err-clause-images : goal.returns-else-is_err-clause-images
returns-else-is_err-clause-images g c = λ image told now. keeps_blocks c.args.uber.now (disk_of c.args.io.now) image (c.commit-outcome.ensures.commits.images image told now)

pub returns-else-is_err-clause-kept : goal.returns-else-is_err-clause-kept
returns-else-is_err-clause-kept g c = λ space ptr bytes has. Has-label space _ _ ptr bytes c.commit-outcome.ensures.commits.written.writes.seen has

pub returns-else-is_err-clause-failed : goal.returns-else-is_err-clause-failed
returns-else-is_err-clause-failed g c = search rules

pub returns-else-is_err-clause-space : goal.returns-else-is_err-clause-space
returns-else-is_err-clause-space g c = search rules

pub returns-else-is_err-clause-same : goal.returns-else-is_err-clause-same
returns-else-is_err-clause-same g c = search rules

-- the disk is as long as it was, and what is kept stands behind sectors 0 to 7, which alone are written
pub invariant_of-io : goal.invariant_of-io
invariant_of-io g c =
    let writes = c.commit-outcome.ensures.commits.written.writes in
    record {
      fits = subst (λ (size : ℕ). FitsDisk size c.args.io.now.space) (sym writes.size) c.args.io.now.fits;
      told = λ honest sector bytes is.
          let behind = c.args.io.now.behind sector bytes is in
          writes.seen.above (512 * sector) 8192 (omega (arith, behind)) ∙ c.args.io.now.told (writes.honest honest) sector bytes is;
      behind = c.args.io.now.behind;
    }

pub invariant_of-io-else-is_err : goal.invariant_of-io-else-is_err
invariant_of-io-else-is_err g c =
    let writes = c.commit-outcome.ensures.commits.written.writes in
    record {
      fits = subst (λ (size : ℕ). FitsDisk size c.args.io.now.space) (sym writes.size) c.args.io.now.fits;
      told = λ honest sector bytes is.
          let behind = c.args.io.now.behind sector bytes is in
          writes.seen.above (512 * sector) 8192 (omega (arith, behind)) ∙ c.args.io.now.told (writes.honest honest) sector bytes is;
      behind = c.args.io.now.behind;
    }
