use Rattle.std.proofs.Common.{subst, sym}
use Rattle.zst_block.specs.Blocks.{FitsDisk}
use Rattle.zst_pool.proofs.PoolsAtRest.{free_by_fits}
use Rattle.zst_pool.proofs.reopened_pools.open_on.Goals as goal

-- what is kept stays what a read gives, where the disk is only read
pub invariant_of-io : goal.invariant_of-io
invariant_of-io g c =
    let reads = c.open.ensures.reads.reads in
    record { fits = rw reads.size c.args.io.now.fits; told = λ honest sector bytes is. rw reads.seen (c.args.io.now.told (reads.honest honest) sector bytes is); behind = c.args.io.now.behind }

pub invariant_of-io-in-Break-branch-2 : goal.invariant_of-io-in-Break-branch-2
invariant_of-io-in-Break-branch-2 g c =
    let reads = c.open.ensures.reads.reads in
    record { fits = rw reads.size c.args.io.now.fits; told = λ honest sector bytes is. rw reads.seen (c.args.io.now.told (reads.honest honest) sector bytes is); behind = c.args.io.now.behind }

-- and the sectors are those of the body that was opened
pub invariant_of-io-2 : goal.invariant_of-io-2
invariant_of-io-2 g c =
    let reads = c.open.ensures.reads.reads in
    let here = g.D.Disk.state c.open.new.disk in
    record {
      fits = subst (FitsDisk here.size) (sym c.in_ok-space.ensures) (free_by_fits here c.in_ok-kept.kept.body c.in_ok-kept.ensures.ready);
      told = λ honest sector bytes is. rw reads.seen (c.args.io.now.told (reads.honest honest) sector bytes is);
      behind = c.args.io.now.behind;
    }
