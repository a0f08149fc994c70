use Rattle.zst_pool.proofs.reclaims.settle.Goals as goal

-- a sync only reads
pub invariant_of-io : goal.invariant_of-io
invariant_of-io g c =
    let reads = c.sync.ensures.reads in
    record { fits = rw reads.size c.args.io.now.fits; told = λ honest sector bytes is. rw reads.seen (c.args.io.now.told (reads.honest honest) sector bytes is); behind = c.args.io.now.behind }

pub invariant_of-io-in-Err : goal.invariant_of-io-in-Err
invariant_of-io-in-Err g c =
    let reads = c.sync.ensures.reads in
    record { fits = rw reads.size c.args.io.now.fits; told = λ honest sector bytes is. rw reads.seen (c.args.io.now.told (reads.honest honest) sector bytes is); behind = c.args.io.now.behind }
