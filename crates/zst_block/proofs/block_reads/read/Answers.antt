use Rattle.zst_block.proofs.block_reads.read.Goals as goal

pub invariant_of-io : goal.invariant_of-io
invariant_of-io g c =
    let reads = c.read_block-outcome.ensures.reads in
    record { fits = rw reads.size c.args.io.now.fits; told = λ honest sector bytes is. rw reads.seen (c.args.io.now.told (reads.honest honest) sector bytes is); behind = c.args.io.now.behind }
