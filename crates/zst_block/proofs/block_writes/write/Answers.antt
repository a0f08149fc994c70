use Rattle.zst_block.proofs.Cached.{kept_before, told_after}
use Rattle.zst_block.proofs.block_writes.write.Goals as goal

pub returns-clause-block : goal.returns-clause-block
returns-clause-block g c = c.write_block-outcome.ensures.block c.args.io.now.checksum_errors c.args.io.now.disk.ghost_name

pub invariant_of-io : goal.invariant_of-io
invariant_of-io g c =
    let wrote = c.write_block-outcome.ensures in
    let forgot = c.forget_written.ensures in
    record {
      fits = wrote.fits;
      told = told_after (g.D.Disk.state c.args.io.now.disk.now) (g.D.Disk.state c.write_block-outcome.new.disk) c.write_block-outcome.new.space c.args.bytes.now c.args.io.now.cache c.forget_written.new.cache c.write_block-outcome.result
          c.args.io.now.told forgot.wrote forgot.none wrote.writes (wrote.block 0 0).wrote;
      behind = λ sector bytes is. c.args.io.now.behind sector bytes (kept_before c.args.io.now.cache c.forget_written.new.cache c.write_block-outcome.result forgot.wrote forgot.none sector bytes is);
    }
