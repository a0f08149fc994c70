use Rattle.std.proofs.Common.{◌≡◌, ℕ, ◌/◌, List, length, ap, refl, ◌∙◌, ⊎_elim}
use Rattle.zst_block.proofs.Cached.{kept_before, kept_or_saved, saved_behind, saved_bytes, told_after}
use Rattle.zst_block.proofs.block_writes.save.Goals as goal

pub returns : goal.returns
returns g c =
    let block = c.write_block-outcome.ensures.block c.args.io.now.checksum_errors c.args.io.now.disk.ghost_name in
    let bytes = c.as_slice.ensures.bytes in
    let long = c.as_slice.ensures.long in
    let sectors : length c.as_slice.result.now / 512 ≡ 16 = ap (λ (xs : List ℕ). length xs / 512) bytes ∙ ap (λ (n : ℕ). n / 512) long in
    record {
      block = rw bytes at block;
      wrote = rw bytes at block.wrote;
      pointer = rw (bytes, long) at block.pointer;
      long = long;
      after = rw sectors at block.taken;
      works = rw sectors at block.works;
      never_damaged = block.never_damaged;
      node = refl;
    }

pub invariant_of-io : goal.invariant_of-io
invariant_of-io g c =
    let wrote = c.write_block-outcome.ensures in
    let forgot = c.forget_written.ensures in
    let was = kept_before c.args.io.now.cache c.forget_written.new.cache c.write_block-outcome.result forgot.wrote forgot.none in
    let saved = kept_or_saved c.forget_written.new.cache c.keep_saved.new.cache c.args.io.now.node c.write_block-outcome.result c.keep_saved.ensures.saved c.keep_saved.ensures.same in
    let other = told_after (g.D.Disk.state c.args.io.now.disk.now) (g.D.Disk.state c.write_block-outcome.new.disk) c.write_block-outcome.new.space c.as_slice.result.now c.args.io.now.cache c.forget_written.new.cache c.write_block-outcome.result
    c.args.io.now.told forgot.wrote forgot.none wrote.writes (wrote.block 0 0).wrote in
    record {
      fits = wrote.fits;
      told = λ honest sector bytes is. ⊎_elim (λ before. other honest sector bytes before)
          (λ put. rw (put.2, put.3) (saved_bytes (g.D.Disk.state c.write_block-outcome.new.disk).seen c.write_block-outcome.new.space put.0 c.as_slice.result.now c.args.io.now.node c.write_block-outcome.result put.1 c.as_slice.ensures.bytes c.as_slice.ensures.long (wrote.block 0 0).wrote)) (saved sector bytes is);
      behind = λ sector bytes is. ⊎_elim (λ before. c.args.io.now.behind sector bytes (was sector bytes before))
          (λ put. rw put.2 (saved_behind (g.D.Disk.state c.write_block-outcome.new.disk).seen c.write_block-outcome.new.space put.0 c.as_slice.result.now c.write_block-outcome.result put.1 (wrote.block 0 0).wrote)) (saved sector bytes is);
    }
