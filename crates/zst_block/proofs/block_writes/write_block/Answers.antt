use Rattle.std.proofs.Common.{length, refl, arith, rules, Ok, Err}
use Rattle.zst_space.proofs.FreeSectorsLaws.{IsSpaceFrom-earlier}
use Rattle.zst_block.specs.declared.ptr.Ptr.{Ptr}
use Rattle.zst_block.specs.declared.fault.BlockFault.TheVariants.{DiskFault}
use Rattle.zst_block.proofs.IoCallLemmas.{Works-write}
use Rattle.zst_block.proofs.WrittenBlocks.{failed_is_not_full, fills, has, wrote_is_not_full}
use Rattle.zst_block.proofs.block_writes.write_block.Goals as goal

pub take-requires : goal.take-requires
take-requires g c = IsSpaceFrom-earlier 8 0 c.args.space.now (omega arith) c.requires.fits.extents

pub returns-in-Ok-write_at-clause-block : goal.returns-in-Ok-write_at-clause-block
returns-in-Ok-write_at-clause-block g c checksum_errors reference =
    let took = c.in-Ok.ensures in
    let writes = c.write_at.ensures.writes in
    let long = g.met.D.Disk.seen_size c.write_at.new.self in
    let ptr : Ptr = record { kind = 1; level = c.args.level; length = length c.args.bytes.now; sector = c.in-Ok.sector; number = c.args.number; sum = c.sum_of.result } in
    let fits = took.fits.0 refl in
    let room = took.takes.room_is in
    record {
      wrote = has _ c.args.space.now c.take.new.self _ ptr c.args.bytes.now
          c.requires.fits.extents c.requires.some c.place_in-place.ensures refl c.requires.whole took.takes (omega (arith, long, writes.size, c.requires.fits.sectors)) c.in-Ok-write_at.ensures.written c.sum_of.ensures;
      pointer = rw (took.first, c.sum_of.ensures) refl;
      takes = took.takes;
      after = λ longest. took.after;
      taken = took.after;
      full = wrote_is_not_full _ _ _ _ refl fits;
      untouched = λ short. absurd (omega (arith, fits, short));
      never_damaged = λ sector stated found is. absurd (cc);
      calls = omega (arith, c.write_at.ensures.calls);
      works = Works-write _ _ _ (Ok ptr) (fills _ _ c.args.space.now c.take.new.self _ c.in-Ok.sector (length c.args.bytes.now) c.place_in-place.ensures c.requires.some c.requires.whole took.takes writes)
          (λ longest. took.after) (λ short. absurd (omega (arith, fits, short))) (omega (arith, room)) (wrote_is_not_full _ _ _ _ refl fits) refl (search rules) (search rules) refl;
    }

pub returns-in-Err-write_at-clause-block : goal.returns-in-Err-write_at-clause-block
returns-in-Err-write_at-clause-block g c checksum_errors reference =
    let took = c.in-Ok.ensures in
    let fits = took.fits.0 refl in
    let room = took.takes.room_is in
    record {
      wrote = tt;
      pointer = tt;
      takes = tt;
      after = λ longest. took.after;
      taken = tt;
      full = failed_is_not_full _ _ _ refl fits;
      untouched = λ short. absurd (omega (arith, fits, short));
      never_damaged = λ sector stated found is. absurd (cc);
      calls = omega (arith, c.write_at.ensures.calls);
      works = Works-write _ _ _ (Err DiskFault) (fills _ _ c.args.space.now c.take.new.self _ c.in-Ok.sector (length c.args.bytes.now) c.place_in-place.ensures c.requires.some c.requires.whole took.takes c.write_at.ensures.writes)
          (λ longest. took.after) (λ short. absurd (omega (arith, fits, short))) (omega (arith, room)) (failed_is_not_full _ _ _ refl fits) refl (search rules) (search rules) refl;
    }
