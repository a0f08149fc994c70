use Rattle.std.proofs.Common.{rules, ◌+◌, ◌*◌, ◌<◌, ◌≤◌, inl, refl, sym, arith}
use Rattle.zst_space.specs.FreeSectors.{largest_of}
use Rattle.zst_space.proofs.FreeSectorsLaws.{IsSpaceFrom-earlier}
use Rattle.zst_leaves.proofs.TakenBlocks.{blocks_last, blocks_none_taken}
use Rattle.zst_block.proofs.TakenSectors.{takes_more, takes_none}
use Rattle.zst_extents.proofs.TakenWorks.{TakesAtMost-more}
use Rattle.zst_extents.proofs.writes.take_blocks.Goals as goal

pub take-requires : goal.take-requires
take-requires c = IsSpaceFrom-earlier 8 0 c.loop-k.space (omega arith) c.loop-k.invariant.kept

pub loop-k-init : goal.loop-k-init
loop-k-init c = record {
  after = sym (blocks_none_taken c.args.space.now);
  takes = takes_none c.args.space.now;
  fewer = λ sector free. free;
  kept = c.requires;
}

pub loop-k-preserved : goal.loop-k-preserved
loop-k-preserved c =
    let inv = c.loop-k.invariant in
    let some : 16 ≤ largest_of c.loop-k.space = search rules in
    record {
      after = blocks_last c.loop-k.k (c.loop-k.k + 1) c.args.space.now c.loop-k.space c.take.new.self inv.after c.in-Ok.ensures.after (omega arith);
      takes = TakesAtMost-more (16 * c.loop-k.k) (16 * (c.loop-k.k + 1)) _ c.loop-k.space c.take.new.self inv.takes c.in-Ok.ensures.after some c.in-Ok.ensures.takes.room_is (omega arith);
      fewer = λ sector free. inv.fewer sector (c.in-Ok.ensures.takes.fewer sector free);
      kept = c.take.ensures.kept 8 inv.kept;
    }

pub returns-in-Err-clause-takes : goal.returns-in-Err-clause-takes
returns-in-Err-clause-takes c =
    let inv = c.loop-k.invariant in
    rw c.in-Err.ensures.unchanged (takes_more (16 * c.loop-k.k) (16 * c.args.blocks) _ c.loop-k.space (omega arith) inv.takes)

pub returns-in-Err-clause-full : goal.returns-in-Err-clause-full
returns-in-Err-clause-full c =
    let inv = c.loop-k.invariant in
    let under : largest_of c.loop-k.space < 16 = search rules in
    rw (c.in-Err.ensures.full, c.in-Err.ensures.unchanged) (record { shorter = under; is_longest = refl; needed = inl refl; before = omega (arith, inv.takes.longest, under) })
