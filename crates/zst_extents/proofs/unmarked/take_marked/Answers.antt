use Rattle.std.proofs.Common.{rules, ◌+◌, ◌<◌, ◌≤◌, refl, arith}
use Rattle.zst_space.specs.FreeSectors.{largest_of}
use Rattle.zst_space.proofs.FreeSectorsLaws.{IsSpaceFrom-earlier}
use Rattle.zst_extents.proofs.MarkedBlocks.{TakesMarked-none, TakesMarked-one, TakesMarked-then, block_whole}
use Rattle.zst_extents.proofs.unmarked.take_marked.Goals as goal

pub take-requires : goal.take-requires
take-requires c = IsSpaceFrom-earlier 8 0 c.loop-k.space (omega arith) c.loop-k.invariant.left.is_space

pub mark_before-requires-clause-whole : goal.mark_before-requires-clause-whole
mark_before-requires-clause-whole c = block_whole c.args.end c.in-Ok.first c.loop-k.space c.loop-k.invariant.left c.in-Ok.ensures.first

pub loop-k-init : goal.loop-k-init
loop-k-init c = TakesMarked-none c.args.end c.args.space.now c.args.marks.now c.requires.space

pub loop-k-preserved : goal.loop-k-preserved
loop-k-preserved c =
    let inv = c.loop-k.invariant in
    let some : 16 ≤ largest_of c.loop-k.space = search rules in
    let one = TakesMarked-one c.args.end c.in-Ok.first c.loop-k.space c.take.new.self c.loop-k.marks c.mark_before.new.marks inv.left some c.in-Ok.ensures.after c.in-Ok.ensures.takes (c.take.ensures.kept 8 inv.left.is_space) c.mark_before.ensures.marked c.mark_before.ensures.words in
    TakesMarked-then c.args.end c.loop-k.k 1 (c.loop-k.k + 1) c.args.space.now c.loop-k.space c.take.new.self c.args.marks.now c.loop-k.marks c.mark_before.new.marks refl inv one

pub returns-in-Err-clause-full : goal.returns-in-Err-clause-full
returns-in-Err-clause-full c =
    let inv = c.loop-k.invariant in
    let under : largest_of c.loop-k.space < 16 = search rules in
    rw (c.in-Err.ensures.full, c.in-Err.ensures.unchanged) (record {
      taken = c.loop-k.k;
      fewer = search rules;
      full_after = record { needed = refl; shorter = under; is_longest = refl; after = inv.after };
      before = omega (arith, inv.takes.longest, under);
    })
