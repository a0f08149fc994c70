use Rattle.std.proofs.Common.{rules, ◌≡◌, ◌<◌, ℕ, subst, arith}
use Rattle.zst_marks.specs.Marks.{IsMarked}
use Rattle.zst_count.specs.FirstSectors.{Counts}
use Rattle.zst_count.proofs.MetCounts.{skips, takes}
use Rattle.zst_count.proofs.met_blocks.MetBlocks.count.Goals.{then-has, else-has}
use Rattle.zst_count.proofs.met_blocks.MetBlocks.count.Goals as goal

pub loop-sector-preserved : goal.loop-sector-preserved
loop-sector-preserved c = elim c.if-has.branch [
  | then-has w ↦ rw w.count-is (takes (IsMarked c.args.self.now.marks) c.loop-sector.sector c.loop-sector.count (c.has.ensures.0 w.if-has.true) c.loop-sector.invariant)
  | else-has w ↦ rw w.count-is (skips (IsMarked c.args.self.now.marks) c.loop-sector.sector c.loop-sector.count (λ marked. let no = c.has.ensures.1 marked in search rules) c.loop-sector.invariant)
]

pub returns : goal.returns
returns c =
    let last : c.loop-sector.sector ≡ c.args.self.now.end = omega arith in
    subst (λ (end : ℕ). Counts (λ number. (number < end) × IsMarked c.args.self.now.marks number) c.loop-sector.count) last c.loop-sector.invariant.counts
