use Rattle.std.proofs.Common.{◌⊎◌, ◌-◌, ◌<◌, ℕ}
use Rattle.std.specs.Prelude.{None}
use Rattle.zst_block.specs.Blocks.{IsBlock}
use Rattle.zst_block.specs.IoStates.{IsHonest, disk_of, io_of}
use Rattle.zst_block.specs.IoCalls.{Looks}
use Rattle.zst_marks.specs.Marks.{IsMarked}
use Rattle.zst_tree.specs.Indices.{child}
use Rattle.zst_count.specs.FirstSectors.{IsFirstBelow}
use Rattle.zst_count.specs.MetBlocks.{AreMet, AreRead, MetMore}
use Rattle.zst_count.specs.PastLeaves.{told_below}
use Rattle.zst_count.proofs.MetLaws.{OwnMet}
use Rattle.zst_count.proofs.trees.+count_below.Given as goal

abbrev pub decreases-count_below : goal.decreases-count_below
decreases-count_below g l = l.level

-- the block itself is met, and all below its first children
abbrev pub invariant-loop-k : goal.invariant-loop-k
invariant-loop-k g l =
    let image = (disk_of l.initial.io).seen in
    record {
      own : OwnMet l.met.end l.met.marks l.fn.ptr;
      all : IsHonest l.io → AreMet image l.initial.met.end l.initial.met.marks l.known.0 l.known.1 → (j : ℕ) → j < l.k → AreMet image l.met.end l.met.marks (l.level - 1) (child l.node j);
      more : MetMore l.initial.met l.met;
      only : IsHonest l.io → (sector : ℕ) → IsMarked l.met.marks sector → IsMarked l.initial.met.marks sector ⊎ (IsFirstBelow (IsBlock image) l.level l.fn.ptr sector × (sector < l.initial.met.end));
      read : IsHonest l.io → AreRead image l.length l.known.0 l.known.1 → (j : ℕ) → j < l.k → AreRead image (told_below l.length l.level j) (l.level - 1) (child l.node j);
      looks : Looks (io_of l.initial.io) (io_of l.io) None;
    }
