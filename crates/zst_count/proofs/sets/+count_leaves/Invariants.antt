use Rattle.std.proofs.Common.{◌⊎◌, ◌+◌, ◌-◌, ◌*◌, ◌<◌, ℕ}
use Rattle.std.specs.Prelude.{None}
use Rattle.zst_block.specs.Blocks.{IsBlock}
use Rattle.zst_block.specs.IoStates.{IsHonest, disk_of, io_of}
use Rattle.zst_block.specs.IoCalls.{Looks}
use Rattle.zst_marks.specs.Marks.{IsMarked}
use Rattle.zst_tree.specs.Indices.{child, span}
use Rattle.zst_count.specs.CountedSets.{AreMetInTree, AreReadInTree, IsFirstInTree}
use Rattle.zst_count.specs.MetBlocks.{MetMore}
use Rattle.zst_count.proofs.MetLaws.{OwnMet}
use Rattle.zst_count.proofs.sets.+count_leaves.Given as goal

abbrev pub decreases-count_leaves : goal.decreases-count_leaves
decreases-count_leaves g l = l.level

-- the block itself is met, and all below its first children
abbrev pub invariant-loop-k : goal.invariant-loop-k
invariant-loop-k g l =
    let image = (disk_of l.initial.io).seen in
    record {
      own : OwnMet l.met.end l.met.marks l.fn.ptr;
      all : IsHonest l.io → AreMetInTree image l.initial.met.end l.initial.met.marks l.known.0 l.known.1 l.first → (j : ℕ) → j < l.k → AreMetInTree image l.met.end l.met.marks (l.level - 1) (child l.node j) (l.first + j * span (l.level - 1));
      more : MetMore l.initial.met l.met;
      only : IsHonest l.io → (sector : ℕ) → IsMarked l.met.marks sector → IsMarked l.initial.met.marks sector ⊎ (IsFirstInTree (IsBlock image) l.level l.fn.ptr l.first sector × (sector < l.initial.met.end));
      read : IsHonest l.io → AreReadInTree image l.known.0 l.known.1 l.first → (j : ℕ) → j < l.k → AreReadInTree image (l.level - 1) (child l.node j) (l.first + j * span (l.level - 1));
      looks : Looks (io_of l.initial.io) (io_of l.io) None;
    }
