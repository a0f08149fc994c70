use Rattle.std.proofs.Common.{ℕ, ◌-◌}
use Rattle.std.specs.Prelude.{None}
use Rattle.zst_block.specs.IoStates.{IsHonest, blocks_of, io_of}
use Rattle.zst_block.specs.IoCalls.{Looks}
use Rattle.zst_model.specs.states.State.{Content}
use Rattle.zst_compare.specs.Contents.{AreKept, HasContents}
use Rattle.zst_compare.proofs.trees.compare_indices.Given as goal

abbrev pub invariant-loop-index : goal.invariant-loop-index
invariant-loop-index g l = record {
  kept : (now was : ℕ → Content) (now_dates was_dates : ℕ → ℕ) → IsHonest l.io → HasContents (blocks_of l.fn.io) l.later now now_dates → HasContents (blocks_of l.fn.io) l.earlier was was_dates
      → AreKept l.number was was_dates now now_dates 0 l.index;
  looks : Looks (io_of l.fn.io) (io_of l.io) None;
}

abbrev pub decreases-loop-index : goal.decreases-loop-index
decreases-loop-index g l = 8796093022208 - l.index
