use Rattle.std.proofs.Common.{◌≡◌, ◌-◌}
use Rattle.std.specs.Prelude.{None}
use Rattle.std.specs.List.{AllWithin}
use Rattle.zst_block.specs.IoStates.{IsHonest, blocks_of, io_of}
use Rattle.zst_block.specs.IoCalls.{Looks}
use Rattle.zst_image.specs.Reads.{RunsBy}
use Rattle.zst_model.specs.pools.Pool.{Pool}
use Rattle.zst_model.specs.pools.Rows.{rows}
use Rattle.zst_check.specs.Findings.{state_count}
use Rattle.zst_check.proofs.LateStates.{IsDated}
use Rattle.zst_check.proofs.dates.late_state.Given as goal

-- the steps are counted by the blank's own ledger
abbrev pub ghosts-late_in : goal.ghosts-late_in
ghosts-late_in g a = record { name = a.blank.name; parts = a.blank.parts }

-- each row at a place before this one is dated up to its number
abbrev pub invariant-loop-state : goal.invariant-loop-state
invariant-loop-state g l = record {
  early : (pool : Pool) → IsHonest l.io → RunsBy None (blocks_of l.initial.io) l.dir pool → pool.number ≡ l.number → AllWithin IsDated (rows pool) 0 l.place;
  looks : Looks (io_of l.initial.io) (io_of l.io) None;
}

abbrev pub decreases-loop-state : goal.decreases-loop-state
decreases-loop-state g l = state_count l.dir - l.place
