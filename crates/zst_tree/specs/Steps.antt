-- What a call that looks costs: the steps that it counts, and its calls of the disk.
use Rattle.std.specs.Prelude.{ℕ, ◌+◌, ◌≤◌, Option}
use Rattle.zst_block.specs.IoStates.{IoState}
use Rattle.zst_block.specs.IoCalls.{Looks}
use Rattle.zst_block.specs.declared.fault.BlockFault.{BlockFault}

-- what a call that looks and counts its steps does, however many these are: it asks the disk at most once for each step that it counts
pub record LooksBySteps (old new : IoState) (stop : Option BlockFault) (before after : ℕ) : Type 0 where
  pub looks : Looks old new stop
  -- steps are counted on, never back
  pub later : before ≤ after
  -- a block that is kept costs a step and no call
  pub calls : new.disk.calls + before ≤ old.disk.calls + after

-- and of so many steps at most
pub record LooksInSteps (most : ℕ) (old new : IoState) (stop : Option BlockFault) (before after : ℕ) : Type 0 where
  pub by_steps : LooksBySteps old new stop before after
  pub few : after ≤ before + most

-- what a call that looks does, which asks the disk at most so many times
pub record LooksAtMost (most : ℕ) (old new : IoState) (stop : Option BlockFault) : Type 0 where
  pub looks : Looks old new stop
  pub calls : new.disk.calls ≤ old.disk.calls + most
