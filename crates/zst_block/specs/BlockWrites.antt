-- What a write of one block does, from the Io before and behind it.
use Rattle.std.specs.Prelude.{◌≡◌, ◌↔◌, ◌+◌, ◌/◌, ◌<◌, ◌≤◌, List, ℕ, length, IfOk, OnOk, Result, Err}
use Rattle.zst_fletcher.specs.WeightSum.{weight_sum}
use Rattle.zst_space.specs.FreeSectors.{largest_of}
use Rattle.zst_space.specs.TakenExtents.{Takes, place_of, without}
use Rattle.zst_block.specs.Blocks.{Has}
use Rattle.zst_block.specs.IoStates.{IoState}
use Rattle.zst_block.specs.IoCalls.{Works, stop_of}
use Rattle.zst_block.specs.declared.ptr.Ptr.{Ptr}
use Rattle.zst_block.specs.declared.fault.BlockFault.{BlockFault}
use Rattle.zst_block.specs.declared.fault.BlockFault.TheVariants.{Full, Damaged}

-- A block of these bytes is written into the first free extent that is long enough, and named by a pointer of kind 1; or none is, and then nothing is done; or the disk fails. Whatever comes of it, every block that was there still is.
pub record WritesBlock (bytes : List ℕ) (level number : ℕ) (old new : IoState) (result : Result Ptr BlockFault) : Type 0 where
  -- the block is there
  pub wrote : IfOk result (λ ptr. Has new.disk.seen new.space ptr bytes)
  pub pointer : IfOk result (λ ptr. ptr ≡ record { kind = 1; level = level; length = length bytes; sector = place_of old.space (length bytes / 512); number = number; sum = weight_sum bytes })
  -- free sectors alone are written, and are then taken, also where the disk fails
  pub takes : IfOk result (λ ptr. Takes old.space new.space ptr.sector (length bytes / 512))
  pub after : length bytes / 512 ≤ largest_of old.space → new.space ≡ without old.space (length bytes / 512)
  pub taken : OnOk result (new.space ≡ without old.space (length bytes / 512))
  -- it is full exactly where no free extent is long enough, and then none is taken
  pub full : (need largest : ℕ) → result ≡ Err (Full need largest) ↔ ((need ≡ length bytes / 512) × (largest ≡ largest_of old.space) × (largest < need))
  pub untouched : largest_of old.space < length bytes / 512 → new.space ≡ old.space
  -- nothing is read
  pub never_damaged : (sector : ℕ) (stated found : List ℕ) → ¬ (result ≡ Err (Damaged sector stated found))
  pub calls : new.disk.calls ≤ old.disk.calls + 1
  pub works : Works (length bytes / 512) (length bytes / 512) old new (stop_of result)
