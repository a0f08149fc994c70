-- The disk of a pool at a later moment.
use Rattle.std.specs.Prelude.{◌≡◌, ◌≤◌}
use Rattle.zst_block.specs.IoStates.{IoState}

-- it is the same disk, its count of faults didn't fall, and where a read had given other bytes that still counts
pub record IsLater (old new : IoState) : Type 0 where
  pub faults : old.disk.faults ≤ new.disk.faults
  pub honest : new.disk.honest → old.disk.honest
  pub same : new.reference ≡ old.reference
