-- A disk in memory that keeps a record of its calls, as its contracts see it.
use Rattle.std.specs.Prelude.{◌≡◌, ℕ, List, [], ◌∷◌, ◌++◌, length, take, drop, Vec}
use Rattle.std.specs.declared.alloc.Global.{Global}
use Rattle.zst_outside.specs.Ranges.{bytes_at}
use Rattle.zst_outside.specs.Images.{DiskState}
use Rattle.zst_outside.specs.Schedule.{Schedule, after_starved}
use Rattle.zst_outside.specs.CallLog.{ImageAt, ImageSince, pending, bytes_before, entries_before}
use Rattle.zst_outside.specs.declared.call_log.Call.{Call}
use Rattle.zst_outside.specs.declared.call_log.Call.TheVariants.{Write}
use Rattle.zst_outside.specs.declared.call_log.Entry.{Entry}
use Rattle.zst_outside.specs.declared.mem_disk.MemDisk.{MemDisk}

-- a moment is told by how many entries the record had
abbrev pub memory_state : MemDisk → DiskState
memory_state d = record {
  size = length d.bytes.items;
  seen = d.bytes.items;
  honest = Unit {0};
  images = λ image. ImageAt d.log.items d.bytes.items (length d.log.items) image;
  moment = length d.log.items;
  left_since = λ t image. ImageSince d.log.items d.bytes.items t image;
  calls = d.plan.calls;
  faults = d.plan.faults;
}

abbrev pub schedule_of : MemDisk → Schedule
schedule_of d = d.plan

abbrev pub log_of : MemDisk → List Entry
log_of d = d.log.items

-- the ranges that were written and not synced before the call of this number
abbrev pub pending_at : ℕ → MemDisk → List (ℕ × ℕ)
pending_at number d = pending [] (take (entries_before number d.log.items) d.log.items)

-- what a read gave before the call of this number
abbrev pub seen_at : ℕ → MemDisk → List ℕ
seen_at number d = bytes_before (drop (entries_before number d.log.items) d.log.items) d.bytes.items

-- the call is the last in the record
abbrev pub Logs : Call → MemDisk → MemDisk → Type 0
Logs call old new = log_of new ≡ log_of old ++ record { number = (schedule_of old).calls; call = call } ∷ []

-- the call found no memory and did nothing but count it
pub record IsStarved (old new : MemDisk) : Type 0 where
  pub schedule : schedule_of new ≡ after_starved (schedule_of old)
  pub log : log_of new ≡ log_of old
  pub bytes : (memory_state new).seen ≡ (memory_state old).seen

-- a write of so many bytes is the last in the record, with those that it wrote over
pub record LogsWrite (place count : ℕ) (old new : MemDisk) : Type 0 where
  pub before : Vec ℕ Global
  pub stood : before.items ≡ bytes_at (memory_state old).seen place count
  pub logged : Logs (Write place before) old new
