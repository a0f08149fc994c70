-- A disk that never fails, as its contracts see it.
use Rattle.std.specs.Prelude.{length}
use Rattle.zst_outside.specs.Images.{DiskState}
use Rattle.zst_outside.specs.declared.sure_disk.SureDisk.{SureDisk}

-- it is always honest, and leaves its images untold
abbrev pub sure_state : SureDisk → DiskState
sure_state d = record { size = length d.bytes.items; seen = d.bytes.items; honest = Unit {0}; images = λ c. ⊥; moment = 0; left_since = λ t c. ⊥; calls = d.calls; faults = 0 }
