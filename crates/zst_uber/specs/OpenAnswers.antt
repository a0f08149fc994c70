-- What the opening of a pool answers, and where.
use Rattle.std.specs.Prelude.{◌≡◌, ◌≢◌, ℕ, ◌+◌, List, Option, Some, None, Result, Ok, Err}
use Rattle.zst_bytes.specs.Bytes.{number_at, bytes_at}
use Rattle.zst_fletcher.specs.WeightSum.{weight_sum, parts_of}
use Rattle.zst_outside.specs.Images.{DiskState}
use Rattle.zst_block.specs.Ptr.{sum_at}
use Rattle.zst_uber.specs.Body.{IsBody, UberFits, InRange}
use Rattle.zst_uber.specs.Slots.{latest, latest_slot, body_sector, Stands, IsNext}
use Rattle.zst_uber.specs.declared.TheConstants.{VERSION}
use Rattle.zst_uber.specs.declared.uber.Uber.{Uber}
use Rattle.zst_uber.specs.declared.fault.UberFault.{UberFault}
use Rattle.zst_uber.specs.declared.fault.UberFault.TheVariants.{Damaged, NoPool, BadVersion, DiskFault}

-- what a body in this sector says on a disk of so many bytes, where the version is judged before all else
abbrev pub Decodes : ℕ → ℕ → List ℕ → Result Uber UberFault → Type 0
Decodes size place body (Ok uber) = IsBody size uber body
Decodes size place body (Err (BadVersion version)) = (version ≡ number_at body 8 4) × (version ≢ VERSION)
Decodes size place body (Err (Damaged sector stated found)) =
    (sector ≡ place) × (number_at body 8 4 ≡ VERSION)
    × (stated ≡ parts_of (sum_at body 480)) × (found ≡ parts_of (weight_sum (bytes_at body 0 480)))
    × ((uber : Uber) → ¬ (IsBody size uber body))
Decodes size place body (Err NoPool) = ⊥
Decodes size place body (Err DiskFault) = ⊥

-- what the latest body says, and no pool exactly where there is none
abbrev pub Opens : DiskState → Option (List ℕ) → Result Uber UberFault → Type 0
Opens disk None result = result ≡ Err NoPool
Opens disk (Some body) result = Decodes disk.size (body_sector (latest_slot disk.seen)) body result

-- each answer where it comes
abbrev pub Answers : DiskState → Result Uber UberFault → Type 0
Answers disk (Ok uber) = Opens disk (latest disk.seen) (Ok uber)
Answers disk (Err (BadVersion version)) = Opens disk (latest disk.seen) (Err (BadVersion version))
Answers disk (Err (Damaged sector stated found)) = Opens disk (latest disk.seen) (Err (Damaged sector stated found))
Answers disk (Err NoPool) = Opens disk (latest disk.seen) (Err NoPool)
Answers disk (Err DiskFault) = Unit {0}

-- the latest body of the image is that of this uber, and in its table's ranges on a disk of so many bytes
pub record IsLatest (size : ℕ) (uber : Uber) (image : List ℕ) : Type 0 where
  pub stands : Stands uber image
  pub fits : UberFits uber
  pub in_range : InRange size uber

-- the number that the next commit has, where a pool was opened or none was found
abbrev pub TellsNext : Result Uber UberFault → Option (List ℕ) → Type 0
TellsNext (Ok uber) body = IsNext (uber.number + 1) body
TellsNext (Err NoPool) body = IsNext 1 body
TellsNext (Err (Damaged sector stated found)) body = Unit {0}
TellsNext (Err (BadVersion version)) body = Unit {0}
TellsNext (Err DiskFault) body = Unit {0}

-- where this uber is the latest, it is the answer, unless the disk failed
abbrev pub GivesUber : Uber → Result Uber UberFault → Type 0
GivesUber uber (Ok found) = found ≡ uber
GivesUber uber (Err (Damaged sector stated found)) = ⊥
GivesUber uber (Err NoPool) = ⊥
GivesUber uber (Err (BadVersion version)) = ⊥
GivesUber uber (Err DiskFault) = Unit {0}
