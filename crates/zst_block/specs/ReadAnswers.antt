-- What a read of a block answers, and where.
use Rattle.std.specs.Prelude.{◌≡◌, ◌≢◌, ◌⊎◌, ℕ, List, Result, Ok, Err}
use Rattle.zst_fletcher.specs.WeightSum.{weight_sum, parts_of}
use Rattle.zst_block.specs.Blocks.{IsBlock, IsPlaced, named}
use Rattle.zst_block.specs.declared.ptr.Ptr.{Ptr}
use Rattle.zst_block.specs.declared.fault.BlockFault.{BlockFault}
use Rattle.zst_block.specs.declared.fault.BlockFault.TheVariants.{Full, Damaged, DiskFault}

-- the bytes of the place have other sums than the pointer states, or the pointer names no whole sectors of the disk, and then both sums are told alike
abbrev pub IsDamage : List ℕ → ℕ → Ptr → List ℕ → Type 0
IsDamage image size ptr found =
    (IsPlaced size ptr × (found ≡ parts_of (weight_sum (named image ptr))) × (weight_sum (named image ptr) ≢ ptr.sum))
    ⊎ ((¬ IsPlaced size ptr) × (found ≡ parts_of ptr.sum))

-- each answer where it comes, on a disk of so many bytes
abbrev pub ReadAnswers : List ℕ → ℕ → Ptr → List ℕ → Result (Unit {0}) BlockFault → Type 0
ReadAnswers image size ptr read (Ok done) = IsBlock image ptr read
ReadAnswers image size ptr read (Err (Damaged sector stated found)) = (sector ≡ ptr.sector) × (stated ≡ parts_of ptr.sum) × IsDamage image size ptr found
ReadAnswers image size ptr read (Err (Full need largest)) = ⊥
ReadAnswers image size ptr read (Err DiskFault) = Unit {0}

-- where the block is there, it is what was read, unless the disk failed
abbrev pub GivesBlock : List ℕ → List ℕ → Result (Unit {0}) BlockFault → Type 0
GivesBlock bytes read (Ok done) = read ≡ bytes
GivesBlock bytes read (Err (Damaged sector stated found)) = ⊥
GivesBlock bytes read (Err (Full need largest)) = ⊥
GivesBlock bytes read (Err DiskFault) = Unit {0}

-- what comes of comparing the sum of a block's bytes with the one that its pointer states
abbrev pub Compares : Ptr → List ℕ → Result (Unit {0}) BlockFault → Type 0
Compares ptr bytes (Ok done) = weight_sum bytes ≡ ptr.sum
Compares ptr bytes (Err (Damaged sector stated found)) = (sector ≡ ptr.sector) × (stated ≡ parts_of ptr.sum) × (found ≡ parts_of (weight_sum bytes)) × (weight_sum bytes ≢ ptr.sum)
Compares ptr bytes (Err (Full need largest)) = ⊥
Compares ptr bytes (Err DiskFault) = ⊥
