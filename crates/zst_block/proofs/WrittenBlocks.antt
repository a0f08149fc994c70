-- What a write of whole sectors leaves.
use Rattle.std.proofs.Common.{◌≡◌, ◌↔◌, ℕ, ◌+◌, ◌*◌, ◌/◌, ◌%◌, ◌<◌, ◌≤◌, List, length, sym, ◌∙◌, ap, arith, Result, Ok, Err}
use Rattle.zst_fletcher.specs.WeightSum.{weight_sum}
use Rattle.zst_outside.specs.Images.{DiskState, WritesIn}
use Rattle.zst_outside.specs.Ranges.{bytes_at}
use Rattle.zst_space.specs.FreeSectors.{FreeSectors, IsWithin, IsSpaceFrom}
use Rattle.zst_space.proofs.FreeSectorsLaws.{IsFree-from}
use Rattle.zst_space.specs.TakenExtents.{Takes}
use Rattle.zst_block.specs.Blocks.{Has, FillsFree}
use Rattle.zst_block.proofs.BlocksLaws.{FillsFree-writes}
use Rattle.zst_block.specs.declared.ptr.Ptr.{Ptr}
use Rattle.zst_block.specs.declared.fault.BlockFault.{BlockFault}
use Rattle.zst_block.specs.declared.fault.BlockFault.TheVariants.{Full, DiskFault}

-- a byte of whole sectors stands in one of them
sector_of : (sector len byte : ℕ) → len % 512 ≡ 0 → 512 * sector ≤ byte → byte < 512 * sector + len → IsWithin sector (len / 512) (byte / 512)
sector_of sector len byte whole starts ends = (omega arith, omega arith)

pub fills : (old new : DiskState) (space less : FreeSectors) (place sector len : ℕ) → place ≡ 512 * sector → 0 < len → len % 512 ≡ 0 → Takes space less sector (len / 512)
    → WritesIn place len old new → FillsFree old space new less
fills old new space less place sector len here some whole takes writes =
    FillsFree-writes old new space less place len some (λ byte starts ends. takes.was_free (byte / 512) (sector_of sector len byte whole (omega (arith, here, starts)) (omega (arith, here, ends)))) takes.fewer writes

pub has : (image : List ℕ) (space less : FreeSectors) (place : ℕ) (ptr : Ptr) (bytes : List ℕ) → IsSpaceFrom 8 space → 0 < length bytes → place ≡ 512 * ptr.sector → length bytes ≡ ptr.length → ptr.length % 512 ≡ 0 → Takes space less ptr.sector (ptr.length / 512)
    → 512 * space.sectors ≤ length image → bytes_at image place (length bytes) ≡ bytes → ptr.sum ≡ weight_sum bytes → Has image less ptr bytes
has image space less place ptr bytes from some here long whole takes fits written sum = record {
  block = record {
    placed = record { whole = whole; inside = omega (arith, takes.inside, fits, whole) };
    bytes_are = ap (λ (p : ℕ). bytes_at image p ptr.length) (sym here) ∙ ap (bytes_at image place) (sym long) ∙ written;
    sum_is = sym sum;
  };
  behind = IsFree-from 8 ptr.sector space from (takes.was_free ptr.sector (omega arith, omega (arith, some, long, whole)));
  taken = λ byte starts ends free. takes.is_gone (byte / 512) (sector_of ptr.sector ptr.length byte whole starts ends) free;
}

never_full : (count longest : ℕ) (result : Result Ptr BlockFault) → count ≤ longest → ((need largest : ℕ) → ¬ (result ≡ Err (Full need largest)))
    → (need largest : ℕ) → result ≡ Err (Full need largest) ↔ ((need ≡ count) × (largest ≡ longest) × (largest < need))
never_full count longest result fits never need largest = (λ is. absurd (never need largest is), λ none. absurd (omega (arith, fits, none.0, none.1, none.2)))

-- where an extent is long enough a write never ends for want of one, neither where it wrote
pub wrote_is_not_full : (count longest : ℕ) (result : Result Ptr BlockFault) (ptr : Ptr) → result ≡ Ok ptr → count ≤ longest
    → (need largest : ℕ) → result ≡ Err (Full need largest) ↔ ((need ≡ count) × (largest ≡ longest) × (largest < need))
wrote_is_not_full count longest result ptr wrote fits = never_full count longest result fits (λ need largest is. absurd (cc))

-- nor where the disk failed
pub failed_is_not_full : (count longest : ℕ) (result : Result Ptr BlockFault) → result ≡ Err DiskFault → count ≤ longest
    → (need largest : ℕ) → result ≡ Err (Full need largest) ↔ ((need ≡ count) × (largest ≡ longest) × (largest < need))
failed_is_not_full count longest result failed fits = never_full count longest result fits (λ need largest is. absurd (cc))
