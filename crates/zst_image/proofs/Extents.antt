-- The free extents that a body names.
use Rattle.std.specs.Prelude.{IsTrue}
use Rattle.std.proofs.Common.{◌/◌, ◌≤◌, ℕ, zero, suc, List, refl, inr, ⊎_elim, arith}
use Rattle.zst_space.specs.FreeSectors.{IsFree, IsSpaceFrom}
use Rattle.zst_space.specs.declared.space.Extent.{Extent}
use Rattle.zst_space.proofs.FreeSectorsLaws.{IsFree-from}
use Rattle.zst_marks.specs.Marks.{Apart}
use Rattle.zst_block.specs.Blocks.{IsTaken}
use Rattle.zst_block.specs.Ptr.{is_lawful}
use Rattle.zst_block.specs.declared.ptr.Ptr.{Ptr}
use Rattle.zst_tree.specs.Indices.{Blocks}
use Rattle.zst_uber.specs.Body.{InRange}
use Rattle.zst_extents.specs.StoredExtents.{HasExtents, extent_bytes}
use Rattle.zst_extents.proofs.ApartExtents.{IsSpaceFrom-apart}
use Rattle.zst_image.specs.Bodies.{Body, behind_end, free_by}
use Rattle.zst_image.proofs.Directories.{lawful-below}

-- the root of free extents is a lawful pointer, over few levels
pub HasExtents-lawful : (has : Blocks) (levels : ℕ) (root : Ptr) (count : ℕ) (extents : List Extent) → HasExtents has levels root count extents → IsTrue (is_lawful root) × (levels ≤ 3)
HasExtents-lawful has levels root zero extents is =
    let none = is.none refl in
    (rw none.1 refl, omega (arith, none.0))
HasExtents-lawful has levels root (suc count) extents is =
    let leaves = is.leaves (omega arith) in
    (lawful-below has levels root (extent_bytes extents) leaves.some leaves.below, leaves.least.few)

-- by a body in its ranges, with extents that are apart, sectors from 8 on alone are free
pub IsSpaceFrom-free_by : (size : ℕ) (body : Body) → InRange size body.uber → Apart 8 body.free body.uber.end → IsSpaceFrom 8 (free_by body)
IsSpaceFrom-free_by size body is apart = IsSpaceFrom-apart 8 (free_by body) is.end.1 apart

pub IsTaken-free_by : (size : ℕ) (body : Body) → InRange size body.uber → Apart 8 body.free body.uber.end → IsTaken (free_by body) 0 4096
IsTaken-free_by size body is apart = λ byte starts ends free. let from = IsFree-from 8 (byte / 512) (free_by body) (IsSpaceFrom-free_by size body is apart) free in omega (arith, ends, from)

-- what is free behind a body's end is free by it
pub behind_end-fewer : (body : Body) (sector : ℕ) → IsFree (behind_end body.uber) sector → IsFree (free_by body) sector
behind_end-fewer body sector free = ⊎_elim (λ none. absurd none) (λ past. inr past) free
