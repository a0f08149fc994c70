-- An extent is taken from the sectors that are free.
use Rattle.std.specs.Prelude.{◌≡◌, ◌⊎◌, ℕ, zero, suc, ◌+◌, ◌-◌, ◌==◌, ◌≤◌, nat_le, if◌then◌else◌, List, [], ◌∷◌, ◌++◌}
use Rattle.zst_space.specs.FreeSectors.{FreeSectors, IsWithin, IsFree, largest_of, room}
use Rattle.zst_space.specs.declared.space.Extent.{Extent}

-- an extent without its first sectors, and none where no sector is left
abbrev pub shortened : Extent → ℕ → List Extent
shortened extent count =
    if count == extent.count then [] else record { first = extent.first + count; count = extent.count - count } ∷ []

-- the first sector that is taken: of the first extent that has so many, and else the end
abbrev pub place_in_extents : List Extent → ℕ → ℕ → ℕ
place_in_extents [] end count = end
place_in_extents (extent ∷ extents) end count =
    if nat_le count extent.count then extent.first else place_in_extents extents end count

-- the extents without what is taken
abbrev pub extents_without : List Extent → ℕ → List Extent
extents_without [] count = []
extents_without (extent ∷ extents) count =
    if nat_le count extent.count then shortened extent count ++ extents else extent ∷ extents_without extents count

-- the end, past what is taken where no extent has so many sectors
abbrev pub end_without : List Extent → ℕ → ℕ → ℕ
end_without [] end count = end + count
end_without (extent ∷ extents) end count =
    if nat_le count extent.count then end else end_without extents end count

-- where so many sectors in a row are taken
abbrev pub place_of : FreeSectors → ℕ → ℕ
place_of space count = place_in_extents space.free space.end count

-- what is free once so many sectors in a row are taken
abbrev pub without : FreeSectors → ℕ → FreeSectors
without space count = record {
  end = end_without space.free space.end count;
  sectors = space.sectors;
  free = extents_without space.free count;
}

-- what is free once so many blocks of a tree, of 16 sectors each, are taken in turn
unfoldable pub without_blocks : ℕ → FreeSectors → FreeSectors
without_blocks zero space = space
without_blocks (suc count) space = without (without_blocks count space) 16

-- what is free once extents of so many sectors each are taken in turn
abbrev pub without_each : List ℕ → FreeSectors → FreeSectors
without_each [] space = space
without_each (count ∷ counts) space = without_each counts (without space count)

-- each of these extents is of such a size, and finds room in what those before it leave
abbrev pub FitInTurn : (ℕ → Type 0) → List ℕ → FreeSectors → Type 0
FitInTurn IsSize [] space = Unit {0}
FitInTurn IsSize (count ∷ counts) space = IsSize count × (count ≤ largest_of space) × FitInTurn IsSize counts (without space count)

-- What is free now is what was free before less extents of such sizes, which were taken in turn, each where it first fits.
pub record TakenInTurn (IsSize : ℕ → Type 0) (old new : FreeSectors) : Type 0 where
  pub counts : List ℕ
  pub fit : FitInTurn IsSize counts old
  pub left : new ≡ without_each counts old

-- An extent was free and isn't free any more, and all other sectors are as before.
pub record Takes (old new : FreeSectors) (first count : ℕ) : Type 0 where
  pub sectors : new.sectors ≡ old.sectors
  pub inside : first + count ≤ old.sectors
  pub was_free : (sector : ℕ) → IsWithin first count sector → IsFree old sector
  pub is_gone : (sector : ℕ) → IsWithin first count sector → ¬ (IsFree new sector)
  pub fewer : (sector : ℕ) → IsFree new sector → IsFree old sector
  pub others : (sector : ℕ) → IsFree old sector → IsWithin first count sector ⊎ IsFree new sector
  pub room_is : room new + count ≡ room old
