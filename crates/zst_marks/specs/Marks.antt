-- Sectors that are marked, by a bit of a word each.
use Rattle.std.specs.Prelude.{◌≡◌, ℕ, ◌+◌, ◌*◌, ◌/◌, ◌%◌, ◌<◌, ◌≤◌, List, [], ◌∷◌, length, slice_index}
use Rattle.std.specs.Int.{bit_at}
use Rattle.zst_space.specs.declared.space.Extent.{Extent}

-- the bit of the sector is 1
unfoldable pub IsMarked : List ℕ → ℕ → Type 0
IsMarked words sector = bit_at (slice_index words (sector / 64)) (sector % 64) ≡ 1

-- there are bits for so many sectors
abbrev pub HasRoomFor : List ℕ → ℕ → Type 0
HasRoomFor words sectors = sectors ≤ 64 * length words

-- more may be marked: what was marked stays so, by as many words
pub record MarksMore (old new : List ℕ) : Type 0 where
  pub stay : (sector : ℕ) → IsMarked old sector → IsMarked new sector
  pub room : length new ≡ length old

-- a sector from one on and below another that isn't marked
pub record IsUnmarked (words : List ℕ) (from below sector : ℕ) : Type 0 where
  pub from_on : from ≤ sector
  pub under : sector < below
  pub unmarked : ¬ IsMarked words sector

-- behind a sector that isn't theirs the extents rise up to an end; none is empty, and no two touch
abbrev pub Follow : ℕ → List Extent → ℕ → Type 0
Follow from [] end = from ≤ end
Follow from (extent ∷ extents) end = (from < extent.first) × (0 < extent.count) × Follow (extent.first + extent.count) extents end

-- so they do from this sector on
abbrev pub Apart : ℕ → List Extent → ℕ → Type 0
Apart from [] end = from ≤ end
Apart from (extent ∷ extents) end = (from ≤ extent.first) × (0 < extent.count) × Follow (extent.first + extent.count) extents end
