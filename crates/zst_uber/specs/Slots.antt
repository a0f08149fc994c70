-- The two slots of an image, and the latest body.
use Rattle.std.specs.Prelude.{◌≡◌, ℕ, ◌+◌, ◌==◌, ◌&&◌, nat_lt, List, length, slice_index, Option, Some, None, MatchOption, Bool, if◌then◌else◌}
use Rattle.zst_bytes.specs.Bytes.{number_at}
use Rattle.zst_outside.specs.Ranges.{bytes_at}
use Rattle.zst_uber.specs.Body.{body_bytes}
use Rattle.zst_uber.specs.declared.TheConstants.{MAGIC}
use Rattle.zst_uber.specs.declared.uber.Uber.{Uber}
use Rattle.zst_uber.specs.declared.body_slot.BodySlot.{BodySlot}
use Rattle.zst_uber.specs.declared.body_slot.BodySlot.TheVariants.{First, Second}

-- where a slot's gate stands: in the first byte of sector 0 or 2
abbrev pub gate_place : BodySlot → ℕ
gate_place First = 0
gate_place Second = 1024

-- where its body stands: in sector 1 or 3
abbrev pub body_place : BodySlot → ℕ
body_place First = 512
body_place Second = 1536

abbrev pub body_sector : BodySlot → ℕ
body_sector First = 1
body_sector Second = 3

abbrev pub other : BodySlot → BodySlot
other First = Second
other Second = First

-- the gate is open, and the body is whole and has the magic
abbrev pub counts : List ℕ → List ℕ → Bool
counts gate body = (slice_index gate 0 == 165) && ((length body == 512) && (number_at body 0 8 == MAGIC))

abbrev pub in_slot : List ℕ → List ℕ → Option (List ℕ)
in_slot gate body = if counts gate body then Some body else None

abbrev pub gate_of : List ℕ → BodySlot → List ℕ
gate_of image slot = bytes_at image (gate_place slot) 1

-- the body in a slot, where it counts
abbrev pub slot_at : List ℕ → BodySlot → Option (List ℕ)
slot_at image slot = in_slot (gate_of image slot) (bytes_at image (body_place slot) 512)

-- the slot of the body with the greater number, and the first where they are equal
abbrev pub greater : Option (List ℕ) → Option (List ℕ) → BodySlot
greater None second = Second
greater (Some first) None = First
greater (Some first) (Some second) = if nat_lt (number_at first 16 8) (number_at second 16 8) then Second else First

-- the slot of the latest body, and the second one where there is none
abbrev pub latest_slot : List ℕ → BodySlot
latest_slot image = greater (slot_at image First) (slot_at image Second)

-- the latest body
abbrev pub latest : List ℕ → Option (List ℕ)
latest image = slot_at image (latest_slot image)

abbrev pub IsOpen : List ℕ → BodySlot → Type 0
IsOpen image slot = slice_index (gate_of image slot) 0 ≡ 165

-- one more than the number of the latest body, or 1 where there is none
abbrev pub IsNext : ℕ → Option (List ℕ) → Type 0
IsNext next body = MatchOption body (next ≡ 1) (λ b. next ≡ number_at b 16 8 + 1)

-- the latest body of the image is that of this uber
abbrev pub Stands : Uber → List ℕ → Type 0
Stands uber image = latest image ≡ Some (body_bytes uber)
