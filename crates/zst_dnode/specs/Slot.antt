-- The bytes of a slot: a dnode's, or those of an absent object with its date.
use Rattle.std.specs.Prelude.{ℕ, ◌^◌, ◌<◌, ◌==◌, if◌then◌else◌, List, [], ◌∷◌}
use Rattle.zst_bytes.specs.Bytes.{number_at}
use Rattle.zst_bytes.specs.Fields.{Field, number, laid}
use Rattle.zst_dnode.specs.Dnode.{dnode_fields, dnode_at, DnodeFits}
use Rattle.zst_dnode.specs.declared.slot.Slot.{Slot}
use Rattle.zst_dnode.specs.declared.slot.Slot.TheVariants.{Absent, There}

-- the fields of a slot: an absent object has its date alone
abbrev pub slot_fields : Slot → List Field
slot_fields (Absent date) = number 16 8 date ∷ []
slot_fields (There dnode) = dnode_fields dnode

-- its 512 bytes; one that no field names is 0
unfoldable pub slot_bytes : Slot → List ℕ
slot_bytes slot = laid 512 (slot_fields slot)

-- what the fields of 512 bytes say, where type 0 means absent
abbrev pub slot_at : List ℕ → Slot
slot_at bytes = if number_at bytes 0 4 == 0 then Absent (number_at bytes 16 8) else There (dnode_at bytes)

-- each value of a slot is in its range
abbrev pub SlotFits : Slot → Type 0
SlotFits (Absent date) = date < 2 ^ 64
SlotFits (There dnode) = DnodeFits dnode
