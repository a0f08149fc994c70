-- Items whose range ends at a number of 64 bits.
use Rattle.std.specs.Prelude.{◌+◌, ◌<◌, ◌^◌, length}
use Rattle.zst_model.specs.declared.states.item.Change.{Change}
use Rattle.zst_model.specs.declared.states.item.Change.TheVariants.{Put, Spill, FreeFrom, Free, Redact, Write}
use Rattle.zst_model.specs.declared.states.item.Item.{Item}
use Rattle.zst_model.specs.declared.states.item.Item.TheVariants.{FreeObjects, At}

-- the change's range ends at a number of 64 bits
abbrev pub ChangeHasPlace : Change → Type 0
ChangeHasPlace (Put head bonus keep_spill max_block) = Unit {0}
ChangeHasPlace (Spill bytes) = Unit {0}
ChangeHasPlace (FreeFrom offset) = Unit {0}
ChangeHasPlace (Free offset length) = offset + length < 2 ^ 64
ChangeHasPlace (Redact offset length) = offset + length < 2 ^ 64
ChangeHasPlace (Write offset type bytes) = offset + length bytes < 2 ^ 64

-- the item's range ends at a number of 64 bits, or is one of object numbers, which is cut
abbrev pub HasPlace : Item → Type 0
HasPlace (FreeObjects first count) = Unit {0}
HasPlace (At k change) = ChangeHasPlace change
