-- The items that a sender finds.
use Rattle.std.specs.Prelude.{◌≤◌, false, length, pred}
use Rattle.zst_model.specs.declared.states.item.Change.TheVariants.{Put, Spill, FreeFrom, Free, Redact, Write}
use Rattle.zst_model.specs.declared.states.item.Item.{Item}
use Rattle.zst_model.specs.declared.states.item.Item.TheVariants.{FreeObjects, At}
use Rattle.zst_model.specs.states.State.{largest_bonus}
use Rattle.zst_stream.specs.declared.item_ref.ItemRef.{ItemRef}
use Rattle.zst_stream.specs.declared.item_ref.ItemRef.TheVariants as found

-- the item that was found: no spill block stays at an OBJECT, which states its greatest index
abbrev pub found_item : ItemRef → Item
found_item (found.Absent first count) = FreeObjects first count
found_item (found.Object k head bonus end) = At k (Put head bonus.now false (pred end))
found_item (found.Spill k bytes) = At k (Spill bytes.now)
found_item (found.Tail k offset) = At k (FreeFrom offset)
found_item (found.Holes k offset count) = At k (Free offset count)
found_item (found.Redacted k offset count) = At k (Redact offset count)
found_item (found.Block k type offset bytes) = At k (Write offset type bytes.now)

-- its bonus, where it has one, is of a length that one may have
abbrev pub HasBonus : ItemRef → Type 0
HasBonus (found.Absent first count) = Unit {0}
HasBonus (found.Object k head bonus end) = length bonus.now ≤ largest_bonus
HasBonus (found.Spill k bytes) = Unit {0}
HasBonus (found.Tail k offset) = Unit {0}
HasBonus (found.Holes k offset count) = Unit {0}
HasBonus (found.Redacted k offset count) = Unit {0}
HasBonus (found.Block k type offset bytes) = Unit {0}
