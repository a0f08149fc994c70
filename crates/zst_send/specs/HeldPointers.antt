-- What an open send holds of its pool, and that it goes on where sectors become free that it doesn't hold.
use Rattle.std.specs.Prelude.{◌∷◌, ℕ, List, [], Option, Some, None}
use Rattle.zst_space.specs.FreeSectors.{FreeSectors, IsFree}
use Rattle.zst_block.specs.Blocks.{Has, IsBlock}
use Rattle.zst_block.specs.declared.ptr.Ptr.{Ptr}
use Rattle.zst_model.specs.declared.sends.header.Point.{Point}
use Rattle.zst_model.specs.sends.Headers.{Sent}
use Rattle.zst_roots.specs.Held.{IsHeldBy}
use Rattle.zst_roots.specs.StandingRows.{HeldStands}
use Rattle.zst_roots.specs.declared.held.HeldBlocks.{HeldBlocks}
use Rattle.zst_send.specs.Sends.{SendsFrom, sent_set}
use Rattle.zst_send.specs.declared.due_items.DueItems.{DueItems}
use Rattle.zst_send.specs.declared.due_items.DueItems.TheVariants.{Absent, Object, Spill, Tail, Holes, Redacted, Block}
use Rattle.zst_send.specs.declared.pending_record.Payload.{Payload}
use Rattle.zst_send.specs.declared.pending_record.Payload.TheVariants as payloads
use Rattle.zst_send.specs.declared.send.Send.{Send}

-- the pointer to the block that is due: an object's spill block, or one of its blocks
abbrev pub pointer_due : Option DueItems → Option Ptr
pointer_due None = None
pointer_due (Some (Absent first count)) = None
pointer_due (Some (Object k dnode)) = Some dnode.spill
pointer_due (Some (Spill k ptr tail)) = Some ptr
pointer_due (Some (Tail k offset)) = None
pointer_due (Some (Holes k offset length)) = None
pointer_due (Some (Redacted k offset length)) = None
pointer_due (Some (Block k type offset ptr)) = Some ptr

-- that to the block that follows the pending record
abbrev pub pointer_behind : Payload → Option Ptr
pointer_behind payloads.Nothing = None
pointer_behind (payloads.Bonus field count) = None
pointer_behind (payloads.Block ptr) = Some ptr

-- what a send holds: the set of its snapshot, and the blocks that are due, that follow the pending record, and that its buffer has
abbrev pub held_of : Send → HeldBlocks
held_of send = record { set = sent_set send; blocks = pointer_due send.stand.walk.held ∷ pointer_behind send.stand.pending.payload ∷ send.buffer.holds ∷ [] }

-- ---- laws

-- A send goes on where sectors become free of which it holds none.
abbrev pub SendsOutlast : Type 0
SendsOutlast =
    (send : Send) (sent : Sent) (start : Option Point) (given left image : List ℕ) (space over : FreeSectors)
    → ((sector : ℕ) → IsHeldBy (IsBlock image) (held_of send) sector → IsFree over sector → IsFree space sector)
    → SendsFrom (Has image space) send sent start given left → SendsFrom (Has image over) send sent start given left

-- What it holds stands.
abbrev pub HeldSendsStand : Type 0
HeldSendsStand =
    (image : List ℕ) (space : FreeSectors) (send : Send) (sent : Sent) (start : Option Point) (given left : List ℕ)
    → SendsFrom (Has image space) send sent start given left → HeldStands (Has image space) (held_of send)
