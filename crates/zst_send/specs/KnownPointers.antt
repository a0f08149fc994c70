-- What a send keeps of the set of its snapshot: what may stand there, in some images that the disk had.
use Rattle.std.specs.Prelude.{◌≡◌, ◌⊎◌, ℕ, List, Contains, IfSome}
use Rattle.zst_block.specs.declared.ptr.Ptr.{Ptr}
use Rattle.zst_dnode.specs.declared.dnode.Dnode.{Dnode}
use Rattle.zst_objset.specs.Damage.{StandsIn}
use Rattle.zst_traverse.specs.StandingEntries.{IsDataOf}
use Rattle.zst_tree.specs.declared.tree.ObjSet.{ObjSet}
use Rattle.zst_send.specs.declared.due_items.DueItems.{DueItems}
use Rattle.zst_send.specs.declared.due_items.DueItems.TheVariants.{Absent, Object, Spill, Tail, Holes, Redacted, Block}
use Rattle.zst_send.specs.declared.send.Send.{Send}
use Rattle.zst_send.specs.declared.send_state.SendState.{SendState}
use Rattle.zst_send.specs.declared.walk.Walk.{Walk}
use Rattle.zst_send.specs.declared.pending_record.Payload.{Payload}
use Rattle.zst_send.specs.declared.pending_record.Payload.TheVariants as payloads

-- an image is one of these
abbrev pub IsAmong : List (List ℕ) → List ℕ → Type 0
IsAmong images image = Contains images image

-- a pointer is that of the spill block of an object that may stand in the set
pub record IsSpillOf (images : List ℕ → Type 0) (set : ObjSet) (ptr : Ptr) : Type 0 where
  pub dnode : Dnode
  pub stands : StandsIn images set dnode
  pub spill_is : ptr ≡ dnode.spill

-- what is due names what may stand in the set
abbrev pub DueStands : (List ℕ → Type 0) → ObjSet → DueItems → Type 0
DueStands images set (Absent first count) = Unit {0}
DueStands images set (Object k dnode) = StandsIn images set dnode
DueStands images set (Spill k ptr tail) = IsSpillOf images set ptr
DueStands images set (Tail k offset) = Unit {0}
DueStands images set (Holes k offset length) = Unit {0}
DueStands images set (Redacted k offset length) = Unit {0}
DueStands images set (Block k type offset ptr) = IsDataOf images set ptr

-- so does what a walk holds
abbrev pub WalkStands : (List ℕ → Type 0) → ObjSet → Walk → Type 0
WalkStands images set walk = IfSome walk.held (DueStands images set)

-- and the block that follows the pending record
abbrev pub PayloadStands : (List ℕ → Type 0) → ObjSet → Payload → Type 0
PayloadStands images set payloads.Nothing = Unit {0}
PayloadStands images set (payloads.Bonus field count) = Unit {0}
PayloadStands images set (payloads.Block ptr) = IsDataOf images set ptr ⊎ IsSpillOf images set ptr

-- where a send stands it keeps what may stand in the set
pub record IsOfSet (images : List ℕ → Type 0) (set : ObjSet) (stand : SendState) : Type 0 where
  pub walk : WalkStands images set stand.walk
  pub pending : PayloadStands images set stand.pending.payload

-- each pointer that a send keeps is one that may stand in the set of its snapshot, in these images
abbrev pub Knows : (List ℕ → Type 0) → Send → Type 0
Knows images send = IsOfSet images send.subject.set send.stand
