-- Which block a send tells as damaged.
use Rattle.std.specs.Prelude.{◌⊎◌, ℕ, ◌<◌, List}
use Rattle.zst_block.specs.declared.ptr.Ptr.{Ptr}
use Rattle.zst_dnode.specs.declared.dnode.Dnode.{Dnode}
use Rattle.zst_objset.specs.Damage.{DamageFact, IsToldOf, StandsIn}
use Rattle.zst_traverse.specs.StandingEntries.{IsDataOf}
use Rattle.zst_traverse.specs.Damage.{IsDamagedCell}
use Rattle.zst_tree.specs.declared.tree.ObjSet.{ObjSet}
use Rattle.zst_send.specs.DueItems.{longest_payload}
use Rattle.zst_send.specs.declared.due_items.DueItems.{DueItems}
use Rattle.zst_send.specs.declared.due_items.DueItems.TheVariants.{Absent, Object, Spill, Tail, Holes, Redacted, Block}
use Rattle.zst_send.specs.declared.pending_record.Payload.{Payload}
use Rattle.zst_send.specs.declared.pending_record.Payload.TheVariants as payloads

-- what was read of a block has other sums than its pointer states, or the pointer names no whole sectors of the disk
abbrev pub IsDamagedRead : (List ℕ → Type 0) → ℕ → Ptr → DamageFact
IsDamagedRead images size ptr sector stated found = IsToldOf images size ⊥ ptr sector stated found

-- so it is of a block that a stream may have, or its pointer states more bytes than the longest one has
abbrev pub IsDamagedLoad : (List ℕ → Type 0) → ℕ → Ptr → DamageFact
IsDamagedLoad images size ptr sector stated found = IsToldOf images size (longest_payload < ptr.length) ptr sector stated found

-- what may be told of what is due: of the block that its first record has
abbrev pub IsDamagedDue : (List ℕ → Type 0) → ℕ → DueItems → DamageFact
IsDamagedDue images size (Absent first count) sector stated found = ⊥
IsDamagedDue images size (Object k dnode) sector stated found = ⊥
IsDamagedDue images size (Spill k ptr tail) sector stated found = IsDamagedRead images size ptr sector stated found
IsDamagedDue images size (Tail k offset) sector stated found = ⊥
IsDamagedDue images size (Holes k offset length) sector stated found = ⊥
IsDamagedDue images size (Redacted k offset length) sector stated found = ⊥
IsDamagedDue images size (Block k type offset ptr) sector stated found = IsDamagedLoad images size ptr sector stated found

-- what may be told of the pending record: of the block that follows it
abbrev pub IsDamagedPayload : (List ℕ → Type 0) → ℕ → Payload → DamageFact
IsDamagedPayload images size payloads.Nothing sector stated found = ⊥
IsDamagedPayload images size (payloads.Bonus field count) sector stated found = ⊥
IsDamagedPayload images size (payloads.Block ptr) sector stated found = IsDamagedRead images size ptr sector stated found

-- a block of data of an object that may stand in the set
pub record HasDamagedIndex (images : List ℕ → Type 0) (size : ℕ) (set : ObjSet) (sector : ℕ) (stated found : List ℕ) : Type 0 where
  pub ptr : Ptr
  pub is : IsDataOf images set ptr
  pub damaged : IsDamagedRead images size ptr sector stated found

-- the spill block of an object that may stand in the set
pub record HasDamagedSpill (images : List ℕ → Type 0) (size : ℕ) (set : ObjSet) (sector : ℕ) (stated found : List ℕ) : Type 0 where
  pub dnode : Dnode
  pub stands : StandsIn images set dnode
  pub damaged : IsDamagedRead images size dnode.spill sector stated found

-- what a send may tell: what its walk may, or of a block of data or a spill block of the set
abbrev pub IsDamagedSend : (List ℕ → Type 0) → ℕ → ObjSet → DamageFact
IsDamagedSend images size set sector stated found =
    IsDamagedCell images size set sector stated found
    ⊎ (HasDamagedIndex images size set sector stated found
    ⊎ HasDamagedSpill images size set sector stated found)
