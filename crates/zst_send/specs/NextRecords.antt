-- What a call does that puts records of a send, or gives of them.
use Rattle.std.specs.Prelude.{◌≡◌, ℕ, ◌≤◌, true, false, Bool, Contains, List, Result, Ok, IfOk, OnOk}
use Rattle.zst_block.specs.Blocks.{Has}
use Rattle.zst_block.specs.IoCalls.{Looks, stop_of}
use Rattle.zst_block.specs.IoStates.{IoState}
use Rattle.zst_block.specs.declared.fault.BlockFault.{BlockFault}
use Rattle.zst_model.specs.declared.sends.header.Header.{Header}
use Rattle.zst_model.specs.declared.sends.header.Point.{Point}
use Rattle.zst_model.specs.declared.states.item.Item.{Item}
use Rattle.zst_model.specs.sends.View.{view_of}
use Rattle.zst_model.specs.states.DatedState.{DatedState}
use Rattle.zst_objset.specs.Damage.{IfDamaged}
use Rattle.zst_tree.specs.Indices.{Delivers}
use Rattle.zst_send.specs.Costs.{IsHeld, Puts}
use Rattle.zst_send.specs.Damage.{IsDamagedSend}
use Rattle.zst_send.specs.KnownPointers.{IsAmong, IsOfSet}
use Rattle.zst_send.specs.PendingRecords.{BufferFits, IsLoaded}
use Rattle.zst_send.specs.Records.{HasPut}
use Rattle.zst_send.specs.SendState.{Advances, StandFits, StandsAt}
use Rattle.zst_send.specs.Subjects.{HoldsFor, IsTightFor, choice_for}
use Rattle.zst_send.specs.declared.block_buffer.BlockBuffer.{BlockBuffer}
use Rattle.zst_send.specs.declared.send_state.SendState.{SendState}
use Rattle.zst_send.specs.declared.subject.Subject.{Subject}

-- a call reads for a send of this subject, whatever it puts and gives
pub record ReadsFor {T : Type 0} (subject : Subject) (old new : SendState) (was buffer : BlockBuffer) (before after : IoState) (result : Result T BlockFault) : Type 0 where
  -- what the buffer says that it has it has
  pub loaded : (header : Header) (snap : DatedState) (left : List ℕ) → after.disk.honest → HoldsFor (Has before.disk.seen before.space) subject snap
      → IsLoaded (Has before.disk.seen before.space) was → StandsAt (Has before.disk.seen before.space) snap (view_of header snap (choice_for subject)) subject.to old left
      → IsLoaded (Has after.disk.seen after.space) buffer
  -- among the images that the disk had so far the send keeps what may stand in its set, and damage is told of a block of that
  pub stands : (images : List (List ℕ)) → Contains images before.disk.seen → after.disk.honest → IsOfSet (IsAmong images) subject.set old → OnOk result (IsOfSet (IsAmong images) subject.set new)
  pub damaged : (images : List (List ℕ)) → Contains images before.disk.seen → after.disk.honest → IsOfSet (IsAmong images) subject.set old → IfDamaged result (IsDamagedSend (IsAmong images) before.disk.size subject.set)
  -- whatever the image, both stay in their ranges
  pub stand : StandFits new
  pub buffer_fits : BufferFits buffer
  pub looks : Looks before after (stop_of result)

-- the next record of a send is put, where the pending one was given: false where END was put and given before
pub record PutsNext (subject : Subject) (old new : SendState) (was buffer : BlockBuffer) (before after : IoState) (result : Result Bool BlockFault) : Type 0 where
  pub advances : (header : Header) (snap : DatedState) (left : List ℕ) → after.disk.honest → HoldsFor (Has before.disk.seen before.space) subject snap
      → IsLoaded (Has before.disk.seen before.space) was → StandsAt (Has before.disk.seen before.space) snap (view_of header snap (choice_for subject)) subject.to old left
      → Delivers (Advances (Has after.disk.seen after.space) snap (view_of header snap (choice_for subject)) subject.to left new) result
  pub reads : ReadsFor subject old new was buffer before after result
  -- of a set whose slots are tight it reads no more than the items take that it puts
  pub puts : (header : Header) (snap : DatedState) (point : Point) (front : ℕ) (put : List Item) (place : ℕ) → after.disk.honest → HoldsFor (Has before.disk.seen before.space) subject snap
      → HasPut (Has before.disk.seen before.space) snap (view_of header snap (choice_for subject)) point front put place old
      → IfOk result (λ more. Puts (Has after.disk.seen after.space) snap (view_of header snap (choice_for subject)) (IsTightFor (Has before.disk.seen before.space) subject snap) point front put place
      old new was.holds buffer.holds before.disk.calls after.disk.calls)
  -- at the end nothing is done
  pub rests : result ≡ Ok false → (new ≡ old) × (after.disk.calls ≡ before.disk.calls)
  -- where the buffer has the block that follows the pending record, it has that of the next one
  pub kept : IsHeld was.holds old.pending.payload → OnOk result (IsHeld buffer.holds new.pending.payload)

-- bytes of the pending record are left, and nothing is done
pub record IsIdle (old new : SendState) (was buffer : BlockBuffer) (before after : ℕ) (result : Result Bool BlockFault) : Type 0 where
  pub more : result ≡ Ok true
  pub stand : new ≡ old
  pub buffer_is : buffer ≡ was
  pub calls : after ≤ before
