-- What a send keeps stands for as long as the blocks of its pointers are there.
use Rattle.std.proofs.Common.{inr, ℕ, Bool, true, false, List, Option, Some, None}
use Rattle.std.specs.Prelude.{Contains}
use Rattle.zst_space.specs.FreeSectors.{FreeSectors}
use Rattle.zst_block.specs.Blocks.{Has, IsBlock}
use Rattle.zst_block.specs.declared.ptr.Ptr.{Ptr}
use Rattle.zst_model.specs.declared.sends.header.Point.{Point}
use Rattle.zst_model.specs.declared.states.item.Item.{Item}
use Rattle.zst_model.specs.sends.Headers.{Sent}
use Rattle.zst_model.specs.sends.View.{View}
use Rattle.zst_model.specs.states.DatedState.{DatedState}
use Rattle.zst_objset.specs.Dnodes.{SpillIs}
use Rattle.zst_reach.proofs.KeptSets.{FreeBefore, Has-kept}
use Rattle.zst_record.specs.Payload.{stated_point}
use Rattle.zst_roots.specs.Held.{IsHeldBy}
use Rattle.zst_roots.specs.declared.held.HeldBlocks.{HeldBlocks}
use Rattle.zst_tree.specs.Indices.{Blocks}
use Rattle.zst_send.specs.DueItems.{AreBehind, AreHeld, IsFirst}
use Rattle.zst_send.specs.HeldPointers.{pointer_behind, pointer_due}
use Rattle.zst_send.specs.Records.{AreLeft, HasPut}
use Rattle.zst_send.specs.Sends.{SendsFrom, begun_view}
use Rattle.zst_send.specs.SendState.{IsRest, StandsAt}
use Rattle.zst_send.specs.Subjects.{HoldsFor}
use Rattle.zst_send.specs.PendingRecords.{HasBlock, IsPayload, IsPending}
use Rattle.zst_send.specs.declared.due_items.DueItems.{DueItems}
use Rattle.zst_send.specs.declared.due_items.DueItems.TheVariants.{Absent, Object, Spill, Tail, Holes, Redacted, Block}
use Rattle.zst_send.specs.declared.send.Send.{Send}
use Rattle.zst_send.specs.declared.send_state.SendState.{SendState}
use Rattle.zst_send.specs.declared.walk.Walk.{Walk}
use Rattle.zst_send.specs.declared.pending_record.Payload.{Payload}
use Rattle.zst_send.specs.declared.pending_record.Payload.TheVariants as payloads
use Rattle.zst_send.specs.declared.pending_record.PendingRecord.{PendingRecord}

-- what the block has that a pointer names it has still, where there is one
abbrev pub Kept : Blocks → Blocks → Option Ptr → Type 0
Kept old new None = Unit {0}
Kept old new (Some ptr) = (bytes : List ℕ) → old ptr bytes → new ptr bytes

-- so it is with a block that is held, where sectors become free that aren't
pub kept_held : (image : List ℕ) (space over : FreeSectors) (one : HeldBlocks) → FreeBefore space over (IsHeldBy (IsBlock image) one) → (block : Option Ptr) → Contains one.blocks block
    → Kept (Has image space) (Has image over) block
kept_held image space over one before None listed = tt
kept_held image space over one before (Some ptr) listed =
    λ bytes has. Has-kept image space over ptr bytes has (λ sector of. before sector (inr (record { row = Some ptr; listed = listed; reached = of })))

module _ (old new : Blocks) where
  -- and with each, where all blocks are
  pub all_kept : ((ptr : Ptr) (bytes : List ℕ) → old ptr bytes → new ptr bytes) → (block : Option Ptr) → Kept old new block
  all_kept keeps None = tt
  all_kept keeps (Some ptr) = keeps ptr

  block_stays : (bytes : List ℕ) (holds : Option Ptr) → Kept old new holds → HasBlock old bytes holds → HasBlock new bytes holds
  block_stays bytes None kept is = is
  block_stays bytes (Some ptr) kept is = kept _ is

  payload_stays : (payload : Payload) (bytes : List ℕ) → Kept old new (pointer_behind payload) → IsPayload old payload bytes → IsPayload new payload bytes
  payload_stays payloads.Nothing bytes kept is = is
  payload_stays (payloads.Bonus field count) bytes kept is = is
  payload_stays (payloads.Block ptr) bytes kept is = (kept bytes is.0, is.1)

  pending_stays : (pending : PendingRecord) (left : List ℕ) → Kept old new (pointer_behind pending.payload) → IsPending old pending left → IsPending new pending left
  pending_stays pending left kept is =
      record { payload = is.payload; payload_is = payload_stays pending.payload is.payload kept is.payload_is; left_are = is.left_are }

  first_stays : (due : DueItems) (item : Item) → Kept old new (pointer_due (Some due)) → IsFirst old due item → IsFirst new due item
  first_stays (Absent first count) item kept is = is
  first_stays (Object k dnode) item kept is = is
  first_stays (Spill k ptr tail) item kept is = (is.0, kept is.0 is.1, is.2, is.3)
  first_stays (Tail k offset) item kept is = is
  first_stays (Holes k offset length) item kept is = is
  first_stays (Redacted k offset length) item kept is = is
  first_stays (Block k type offset ptr) item kept is = (is.0, kept is.0 is.1, is.2, is.3)

  spill_stays : (ptr : Ptr) (spill : Option (List ℕ)) → Kept old new (Some ptr) → SpillIs old ptr spill → SpillIs new ptr spill
  spill_stays ptr None kept is = is
  spill_stays ptr (Some bytes) kept is = (is.0, kept bytes is.1)

  behind_stays : (due : DueItems) (items : List Item) → Kept old new (pointer_due (Some due)) → AreBehind old due items → AreBehind new due items
  behind_stays (Absent first count) items kept are = are
  behind_stays (Object k dnode) items kept are = (are.0, spill_stays dnode.spill are.0 kept are.1, are.2, are.3)
  behind_stays (Spill k ptr tail) items kept are = are
  behind_stays (Tail k offset) items kept are = are
  behind_stays (Holes k offset length) items kept are = are
  behind_stays (Redacted k offset length) items kept are = are
  behind_stays (Block k type offset ptr) items kept are = are

  held_stay : (held : Option DueItems) (items : List Item) → Kept old new (pointer_due held) → AreHeld old held items → AreHeld new held items
  held_stay None items kept are = are
  held_stay (Some due) items kept are = record {
    first = are.first;
    later = are.later;
    are = are.are;
    is_first = first_stays due are.first kept are.is_first;
    are_behind = behind_stays due are.later kept are.are_behind;
  }

  module _ (snap : DatedState) (view : View) (walk : Walk) (kept : Kept old new (pointer_due walk.held)) where
    rest_stays : (to : ℕ) (text : List ℕ) (ended : Bool) (rest : List ℕ) → IsRest old snap view to text walk ended rest → IsRest new snap view to text walk ended rest
    rest_stays to text true rest is = is
    rest_stays to text false rest is =
        (is.0, record { held_are = held_stay walk.held is.0 kept is.1.held_are; position_is = is.1.position_is }, is.2)

    left_stay : (ended : Bool) (items : List Item) → AreLeft old snap view walk ended items → AreLeft new snap view walk ended items
    left_stay true items are = are
    left_stay false items are = (are.0, record { held_are = held_stay walk.held are.0 kept are.1.held_are; position_is = are.1.position_is }, are.2)

  module _ (snap : DatedState) (view : View) (stand : SendState) (kept : Kept old new (pointer_due stand.walk.held)) where
    stand_stays : (to : ℕ) (left : List ℕ) → Kept old new (pointer_behind stand.pending.payload) → StandsAt old snap view to stand left → StandsAt new snap view to stand left
    stand_stays to left behind at = record {
      text = at.text;
      written = at.written;
      first = at.first;
      pending = pending_stays stand.pending at.first behind at.pending;
      rest = at.rest;
      is_rest = rest_stays snap view stand.walk kept to at.text stand.ended at.rest at.is_rest;
      are = at.are;
    }

    -- so does what it has put
    put_stays : (point : Point) (front : ℕ) (put : List Item) (place : ℕ) → HasPut old snap view point front put place stand → HasPut new snap view point front put place stand
    put_stays point front put place had = record {
      later = had.later;
      are = had.are;
      are_left = left_stay snap view stand.walk kept stand.ended had.later had.are_left;
      of_last = had.of_last;
      place_is = had.place_is;
    }

  -- so does a send, where its set holds the snapshot
  pub send_stays : (send : Send) (sent : Sent) (start : Option Point) (given left : List ℕ) → HoldsFor new send.subject sent.snapshot.objects → Kept old new (pointer_due send.stand.walk.held)
      → Kept old new (pointer_behind send.stand.pending.payload) → Kept old new send.buffer.holds → SendsFrom old send sent start given left → SendsFrom new send sent start given left
  send_stays send sent start given left holds due behind loaded sends = record {
    text = sends.text;
    holds = holds;
    choice = sends.choice;
    to = sends.to;
    stands = stand_stays sent.snapshot.objects (begun_view sent start) send.stand due send.subject.to left behind sends.stands;
    put = sends.put;
    has_put = put_stays sent.snapshot.objects (begun_view sent start) send.stand due (stated_point start) _ sends.put _ sends.has_put;
    loaded = block_stays send.buffer.bytes.items send.buffer.holds loaded sends.loaded;
  }
