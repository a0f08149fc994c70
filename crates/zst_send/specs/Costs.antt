-- What a send costs in calls of the disk: looks for what comes next, and reads of blocks.
use Rattle.std.specs.Prelude.{◌≡◌, ◌⊎◌, ℕ, ◌+◌, ◌*◌, ◌/◌, ◌≤◌, ◌&&◌, Bool, min, nat_le, if◌then◌else◌, List, [], ◌∷◌, ◌++◌, length, Option, Some, None, IfSome, Result, IfOk}
use Rattle.zst_block.specs.declared.ptr.Ptr.{Ptr}
use Rattle.zst_model.specs.declared.states.item.Change.TheVariants as changes
use Rattle.zst_model.specs.declared.states.item.Item.{Item}
use Rattle.zst_model.specs.declared.states.item.Item.TheVariants.{At, FreeObjects}
use Rattle.zst_model.specs.declared.sends.header.Point.{Point}
use Rattle.zst_model.specs.sends.Headers.{Sent}
use Rattle.zst_model.specs.sends.Items.{items}
use Rattle.zst_model.specs.sends.View.{View}
use Rattle.zst_model.specs.states.DatedState.{DatedState, size_at}
use Rattle.zst_model.specs.states.State.{number_bound}
use Rattle.zst_pool.specs.declared.fault.PoolFault.{PoolFault}
use Rattle.zst_record.specs.Payload.{stated_point}
use Rattle.zst_stream.specs.Image.{front_of}
use Rattle.zst_tree.specs.Indices.{Blocks}
use Rattle.zst_send.specs.Records.{AreLeft, HasPut, reads_of, sizes_of, touched}
use Rattle.zst_send.specs.Sends.{begun, begun_view}
use Rattle.zst_send.specs.declared.due_items.DueItems.{DueItems}
use Rattle.zst_send.specs.declared.due_items.DueItems.TheVariants.{Absent, Object, Spill, Tail, Holes, Redacted, Block}
use Rattle.zst_send.specs.declared.walk_position.WalkPosition.{WalkPosition}
use Rattle.zst_send.specs.declared.send.Send.{Send}
use Rattle.zst_send.specs.declared.send_state.SendState.{SendState}
use Rattle.zst_send.specs.declared.walk.Walk.{Walk}
use Rattle.zst_send.specs.declared.pending_record.Payload.{Payload}
use Rattle.zst_send.specs.declared.pending_record.Payload.TheVariants as payloads

-- ---- looks

-- so many included numbers and pairs are due with a first record: each number of a run, an object's number, each index of a run, and a block's. A spill block and a tail have none of their own
abbrev pub cells_due : DatedState → DueItems → ℕ
cells_due snap (Absent first count) = count
cells_due snap (Object k dnode) = 1
cells_due snap (Spill k ptr tail) = 0
cells_due snap (Tail k offset) = 0
cells_due snap (Holes k offset length) = length / size_at (snap.state k)
cells_due snap (Redacted k offset length) = length / size_at (snap.state k)
cells_due snap (Block k type offset ptr) = 1

-- so many come next, where anything does
abbrev pub cells_next : DatedState → Option DueItems → ℕ
cells_next snap None = 0
cells_next snap (Some due) = cells_due snap due

-- a position is behind all numbers: a look from there reads nothing
abbrev pub is_ended : WalkPosition → Bool
is_ended position = position.slot && nat_le number_bound position.point.object

-- 1 where it is, since the look that found the end isn't made again
abbrev pub ended : WalkPosition → ℕ
ended position = if is_ended position then 1 else 0

-- so many looks a walk has made for what it hasn't given: one for what it holds, and one for the end
abbrev pub looks_ahead : DatedState → Walk → ℕ
looks_ahead snap walk = min 1 (cells_next snap walk.held) + ended walk.position

-- ---- reads

-- 1 where the first record of what is due has a block
abbrev pub reads_due : DueItems → ℕ
reads_due (Absent first count) = 0
reads_due (Object k dnode) = 0
reads_due (Spill k ptr tail) = 1
reads_due (Tail k offset) = 0
reads_due (Holes k offset length) = 0
reads_due (Redacted k offset length) = 0
reads_due (Block k type offset ptr) = 1

-- the buffer holds the block that follows a record, where one does
abbrev pub IsHeld : Option Ptr → Payload → Type 0
IsHeld holds payloads.Nothing = Unit {0}
IsHeld holds (payloads.Bonus field count) = Unit {0}
IsHeld holds (payloads.Block ptr) = holds ≡ Some ptr

-- ---- what is put

-- so many included numbers and pairs an item stands for
abbrev pub cells_of : DatedState → Item → ℕ
cells_of snap (FreeObjects first count) = count
cells_of snap (At k (changes.Put head bonus keep most)) = 1
cells_of snap (At k (changes.Spill bytes)) = 0
cells_of snap (At k (changes.FreeFrom offset)) = 0
cells_of snap (At k (changes.Free offset length)) = length / size_at (snap.state k)
cells_of snap (At k (changes.Redact offset length)) = length / size_at (snap.state k)
cells_of snap (At k (changes.Write offset type bytes)) = 1

-- so many included numbers and pairs these items stand for
abbrev pub cells_in : DatedState → List Item → ℕ
cells_in snap [] = 0
cells_in snap (item ∷ items) = cells_of snap item + cells_in snap items

-- so many of their records have a block
abbrev pub blocks_in : List Item → ℕ
blocks_in [] = 0
blocks_in (item ∷ items) = reads_of item + blocks_in items

-- so many calls of the disk are for these items: 64 for each included number and pair, and one for each block
abbrev pub calls_for : DatedState → List Item → ℕ
calls_for snap items = 64 * cells_in snap items + blocks_in items

-- so many a take makes at most that gives these: those that are for them, and 64 for each of two looks more
abbrev pub most_calls : Sent → List Item → ℕ
most_calls sent items = 64 * (cells_in sent.snapshot.objects items + 2) + blocks_in items

-- some items were put and the others are left, for no more calls than those items and the looks take that the walk is further ahead
pub record Pays (has : Blocks) (snap : DatedState) (view : View) (left : List Item) (old new : SendState) (before after : ℕ) : Type 0 where
  pub put : List Item
  pub later : List Item
  pub are : left ≡ put ++ later
  pub are_left : AreLeft has snap view new.walk new.ended later
  pub few : after + 64 * looks_ahead snap old.walk ≤ before + calls_for snap put + 64 * looks_ahead snap new.walk

-- ---- a step, and a take

-- the item that is put, where one is
abbrev pub listed : Option Item → List Item
listed None = []
listed (Some item) = item ∷ []

-- a step puts the next item, whose block the buffer has then, or END, or nothing, for no more calls than the item and the looks take that the walk is further ahead, where the set is tight
pub record Puts (has : Blocks) (snap : DatedState) (view : View) (tight : Type 0) (point : Point) (front : ℕ) (put : List Item) (place : ℕ) (old new : SendState) (was holds : Option Ptr) (before after : ℕ) : Type 0 where
  pub next : Option Item
  pub now : HasPut has snap view point front (put ++ listed next) place new
  pub begins : IfSome next (λ item. place ≡ front + sizes_of put)
  pub buffer : ((next ≡ None) × (new.pending.payload ≡ old.pending.payload) × (holds ≡ was)) ⊎ IsHeld holds new.pending.payload
  pub few : tight → after + 64 * looks_ahead snap old.walk ≤ before + calls_for snap (listed next) + 64 * looks_ahead snap new.walk

-- while it gives `count` bytes a send puts some items, for no more calls than these and the looks take, and one where the block of the pending record is read again: all of them are for items that have a byte among those
pub record PutsIn (has : Blocks) (snap : DatedState) (view : View) (tight : Type 0) (point : Point) (front : ℕ) (put : List Item) (place count : ℕ) (old new : SendState) (before after : ℕ) : Type 0 where
  pub more : List Item
  pub now : HasPut has snap view point front (put ++ more) (place + count) new
  pub again : ℕ
  pub once : again ≤ 1
  pub given : again + calls_for snap more ≤ calls_for snap (touched place count front (items view point))
  pub few : tight → after + 64 * looks_ahead snap old.walk ≤ before + (again + calls_for snap more) + 64 * looks_ahead snap new.walk

-- ---- a send

-- the items of a send, from its beginning or from a point, that stand, in whole or in part, in `count` bytes of its text from `place` on: the first one stands behind BEGIN and its payload
abbrev pub items_in : Sent → Option Point → (place count : ℕ) → List Item
items_in sent start place count = touched place count (length (front_of (begun sent start))) (items (begun_view sent start) (stated_point start))

-- these items of such a send are to be put yet
abbrev pub AreToCome : Blocks → Sent → Option Point → Send → List Item → Type 0
AreToCome has sent start send items = AreLeft has sent.snapshot.objects (begun_view sent start) send.stand.walk send.stand.ended items

-- of the items that were to come a send has put some since, for no more calls than they and its looks ahead take
abbrev pub PaysFor : Blocks → Sent → Option Point → List Item → (old new : Send) → (before after : ℕ) → Type 0
PaysFor has sent start items old new before after = Pays has sent.snapshot.objects (begun_view sent start) items old.stand new.stand before after

-- what a take costs that is of a set whose slots are tight, behind so many bytes
pub record TakeCosts (was has : Blocks) (sent : Sent) (start : Option Point) (place : ℕ) (old new : Send) (before after : ℕ) (result : Result ℕ PoolFault) : Type 0 where
  -- it calls the disk at most 64 times for each number and pair of the items that have a byte of what it gave, and for two more, and once for each WRITE and SPILL of theirs
  pub pays : IfOk result (λ count. after ≤ before + most_calls sent (items_in sent start place count))
  -- over several takes the items that are put pay once, and a look that was made ahead isn't made again
  pub ahead : (items : List Item) × AreToCome was sent start old items × IfOk result (λ count. PaysFor has sent start items old new (before + 1) after)
