-- The items that the covered records of a stream say.
use Rattle.std.specs.Prelude.{ℕ, ◌≡◌, ◌≢◌, ◌⊎◌, ◌==◌, not, Bool, true, false, if◌then◌else◌, List, [], ◌∷◌, ◌++◌, length, take, Some, bit_and, All}
use Rattle.zst_fletcher.specs.WeightSum.{IsWhole}
use Rattle.zst_model.specs.declared.sends.header.Header.{Header}
use Rattle.zst_model.specs.declared.sends.header.Point.{Point}
use Rattle.zst_model.specs.declared.states.item.Change.{Change}
use Rattle.zst_model.specs.declared.states.item.Change.TheVariants.{Put, Spill, FreeFrom, Free, Redact, Write}
use Rattle.zst_model.specs.declared.states.item.Item.{Item}
use Rattle.zst_model.specs.declared.states.item.Item.TheVariants.{FreeObjects, At}
use Rattle.zst_model.specs.states.State.{Redacted, Object, State, IsState}
use Rattle.zst_model.specs.states.DatedState.{DatedState}
use Rattle.zst_model.specs.sends.Features.{redacts}
use Rattle.zst_model.specs.sends.Headers.{spill_block}
use Rattle.zst_model.specs.sends.Inclusion.{Choice}
use Rattle.zst_model.specs.sends.Items.{items}
use Rattle.zst_model.specs.sends.View.{view_of}
use Rattle.zst_record.specs.declared.head.Head.{Head}
use Rattle.zst_record.specs.declared.head.Head.TheVariants as heads
use Rattle.zst_record.specs.RecordValues.{Fits}
use Rattle.zst_record.specs.Formats.{to_end}
use Rattle.zst_record.specs.Heads.{Covered, payload_len}
use Rattle.zst_stream.specs.Image.{CanBegin, IsStream, image}
use Rattle.zst_stream.specs.Reading.{reading, complete}
use Rattle.zst_stream.specs.Records.{Allows, item_head, item_payload, pieces_for, view_text}

-- an OBJECT keeps the spill block only in a stream without the flag SPILL_BLOCK
abbrev pub keeps_spill : ℕ → Bool
keeps_spill flags = bit_and flags spill_block == 0

-- a FREE of all ones goes to the object's end
abbrev pub free_change : ℕ → ℕ → Change
free_change offset count = if count == to_end then FreeFrom offset else Free offset count

-- the item that a record says, by its payload and its head, in a stream with these flags; BEGIN and END say none
abbrev pub items_by : ℕ → List ℕ → Head → List Item
items_by flags payload (heads.Begin header len) = []
items_by flags payload (heads.Object k kind bonus_kind block_size bonus_len max_block to) =
    At k (Put (record { type_ = kind; bonus_type = bonus_kind; block_size = block_size }) (take bonus_len payload) (keeps_spill flags) max_block) ∷ []
items_by flags payload (heads.FreeObjects first count to) = FreeObjects first count ∷ []
items_by flags payload (heads.Write k kind offset count to) = At k (Write offset kind payload) ∷ []
items_by flags payload (heads.Free k offset count to) = At k (free_change offset count) ∷ []
items_by flags payload (heads.End sums to) = []
items_by flags payload (heads.Spill k count to) = At k (Spill payload) ∷ []
items_by flags payload (heads.Redact k offset count to) = At k (Redact offset count) ∷ []

-- the items that covered records say, in their order
abbrev pub items_of : ℕ → List Covered → List Item
items_of flags [] = []
items_of flags (c ∷ rest) = items_by flags c.payload c.head ++ items_of flags rest

-- a change that a record can say in a stream with these flags
abbrev pub SaysChange : ℕ → Change → Type 0
SaysChange flags (Put head bonus keep_spill max_block) = keeps_spill flags ≡ keep_spill
SaysChange flags (Spill bytes) = Unit {0}
SaysChange flags (FreeFrom offset) = Unit {0}
SaysChange flags (Free offset count) = count ≢ to_end
SaysChange flags (Redact offset count) = Unit {0}
SaysChange flags (Write offset type bytes) = Unit {0}

-- an item of which that is so
abbrev pub Says : ℕ → Item → Type 0
Says flags (FreeObjects first count) = Unit {0}
Says flags (At k change) = SaysChange flags change

-- The covered records of an image that is made of items say exactly these items, in their order.
abbrev pub ItemsAreRead : Type 0
ItemsAreRead =
    (header : Header) (sent : List Item) → IsStream header (pieces_for header.to sent) → All (Says header.flags) sent
    → items_of header.flags (reading (image header (pieces_for header.to sent))).covered ≡ sent

-- a view of a lawful snapshot can be sent under this header: it is one that BEGIN can state, has the flag SPILL_BLOCK, and its features
-- allow each item
pub record CanSend (header : Header) (snap : DatedState) (choice : Choice) (point : Point) : Type 0 where
  pub lawful : IsState snap.state
  pub begins : CanBegin header
  pub flags : keeps_spill header.flags ≡ false
  pub allowed : All (Allows header.features) (items (view_of header snap choice) point)

-- The items of such a view are the pieces of a stream, and each is one that its record says.
abbrev pub ViewIsStream : Type 0
ViewIsStream =
    (header : Header) (snap : DatedState) (choice : Choice) (point : Point) → CanSend header snap choice point
    → IsStream header (pieces_for header.to (items (view_of header snap choice) point))
    × All (Says header.flags) (items (view_of header snap choice) point)

-- The text of such a view is read to its end, and says exactly the view's items.
abbrev pub ViewIsRead : Type 0
ViewIsRead =
    (header : Header) (snap : DatedState) (choice : Choice) (point : Point) → CanSend header snap choice point
    → ((reading (view_text header (view_of header snap choice) point)).outcome ≡ complete)
    × (items_of header.flags (reading (view_text header (view_of header snap choice) point)).covered ≡ items (view_of header snap choice) point)

-- A front of the text of such a view says a front of the view's items.
abbrev pub FirstItems : Type 0
FirstItems =
    (header : Header) (snap : DatedState) (choice : Choice) (point : Point) (text later : List ℕ) → CanSend header snap choice point
    → text ++ later ≡ view_text header (view_of header snap choice) point
    → (others : List Item) × (items (view_of header snap choice) point ≡ items_of header.flags (reading text).covered ++ others)

-- no block of a state is redacted
abbrev pub IsUnredacted : State → Type 0
IsUnredacted state = (k i : ℕ) (object : Object) → state k ≡ Some object → object.blocks i ≡ Redacted → ⊥

-- a stream with these features may have all that a snapshot's view shows: it may have REDACT, or no block of the snapshot is redacted and none is to be
abbrev pub MayShowAll : ℕ → DatedState → Choice → Type 0
MayShowAll features snap choice = (not (bit_and features redacts == 0) ≡ true) ⊎ (IsUnredacted snap.state × ((k i : ℕ) → choice.redact k i ≡ false))

-- So it allows each of the view's items.
abbrev pub SentIsAllowed : Type 0
SentIsAllowed =
    (features : ℕ) (header : Header) (snap : DatedState) (choice : Choice) (point : Point)
    → MayShowAll features snap choice → All (Allows features) (items (view_of header snap choice) point)

-- The payload of an item whose record fits is whole words, and as long as the record says.
abbrev pub PayloadsFit : Type 0
PayloadsFit =
    (features to : ℕ) (item : Item) → Fits features (item_head to item)
    → (length (item_payload item) ≡ payload_len (item_head to item)) × IsWhole (item_payload item)
