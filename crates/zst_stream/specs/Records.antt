-- The records that items are, and the text of a view.
use Rattle.std.specs.Prelude.{ℕ, ◌≡◌, ◌==◌, ◌+◌, ◌*◌, ◌/◌, ◌^◌, ◌<◌, true, not, List, [], length, map, bit_and, All}
use Rattle.zst_model.specs.declared.sends.header.Header.{Header}
use Rattle.zst_model.specs.declared.sends.header.Point.{Point}
use Rattle.zst_model.specs.declared.states.item.Change.{Change}
use Rattle.zst_model.specs.declared.states.item.Change.TheVariants.{Put, Spill, FreeFrom, Free, Redact, Write}
use Rattle.zst_model.specs.declared.states.item.Item.{Item}
use Rattle.zst_model.specs.declared.states.item.Item.TheVariants.{FreeObjects, At}
use Rattle.zst_model.specs.states.State.{AreBytes, IsState}
use Rattle.zst_model.specs.states.DatedState.{DatedState}
use Rattle.zst_model.specs.sends.Features.{redacts}
use Rattle.zst_model.specs.sends.Inclusion.{Choice}
use Rattle.zst_model.specs.sends.View.{View, view_of}
use Rattle.zst_model.specs.sends.Items.{items}
use Rattle.zst_record.specs.declared.head.Head.{Head}
use Rattle.zst_record.specs.declared.head.Head.TheVariants as heads
use Rattle.zst_record.specs.RecordValues.{Fits}
use Rattle.zst_record.specs.Formats.{to_end}
use Rattle.zst_record.specs.Table.{padded}
use Rattle.zst_stream.specs.Image.{Piece, image}

-- what the record of a change of an object says, in a stream to this guid
abbrev pub change_head : ℕ → ℕ → Change → Head
change_head to k (Put head bonus keep_spill max_block) = heads.Object k head.type_ head.bonus_type head.block_size (length bonus) max_block to
change_head to k (Spill bytes) = heads.Spill k (length bytes) to
change_head to k (FreeFrom offset) = heads.Free k offset to_end to
change_head to k (Free offset count) = heads.Free k offset count to
change_head to k (Redact offset count) = heads.Redact k offset count to
change_head to k (Write offset type bytes) = heads.Write k type offset (length bytes) to

-- what the record of an item says
abbrev pub item_head : ℕ → Item → Head
item_head to (FreeObjects first count) = heads.FreeObjects first count to
item_head to (At k change) = change_head to k change

-- a bonus, then zeros up to a whole number of words of 8 bytes
abbrev pub padded_bonus : List ℕ → List ℕ
padded_bonus bonus = padded ((length bonus + 7) / 8 * 8) bonus

-- what follows the record of a change
abbrev pub change_payload : Change → List ℕ
change_payload (Put head bonus keep_spill max_block) = padded_bonus bonus
change_payload (Spill bytes) = bytes
change_payload (FreeFrom offset) = []
change_payload (Free offset count) = []
change_payload (Redact offset count) = []
change_payload (Write offset type bytes) = bytes

-- what follows the record of an item
abbrev pub item_payload : Item → List ℕ
item_payload (FreeObjects first count) = []
item_payload (At k change) = change_payload change

-- the record of an item and what follows it, in a stream to this guid
abbrev pub piece_for : ℕ → Item → Piece
piece_for to item = record { head = item_head to item; payload = item_payload item }

abbrev pub pieces_for : ℕ → List Item → List Piece
pieces_for to items = map (piece_for to) items

-- the bytes of a stream of a view, from a point on: nothing else of a pool is in them
unfoldable pub view_text : Header → View → Point → List ℕ
view_text header view point = image header (pieces_for header.to (items view point))

-- a REDACT needs the feature REDACTED
abbrev pub AllowsChange : ℕ → Change → Type 0
AllowsChange features (Redact offset count) = not (bit_and features redacts == 0) ≡ true
AllowsChange features _ = Unit {0}

-- a stream with these features may have the item
abbrev pub Allows : ℕ → Item → Type 0
Allows features (FreeObjects first count) = Unit {0}
Allows features (At k change) = AllowsChange features change

-- a stream can carry each item of the view of a lawful snapshot, whatever is chosen and wherever it begins, as far as its features allow the item
abbrev pub ItemsFit : Type 0
ItemsFit =
    (header : Header) (snap : DatedState) (choice : Choice) (point : Point) → IsState snap.state → header.to < 2 ^ 64
    → All (λ item. Allows header.features item → Fits header.features (item_head header.to item)) (items (view_of header snap choice) point)

-- The text of the view of a lawful snapshot is bytes, whatever is chosen and wherever it begins, where the header's name is bytes.
abbrev pub TextIsBytes : Type 0
TextIsBytes =
    (header : Header) (snap : DatedState) (choice : Choice) (point : Point) → IsState snap.state → AreBytes header.name
    → AreBytes (view_text header (view_of header snap choice) point)
