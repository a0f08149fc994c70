-- The text of a view of a lawful snapshot is bytes.
use Rattle.std.proofs.Common.{ℕ, ◌+◌, ◌*◌, ◌/◌, ◌^◌, ◌<◌, List, [], ◌∷◌, ◌++◌, length, All}
use Rattle.std.proofs.lemmas.List.Elements.{All-append, All-head, All-nil, All-tail}
use Rattle.zst_model.specs.declared.sends.header.Header.{Header}
use Rattle.zst_model.specs.declared.states.item.Change.TheVariants.{Put, Spill, FreeFrom, Free, Redact, Write}
use Rattle.zst_model.specs.declared.states.item.Item.{Item}
use Rattle.zst_model.specs.declared.states.item.Item.TheVariants.{FreeObjects, At}
use Rattle.zst_model.specs.sends.Items.{items}
use Rattle.zst_model.specs.sends.View.{view_of}
use Rattle.zst_model.specs.states.State.{AreBytes}
use Rattle.zst_record.specs.declared.head.Head.{Head}
use Rattle.zst_record.specs.Payload.{begin_payload}
use Rattle.zst_record.specs.Table.{fields_of, head_bytes}
use Rattle.zst_record.proofs.HeadBytes.{HasBytes, begin_are_bytes, padded_are_bytes, payload_are_bytes, sealed_are_bytes}
use Rattle.zst_stream.specs.Image.{begin_head, end_after, front_of, image, image_after, piece_after, record_after}
use Rattle.zst_stream.specs.Records.{TextIsBytes, item_head, item_payload, piece_for, pieces_for, view_text}
use Rattle.zst_stream.proofs.CarriedItems.{IsCarried, items_carried}

abbrev IsByte : ℕ → Type 0
IsByte byte = byte < 2 ^ 8

-- only BEGIN's record has a text
no_text : (to : ℕ) (item : Item) → HasBytes (fields_of (item_head to item))
no_text to (FreeObjects first count) = tt
no_text to (At k (Put head bonus keep_spill max_block)) = tt
no_text to (At k (Spill bytes)) = tt
no_text to (At k (FreeFrom offset)) = tt
no_text to (At k (Free offset count)) = tt
no_text to (At k (Redact offset count)) = tt
no_text to (At k (Write offset type bytes)) = tt

payload_of_item : (item : Item) → IsCarried item → AreBytes (item_payload item)
payload_of_item (FreeObjects first count) is = All-nil IsByte
payload_of_item (At k (Put head bonus keep_spill max_block)) is = padded_are_bytes ((length bonus + 7) / 8 * 8) bonus is.1.1.1
payload_of_item (At k (Spill bytes)) is = is.1.1
payload_of_item (At k (FreeFrom offset)) is = All-nil IsByte
payload_of_item (At k (Free offset count)) is = All-nil IsByte
payload_of_item (At k (Redact offset count)) is = All-nil IsByte
payload_of_item (At k (Write offset type bytes)) is = is.1.3

record_are_bytes : (before : List ℕ) (head : Head) → HasBytes (fields_of head) → AreBytes (record_after before head)
unfolding record_after
record_are_bytes before head has = sealed_are_bytes head _ has

pieces_are_bytes : (to : ℕ) (before : List ℕ) (sent : List Item) → All IsCarried sent → AreBytes (image_after before (pieces_for to sent) to)
unfolding image_after
pieces_are_bytes to before [] all = record_are_bytes before (end_after before to) tt
pieces_are_bytes to before (item ∷ sent) all =
    let piece = piece_after before (piece_for to item) in
    All-append IsByte piece (image_after (before ++ piece) (pieces_for to sent) to)
    (All-append IsByte (record_after before (item_head to item)) (item_payload item) (record_are_bytes before (item_head to item) (no_text to item)) (payload_of_item item (All-head IsCarried item sent all)))
    (pieces_are_bytes to (before ++ piece) sent (All-tail IsCarried item sent all))

front_is_bytes : (header : Header) → AreBytes header.name → AreBytes (front_of header)
unfolding front_of
front_is_bytes header name =
    All-append IsByte (head_bytes (begin_head header)) (begin_payload header) (begin_are_bytes header (length (begin_payload header)) name) (payload_are_bytes header)

pub text_is_bytes : TextIsBytes
unfolding view_text image
text_is_bytes header snap choice point lawful name =
    let sent = items (view_of header snap choice) point in
    All-append IsByte (front_of header) (image_after (front_of header) (pieces_for header.to sent) header.to) (front_is_bytes header name)
    (pieces_are_bytes header.to (front_of header) sent (items_carried header snap choice point lawful))
