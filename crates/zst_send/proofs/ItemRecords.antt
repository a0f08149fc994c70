-- The record of an item, as the writer puts it.
use Rattle.std.proofs.Common.{◌≡◌, ℕ, Bool, true, false, if◌then◌else◌, List, [], ◌++◌, length, take, drop, flat_map, refl, sym, ap, ◌∙◌, arith, length-append}
use Rattle.std.proofs.Math.Seq.{take-append_seam}
use Rattle.std.proofs.lemmas.List.{append-nil}
use Rattle.zst_bytes.specs.Words.{word}
use Rattle.zst_bytes.proofs.WordLists.{length-words}
use Rattle.zst_fletcher.specs.WeightSum.{IsWhole}
use Rattle.zst_model.specs.declared.sends.header.Header.{Header}
use Rattle.zst_model.specs.declared.states.item.Change.TheVariants as changes
use Rattle.zst_model.specs.declared.states.item.Item.{Item}
use Rattle.zst_model.specs.declared.states.item.Item.TheVariants.{At, FreeObjects}
use Rattle.zst_record.specs.declared.head.Head.{Head}
use Rattle.zst_record.specs.declared.head.Head.TheVariants as heads
use Rattle.zst_record.specs.Payload.{begin_payload, has_payload, payload_bytes, payload_fields, payload_magic}
use Rattle.zst_record.specs.Table.{head_bytes}
use Rattle.zst_stream.specs.Image.{front_of, piece_after, record_after}
use Rattle.zst_stream.specs.Records.{item_head, item_payload, piece_for}
use Rattle.zst_writer.specs.Writes.{bytes_after}

-- the record of an item has its checksum, and states no sums of its own
item_bytes : (text : List ℕ) (to : ℕ) (item : Item) → bytes_after text (item_head to item) ≡ record_after text (item_head to item)
unfolding bytes_after
item_bytes text to (FreeObjects first count) = refl
item_bytes text to (At k (changes.Put head bonus keep max)) = refl
item_bytes text to (At k (changes.Spill bytes)) = refl
item_bytes text to (At k (changes.FreeFrom offset)) = refl
item_bytes text to (At k (changes.Free offset count)) = refl
item_bytes text to (At k (changes.Redact offset count)) = refl
item_bytes text to (At k (changes.Write offset type bytes)) = refl

-- a record and its payload are the item's piece
pub is_piece : (text : List ℕ) (to : ℕ) (item : Item) (head : Head) (bytes payload : List ℕ) → head ≡ item_head to item → bytes ≡ bytes_after text head → payload ≡ item_payload item
    → bytes ++ payload ≡ piece_after text (piece_for to item)
is_piece text to item head bytes payload states is follows =
    ap (λ (r : List ℕ). r ++ payload) (is ∙ ap (bytes_after text) states ∙ item_bytes text to item) ∙ ap (λ (p : List ℕ). record_after text (item_head to item) ++ p) follows

-- a record without a payload is the item's piece
pub is_lone_piece : (text : List ℕ) (to : ℕ) (item : Item) (head : Head) (bytes : List ℕ) → head ≡ item_head to item → bytes ≡ bytes_after text head → [] ≡ item_payload item
    → bytes ≡ piece_after text (piece_for to item)
is_lone_piece text to item head bytes states is follows = sym (append-nil bytes) ∙ is_piece text to item head bytes [] states is follows

-- ---- BEGIN

payload_whole : (header : Header) (has : Bool) → IsWhole (if has then payload_bytes header else [])
unfolding payload_bytes
payload_whole header true =
    let long = length-words (payload_fields header) in
    omega (arith, length-append payload_magic (flat_map word (payload_fields header)), long)
payload_whole header false = refl

-- a payload of BEGIN is whole words
pub begin_whole : (header : Header) → IsWhole (begin_payload header)
unfolding begin_payload
begin_whole header = payload_whole header (has_payload header)

-- what was written of it in front of a room is the payload
pub front_taken : (header : Header) (count : ℕ) (room old : List ℕ) → count ≡ length (begin_payload header) → room ≡ begin_payload header ++ drop (length (begin_payload header)) old
    → take count room ≡ begin_payload header
front_taken header count room old len is =
    ap (λ (n : ℕ). take n room) len ∙ ap (take (length (begin_payload header))) is ∙ take-append_seam (begin_payload header) (drop (length (begin_payload header)) old)

-- BEGIN and its payload are the front
pub is_front : (header : Header) (count : ℕ) (head : List ℕ) → count ≡ length (begin_payload header) → head ≡ bytes_after [] (heads.Begin header count) → head ++ begin_payload header ≡ front_of header
unfolding front_of bytes_after
is_front header count head len is = ap (λ (l : List ℕ). l ++ begin_payload header) (is ∙ ap (λ (n : ℕ). head_bytes (heads.Begin header n)) len)
