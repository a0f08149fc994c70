-- The bytes of a stream as they are written, and the records that they are.
use Rattle.std.specs.Prelude.{ℕ, ◌+◌, ◌≡◌, List, [], ◌∷◌, ◌++◌, length, take, None, Ok}
use Rattle.zst_fletcher.specs.WeightSum.{weight_sum, parts_of}
use Rattle.zst_model.specs.declared.sends.header.Header.{Header}
use Rattle.zst_record.specs.declared.head.Head.{Head}
use Rattle.zst_record.specs.declared.head.Head.TheVariants as heads
use Rattle.zst_record.specs.Formats.{summed_len}
use Rattle.zst_record.specs.Heads.{Covered, payload_len}
use Rattle.zst_record.specs.Payload.{StatesPayload, bare, begin_payload}
use Rattle.zst_record.specs.Table.{head_bytes, sealed_bytes}
use Rattle.zst_record.specs.RecordValues.{Fits, IsLater, BeginFits}
use Rattle.zst_stream.specs.Reading.{closing, opened}

-- a record and its payload
pub record Piece : Type 0 where
  pub head : Head
  pub payload : List ℕ

-- a record after a text: its checksum is that of all bytes before it
unfoldable pub record_after : List ℕ → Head → List ℕ
record_after before head = sealed_bytes head (parts_of (weight_sum (before ++ take summed_len (head_bytes head))))

abbrev pub piece_after : List ℕ → Piece → List ℕ
piece_after before p = record_after before p.head ++ p.payload

-- END after a text: it states the sums of all before it
abbrev pub end_after : List ℕ → ℕ → Head
end_after before to = heads.End (parts_of (weight_sum before)) to

-- these pieces after a text, and then END
unfoldable pub image_after : List ℕ → List Piece → ℕ → List ℕ
image_after before [] to = record_after before (end_after before to)
image_after before (p ∷ ps) to = piece_after before p ++ image_after (before ++ piece_after before p) ps to

-- BEGIN as the writer states it
abbrev pub begin_head : Header → Head
begin_head header = heads.Begin header (length (begin_payload header))

-- BEGIN and its payload
unfoldable pub front_of : Header → List ℕ
front_of header = head_bytes (begin_head header) ++ begin_payload header

-- the bytes of a stream: BEGIN, its pieces and END
unfoldable pub image : Header → List Piece → List ℕ
image header pieces = front_of header ++ image_after (front_of header) pieces header.to

-- the records of these bytes
unfoldable pub covers_after : ℕ → List ℕ → List Piece → ℕ → List Covered
covers_after index before [] to = record { head = end_after before to; at = length before; index = index; payload = [] } ∷ []
covers_after index before (p ∷ ps) to =
    record { head = p.head; at = length before; index = index; payload = p.payload }
    ∷ covers_after (index + 1) (before ++ piece_after before p) ps to

unfoldable pub covers : Header → List Piece → List Covered
covers header pieces =
    record { head = begin_head header; at = 0; index = 0; payload = begin_payload header }
    ∷ covers_after 1 (front_of header) pieces header.to

-- a piece that a stream with these features may have between BEGIN and END
pub record PieceFits (features : ℕ) (p : Piece) : Type 0 where
  pub later : IsLater p.head
  pub not_end : closing p.head ≡ None
  pub fits : Fits features p.head
  pub len : length p.payload ≡ payload_len p.head
  pub sound : opened p.head p.payload ≡ Ok p.head

abbrev pub PiecesFit : ℕ → List Piece → Type 0
PiecesFit features [] = Unit {0}
PiecesFit features (p ∷ ps) = PieceFits features p × PiecesFit features ps

-- a header that BEGIN states with its payload
pub record CanBegin (header : Header) : Type 0 where
  pub begins : BeginFits (bare header) (length (begin_payload header))
  pub payload : StatesPayload header

-- a header and pieces that a stream can state
pub record IsStream (header : Header) (pieces : List Piece) : Type 0 where
  pub begins : CanBegin header
  pub pieces_fit : PiecesFit header.features pieces
