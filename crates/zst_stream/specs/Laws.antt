-- What ties the bytes that are written to the records that are read.
use Rattle.std.specs.Prelude.{ℕ, ◌≡◌, ◌⊎◌, List, [], ◌∷◌, ◌++◌, map}
use Rattle.zst_model.specs.declared.sends.header.Header.{Header}
use Rattle.zst_record.specs.declared.head.Head.TheVariants as heads
use Rattle.zst_record.specs.Heads.{Covered}
use Rattle.zst_stream.specs.Reading.{reading, FrontOf, waiting, complete}
use Rattle.zst_stream.specs.Findings.{FindsAtEnd}
use Rattle.zst_record.specs.Payload.{begin_payload}
use Rattle.zst_stream.specs.Image.{begin_head, Piece, IsStream, image, image_after, piece_after, covers}

-- However a text goes on, the reading of a front of it is a front of its reading.
abbrev pub FrontsAgree : Type 0
FrontsAgree = (text later : List ℕ) → FrontOf (reading text) (reading (text ++ later))

-- What a reading refuses is in the stream itself, and never that the input is cut.
abbrev pub FaultsAreFound : Type 0
FaultsAreFound = (text : List ℕ) → FindsAtEnd (reading text).outcome

-- An image is read as BEGIN, its pieces and END.
abbrev pub ImageIsRead : Type 0
ImageIsRead =
    (header : Header) (pieces : List Piece) → IsStream header pieces
    → reading (image header pieces) ≡ record { covered = covers header pieces; outcome = complete }

-- Of a front of an image a front of these is covered, and no check fails.
abbrev pub FrontIsRead : Type 0
FrontIsRead =
    (header : Header) (pieces : List Piece) (text later : List ℕ) → IsStream header pieces
    → text ++ later ≡ image header pieces → FrontOf (reading text) (record { covered = covers header pieces; outcome = complete })

-- what a covered record says, without its place
abbrev pub piece_of : Covered → Piece
piece_of c = record { head = c.head; payload = c.payload }

-- BEGIN, the pieces and END
abbrev pub all_pieces : Header → List Piece → List ℕ → List Piece
all_pieces header pieces sums =
    record { head = begin_head header; payload = begin_payload header }
    ∷ (pieces ++ record { head = heads.End sums header.to; payload = [] } ∷ [])

-- The records of an image are BEGIN, its pieces in their order, and END.
abbrev pub CoversArePieces : Type 0
CoversArePieces = (header : Header) (pieces : List Piece) → (sums : List ℕ) × (map piece_of (covers header pieces) ≡ all_pieces header pieces sums)

-- Of a front of an image the first pieces are covered, and no check fails: it waits, or all is covered.
abbrev pub FirstPieces : Type 0
FirstPieces =
    (header : Header) (pieces : List Piece) (text later : List ℕ) → IsStream header pieces → text ++ later ≡ image header pieces
    → (sums : List ℕ) × (others : List Piece) × (all_pieces header pieces sums ≡ map piece_of (reading text).covered ++ others)
    × (((reading text).outcome ≡ waiting) ⊎ (((reading text).outcome ≡ complete) × (others ≡ [])))

-- A writer that has a text and goes on by its next piece still writes the image.
abbrev pub PieceGoesOn : Type 0
PieceGoesOn =
    (header : Header) (text : List ℕ) (p : Piece) (later all : List Piece) → text ++ image_after text (p ∷ later) header.to ≡ image header all
    → (text ++ piece_after text p) ++ image_after (text ++ piece_after text p) later header.to ≡ image header all
