-- What a writer writes is an image.
use Rattle.std.specs.Prelude.{ℕ, ◌≡◌, List, []}
use Rattle.zst_model.specs.declared.sends.header.Header.{Header}
use Rattle.zst_stream.specs.Image.{Piece, IsStream, image}
use Rattle.zst_stream.specs.Laws.{all_pieces}
use Rattle.zst_writer.specs.Writes.{puts_after}

-- Who puts BEGIN, the pieces of a stream and END, whatever sums its head says, writes the image of the stream.
abbrev pub ImageIsPut : Type 0
ImageIsPut =
    (header : Header) (pieces : List Piece) (sums : List ℕ) → IsStream header pieces
    → puts_after [] (all_pieces header pieces sums) ≡ image header pieces
