-- Some puts after a text are what is left of an image.
use Rattle.std.proofs.Common.{◌≡◌, ℕ, List, [], ◌∷◌, ◌++◌, None, refl, ap, ◌∙◌}
use Rattle.std.proofs.lemmas.List.{append-nil}
use Rattle.zst_model.specs.declared.sends.header.Header.{Header}
use Rattle.zst_record.specs.declared.head.Head.{Head}
use Rattle.zst_record.specs.declared.head.Head.TheVariants as heads
use Rattle.zst_record.specs.RecordValues.{IsLater}
use Rattle.zst_stream.specs.Reading.{closing}
use Rattle.zst_stream.specs.Image.{Piece, record_after, piece_after, end_after, image_after, image, front_of, PiecesFit, IsStream}
use Rattle.zst_stream.specs.Laws.{all_pieces}
use Rattle.zst_writer.specs.Writes.{bytes_after, puts_after}

-- a record between BEGIN and END
plain : (text : List ℕ) (head : Head) → IsLater head → closing head ≡ None → bytes_after text head ≡ record_after text head
unfolding bytes_after
plain text (heads.Begin header len) later middle = absurd later
plain text (heads.End sums to) later middle = absurd cc
plain text head later middle = refl

end-put : (text sums : List ℕ) (to : ℕ) → puts_after text (record { head = heads.End sums to; payload = [] } ∷ []) ≡ record_after text (end_after text to)
unfolding bytes_after
end-put text sums to =
    append-nil (record_after text (end_after text to) ++ []) ∙ append-nil (record_after text (end_after text to))

rest-put : (text : List ℕ) (features : ℕ) (ps : List Piece) (sums : List ℕ) (to : ℕ) → PiecesFit features ps
    → puts_after text (ps ++ record { head = heads.End sums to; payload = [] } ∷ []) ≡ image_after text ps to
unfolding image_after
rest-put text features [] sums to fit = end-put text sums to
rest-put text features (p ∷ ps) sums to fit =
    rw (plain text p.head fit.0.later fit.0.not_end)
    (ap (λ (l : List ℕ). piece_after text p ++ l) (rest-put (text ++ piece_after text p) features ps sums to fit.1))

pub all-put : (header : Header) (ps : List Piece) (sums : List ℕ) → IsStream header ps → puts_after [] (all_pieces header ps sums) ≡ image header ps
unfolding image front_of bytes_after
all-put header ps sums s =
    ap (λ (l : List ℕ). front_of header ++ l) (rest-put (front_of header) header.features ps sums header.to s.pieces_fit)
