-- What a writer has written, and what it writes next.
use Rattle.std.specs.Prelude.{ℕ, ◌≡◌, Bool, true, false, List, [], ◌∷◌, ◌++◌}
use Rattle.zst_fletcher.specs.WeightSum.{weight_sum, IsWhole}
use Rattle.zst_record.specs.declared.head.Head.{Head}
use Rattle.zst_record.specs.declared.head.Head.TheVariants as heads
use Rattle.zst_record.specs.Table.{head_bytes}
use Rattle.zst_stream.specs.Image.{Piece, record_after, end_after}
use Rattle.zst_writer.specs.declared.writer.Writer.{Writer}

-- the writer has written this text
pub record HasWritten (writer : Writer) (text : List ℕ) : Type 0 where
  pub sum : writer.sum ≡ weight_sum text
  pub words : IsWhole text

-- the head, where END states the sums of the text
abbrev pub stating : List ℕ → Head → Head
stating text (heads.End sums to) = end_after text to
stating text head = head

-- a stream begins by this head
abbrev pub is_begin : Head → Bool
is_begin (heads.Begin header len) = true
is_begin head = false

-- the bytes of a record after a text: BEGIN has no checksum
unfoldable pub bytes_after : List ℕ → Head → List ℕ
bytes_after text (heads.Begin header len) = head_bytes (heads.Begin header len)
bytes_after text head = record_after text (stating text head)

-- a record and its payload after a text
abbrev pub put_after : List ℕ → Piece → List ℕ
put_after text p = bytes_after text p.head ++ p.payload

-- the bytes of some records and their payloads after a text
abbrev pub puts_after : List ℕ → List Piece → List ℕ
puts_after text [] = []
puts_after text (p ∷ ps) = put_after text p ++ puts_after (text ++ put_after text p) ps
