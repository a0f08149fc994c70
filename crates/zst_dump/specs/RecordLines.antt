-- The line of a covered record.
use Rattle.std.specs.Prelude.{ℕ, ◌==◌, if◌then◌else◌, List, [], ◌∷◌, ◌++◌, length, flat_map, codes, decimal, slice_index, Option, Some, None}
use Rattle.std.specs.List.{concat}
use Rattle.zst_model.specs.refusals.Texts.{guid_text}
use Rattle.zst_model.specs.declared.sends.header.Header.{Header}
use Rattle.zst_model.specs.declared.sends.header.Point.{Point}
use Rattle.zst_record.specs.Heads.{Covered}
use Rattle.zst_record.specs.declared.head.Head.{Head}
use Rattle.zst_record.specs.declared.head.Head.TheVariants as heads
use Rattle.zst_dump.specs.Parts.{name_text, length_text}

-- where a resumed stream begins
unfoldable pub resume_text : Option Point → List ℕ
resume_text None = []
resume_text (Some point) = concat (codes " resume " ∷ decimal point.object ∷ codes " " ∷ decimal point.offset ∷ [])

-- a blank and a guid
abbrev pub blank_guid : ℕ → List ℕ
blank_guid guid = concat (codes " " ∷ guid_text guid ∷ [])

-- the guids of a set after a word, where there are any
unfoldable pub guids_text : List ℕ → List ℕ → List ℕ
guids_text word guids = if length guids == 0 then [] else word ++ flat_map blank_guid guids

-- what BEGIN says, up to its payload's length
unfoldable pub fields_text : Header → ℕ → List ℕ
fields_text header payload = concat (
    codes " BEGIN features " ∷ decimal header.features
    ∷ codes " kind " ∷ decimal header.kind
    ∷ codes " flags " ∷ decimal header.flags
    ∷ codes " time " ∷ decimal header.time
    ∷ codes " toguid " ∷ guid_text header.to
    ∷ codes " fromguid " ∷ guid_text header.from
    ∷ codes " payload " ∷ decimal payload
    ∷ [])

-- the name at the end of the line
unfoldable pub named_text : List ℕ → List ℕ
named_text name = concat (codes " name " ∷ name_text name ∷ codes "\n" ∷ [])

unfoldable pub begin_text : Header → ℕ → List ℕ
begin_text header payload =
    fields_text header payload
    ++ (resume_text header.resume
    ++ (guids_text (codes " redact") header.redact
    ++ (guids_text (codes " from-redact") header.from_redact
    ++ named_text header.name)))

unfoldable pub object_text : (object kind bonus_kind block_size bonus_len : ℕ) → List ℕ
object_text object kind bonus_kind block_size bonus_len = concat (
    codes " OBJECT object " ∷ decimal object
    ∷ codes " type " ∷ decimal kind
    ∷ codes " bonustype " ∷ decimal bonus_kind
    ∷ codes " size " ∷ decimal block_size
    ∷ codes " bonus " ∷ decimal bonus_len
    ∷ codes "\n" ∷ [])

unfoldable pub free_objects_text : (first count : ℕ) → List ℕ
free_objects_text first count = concat (codes " FREEOBJECTS first " ∷ decimal first ∷ codes " count " ∷ decimal count ∷ codes "\n" ∷ [])

unfoldable pub write_text : (object kind offset size : ℕ) → List ℕ
write_text object kind offset size = concat (
    codes " WRITE object " ∷ decimal object
    ∷ codes " type " ∷ decimal kind
    ∷ codes " offset " ∷ decimal offset
    ∷ codes " length " ∷ decimal size
    ∷ codes "\n" ∷ [])

unfoldable pub free_text : (object offset size : ℕ) → List ℕ
free_text object offset size = concat (
    codes " FREE object " ∷ decimal object
    ∷ codes " offset " ∷ decimal offset
    ∷ codes " length " ∷ length_text size
    ∷ codes "\n" ∷ [])

unfoldable pub end_text : List ℕ → List ℕ
end_text sums = concat (
    codes " END sums " ∷ decimal (slice_index sums 0)
    ∷ codes " " ∷ decimal (slice_index sums 1)
    ∷ codes " " ∷ decimal (slice_index sums 2)
    ∷ codes " " ∷ decimal (slice_index sums 3)
    ∷ codes "\n" ∷ [])

unfoldable pub spill_text : (object size : ℕ) → List ℕ
spill_text object size = concat (codes " SPILL object " ∷ decimal object ∷ codes " length " ∷ decimal size ∷ codes "\n" ∷ [])

unfoldable pub redact_text : (object offset size : ℕ) → List ℕ
redact_text object offset size = concat (
    codes " REDACT object " ∷ decimal object
    ∷ codes " offset " ∷ decimal offset
    ∷ codes " length " ∷ decimal size
    ∷ codes "\n" ∷ [])

-- the line of a record, without its place
abbrev pub said : Head → ℕ → List ℕ
said (heads.Begin header len) payload = begin_text header payload
said (heads.Object object kind bonus_kind block_size bonus_len max_block to) payload = object_text object kind bonus_kind block_size bonus_len
said (heads.FreeObjects first count to) payload = free_objects_text first count
said (heads.Write object kind offset size to) payload = write_text object kind offset size
said (heads.Free object offset size to) payload = free_text object offset size
said (heads.End sums to) payload = end_text sums
said (heads.Spill object size to) payload = spill_text object size
said (heads.Redact object offset size to) payload = redact_text object offset size

-- the line of a record
abbrev pub line_text : Covered → List ℕ
line_text c = decimal c.at ++ said c.head (length c.payload)

-- the lines of records
abbrev pub lines_of : List Covered → List ℕ
lines_of cs = flat_map line_text cs
