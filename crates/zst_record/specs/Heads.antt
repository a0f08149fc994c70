-- What a record says beside its fields.
use Rattle.std.specs.Prelude.{ℕ, ◌+◌, ◌*◌, ◌/◌, List}
use Rattle.zst_record.specs.declared.head.Head.{Head}
use Rattle.zst_record.specs.declared.head.Head.TheVariants as heads
use Rattle.zst_record.specs.declared.head.Record.{Record}
use Rattle.zst_record.specs.Formats.{record_len}

-- the count of bytes that follow the record
abbrev pub payload_len : Head → ℕ
payload_len (heads.Begin header len) = len
payload_len (heads.Object object kind bonus_kind block_size bonus_len max_block to) = (bonus_len + 7) / 8 * 8
payload_len (heads.FreeObjects first count to) = 0
payload_len (heads.Write object kind offset size to) = size
payload_len (heads.Free object offset size to) = 0
payload_len (heads.End sums to) = 0
payload_len (heads.Spill object size to) = size
payload_len (heads.Redact object offset size to) = 0

-- the count of the record's bytes, its payload among them
abbrev pub size_of : Head → ℕ
size_of head = record_len + payload_len head

-- a covered record, as plain data: what it says, its place, its number and its payload
pub record Covered : Type 0 where
  pub head : Head
  pub at : ℕ
  pub index : ℕ
  pub payload : List ℕ

-- a record as the code hands it out
abbrev pub covered_of : Record → Covered
covered_of r = record { head = r.head.now; at = r.at; index = r.index; payload = r.payload.now }
