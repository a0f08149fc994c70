-- The two last lines of a dump: how many records of each type there are, and how many bytes.
use Rattle.std.specs.Prelude.{ℕ, ◌+◌, ◌==◌, ◌<◌, ◌^◌, List, [], ◌∷◌, codes, decimal, sum_by, count_by}
use Rattle.std.specs.List.{concat}
use Rattle.zst_record.specs.Heads.{Covered, payload_len, size_of}
use Rattle.zst_record.specs.declared.head.Head.{Head}
use Rattle.zst_record.specs.declared.head.Head.TheVariants as heads
use Rattle.zst_dump.specs.declared.counts.Counts.{Counts}

-- the number of a record's type (`drr_type` of zfs_ioctl.h)
abbrev pub type_of : Head → ℕ
type_of (heads.Begin header len) = 0
type_of (heads.Object object kind bonus_kind block_size bonus_len max_block to) = 1
type_of (heads.FreeObjects first count to) = 2
type_of (heads.Write object kind offset size to) = 3
type_of (heads.Free object offset size to) = 4
type_of (heads.End sums to) = 5
type_of (heads.Spill object size to) = 7
type_of (heads.Redact object offset size to) = 10

-- how many records are of a type
abbrev pub count_of : ℕ → List Covered → ℕ
count_of type cs = count_by (λ c. type_of c.head == type) cs

-- what there is to count in some records
abbrev pub counts_of : List Covered → Counts
counts_of cs = record {
  begin = count_of 0 cs;
  object = count_of 1 cs;
  freeobjects = count_of 2 cs;
  write = count_of 3 cs;
  free = count_of 4 cs;
  end = count_of 5 cs;
  spill = count_of 7 cs;
  redact = count_of 10 cs;
  payload = sum_by (λ c. payload_len c.head) cs;
  stream = sum_by (λ c. size_of c.head) cs;
}

-- the count of all records
abbrev pub records_of : Counts → ℕ
records_of n = n.begin + n.object + n.freeobjects + n.write + n.free + n.end + n.spill + n.redact

-- the two last lines
unfoldable pub summary_text : Counts → List ℕ
summary_text n = concat (
    codes "counts begin " ∷ decimal n.begin
    ∷ codes " object " ∷ decimal n.object
    ∷ codes " freeobjects " ∷ decimal n.freeobjects
    ∷ codes " write " ∷ decimal n.write
    ∷ codes " free " ∷ decimal n.free
    ∷ codes " end " ∷ decimal n.end
    ∷ codes " spill " ∷ decimal n.spill
    ∷ codes " redact " ∷ decimal n.redact
    ∷ codes "\nrecords " ∷ decimal (records_of n)
    ∷ codes " payload " ∷ decimal n.payload
    ∷ codes " stream " ∷ decimal n.stream
    ∷ codes "\n" ∷ [])

-- a record more can be counted
abbrev pub HasRoom : Counts → Head → Type 0
HasRoom n head = (records_of n < 2 ^ 63) × (n.payload + payload_len head < 2 ^ 64) × (n.stream + size_of head < 2 ^ 64)
