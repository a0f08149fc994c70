-- The values that a record can state, and that pass its checks.
use Rattle.std.specs.Prelude.{ℕ, ◌^◌, ◌<◌, ◌≤◌, ◌≡◌, ◌==◌, ◌||◌, true, false, List, [], ◌∷◌, None, length, slice_index, bit_and, not}
use Rattle.std.specs.List.{position_or_len}
use Rattle.zst_model.specs.declared.sends.header.Header.{Header}
use Rattle.zst_model.specs.states.State.{is_block_size, is_spill_size, largest_bonus}
use Rattle.zst_model.specs.sends.Features.{redacts}
use Rattle.zst_record.specs.declared.head.Head.{Head}
use Rattle.zst_record.specs.declared.head.Head.TheVariants as heads
use Rattle.zst_record.specs.Formats.{large_blocks, to_end}
use Rattle.zst_record.specs.Decoding.{is_object, is_range, is_payload_len, needs_payload, others_of}

-- four numbers of 64 bits
pub record SumsFit (sums : List ℕ) : Type 0 where
  pub four : sums ≡ slice_index sums 0 ∷ slice_index sums 1 ∷ slice_index sums 2 ∷ slice_index sums 3 ∷ []
  pub a : slice_index sums 0 < 2 ^ 64
  pub b : slice_index sums 1 < 2 ^ 64
  pub c : slice_index sums 2 < 2 ^ 64
  pub d : slice_index sums 3 < 2 ^ 64

-- BEGIN before its payload is read
pub record BeginFits (header : Header) (payload_len : ℕ) : Type 0 where
  pub features : header.features < 2 ^ 30
  pub accepted : others_of header.features ≡ 0
  pub small_blocks : bit_and header.features large_blocks ≡ 0
  pub kind : ((header.kind == 2) || (header.kind == 3)) ≡ true
  pub flags : header.flags < 2 ^ 32
  pub time : header.time < 2 ^ 64
  pub to : header.to < 2 ^ 64
  pub to_there : (header.to == 0) ≡ false
  pub from : header.from < 2 ^ 64
  pub name : length header.name < 256
  pub no_zero : position_or_len (λ b. b == 0) header.name ≡ length header.name
  pub len : is_payload_len payload_len ≡ true
  pub stated : ((payload_len == 0) ≡ true) → needs_payload header.features ≡ false
  pub no_resume : header.resume ≡ None
  pub no_redact : header.redact ≡ []
  pub no_from_redact : header.from_redact ≡ []

pub record ObjectFits (object kind bonus_kind block_size bonus_len max_block to : ℕ) : Type 0 where
  pub object_fits : is_object object ≡ true
  pub kind_fits : kind < 2 ^ 32
  pub kind_there : (kind == 0) ≡ false
  pub bonus_kind_fits : bonus_kind < 2 ^ 32
  pub size : is_block_size block_size ≡ true
  pub bonus_len_fits : bonus_len ≤ largest_bonus
  pub max_block_fits : max_block < 2 ^ 64
  pub to_fits : to < 2 ^ 64

pub record WriteFits (object kind offset size to : ℕ) : Type 0 where
  pub object_fits : is_object object ≡ true
  pub kind_fits : kind < 2 ^ 32
  pub offset_fits : offset < 2 ^ 64
  pub size_fits : is_block_size size ≡ true
  pub to_fits : to < 2 ^ 64

pub record FreeFits (object offset size to : ℕ) : Type 0 where
  pub object_fits : is_object object ≡ true
  pub offset_fits : offset < 2 ^ 64
  pub size_fits : size < 2 ^ 64
  pub range : (is_range offset size || (size == to_end)) ≡ true
  pub to_fits : to < 2 ^ 64

pub record SpillFits (object size to : ℕ) : Type 0 where
  pub object_fits : is_object object ≡ true
  pub size_fits : is_spill_size size ≡ true
  pub to_fits : to < 2 ^ 64

pub record RedactFits (features object offset size to : ℕ) : Type 0 where
  pub redacted : not (bit_and features redacts == 0) ≡ true
  pub object_fits : is_object object ≡ true
  pub range : is_range offset size ≡ true
  pub to_fits : to < 2 ^ 64

-- every record but BEGIN
abbrev pub IsLater : Head → Type 0
IsLater (heads.Begin header len) = ⊥
IsLater head = Unit {0}

-- the values of a record of a stream with these features
abbrev pub Fits : ℕ → Head → Type 0
Fits features (heads.Begin header len) = (features ≡ header.features) × BeginFits header len
Fits features (heads.Object object kind bonus_kind block_size bonus_len max_block to) = ObjectFits object kind bonus_kind block_size bonus_len max_block to
Fits features (heads.FreeObjects first count to) = (first < 2 ^ 64) × (count < 2 ^ 64) × (to < 2 ^ 64)
Fits features (heads.Write object kind offset size to) = WriteFits object kind offset size to
Fits features (heads.Free object offset size to) = FreeFits object offset size to
Fits features (heads.End sums to) = SumsFit sums × (to < 2 ^ 64)
Fits features (heads.Spill object size to) = SpillFits object size to
Fits features (heads.Redact object offset size to) = RedactFits features object offset size to
