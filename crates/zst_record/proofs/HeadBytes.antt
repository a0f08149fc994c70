-- What is written of records and of BEGIN's payload is bytes.
use Rattle.std.proofs.Common.{◌≡◌, ℕ, ◌+◌, ◌-◌, ◌^◌, ◌<◌, Bool, true, false, List, [], ◌∷◌, ◌++◌, length, take, drop, replicate, flat_map, nat_lt, refl, if◌then◌else◌, arith}
use Rattle.std.specs.List.{list_all}
use Rattle.std.proofs.lemmas.Bool.{and_parts, ltb-true}
use Rattle.std.proofs.lemmas.List.Elements.{All-append, All-cons, All-drop, All-nil, All-replicate, All-take}
use Rattle.zst_bytes.specs.Bytes.{number_bytes, written}
use Rattle.zst_bytes.specs.Fields.{Field, number, text, lay, zeros}
use Rattle.zst_bytes.specs.Words.{word}
use Rattle.zst_model.specs.declared.sends.header.Header.{Header}
use Rattle.zst_model.specs.states.State.{AreBytes}
use Rattle.zst_model.proofs.LowBytes.{lowest_are_bytes}
use Rattle.zst_record.specs.declared.head.Head.{Head}
use Rattle.zst_record.specs.declared.head.Head.TheVariants as heads
use Rattle.zst_record.specs.Formats.{record_len, summed_len}
use Rattle.zst_record.specs.Payload.{begin_payload, has_payload, payload_bytes, payload_fields, payload_magic}
use Rattle.zst_record.specs.Table.{fields_of, head_bytes, padded, sealed_bytes, sum_fields}

abbrev IsByte : ℕ → Type 0
IsByte byte = byte < 2 ^ 8

-- ---- numbers

number_are_bytes : (width value : ℕ) → AreBytes (number_bytes width value)
unfolding number_bytes
number_are_bytes width value = lowest_are_bytes 0 width value

words_are_bytes : (numbers : List ℕ) → AreBytes (flat_map word numbers)
words_are_bytes [] = All-nil IsByte
words_are_bytes (n ∷ numbers) = All-append IsByte (word n) (flat_map word numbers) (number_are_bytes 8 n) (words_are_bytes numbers)

-- ---- fields

written_are_bytes : (place width : ℕ) (bytes old : List ℕ) → AreBytes bytes → AreBytes old → AreBytes (written place width bytes old)
unfolding written
written_are_bytes place width bytes old new was =
    All-append IsByte (take place old) (bytes ++ drop (place + width) old) (All-take IsByte place old was)
    (All-append IsByte bytes (drop (place + width) old) new (All-drop IsByte (place + width) old was))

-- each text of these fields is bytes
abbrev pub HasBytes : List Field → Type 0
HasBytes [] = Unit {0}
HasBytes (number place width value ∷ fields) = HasBytes fields
HasBytes (text place width bytes ∷ fields) = AreBytes bytes × HasBytes fields

laid_are_bytes : (fields : List Field) (old : List ℕ) → HasBytes fields → AreBytes old → AreBytes (lay fields old)
laid_are_bytes [] old has was = was
laid_are_bytes (number place width value ∷ fields) old has was =
    laid_are_bytes fields (written place width (number_bytes width value) old) has
    (written_are_bytes place width (number_bytes width value) old (number_are_bytes width value) was)
laid_are_bytes (text place width bytes ∷ fields) old has was =
    laid_are_bytes fields (written place width bytes old) has.1 (written_are_bytes place width bytes old has.0 was)

zeros_are_bytes : (size : ℕ) → AreBytes (zeros size)
unfolding zeros
zeros_are_bytes size = All-replicate IsByte size 0 (omega arith)

pub padded_are_bytes : (width : ℕ) (bytes : List ℕ) → AreBytes bytes → AreBytes (padded width bytes)
unfolding padded
padded_are_bytes width bytes all = All-append IsByte bytes (replicate (width - length bytes) 0) all (All-replicate IsByte (width - length bytes) 0 (omega arith))

-- ---- records

head_are_bytes : (head : Head) → HasBytes (fields_of head) → AreBytes (head_bytes head)
unfolding head_bytes
head_are_bytes head has = laid_are_bytes (fields_of head) (zeros record_len) has (zeros_are_bytes record_len)

-- a record with whatever checksum
pub sealed_are_bytes : (head : Head) (sums : List ℕ) → HasBytes (fields_of head) → AreBytes (sealed_bytes head sums)
unfolding sealed_bytes
sealed_are_bytes head sums has = laid_are_bytes (sum_fields summed_len sums) (head_bytes head) tt (head_are_bytes head has)

-- BEGIN of a name that is bytes, and its payload
pub begin_are_bytes : (header : Header) (len : ℕ) → AreBytes header.name → AreBytes (head_bytes (heads.Begin header len))
begin_are_bytes header len name = head_are_bytes (heads.Begin header len) (padded_are_bytes 256 header.name name, tt)

all_small : (bytes : List ℕ) → list_all (λ byte. nat_lt byte 256) bytes ≡ true → AreBytes bytes
all_small [] small = All-nil IsByte
all_small (byte ∷ bytes) small =
    let both = and_parts (nat_lt byte 256) (list_all (λ (b : ℕ). nat_lt b 256) bytes) small in
    All-cons IsByte byte bytes (ltb-true byte 256 both.0) (all_small bytes both.1)

magic_are_bytes : AreBytes payload_magic
magic_are_bytes = all_small payload_magic refl

pub payload_are_bytes : (header : Header) → AreBytes (begin_payload header)
unfolding begin_payload payload_bytes
payload_are_bytes header = go (has_payload header)
  where
    go : (t : Bool) → AreBytes (if t then payload_magic ++ flat_map word (payload_fields header) else [])
    go true = All-append IsByte payload_magic (flat_map word (payload_fields header)) magic_are_bytes (words_are_bytes (payload_fields header))
    go false = All-nil IsByte
