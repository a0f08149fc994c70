-- What passes its checks fits its stream.
use Rattle.std.proofs.Common.{◌≡◌, ℕ, zero, suc, ◌-◌, ◌%◌, ◌^◌, ◌<◌, ◌≤◌, ◌==◌, ◌&&◌, ◌||◌, Bool, true, false, not, cond, leb, nat_lt, List, [], ◌∷◌, length, take, drop, slice_index, Some, None, Ok, refl, ap, ◌∙◌, subst, option_map, arith}
use Rattle.std.proofs.Math.Nat.{pow-succ'}
use Rattle.std.proofs.lemmas.Bool.{leb-true, ltb-true, eqb-true, not-true, ne_eqb}
use Rattle.std.proofs.lemmas.List.{get_or-take, length-take, length-take-le}
use Rattle.std.proofs.lemmas.List.Elements.{All-head, All-tail, All-take, All-drop}
use Rattle.std.proofs.lemmas.List.Sums.{position_or_len_is, fails_before_first}
use Rattle.std.specs.List.{position_or_len}
use Rattle.std.specs.Prelude.{bit_and}
use Rattle.byteorder.specs.Endian.{little_from}
use Rattle.zst_bytes.specs.Bytes.{bytes_at, number_at}
use Rattle.zst_model.specs.states.State.{AreBytes, is_block_size, is_spill_size}
use Rattle.zst_model.specs.sends.Features.{redacts}
use Rattle.zst_model.proofs.Booleans.{right_fails}
use Rattle.zst_record.specs.declared.head.Head.{Head}
use Rattle.zst_record.specs.declared.head.Head.TheVariants as heads
use Rattle.zst_record.specs.Formats.{stream_magic, reversed_magic, large_blocks}
use Rattle.zst_record.specs.Decoding.{Decoded, is_object, is_range, is_payload_len, needs_payload, others_of, decoded, begin_of, begin_with, snapshot_with, header_with, name_in, features_in, sums_at, typed, object_with, write_with, free_with, spill_with, redact_with}
use Rattle.zst_record.specs.Laws.{Begins, Follows}
use Rattle.zst_record.proofs.CheckedHeads.{Gives, gives-err, gives-ok, gives-check, gives-if, gives-named}

-- ---- numbers of bytes

byte-small : (bytes : List ℕ) (i : ℕ) → AreBytes bytes → slice_index bytes i < 256
byte-small [] i all = omega arith
byte-small (x ∷ xs) zero all = All-head (λ byte. byte < 2 ^ 8) x xs all
byte-small (x ∷ xs) (suc i) all = byte-small xs i (All-tail (λ byte. byte < 2 ^ 8) x xs all)

little-small : (i n : ℕ) (bytes : List ℕ) → AreBytes bytes → little_from i n bytes < 256 ^ n
little-small i zero bytes all = omega arith
little-small i (suc n) bytes all =
    let byte = byte-small bytes i all in
    let rest = little-small (suc i) n bytes all in
    let wide = pow-succ' 256 n in
    omega arith

-- a number of bytes fits its width
number-small : (bytes : List ℕ) (place width : ℕ) → AreBytes bytes → number_at bytes place width < 256 ^ width
unfolding number_at bytes_at
number-small bytes place width all =
    little-small 0 width (take width (drop place bytes)) (All-take (λ byte. byte < 2 ^ 8) width (drop place bytes) (All-drop (λ byte. byte < 2 ^ 8) place bytes all))

small-4 : (bytes : List ℕ) (place : ℕ) → AreBytes bytes → number_at bytes place 4 < 2 ^ 32
small-4 bytes place all = number-small bytes place 4 all

small-8 : (bytes : List ℕ) (place : ℕ) → AreBytes bytes → number_at bytes place 8 < 2 ^ 64
small-8 bytes place all = number-small bytes place 8 all

-- ---- names

-- a name as it stands in its field
record IsNameIn (field name : List ℕ) : Type 0 where
  short : length name < length field
  no_zero : position_or_len (λ b. b == 0) name ≡ length name
  bytes : AreBytes field → AreBytes name

front-named : (field : List ℕ) → position_or_len (λ b. b == 0) field < length field → IsNameIn field (take (position_or_len (λ b. b == 0) field) field)
front-named field inside =
    let n = position_or_len (λ (b : ℕ). b == 0) field in
    let long : length (take n field) ≡ n = length-take-le n field (omega arith) in
    record {
      short = omega arith;
      no_zero = position_or_len_is (λ (b : ℕ). b == 0) (take n field) n 0 (omega arith)
          (λ k lt. ap (λ (b : ℕ). b == 0) (get_or-take n field k 0 lt) ∙ fails_before_first (λ (b : ℕ). b == 0) field k 0 lt) (λ lt. absurd (omega arith))
          ∙ omega arith;
      bytes = λ all. All-take (λ byte. byte < 2 ^ 8) n field all;
    }

name-fits : (field name : List ℕ) → name_in field ≡ Some name → IsNameIn field name
unfolding name_in
name-fits field name is = by_test (nat_lt n (length field)) refl is
  where
    n : ℕ
    n = position_or_len (λ b. b == 0) field

    by_test : (b : Bool) → nat_lt n (length field) ≡ b → option_map (λ k. take k field) (cond b (Some n) None) ≡ Some name → IsNameIn field name
    by_test true inside e = let same : take n field ≡ name = cc in subst (IsNameIn field) same (front-named field (ltb-true n (length field) inside))
    by_test false inside e = absurd cc

-- ---- records behind BEGIN

object-fits : (features at object kind bonus_kind block_size bonus_len slots raw max_block to : ℕ) → kind < 2 ^ 32 → bonus_kind < 2 ^ 32 → max_block < 2 ^ 64 → to < 2 ^ 64
    → Gives (Follows features) (object_with at object kind bonus_kind block_size bonus_len slots raw max_block to)
unfolding object_with
object-fits features at object kind bonus_kind block_size bonus_len slots raw max_block to kind_fits bonus_kind_fits max_block_fits to_fits =
    gives-check (Follows features) (is_object object) _ _ (λ a. gives-check (Follows features) (not (kind == 0)) _ _ (λ b. gives-check (Follows features) (is_block_size block_size) _ _ (λ c.
    gives-check (Follows features) (leb bonus_len 320) _ _ (λ d. gives-check (Follows features) (leb slots 1) _ _ (λ e. gives-check (Follows features) (raw == 0) _ _ (λ f.
    gives-ok (Follows features) (heads.Object object kind bonus_kind block_size bonus_len max_block to) (
      tt,
      record {
        object_fits = a;
        kind_fits = kind_fits;
        kind_there = not-true (kind == 0) b;
        bonus_kind_fits = bonus_kind_fits;
        size = c;
        bonus_len_fits = leb-true bonus_len 320 d;
        max_block_fits = max_block_fits;
        to_fits = to_fits;
      },
    )))))))

write-fits : (features at object kind offset size compression to : ℕ) → kind < 2 ^ 32 → offset < 2 ^ 64 → to < 2 ^ 64 → Gives (Follows features) (write_with at object kind offset size compression to)
unfolding write_with
write-fits features at object kind offset size compression to kind_fits offset_fits to_fits =
    gives-check (Follows features) (is_object object) _ _ (λ a. gives-check (Follows features) (is_block_size size) _ _ (λ b. gives-check (Follows features) (compression == 0) _ _ (λ c.
    gives-ok (Follows features) (heads.Write object kind offset size to)
    (tt, record { object_fits = a; kind_fits = kind_fits; offset_fits = offset_fits; size_fits = b; to_fits = to_fits }))))

free-fits : (features at object offset size to : ℕ) → offset < 2 ^ 64 → size < 2 ^ 64 → to < 2 ^ 64 → Gives (Follows features) (free_with at object offset size to)
unfolding free_with
free-fits features at object offset size to offset_fits size_fits to_fits =
    gives-check (Follows features) (is_object object) _ _ (λ a. gives-check (Follows features) (is_range offset size || (size == 2 ^ 64 - 1)) _ _ (λ b.
    gives-ok (Follows features) (heads.Free object offset size to) (tt, record { object_fits = a; offset_fits = offset_fits; size_fits = size_fits; range = b; to_fits = to_fits })))

spill-fits : (features at object size compression to : ℕ) → to < 2 ^ 64 → Gives (Follows features) (spill_with at object size compression to)
unfolding spill_with
spill-fits features at object size compression to to_fits =
    gives-check (Follows features) (is_object object) _ _ (λ a. gives-check (Follows features) (is_spill_size size) _ _ (λ b. gives-check (Follows features) (compression == 0) _ _ (λ c.
    gives-ok (Follows features) (heads.Spill object size to) (tt, record { object_fits = a; size_fits = b; to_fits = to_fits }))))

redact-fits : (at features object offset size to : ℕ) → to < 2 ^ 64 → Gives (Follows features) (redact_with at features object offset size to)
unfolding redact_with
redact-fits at features object offset size to to_fits =
    gives-check (Follows features) (not (bit_and features redacts == 0)) _ _ (λ r. gives-check (Follows features) (is_object object) _ _ (λ a. gives-check (Follows features) (is_range offset size) _ _ (λ b.
    gives-ok (Follows features) (heads.Redact object offset size to) (tt, record { redacted = r; object_fits = a; range = b; to_fits = to_fits }))))

end-fits : (features : ℕ) (bytes : List ℕ) → AreBytes bytes → Follows features (heads.End (sums_at bytes 8) (number_at bytes 40 8))
end-fits features bytes all =
    (tt, (record { four = refl; a = small-8 bytes 8 all; b = small-8 bytes 16 all; c = small-8 bytes 24 all; d = small-8 bytes 32 all }, small-8 bytes 40 all))

typed-fits : (kind at features : ℕ) (bytes : List ℕ) → AreBytes bytes → Gives (Follows features) (typed kind at features bytes)
unfolding typed
typed-fits kind at features bytes all =
    let four = λ (place : ℕ). small-4 bytes place all in
    let eight = λ (place : ℕ). small-8 bytes place all in
    gives-if (Follows features) (kind == 0) _ _ (gives-err (Follows features) _)
    (gives-if (Follows features) (kind == 1) _ _ (object-fits features at _ _ _ _ _ _ _ _ _ (four 16) (four 20) (eight 56) (eight 40))
    (gives-if (Follows features) (kind == 2) _ _
    (gives-ok (Follows features) (heads.FreeObjects (number_at bytes 8 8) (number_at bytes 16 8) (number_at bytes 24 8)) (tt, (eight 8, eight 16, eight 24)))
    (gives-if (Follows features) (kind == 3) _ _ (write-fits features at _ _ _ _ _ _ (four 16) (eight 24) (eight 40))
    (gives-if (Follows features) (kind == 4) _ _ (free-fits features at _ _ _ _ (eight 16) (eight 24) (eight 32))
    (gives-if (Follows features) (kind == 5) _ _ (gives-ok (Follows features) (heads.End (sums_at bytes 8) (number_at bytes 40 8)) (end-fits features bytes all))
    (gives-if (Follows features) (kind == 6) _ _ (gives-err (Follows features) _)
    (gives-if (Follows features) (kind == 7) _ _ (spill-fits features at _ _ _ _ (eight 24))
    (gives-if (Follows features) (kind == 8) _ _ (gives-err (Follows features) _)
    (gives-if (Follows features) (kind == 9) _ _ (gives-err (Follows features) _)
    (gives-if (Follows features) (kind == 10) _ _ (redact-fits at features _ _ _ _ (eight 32))
    (gives-err (Follows features) _)))))))))))

-- what passes its checks in another place than the first fits the stream, and is no BEGIN
pub follows : (at features : ℕ) (bytes : List ℕ) (head : Head) → AreBytes bytes → 0 < at → decoded at features bytes ≡ Ok head → Follows features head
unfolding decoded
follows at features bytes head all later is = typed-fits (number_at bytes 0 4) at features bytes all head (rw (ne_eqb at 0 (λ e. omega arith)) at is)

-- ---- BEGIN

snapshot-fits : (len features time kind flags to from : ℕ) (field : List ℕ) → features < 2 ^ 30 → others_of features ≡ 0 → bit_and features large_blocks ≡ 0
    → flags < 2 ^ 32 → time < 2 ^ 64 → to < 2 ^ 64 → from < 2 ^ 64 → length field ≤ 256 → AreBytes field → Gives (Begins features) (snapshot_with len features time kind flags to from field)
unfolding snapshot_with header_with
snapshot-fits len features time kind flags to from field small accepted blocks flags_fit time_fits to_fits from_fits size all =
    gives-check (Begins features) ((kind == 2) || (kind == 3)) _ _ (λ a. gives-check (Begins features) (not (to == 0)) _ _ (λ b.
    gives-named (Begins features) _ _ (name_in field) (λ name is_name. gives-check (Begins features) (is_payload_len len) _ _ (λ is. gives-check (Begins features) (not ((len == 0) && needs_payload features)) _ _ (λ c.
    let named = name-fits field name is_name in
    let short = named.short in
    gives-ok (Begins features) (heads.Begin (header_with features kind flags time to from name) len) (
      (
        refl,
        record {
          features = small;
          accepted = accepted;
          small_blocks = blocks;
          kind = a;
          flags = flags_fit;
          time = time_fits;
          to = to_fits;
          to_there = not-true (to == 0) b;
          from = from_fits;
          name = omega arith;
          no_zero = named.no_zero;
          len = is;
          stated = λ none. right_fails (len == 0) (needs_payload features) (not-true ((len == 0) && needs_payload features) c) none;
          no_resume = refl;
          no_redact = refl;
          no_from_redact = refl;
        },
      ),
      named.bytes all,
    ))))))

begin-fits : (record_kind magic form features : ℕ) (next : Decoded) → (others_of features ≡ 0 → bit_and features large_blocks ≡ 0 → Gives (Begins features) next)
    → Gives (Begins features) (begin_with record_kind magic form features next)
unfolding begin_with
begin-fits record_kind magic form features next h =
    gives-check (Begins features) (record_kind == 0) _ _ (λ a. gives-check (Begins features) (not (magic == reversed_magic)) _ _ (λ b. gives-check (Begins features) (magic == stream_magic) _ _ (λ c.
    gives-check (Begins features) (not (form == 2)) _ _ (λ d. gives-check (Begins features) (form == 1) _ _ (λ e. gives-check (Begins features) (others_of features == 0) _ _ (λ f.
    gives-check (Begins features) (bit_and features large_blocks == 0) _ _ (λ g. h (eqb-true (others_of features) 0 f) (eqb-true (bit_and features large_blocks) 0 g))))))))

name-field : (bytes : List ℕ) → AreBytes bytes → (length (bytes_at bytes 56 256) ≤ 256) × AreBytes (bytes_at bytes 56 256)
unfolding bytes_at
name-field bytes all =
    (omega (arith, length-take 256 (drop 56 bytes)), All-take (λ byte. byte < 2 ^ 8) 256 (drop 56 bytes) (All-drop (λ byte. byte < 2 ^ 8) 56 bytes all))

-- what passes its checks in the first place is a BEGIN that fits the features that stand there
pub begins : (features : ℕ) (bytes : List ℕ) (head : Head) → AreBytes bytes → decoded 0 features bytes ≡ Ok head → Begins (features_in bytes) head
unfolding decoded begin_of
begins features bytes head all =
    let field = name-field bytes all in
    begin-fits (number_at bytes 0 4) (number_at bytes 8 8) (number_at bytes 16 8 % 4) (features_in bytes) _
    (λ accepted blocks. snapshot-fits (number_at bytes 4 4) (features_in bytes) (number_at bytes 24 8) (number_at bytes 32 4) (number_at bytes 36 4) (number_at bytes 40 8) (number_at bytes 48 8) (bytes_at bytes 56 256)
    (omega arith) accepted blocks (small-4 bytes 36 all) (small-8 bytes 24 all) (small-8 bytes 40 all) (small-8 bytes 48 all) field.0 field.1)
    head
