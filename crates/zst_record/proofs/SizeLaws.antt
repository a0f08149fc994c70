-- The payload of a record that passes its checks.
use Rattle.std.proofs.Common.{◌≡◌, ℕ, ◌+◌, ◌*◌, ◌/◌, ◌%◌, ◌^◌, ◌≤◌, ◌==◌, ◌&&◌, ◌||◌, Bool, true, false, not, ◌-◌, leb, List, Ok, refl, arith}
use Rattle.std.proofs.lemmas.Bool.{leb-true, eqb-true, and_parts}
use Rattle.std.specs.Prelude.{bit_and}
use Rattle.zst_bytes.specs.Bytes.{number_at}
use Rattle.zst_model.specs.states.State.{is_block_size, is_spill_size, largest_block}
use Rattle.zst_record.specs.declared.head.Head.{Head}
use Rattle.zst_record.specs.declared.head.Head.TheVariants as heads
use Rattle.zst_model.specs.sends.Features.{redacts}
use Rattle.zst_record.specs.Formats.{stream_magic, reversed_magic, large_blocks}
use Rattle.zst_record.specs.Decoding.{Decoded, is_object, is_range, is_payload_len, needs_payload, others_of, decoded, begin_of, begin_with, snapshot_with, header_with, name_in, typed, object_with, write_with, free_with, spill_with, redact_with}
use Rattle.zst_record.specs.Laws.{IsBounded}
use Rattle.zst_record.proofs.CheckedHeads.{Gives, gives-err, gives-ok, gives-check, gives-if, gives-named}

pub block-bounded : (size : ℕ) → is_block_size size ≡ true → (size % 4 ≡ 0) × (size ≤ 131072)
unfolding is_block_size largest_block
block-bounded size is =
    let all = and_parts (leb 512 size && leb size 131072) ((size % 512) == 0) is in
    let rest = eqb-true (size % 512) 0 all.1 in
    (omega arith, leb-true _ _ (and_parts (leb 512 size) (leb size 131072) all.0).1)

pub spill-size-bounded : (size : ℕ) → is_spill_size size ≡ true → (size % 4 ≡ 0) × (size ≤ 131072)
unfolding is_spill_size
spill-size-bounded size is =
    let all = and_parts (leb 512 size && leb size 131072) ((size % 512) == 0) is in
    let rest = eqb-true (size % 512) 0 all.1 in
    (omega arith, leb-true _ _ (and_parts (leb 512 size) (leb size 131072) all.0).1)

len-bounded : (len : ℕ) → is_payload_len len ≡ true → (len % 4 ≡ 0) × (len ≤ 131072)
unfolding is_payload_len
len-bounded len is = by_test (len == 0) refl
  where
    by_test : (b : Bool) → (len == 0) ≡ b → (len % 4 ≡ 0) × (len ≤ 131072)
    by_test true e = let none = eqb-true len 0 e in (omega arith, omega arith)
    by_test false e =
        let all = and_parts (leb 40 len && leb len 296) ((len % 8) == 0) (rw e at is) in
        let rest = eqb-true (len % 8) 0 all.1 in
        let below = leb-true _ _ (and_parts (leb 40 len) (leb len 296) all.0).1 in
        (omega arith, omega arith)

bonus-bounded : (len : ℕ) → leb len 320 ≡ true → ((len + 7) / 8 * 8 % 4 ≡ 0) × ((len + 7) / 8 * 8 ≤ 131072)
bonus-bounded len is = let below = leb-true len 320 is in (omega arith, omega arith)

none-bounded : (0 % 4 ≡ 0) × (0 ≤ 131072)
none-bounded = (refl, omega arith)

object-bounded : (at object kind bonus_kind block_size bonus_len slots raw max_block to : ℕ) → Gives IsBounded (object_with at object kind bonus_kind block_size bonus_len slots raw max_block to)
unfolding object_with
object-bounded at object kind bonus_kind block_size bonus_len slots raw max_block to =
    gives-check IsBounded (is_object object) _ _ (λ a. gives-check IsBounded (not (kind == 0)) _ _ (λ b. gives-check IsBounded (is_block_size block_size) _ _ (λ c.
    gives-check IsBounded (leb bonus_len 320) _ _ (λ bonus. gives-check IsBounded (leb slots 1) _ _ (λ d. gives-check IsBounded (raw == 0) _ _ (λ e.
    gives-ok IsBounded (heads.Object object kind bonus_kind block_size bonus_len max_block to) (bonus-bounded bonus_len bonus)))))))

write-bounded : (at object kind offset size compression to : ℕ) → Gives IsBounded (write_with at object kind offset size compression to)
unfolding write_with
write-bounded at object kind offset size compression to =
    gives-check IsBounded (is_object object) _ _ (λ a. gives-check IsBounded (is_block_size size) _ _ (λ is. gives-check IsBounded (compression == 0) _ _ (λ c.
    gives-ok IsBounded (heads.Write object kind offset size to) (block-bounded size is))))

free-bounded : (at object offset size to : ℕ) → Gives IsBounded (free_with at object offset size to)
unfolding free_with
free-bounded at object offset size to =
    gives-check IsBounded (is_object object) _ _ (λ a. gives-check IsBounded (is_range offset size || (size == 2 ^ 64 - 1)) _ _ (λ b. gives-ok IsBounded (heads.Free object offset size to) none-bounded))

spill-bounded : (at object size compression to : ℕ) → Gives IsBounded (spill_with at object size compression to)
unfolding spill_with
spill-bounded at object size compression to =
    gives-check IsBounded (is_object object) _ _ (λ a. gives-check IsBounded (is_spill_size size) _ _ (λ is. gives-check IsBounded (compression == 0) _ _ (λ c.
    gives-ok IsBounded (heads.Spill object size to) (spill-size-bounded size is))))

redact-bounded : (at features object offset size to : ℕ) → Gives IsBounded (redact_with at features object offset size to)
unfolding redact_with
redact-bounded at features object offset size to =
    gives-check IsBounded (not (bit_and features redacts == 0)) _ _ (λ r. gives-check IsBounded (is_object object) _ _ (λ a. gives-check IsBounded (is_range offset size) _ _ (λ b.
    gives-ok IsBounded (heads.Redact object offset size to) none-bounded)))

typed-bounded : (kind at features : ℕ) (bytes : List ℕ) → Gives IsBounded (typed kind at features bytes)
unfolding typed
typed-bounded kind at features bytes =
    gives-if IsBounded (kind == 0) _ _ (gives-err IsBounded _)
    (gives-if IsBounded (kind == 1) _ _ (object-bounded at _ _ _ _ _ _ _ _ _)
    (gives-if IsBounded (kind == 2) _ _ (gives-ok IsBounded _ none-bounded)
    (gives-if IsBounded (kind == 3) _ _ (write-bounded at _ _ _ _ _ _)
    (gives-if IsBounded (kind == 4) _ _ (free-bounded at _ _ _ _)
    (gives-if IsBounded (kind == 5) _ _ (gives-ok IsBounded _ none-bounded)
    (gives-if IsBounded (kind == 6) _ _ (gives-err IsBounded _)
    (gives-if IsBounded (kind == 7) _ _ (spill-bounded at _ _ _ _)
    (gives-if IsBounded (kind == 8) _ _ (gives-err IsBounded _)
    (gives-if IsBounded (kind == 9) _ _ (gives-err IsBounded _)
    (gives-if IsBounded (kind == 10) _ _ (redact-bounded at features _ _ _ _)
    (gives-err IsBounded _)))))))))))

snapshot-bounded : (len features time kind flags to from : ℕ) (name : List ℕ) → Gives IsBounded (snapshot_with len features time kind flags to from name)
unfolding snapshot_with
snapshot-bounded len features time kind flags to from name =
    gives-check IsBounded ((kind == 2) || (kind == 3)) _ _ (λ a. gives-check IsBounded (not (to == 0)) _ _ (λ b.
    gives-named IsBounded _ _ (name_in name) (λ field is_name. gives-check IsBounded (is_payload_len len) _ _ (λ is. gives-check IsBounded (not ((len == 0) && needs_payload features)) _ _ (λ c.
    gives-ok IsBounded (heads.Begin (header_with features kind flags time to from field) len) (len-bounded len is))))))

begin-bounded : (record_kind magic form features : ℕ) (next : Decoded) → Gives IsBounded next → Gives IsBounded (begin_with record_kind magic form features next)
unfolding begin_with
begin-bounded record_kind magic form features next h =
    gives-check IsBounded (record_kind == 0) _ _ (λ a. gives-check IsBounded (not (magic == reversed_magic)) _ _ (λ b. gives-check IsBounded (magic == stream_magic) _ _ (λ c.
    gives-check IsBounded (not (form == 2)) _ _ (λ d. gives-check IsBounded (form == 1) _ _ (λ e. gives-check IsBounded (others_of features == 0) _ _ (λ f.
    gives-check IsBounded (bit_and features large_blocks == 0) _ _ (λ g. h)))))))

-- the payload of a record that passes its checks is whole words, and no longer than a block
pub bounded : (at features : ℕ) (bytes : List ℕ) (head : Head) → decoded at features bytes ≡ Ok head → IsBounded head
unfolding decoded begin_of
bounded at features bytes = gives-if IsBounded (at == 0) _ _ (begin-bounded _ _ _ _ _ (snapshot-bounded _ _ _ _ _ _ _ _)) (typed-bounded (number_at bytes 0 4) at features bytes)
