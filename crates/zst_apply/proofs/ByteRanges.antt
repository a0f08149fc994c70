-- Ranges of bytes that are whole blocks, and the ranges of indices that they are.
use Rattle.std.proofs.Common.{◌≡◌, ◌≢◌, ℕ, ◌+◌, ◌*◌, ◌/◌, ◌%◌, ◌<◌, ◌==◌, ◌||◌, ◌&&◌, not, nat_lt, nat_le, Bool, true, false, refl, sym, ap, ◌∙◌, arith, length, List, Option, Some, None, Result, Ok, Err, if◌then◌else◌}
use Rattle.std.proofs.Math.Nat.{div-add-mod}
use Rattle.std.proofs.Math.Path.{fun_ext}
use Rattle.std.proofs.lemmas.Bool.Decides.{nat_tests}
use Rattle.zst_model.specs.declared.refusals.apply_fault.ApplyFault.{ApplyFault}
use Rattle.zst_model.specs.declared.refusals.apply_fault.ApplyFault.TheVariants.{NoObject, NotUserData, SizeDiffers, Unaligned}
use Rattle.zst_model.specs.declared.states.item.Change.TheVariants.{Free, FreeFrom, Redact, Write}
use Rattle.zst_model.specs.states.AppliedItems.{apply_change, covers, is_unaligned, unless, within}
use Rattle.zst_model.specs.states.DatedState.{dates_index, dates_number, size_at}
use Rattle.zst_model.specs.states.State.{Block, Hole, Object, IsObject, index_bound}
use Rattle.std.proofs.lemmas.Bool.{cases_lt}
use Rattle.std.proofs.Common.{inl, inr}
use Rattle.zst_record.specs.Formats.{to_end}
use Rattle.zst_stream.specs.Items.{free_change}
use Rattle.zst_objset.specs.Ranges.{put_range, with_range}
use Rattle.zst_objset.proofs.RangeIndices.{le_times, lt_times, within_times}
use Rattle.zst_objset.proofs.RangeLaws.{no_redact}
use Rattle.zst_dnode.specs.declared.dnode.Dnode.{Dnode}
use Rattle.zst_apply.specs.Checks.{free_check, redact_check, write_check}
use Rattle.zst_apply.specs.Fills.{change_of, range_check}
use Rattle.zst_apply.specs.declared.blocks.Fill.{Fill}
use Rattle.zst_apply.specs.declared.blocks.Fill.TheVariants as fills

-- a multiple of the block size is the first byte of an index
pub whole : (size bytes : ℕ) → is_unaligned size bytes ≡ false → bytes / size * size ≡ bytes
whole size bytes aligned =
    let none : bytes % size ≡ 0 = grind (arith, nat_tests) in
    let sum = div-add-mod bytes size in
    omega (arith, none, sum)

-- ---- what passes its check

passes : (first second : ApplyFault) (a b : Bool) → unless a first (unless b second (Ok tt)) ≡ Ok (tt {0}) → (a ≡ false) × (b ≡ false)
passes first second true b is = absurd (cc)
passes first second false true is = absurd (cc)
passes first second false false is = (refl, refl)

passes_both : (a b : Bool) → unless (a || b) Unaligned (Ok tt) ≡ Ok (tt {0}) → (a ≡ false) × (b ≡ false)
passes_both true b is = absurd (cc)
passes_both false true is = absurd (cc)
passes_both false false is = (refl, refl)

one_passes : (a b c : Bool) → unless a NotUserData (unless (b || c) Unaligned (Ok tt)) ≡ Ok (tt {0}) → (b ≡ false) × (c ≡ false)
one_passes true b c is = absurd (cc)
one_passes false b c is = passes_both b c is

same_number : (count size : ℕ) → not (count == size) ≡ false → count ≡ size
same_number count size is = grind (arith, nat_tests)

pub write_passes : (size offset count : ℕ) → write_check size offset count ≡ Ok tt → (count ≡ size) × (offset / size * size ≡ offset)
write_passes size offset count is =
    let both = passes SizeDiffers Unaligned (not (count == size)) (is_unaligned size offset) is in
    (same_number count size both.0, whole size offset both.1)

pub redact_passes : (kind size offset count : ℕ) → redact_check kind size offset count ≡ Ok tt → (offset / size * size ≡ offset) × (count / size * size ≡ count)
redact_passes kind size offset count is =
    let both = one_passes (not (kind == 19 || kind == 23)) (is_unaligned size offset) (is_unaligned size count) is in
    (whole size offset both.0, whole size count both.1)

-- ---- what its check refuses

refuses : {A : Type 0} → (first second : ApplyFault) (a b : Bool) (fault : ApplyFault) (rest : Result A ApplyFault) → unless a first (unless b second (Ok (tt {0}))) ≡ Err fault → unless a first (unless b second rest) ≡ Err fault
refuses first second true b fault rest is = cc
refuses first second false true fault rest is = cc
refuses first second false false fault rest is = absurd (cc)

pub write_refused : (size offset kind : ℕ) (bytes : List ℕ) (object : Object) (fault : ApplyFault) → size ≡ object.attr.block_size → write_check size offset (length bytes) ≡ Err fault
    → apply_change (Write offset kind bytes) (Some object) ≡ Err fault
unfolding apply_change
write_refused size offset kind bytes object fault same is =
    refuses SizeDiffers Unaligned (not (length bytes == object.attr.block_size)) (is_unaligned object.attr.block_size offset) fault _ (rw same at is)

pub redact_refused : (kind size offset count : ℕ) (object : Object) (fault : ApplyFault) → kind ≡ object.attr.type_ → size ≡ object.attr.block_size → redact_check kind size offset count ≡ Err fault
    → apply_change (Redact offset count) (Some object) ≡ Err fault
unfolding apply_change
redact_refused kind size offset count object fault same_kind same is =
    refuses NotUserData Unaligned (not (object.attr.type_ == 19 || object.attr.type_ == 23)) (is_unaligned object.attr.block_size offset || is_unaligned object.attr.block_size count) fault _ (rw (same_kind, same) at is)

refuses_one : {A : Type 0} → (a : Bool) (fault : ApplyFault) (rest : Result A ApplyFault) → unless a Unaligned (Ok (tt {0})) ≡ Err fault → unless a Unaligned rest ≡ Err fault
refuses_one true fault rest is = cc
refuses_one false fault rest is = absurd (cc)

or_none : (a : Bool) → (a || false) ≡ a
or_none true = refl
or_none false = refl

module _ (offset count : ℕ) (object : Object) where
  abbrev size : ℕ
  size = object.attr.block_size

  frees_no : (ends : Bool) (fault : ApplyFault) → unless (is_unaligned size offset || (not ends && is_unaligned size count)) Unaligned (Ok (tt {0})) ≡ Err fault
      → apply_change (if ends then FreeFrom offset else Free offset count) (Some object) ≡ Err fault
  unfolding apply_change
  frees_no true fault is = refuses_one (is_unaligned size offset) fault _ (rw (or_none (is_unaligned size offset)) at is)
  frees_no false fault is = refuses_one (is_unaligned size offset || is_unaligned size count) fault _ is

  pub free_refused : (other : ℕ) (fault : ApplyFault) → other ≡ object.attr.block_size → free_check other offset count ≡ Err fault → apply_change (free_change offset count) (Some object) ≡ Err fault
  free_refused other fault same is = frees_no (count == to_end) fault (rw same at is)

  -- ---- a FREE makes holes of the indices that it covers

  hole_both : (t u : Bool) (block : Block) → block ≡ Hole → (if t then Hole else block) ≡ (if u then Hole else block)
  hole_both true true block is = refl
  hole_both true false block is = sym is
  hole_both false true block is = is
  hole_both false false block is = refl

  block_same : (first more : ℕ) (test : ℕ → Bool) → IsObject object → ((i : ℕ) → i < index_bound → within first more i ≡ test i) → (i : ℕ)
      → (if test i then Hole else object.blocks i) ≡ put_range first more Hole object.blocks i
  block_same first more test lawful same i = elim (cases_lt i index_bound) [
    | inl less ↦ ap (λ b. if b then Hole else object.blocks i) (sym (same i less))
    | inr over ↦ hole_both (test i) (within first more i) (object.blocks i) (lawful.bounded i over)
  ]

  frees : (first more : ℕ) (ends : Bool) → IsObject object → unless (is_unaligned size offset || (not ends && is_unaligned size count)) Unaligned (Ok tt) ≡ Ok (tt {0})
      → ((i : ℕ) → i < index_bound → within first more i ≡ covers (if ends then FreeFrom offset else Free offset count) (i * size))
      → apply_change (if ends then FreeFrom offset else Free offset count) (Some object) ≡ Ok (Some (with_range first more Hole object))
  unfolding apply_change
  frees first more true lawful is same =
      let aligned = (passes_both (is_unaligned size offset) false is).0 in
      ap (λ b. unless b Unaligned (Ok (Some (record { attr = object.attr; blocks = λ i. if nat_le offset (i * size) then Hole else object.blocks i })))) aligned
      ∙ ap (λ blocks. Ok (Some (record { attr = object.attr; blocks = blocks }))) (fun_ext (block_same first more (λ i. nat_le offset (i * size)) lawful same))
  frees first more false lawful is same =
      let aligned = passes_both (is_unaligned size offset) (is_unaligned size count) is in
      ap (λ b. unless (b || is_unaligned size count) Unaligned (Ok (Some (record { attr = object.attr; blocks = λ i. if within offset count (i * size) then Hole else object.blocks i })))) aligned.0
      ∙ ap (λ b. unless b Unaligned (Ok (Some (record { attr = object.attr; blocks = λ i. if within offset count (i * size) then Hole else object.blocks i })))) aligned.1
      ∙ ap (λ blocks. Ok (Some (record { attr = object.attr; blocks = blocks }))) (fun_ext (block_same first more (λ i. within offset count (i * size)) lawful same))

  pub free_makes : (first more : ℕ) → IsObject object → free_check object.attr.block_size offset count ≡ Ok tt
      → ((i : ℕ) → i < index_bound → within first more i ≡ covers (free_change offset count) (i * object.attr.block_size))
      → apply_change (free_change offset count) (Some object) ≡ Ok (Some (with_range first more Hole object))
  free_makes first more lawful is same = frees first more (count == to_end) lawful is same

-- a FREE dates what it covers, and no number
dates_of : (ends : Bool) (offset count : ℕ) (there : Option Object) (i : ℕ) → dates_index (if ends then FreeFrom offset else Free offset count) there i ≡ covers (if ends then FreeFrom offset else Free offset count) (i * size_at there)
dates_of true offset count there i = refl
dates_of false offset count there i = refl

pub free_dates : (offset count : ℕ) (object : Object) (i : ℕ) → dates_index (free_change offset count) (Some object) i ≡ covers (free_change offset count) (i * object.attr.block_size)
free_dates offset count object i = dates_of (count == to_end) offset count (Some object) i

no_number : (ends : Bool) (offset count : ℕ) → dates_number (if ends then FreeFrom offset else Free offset count) ≡ false
no_number true offset count = refl
no_number false offset count = refl

pub free_undated : (offset count : ℕ) → dates_number (free_change offset count) ≡ false
free_undated offset count = no_number (count == to_end) offset count

-- the indices that a FREE covers, as those of its range
pub to_end_covers : (size offset i : ℕ) → 0 < size → is_unaligned size offset ≡ false → i < index_bound → within (offset / size) to_end i ≡ nat_le offset (i * size)
unfolding index_bound
to_end_covers size offset i some aligned less =
    let past : nat_lt i (offset / size + to_end) ≡ true = grind (arith, nat_tests) in
    ap (λ b. nat_le (offset / size) i && b) past ∙ and_true (nat_le (offset / size) i) ∙ sym (le_times (offset / size) i size some) ∙ ap (λ n. nat_le n (i * size)) (whole size offset aligned)
  where
    and_true : (a : Bool) → (a && true) ≡ a
    and_true true = refl
    and_true false = refl

pub range_covers : (size offset count i : ℕ) → 0 < size → is_unaligned size offset ≡ false → is_unaligned size count ≡ false → within (offset / size) (count / size) i ≡ within offset count (i * size)
range_covers size offset count i some first last =
    sym (within_times (offset / size) (count / size) size i some)
    ∙ ap (λ n. within n (count / size * size) (i * size)) (whole size offset first)
    ∙ ap (λ n. within offset n (i * size)) (whole size count last)

-- a range of bytes ends past the last index where the range of indices does
pub ends_past : (first count size : ℕ) → 0 < size → nat_lt (index_bound * size) (first * size + count * size) ≡ nat_lt index_bound (first + count)
ends_past first count size some =
    let total : first * size + count * size ≡ (first + count) * size = omega arith in
    ap (λ n. nat_lt (index_bound * size) n) total ∙ lt_times index_bound (first + count) size some

pub end_covers : (size offset count i : ℕ) → 0 < size → free_check size offset count ≡ Ok tt → count ≡ to_end → i < index_bound → within (offset / size) to_end i ≡ covers (free_change offset count) (i * size)
end_covers size offset count i some checked ends less =
    let test : (count == to_end) ≡ true = grind (arith, nat_tests) in
    let aligned = (passes_both (is_unaligned size offset) false (rw test at checked)).0 in
    to_end_covers size offset i some aligned less ∙ sym (ap (λ b. covers (if b then FreeFrom offset else Free offset count) (i * size)) test)

pub part_covers : (size offset count i : ℕ) → 0 < size → free_check size offset count ≡ Ok tt → count ≢ to_end → within (offset / size) (count / size) i ≡ covers (free_change offset count) (i * size)
part_covers size offset count i some checked part =
    let test : (count == to_end) ≡ false = grind (arith, nat_tests) in
    let aligned = passes_both (is_unaligned size offset) (is_unaligned size count) (rw test at checked) in
    range_covers size offset count i some aligned.0 aligned.1 ∙ sym (ap (λ b. covers (if b then FreeFrom offset else Free offset count) (i * size)) test)

-- no object stands there
pub no_write : (offset kind : ℕ) (bytes : List ℕ) → apply_change (Write offset kind bytes) None ≡ Err NoObject
unfolding apply_change
no_write offset kind bytes = refl

no_holes : (ends : Bool) (offset count : ℕ) → apply_change (if ends then FreeFrom offset else Free offset count) None ≡ Err NoObject
unfolding apply_change
no_holes true offset count = refl
no_holes false offset count = refl

pub no_free : (offset count : ℕ) → apply_change (free_change offset count) None ≡ Err NoObject
no_free offset count = no_holes (count == to_end) offset count

-- ---- a change of a range of an object that isn't there, and one that is judged wrong

pub no_change : (fill : Fill) (offset count : ℕ) → apply_change (change_of fill offset count) None ≡ Err NoObject
no_change fills.Holes offset count = no_free offset count
no_change fills.Redacted offset count = no_redact offset count

pub change_refused : (fill : Fill) (dnode : Dnode) (offset count : ℕ) (object : Object) (fault : ApplyFault) → dnode.type_ ≡ object.attr.type_ → dnode.block_size ≡ object.attr.block_size
    → range_check fill dnode offset count ≡ Err fault → apply_change (change_of fill offset count) (Some object) ≡ Err fault
change_refused fills.Holes dnode offset count object fault same_kind same is = free_refused offset count object dnode.block_size fault same is
change_refused fills.Redacted dnode offset count object fault same_kind same is = redact_refused dnode.type_ dnode.block_size offset count object fault same_kind same is
