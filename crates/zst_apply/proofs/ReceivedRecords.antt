-- What a received record makes is what a call on a set makes.
use Rattle.std.proofs.Common.{◌≡◌, inl, inr, ℕ, ◌+◌, ◌*◌, ◌/◌, ◌<◌, ◌≤◌, nat_lt, if◌then◌else◌, Bool, true, false, refl, sym, ap, ◌∙◌, arith, length, List, Option, Some, Result, Ok, Err}
use Rattle.std.proofs.lemmas.Bool.{cases_lt, le-ltb}
use Rattle.std.proofs.lemmas.Bool.Decides.{nat_tests}
use Rattle.zst_model.proofs.Sizes.{size_of_lawful}
use Rattle.zst_model.specs.declared.refusals.apply_fault.ApplyFault.{ApplyFault}
use Rattle.zst_model.specs.declared.refusals.faults.Quantity.TheVariants as quantities
use Rattle.zst_model.specs.declared.refusals.refusal.Refusal.{Refusal}
use Rattle.zst_model.specs.declared.refusals.refusal.Refusal.TheVariants as refusals
use Rattle.zst_model.specs.declared.states.attr.ObjectHead.{ObjectHead}
use Rattle.zst_model.specs.declared.states.item.Change.TheVariants.{Free, FreeFrom, Put, Redact, Spill, Write}
use Rattle.zst_model.specs.declared.states.item.Item.TheVariants.{At, FreeObjects}
use Rattle.zst_model.specs.states.AppliedItems.{◌>>=◌, apply_change, covers, unless, within}
use Rattle.zst_model.specs.states.DatedState.{DatedState, apply_dated, dates_index, size_at}
use Rattle.zst_model.specs.states.State.{Hole, IsObject, IsState, Object, index_bound, is_number, number_bound}
use Rattle.zst_model.specs.sends.ReceivedRecords.{is_past, of_record, received}
use Rattle.zst_model.specs.pools.Step.{of_applying}
use Rattle.zst_stream.specs.Items.{free_change}
use Rattle.zst_tree.specs.Indices.{Blocks}
use Rattle.zst_dnode.specs.declared.dnode.Dnode.{Dnode}
use Rattle.zst_objset.specs.Changes.{block_written, holes_made, object_put, objects_freed, range_redacted, spill_put}
use Rattle.zst_objset.specs.Dnodes.{IsThere}
use Rattle.zst_objset.specs.Ranges.{free_of, with_range}
use Rattle.zst_objset.proofs.AnswerLaws.{object_of}
use Rattle.zst_objset.proofs.RangeLaws.{Fills-free}
use Rattle.zst_apply.specs.Checks.{free_check, redact_check, write_check}
use Rattle.zst_apply.proofs.RecordAnswers.{for_record, limited_is, unlimited_is}
use Rattle.zst_apply.proofs.EqualChanges.{same_change, same_put, same_write}
use Rattle.zst_apply.proofs.FreedNumbers.{same_freed}
use Rattle.zst_apply.proofs.ByteRanges.{ends_past, free_dates, free_makes, free_undated, redact_passes, write_passes}

abbrev far : Refusal
far = refusals.Limit quantities.Block index_bound

-- a number that an object may have
pub under_bound : (k : ℕ) → is_number k ≡ true → k < number_bound
under_bound k is = grind (arith, nat_tests)

-- one that has an object in a lawful state
pub number_of : (state : DatedState) (k : ℕ) → 0 < k → IsState state.state → (object : Object) → state.state k ≡ Some object → is_number k ≡ true
number_of state k some lawful object there = elim (cases_lt k number_bound) [
  | inl less ↦ grind (arith, nat_tests)
  | inr over ↦ let none = lawful.bounded k over in absurd (cc)
]

-- a test of numbers that is passed
in_numbers : (past : ℕ) (made : Result DatedState Refusal) → past ≤ number_bound → unless (nat_lt number_bound past) (refusals.Limit quantities.Object number_bound) made ≡ made
in_numbers past made within = ap (λ b. unless b (refusals.Limit quantities.Object number_bound) made) (le-ltb number_bound past within)

pub put_received : (number index k : ℕ) (head : ObjectHead) (bonus : List ℕ) (keep_spill : Bool) (max_block : ℕ) (state : DatedState) → k < number_bound
    → received number index (At k (Put head bonus keep_spill max_block)) state ≡ for_record index (object_put number k head bonus keep_spill state)
put_received number index k head bonus keep_spill max_block state less =
    unlimited_is index (apply_dated number (At k (Put head bonus keep_spill max_block)) state) far
    ∙ ap (λ (r : Result DatedState ApplyFault). for_record index (of_applying r)) (same_put number k head bonus keep_spill max_block 0 state)
    ∙ ap (for_record index) (sym (in_numbers (k + 1) (of_applying (apply_dated number (At k (Put head bonus keep_spill 0)) state)) (omega arith)))

pub spill_received : (number index k : ℕ) (bytes : List ℕ) (state : DatedState) → received number index (At k (Spill bytes)) state ≡ for_record index (spill_put number k bytes state)
spill_received number index k bytes state = unlimited_is index (apply_dated number (At k (Spill bytes)) state) far

pub freed_received : (number index first count other more : ℕ) (state : DatedState) → IsState state.state → other + more ≤ number_bound → ((k : ℕ) → is_number k ≡ true → within other more k ≡ within first count k)
    → received number index (FreeObjects first count) state ≡ for_record index (objects_freed number other more state)
freed_received number index first count other more state lawful inside same =
    unlimited_is index (apply_dated number (FreeObjects first count) state) far
    ∙ ap (λ (r : Result DatedState ApplyFault). for_record index (of_applying r)) (same_freed first count other more same number state lawful)
    ∙ ap (for_record index) (sym (in_numbers (other + more) (of_applying (apply_dated number (FreeObjects other more) state)) inside))

-- a change of an object that is there
module _ (has : Blocks) (number index k : ℕ) (state : DatedState) (dnode : Dnode) (lawful : IsState state.state) (there : IsThere has state k dnode) where
  abbrev object : Object
  object = there.object

  pub lawful_object : IsObject there.object
  lawful_object = object_of (state.state k) there.object there.there (lawful.objects k)

  some : 0 < there.object.attr.block_size
  some = size_of_lawful there.object lawful_object

  size_is : size_at (state.state k) ≡ dnode.block_size
  size_is = ap size_at there.there ∙ sym there.is.size_is

  some_size : 0 < size_at (state.state k)
  some_size = rw there.there some

  limited : (past other : Bool) (made : Result DatedState ApplyFault) → past ≡ other
      → (of_record index made >>= λ after. unless past far (Ok after)) ≡ for_record index (of_applying made >>= λ after. unless other far (Ok after))
  limited past other made same = limited_is index made past index_bound ∙ ap (λ b. for_record index (of_applying made >>= λ after. unless b far (Ok after))) same

  pub write_received : (offset kind : ℕ) (bytes : List ℕ) → write_check dnode.block_size offset (length bytes) ≡ Ok tt
      → received number index (At k (Write offset kind bytes)) state ≡ for_record index (block_written number k (offset / dnode.block_size) bytes state)
  write_received offset kind bytes checked =
      let size = size_at (state.state k) in
      let passed = write_passes dnode.block_size offset (length bytes) checked in
      let place : offset / dnode.block_size * size ≡ offset = ap (λ n. offset / dnode.block_size * n) size_is ∙ passed.1 in
      let long : length bytes ≡ 1 * size = passed.0 ∙ sym size_is ∙ omega arith in
      let past : nat_lt (index_bound * size) (offset + length bytes) ≡ nat_lt index_bound (offset / dnode.block_size + 1) =
      ap (λ n. nat_lt (index_bound * size) (n + length bytes)) (sym place) ∙ ap (λ n. nat_lt (index_bound * size) (offset / dnode.block_size * size + n)) long ∙ ends_past (offset / dnode.block_size) 1 size some_size in
      limited (nat_lt (index_bound * size) (offset + length bytes)) (nat_lt index_bound (offset / dnode.block_size + 1)) (apply_dated number (At k (Write offset kind bytes)) state) past
      ∙ ap (λ (r : Result DatedState ApplyFault). for_record index (of_applying r >>= λ after. unless (nat_lt index_bound (offset / dnode.block_size + 1)) far (Ok after)))
      (same_write number k offset kind 0 bytes state ∙ ap (λ n. apply_dated number (At k (Write n 0 bytes)) state) (sym place))

  pub redact_received : (offset count : ℕ) → redact_check dnode.type_ dnode.block_size offset count ≡ Ok tt
      → received number index (At k (Redact offset count)) state ≡ for_record index (range_redacted number k (offset / dnode.block_size) (count / dnode.block_size) state)
  redact_received offset count checked =
      let size = size_at (state.state k) in
      let first = offset / dnode.block_size in
      let more = count / dnode.block_size in
      let passed = redact_passes dnode.type_ dnode.block_size offset count checked in
      let place : first * size ≡ offset = ap (λ n. first * n) size_is ∙ passed.0 in
      let long : more * size ≡ count = ap (λ n. more * n) size_is ∙ passed.1 in
      let past : nat_lt (index_bound * size) (offset + count) ≡ nat_lt index_bound (first + more) =
      ap (λ n. nat_lt (index_bound * size) (n + count)) (sym place) ∙ ap (λ n. nat_lt (index_bound * size) (first * size + n)) (sym long) ∙ ends_past first more size some_size in
      limited (nat_lt (index_bound * size) (offset + count)) (nat_lt index_bound (first + more)) (apply_dated number (At k (Redact offset count)) state) past
      ∙ ap (λ (r : Result DatedState ApplyFault). for_record index (of_applying r >>= λ after. unless (nat_lt index_bound (first + more)) far (Ok after)))
      (ap (λ n. apply_dated number (At k (Redact n count)) state) (sym place) ∙ ap (λ n. apply_dated number (At k (Redact (first * size) n)) state) (sym long))

  unlimited_free : (ends : Bool) (offset count : ℕ) (made : Result DatedState ApplyFault)
      → (of_record index made >>= λ after. unless (is_past (At k (if ends then FreeFrom offset else Free offset count)) state.state) far (Ok after)) ≡ for_record index (of_applying made)
  unlimited_free true offset count made = unlimited_is index made far
  unlimited_free false offset count made = unlimited_is index made far

  pub free_received : (offset count first more : ℕ) → is_number k ≡ true → free_check dnode.block_size offset count ≡ Ok tt → first + more ≤ index_bound
      → ((i : ℕ) → i < index_bound → within first more i ≡ covers (free_change offset count) (i * dnode.block_size))
      → received number index (At k (free_change offset count)) state ≡ for_record index (holes_made number k first more state)
  free_received offset count first more is_one checked inside same =
      let fills = Fills-free has number k first more state there.object there.there lawful_object is_one in
      let made : apply_change (free_change offset count) (state.state k) ≡ Ok (Some (with_range first more Hole there.object)) =
      ap (apply_change (free_change offset count)) there.there ∙ free_makes offset count there.object first more lawful_object (rw there.is.size_is at checked) (rw there.is.size_is at same) in
      let covered : (i : ℕ) → i < index_bound → dates_index (free_change offset count) (state.state k) i ≡ dates_index (free_of first more (state.state k)) (state.state k) i =
      λ i less. ap (λ (o : Option Object). dates_index (free_change offset count) o i) there.there ∙ free_dates offset count there.object i ∙ sym ((rw there.is.size_is at same) i less) ∙ sym (fills.dates i) in
      let dated = same_change number k (free_change offset count) (free_of first more (state.state k)) state (made ∙ sym fills.made) (free_undated offset count ∙ sym fills.undated) covered in
      unlimited_free _ offset count (apply_dated number (At k (free_change offset count)) state)
      ∙ ap (λ (r : Result DatedState ApplyFault). for_record index (of_applying r)) dated
      ∙ ap (for_record index) (sym (in_range (of_applying (apply_dated number (At k (free_of first more (state.state k))) state)) (first + more) inside))
    where
      kept : (made : Result DatedState Refusal) → (made >>= λ after. Ok after) ≡ made
      kept (Ok made) = refl
      kept (Err refusal) = refl

      in_range : (made : Result DatedState Refusal) (past : ℕ) → past ≤ index_bound → (made >>= λ after. unless (nat_lt index_bound past) far (Ok after)) ≡ made
      in_range made past within = ap (λ b. made >>= λ after. unless b far (Ok after)) (le-ltb index_bound past within) ∙ kept made
