-- What single records and commands do, and what a send includes.
use Rattle.std.proofs.Common.{◌≡◌, ℕ, ◌<◌, ◌≤◌, Bool, true, false, List, Some, refl, ap, subst, ◌∙◌, nat_lt, ◌==◌, ◌&&◌, if◌then◌else◌, eq-eqb, ne_eqb}
use Rattle.std.specs.Fmt.{digits}
use Rattle.std.proofs.lemmas.Bool.{and_parts, and_from, and_left, and_right, or_from, or_left, or_right, cond-true, cond-false, lt-ltb, le-ltb}
use Rattle.zst_model.specs.declared.states.item.Change.{Change}
use Rattle.zst_model.specs.declared.states.item.Change.TheVariants.{Put, Spill, FreeFrom, Free, Redact, Write}
use Rattle.zst_model.specs.declared.states.item.Item.TheVariants.{FreeObjects, At}
use Rattle.zst_model.specs.states.State.{Block, Hole, Redacted, Data, Object, index_bound, number_bound, end_at, is_block_size, largest_block, is_number, is_user_data}
use Rattle.zst_model.specs.states.AppliedItems.{apply, apply_change}
use Rattle.zst_model.specs.states.DatedState.{DatedState, dates_number}
use Rattle.zst_model.specs.sends.Inclusion.{Choice, is_after, includes_pair, includes_number, is_late_pair}
use Rattle.zst_model.specs.pools.Pool.{inserted}
use Rattle.zst_model.specs.pools.RedSet.{is_data, is_user_block}
use Rattle.zst_model.specs.sends.Features.{resuming}
use Rattle.zst_model.specs.pools.Step.{stepped, last_number, last_guid, most_datasets, most_snapshots}
use Rattle.zst_laws.specs.FileExample.{small}
use Rattle.zst_laws.specs.Meanings.{WriteFails, WriteMakes, FreeFails, FreeMakes, SpillFails, SpillMakes, RedactFails, RedactMakes, PutMakes, PutAllocates, UserDataTypes, DatesNoNumber, DatesItsNumber, BlocksDateNoNumber, AttributesDateNumbers, SpillDatesNoIndex, RangesDateBlocks, ListsUserData, SnapshotKeepsGuids, VolumeIsMade, ListedIsIncluded, DatedIsIncluded, DatedNumberIsIncluded, EqualDatesAreLeft, DatasetsStandByName, SnapshotsStandByNumber, OtherHeadsStay, FreedAreDated, BlockSizes, Contents, HeadersFrom, ListsCanBeRedacted}
use Rattle.zst_laws.proofs.histories.Dates.{dates_exact}
use Rattle.zst_laws.proofs.examples.OneObject.{none_passes}

pub write_fails : WriteFails
unfolding apply_change lib.Count.ones
write_fails = (λ offset type bytes. refl, λ blocks. refl, λ blocks. refl, λ blocks. refl, λ blocks. refl)

pub write_makes : WriteMakes
unfolding apply_change lib.Count.ones
write_makes blocks = ((_, refl, (refl, refl)), (_, refl, (refl, refl, refl)))

pub free_fails : FreeFails
unfolding apply_change
free_fails = (λ offset length. refl, λ offset. refl, λ blocks. refl, λ blocks. refl, λ blocks. refl)

pub free_makes : FreeMakes
unfolding apply_change
free_makes blocks = ((_, refl, (refl, refl, refl, refl)), (_, refl, (refl, refl)), (_, refl, (refl, refl, refl)))

pub spill_fails : SpillFails
unfolding apply_change
spill_fails bytes = refl

pub spill_makes : SpillMakes
unfolding apply_change
spill_makes bytes object = (_, refl, (refl, refl, refl))

pub redact_fails : RedactFails
unfolding apply_change lib.Count.ones
redact_fails = (λ offset length. refl, λ blocks. refl, λ blocks. refl, λ blocks. refl, λ blocks. refl, λ blocks. refl, λ blocks. refl, λ blocks. refl)

pub redact_makes : RedactMakes
unfolding apply_change lib.Count.ones
redact_makes blocks = ((_, refl, (refl, refl, refl, refl)), (_, refl, (refl, refl)), (_, refl, (refl, refl)))

pub put_makes : PutMakes
unfolding apply_change
put_makes head bonus max_block object = ((_, refl, (refl, refl)), (_, refl, (refl, refl)))

pub put_allocates : PutAllocates
unfolding apply_change
put_allocates head bonus max_block i = (_, refl, (refl, refl))

pub user_data_types : UserDataTypes
user_data_types attr = (
  λ e. or_left (attr.type_ == 19) _ (eq-eqb attr.type_ 19 e),
  λ e. or_right (attr.type_ == 19) _ (eq-eqb attr.type_ 23 e),
  λ d e. or_from (attr.type_ == 19) _ (ne_eqb attr.type_ 19 d) (ne_eqb attr.type_ 23 e),
)

-- dates
pub kept_date : (t : Bool) (number date : ℕ) → (if t && false then number else date) ≡ date
kept_date true number date = refl
kept_date false number date = refl

no_number : (change : Change) → dates_number change ≡ false → DatesNoNumber change
no_number change none number k snap after h j =
    (dates_exact number (At k change) snap after h).0 j
    ∙ ap (λ t. if j == k && t then number else snap.number_date j) none
    ∙ kept_date (j == k) number (snap.number_date j)

its_number : (change : Change) → dates_number change ≡ true → DatesItsNumber change
its_number change one number k snap after h = (
  dated k ∙ cond-true (k == k && dates_number change) _ _ (and_from (k == k) _ (eq-eqb k k refl) one),
  λ j d. dated j ∙ cond-false (j == k && dates_number change) _ _ (and_left (j == k) _ (ne_eqb j k d)),
)
  where
    dated : (j : ℕ) → after.number_date j ≡ (if j == k && dates_number change then number else snap.number_date j)
    dated j = (dates_exact number (At k change) snap after h).0 j

pub blocks_date_no_number : BlocksDateNoNumber
blocks_date_no_number = (
  λ offset length. no_number (Free offset length) refl,
  λ offset. no_number (FreeFrom offset) refl,
  λ offset length. no_number (Redact offset length) refl,
  λ offset type bytes. no_number (Write offset type bytes) refl,
)

pub attributes_date_numbers : AttributesDateNumbers
attributes_date_numbers = (
  λ head bonus keep_spill max_block. its_number (Put head bonus keep_spill max_block) refl,
  λ bytes. its_number (Spill bytes) refl,
)

no_index : (one below : Bool) (number date : ℕ) → (if (one && false) && below then number else date) ≡ date
no_index true below number date = refl
no_index false below number date = refl

pub spill_dates_no_index : SpillDatesNoIndex
spill_dates_no_index bytes number k snap after h j i =
    (dates_exact number (At k (Spill bytes)) snap after h).1 j i ∙ no_index (j == k) (nat_lt i index_bound) number (snap.index_date j i)

pub ranges_date_blocks : RangesDateBlocks
unfolding index_bound
ranges_date_blocks after = (
  λ h. let dated = (dates_exact 9 (At 1 (FreeFrom 512)) small after h).1 in (dated 1 0, dated 1 1, dated 1 8796093022207, dated 1 8796093022208, dated 2 1),
  λ h. let dated = (dates_exact 9 (At 1 (Redact 512 1024)) small after h).1 in (dated 1 0, dated 1 1, dated 1 2, dated 1 3, dated 2 1),
)

pub lists_user_data : ListsUserData
lists_user_data = (refl, refl, refl, refl, refl, refl, refl, refl, refl)

-- commands
pub snapshot_keeps_guids : SnapshotKeepsGuids
unfolding stepped inserted last_number last_guid most_snapshots digits
snapshot_keeps_guids held now = refl

pub volume_is_made : VolumeIsMade
unfolding stepped inserted last_number most_datasets digits
volume_is_made held now = refl

-- what is included
pub listed_is_included : ListedIsIncluded
listed_is_included snap choice k i l = (
  λ h. and_from (nat_lt i (end_at (snap.state k))) _ (lt-ltb _ _ l) (or_right (is_after choice.from (snap.index_date k i)) _ (or_left (choice.source k i) _ h)),
  λ h. and_from (nat_lt i (end_at (snap.state k))) _ (lt-ltb _ _ l) (or_right (is_after choice.from (snap.index_date k i)) _ (or_right (choice.source k i) _ h)),
)

after_it : (choice : Choice) (number date : ℕ) → choice.from ≡ Some number → number < date → is_after choice.from date ≡ true
after_it choice number date e l = ap (λ from. is_after from date) e ∙ lt-ltb number date l

not_after : (choice : Choice) (number date : ℕ) → choice.from ≡ Some number → date ≤ number → is_after choice.from date ≡ false
not_after choice number date e l = ap (λ from. is_after from date) e ∙ le-ltb number date l

left_pair : (snap : DatedState) (choice : Choice) (number k i : ℕ) → choice.from ≡ Some number → snap.index_date k i ≤ number
    → choice.source k i ≡ false → choice.redact k i ≡ false → includes_pair snap choice k i ≡ false
left_pair snap choice number k i e l s r =
    and_right (nat_lt i (end_at (snap.state k))) _
    (or_from (is_after choice.from (snap.index_date k i)) _ (not_after choice number _ e l) (or_from (choice.source k i) _ s r))

pub dated_is_included : DatedIsIncluded
dated_is_included snap choice number k i e l s r = (
  λ d. and_from (nat_lt i (end_at (snap.state k))) _ (lt-ltb _ _ l) (or_left (is_after choice.from (snap.index_date k i)) _ (after_it choice number _ e d)),
  λ d. left_pair snap choice number k i e d s r,
)

pub dated_number_is_included : DatedNumberIsIncluded
unfolding includes_number
dated_number_is_included snap choice number k e n d =
    and_from (is_number k) _ n (or_left (is_after choice.from (snap.number_date k)) _ (after_it choice number _ e d))

pub equal_dates_are_left : EqualDatesAreLeft
unfolding includes_number
equal_dates_are_left snap choice number k e l none =
    and_right (is_number k) _ (or_from (is_after choice.from (snap.number_date k)) _ (not_after choice number _ e l)
    (none_passes _ index_bound (λ i. or_from (includes_pair snap choice k i) _ (left_pair snap choice number k i e (none i).0 (none i).1 (none i).2) (late i))))
  where
    late : (i : ℕ) → is_late_pair snap choice k i ≡ false
    late i = and_right _ _ (not_after choice number (snap.index_date k i) e (none i).0)

-- rows
pub datasets_stand : DatasetsStandByName
unfolding stepped inserted last_number most_datasets digits
datasets_stand held now = refl

pub snapshots_stand : SnapshotsStandByNumber
unfolding stepped inserted last_number last_guid most_snapshots digits
snapshots_stand held = refl

pub heads_stay : OtherHeadsStay
unfolding stepped apply last_number number_bound digits
heads_stay held now = (_, refl, refl, _, refl, refl)

pub freed_are_dated : FreedAreDated
unfolding index_bound number_bound
freed_are_dated after = (
  λ h. let numbers = (dates_exact 9 (FreeObjects 0 3) small after h).0 in let indices = (dates_exact 9 (FreeObjects 0 3) small after h).1 in
      (numbers 0, numbers 1, numbers 2, numbers 3, indices 0 0, indices 2 8796093022207, indices 2 8796093022208, indices 3 0),
  λ h. let far = dates_exact 9 (FreeObjects 281474976710655 2) small after h in (far.0 281474976710655, far.0 281474976710656, far.1 281474976710656 0),
)

-- sizes, contents and headers
pub block_sizes : BlockSizes
unfolding is_block_size largest_block
block_sizes = (refl, refl, refl, refl, refl, refl, refl)

pub contents : Contents
contents i size bytes = (refl, refl, refl, refl)

pub headers_from : HeadersFrom
unfolding resuming
headers_from header point = (refl, refl, refl)

-- data of what stands at a number
pub data_of : (object : Object) (i : ℕ) → is_user_block (Some object) i ≡ true → (is_user_data object.attr ≡ true) × (bytes : List ℕ) × (object.blocks i ≡ Data bytes)
data_of object i h =
    let parts = and_parts (is_user_data object.attr) _ h in
    let found = go (object.blocks i) parts.1 in
    (parts.0, found.0, found.1)
  where
    go : (block : Block) → is_data block ≡ true → (bytes : List ℕ) × (block ≡ Data bytes)
    go Hole e = absurd (cc)
    go Redacted e = absurd (cc)
    go (Data bytes) e = (bytes, refl)

pub lists_can_be_redacted : ListsCanBeRedacted
lists_can_be_redacted state number redactions user k object stands = record {
  listed = λ i h. data_of object i (subst (λ o. is_user_block o i ≡ true) stands (and_parts (is_user_block (state k) i) _ h).0);
  redacted = λ i h. user k i object stands h;
}
