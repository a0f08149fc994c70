-- Which commands are refused, and with what.
use Rattle.std.proofs.Common.{◌≡◌, ℕ, ◌+◌, ◌*◌, ◌-◌, ◌<◌, ◌≤◌, Bool, true, false, not, List, [], ◌∷◌, length, map, replicate, cond, count_by, Option, Some, None, is_some, Result, Ok, Err, refl, sym, ap, ◌∙◌, arith, subst, ◌==◌, nat_lt, ◌&&◌, ◌||◌, if◌then◌else◌, eq-eqb, ne_eqb, length-append, mul-le-mul_right}
use Rattle.std.proofs.Math.Nat.{mul-mod_left}
use Rattle.std.proofs.lemmas.Bool.{lt-ltb, or_from, and_from, and_left, not_from_true}
use Rattle.std.proofs.lemmas.List.{length-replicate}
use Rattle.std.proofs.lemmas.List.Sums.{count_by-le-length}
use Rattle.zst_model.specs.declared.refusals.apply_fault.ApplyFault.TheVariants.{NoObject, SizeDiffers, Unaligned, OddBlock}
use Rattle.zst_model.specs.declared.states.attr.ObjectHead.{ObjectHead}
use Rattle.zst_model.specs.declared.pools.command.Command.{Command}
use Rattle.zst_model.specs.declared.pools.command.Command.TheVariants as commands
use Rattle.zst_model.specs.declared.refusals.faults.Quantity.TheVariants as quantities
use Rattle.zst_model.specs.declared.refusals.apply_fault.ApplyFault.{ApplyFault}
use Rattle.zst_model.specs.declared.states.item.Change.{Change}
use Rattle.zst_model.specs.declared.states.item.Change.TheVariants.{Put, Spill, Free, Write}
use Rattle.zst_model.specs.declared.refusals.subjects.Name.{Name}
use Rattle.zst_model.specs.declared.states.item.Item.TheVariants.{FreeObjects, At}
use Rattle.zst_model.specs.declared.refusals.subjects.Name.TheVariants as names
use Rattle.zst_model.specs.declared.refusals.refusal.Refusal.{Refusal}
use Rattle.zst_model.specs.declared.refusals.refusal.Refusal.TheVariants as refusals
use Rattle.zst_model.specs.states.State.{State, Object, IsObjectOrNone, is_odd_size, number_bound, index_bound, Hole, Data}
use Rattle.zst_model.specs.states.AppliedItems.{apply, apply_change, unless, is_unaligned, within, with_blocks, put_at, ◌>>=◌}
use Rattle.zst_model.specs.states.DatedState.{DatedState, size_at, apply_all_dated, touches_number, touches_index}
use Rattle.zst_model.specs.pools.Sessions.{Held}
use Rattle.zst_model.specs.pools.Pool.{Pool, Dataset, Partial, dataset_named, snapshot_named, partial_of, is_before, inserted, snapshot_is_before}
use Rattle.zst_model.specs.pools.Step.{Stepped, stepped, no_such, exists_already, busy_partial, cannot_apply, or_else, of_applying, last_number, last_guid, most_datasets, most_snapshots, limited, in_numbers, in_indices, committed, with_head, count_datasets, new_dataset, with_dataset, on_dataset, on_head, applied, filled, written, punched, snapshot_of, state_named, answered, block_read}
use Rattle.zst_model.specs.pools.AnswerLines.{object_lines}
use Rattle.zst_model.specs.sends.Items.{spill_change}
use Rattle.zst_model.proofs.PassedLimits.{over, within_limit}
use Rattle.zst_laws.proofs.sends.AppliedItemLemmas.{aligned_from, put_here}
use Rattle.zst_laws.specs.StepRefusals.{made_by, taken_by, dataset_before, IsUnused, HasFree, IsTakeable, DatasetIsThere, TargetIsThere, DatasetsAreFull, TargetsCount, DatasetHasNoNumber, DatasetIsAbsent, DatasetIsBusy, NumberIsFar, NumbersAreFar, ObjectHasNoNumber, WriteHasNoNumber, PunchHasNoNumber, FreeHasNoNumber, WriteWantsObject, WriteIsLong, WriteIsOdd, WriteIsFar, OddSizes, PunchWantsObject, PunchIsFar, SnapshotIsThere, SnapshotsAreFull, GuidsAreOver, SnapshotHasNoNumber, NameIsAbsent, ReadWantsObject, ReadIsRedacted, ReadIsFar}

-- a test that holds refuses, and one that fails goes on
pub refused : {A E : Type 0} (t : Bool) (e : E) (r : Result A E) → t ≡ true → unless t e r ≡ Err e
refused t e r h = ap (λ u. unless u e r) h

pub passed : {A E : Type 0} (t : Bool) (e : E) (r : Result A E) → t ≡ false → unless t e r ≡ r
passed t e r h = ap (λ u. unless u e r) h

-- a pool at the last number commits nothing
pub no_number : (pool : Pool) → pool.number ≡ 9223372036854775808 → committed pool ≡ Err (refusals.Limit quantities.Number 9223372036854775808)
unfolding last_number
no_number pool e = over quantities.Number 9223372036854775808 (pool.number + 1) _ (omega arith)

-- new datasets
module _ (row : Dataset) (pool : Pool) where
  abbrev room : Result Stepped Refusal
  room = committed (record pool { datasets = inserted (λ a b. is_before a.name b.name) row pool.datasets })

  abbrev counted : Result Stepped Refusal
  counted = limited quantities.Datasets most_datasets (count_datasets pool + 1) room

  abbrev taken : Refusal
  taken = exists_already (names.Dataset row.name)

  pub name_taken : (dataset : Dataset) → dataset_named row.name pool ≡ Some dataset → with_dataset row pool ≡ Err taken
  name_taken dataset h = ap (λ o. unless (is_some o) taken (unless (is_some (partial_of row.name pool)) taken counted)) h

  pub name_begun : (partial : Partial) → partial_of row.name pool ≡ Some partial → with_dataset row pool ≡ Err taken
  name_begun partial h = ap (λ o. unless (is_some (dataset_named row.name pool)) taken (unless (is_some o) taken counted)) h ∙ go (is_some (dataset_named row.name pool))
    where
      go : (t : Bool) → ◌≡◌ {A = Result Stepped Refusal} (unless t taken (Err taken)) (Err taken)
      go true = refl
      go false = refl

  free : IsUnused pool row.name → with_dataset row pool ≡ counted
  free h =
      ap (λ o. unless (is_some o) taken (unless (is_some (partial_of row.name pool)) taken counted)) h.0
      ∙ ap (λ o. unless (is_some o) taken counted) h.1

  pub rows_full : IsUnused pool row.name → 256 ≤ count_datasets pool → with_dataset row pool ≡ Err (refusals.Limit quantities.Datasets 256)
  unfolding most_datasets
  rows_full h l = free h ∙ over quantities.Datasets 256 (count_datasets pool + 1) room (omega arith)

  pub row_last : IsUnused pool row.name → count_datasets pool < 256 → pool.number ≡ 9223372036854775808 → with_dataset row pool ≡ Err (refusals.Limit quantities.Number 9223372036854775808)
  unfolding most_datasets
  row_last h l e =
      free h ∙ within_limit quantities.Datasets 256 (count_datasets pool + 1) room (omega arith)
      ∙ no_number (record pool { datasets = inserted (λ a b. is_before a.name b.name) row pool.datasets }) e

-- the command makes a dataset of this name, of either kind
made_kind : (pool : Pool) (command : Command) (name : List ℕ) (held : List Held) (now : ℕ) (refusal : Refusal) → made_by command ≡ Some name
    → ((kind : ℕ) → with_dataset (new_dataset kind name) pool ≡ Err refusal) → stepped held now command pool ≡ Err refusal
unfolding stepped
made_kind pool (commands.Fs dataset) name held now refusal e h = let same : dataset ≡ name = cc in ap (λ n. with_dataset (new_dataset 2 n) pool) same ∙ h 2
made_kind pool (commands.Volume dataset) name held now refusal e h = let same : dataset ≡ name = cc in ap (λ n. with_dataset (new_dataset 3 n) pool) same ∙ h 3
made_kind pool (commands.Object dataset k head bonus spill) name held now refusal e h = absurd (cc)
made_kind pool (commands.Write dataset k i bytes) name held now refusal e h = absurd (cc)
made_kind pool (commands.Punch dataset k first count) name held now refusal e h = absurd (cc)
made_kind pool (commands.Free dataset first count) name held now refusal e h = absurd (cc)
made_kind pool (commands.Snapshot other) name held now refusal e h = absurd (cc)
made_kind pool (commands.Clone origin other) name held now refusal e h = absurd (cc)
made_kind pool (commands.Bookmark of other) name held now refusal e h = absurd (cc)
made_kind pool (commands.Redact of other kept) name held now refusal e h = absurd (cc)
made_kind pool (commands.Rollback destroys other) name held now refusal e h = absurd (cc)
made_kind pool (commands.Destroy other) name held now refusal e h = absurd (cc)
made_kind pool (commands.Abort target) name held now refusal e h = absurd (cc)
made_kind pool commands.Reclaim name held now refusal e h = absurd (cc)
made_kind pool (commands.Read other k i) name held now refusal e h = absurd (cc)
made_kind pool commands.List name held now refusal e h = absurd (cc)
made_kind pool (commands.ListObjects other) name held now refusal e h = absurd (cc)

pub dataset_there : DatasetIsThere
dataset_there pool command name dataset m h held now = made_kind pool command name held now _ m (λ kind. name_taken (new_dataset kind name) pool dataset h)

pub target_there : TargetIsThere
target_there pool command name partial m h held now = made_kind pool command name held now _ m (λ kind. name_begun (new_dataset kind name) pool partial h)

pub datasets_full : DatasetsAreFull
datasets_full pool command name m h l held now = made_kind pool command name held now _ m (λ kind. rows_full (new_dataset kind name) pool h (omega arith))

pub targets_count : TargetsCount
targets_count pool command name partial m h l p a held now =
    made_kind pool command name held now _ m (λ kind. rows_full (new_dataset kind name) pool h (omega (arith, one)))
  where
    absent : Partial → Bool
    absent row = not (is_some (dataset_named row.target pool))

    one : count_by absent pool.partials ≡ 1
    one = ap (count_by absent) p ∙ ap (λ o. 0 + cond (not (is_some o)) 1 0) a

pub dataset_number : DatasetHasNoNumber
dataset_number pool command name m h l e held now =
    made_kind pool command name held now _ m (λ kind. row_last (new_dataset kind name) pool h (omega (arith, count_by-le-length (λ partial. not (is_some (dataset_named partial.target pool))) pool.partials)) e)

-- a dataset that is absent, or busy
module _ (pool : Pool) (name : List ℕ) where
  abbrev behind : (Dataset → Result Stepped Refusal) → Dataset → Result Stepped Refusal
  behind next dataset = unless (is_some (partial_of name pool)) (busy_partial name) (next dataset)

  absent_on : (next : Dataset → Result Stepped Refusal) → dataset_named name pool ≡ None → on_dataset name pool next ≡ Err (no_such (names.Dataset name))
  absent_on next h = ap (λ o. or_else (no_such (names.Dataset name)) o (behind next)) h

  busy_on : (next : Dataset → Result Stepped Refusal) (dataset : Dataset) (partial : Partial) → dataset_named name pool ≡ Some dataset → partial_of name pool ≡ Some partial
      → on_dataset name pool next ≡ Err (busy_partial name)
  busy_on next dataset partial h p =
      ap (λ o. or_else (no_such (names.Dataset name)) o (behind next)) h
      ∙ ap (λ o. unless (is_some o) (busy_partial name) (next dataset)) p

  free_on : (next : Dataset → Result Stepped Refusal) (dataset : Dataset) → HasFree pool name dataset → on_dataset name pool next ≡ next dataset
  free_on next dataset h =
      ap (λ o. or_else (no_such (names.Dataset name)) o (behind next)) h.0
      ∙ ap (λ o. unless (is_some o) (busy_partial name) (next dataset)) h.1

-- how a snapshot goes on with its dataset: with its number, its guid, and its place
abbrev to_number : ℕ → List ℕ → Pool → Dataset → Result Stepped Refusal
to_number now name pool dataset =
    committed (record pool { guids = pool.guids + 1; snapshots = inserted snapshot_is_before (snapshot_of now name pool dataset) pool.snapshots })

abbrev to_guid : ℕ → List ℕ → Pool → Dataset → Result Stepped Refusal
to_guid now name pool dataset = limited quantities.Guids last_guid (pool.guids + 1) (to_number now name pool dataset)

abbrev to_place : ℕ → List ℕ → Pool → Dataset → Result Stepped Refusal
to_place now name pool dataset = limited quantities.Snapshots most_snapshots (length pool.snapshots + length pool.partials + 1) (to_guid now name pool dataset)

abbrev to_snapshot : ℕ → List ℕ → Pool → Dataset → Result Stepped Refusal
to_snapshot now name pool dataset = unless (is_some (snapshot_named name pool)) (exists_already (names.Snapshot name)) (to_place now name pool dataset)

-- the command goes on with a dataset of this name
taken_on : (pool : Pool) (command : Command) (name : List ℕ) (held : List Held) (now : ℕ) (refusal : Refusal) → taken_by command ≡ Some name
    → ((next : Dataset → Result Stepped Refusal) → on_dataset name pool next ≡ Err refusal) → stepped held now command pool ≡ Err refusal
unfolding stepped
taken_on pool (commands.Fs dataset) name held now refusal e h = absurd (cc)
taken_on pool (commands.Volume dataset) name held now refusal e h = absurd (cc)
taken_on pool (commands.Object dataset k head bonus spill) name held now refusal e h = let same : dataset ≡ name = cc in subst (λ n. stepped held now (commands.Object n k head bonus spill) pool ≡ Err refusal) (sym same) (h _)
taken_on pool (commands.Write dataset k i bytes) name held now refusal e h = let same : dataset ≡ name = cc in subst (λ n. stepped held now (commands.Write n k i bytes) pool ≡ Err refusal) (sym same) (h _)
taken_on pool (commands.Punch dataset k first count) name held now refusal e h = let same : dataset ≡ name = cc in subst (λ n. stepped held now (commands.Punch n k first count) pool ≡ Err refusal) (sym same) (h _)
taken_on pool (commands.Free dataset first count) name held now refusal e h = let same : dataset ≡ name = cc in subst (λ n. stepped held now (commands.Free n first count) pool ≡ Err refusal) (sym same) (h _)
taken_on pool (commands.Snapshot other) name held now refusal e h =
    let same : dataset_before other ≡ name = cc in
    subst (λ n. on_dataset n pool (to_snapshot now other pool) ≡ Err refusal) (sym same) (h (to_snapshot now other pool))
taken_on pool (commands.Clone origin other) name held now refusal e h = absurd (cc)
taken_on pool (commands.Bookmark of other) name held now refusal e h = absurd (cc)
taken_on pool (commands.Redact of other kept) name held now refusal e h = absurd (cc)
taken_on pool (commands.Rollback destroys other) name held now refusal e h = absurd (cc)
taken_on pool (commands.Destroy other) name held now refusal e h = absurd (cc)
taken_on pool (commands.Abort target) name held now refusal e h = absurd (cc)
taken_on pool commands.Reclaim name held now refusal e h = absurd (cc)
taken_on pool (commands.Read other k i) name held now refusal e h = absurd (cc)
taken_on pool commands.List name held now refusal e h = absurd (cc)
taken_on pool (commands.ListObjects other) name held now refusal e h = absurd (cc)

pub dataset_absent : DatasetIsAbsent
dataset_absent pool command name m h held now = taken_on pool command name held now _ m (λ next. absent_on pool name next h)

pub dataset_busy : DatasetIsBusy
dataset_busy pool command name dataset partial m h p held now = taken_on pool command name held now _ m (λ next. busy_on pool name next dataset partial h p)

-- commands on a head
module _ (pool : Pool) (name : List ℕ) (dataset : Dataset) (free : HasFree pool name dataset) where
  abbrev with_new : DatedState → Pool
  with_new head = record pool { datasets = with_head name head pool.datasets }

  abbrev commit : DatedState → Result Stepped Refusal
  commit head = committed (with_new head)

  -- a change that is refused, and one that is made
  head_refused : (change : DatedState → Result DatedState Refusal) (refusal : Refusal) → change dataset.head ≡ Err refusal → on_head name pool change ≡ Err refusal
  head_refused change refusal h = free_on pool name (λ d. change d.head >>= commit) dataset free ∙ ap (λ r. r >>= commit) h

  head_made : (change : DatedState → Result DatedState Refusal) (head : DatedState) → change dataset.head ≡ Ok head → on_head name pool change ≡ committed (with_new head)
  head_made change head h = free_on pool name (λ d. change d.head >>= commit) dataset free ∙ ap (λ r. r >>= commit) h

-- one change in the next commit
module _ (pool : Pool) (k : ℕ) (change : Change) (head : DatedState) where
  abbrev dated_with : State → DatedState
  dated_with state = record {
    state = state;
    number_date = λ j. if touches_number (At k change) j then pool.number + 1 else head.number_date j;
    index_date = λ j i. if touches_index (At k change) head.state j i then pool.number + 1 else head.index_date j i;
  }

  abbrev outcome : Result (Option Object) ApplyFault → Result DatedState Refusal
  outcome r = of_applying (((r >>= λ object. Ok (put_at head.state k object)) >>= λ state. Ok (dated_with state)) >>= apply_all_dated (pool.number + 1) [])

  outcome_is : (r : Result (Option Object) ApplyFault) → apply_change change (head.state k) ≡ r → applied pool (At k change ∷ []) head ≡ outcome r
  unfolding apply
  outcome_is r h = ap outcome h

-- a range past a limit, after a change that is made
beyond : (r : Result DatedState Refusal) (after : DatedState) (past : ℕ) → r ≡ Ok after → 8796093022208 < past
    → (r >>= λ after. in_indices past (Ok after)) ≡ Err (refusals.Limit quantities.Block 8796093022208)
unfolding index_bound
beyond r after past h l = ap (λ r. r >>= λ after. in_indices past (Ok after)) h ∙ over quantities.Block 8796093022208 past (Ok after) l

-- a range within the limit, after a change that is made
inside : (r : Result DatedState Refusal) (after : DatedState) (past : ℕ) → r ≡ Ok after → past ≤ 8796093022208 → (r >>= λ after. in_indices past (Ok after)) ≡ Ok after
unfolding index_bound
inside r after past h l = ap (λ r. r >>= λ after. in_indices past (Ok after)) h ∙ within_limit quantities.Block 8796093022208 past (Ok after) l

-- an object, with its spill or without one, is always put
put_made : (head : ObjectHead) (bonus : List ℕ) (o : Option Object) → (object : Object) × (apply_change (Put head bonus false 0) o ≡ Ok (Some object))
unfolding apply_change
put_made head bonus None = (_, refl)
put_made head bonus (Some old) = (_, refl)

spill_made : (bytes : List ℕ) (object : Object) → (spilled : Object) × (apply_change (Spill bytes) (Some object) ≡ Ok (Some spilled))
unfolding apply_change
spill_made bytes object = (_, refl)

module _ (pool : Pool) (k : ℕ) (head : ObjectHead) (bonus : List ℕ) (d : DatedState) where
  abbrev the_put : Change
  the_put = Put head bonus false 0

  abbrev object_put : Object
  object_put = (put_made head bonus (d.state k)).0

  abbrev after_put : DatedState
  after_put = dated_with pool k the_put d (put_at d.state k (Some object_put))

  put_first : (bytes : List ℕ) → applied pool (At k the_put ∷ At k (Spill bytes) ∷ []) d ≡ applied pool (At k (Spill bytes) ∷ []) after_put
  unfolding apply
  put_first bytes =
      ap (λ r. of_applying (((r >>= λ object. Ok (put_at d.state k object)) >>= λ state. Ok (dated_with pool k the_put d state)) >>= apply_all_dated (pool.number + 1) (At k (Spill bytes) ∷ [])))
      (put_made head bonus (d.state k)).1

  all_put : (spill : Option (List ℕ)) → (after : DatedState) × (applied pool (map (At k) (the_put ∷ spill_change spill)) d ≡ Ok after)
  all_put None = (after_put, outcome_is pool k the_put d (Ok (Some object_put)) (put_made head bonus (d.state k)).1)
  all_put (Some bytes) =
      let spilled = spill_made bytes object_put in (
        dated_with pool k (Spill bytes) after_put (put_at after_put.state k (Some spilled.0)),
        put_first bytes
            ∙ outcome_is pool k (Spill bytes) after_put (Ok (Some spilled.0)) (ap (apply_change (Spill bytes)) (put_here d.state k (Some object_put)) ∙ spilled.1),
      )

pub number_far : NumberIsFar
unfolding stepped number_bound
number_far pool name dataset k head bonus spill f l held now =
    head_refused pool name dataset f _ (refusals.Limit quantities.Object 281474976710656) (over quantities.Object 281474976710656 (k + 1) _ (omega arith))

pub numbers_far : NumbersAreFar
unfolding stepped number_bound
numbers_far pool name dataset first count f l held now =
    head_refused pool name dataset f _ (refusals.Limit quantities.Object 281474976710656) (over quantities.Object 281474976710656 (first + count) _ l)

pub object_number : ObjectHasNoNumber
unfolding stepped number_bound
object_number pool name dataset k head bonus spill f l e held now =
    let put = all_put pool k head bonus dataset.head spill in
    head_made pool name dataset f (λ d. in_numbers (k + 1) (applied pool (map (At k) (Put head bonus false 0 ∷ spill_change spill)) d)) put.0
    (within_limit quantities.Object 281474976710656 (k + 1) _ (omega arith) ∙ put.1)
    ∙ no_number _ e

pub free_number : FreeHasNoNumber
unfolding stepped apply number_bound
free_number pool name dataset first count f l e held now =
    head_made pool name dataset f (λ d. in_numbers (first + count) (applied pool (FreeObjects first count ∷ []) d)) _
    (within_limit quantities.Object 281474976710656 (first + count) _ l)
    ∙ no_number _ e

-- writes
filled_length : (size : ℕ) (bytes : List ℕ) → length (filled size bytes) ≡ length bytes + (size - length bytes)
filled_length size bytes = length-append bytes (replicate (size - length bytes) 0) ∙ ap (λ n. length bytes + n) (length-replicate (size - length bytes) 0)

fits_filled : (size : ℕ) (bytes : List ℕ) → length bytes ≤ size → not (length (filled size bytes) == size) ≡ false
fits_filled size bytes l = not_from_true _ (eq-eqb _ _ (filled_length size bytes ∙ omega arith))

module _ (pool : Pool) (name : List ℕ) (dataset : Dataset) (k i : ℕ) (bytes : List ℕ) (free : HasFree pool name dataset) (held : List Held) (now : ℕ) where
  abbrev block_write : Option Object → Change
  block_write o = Write (i * size_at o) 0 (filled (size_at o) bytes)

  abbrev write_result : Option Object → Result (Option Object) ApplyFault
  write_result o = apply_change (block_write o) o

  write_fails : (o : Option Object) (fault : ApplyFault) → dataset.head.state k ≡ o → write_result o ≡ Err fault → stepped held now (commands.Write name k i bytes) pool ≡ Err (cannot_apply fault)
  unfolding stepped
  write_fails o fault h e =
      head_refused pool name dataset free (written pool k i bytes) (cannot_apply fault)
      (ap (λ r. r >>= λ after. in_indices (i + 1) (Ok after)) (outcome_is pool k (block_write (dataset.head.state k)) dataset.head (Err fault) (ap write_result h ∙ e)))

  write_beyond : (o made : Option Object) → dataset.head.state k ≡ o → write_result o ≡ Ok made → 8796093022208 ≤ i
      → stepped held now (commands.Write name k i bytes) pool ≡ Err (refusals.Limit quantities.Block 8796093022208)
  unfolding stepped
  write_beyond o made h e l =
      head_refused pool name dataset free (written pool k i bytes) (refusals.Limit quantities.Block 8796093022208)
      (beyond _ _ (i + 1) (outcome_is pool k (block_write (dataset.head.state k)) dataset.head (Ok made) (ap write_result h ∙ e)) (omega arith))

  write_last : (o made : Option Object) → dataset.head.state k ≡ o → write_result o ≡ Ok made → i < 8796093022208 → pool.number ≡ 9223372036854775808
      → stepped held now (commands.Write name k i bytes) pool ≡ Err (refusals.Limit quantities.Number 9223372036854775808)
  unfolding stepped
  write_last o made h e l n =
      head_made pool name dataset free (written pool k i bytes) _
      (inside _ _ (i + 1) (outcome_is pool k (block_write (dataset.head.state k)) dataset.head (Ok made) (ap write_result h ∙ e)) (omega arith))
      ∙ no_number _ n

-- a write that fits is made
write_made : (i : ℕ) (bytes : List ℕ) (object : Object) → length bytes ≤ object.attr.block_size → is_odd_size object.attr.block_size ≡ false
    → apply_change (Write (i * object.attr.block_size) 0 (filled object.attr.block_size bytes)) (Some object)
    ≡ with_blocks object (λ j. if j * object.attr.block_size == i * object.attr.block_size then Data (filled object.attr.block_size bytes) else object.blocks j)
unfolding apply_change
write_made i bytes object l even =
    let size = object.attr.block_size in
    passed (not (length (filled size bytes) == size)) SizeDiffers _ (fits_filled size bytes l)
    ∙ passed (is_unaligned size (i * size)) Unaligned _ (aligned_from size (i * size) (mul-mod_left i size))
    ∙ passed (is_odd_size size && nat_lt 0 (i * size)) OddBlock _ (and_left (is_odd_size size) _ even)

pub write_object : WriteWantsObject
unfolding apply_change
write_object pool name dataset k i bytes f h held now = write_fails pool name dataset k i bytes f held now None NoObject h refl

pub write_long : WriteIsLong
unfolding apply_change
write_long pool name dataset k i bytes object f h l held now =
    let size = object.attr.block_size in
    write_fails pool name dataset k i bytes f held now (Some object) SizeDiffers h
    (refused (not (length (filled size bytes) == size)) SizeDiffers _ (ap not (ne_eqb (length (filled size bytes)) size (λ e. omega (arith, e, filled_length size bytes)))))

pub write_odd : WriteIsOdd
unfolding apply_change
write_odd pool name dataset k i bytes object f h pos l odd some held now =
    let size = object.attr.block_size in
    let more : 1 * size ≤ i * size = mul-le-mul_right size some in
    write_fails pool name dataset k i bytes f held now (Some object) OddBlock h
    (passed (not (length (filled size bytes) == size)) SizeDiffers _ (fits_filled size bytes l)
    ∙ passed (is_unaligned size (i * size)) Unaligned _ (aligned_from size (i * size) (mul-mod_left i size))
    ∙ refused (is_odd_size size && nat_lt 0 (i * size)) OddBlock _ (and_from (is_odd_size size) _ odd (lt-ltb _ _ (omega arith))))

pub write_far : WriteIsFar
write_far pool name dataset k i bytes object f h l even far held now = write_beyond pool name dataset k i bytes f held now (Some object) _ h (write_made i bytes object l even) far

pub write_number : WriteHasNoNumber
write_number pool name dataset k i bytes object f h l even low e held now = write_last pool name dataset k i bytes f held now (Some object) _ h (write_made i bytes object l even) low e

pub odd_sizes : OddSizes
unfolding lib.Count.ones
odd_sizes = (refl, refl, refl)

-- punches
module _ (pool : Pool) (name : List ℕ) (dataset : Dataset) (k first count : ℕ) (free : HasFree pool name dataset) (held : List Held) (now : ℕ) where
  abbrev block_free : Option Object → Change
  block_free o = Free (first * size_at o) (count * size_at o)

  abbrev punch_result : Option Object → Result (Option Object) ApplyFault
  punch_result o = apply_change (block_free o) o

  punch_fails : (o : Option Object) (fault : ApplyFault) → dataset.head.state k ≡ o → punch_result o ≡ Err fault → stepped held now (commands.Punch name k first count) pool ≡ Err (cannot_apply fault)
  unfolding stepped
  punch_fails o fault h e =
      head_refused pool name dataset free (punched pool k first count) (cannot_apply fault)
      (ap (λ r. r >>= λ after. in_indices (first + count) (Ok after)) (outcome_is pool k (block_free (dataset.head.state k)) dataset.head (Err fault) (ap punch_result h ∙ e)))

  punch_beyond : (o made : Option Object) → dataset.head.state k ≡ o → punch_result o ≡ Ok made → 8796093022208 < first + count
      → stepped held now (commands.Punch name k first count) pool ≡ Err (refusals.Limit quantities.Block 8796093022208)
  unfolding stepped
  punch_beyond o made h e l =
      head_refused pool name dataset free (punched pool k first count) (refusals.Limit quantities.Block 8796093022208)
      (beyond _ _ (first + count) (outcome_is pool k (block_free (dataset.head.state k)) dataset.head (Ok made) (ap punch_result h ∙ e)) l)

  punch_last : (o made : Option Object) → dataset.head.state k ≡ o → punch_result o ≡ Ok made → first + count ≤ 8796093022208 → pool.number ≡ 9223372036854775808
      → stepped held now (commands.Punch name k first count) pool ≡ Err (refusals.Limit quantities.Number 9223372036854775808)
  unfolding stepped
  punch_last o made h e l n =
      head_made pool name dataset free (punched pool k first count) _
      (inside _ _ (first + count) (outcome_is pool k (block_free (dataset.head.state k)) dataset.head (Ok made) (ap punch_result h ∙ e)) l)
      ∙ no_number _ n

-- a punch is always made
punch_made : (first count : ℕ) (object : Object)
    → apply_change (Free (first * object.attr.block_size) (count * object.attr.block_size)) (Some object)
    ≡ with_blocks object (λ i. if within (first * object.attr.block_size) (count * object.attr.block_size) (i * object.attr.block_size) then Hole else object.blocks i)
unfolding apply_change
punch_made first count object =
    let size = object.attr.block_size in
    passed (is_unaligned size (first * size) || is_unaligned size (count * size)) Unaligned _
    (or_from _ _ (aligned_from size (first * size) (mul-mod_left first size)) (aligned_from size (count * size) (mul-mod_left count size)))

pub punch_object : PunchWantsObject
unfolding apply_change
punch_object pool name dataset k first count f h held now = punch_fails pool name dataset k first count f held now None NoObject h refl

pub punch_far : PunchIsFar
punch_far pool name dataset k first count object f h far held now = punch_beyond pool name dataset k first count f held now (Some object) _ h (punch_made first count object) far

pub punch_number : PunchHasNoNumber
punch_number pool name dataset k first count object f h low e held now = punch_last pool name dataset k first count f held now (Some object) _ h (punch_made first count object) low e

-- snapshots
there_already : (pool : Pool) (name : List ℕ) (dataset : Dataset) (held : List Held) (now : ℕ) → HasFree pool (dataset_before name) dataset → stepped held now (commands.Snapshot name) pool ≡ to_snapshot now name pool dataset
unfolding stepped
there_already pool name dataset held now f = free_on pool (dataset_before name) (to_snapshot now name pool) dataset f

pub snapshot_there : SnapshotIsThere
snapshot_there pool name dataset snapshot f h held now =
    there_already pool name dataset held now f ∙ ap (λ o. unless (is_some o) (exists_already (names.Snapshot name)) (to_place now name pool dataset)) h

takeable : (pool : Pool) (name : List ℕ) (dataset : Dataset) (held : List Held) (now : ℕ) → IsTakeable pool name dataset → stepped held now (commands.Snapshot name) pool ≡ to_place now name pool dataset
takeable pool name dataset held now t =
    there_already pool name dataset held now t.0 ∙ ap (λ o. unless (is_some o) (exists_already (names.Snapshot name)) (to_place now name pool dataset)) t.1

pub snapshots_full : SnapshotsAreFull
unfolding most_snapshots
snapshots_full pool name dataset t l held now = takeable pool name dataset held now t ∙ over quantities.Snapshots 1024 (length pool.snapshots + length pool.partials + 1) (to_guid now name pool dataset) (omega arith)

placed : (pool : Pool) (name : List ℕ) (dataset : Dataset) (held : List Held) (now : ℕ) → IsTakeable pool name dataset → length pool.snapshots + length pool.partials < 1024
    → stepped held now (commands.Snapshot name) pool ≡ to_guid now name pool dataset
unfolding most_snapshots
placed pool name dataset held now t l =
    takeable pool name dataset held now t ∙ within_limit quantities.Snapshots 1024 (length pool.snapshots + length pool.partials + 1) (to_guid now name pool dataset) (omega arith)

pub guids_over : GuidsAreOver
unfolding last_guid
guids_over pool name dataset t l e held now = placed pool name dataset held now t l ∙ over quantities.Guids 4294967295 (pool.guids + 1) (to_number now name pool dataset) (omega arith)

pub snapshot_number : SnapshotHasNoNumber
unfolding last_guid
snapshot_number pool name dataset t l g e held now =
    placed pool name dataset held now t l ∙ within_limit quantities.Guids 4294967295 (pool.guids + 1) (to_number now name pool dataset) (omega arith)
    ∙ no_number (record pool { guids = pool.guids + 1; snapshots = inserted snapshot_is_before (snapshot_of now name pool dataset) pool.snapshots }) e

-- reads
abbrev read_of : Pool → ℕ → ℕ → Option Object → Result Stepped Refusal
read_of pool k i o = or_else (cannot_apply NoObject) o (λ object. block_read pool k i (object.blocks i))

pub name_absent : NameIsAbsent
unfolding stepped
name_absent pool name h = (
  λ k i held now. ap (λ o. or_else (no_such name) o (λ snap. read_of pool k i (snap.state k))) h,
  λ held now. ap (λ o. or_else (no_such name) o (λ snap. answered pool (object_lines snap))) h,
)

read_on : (pool : Pool) (name : Name) (snap : DatedState) (k i : ℕ) (held : List Held) (now : ℕ) (o : Option Object) → state_named name pool ≡ Some snap → snap.state k ≡ o
    → stepped held now (commands.Read name k i) pool ≡ read_of pool k i o
unfolding stepped
read_on pool name snap k i held now o h e = ap (λ o. or_else (no_such name) o (λ snap. read_of pool k i (snap.state k))) h ∙ ap (read_of pool k i) e

pub read_object : ReadWantsObject
read_object pool name snap k i h e held now = read_on pool name snap k i held now None h e

pub read_redacted : ReadIsRedacted
read_redacted pool name snap k i object h e b held now = read_on pool name snap k i held now (Some object) h e ∙ ap (block_read pool k i) b

pub read_far : ReadIsFar
unfolding index_bound
read_far pool name snap k i object lawful h e l held now =
    read_on pool name snap k i held now (Some object) h e
    ∙ ap (block_read pool k i) ((subst IsObjectOrNone e (lawful.objects k)).bounded i l)
    ∙ over quantities.Block 8796093022208 (i + 1) _ (omega arith)
