-- What a record makes of a partial state that is under way, and of the batch of a feed.
use Rattle.std.proofs.Common.{◌≡◌, ◌⊎◌, inl, inr, ℕ, ◌+◌, ◌-◌, ◌*◌, ◌^◌, ◌<◌, ◌≤◌, ◌==◌, ◌||◌, Bool, true, false, not, nat_lt, if◌then◌else◌, min, List, [], ◌∷◌, length, Option, Some, None, Result, Ok, Err, refl, sym, ap, ◌∙◌, subst, arith}
use Rattle.std.proofs.lemmas.Bool.{eqb-true, ltb-false, ltb-true}
use Rattle.zst_outside.specs.Images.{DiskState}
use Rattle.zst_space.specs.FreeSectors.{FreeSectors}
use Rattle.zst_block.specs.Blocks.{FillsFree, Has}
use Rattle.zst_block.specs.declared.fault.BlockFault.TheVariants as blocks
use Rattle.zst_block.proofs.BlocksLaws.{KeepsBlocks-fills}
use Rattle.zst_model.specs.declared.refusals.apply_fault.ApplyFault.{ApplyFault}
use Rattle.zst_model.specs.declared.refusals.apply_fault.ApplyFault.TheVariants.{OddBlock, SizeDiffers, Unaligned}
use Rattle.zst_model.specs.declared.refusals.faults.Quantity.TheVariants as quantities
use Rattle.zst_model.specs.declared.refusals.refusal.Refusal.{Refusal}
use Rattle.zst_model.specs.declared.refusals.refusal.Refusal.TheVariants as refusals
use Rattle.zst_model.specs.declared.sends.header.Point.{Point}
use Rattle.zst_model.specs.declared.states.item.Change.TheVariants.{Write}
use Rattle.zst_model.specs.declared.states.item.Item.TheVariants.{At}
use Rattle.zst_model.specs.pools.Limits.{last_number}
use Rattle.zst_model.specs.pools.Pool.{Pool}
use Rattle.zst_model.specs.pools.Pool as models
use Rattle.zst_model.specs.sends.Points.{point_of}
use Rattle.zst_model.specs.pools.Soundness.{DatedUpTo}
use Rattle.zst_model.specs.declared.states.item.Item.{Item}
use Rattle.zst_model.specs.sends.ReceivedRecords.{is_past, of_record as of_index, received}
use Rattle.zst_model.specs.states.AppliedItems.{◌>>=◌, apply, apply_change, is_unaligned, put_at, unless}
use Rattle.zst_model.specs.states.DatedState.{DatedState, apply_dated, size_at, touches_index, touches_number}
use Rattle.zst_model.specs.states.State.{Object, State, index_bound}
use Rattle.zst_record.specs.Decoding.{is_range}
use Rattle.zst_record.specs.RecordValues.{Fits, IsLater}
use Rattle.zst_record.specs.Formats.{to_end}
use Rattle.zst_record.specs.Heads.{Covered, payload_len}
use Rattle.zst_record.specs.declared.head.Head.{Head}
use Rattle.zst_record.specs.declared.head.Head.TheVariants as heads
use Rattle.zst_record.proofs.SizeLaws.{block-bounded}
use Rattle.zst_record.proofs.DecodingLaws.{in-range}
use Rattle.zst_stream.specs.Items.{items_by}
use Rattle.zst_stream.specs.Reading.{closing}
use Rattle.zst_tree.specs.Indices.{Blocks}
use Rattle.zst_tree.specs.declared.tree.ObjSet.{ObjSet}
use Rattle.zst_objset.specs.Answers.{NotRedacted}
use Rattle.zst_objset.specs.Sets.{SetHolds}
use Rattle.zst_objset.specs.TightSets.{SetIsTight}
use Rattle.zst_objset.specs.declared.fault.ObjFault.{ObjFault}
use Rattle.zst_objset.specs.declared.fault.ObjFault.TheVariants as sets
use Rattle.zst_apply.specs.AppliedRecords.{Applies, RefusesRecord, received_all}
use Rattle.zst_dir.specs.declared.rows.Partial.{Partial}
use Rattle.zst_image.specs.Bodies.{free_by}
use Rattle.zst_image.specs.Reads.{PartialIs, RunsBy, SetIs, bound_of}
use Rattle.zst_image.specs.declared.pool_state.PoolState.{PoolState}
use Rattle.zst_image.proofs.Growth.{PartialIs-grows, RunsBy-grows}
use Rattle.zst_plan.specs.declared.receive.RecvAsk.{RecvAsk}
use Rattle.zst_pool.specs.Calls.{IsUnderWay}
use Rattle.zst_pool.proofs.Bounds.{RunsBy-later}
use Rattle.zst_pool.specs.declared.fault.PoolFault.TheVariants as pools
use Rattle.zst_recv.specs.Faults.{IsRecordFault, of_record}
use Rattle.zst_recv.specs.ReceiveSteps.{Ends, Lives, Stage, Waits, Batch, moved_by, taken, taken_at, went_on, with_applied}
use Rattle.zst_recv.specs.Stages.{IsStage, IsBatch}
use Rattle.zst_recv.specs.TakenRecords.{EndFits, TakeFault}
use Rattle.zst_recv.specs.declared.batch.Batch as batches
use Rattle.zst_recv.specs.declared.fault.RecvFault.{RecvFault}
use Rattle.zst_recv.specs.declared.fault.RecvFault.TheVariants as faults
use Rattle.zst_recv.specs.declared.stage.Stage as coded
use Rattle.zst_recv.specs.declared.stage.Stage.TheVariants as stages

-- ---- ranges of bytes

-- what is made of an object as the answer of a record, unless an index is past the bound
abbrev answered : (index : ℕ) → Result (Option Object) ApplyFault → (Option Object → State) → (State → DatedState) → (far : Bool) → Result DatedState Refusal
answered index object make date far =
    of_index index ((object >>= λ o. Ok (make o)) >>= λ s. Ok (date s)) >>= λ snap. unless far (refusals.Limit quantities.Block index_bound) (Ok snap)

passes : (index : ℕ) (same unaligned odd far : Bool) (written : Option Object) (make : Option Object → State) (date : State → DatedState) (after : DatedState)
    → answered index (unless (not same) SizeDiffers (unless unaligned Unaligned (unless odd OddBlock (Ok written)))) make date far ≡ Ok after → (same ≡ true) × (far ≡ false)
passes index true false false false written make date after is = (refl, refl)
passes index true false false true written make date after is = absurd cc
passes index true false true far written make date after is = absurd cc
passes index true true odd far written make date after is = absurd cc
passes index false unaligned odd far written make date after is = absurd cc

write_to : (index offset kind : ℕ) (bytes : List ℕ) (object : Option Object) (make : Option Object → State) (date : State → DatedState) (after : DatedState)
    → answered index (apply_change (Write offset kind bytes) object) make date (nat_lt (index_bound * size_at object) (offset + length bytes)) ≡ Ok after → offset + length bytes ≤ index_bound * length bytes
unfolding apply_change
write_to index offset kind bytes None make date after is = absurd cc
write_to index offset kind bytes (Some object) make date after is =
    let size = object.attr.block_size in
    let passed = passes index (length bytes == size) (is_unaligned size offset) _ (nat_lt (index_bound * size) (offset + length bytes)) _ make date after is in
    subst (λ (n : ℕ). offset + length bytes ≤ index_bound * n) (sym (eqb-true (length bytes) size passed.0)) (ltb-false (index_bound * size) (offset + length bytes) passed.1)

-- a WRITE that is taken ends below the bound of indices
write_ends : (number index k offset kind : ℕ) (bytes : List ℕ) (snap after : DatedState) → received number index (At k (Write offset kind bytes)) snap ≡ Ok after
    → offset + length bytes ≤ index_bound * length bytes
unfolding apply
write_ends number index k offset kind bytes snap after is = write_to index offset kind bytes (snap.state k) (put_at snap.state k) _ after is

one_taken : (number index : ℕ) (r : Result DatedState Refusal) (after : DatedState) → (r >>= received_all number index []) ≡ Ok after → r ≡ Ok after
one_taken number index (Ok snap) after is = is
one_taken number index (Err refusal) after is = is

below_64 : (offset size : ℕ) → size ≤ 131072 → offset + size ≤ index_bound * size → offset + size < 2 ^ 64
unfolding index_bound
below_64 offset size short is = omega arith

free_range : (offset size : ℕ) → (is_range offset size || (size == to_end)) ≡ true → (size ≡ to_end) ⊎ (offset + size < 2 ^ 64)
unfolding is_range
free_range offset size is = go (nat_lt (offset + size) (2 ^ 64)) refl is
  where
    go : (b : Bool) → nat_lt (offset + size) (2 ^ 64) ≡ b → (b || (size == to_end)) ≡ true → (size ≡ to_end) ⊎ (offset + size < 2 ^ 64)
    go true e h = inr (ltb-true (offset + size) (2 ^ 64) e)
    go false e h = inl (eqb-true size to_end h)

-- the range of a record that is taken ends within 64 bits
pub ends_fit : (features number index flags : ℕ) (head : Head) (payload : List ℕ) (snap after : DatedState) → Fits features head → length payload ≡ payload_len head
    → received_all number index (items_by flags payload head) snap ≡ Ok after → EndFits head
ends_fit features number index flags (heads.Begin header len) payload snap after fits long is = tt
ends_fit features number index flags (heads.Object object kind bonus_kind block_size bonus_len max_block to) payload snap after fits long is = tt
ends_fit features number index flags (heads.FreeObjects first count to) payload snap after fits long is = tt
ends_fit features number index flags (heads.Write object kind offset size to) payload snap after fits long is =
    let below = write_ends number index object offset kind payload snap after (one_taken number index (received number index (At object (Write offset kind payload)) snap) after is) in
    below_64 offset size (block-bounded size fits.size_fits).1 (subst (λ (n : ℕ). offset + n ≤ index_bound * n) long below)
ends_fit features number index flags (heads.Free object offset size to) payload snap after fits long is = free_range offset size fits.range
ends_fit features number index flags (heads.End sums to) payload snap after fits long is = tt
ends_fit features number index flags (heads.Spill object size to) payload snap after fits long is = tt
ends_fit features number index flags (heads.Redact object offset size to) payload snap after fits long is = in-range offset size fits.range

-- ---- a set

-- the state after an item, with its dates
abbrev with_dates : ℕ → Item → DatedState → State → DatedState
with_dates number item snap state = record {
  state = state;
  number_date = λ k. if touches_number item k then number else snap.number_date k;
  index_date = λ k i. if touches_index item snap.state k i then number else snap.index_date k i;
}

-- an item gives no date past its commit's number
dated_on : (number : ℕ) (item : Item) (snap after : DatedState) (applied : Result State ApplyFault) → (applied >>= λ state. Ok (with_dates number item snap state)) ≡ Ok after → DatedUpTo number snap → DatedUpTo number after
dated_on number item snap after (Ok state) is dated =
    let same : with_dates number item snap state ≡ after = cc in
    subst (DatedUpTo number) same (record {
      numbers = λ k. most (touches_number item k) (snap.number_date k) (dated.numbers k);
      indices = λ k i. most (touches_index item snap.state k i) (snap.index_date k i) (dated.indices k i);
    })
  where
    most : (touched : Bool) (old : ℕ) → old ≤ number → (if touched then number else old) ≤ number
    most true old up = omega arith
    most false old up = up
dated_on number item snap after (Err fault) is dated = absurd cc

module _ (number index : ℕ) (item : Item) (rest : List Item) (snap after : DatedState) (dated : DatedUpTo number snap)
    (later : (made : DatedState) → received_all number index rest made ≡ Ok after → DatedUpTo number made → DatedUpTo number after) where
  past_dated : (made : DatedState) (past : Bool) → apply_dated number item snap ≡ Ok made → (unless past (refusals.Limit quantities.Block index_bound) (Ok made) >>= received_all number index rest) ≡ Ok after
      → DatedUpTo number after
  past_dated made true applied is = absurd cc
  past_dated made false applied is = later made is (dated_on number item snap made (apply item snap.state) applied dated)

  item_dated : (r : Result DatedState ApplyFault) → apply_dated number item snap ≡ r
      → ((of_index index r >>= λ made. unless (is_past item snap.state) (refusals.Limit quantities.Block index_bound) (Ok made)) >>= received_all number index rest) ≡ Ok after → DatedUpTo number after
  item_dated (Ok made) applied is = past_dated made (is_past item snap.state) applied is
  item_dated (Err fault) applied is = absurd cc

-- nor do the items of a record
pub dated_by : (number index : ℕ) (items : List Item) (snap after : DatedState) → received_all number index items snap ≡ Ok after → DatedUpTo number snap → DatedUpTo number after
dated_by number index [] snap after is dated = let same : snap ≡ after = cc in subst (DatedUpTo number) same dated
dated_by number index (item ∷ rest) snap after is dated =
    item_dated number index item rest snap after dated (λ made gave more. dated_by number index rest made after gave more) (apply_dated number item snap) refl is

-- the record with this index is applied to a set of either strength
pub applies_so : (tight : Bool) (number index : ℕ) (items : List Item) (old has : Blocks) (set made : ObjSet) (state : DatedState) (result : Result (Unit {0}) ObjFault)
    → (SetHolds old set state → Applies index (SetHolds has made) (received_all number index items state) result)
    → (SetIsTight old set state → DatedUpTo number state → Applies index (SetIsTight has made) (received_all number index items state) result)
    → SetIs (bound_of tight number) old set state → Applies index (SetIs (bound_of tight number) has made) (received_all number index items state) result
applies_so false number index items old has set made state result holds tight is = holds is
applies_so true number index items old has set made state (Ok done) holds tight is =
    let after = tight is.0 is.1 in (after.0, after.1, (after.2, dated_by number index items state after.0 after.1 is.1))
applies_so true number index items old has set made state (Err fault) holds tight is = tight is.0 is.1

-- ---- a partial state

-- it is moved as the definition says
pub moved_is : (bound : Option ℕ) (old has : Blocks) (number flags : ℕ) (c : Covered) (row : Partial) (set : ObjSet) (point : Point) (state : models.Partial) (after : DatedState) → PartialIs bound old row state
    → received_all number c.index (items_by flags c.payload c.head) state.objects ≡ Ok after → SetIs bound has set after → point ≡ point_of row.point (items_by flags c.payload c.head)
    → (next : models.Partial) × (moved_by number c flags state ≡ Ok next) × PartialIs bound has (record row { objects = set; point = point }) next
moved_is bound old has number flags c row set point state after stands received_is holds point_is =
    let items = items_by flags c.payload c.head in
    let made : DatedState → Result models.Partial Refusal = λ objects. Ok (record state { objects = objects; point = point_of state.point items }) in (
      record state { objects = after; point = point_of state.point items },
      ap (λ (r : Result DatedState Refusal). r >>= made) received_is,
      record {
        named = record {
          target = stands.named.target;
          component = stands.named.component;
          keep = stands.named.keep;
          header = stands.named.header;
          base = stands.named.base;
          point = ap (λ (p : Point). point_of p items) stands.named.point ∙ sym point_is;
        };
        objects = holds;
      },
    )

-- or it is refused as the definition refuses it
pub refused_is : (number flags : ℕ) (c : Covered) (state : models.Partial) (fault : ObjFault) → RefusesRecord c.index (received_all number c.index (items_by flags c.payload c.head) state.objects) fault
    → TakeFault (moved_by number c flags state) (of_record c.index fault)
refused_is number flags c state (sets.CannotApply fault) is =
    ap (λ (r : Result DatedState Refusal). r >>= λ objects. Ok (record state { objects = objects; point = point_of state.point (items_by flags c.payload c.head) })) is
refused_is number flags c state (sets.Redacted object block) is = absurd is
refused_is number flags c state (sets.Limit which most) is =
    ap (λ (r : Result DatedState Refusal). r >>= λ objects. Ok (record state { objects = objects; point = point_of state.point (items_by flags c.payload c.head) })) is
refused_is number flags c state (sets.Block (blocks.Full need largest)) is = tt
refused_is number flags c state (sets.Block (blocks.Damaged sector stated found)) is = absurd is
refused_is number flags c state (sets.Block blocks.DiskFault) is = tt

-- a refusal of a record is one that a feed may answer
pub known_record : (index : ℕ) (fault : ObjFault) → NotRedacted fault → IsRecordFault (of_record index fault)
known_record index (sets.CannotApply fault) none = tt
known_record index (sets.Redacted object block) none = absurd none
known_record index (sets.Limit which most) none = tt
known_record index (sets.Block (blocks.Full need largest)) none = tt
known_record index (sets.Block (blocks.Damaged sector stated found)) none = tt
known_record index (sets.Block blocks.DiskFault) none = tt

-- blocks that are written leave it as it was
pub partial_stays : (bound : Option ℕ) (old new : DiskState) (space less : FreeSectors) (row : Partial) (state : models.Partial) → FillsFree old space new less → PartialIs bound (Has old.seen space) row state
    → PartialIs bound (Has new.seen less) row state
partial_stays bound old new space less row state fills stands = PartialIs-grows old.seen space new.seen less (KeepsBlocks-fills old new space less fills) bound row state stands

-- ---- the batch of a feed

pub lives_is : (bound : Option ℕ) (has : Blocks) (flags : ℕ) (row : Partial) (stage : Stage) → IsStage bound has (stages.Lives flags row) stage → (state : models.Partial) × (stage ≡ Lives flags state) × PartialIs bound has row state
lives_is bound has flags row Waits is = absurd is
lives_is bound has flags row (Lives stated state) is = (state, ap (λ (f : ℕ). Lives f state) (sym is.0), is.1)
lives_is bound has flags row (Ends state) is = absurd is

-- the partial state of a batch whose stage is this
pub under_way : (bound : Option ℕ) (has : Blocks) (batch : batches.Batch) (plain : Batch) (flags : ℕ) (row : Partial) → batch.stage ≡ stages.Lives flags row → IsBatch bound has batch plain
    → (state : models.Partial) × (plain.stage ≡ Lives flags state) × PartialIs bound has row state
under_way bound has batch plain flags row stage is = lives_is bound has flags row plain.stage (subst (λ (s : coded.Stage). IsStage bound has s plain.stage) stage is.stage)

-- a record that is neither BEGIN nor END moves the partial state
moves : (number : ℕ) (c : Covered) (flags : ℕ) (state : models.Partial) (plain : Batch) (head : Head) → IsLater head → closing head ≡ None
    → went_on number c flags state plain head ≡ (moved_by number c flags state >>= λ next. Ok (with_applied flags next plain))
moves number c flags state plain (heads.Begin header len) later last = absurd later
moves number c flags state plain (heads.Object object kind bonus_kind block_size bonus_len max_block to) later last = refl
moves number c flags state plain (heads.FreeObjects first count to) later last = refl
moves number c flags state plain (heads.Write object kind offset size to) later last = refl
moves number c flags state plain (heads.Free object offset size to) later last = refl
moves number c flags state plain (heads.End sums to) later last = absurd cc
moves number c flags state plain (heads.Spill object size to) later last = refl
moves number c flags state plain (heads.Redact object offset size to) later last = refl

pub taken_is : (ask : RecvAsk) (running : Pool) (c : Covered) (plain : Batch) (number flags : ℕ) (state : models.Partial) → plain.stage ≡ Lives flags state → number ≡ running.number + 1
    → IsLater c.head → closing c.head ≡ None → taken ask running c plain ≡ (moved_by number c flags state >>= λ next. Ok (with_applied flags next plain))
taken_is ask running c plain number flags state stage is later last =
    ap (taken_at ask running c plain) stage ∙ moves (running.number + 1) c flags state plain c.head later last
    ∙ ap (λ (n : ℕ). moved_by n c flags state >>= λ next. Ok (with_applied flags next plain)) (sym is)

-- a refusal of what is done first is one of all
pub refuses_on : {A B : Type 0} (first : Result A Refusal) (next : A → Result B Refusal) (whole : Result B Refusal) (fault : RecvFault) → whole ≡ (first >>= next) → TakeFault first fault → TakeFault whole fault
refuses_on first next whole (faults.Pool (pools.Plan fault)) is stops = is ∙ ap (λ r. r >>= next) stops
refuses_on first next whole (faults.Pool (pools.CannotApply fault)) is stops = stops
refuses_on first next whole (faults.Pool (pools.Redacted object block)) is stops = stops
refuses_on first next whole (faults.Pool (pools.Full need largest)) is stops = stops
refuses_on first next whole (faults.Pool (pools.Damaged sector stated found)) is stops = stops
refuses_on first next whole (faults.Pool pools.DiskFault) is stops = stops
refuses_on first next whole (faults.Pool pools.Failed) is stops = stops
refuses_on first next whole (faults.Pool pools.OutOfMemory) is stops = stops
refuses_on first next whole (faults.Stream fault) is stops = stops
refuses_on first next whole (faults.CannotApply index fault) is stops = is ∙ ap (λ r. r >>= next) stops

-- what is refused leaves the batch as it was, also over the blocks that were written
pub batch_stays : (bound : Option ℕ) (old new : DiskState) (space less : FreeSectors) (batch : batches.Batch) (plain : Batch) (flags : ℕ) (row next : Partial) (state : models.Partial) → FillsFree old space new less
    → PartialIs bound (Has old.seen space) row state → plain.stage ≡ Lives flags state → next ≡ row → IsBatch bound (Has old.seen space) batch plain
    → IsBatch bound (Has new.seen less) (record { stage = stages.Lives flags next; rolls = batch.rolls; taken = batch.taken; applied = batch.applied }) plain
batch_stays bound old new space less batch plain flags row next state fills stands stage same is = record {
  stage = subst (IsStage bound (Has new.seen less) (stages.Lives flags next)) (sym stage)
      (refl, subst (λ (r : Partial). PartialIs bound (Has new.seen less) r state) (sym same) (partial_stays bound old new space less row state fills stands));
  rolls = is.rolls;
  taken = is.taken;
  applied = is.applied;
}

-- one record more
pub one_more : (bound : Option ℕ) (has : Blocks) (batch : batches.Batch) (plain : Batch) (flags applied : ℕ) (row : Partial) (next : models.Partial) → PartialIs bound has row next → batch.rolls ≡ plain.rolls
    → batch.applied ≡ min plain.applied (2 ^ 64 - 1) → applied ≡ min (batch.applied + 1) (2 ^ 64 - 1)
    → IsBatch bound has (record { stage = stages.Lives flags row; rolls = batch.rolls; taken = true; applied = applied }) (with_applied flags next plain)
one_more bound has batch plain flags applied row next stands rolls count more = record {
  stage = (refl, stands);
  rolls = rolls;
  taken = refl;
  applied = omega arith;
}

-- END
pub ended_is : (bound : Option ℕ) (has : Blocks) (ask : RecvAsk) (running : Pool) (c : Covered) (plain : Batch) (batch : batches.Batch) (flags : ℕ) (row : Partial) (sums : List ℕ) (to : ℕ) → batch.stage ≡ stages.Lives flags row
    → c.head ≡ heads.End sums to → IsBatch bound has batch plain
    → (after : Batch) × (taken ask running c plain ≡ Ok after) × IsBatch bound has (record { stage = stages.Ends row; rolls = batch.rolls; taken = true; applied = batch.applied }) after
ended_is bound has ask running c plain batch flags row sums to stage end is =
    let under = under_way bound has batch plain flags row stage is in (
      record plain { stage = Ends under.0; taken = true },
      ap (taken_at ask running c plain) under.1 ∙ ap (went_on (running.number + 1) c flags under.0 plain) end,
      record { stage = under.2; rolls = is.rolls; taken = refl; applied = is.applied },
    )

-- ---- a pool that is under way
module _ {tight : Bool} (start now : DiskState) (space : FreeSectors) (kept : PoolState) (running : Pool) (under : IsUnderWay tight start now space kept running) where
  pub runs_now : RunsBy (bound_of tight (running.number + 1)) (Has now.seen space) kept.dir running
  runs_now =
      RunsBy-later tight running.number (running.number + 1) (omega arith) (Has now.seen space) kept.dir running
      (RunsBy-grows start.seen (free_by kept.body) now.seen space (KeepsBlocks-fills start now (free_by kept.body) space under.fills) kept.dir running under.rested.runs_by)

  -- its next commit's number fits
  pub next_number : (number : ℕ) → number ≡ min (kept.body.uber.number + 1) (2 ^ 64 - 1) → number ≡ running.number + 1
  unfolding last_number
  next_number number is =
      let same : running.number ≡ kept.body.uber.number = under.rested.rests.reads.described.number in
      let few = under.rested.lawful.number in
      omega arith
