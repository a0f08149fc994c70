-- The records that a run of blocks puts off: how they are put off, and that the definition takes them.
use Rattle.std.proofs.Common.{◌≡◌, ℕ, suc, ◌+◌, ◌*◌, ◌^◌, ◌<◌, ◌≤◌, Bool, true, nat_lt, List, [], ◌∷◌, ◌++◌, length, take, drop, refl, sym, ap, ◌∙◌, subst, arith, Result, Ok, Err, length-drop}
use Rattle.std.proofs.lemmas.List.{drop-append-le, length-take-le, drop_all, take-append-le, take_all}
use Rattle.zst_model.specs.declared.refusals.refusal.Refusal.{Refusal}
use Rattle.zst_model.specs.declared.sends.header.Point.{Point}
use Rattle.zst_model.specs.declared.states.item.Change.TheVariants.{Write}
use Rattle.zst_model.specs.declared.states.item.Item.TheVariants.{At}
use Rattle.zst_model.specs.pools.Pool.{Partial, Pool}
use Rattle.zst_model.specs.sends.Points.{point_of}
use Rattle.zst_model.specs.sends.ReceivedRecords.{received}
use Rattle.zst_model.specs.states.AppliedItems.{◌>>=◌}
use Rattle.zst_model.specs.states.DatedState.{DatedState}
use Rattle.zst_apply.specs.AppliedRecords.{received_all}
use Rattle.zst_apply.specs.AppliedRuns.{run_received}
use Rattle.zst_plan.specs.declared.receive.RecvAsk.{RecvAsk}
use Rattle.zst_record.specs.Heads.{Covered, payload_len}
use Rattle.zst_record.specs.Decoding.{is_object}
use Rattle.zst_record.specs.RecordValues.{Fits, IsLater, WriteFits}
use Rattle.zst_stream.specs.PassedRecords.{bare_head}
use Rattle.zst_model.specs.states.State.{number_bound}
use Rattle.std.specs.Bool.{OnTrue}
use Rattle.std.proofs.lemmas.Bool.{and_parts, ltb-true}
use Rattle.zst_record.specs.declared.head.Head.{Head}
use Rattle.zst_record.specs.declared.head.Head.TheVariants as heads
use Rattle.zst_stream.specs.Items.{items_by}
use Rattle.zst_stream.specs.Reading.{closing}
use Rattle.zst_recv.specs.PutOffWrites.{StandsBetween, bytes_of, kind_in, said_of}
use Rattle.zst_recv.specs.ReceiveSteps.{Batch, EndedBatch, Lives, Stage, batch_by, batch_of, taken, with_applied}
use Rattle.zst_recv.specs.TakenRecords.{AreTaken}
use Rattle.zst_recv.specs.WriteRuns.{AreBlockWrites, IsBlockWrite}
use Rattle.zst_recv.specs.declared.block_run.BlockRun.{BlockRun}
use Rattle.std.specs.Prelude.{None, Some}
use Rattle.zst_recv.proofs.RecordEffects.{taken_is}

-- ---- one record more is put off

pub writes_none : (object size i : ℕ) → AreBlockWrites object size i [] []
unfolding AreBlockWrites
writes_none object size i = refl

-- a block's WRITE alone
pub writes_one : (object size i : ℕ) (bytes : List ℕ) (c : Covered) → IsBlockWrite object size i bytes c → AreBlockWrites object size i bytes (c ∷ [])
unfolding AreBlockWrites
writes_one object size i bytes c one =
    let all = take_all size bytes (omega (arith, one.long)) in
    (subst (λ (b : List ℕ). IsBlockWrite object size i b c) (sym all) one, drop_all size bytes (omega (arith, one.long)))

-- behind others
pub writes_more : (object size i j : ℕ) (bytes more : List ℕ) (records : List Covered) (c : Covered) → j ≡ i + length records → length bytes ≡ length records * size → AreBlockWrites object size i bytes records
    → IsBlockWrite object size j more c → AreBlockWrites object size i (bytes ++ more) (records ++ c ∷ [])
unfolding AreBlockWrites
writes_more object size i j bytes more [] c at long writes one =
    let here : j ≡ i = omega (arith, at) in
    subst (λ (b : List ℕ). AreBlockWrites object size i (b ++ more) (c ∷ [])) (sym writes) (writes_one object size i more c (subst (λ (n : ℕ). IsBlockWrite object size n more c) here one))
writes_more object size i j bytes more (x ∷ records) c at long writes one =
    let within : size ≤ length bytes = omega (arith, long) in
    let left : length (drop size bytes) ≡ length records * size = length-drop size bytes ∙ omega (arith, long) in (
      subst (λ (b : List ℕ). IsBlockWrite object size i b x) (sym (take-append-le size bytes more within)) writes.0,
      subst (λ (b : List ℕ). AreBlockWrites object size (i + 1) b (records ++ c ∷ [])) (sym (drop-append-le size bytes more within))
          (writes_more object size (i + 1) j (drop size bytes) more records c (omega (arith, at)) left writes.1 one),
    )

-- so they are of what is the same
pub writes_at : (records : List Covered) {object other size wide i j : ℕ} {bytes more : List ℕ} → object ≡ other → size ≡ wide → i ≡ j → bytes ≡ more → AreBlockWrites object size i bytes records → AreBlockWrites other wide j more records
writes_at records {object} {other} {size} {wide} {i} {j} {bytes} {more} at long from are writes =
    subst (λ (b : List ℕ). AreBlockWrites other wide j b records) are
    (subst (λ (n : ℕ). AreBlockWrites other wide n bytes records) from
    (subst (λ (n : ℕ). AreBlockWrites other n i bytes records) long
    (subst (λ (n : ℕ). AreBlockWrites n size i bytes records) at writes)))

-- a WRITE stands between BEGIN and END
pub write_between : (object size i : ℕ) (bytes : List ℕ) (c : Covered) → IsBlockWrite object size i bytes c → StandsBetween c.head
write_between object size i bytes c one = subst StandsBetween (sym one.head_is) (record { no_begin = refl; no_end = refl })

-- a WRITE whose payload is a whole block
pub block_write : (c : Covered) (object kind offset long to size i : ℕ) → c.head ≡ heads.Write object kind offset long to → length c.payload ≡ payload_len c.head → length c.payload ≡ size → offset ≡ i * size → IsBlockWrite object size i c.payload c
block_write c object kind offset long to size i head_is payload whole place =
    let same : long ≡ size = sym (payload ∙ ap payload_len head_is) ∙ whole in
    record {
      kind = kind;
      to = to;
      head_is = head_is ∙ ap (λ (n : ℕ). heads.Write object kind n long to) place ∙ ap (λ (n : ℕ). heads.Write object kind (i * size) n to) same;
      payload_is = refl;
      long = whole;
    }

-- and it names an object that may be there
pub write_fits : (features : ℕ) (head : Head) (object kind offset long to : ℕ) → head ≡ heads.Write object kind offset long to → Fits features (bare_head head) → (0 < object) × (object < 2 ^ 48)
unfolding is_object number_bound
write_fits features head object kind offset long to is fits =
    let write : WriteFits object kind offset long to = subst (λ (h : Head). Fits features (bare_head h)) is fits in
    let both = and_parts (nat_lt 0 object) (nat_lt object (2 ^ 48)) write.object_fits in
    (ltb-true 0 object both.0, ltb-true object (2 ^ 48) both.1)

pub on_true : {test : Bool} {P : Type 0} → test ≡ true → OnTrue test P → P
on_true {test} {P} is told = subst (λ (b : Bool). OnTrue b P) is told

-- the bytes that are put off are as long as it is said
pub bytes_long : (run : BlockRun) → length (bytes_of run) ≡ run.len
bytes_long run = length-take-le run.len run.bytes.items (let room = run.room in let inside = run.inside in let ok = run.bytes.ok in omega (arith, room, inside, ok))

-- ---- the definition takes them

abbrev pub taken_so : DatedState → Result DatedState Refusal
taken_so snap = Ok snap

ok_is : (one other : DatedState) → taken_so one ≡ taken_so other → one ≡ other
ok_is one other is = cc

-- what comes first of two steps that both are accepted
pub first_of_both : {A B : Type 0} (first : Result A Refusal) (next : A → Result B Refusal) (last : B) → (first >>= next) ≡ Ok last → (mid : A) × (first ≡ Ok mid) × (next mid ≡ Ok last)
first_of_both (Ok mid) next last is = (mid, refl, is)
first_of_both (Err refusal) next last is = absurd cc

-- one of them
module _ (ask : RecvAsk) (running : Pool) (number flags : ℕ) (number_is : number ≡ running.number + 1) where
  -- a partial state behind a block that was written
  abbrev written : Partial → DatedState → (object offset : ℕ) → Partial
  written state objects object offset = record state { objects = objects; point = record { object = object; offset = offset } }

  taken_one : (object size i : ℕ) (bytes : List ℕ) (c : Covered) (work : Batch) (state : Partial) (mid : DatedState) → IsBlockWrite object size i bytes c → work.stage ≡ Lives flags state
      → received number c.index (At object (Write (i * size) (kind_in c.head) bytes)) state.objects ≡ Ok mid → taken ask running c work ≡ Ok (with_applied flags (written state mid object ((i + 1) * size)) work)
  taken_one object size i bytes c work state mid one stage is =
      let later : IsLater c.head = subst IsLater (sym one.head_is) tt in
      let goes : closing c.head ≡ None = ap closing one.head_is in
      let kind : kind_in c.head ≡ one.kind = ap kind_in one.head_is in
      let says : items_by flags c.payload c.head ≡ At object (Write (i * size) one.kind bytes) ∷ [] = ap (λ (h : Head). items_by flags c.payload h) one.head_is ∙ ap (λ (b : List ℕ). At object (Write (i * size) one.kind b) ∷ []) one.payload_is in
      let gives : received number c.index (At object (Write (i * size) one.kind bytes)) state.objects ≡ Ok mid = subst (λ (k : ℕ). received number c.index (At object (Write (i * size) k bytes)) state.objects ≡ Ok mid) kind is in
      let place : i * size + length bytes ≡ (i + 1) * size = omega (arith, one.long) in
      taken_is ask running c work number flags state stage number_is later goes
      ∙ ap (λ items. (received_all number c.index items state.objects >>= λ objects. Ok (record state { objects = objects; point = point_of state.point items })) >>= λ next. Ok (with_applied flags next work)) says
      ∙ ap (λ (r : Result DatedState Refusal). ((r >>= received_all number c.index []) >>= λ objects. Ok (written state objects object (i * size + length bytes))) >>= λ next. Ok (with_applied flags next work)) gives
      ∙ ap (λ (n : ℕ). Ok (with_applied flags (written state mid object n) work)) place

  -- the work behind so many more
  abbrev pub run_work : Batch → Partial → DatedState → (object offset count : ℕ) → Batch
  run_work work state objects object offset count = record { stage = Lives flags (written state objects object offset); rolls = work.rolls; taken = true; applied = work.applied + count }

  same_work : (work : Batch) (state : Partial) (now : DatedState) (object offset count : ℕ) → work.stage ≡ Lives flags state → work.taken ≡ true → state.objects ≡ now → state.point ≡ record { object = object; offset = offset }
      → count ≡ 0 → work ≡ run_work work state now object offset count
  same_work work state now object offset count stage was objects point none =
      let same : state ≡ written state now object offset = ap (λ (o : DatedState). record state { objects = o }) objects ∙ ap (λ (p : Point). record state { objects = now; point = p }) point in
      let more : work.applied ≡ work.applied + count = omega (arith, none) in
      ap (λ (s : Stage). record work { stage = s }) (stage ∙ ap (λ (p : Partial). Lives flags p) same)
      ∙ ap (λ (t : Bool). record work { stage = Lives flags (written state now object offset); taken = t }) was
      ∙ ap (λ (n : ℕ). record work { stage = Lives flags (written state now object offset); taken = true; applied = n }) more

  module _ (object size i last : ℕ) (bytes : List ℕ) (c : Covered) (records : List Covered) (work : Batch) (state : Partial) (now : DatedState) where
    -- the first of them, and then the others
    taken_by : AreBlockWrites object size i bytes (c ∷ records) → work.stage ≡ Lives flags state → run_received number object size (i * size) (said_of (c ∷ records)) bytes state.objects ≡ Ok now
        → ((mid : DatedState) → run_received number object size ((i + 1) * size) (said_of records) (drop size bytes) mid ≡ Ok now → AreBlockWrites object size (i + 1) (drop size bytes) records
        → AreTaken ask running records (with_applied flags (written state mid object ((i + 1) * size)) work) (run_work (with_applied flags (written state mid object ((i + 1) * size)) work) (written state mid object ((i + 1) * size)) now object (last * size) (length records)))
        → AreTaken ask running (c ∷ records) work (run_work work state now object (last * size) (length (c ∷ records)))
    unfolding batch_of run_received AreBlockWrites
    taken_by writes stage is rest =
        let place : i * size + size ≡ (i + 1) * size = omega arith in
        let parts = first_of_both (received number c.index (At object (Write (i * size) (kind_in c.head) (take size bytes))) state.objects) (run_received number object size (i * size + size) (said_of records) (drop size bytes)) now is in
        let next = written state parts.0 object ((i + 1) * size) in
        let one = taken_one object size i (take size bytes) c work state parts.0 writes.0 stage parts.1 in
        let more : (work.applied + 1) + length records ≡ work.applied + suc (length records) = omega arith in
        let ended = λ (n : ℕ). let e : EndedBatch = record { batch = record { stage = Lives flags (written state now object (last * size)); rolls = work.rolls; taken = true; applied = n }; fault = None } in e in
        ap (λ (r : Result Batch Refusal). batch_by r work (batch_of ask running records)) one
        ∙ rest parts.0 (subst (λ (n : ℕ). run_received number object size n (said_of records) (drop size bytes) parts.0 ≡ Ok now) place parts.2) writes.1
        ∙ ap ended more

  -- behind others of them
  taken_rest : (object size i last : ℕ) (bytes : List ℕ) (records : List Covered) (work : Batch) (state : Partial) (now : DatedState) → last ≡ i + length records → AreBlockWrites object size i bytes records → work.stage ≡ Lives flags state
      → work.taken ≡ true → state.point ≡ record { object = object; offset = i * size } → run_received number object size (i * size) (said_of records) bytes state.objects ≡ Ok now
      → AreTaken ask running records work (run_work work state now object (last * size) (length records))
  unfolding batch_of run_received
  taken_rest object size i last bytes [] work state now at writes stage was point is =
      let here : i ≡ last = omega (arith, at) in
      let point_is : state.point ≡ record { object = object; offset = last * size } = point ∙ ap (λ (n : ℕ). let p : Point = record { object = object; offset = n * size } in p) here in
      let objects : state.objects ≡ now = ok_is state.objects now is in
      ap (λ (w : Batch). let e : EndedBatch = record { batch = w; fault = None } in e) (same_work work state now object (last * size) 0 stage was objects point_is refl)
  taken_rest object size i last bytes (c ∷ records) work state now at writes stage was point is =
      taken_by object size i last bytes c records work state now writes stage is
      (λ mid more rest. taken_rest object size (i + 1) last (drop size bytes) records (with_applied flags (written state mid object ((i + 1) * size)) work) (written state mid object ((i + 1) * size)) now (omega (arith, at)) rest refl refl refl more)

  -- all of them
  pub taken_run : (object size i last : ℕ) (bytes : List ℕ) (c : Covered) (records : List Covered) (work : Batch) (state : Partial) (now : DatedState) → last ≡ i + length (c ∷ records) → AreBlockWrites object size i bytes (c ∷ records)
      → work.stage ≡ Lives flags state → run_received number object size (i * size) (said_of (c ∷ records)) bytes state.objects ≡ Ok now
      → AreTaken ask running (c ∷ records) work (run_work work state now object (last * size) (length (c ∷ records)))
  taken_run object size i last bytes c records work state now at writes stage is =
      taken_by object size i last bytes c records work state now writes stage is
      (λ mid more rest. taken_rest object size (i + 1) last (drop size bytes) records (with_applied flags (written state mid object ((i + 1) * size)) work) (written state mid object ((i + 1) * size)) now (omega (arith, at)) rest refl refl refl more)

-- ---- the front of what was taken was taken

module _ (ask : RecvAsk) (pool : Pool) where
  front_by : (first : Result Batch Refusal) (work last : Batch) (next : Batch → EndedBatch) → batch_by first work next ≡ record { batch = last; fault = None } → (mid : Batch) × (first ≡ Ok mid) × (next mid ≡ record { batch = last; fault = None })
  front_by (Ok mid) work last next is = (mid, refl, is)
  front_by (Err refusal) work last next is = let e : Some refusal ≡ None = ap (λ (b : EndedBatch). b.fault) is in absurd (cc e)

  pub front_taken : (records more : List Covered) (work last : Batch) → AreTaken ask pool (records ++ more) work last → (mid : Batch) × AreTaken ask pool records work mid × AreTaken ask pool more mid last
  unfolding batch_of
  front_taken [] more work last is = (work, refl, is)
  front_taken (c ∷ records) more work last is =
      let parts = front_by (taken ask pool c work) work last (batch_of ask pool (records ++ more)) is in
      let rest = front_taken records more parts.0 last parts.2 in
      (rest.0, ap (λ (r : Result Batch Refusal). batch_by r work (batch_of ask pool records)) parts.1 ∙ rest.1, rest.2)
