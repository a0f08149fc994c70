-- What a receive has made of the records that it took, whatever they are.
use Rattle.std.proofs.Common.{◌≡◌, ℕ, ◌+◌, List, [], ◌∷◌, ◌++◌, None, Result, Ok, Err, refl, sym, ap, ◌∙◌, subst, append_assoc, append-nil}
use Rattle.zst_laws.specs.ReceivedRecords.{ReceivedIsApplied}
use Rattle.zst_model.specs.declared.refusals.refusal.Refusal.{Refusal}
use Rattle.zst_model.specs.declared.sends.header.Header.{Header}
use Rattle.zst_model.specs.declared.sends.header.Point.{Point}
use Rattle.zst_model.specs.declared.states.item.Item.{Item}
use Rattle.zst_model.specs.pools.Pool.{Pool, Partial}
use Rattle.zst_model.specs.sends.Points.{point_of}
use Rattle.zst_model.specs.states.AppliedItems.{apply_all, ◌>>=◌}
use Rattle.zst_model.proofs.Points.{point_of-append}
use Rattle.zst_model.proofs.Results.{bind_ok, ok_parts}
use Rattle.zst_plan.specs.RecvPlan.{RecvPlan, Begins, Resumes, recv_plan}
use Rattle.zst_plan.specs.declared.receive.RecvAsk.{RecvAsk}
use Rattle.zst_record.specs.declared.head.Head.{Head}
use Rattle.zst_record.specs.declared.head.Head.TheVariants as heads
use Rattle.zst_record.specs.Heads.{Covered}
use Rattle.zst_stream.specs.Items.{items_by, items_of}
use Rattle.zst_stream.specs.PassedRecords.{IsBegin}
use Rattle.zst_stream.proofs.ItemStreams.{say_append}
use Rattle.zst_recv.specs.ReceiveSteps.{Stage, Waits, Lives, Ends, Batch, batch_of, batch_by, began, begun, moved_by, of_plan, opened, taken, taken_at, went_on, with_applied}
use Rattle.zst_replication.specs.Resumption.{AppliedBehind}
use Rattle.zst_replication.proofs.RecordEffects.{all_applied, applied_on, moves}
use Rattle.zst_replication.proofs.FirstRecords.{FirstIsBegin}
use Rattle.zst_replication.proofs.Results.{plan_ok}
use Rattle.zst_replication.proofs.StreamRecords.{IsEnd}

-- so it is behind those up to END; what stands behind END isn't taken
pub record BehindEnd (ask : RecvAsk) (start : Pool) (records : List Covered) (partial : Partial) : Type 0 where
  pub flags : ℕ
  pub front : List Covered
  pub last : Covered
  pub more : List Covered
  pub records_are : records ≡ front ++ last ∷ more
  pub ends : IsEnd last.head
  pub behind : AppliedBehind ask start front flags partial

-- where a receive stands behind these records
abbrev pub Applied : RecvAsk → Pool → Pool → Stage → List Covered → Type 0
Applied ask start pool Waits records = (pool ≡ start) × (records ≡ [])
Applied ask start pool (Lives flags partial) records = AppliedBehind ask start records flags partial
Applied ask start pool (Ends partial) records = BehindEnd ask start records partial

pub ended_more : (ask : RecvAsk) (start : Pool) (records others : List Covered) (partial : Partial) → BehindEnd ask start records partial → BehindEnd ask start (records ++ others) partial
ended_more ask start records others partial ended = record {
  flags = ended.flags;
  front = ended.front;
  last = ended.last;
  more = ended.more ++ others;
  records_are = ap (λ (cs : List Covered). cs ++ others) ended.records_are ∙ append_assoc ended.front (ended.last ∷ ended.more) others;
  ends = ended.ends;
  behind = ended.behind;
}

module _ (law : ReceivedIsApplied) (ask : RecvAsk) (start pool : Pool) where
  -- ---- BEGIN

  begun_behind : (c : Covered) (header : Header) (len : ℕ) (plan : RecvPlan) (first : Partial) → c.head ≡ heads.Begin header len → recv_plan ask header start ≡ Ok plan
      → (opened ask header plan).stage ≡ Lives header.flags first → AppliedBehind ask start (c ∷ []) header.flags first
  begun_behind c header len plan first head planned opens =
      let none : items_of header.flags (c ∷ []) ≡ [] = ap (λ (h : Head). items_by header.flags c.payload h ++ []) head in
      record {
        is = record {
          header = header;
          plan = plan;
          planned = planned;
          begun = first;
          begins = opens;
          objects = ap (λ (is : List Item). apply_all is first.objects.state) none;
          reached = sym (ap (point_of first.point) none);
          stays = refl;
        };
        first = c;
        rest = [];
        len = len;
        records_are = refl;
        head_is = head;
      }

  opened_applied : (c : Covered) (header : Header) (len : ℕ) (plan : RecvPlan) → c.head ≡ heads.Begin header len → recv_plan ask header start ≡ Ok plan
      → Applied ask start pool (opened ask header plan).stage (c ∷ [])
  opened_applied c header len (Resumes old) head planned = begun_behind c header len (Resumes old) old head planned refl
  opened_applied c header len (Begins component base) head planned = begun_behind c header len (Begins component base) (begun ask header component base) head planned refl

  began_applied : (c : Covered) (batch after : Batch) (head : Head) → c.head ≡ head → IsBegin head → pool ≡ start → began ask pool batch head ≡ Ok after → Applied ask start pool after.stage (c ∷ [])
  began_applied c batch after (heads.Begin header len) head is same e =
      let found = bind_ok (of_plan (recv_plan ask header pool)) (λ plan. Ok (opened ask header plan)) after e in
      subst (λ (w : Batch). Applied ask start pool w.stage (c ∷ [])) (ok_parts _ _ found.2)
      (opened_applied c header len found.0 head (subst (λ (p : Pool). recv_plan ask header p ≡ Ok found.0) same (plan_ok _ found.0 found.1)))
  began_applied c batch after (heads.Object object kind bonus_kind block_size bonus_len max_block to) head is same e = absurd is
  began_applied c batch after (heads.FreeObjects first count to) head is same e = absurd is
  began_applied c batch after (heads.Write object kind offset size to) head is same e = absurd is
  began_applied c batch after (heads.Free object offset size to) head is same e = absurd is
  began_applied c batch after (heads.End sums to) head is same e = absurd is
  began_applied c batch after (heads.Spill object size to) head is same e = absurd is
  began_applied c batch after (heads.Redact object offset size to) head is same e = absurd is

  -- ---- the records behind it

  -- one record more
  pub behind_on : (c : Covered) (records : List Covered) (flags : ℕ) (partial next : Partial) → AppliedBehind ask start records flags partial
      → apply_all (items_by flags c.payload c.head) partial.objects.state ≡ Ok next.objects.state → next.point ≡ point_of partial.point (items_by flags c.payload c.head)
      → next ≡ record partial { objects = next.objects; point = next.point } → AppliedBehind ask start (records ++ c ∷ []) flags next
  behind_on c records flags partial next behind applied point further =
      let done = items_of flags records in
      let said = items_by flags c.payload c.head in
      let all : items_of flags (records ++ c ∷ []) ≡ done ++ said = say_append flags records (c ∷ []) ∙ ap (λ (is : List Item). done ++ is) (append-nil said) in
      record {
        is = record {
          header = behind.is.header;
          plan = behind.is.plan;
          planned = behind.is.planned;
          begun = behind.is.begun;
          begins = behind.is.begins;
          objects =
              ap (λ (is : List Item). apply_all is behind.is.begun.objects.state) all
              ∙ applied_on done said behind.is.begun.objects.state partial.objects.state next.objects.state behind.is.objects applied;
          reached =
              point ∙ ap (λ (at : Point). point_of at said) behind.is.reached ∙ sym (point_of-append behind.is.begun.point done said)
              ∙ sym (ap (point_of behind.is.begun.point) all);
          stays = further ∙ ap (λ (p : Partial). record p { objects = next.objects; point = next.point }) behind.is.stays;
        };
        first = behind.first;
        rest = behind.rest ++ c ∷ [];
        len = behind.len;
        records_are = ap (λ (cs : List Covered). cs ++ c ∷ []) behind.records_are;
        head_is = behind.head_is;
      }

  moved_applied : (c : Covered) (records : List Covered) (flags : ℕ) (partial : Partial) (batch after : Batch) → AppliedBehind ask start records flags partial
      → (moved_by (pool.number + 1) c flags partial >>= λ next. Ok (with_applied flags next batch)) ≡ Ok after → Applied ask start pool after.stage (records ++ c ∷ [])
  moved_applied c records flags partial batch after behind e =
      let found = bind_ok (moved_by (pool.number + 1) c flags partial) (λ next. Ok (with_applied flags next batch)) after e in
      let moved = moves (pool.number + 1) c flags partial found.0 found.1 in
      subst (λ (w : Batch). Applied ask start pool w.stage (records ++ c ∷ [])) (ok_parts _ _ found.2)
      (behind_on c records flags partial found.0 behind
      (all_applied law (pool.number + 1) c.index (items_by flags c.payload c.head) partial.objects found.0.objects moved.objects) moved.point moved.further)

  went_applied : (c : Covered) (records : List Covered) (flags : ℕ) (partial : Partial) (batch after : Batch) (head : Head) → c.head ≡ head → batch.stage ≡ Lives flags partial
      → AppliedBehind ask start records flags partial → went_on (pool.number + 1) c flags partial batch head ≡ Ok after → Applied ask start pool after.stage (records ++ c ∷ [])
  went_applied c records flags partial batch after (heads.Begin header len) head is behind e =
      let none : items_by flags c.payload c.head ≡ [] = ap (items_by flags c.payload) head in
      subst (λ (s : Stage). Applied ask start pool s (records ++ c ∷ [])) (sym is ∙ ap (λ (w : Batch). w.stage) (ok_parts _ _ e))
      (behind_on c records flags partial partial behind (ap (λ (is : List Item). apply_all is partial.objects.state) none) (sym (ap (point_of partial.point) none)) refl)
  went_applied c records flags partial batch after (heads.End sums to) head is behind e =
      subst (λ (w : Batch). Applied ask start pool w.stage (records ++ c ∷ [])) (ok_parts _ _ e)
      (record { flags = flags; front = records; last = c; more = []; records_are = refl; ends = subst (λ (h : Head). IsEnd h) (sym head) tt; behind = behind })
  went_applied c records flags partial batch after (heads.Object object kind bonus_kind block_size bonus_len max_block to) head is behind e = moved_applied c records flags partial batch after behind e
  went_applied c records flags partial batch after (heads.FreeObjects first count to) head is behind e = moved_applied c records flags partial batch after behind e
  went_applied c records flags partial batch after (heads.Write object kind offset size to) head is behind e = moved_applied c records flags partial batch after behind e
  went_applied c records flags partial batch after (heads.Free object offset size to) head is behind e = moved_applied c records flags partial batch after behind e
  went_applied c records flags partial batch after (heads.Spill object size to) head is behind e = moved_applied c records flags partial batch after behind e
  went_applied c records flags partial batch after (heads.Redact object offset size to) head is behind e = moved_applied c records flags partial batch after behind e

  pub taken_applied : (c : Covered) (records : List Covered) (batch after : Batch) (stage : Stage) → batch.stage ≡ stage → (records ≡ [] → IsBegin c.head) → Applied ask start pool stage records
      → taken_at ask pool c batch stage ≡ Ok after → Applied ask start pool after.stage (records ++ c ∷ [])
  taken_applied c records batch after Waits is begins applied e =
      subst (λ (cs : List Covered). Applied ask start pool after.stage (cs ++ c ∷ [])) (sym applied.1) (began_applied c batch after c.head refl (begins applied.1) applied.0 e)
  taken_applied c records batch after (Lives flags partial) is begins behind e = went_applied c records flags partial batch after c.head refl is behind e
  taken_applied c records batch after (Ends partial) is begins ended e =
      subst (λ (s : Stage). Applied ask start pool s (records ++ c ∷ [])) (sym is ∙ ap (λ (w : Batch). w.stage) (ok_parts _ _ e)) (ended_more ask start records (c ∷ []) partial ended)

  -- ---- all records of a feed

  pub batch_applied : (done records : List Covered) (batch : Batch) → FirstIsBegin (done ++ records) → Applied ask start pool batch.stage done → (batch_of ask pool records batch).fault ≡ None
      → Applied ask start pool (batch_of ask pool records batch).batch.stage (done ++ records)
  unfolding batch_of
  batch_applied done [] batch begins applied free = subst (λ (cs : List Covered). Applied ask start pool batch.stage cs) (sym (append-nil done)) applied
  batch_applied done (c ∷ rest) batch begins applied free =
      let same = append_assoc done (c ∷ []) rest in
      go (taken ask pool c batch) refl (λ after more f.
      subst (λ (cs : List Covered). Applied ask start pool (batch_of ask pool rest after).batch.stage cs) same
      (batch_applied (done ++ c ∷ []) rest after (subst (λ (cs : List Covered). FirstIsBegin cs) (sym same) begins) more f)) free
    where
      go : (r : Result Batch Refusal) → taken ask pool c batch ≡ r
          → ((after : Batch) → Applied ask start pool after.stage (done ++ c ∷ []) → (batch_of ask pool rest after).fault ≡ None → Applied ask start pool (batch_of ask pool rest after).batch.stage (done ++ c ∷ rest))
          → (batch_by r batch (batch_of ask pool rest)).fault ≡ None → Applied ask start pool (batch_by r batch (batch_of ask pool rest)).batch.stage (done ++ c ∷ rest)
      go (Ok after) e on f = on after (taken_applied c done batch after batch.stage refl (λ none. subst (λ (cs : List Covered). FirstIsBegin (cs ++ c ∷ rest)) none begins) applied e) f
      go (Err refusal) e on f = absurd cc

  -- those up to the first that is refused are some of the first of these
  pub record AppliedFront (all : List Covered) (stage : Stage) : Type 0 where
    pub front : List Covered
    pub left : List Covered
    pub split : front ++ left ≡ all
    pub applied : Applied ask start pool stage front

  pub batch_somewhere : (done records : List Covered) (batch : Batch) → FirstIsBegin (done ++ records) → Applied ask start pool batch.stage done
      → AppliedFront (done ++ records) (batch_of ask pool records batch).batch.stage
  unfolding batch_of
  batch_somewhere done [] batch begins applied = record { front = done; left = []; split = refl; applied = applied }
  batch_somewhere done (c ∷ rest) batch begins applied =
      let same = append_assoc done (c ∷ []) rest in
      go (taken ask pool c batch) refl (λ after more.
      subst (λ (cs : List Covered). AppliedFront cs (batch_of ask pool rest after).batch.stage) same
      (batch_somewhere (done ++ c ∷ []) rest after (subst (λ (cs : List Covered). FirstIsBegin cs) (sym same) begins) more))
    where
      go : (r : Result Batch Refusal) → taken ask pool c batch ≡ r
          → ((after : Batch) → Applied ask start pool after.stage (done ++ c ∷ []) → AppliedFront (done ++ c ∷ rest) (batch_of ask pool rest after).batch.stage)
          → AppliedFront (done ++ c ∷ rest) (batch_by r batch (batch_of ask pool rest)).batch.stage
      go (Ok after) e on = on after (taken_applied c done batch after batch.stage refl (λ none. subst (λ (cs : List Covered). FirstIsBegin (cs ++ c ∷ rest)) none begins) applied e)
      go (Err refusal) e on = record { front = done; left = c ∷ rest; split = refl; applied = applied }
