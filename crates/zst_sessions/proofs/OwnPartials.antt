-- What a session receives stays its own in the pool.
use Rattle.std.proofs.Common.{◌≡◌, ◌≢◌, ◌⊎◌, inl, inr, ℕ, ◌+◌, Bool, true, false, not, ◌&&◌, List, [], ◌∷◌, ◌++◌, length, filter, find, Option, Some, None, is_some, Result, Ok, Err, refl, sym, ap, ◌∙◌, subst, cond, nat_lt}
use Rattle.std.specs.Prelude.{bytes_eq}
use Rattle.std.specs.Option.{option_map_or}
use Rattle.zst_laws.specs.Aborts.{AbortedGoes}
use Rattle.zst_laws.specs.HoldingSessions.{LeastIsNamed}
use Rattle.zst_laws.specs.StepInvariants.{StepsKeepPartials}
use Rattle.zst_model.proofs.OrderLaws.{bytes_same, same_bytes}
use Rattle.zst_model.specs.declared.pools.command.Command.TheVariants as commands
use Rattle.zst_model.specs.declared.refusals.plan_fault.PlanFault.{PlanFault}
use Rattle.zst_model.specs.declared.refusals.plan_fault.PlanFault.TheVariants as plans
use Rattle.zst_model.specs.declared.refusals.subjects.Name.TheVariants as names
use Rattle.zst_model.specs.declared.refusals.subjects.PresentSubject.TheVariants as present
use Rattle.zst_model.specs.declared.refusals.refusal.Refusal.{Refusal}
use Rattle.zst_model.specs.declared.refusals.refusal.Refusal.TheVariants as refusals
use Rattle.zst_model.specs.declared.refusals.faults.Quantity.TheVariants as quantities
use Rattle.zst_model.specs.declared.sends.header.Header.{Header}
use Rattle.zst_model.specs.pools.Limits.{most_partials}
use Rattle.zst_model.specs.pools.Pool.{Pool, Partial, inserted, is_before, partial_of, snapshot_named}
use Rattle.zst_model.specs.pools.Sessions.{Claims, has_claimed, session_into, unless_busy}
use Rattle.zst_model.specs.pools.Step.{Stepped, stepped, no_partial, or_else, count_datasets, most_datasets, most_snapshots}
use Rattle.zst_model.specs.states.AppliedItems.{unless, ◌>>=◌}
use Rattle.zst_model.specs.states.DatedState.{DatedState}
use Rattle.zst_model.specs.sends.Points.{point_of}
use Rattle.zst_model.proofs.FoundElements.{own_target}
use Rattle.zst_model.proofs.NameTests.{differ}
use Rattle.zst_model.proofs.Results.{bind_ok, ok_parts, unless_ok}
use Rattle.zst_apply.specs.AppliedRecords.{received_all}
use Rattle.zst_plan.specs.RecvPlan.{Base, RecvPlan, Resumes, Begins, base_for, component_for, fresh_plan, goes_on, if_contained, if_new, if_room, is_contained, is_resumed, new_datasets, outside_guid, recv_plan, redacted_for, resumed_plan, snapshot_name, wrong_resume}
use Rattle.zst_plan.specs.declared.receive.RecvAsk.{RecvAsk}
use Rattle.zst_pool.specs.Partials.{next_commit, partials_of_others, with_finished, with_partial, without_unkept}
use Rattle.zst_record.specs.declared.head.Head.{Head}
use Rattle.zst_record.specs.declared.head.Head.TheVariants as heads
use Rattle.zst_record.specs.Heads.{Covered}
use Rattle.zst_recv.proofs.CommitLemmas.{commit_is}
use Rattle.zst_reader.specs.InputReads.{stream_limit}
use Rattle.zst_recv.specs.Feeds.{fault_of, fed_piece, new_records}
use Rattle.zst_recv.specs.ReceiveSteps.{Stage, Waits, Lives, Ends, Batch, Fed, Goes, Stops, at_stage, batch_of, batch_by, began, committed, fed, first_fault, is_kept, keeps_front, left_by, moved_by, of_plan, opened, pool_of, put, put_at, settled, taken, taken_at, went_on, with_applied}
use Rattle.zst_stream.specs.Items.{items_by}
use Rattle.zst_stream.specs.Reading.{reading}
use Rattle.zst_sessions.specs.Lawfulness.{ClaimedStays, EndsLeaveOthers, FeedsLeaveOthers, FeedsStand, IsEnded, IsStanding}

-- ---- rows

-- one that fails a test isn't found where it is put in
inserted_other : (test : Partial → Bool) (before : Partial → Partial → Bool) (row : Partial) (rows : List Partial) → test row ≡ false → find test (inserted before row rows) ≡ find test rows
unfolding inserted
inserted_other test before row [] fails = ap (λ (t : Bool). cond t (Some row) None) fails
inserted_other test before row (a ∷ rest) fails = go (before row a) (inserted_other test before row rest fails)
  where
    go : (t : Bool) → find test (inserted before row rest) ≡ find test rest → find test (cond t (row ∷ a ∷ rest) (a ∷ inserted before row rest)) ≡ find test (a ∷ rest)
    go true more = ap (λ (t : Bool). cond t (Some row) (find test (a ∷ rest))) fails
    go false more = ap (λ (o : Option Partial). cond (test a) (Some a) o) more

-- and one that passes it is, where no other does
inserted_own : (test : Partial → Bool) (before : Partial → Partial → Bool) (row : Partial) (rows : List Partial) → test row ≡ true → find test rows ≡ None → find test (inserted before row rows) ≡ Some row
unfolding inserted
inserted_own test before row [] passes none = ap (λ (t : Bool). cond t (Some row) None) passes
inserted_own test before row (a ∷ rest) passes none = go (before row a) (test a) refl none (inserted_own test before row rest passes)
  where
    go : (t s : Bool) → test a ≡ s → cond s (Some a) (find test rest) ≡ None → (find test rest ≡ None → find test (inserted before row rest) ≡ Some row)
        → find test (cond t (row ∷ a ∷ rest) (a ∷ inserted before row rest)) ≡ Some row
    go true s is none on = ap (λ (t : Bool). cond t (Some row) (find test (a ∷ rest))) passes
    go false true is none on = absurd cc
    go false false is none on = ap (λ (t : Bool). cond t (Some a) (find test (inserted before row rest))) is ∙ on none

-- those that are left out don't matter to a test that they fail
left_other : (test keep : Partial → Bool) (rows : List Partial) → ((row : Partial) → keep row ≡ false → test row ≡ false) → find test (filter keep rows) ≡ find test rows
left_other test keep [] fails = refl
left_other test keep (a ∷ rest) fails = go (keep a) refl (left_other test keep rest fails)
  where
    go : (t : Bool) → keep a ≡ t → find test (filter keep rest) ≡ find test rest → find test (cond t (a ∷ filter keep rest) (filter keep rest)) ≡ find test (a ∷ rest)
    go true is more = ap (λ (o : Option Partial). cond (test a) (Some a) o) more
    go false is more = more ∙ sym (ap (λ (t : Bool). cond t (Some a) (find test rest)) (fails a is))

-- where those that pass it are left out none does
none_left : (test : Partial → Bool) (rows : List Partial) → find test (filter (λ row. not (test row)) rows) ≡ None
none_left test [] = refl
none_left test (a ∷ rest) = go (test a) refl (none_left test rest)
  where
    go : (t : Bool) → test a ≡ t → find test (filter (λ row. not (test row)) rest) ≡ None → find test (cond (not t) (a ∷ filter (λ row. not (test row)) rest) (filter (λ row. not (test row)) rest)) ≡ None
    go true is more = more
    go false is more = ap (λ (t : Bool). cond t (Some a) (find test (filter (λ row. not (test row)) rest))) is ∙ more

module _ (other target : List ℕ) (apart : other ≢ target) where
  -- a row of the one target fails the test of the other
  fails_other : (row : Partial) → bytes_eq row.target target ≡ true → bytes_eq row.target other ≡ false
  fails_other row own = differ row.target other (λ e. apart (sym e ∙ same_bytes row.target target own))

  others_stay : (pool : Pool) → find (λ (p : Partial). bytes_eq p.target other) (partials_of_others target pool) ≡ partial_of other pool
  others_stay pool = left_other (λ p. bytes_eq p.target other) (λ p. not (bytes_eq p.target target)) pool.partials (λ row left. fails_other row (go (bytes_eq row.target target) left))
    where
      go : (t : Bool) → not t ≡ false → t ≡ true
      go true e = refl
      go false e = absurd cc

  unkept_stay : (pool : Pool) → partial_of other (without_unkept target pool) ≡ partial_of other pool
  unkept_stay pool =
      left_other (λ p. bytes_eq p.target other) (λ p. not (bytes_eq p.target target && not p.keep)) pool.partials (λ row left. fails_other row (go (bytes_eq row.target target) (not row.keep) left))
    where
      go : (t s : Bool) → not (t && s) ≡ false → t ≡ true
      go true s e = refl
      go false s e = absurd cc

-- ---- stages

-- a receive's partial state is its target's
abbrev Own : RecvAsk → Stage → Type 0
Own ask Waits = Unit {0}
Own ask (Lives flags partial) = partial.target ≡ ask.target
Own ask (Ends partial) = partial.target ≡ ask.target

stands_own : (ask : RecvAsk) (stage : Stage) (pool : Pool) → IsStanding ask stage pool → Own ask stage
stands_own ask Waits pool stands = tt
stands_own ask (Lives flags partial) pool stands = own_target ask.target pool partial stands
stands_own ask (Ends partial) pool stands = absurd stands

-- a plan that goes on goes on with the target's partial state
last_of_five : (a b c d e : Bool) (p q r s t : PlanFault) (plan other : RecvPlan) → unless a p (unless b q (unless c r (unless d s (unless e t (Ok plan))))) ≡ Ok other → plan ≡ other
last_of_five true b c d e p q r s t plan other is = absurd cc
last_of_five false true c d e p q r s t plan other is = absurd cc
last_of_five false false true d e p q r s t plan other is = absurd cc
last_of_five false false false true e p q r s t plan other is = absurd cc
last_of_five false false false false true p q r s t plan other is = absurd cc
last_of_five false false false false false p q r s t plan other is = ok_parts plan other is

fresh_begins : (ask : RecvAsk) (header : Header) (component : List ℕ) (pool : Pool) (partial : Partial) → fresh_plan ask header component pool ≡ Ok (Resumes partial) → ⊥
fresh_begins ask header component pool partial e =
    let after : Base → Result RecvPlan PlanFault = λ base. if_contained base header (if_new (snapshot_name ask.target component) pool (if_room ask.target pool (Ok (Begins component base)))) in
    let a = unless_ok (is_resumed header) (plans.NoPartial ask.target) (base_for ask header pool >>= after) (Resumes partial) e in
    let b = bind_ok (base_for ask header pool) after (Resumes partial) a.1 in
    begins_not component b.0 partial
    (last_of_five (not (is_contained (redacted_for b.0.snapshot) header)) (is_some (snapshot_named (snapshot_name ask.target component) pool)) (nat_lt most_partials (length pool.partials + 1))
    (nat_lt most_datasets (count_datasets pool + new_datasets ask.target pool)) (nat_lt most_snapshots (length pool.snapshots + (length pool.partials + 1)))
    (plans.NotContained (outside_guid (redacted_for b.0.snapshot) header)) (plans.Exists (present.Named (names.Snapshot (snapshot_name ask.target component)))) (plans.Limit quantities.Partials most_partials)
    (plans.Limit quantities.Datasets most_datasets) (plans.Limit quantities.Snapshots most_snapshots) (Begins component b.0) (Resumes partial) b.2)
  where
    begins_not : (component : List ℕ) (base : Base) (partial : Partial) → Begins component base ≡ Resumes partial → ⊥
    begins_not component base partial e = cc

resumed_is : (header : Header) (old partial : Partial) → resumed_plan header old ≡ Ok (Resumes partial) → old ≡ partial
resumed_is header old partial e =
    let a = unless_ok (not (is_resumed header)) (plans.PartialExists old.target) (unless (not (goes_on old header)) (wrong_resume old header) (Ok (Resumes old))) (Resumes partial) e in
    let b = unless_ok (not (goes_on old header)) (wrong_resume old header) (Ok (Resumes old)) (Resumes partial) a.1 in
    go (ok_parts (Resumes old) (Resumes partial) b.1)
  where
    go : Resumes old ≡ Resumes partial → old ≡ partial
    go e = cc

resumes_own : (ask : RecvAsk) (header : Header) (pool : Pool) (partial : Partial) → recv_plan ask header pool ≡ Ok (Resumes partial) → partial_of ask.target pool ≡ Some partial
unfolding recv_plan
resumes_own ask header pool partial e =
    let found = bind_ok (component_for ask header) (λ component. option_map_or (resumed_plan header) (partial_of ask.target pool) (fresh_plan ask header component pool)) (Resumes partial) e in
    go (partial_of ask.target pool) found.0 found.2
  where
    go : (o : Option Partial) (component : List ℕ) → option_map_or (resumed_plan header) o (fresh_plan ask header component pool) ≡ Ok (Resumes partial) → o ≡ Some partial
    go None component e = absurd (fresh_begins ask header component pool partial e)
    go (Some old) component e = ap (λ (p : Partial). Some p) (resumed_is header old partial e)

-- ---- batches

-- what a feed has made is the target's, and where it has taken nothing it stands where it began
record OwnBatch (ask : RecvAsk) (before : Stage) (batch : Batch) : Type 0 where
  own : Own ask batch.stage
  idle : batch.taken ≡ false → batch.stage ≡ before

module _ (ask : RecvAsk) (pool : Pool) (before : Stage) where
  is_after : (batch after : Batch) → ◌≡◌ {A = Result Batch Refusal} (Ok batch) (Ok after) → OwnBatch ask before batch → OwnBatch ask before after
  is_after batch after e own = subst (OwnBatch ask before) (ok_parts batch after e) own

  opened_own : (header : Header) (plan : RecvPlan) → recv_plan ask header pool ≡ Ok plan → OwnBatch ask before (opened ask header plan)
  opened_own header (Resumes partial) e = record { own = own_target ask.target pool partial (resumes_own ask header pool partial e); idle = λ i. absurd cc }
  opened_own header (Begins component base) e = record { own = refl; idle = λ i. absurd cc }

  plan_ok : (r : Result RecvPlan PlanFault) (plan : RecvPlan) → of_plan r ≡ Ok plan → r ≡ Ok plan
  plan_ok (Ok other) plan e = cc
  plan_ok (Err fault) plan e = absurd cc

  began_own : (batch after : Batch) → OwnBatch ask before batch → (head : Head) → began ask pool batch head ≡ Ok after → OwnBatch ask before after
  began_own batch after own (heads.Begin header len) e =
      let found = bind_ok (of_plan (recv_plan ask header pool)) (λ plan. Ok (opened ask header plan)) after e in
      is_after (opened ask header found.0) after found.2 (opened_own header found.0 (plan_ok (recv_plan ask header pool) found.0 found.1))
  began_own batch after own (heads.Object object kind bonus_kind block_size bonus_len max_block to) e = is_after batch after e own
  began_own batch after own (heads.FreeObjects first many to) e = is_after batch after e own
  began_own batch after own (heads.Write object kind offset size to) e = is_after batch after e own
  began_own batch after own (heads.Free object offset size to) e = is_after batch after e own
  began_own batch after own (heads.End sums to) e = is_after batch after e own
  began_own batch after own (heads.Spill object size to) e = is_after batch after e own
  began_own batch after own (heads.Redact object offset size to) e = is_after batch after e own

  moved_own : (c : Covered) (flags : ℕ) (partial : Partial) (batch after : Batch) → partial.target ≡ ask.target
      → (moved_by (pool.number + 1) c flags partial >>= λ moved. Ok (with_applied flags moved batch)) ≡ Ok after → OwnBatch ask before after
  moved_own c flags partial batch after own e =
      let items = items_by flags c.payload c.head in
      let found = bind_ok (moved_by (pool.number + 1) c flags partial) (λ moved. Ok (with_applied flags moved batch)) after e in
      let made : DatedState → Result Partial Refusal = λ objects. Ok (record partial { objects = objects; point = point_of partial.point items }) in
      let from = bind_ok (received_all (pool.number + 1) c.index items partial.objects) made found.0 found.1 in
      let target : found.0.target ≡ partial.target = sym (ap (λ (p : Partial). p.target) (ok_parts (record partial { objects = from.0; point = point_of partial.point items }) found.0 from.2)) in
      is_after (with_applied flags found.0 batch) after found.2 (record { own = target ∙ own; idle = λ i. absurd cc })

  went_own : (c : Covered) (flags : ℕ) (partial : Partial) (batch after : Batch) → OwnBatch ask before batch → partial.target ≡ ask.target → (head : Head)
      → went_on (pool.number + 1) c flags partial batch head ≡ Ok after → OwnBatch ask before after
  went_own c flags partial batch after works own (heads.Begin header len) e = is_after batch after e works
  went_own c flags partial batch after works own (heads.Object object kind bonus_kind block_size bonus_len max_block to) e = moved_own c flags partial batch after own e
  went_own c flags partial batch after works own (heads.FreeObjects first many to) e = moved_own c flags partial batch after own e
  went_own c flags partial batch after works own (heads.Write object kind offset size to) e = moved_own c flags partial batch after own e
  went_own c flags partial batch after works own (heads.Free object offset size to) e = moved_own c flags partial batch after own e
  went_own c flags partial batch after works own (heads.End sums to) e =
      is_after (record batch { stage = Ends partial; taken = true }) after e (record { own = own; idle = λ i. absurd cc })
  went_own c flags partial batch after works own (heads.Spill object size to) e = moved_own c flags partial batch after own e
  went_own c flags partial batch after works own (heads.Redact object offset size to) e = moved_own c flags partial batch after own e

  taken_own : (c : Covered) (batch after : Batch) (stage : Stage) → batch.stage ≡ stage → OwnBatch ask before batch → taken_at ask pool c batch stage ≡ Ok after → OwnBatch ask before after
  taken_own c batch after Waits at works e = began_own batch after works c.head e
  taken_own c batch after (Lives flags partial) at works e = went_own c flags partial batch after works (subst (Own ask) at works.own) c.head e
  taken_own c batch after (Ends partial) at works e = is_after batch after e works

  batch_own : (records : List Covered) (batch : Batch) → OwnBatch ask before batch → OwnBatch ask before (batch_of ask pool records batch).batch
  unfolding batch_of
  batch_own [] batch works = works
  batch_own (c ∷ rest) batch works = go (taken ask pool c batch) refl (λ after more. batch_own rest after more)
    where
      go : (r : Result Batch Refusal) → taken ask pool c batch ≡ r → ((after : Batch) → OwnBatch ask before after → OwnBatch ask before (batch_of ask pool rest after).batch)
          → OwnBatch ask before (batch_by r batch (batch_of ask pool rest)).batch
      go (Ok after) e on = on after (taken_own c batch after batch.stage refl works e)
      go (Err refusal) e on = works

-- ---- commits

next_partials : (pool next : Pool) → next_commit pool ≡ Ok next → next.partials ≡ pool.partials
next_partials pool next e = ap (λ (p : Pool). p.partials) (commit_is pool next e)

row_before : Partial → Partial → Bool
row_before a b = is_before a.target b.target

module _ (ask : RecvAsk) (other : List ℕ) (apart : other ≢ ask.target) where
  -- the partial states of others stay through a commit
  put_others : (rolls : Bool) (stage : Stage) (pool next : Pool) → Own ask stage → put_at rolls stage pool ≡ Ok next → partial_of other next ≡ partial_of other pool
  put_others rolls Waits pool next own e = ap (partial_of other) (sym (ok_parts pool next e))
  put_others rolls (Lives flags partial) pool next own e =
      let from : other ≢ partial.target = λ is. apart (is ∙ own) in
      ap (find (λ (p : Partial). bytes_eq p.target other)) (next_partials (with_partial rolls partial pool) next e)
      ∙ inserted_other (λ p. bytes_eq p.target other) (λ a b. is_before a.target b.target) partial (partials_of_others partial.target pool) (differ partial.target other (λ is. from (sym is)))
      ∙ others_stay other partial.target from pool
  put_others rolls (Ends partial) pool next own e =
      ap (find (λ (p : Partial). bytes_eq p.target other)) (next_partials (with_finished partial pool) next e)
      ∙ others_stay other partial.target (λ is. apart (is ∙ own)) pool

  batch_others : (batch : Batch) (pool next : Pool) → Own ask batch.stage → put batch pool ≡ Ok next → partial_of other next ≡ partial_of other pool
  batch_others batch pool next own e = go batch.taken e
    where
      go : (t : Bool) → cond t (put_at batch.rolls batch.stage pool) (Ok pool) ≡ Ok next → partial_of other next ≡ partial_of other pool
      go true e = put_others batch.rolls batch.stage pool next own e
      go false e = ap (partial_of other) (sym (ok_parts pool next e))

  left_others : (stage : Stage) (pool : Pool) → Own ask stage → partial_of other (left_by stage pool) ≡ partial_of other pool
  left_others Waits pool own = refl
  left_others (Lives flags partial) pool own = unkept_stay other partial.target (λ is. apart (is ∙ own)) pool
  left_others (Ends partial) pool own = refl

  committed_others : (before : Stage) (pool : Pool) (batch : Batch) (f : Pool → Fed) → Own ask before → Own ask batch.stage → ((next : Pool) → pool_of (f next) ≡ next) → (r : Result Pool Refusal) → put batch pool ≡ r
      → partial_of other (pool_of (committed before pool r f)) ≡ partial_of other pool
  committed_others before pool batch f own works is (Ok next) e = ap (partial_of other) (is next) ∙ batch_others batch pool next works e
  committed_others before pool batch f own works is (Err refusal) e = left_others before pool own

  settled_others : (before : Stage) (pool : Pool) (batch : Batch) (fault : Option Refusal) → Own ask before → Own ask batch.stage → partial_of other (pool_of (settled before pool batch fault)) ≡ partial_of other pool
  settled_others before pool batch None own works = committed_others before pool batch (λ next. Goes next batch.stage) own works (λ next. refl) (put batch pool) refl
  settled_others before pool batch (Some refusal) own works = go (keeps_front refusal && is_kept batch.stage)
    where
      go : (t : Bool) → partial_of other (pool_of (cond t (committed before pool (put batch pool) (λ next. Stops next refusal)) (Stops (left_by before pool) refusal))) ≡ partial_of other pool
      go true = committed_others before pool batch (λ next. Stops next refusal) own works (λ next. refl) (put batch pool) refl
      go false = left_others before pool own

start_own : (ask : RecvAsk) (stage : Stage) (pool : Pool) → IsStanding ask stage pool → OwnBatch ask stage (at_stage stage)
start_own ask stage pool stands = record { own = stands_own ask stage pool stands; idle = λ i. refl }

pub feeds_leave : FeedsLeaveOthers
unfolding fed
feeds_leave ask text piece other stage pool stands apart = go (nat_lt stream_limit (length text + length piece))
  where
    records : List Covered
    records = new_records text piece

    go : (t : Bool) → partial_of other (pool_of (cond t (Stops (left_by stage pool) (refusals.Limit quantities.Stream stream_limit)) (fed_piece ask text piece stage pool))) ≡ partial_of other pool
    go true = left_others ask other apart stage pool (stands_own ask stage pool stands)
    go false =
        let done = batch_of ask pool records (at_stage stage) in
        settled_others ask other apart stage pool done.batch (first_fault done.fault (fault_of (reading (text ++ piece)).outcome)) (stands_own ask stage pool stands)
        (batch_own ask pool stage records (at_stage stage) (start_own ask stage pool stands)).own

pub ends_leave : EndsLeaveOthers
ends_leave ask other stage pool stands apart = left_others ask other apart stage pool (stands_own ask stage pool stands)

-- ---- the receive itself

-- what was committed stands in the pool
put_stands : (ask : RecvAsk) (rolls : Bool) (stage : Stage) (pool next : Pool) → Own ask stage → put_at rolls stage pool ≡ Ok next → IsEnded stage ⊎ IsStanding ask stage next
put_stands ask rolls Waits pool next own e = inr tt
put_stands ask rolls (Lives flags partial) pool next own e =
    inr (ap (λ (t : List ℕ). partial_of t next) (sym own)
    ∙ ap (find (λ (p : Partial). bytes_eq p.target partial.target)) (next_partials (with_partial rolls partial pool) next e)
    ∙ inserted_own (λ p. bytes_eq p.target partial.target) (λ a b. is_before a.target b.target) partial (partials_of_others partial.target pool) (bytes_same partial.target partial.target refl)
    (none_left (λ p. bytes_eq p.target partial.target) pool.partials))
put_stands ask rolls (Ends partial) pool next own e = inl tt

batch_stands : (ask : RecvAsk) (before : Stage) (batch : Batch) (pool next : Pool) → OwnBatch ask before batch → IsStanding ask before pool → put batch pool ≡ Ok next → IsEnded batch.stage ⊎ IsStanding ask batch.stage next
batch_stands ask before batch pool next own stands e = go batch.taken refl e
  where
    go : (t : Bool) → batch.taken ≡ t → cond t (put_at batch.rolls batch.stage pool) (Ok pool) ≡ Ok next → IsEnded batch.stage ⊎ IsStanding ask batch.stage next
    go true is e = put_stands ask batch.rolls batch.stage pool next own.own e
    go false is e =
        inr (subst (λ (s : Stage). IsStanding ask s next) (sym (own.idle is)) (subst (λ (p : Pool). IsStanding ask before p) (ok_parts pool next e) stands))

settled_stands : (ask : RecvAsk) (before after : Stage) (pool next : Pool) (batch : Batch) (fault : Option Refusal) → OwnBatch ask before batch → IsStanding ask before pool
    → settled before pool batch fault ≡ Goes next after → IsEnded after ⊎ IsStanding ask after next
settled_stands ask before after pool next batch None own stands e = go (put batch pool) refl e
  where
    same : (a b : Pool) (s t : Stage) → Goes a s ≡ Goes b t → (a ≡ b) × (s ≡ t)
    same a b s t e = (cc, cc)

    go : (r : Result Pool Refusal) → put batch pool ≡ r → committed before pool r (λ now. Goes now batch.stage) ≡ Goes next after → IsEnded after ⊎ IsStanding ask after next
    go (Ok now) is e =
        let both = same now next batch.stage after e in
        subst (λ (s : Stage). IsEnded s ⊎ IsStanding ask s next) both.1
        (subst (λ (p : Pool). IsEnded batch.stage ⊎ IsStanding ask batch.stage p) both.0 (batch_stands ask before batch pool now own stands is))
    go (Err refusal) is e = absurd cc
settled_stands ask before after pool next batch (Some refusal) own stands e = go (keeps_front refusal && is_kept batch.stage) (put batch pool) e
  where
    go : (t : Bool) (r : Result Pool Refusal) → cond t (committed before pool r (λ now. Stops now refusal)) (Stops (left_by before pool) refusal) ≡ Goes next after → IsEnded after ⊎ IsStanding ask after next
    go true (Ok now) e = absurd cc
    go true (Err other) e = absurd cc
    go false r e = absurd cc

pub feeds_stand : FeedsStand
unfolding fed
feeds_stand ask text piece stage after pool next stands e = go (nat_lt stream_limit (length text + length piece)) e
  where
    records : List Covered
    records = new_records text piece

    go : (t : Bool) → cond t (Stops (left_by stage pool) (refusals.Limit quantities.Stream stream_limit)) (fed_piece ask text piece stage pool) ≡ Goes next after → IsEnded after ⊎ IsStanding ask after next
    go true e = absurd cc
    go false e =
        let done = batch_of ask pool records (at_stage stage) in
        settled_stands ask stage after pool next done.batch (first_fault done.fault (fault_of (reading (text ++ piece)).outcome))
        (batch_own ask pool stage records (at_stage stage) (start_own ask stage pool stands)) stands e

-- ---- commands

free_to : (target : List ℕ) (o : Option Partial) (s : Option ℕ) (rest : Result Stepped Refusal) (done : Stepped) → or_else (no_partial target) o (λ partial. unless_busy s rest) ≡ Ok done → s ≡ None
free_to target None s rest done e = absurd cc
free_to target (Some partial) None rest done e = refl
free_to target (Some partial) (Some id) rest done e = absurd cc

pub claimed_stays : StepsKeepPartials → LeastIsNamed → AbortedGoes → ClaimedStays
unfolding stepped
claimed_stays keep least gone held now id target (commands.Abort other) pool done there e =
    let none : session_into other held ≡ None = free_to other (partial_of other pool) (session_into other held) _ done e in
    let fails : bytes_eq target other ≡ false = (least (has_claimed other) held).1 none (Claims id target) there in
    (gone held now other pool done e).1 target (λ same. absurd (let also = bytes_same target other same in cc))
claimed_stays keep least gone held now id target command pool done there e = ap (find (λ (p : Partial). bytes_eq p.target target)) (keep held now command pool done e)
