-- The pool that runs while a receive is under way, whatever it reads.
use Rattle.std.proofs.Common.{◌≡◌, ◌⊎◌, inl, inr, ℕ, ◌+◌, ◌<◌, Bool, true, false, List, [], ◌∷◌, ◌++◌, map, Option, Some, None, is_some, Result, Ok, Err, refl, sym, ap, ◌∙◌, subst, cond, find, arith}
use Rattle.std.specs.Prelude.{bytes_eq}
use Rattle.std.specs.Option.{option_map_or}
use Rattle.zst_model.proofs.OrderLaws.{bytes_same}
use Rattle.zst_model.specs.declared.refusals.refusal.Refusal.{Refusal}
use Rattle.zst_model.specs.declared.sends.header.Header.{Header}
use Rattle.zst_model.specs.pools.Pool.{Pool, Dataset, Snapshot, Partial, partial_of, inserted, is_before, snapshot_is_before}
use Rattle.zst_model.specs.states.AppliedItems.{◌>>=◌}
use Rattle.zst_model.proofs.FoundElements.{own_target}
use Rattle.zst_model.proofs.Results.{bind_ok, ok_parts}
use Rattle.zst_plan.specs.RecvPlan.{RecvPlan, recv_plan}
use Rattle.zst_plan.specs.declared.receive.RecvAsk.{RecvAsk}
use Rattle.zst_pool.specs.Partials.{changed_at, dataset_from, head_from, partial_finished, partial_put, partials_of_others, rolled_back, with_finished, with_partial}
use Rattle.zst_record.specs.declared.head.Head.{Head}
use Rattle.zst_record.specs.declared.head.Head.TheVariants as heads
use Rattle.zst_record.specs.Heads.{Covered}
use Rattle.zst_recv.proofs.CommitLemmas.{commit_is}
use Rattle.zst_recv.specs.Answers.{is_done}
use Rattle.zst_recv.specs.ReceiveSteps.{Stage, Waits, Lives, Ends, Batch, at_stage, batch_of, batch_by, began, moved_by, of_plan, opened, put, put_at, taken, taken_at, went_on, with_applied}
use Rattle.zst_replication.specs.KeptReceives.{keep_by}
use Rattle.zst_replication.proofs.RecordEffects.{moves}
use Rattle.zst_replication.proofs.ReceivePlans.{base_there, begins_anew, resumes}
use Rattle.zst_replication.proofs.Results.{plan_ok}
use Rattle.zst_replication.proofs.Rows.{none_left, others_inserted}

-- ---- the pools

-- a receive may roll the target's head back: that was asked, and the target has no partial state
abbrev pub MayRoll : RecvAsk → Pool → Type 0
MayRoll ask start = (ask.force ≡ true) × (partial_of ask.target start ≡ None)

-- the datasets that a receive began with: as they were, or with the head rolled back
abbrev pub Heads : RecvAsk → Pool → List Dataset → Type 0
Heads ask start datasets = (datasets ≡ start.datasets) ⊎ (MayRoll ask start × (datasets ≡ rolled_back ask.target start))

abbrev pub row_before : Partial → Partial → Bool
row_before a b = is_before a.target b.target

-- the pool with this partial state of the target, in place of one that it had
pub record AddsPartial (ask : RecvAsk) (start pool : Pool) (partial : Partial) : Type 0 where
  pub number : ℕ
  pub datasets : List Dataset
  pub later : start.number < number
  pub heads : Heads ask start datasets
  pub pool_is : pool ≡ record start { number = number; datasets = datasets; partials = inserted row_before partial (partials_of_others ask.target start) }

-- the datasets with the head that a partial state becomes
abbrev pub finished_datasets : Partial → List Dataset → List Dataset
finished_datasets partial datasets =
    cond (is_some (find (λ dataset. bytes_eq dataset.name partial.target) datasets)) (map (changed_at partial.target (head_from partial)) datasets)
    (inserted (λ a b. is_before a.name b.name) (dataset_from partial) datasets)

abbrev pub finished_snapshot : ℕ → Partial → Snapshot
finished_snapshot number partial = record {
  name = partial.target ++ 64 ∷ partial.component;
  guid = partial.header.to;
  time = partial.header.time;
  number = number;
  objects = partial.objects;
  redact = partial.header.redact;
}

-- the pool with a snapshot more, and without a partial state of the target
pub record Finished (ask : RecvAsk) (start pool : Pool) (partial : Partial) : Type 0 where
  pub number : ℕ
  pub datasets : List Dataset
  pub later : start.number < number
  pub heads : Heads ask start datasets
  pub pool_is : pool ≡ record start {
    number = number;
    datasets = finished_datasets partial datasets;
    snapshots = inserted snapshot_is_before (finished_snapshot number partial) start.snapshots;
    partials = partials_of_others ask.target start;
  }

-- the pool by where a receive stands
abbrev pub Runs : RecvAsk → Pool → Stage → Pool → Type 0
Runs ask start Waits pool = pool ≡ start
Runs ask start (Lives flags partial) pool = AddsPartial ask start pool partial
Runs ask start (Ends partial) pool = Finished ask start pool partial

-- a partial state of such a receive
pub record IsAsked (ask : RecvAsk) (start : Pool) (partial : Partial) : Type 0 where
  pub target : partial.target ≡ ask.target
  pub keep : partial.keep ≡ keep_by ask start

abbrev pub Asked : RecvAsk → Pool → Stage → Type 0
Asked ask start Waits = Unit {0}
Asked ask start (Lives flags partial) = IsAsked ask start partial
Asked ask start (Ends partial) = IsAsked ask start partial

-- ---- the batch of a feed

-- what a feed has done so far
pub record Worked (ask : RecvAsk) (start : Pool) (before : Stage) (batch : Batch) : Type 0 where
  pub asked : Asked ask start batch.stage
  pub rolls : batch.rolls ≡ true → MayRoll ask start × (before ≡ Waits)
  pub idle : batch.taken ≡ false → batch.stage ≡ before
  pub waits : batch.stage ≡ Waits → before ≡ Waits

pub nothing_worked : (ask : RecvAsk) (start : Pool) (stage : Stage) → Asked ask start stage → Worked ask start stage (at_stage stage)
nothing_worked ask start stage asked = record { asked = asked; rolls = λ r. absurd cc; idle = λ i. refl; waits = λ w. w }

module _ (ask : RecvAsk) (start pool : Pool) (before : Stage) (same : before ≡ Waits → pool ≡ start) where
  -- a receive that begins afresh, and one that goes on
  fresh_worked : (header : Header) (plan : RecvPlan) → before ≡ Waits → partial_of ask.target start ≡ None → recv_plan ask header start ≡ Ok plan → Worked ask start before (opened ask header plan)
  fresh_worked header plan waited none planned =
      let fresh = begins_anew ask header start plan none planned in
      let good = base_there ask header start fresh.base fresh.based in
      let kept : ask.keep ≡ keep_by ask start = sym (ap (λ (o : Option Partial). option_map_or (λ old. old.keep) o ask.keep) none) in
      subst (λ (p : RecvPlan). Worked ask start before (opened ask header p)) (sym fresh.plan_is)
      (record { asked = record { target = refl; keep = kept }; rolls = λ r. ((good.rolls r, none), waited); idle = λ i. absurd cc; waits = λ w. absurd cc })

  resumed_worked : (header : Header) (plan : RecvPlan) (old : Partial) → partial_of ask.target start ≡ Some old → recv_plan ask header start ≡ Ok plan → Worked ask start before (opened ask header plan)
  resumed_worked header plan old found planned =
      let kept : old.keep ≡ keep_by ask start = sym (ap (λ (o : Option Partial). option_map_or (λ old. old.keep) o ask.keep) found) in
      subst (λ (p : RecvPlan). Worked ask start before (opened ask header p)) (sym (resumes ask header start old plan found planned))
      (record { asked = record { target = own_target ask.target start old found; keep = kept }; rolls = λ r. absurd cc; idle = λ i. absurd cc; waits = λ w. absurd cc })

  opened_worked : (header : Header) (plan : RecvPlan) → before ≡ Waits → recv_plan ask header pool ≡ Ok plan → Worked ask start before (opened ask header plan)
  opened_worked header plan waited planned = go (partial_of ask.target start) refl (subst (λ (p : Pool). recv_plan ask header p ≡ Ok plan) (same waited) planned)
    where
      go : (o : Option Partial) → partial_of ask.target start ≡ o → recv_plan ask header start ≡ Ok plan → Worked ask start before (opened ask header plan)
      go None none at_start = fresh_worked header plan waited none at_start
      go (Some old) found at_start = resumed_worked header plan old found at_start

  began_worked : (batch after : Batch) (head : Head) → Worked ask start before batch → batch.stage ≡ Waits → began ask pool batch head ≡ Ok after → Worked ask start before after
  began_worked batch after (heads.Begin header len) worked waiting e =
      let found = bind_ok (of_plan (recv_plan ask header pool)) (λ plan. Ok (opened ask header plan)) after e in
      subst (λ (w : Batch). Worked ask start before w) (ok_parts _ _ found.2) (opened_worked header found.0 (worked.waits waiting) (plan_ok _ found.0 found.1))
  began_worked batch after (heads.Object object kind bonus_kind block_size bonus_len max_block to) worked waiting e = subst (λ (w : Batch). Worked ask start before w) (ok_parts _ _ e) worked
  began_worked batch after (heads.FreeObjects first many to) worked waiting e = subst (λ (w : Batch). Worked ask start before w) (ok_parts _ _ e) worked
  began_worked batch after (heads.Write object kind offset size to) worked waiting e = subst (λ (w : Batch). Worked ask start before w) (ok_parts _ _ e) worked
  began_worked batch after (heads.Free object offset size to) worked waiting e = subst (λ (w : Batch). Worked ask start before w) (ok_parts _ _ e) worked
  began_worked batch after (heads.End sums to) worked waiting e = subst (λ (w : Batch). Worked ask start before w) (ok_parts _ _ e) worked
  began_worked batch after (heads.Spill object size to) worked waiting e = subst (λ (w : Batch). Worked ask start before w) (ok_parts _ _ e) worked
  began_worked batch after (heads.Redact object offset size to) worked waiting e = subst (λ (w : Batch). Worked ask start before w) (ok_parts _ _ e) worked

  moved_worked : (batch after : Batch) (c : Covered) (flags : ℕ) (partial : Partial) → Worked ask start before batch → IsAsked ask start partial
      → (moved_by (pool.number + 1) c flags partial >>= λ moved. Ok (with_applied flags moved batch)) ≡ Ok after → Worked ask start before after
  moved_worked batch after c flags partial worked asked e =
      let found = bind_ok (moved_by (pool.number + 1) c flags partial) (λ moved. Ok (with_applied flags moved batch)) after e in
      let further = (moves (pool.number + 1) c flags partial found.0 found.1).further in
      subst (λ (w : Batch). Worked ask start before w) (ok_parts _ _ found.2)
      (record {
        asked = record { target = ap (λ (p : Partial). p.target) further ∙ asked.target; keep = ap (λ (p : Partial). p.keep) further ∙ asked.keep };
        rolls = worked.rolls;
        idle = λ i. absurd cc;
        waits = λ w. absurd cc;
      })

  went_worked : (batch after : Batch) (c : Covered) (flags : ℕ) (partial : Partial) (head : Head) → Worked ask start before batch → IsAsked ask start partial
      → went_on (pool.number + 1) c flags partial batch head ≡ Ok after → Worked ask start before after
  went_worked batch after c flags partial (heads.Begin header len) worked asked e = subst (λ (w : Batch). Worked ask start before w) (ok_parts _ _ e) worked
  went_worked batch after c flags partial (heads.Object object kind bonus_kind block_size bonus_len max_block to) worked asked e = moved_worked batch after c flags partial worked asked e
  went_worked batch after c flags partial (heads.FreeObjects first many to) worked asked e = moved_worked batch after c flags partial worked asked e
  went_worked batch after c flags partial (heads.Write object kind offset size to) worked asked e = moved_worked batch after c flags partial worked asked e
  went_worked batch after c flags partial (heads.Free object offset size to) worked asked e = moved_worked batch after c flags partial worked asked e
  went_worked batch after c flags partial (heads.End sums to) worked asked e =
      subst (λ (w : Batch). Worked ask start before w) (ok_parts _ _ e)
      (record { asked = asked; rolls = worked.rolls; idle = λ i. absurd cc; waits = λ w. absurd cc })
  went_worked batch after c flags partial (heads.Spill object size to) worked asked e = moved_worked batch after c flags partial worked asked e
  went_worked batch after c flags partial (heads.Redact object offset size to) worked asked e = moved_worked batch after c flags partial worked asked e

  taken_worked : (c : Covered) (batch after : Batch) (stage : Stage) → batch.stage ≡ stage → Worked ask start before batch → taken_at ask pool c batch stage ≡ Ok after → Worked ask start before after
  taken_worked c batch after Waits is worked e = began_worked batch after c.head worked is e
  taken_worked c batch after (Lives flags partial) is worked e = went_worked batch after c flags partial c.head worked (subst (λ (s : Stage). Asked ask start s) is worked.asked) e
  taken_worked c batch after (Ends partial) is worked e = subst (λ (w : Batch). Worked ask start before w) (ok_parts _ _ e) worked

  pub batch_worked : (records : List Covered) (batch : Batch) → Worked ask start before batch → Worked ask start before (batch_of ask pool records batch).batch
  unfolding batch_of
  batch_worked [] batch worked = worked
  batch_worked (c ∷ rest) batch worked = go (taken ask pool c batch) refl (λ after more. batch_worked rest after more)
    where
      go : (r : Result Batch Refusal) → taken ask pool c batch ≡ r → ((after : Batch) → Worked ask start before after → Worked ask start before (batch_of ask pool rest after).batch)
          → Worked ask start before (batch_by r batch (batch_of ask pool rest)).batch
      go (Ok after) e on = on after (taken_worked c batch after batch.stage refl worked e)
      go (Err refusal) e on = worked

-- behind END nothing is taken
pub batch_ended : (ask : RecvAsk) (pool : Pool) (records : List Covered) (partial : Partial) → batch_of ask pool records (at_stage (Ends partial)) ≡ record { batch = at_stage (Ends partial); fault = None }
unfolding batch_of
batch_ended ask pool [] partial = refl
batch_ended ask pool (c ∷ rest) partial = batch_ended ask pool rest partial

-- ---- the commit

module _ (ask : RecvAsk) (start : Pool) where
  -- what a receive has under way is the target's only partial state
  pub others_under : (partial other : Partial) (pool : Pool) → partial.target ≡ ask.target → other.target ≡ ask.target → AddsPartial ask start pool other → partials_of_others partial.target pool ≡ partials_of_others ask.target start
  others_under partial other pool own also under =
      ap (λ (t : List ℕ). partials_of_others t pool) own
      ∙ ap (λ (p : Pool). partials_of_others ask.target p) under.pool_is
      ∙ others_inserted (λ (p : Partial). bytes_eq p.target ask.target) row_before other (partials_of_others ask.target start) (bytes_same other.target ask.target also)
      (none_left (λ (p : Partial). bytes_eq p.target ask.target) start.partials)

  -- a first commit
  put_first : (rolls : Bool) (partial : Partial) (next : Pool) → partial.target ≡ ask.target → (rolls ≡ true → MayRoll ask start) → partial_put rolls partial start ≡ Ok next → AddsPartial ask start next partial
  put_first rolls partial next own may e = record {
    number = start.number + 1;
    datasets = cond rolls (rolled_back partial.target start) start.datasets;
    later = omega arith;
    heads = go rolls may;
    pool_is =
        commit_is (with_partial rolls partial start) next e
        ∙ ap (λ (t : List ℕ). record start { number = start.number + 1; datasets = cond rolls (rolled_back partial.target start) start.datasets; partials = inserted row_before partial (partials_of_others t start) }) own;
  }
    where
      go : (t : Bool) → (t ≡ true → MayRoll ask start) → Heads ask start (cond t (rolled_back partial.target start) start.datasets)
      go true may = inr (may refl, ap (λ (t : List ℕ). rolled_back t start) own)
      go false may = inl refl

  -- and a later one
  put_again : (partial other : Partial) (pool next : Pool) → partial.target ≡ ask.target → other.target ≡ ask.target → AddsPartial ask start pool other → partial_put false partial pool ≡ Ok next → AddsPartial ask start next partial
  put_again partial other pool next own also under e = record {
    number = pool.number + 1;
    datasets = under.datasets;
    later = let same : pool.number ≡ under.number = ap (λ (p : Pool). p.number) under.pool_is in omega (arith, same, under.later);
    heads = under.heads;
    pool_is =
        commit_is (with_partial false partial pool) next e
        ∙ ap (λ (ps : List Partial). record pool { number = pool.number + 1; partials = inserted row_before partial ps }) (others_under partial other pool own also under)
        ∙ ap (λ (p : Pool). record p { number = pool.number + 1; partials = inserted row_before partial (partials_of_others ask.target start) }) under.pool_is;
  }

  -- END
  finish_first : (partial : Partial) (next : Pool) → partial.target ≡ ask.target → partial_finished partial start ≡ Ok next → Finished ask start next partial
  finish_first partial next own e = record {
    number = start.number + 1;
    datasets = start.datasets;
    later = omega arith;
    heads = inl refl;
    pool_is =
        commit_is (with_finished partial start) next e
        ∙ ap (λ (t : List ℕ). record start {
          number = start.number + 1;
          datasets = finished_datasets partial start.datasets;
          snapshots = inserted snapshot_is_before (finished_snapshot (start.number + 1) partial) start.snapshots;
          partials = partials_of_others t start;
        }) own;
  }

  finish_again : (partial other : Partial) (pool next : Pool) → partial.target ≡ ask.target → other.target ≡ ask.target → AddsPartial ask start pool other → partial_finished partial pool ≡ Ok next → Finished ask start next partial
  finish_again partial other pool next own also under e = record {
    number = pool.number + 1;
    datasets = under.datasets;
    later = let same : pool.number ≡ under.number = ap (λ (p : Pool). p.number) under.pool_is in omega (arith, same, under.later);
    heads = under.heads;
    pool_is =
        commit_is (with_finished partial pool) next e
        ∙ ap (λ (ps : List Partial). record pool {
          number = pool.number + 1;
          datasets = finished_datasets partial pool.datasets;
          snapshots = inserted snapshot_is_before (finished_snapshot (pool.number + 1) partial) pool.snapshots;
          partials = ps;
        }) (others_under partial other pool own also under)
        ∙ ap (λ (p : Pool). record p {
          number = pool.number + 1;
          datasets = finished_datasets partial p.datasets;
          snapshots = inserted snapshot_is_before (finished_snapshot (pool.number + 1) partial) p.snapshots;
          partials = partials_of_others ask.target start;
        }) under.pool_is;
  }

  no_rolls : (before : Stage) (rolls : Bool) (flags : ℕ) (partial : Partial) → before ≡ Lives flags partial → (rolls ≡ true → MayRoll ask start × (before ≡ Waits)) → rolls ≡ false
  no_rolls before true flags partial is only = absurd (let both = sym is ∙ (only refl).1 in cc)
  no_rolls before false flags partial is only = refl

  -- what was taken is committed
  put_runs : (before stage : Stage) (pool next : Pool) (rolls : Bool) → is_done before ≡ false → Runs ask start before pool → Asked ask start before → Asked ask start stage
      → (rolls ≡ true → MayRoll ask start × (before ≡ Waits)) → (stage ≡ Waits → before ≡ Waits) → put_at rolls stage pool ≡ Ok next → Runs ask start stage next
  put_runs Waits Waits pool next rolls unended runs asked now only waits e = sym (ok_parts _ _ e) ∙ runs
  put_runs Waits (Lives flags partial) pool next rolls unended runs asked now only waits e =
      put_first rolls partial next now.target (λ r. (only r).0) (subst (λ (p : Pool). partial_put rolls partial p ≡ Ok next) runs e)
  put_runs Waits (Ends partial) pool next rolls unended runs asked now only waits e = finish_first partial next now.target (subst (λ (p : Pool). partial_finished partial p ≡ Ok next) runs e)
  put_runs (Lives old other) Waits pool next rolls unended runs asked now only waits e = absurd (let both = waits refl in cc)
  put_runs (Lives old other) (Lives flags partial) pool next rolls unended runs asked now only waits e =
      put_again partial other pool next now.target asked.target runs
      (subst (λ (t : Bool). partial_put t partial pool ≡ Ok next) (no_rolls (Lives old other) rolls old other refl only) e)
  put_runs (Lives old other) (Ends partial) pool next rolls unended runs asked now only waits e = finish_again partial other pool next now.target asked.target runs e
  put_runs (Ends other) stage pool next rolls unended runs asked now only waits e = absurd cc

  pub batch_runs : (before : Stage) (pool next : Pool) (batch : Batch) → is_done before ≡ false → Runs ask start before pool → Asked ask start before → Worked ask start before batch
      → put batch pool ≡ Ok next → Runs ask start batch.stage next
  batch_runs before pool next batch unended runs asked worked e = go batch.taken refl e
    where
      go : (t : Bool) → batch.taken ≡ t → cond t (put_at batch.rolls batch.stage pool) (Ok pool) ≡ Ok next → Runs ask start batch.stage next
      go true is e = put_runs before batch.stage pool next batch.rolls unended runs asked worked.asked worked.rolls worked.waits e
      go false is e =
          subst (λ (s : Stage). Runs ask start s next) (sym (worked.idle is))
          (subst (λ (p : Pool). Runs ask start before p) (ok_parts _ _ e) runs)
