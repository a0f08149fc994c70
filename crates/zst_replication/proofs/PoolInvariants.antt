-- Where a receive of whatever is read stands, and what holds of its pools holds of the one that it leaves.
use Rattle.std.proofs.Common.{◌≡◌, inl, inr, ℕ, ◌+◌, ◌<◌, ◌≤◌, Bool, true, false, not, ◌&&◌, List, [], ◌∷◌, ◌++◌, Contains, Option, Some, None, IfSome, Result, Ok, Err, refl, sym, ap, ◌∙◌, subst, cond, arith}
use Rattle.std.specs.Prelude.{bytes_eq, filter}
use Rattle.std.specs.Option.{option_map_or}
use Rattle.std.proofs.lemmas.Bool.{true≢false}
use Rattle.std.proofs.lemmas.List.Elements.{All-contains}
use Rattle.zst_laws.specs.ReceivedRecords.{ReceivedIsApplied}
use Rattle.zst_laws.proofs.pools.Descent.{SnapshotRow, PartialRow}
use Rattle.zst_names.specs.Names.{IsDataset}
use Rattle.zst_model.proofs.OrderLaws.{bytes_same}
use Rattle.zst_model.specs.declared.refusals.refusal.Refusal.{Refusal}
use Rattle.zst_model.specs.declared.sends.header.Header.{Header}
use Rattle.zst_model.specs.pools.Pool.{Pool, HasDataset, HasSnapshot, IsLinked, Dataset, Snapshot, Partial, partial_of, untouched}
use Rattle.zst_model.specs.pools.Rows.{partial_row, snapshot_row}
use Rattle.zst_model.specs.pools.Soundness.{DatedUpTo, Sound}
use Rattle.zst_model.specs.states.AppliedItems.{◌>>=◌}
use Rattle.zst_model.specs.states.DatedState.{DatedState}
use Rattle.zst_model.proofs.DatedStates.{dated_higher}
use Rattle.zst_model.proofs.FoundElements.{found_passes, none_passes}
use Rattle.zst_model.proofs.FilteredLists.{filter_contains}
use Rattle.zst_model.proofs.Results.{bind_ok, ok_parts}
use Rattle.zst_plan.specs.RecvPlan.{RecvPlan, recv_plan, snapshot_name}
use Rattle.zst_plan.specs.declared.receive.RecvAsk.{RecvAsk}
use Rattle.zst_pool.specs.Partials.{partials_of_others, rolled_back, with_finished, with_partial}
use Rattle.zst_record.specs.declared.head.Head.{Head}
use Rattle.zst_record.specs.declared.head.Head.TheVariants as heads
use Rattle.zst_record.specs.Heads.{Covered}
use Rattle.zst_stream.specs.Reading.{reading}
use Rattle.zst_recv.proofs.CommitLemmas.{commit_is}
use Rattle.zst_recv.specs.Answers.{is_done}
use Rattle.zst_recv.specs.Feeds.{and_feed, fault_of, fed_piece, feeds, new_records, receives}
use Rattle.zst_recv.specs.ReceiveSteps.{Stage, Waits, Lives, Ends, Batch, Fed, Goes, Stops, at_stage, batch_of, batch_by, began, begun, fed, left_by, moved_by, of_plan, opened, put, put_at, taken, taken_at, went_on, with_applied}
use Rattle.zst_replication.proofs.EarlierDates.{all_carry, stays_on, stays_same}
use Rattle.zst_replication.proofs.FeedSteps.{goes_on, stops_by}
use Rattle.zst_replication.proofs.FeedSequences.{Stands, ended_feed, fed_ended, feed_worked, put_stands, stands_first}
use Rattle.zst_replication.proofs.GrownPartials.{Grown, IsLatest, MayGoBack, base_named, grown_on, latest_number}
use Rattle.zst_replication.proofs.RecordEffects.{moves}
use Rattle.zst_replication.proofs.LatestBases.{planned_over}
use Rattle.zst_replication.proofs.ReceivePlans.{begins_anew, resumes}
use Rattle.zst_replication.proofs.Results.{plan_ok}
use Rattle.zst_replication.proofs.Rows.{none_left, others_all}
use Rattle.zst_replication.proofs.RunningPools.{Heads}
use Rattle.zst_replication.proofs.SoundSnapshots.{finished}
use Rattle.zst_replication.proofs.SoundPartials.{AreOlds, back_olds, same_olds, under}
use Rattle.zst_replication.proofs.Ancestry.{fewer_linked, old_number, owner, sound_dated}

-- the pool without a partial state of the target
abbrev pub cleared : RecvAsk → Pool → Pool
cleared ask start = record start { partials = partials_of_others ask.target start }

-- what a receive has under way has grown from its base, or from the target's old partial state, in commits up to this number
abbrev pub IsGrown : RecvAsk → Pool → ℕ → Partial → Type 0
IsGrown ask start number partial = Grown (cleared ask start) start.partials number partial

abbrev pub Comes : RecvAsk → Pool → ℕ → Stage → Pool → Type 0
Comes ask start number Waits pool = pool ≡ start
Comes ask start number (Lives flags partial) pool = IsGrown ask start number partial
Comes ask start number (Ends partial) pool = IsGrown ask start number partial

grown_later : (ask : RecvAsk) (start : Pool) (number more : ℕ) (partial : Partial) → number ≤ more → IsGrown ask start number partial → IsGrown ask start more partial
grown_later ask start number more partial up grown =
    grown_on (cleared ask start) start.partials number more partial partial refl refl refl grown grown.stays (dated_higher number more up partial.objects grown.dated)

comes_later : (ask : RecvAsk) (start : Pool) (number more : ℕ) (stage : Stage) (pool : Pool) → number ≤ more → Comes ask start number stage pool → Comes ask start more stage pool
comes_later ask start number more Waits pool up comes = comes
comes_later ask start number more (Lives flags partial) pool up comes = grown_later ask start number more partial up comes
comes_later ask start number more (Ends partial) pool up comes = grown_later ask start number more partial up comes

-- this holds of the pool that a receive begins with, of each with a partial state of the target, of each with a snapshot more and without that, and of
-- each of these with fewer partial states
pub record HoldsAll (ask : RecvAsk) (start : Pool) (Holds : Pool → Type 0) : Type 0 where
  pub first : Holds start
  pub lives : (number : ℕ) (datasets : List Dataset) (partial : Partial) → start.number ≤ number → AreOlds (cleared ask start) partial.target datasets → IsGrown ask start number partial
      → Holds (under (cleared ask start) number datasets partial)
  pub ends : (number : ℕ) (datasets : List Dataset) (partial : Partial) → start.number < number → AreOlds (cleared ask start) partial.target datasets → IsGrown ask start number partial
      → IsDataset partial.target → ((other : Partial) → Contains (partials_of_others ask.target start) other → other.target ≡ partial.target → ⊥) → Holds (finished (cleared ask start) number datasets partial)
  pub fewer : (pool : Pool) (partials : List Partial) → ((partial : Partial) → Contains partials partial → Contains pool.partials partial) → Holds pool → Holds (record pool { partials = partials })

pub some : (ask : RecvAsk) (start : Pool) (partial : Partial) → Contains (cleared ask start).partials partial → Contains start.partials partial
some ask start partial there = filter_contains (λ (p : Partial). not (bytes_eq p.target ask.target)) start.partials partial there

module _ (law : ReceivedIsApplied) (ask : RecvAsk) (start : Pool) (linked : IsLinked start) (sound : Sound start) where
  -- ---- one record

  abbrev objects_of : Option Snapshot → DatedState
  objects_of base = option_map_or (λ snapshot. snapshot.objects) base untouched

  -- the base's objects, or none, are dated up to the pool's number
  base_dated : (base : Option Snapshot) (number : ℕ) → start.number ≤ number → IfSome base (λ snapshot. Contains start.snapshots snapshot) → DatedUpTo number (objects_of base)
  base_dated None number up has = record { numbers = λ k. omega arith; indices = λ k i. omega arith }
  base_dated (Some snapshot) number up has =
      let less = old_number start sound snapshot has in
      dated_higher snapshot.number number (omega (arith, less, up)) snapshot.objects (sound_dated start sound (snapshot_row snapshot) (SnapshotRow snapshot has))

  -- a receive that begins afresh
  fresh_grown : (header : Header) (plan : RecvPlan) (number : ℕ) (pool : Pool) → start.number ≤ number → partial_of ask.target start ≡ None → recv_plan ask header start ≡ Ok plan
      → Comes ask start number (opened ask header plan).stage pool
  fresh_grown header plan number pool up none planned =
      let fresh = begins_anew ask header start plan none planned in
      let over = planned_over ask header start sound.dated.rise fresh.base fresh.based in
      let same : cleared ask start ≡ start = ap (λ (ps : List Partial). record start { partials = ps }) (others_all (λ (p : Partial). bytes_eq p.target ask.target) start.partials none) in
      let grown : Grown start start.partials number (begun ask header fresh.component fresh.base) =
      record {
        from = objects_of fresh.base.snapshot;
        origin = inl (record { base = fresh.base.snapshot; over = over; named = refl; objects = λ snapshot is. ap objects_of is });
        based = λ name e. base_named start fresh.base.snapshot over.there name e;
        free = λ has. true≢false
            (sym (bytes_same has.0.name (snapshot_name ask.target fresh.component) has.2)
            ∙ none_passes (λ (s : Snapshot). bytes_eq s.name (snapshot_name ask.target fresh.component)) start.snapshots fresh.new has.0 has.1);
        stays = stays_same start.number (objects_of fresh.base.snapshot);
        dated = base_dated fresh.base.snapshot number up over.there;
      } in
      subst (λ (p : RecvPlan). Comes ask start number (opened ask header p).stage pool) (sym fresh.plan_is)
      (subst (λ (s : Pool). Grown s start.partials number (begun ask header fresh.component fresh.base)) (sym same) grown)

  -- and one that goes on with an old partial state
  based_old : (o : Option (List ℕ)) → IfSome o (HasSnapshot start) → (name : List ℕ) → o ≡ Some name → HasSnapshot (cleared ask start) name
  based_old None has name e = absurd cc
  based_old (Some other) has name e = let same : other ≡ name = cc in subst (HasSnapshot (cleared ask start)) same has

  old_grown : (number : ℕ) (old : Partial) → start.number ≤ number → Contains start.partials old → IsGrown ask start number old
  old_grown number old up there = record {
    from = old.objects;
    origin = inr (record { old = old; there = there; target = refl; base = refl; objects = refl });
    based = based_old old.base (All-contains (λ p. IfSome p.base (HasSnapshot start)) start.partials old linked.bases there);
    free = All-contains (λ p. HasSnapshot start (p.target ++ 64 ∷ p.component) → ⊥) start.partials old linked.components there;
    stays = stays_same start.number old.objects;
    dated = dated_higher start.number number up old.objects (sound_dated start sound (partial_row start.number old) (PartialRow old there));
  }

  -- BEGIN
  opened_comes : (header : Header) (plan : RecvPlan) (number : ℕ) (pool : Pool) → start.number ≤ number → recv_plan ask header start ≡ Ok plan → Comes ask start number (opened ask header plan).stage pool
  opened_comes header plan number pool up planned = go (partial_of ask.target start) refl
    where
      go : (o : Option Partial) → partial_of ask.target start ≡ o → Comes ask start number (opened ask header plan).stage pool
      go None none = fresh_grown header plan number pool up none planned
      go (Some old) found =
          subst (λ (p : RecvPlan). Comes ask start number (opened ask header p).stage pool) (sym (resumes ask header start old plan found planned))
          (old_grown number old up (found_passes (λ (p : Partial). bytes_eq p.target ask.target) start.partials old found).0)

  module _ (pool : Pool) (up : start.number ≤ pool.number) where
    -- what the batch of a feed has under way, in the next commit
    abbrev Coming : Batch → Type 0
    Coming batch = Comes ask start (pool.number + 1) batch.stage pool

    same_batch : (batch after : Batch) → Coming batch → ◌≡◌ {A = Result Batch Refusal} (Ok batch) (Ok after) → Coming after
    same_batch batch after comes e = subst (λ (w : Batch). Coming w) (ok_parts batch after e) comes

    began_comes : (batch after : Batch) (head : Head) → Coming batch → batch.stage ≡ Waits → began ask pool batch head ≡ Ok after → Coming after
    began_comes batch after (heads.Begin header len) comes waits e =
        let same : pool ≡ start = subst (λ (s : Stage). Comes ask start (pool.number + 1) s pool) waits comes in
        let found = bind_ok (of_plan (recv_plan ask header pool)) (λ plan. Ok (opened ask header plan)) after e in
        let planned = subst (λ (p : Pool). recv_plan ask header p ≡ Ok found.0) same (plan_ok _ found.0 found.1) in
        subst (λ (w : Batch). Coming w) (ok_parts _ _ found.2) (opened_comes header found.0 (pool.number + 1) pool (omega (arith, up)) planned)
    began_comes batch after (heads.Object object kind bonus_kind block_size bonus_len max_block to) comes waits e = same_batch batch after comes e
    began_comes batch after (heads.FreeObjects first many to) comes waits e = same_batch batch after comes e
    began_comes batch after (heads.Write object kind offset size to) comes waits e = same_batch batch after comes e
    began_comes batch after (heads.Free object offset size to) comes waits e = same_batch batch after comes e
    began_comes batch after (heads.End sums to) comes waits e = same_batch batch after comes e
    began_comes batch after (heads.Spill object size to) comes waits e = same_batch batch after comes e
    began_comes batch after (heads.Redact object offset size to) comes waits e = same_batch batch after comes e

    -- a record that is applied
    moved_comes : (batch after : Batch) (c : Covered) (flags : ℕ) (partial : Partial) → IsGrown ask start (pool.number + 1) partial
        → (moved_by (pool.number + 1) c flags partial >>= λ moved. Ok (with_applied flags moved batch)) ≡ Ok after → Coming after
    moved_comes batch after c flags partial grown e =
        let found = bind_ok (moved_by (pool.number + 1) c flags partial) (λ moved. Ok (with_applied flags moved batch)) after e in
        let next = found.0 in
        let moved = moves (pool.number + 1) c flags partial next found.1 in
        let carries = all_carry law (pool.number + 1) c.index _ partial.objects next.objects moved.objects in
        let after_is : Partial = record partial { objects = next.objects; point = next.point } in
        let now : IsGrown ask start (pool.number + 1) after_is =
        grown_on (cleared ask start) start.partials (pool.number + 1) (pool.number + 1) partial after_is refl refl refl grown
        (stays_on start.number grown.from partial.objects next.objects grown.stays (carries.stays start.number (omega (arith, up)))) (carries.dated grown.dated) in
        subst (λ (w : Batch). Coming w) (ok_parts _ _ found.2) (subst (λ (p : Partial). IsGrown ask start (pool.number + 1) p) (sym moved.further) now)

    went_comes : (batch after : Batch) (c : Covered) (flags : ℕ) (partial : Partial) (head : Head) → Coming batch → IsGrown ask start (pool.number + 1) partial
        → went_on (pool.number + 1) c flags partial batch head ≡ Ok after → Coming after
    went_comes batch after c flags partial (heads.Begin header len) comes grown e = same_batch batch after comes e
    went_comes batch after c flags partial (heads.Object object kind bonus_kind block_size bonus_len max_block to) comes grown e = moved_comes batch after c flags partial grown e
    went_comes batch after c flags partial (heads.FreeObjects first many to) comes grown e = moved_comes batch after c flags partial grown e
    went_comes batch after c flags partial (heads.Write object kind offset size to) comes grown e = moved_comes batch after c flags partial grown e
    went_comes batch after c flags partial (heads.Free object offset size to) comes grown e = moved_comes batch after c flags partial grown e
    went_comes batch after c flags partial (heads.End sums to) comes grown e = subst (λ (w : Batch). Coming w) (ok_parts _ _ e) grown
    went_comes batch after c flags partial (heads.Spill object size to) comes grown e = moved_comes batch after c flags partial grown e
    went_comes batch after c flags partial (heads.Redact object offset size to) comes grown e = moved_comes batch after c flags partial grown e

    taken_comes : (c : Covered) (batch after : Batch) (stage : Stage) → batch.stage ≡ stage → Coming batch → taken_at ask pool c batch stage ≡ Ok after → Coming after
    taken_comes c batch after Waits is comes e = began_comes batch after c.head comes is e
    taken_comes c batch after (Lives flags partial) is comes e =
        went_comes batch after c flags partial c.head comes (subst (λ (s : Stage). Comes ask start (pool.number + 1) s pool) is comes) e
    taken_comes c batch after (Ends partial) is comes e = same_batch batch after comes e

    -- all records of a feed
    pub batch_comes : (records : List Covered) (batch : Batch) → Coming batch → Coming (batch_of ask pool records batch).batch
    unfolding batch_of
    batch_comes [] batch comes = comes
    batch_comes (c ∷ rest) batch comes = go (taken ask pool c batch) refl (λ after more. batch_comes rest after more)
      where
        go : (r : Result Batch Refusal) → taken ask pool c batch ≡ r → ((after : Batch) → Coming after → Coming (batch_of ask pool rest after).batch)
            → Coming (batch_by r batch (batch_of ask pool rest)).batch
        go (Ok after) e on = on after (taken_comes c batch after batch.stage refl comes e)
        go (Err refusal) e on = comes

  -- ---- where a receive stands

  -- in the pool that runs, what is under way has grown up to its number
  pub record StandsWell (stage : Stage) (pool : Pool) : Type 0 where
    pub stands : Stands ask start stage pool
    pub comes : Comes ask start pool.number stage pool
    pub later : start.number ≤ pool.number

  -- the target may go back where its head did
  may_go_back : (number : ℕ) (partial : Partial) → partial.target ≡ ask.target → partial_of ask.target start ≡ None → IsGrown ask start number partial → (latest : Snapshot) → IsLatest (cleared ask start) partial.target latest
      → MayGoBack (cleared ask start) partial.target latest.number
  may_go_back number partial own none grown latest is = elim grown.origin [
    | inl from ↦ elim from.over.onto [
      | inl (last, e, also, back) ↦ subst (λ (n : ℕ). MayGoBack (cleared ask start) partial.target n) (latest_number (cleared ask start) partial.target last latest also is) back
      | inr absent ↦ absurd (absent (subst (HasDataset (cleared ask start)) is.own (owner (cleared ask start) (fewer_linked start (cleared ask start).partials (some ask start) linked) latest is.there)))
    ]
    | inr from ↦ absurd (true≢false
        (sym (bytes_same from.old.target ask.target (from.target ∙ own))
        ∙ none_passes (λ (p : Partial). bytes_eq p.target ask.target) start.partials none from.old from.there))
  ]

  -- the datasets are the old ones, or the target's head went back
  heads_olds : (datasets : List Dataset) (number : ℕ) (partial : Partial) → partial.target ≡ ask.target → Heads ask start datasets → IsGrown ask start number partial → AreOlds (cleared ask start) partial.target datasets
  heads_olds datasets number partial own (inl same) grown = subst (λ (ds : List Dataset). AreOlds (cleared ask start) partial.target ds) (sym same) (same_olds (cleared ask start) partial.target)
  heads_olds datasets number partial own (inr back) grown =
      subst (λ (ds : List Dataset). AreOlds (cleared ask start) partial.target ds) (ap (λ (t : List ℕ). rolled_back t start) own ∙ sym back.1)
      (back_olds (cleared ask start) partial.target sound.dated.rise (may_go_back number partial own back.0.1 grown))

  -- ---- one feed

  -- a commit
  put_comes : (stage : Stage) (rolls : Bool) (pool next : Pool) → put_at rolls stage pool ≡ Ok next → start.number ≤ pool.number → Comes ask start (pool.number + 1) stage pool
      → Comes ask start next.number stage next × (start.number ≤ next.number)
  put_comes Waits rolls pool next e later comes =
      let same = ok_parts pool next e in (sym same ∙ comes, subst (λ (p : Pool). start.number ≤ p.number) same later)
  put_comes (Lives flags partial) rolls pool next e later comes =
      let n : next.number ≡ pool.number + 1 = ap (λ (p : Pool). p.number) (commit_is (with_partial rolls partial pool) next e) in
      (subst (λ (m : ℕ). IsGrown ask start m partial) (sym n) comes, omega (arith, n, later))
  put_comes (Ends partial) rolls pool next e later comes =
      let n : next.number ≡ pool.number + 1 = ap (λ (p : Pool). p.number) (commit_is (with_finished partial pool) next e) in
      (subst (λ (m : ℕ). IsGrown ask start m partial) (sym n) comes, omega (arith, n, later))

  work_comes : (before : Stage) (pool next : Pool) (batch : Batch) → StandsWell before pool → (batch.taken ≡ false → batch.stage ≡ before) → Comes ask start (pool.number + 1) batch.stage pool → put batch pool ≡ Ok next
      → Comes ask start next.number batch.stage next × (start.number ≤ next.number)
  work_comes before pool next batch well idle comes e = go batch.taken refl e
    where
      go : (t : Bool) → batch.taken ≡ t → cond t (put_at batch.rolls batch.stage pool) (Ok pool) ≡ Ok next → Comes ask start next.number batch.stage next × (start.number ≤ next.number)
      go true is e = put_comes batch.stage batch.rolls pool next e well.later comes
      go false is e =
          let same = ok_parts pool next e in (
            subst (λ (s : Stage). Comes ask start next.number s next) (sym (idle is)) (subst (λ (p : Pool). Comes ask start p.number before p) same well.comes),
            subst (λ (p : Pool). start.number ≤ p.number) same well.later,
          )

  batch_well : (before : Stage) (pool next : Pool) (records : List Covered) → is_done before ≡ false → StandsWell before pool → put (batch_of ask pool records (at_stage before)).batch pool ≡ Ok next
      → StandsWell (batch_of ask pool records (at_stage before)).batch.stage next
  batch_well before pool next records unended well e =
      let worked = feed_worked ask start before pool records well.stands in
      let batch = (batch_of ask pool records (at_stage before)).batch in
      let comes = batch_comes pool well.later records (at_stage before) (comes_later ask start pool.number (pool.number + 1) before pool (omega arith) well.comes) in
      let now = work_comes before pool next batch well worked.idle comes e in
      record { stands = put_stands ask start before pool next records unended well.stands e; comes = now.0; later = now.1 }

  others_target : (target : List ℕ) → target ≡ ask.target → (other : Partial) → Contains (partials_of_others ask.target start) other → other.target ≡ target → ⊥
  others_target target own other there same =
      true≢false (sym (bytes_same other.target ask.target (same ∙ own))
      ∙ none_passes (λ (p : Partial). bytes_eq p.target ask.target) (partials_of_others ask.target start) (none_left (λ (p : Partial). bytes_eq p.target ask.target) start.partials) other there)

  -- ---- what holds of the pools

  module _ (Holds : Pool → Type 0) (all : HoldsAll ask start Holds) (is_name : IsDataset ask.target) where
    -- so it holds wherever a receive stands
    pub well_holds : (stage : Stage) (pool : Pool) → StandsWell stage pool → Holds pool
    well_holds Waits pool well = subst (λ (p : Pool). Holds p) (sym well.comes) all.first
    well_holds (Lives flags partial) pool well =
        let is = well.stands.runs in
        let own = well.stands.asked.target in
        let same : pool.number ≡ is.number = ap (λ (p : Pool). p.number) is.pool_is in
        subst (λ (p : Pool). Holds p) (sym is.pool_is)
        (all.lives is.number is.datasets partial (let l = is.later in omega (arith, l)) (heads_olds is.datasets pool.number partial own is.heads well.comes) (subst (λ (n : ℕ). IsGrown ask start n partial) same well.comes))
    well_holds (Ends partial) pool well =
        let is = well.stands.runs in
        let own = well.stands.asked.target in
        let same : pool.number ≡ is.number = ap (λ (p : Pool). p.number) is.pool_is in
        subst (λ (p : Pool). Holds p) (sym is.pool_is)
        (all.ends is.number is.datasets partial is.later (heads_olds is.datasets pool.number partial own is.heads well.comes) (subst (λ (n : ℕ). IsGrown ask start n partial) same well.comes)
        (subst (λ (t : List ℕ). IsDataset t) (sym own) is_name) (others_target partial.target own))

    -- where its session ends
    left_holds : (stage : Stage) (pool : Pool) → Holds pool → Holds (left_by stage pool)
    left_holds Waits pool is = is
    left_holds (Lives flags partial) pool is =
        let stays = λ (p : Partial). not (bytes_eq p.target partial.target && not p.keep) in
        all.fewer pool (filter stays pool.partials) (λ p there. filter_contains stays pool.partials p there) is
    left_holds (Ends partial) pool is = is

    -- a feed that goes on leaves the receive so, and one that stops such a pool
    abbrev pub FedWell : Fed → Type 0
    FedWell (Goes next after) = StandsWell after next
    FedWell (Stops next refusal) = Holds next

    fed_on : (records : List Covered) (fault : Option Refusal) (before : Stage) (pool : Pool) → is_done before ≡ false → StandsWell before pool → (f : Fed) → fed ask records fault before pool ≡ f → FedWell f
    fed_on records fault before pool unended well (Goes next after) e =
        let on = goes_on ask records fault before after pool next e in
        subst (λ (s : Stage). StandsWell s next) on.after_is (batch_well before pool next records unended well on.put_is)
    fed_on records fault before pool unended well (Stops next refusal) e = elim (stops_by ask records fault before pool next refusal e) [
      | inl left ↦ subst (λ (p : Pool). Holds p) (sym left) (left_holds before pool (well_holds before pool well))
      | inr taken ↦ well_holds (batch_of ask pool records (at_stage before)).batch.stage next (batch_well before pool next records unended well taken.1)
    ]

    fed_well : (records : List Covered) (fault : Option Refusal) (before : Stage) (pool : Pool) → StandsWell before pool → FedWell (fed ask records fault before pool)
    fed_well records fault Waits pool well = fed_on records fault Waits pool refl well (fed ask records fault Waits pool) refl
    fed_well records fault (Lives flags partial) pool well = fed_on records fault (Lives flags partial) pool refl well (fed ask records fault (Lives flags partial) pool) refl
    fed_well records fault (Ends partial) pool well = subst (λ (f : Fed). FedWell f) (sym (fed_ended ask records fault partial pool)) (go fault)
      where
        go : (f : Option Refusal) → FedWell (ended_feed partial pool f)
        go None = well
        go (Some refusal) = well_holds (Ends partial) pool well

    -- ---- feeds

    pub feeds_well : (text : List ℕ) (pieces : List (List ℕ)) (stage : Stage) (pool : Pool) → StandsWell stage pool → FedWell (feeds ask text pieces stage pool)
    unfolding feeds
    feeds_well text [] stage pool well = well
    feeds_well text (piece ∷ rest) stage pool well =
        go (fed_piece ask text piece stage pool) (fed_well (new_records text piece) (fault_of (reading (text ++ piece)).outcome) stage pool well) (λ next after more. feeds_well (text ++ piece) rest after next more)
      where
        go : (f : Fed) → FedWell f → ((next : Pool) (after : Stage) → StandsWell after next → FedWell (feeds ask (text ++ piece) rest after next))
            → FedWell (and_feed f (feeds ask (text ++ piece) rest))
        go (Goes next after) well on = on next after well
        go (Stops next refusal) well on = well

    pub receive_well : (pieces : List (List ℕ)) → FedWell (receives ask start pieces)
    receive_well pieces = feeds_well [] pieces Waits start (record { stands = stands_first ask start; comes = refl; later = omega arith })
