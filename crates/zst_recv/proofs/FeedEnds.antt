-- What a feed answers at each of its ends.
use Rattle.std.proofs.Common.{◌≡◌, ◌⊎◌, inl, inr, ℕ, ◌+◌, ◌-◌, ◌^◌, ◌<◌, ◌≤◌, ◌++◌, min, arith, ◌&&◌, Bool, true, false, cond, List, length, Option, Some, None, Ok, Err, refl, sym, ap, ◌∙◌, subst}
use Rattle.std.specs.Prelude.{IsSome, not, sum_by, IfErr, IfSome, Result}
use Rattle.std.proofs.lemmas.List.{length-drop}
use Rattle.zst_outside.specs.Images.{DiskState, Leaves-none}
use Rattle.zst_space.specs.FreeSectors.{FreeSectors}
use Rattle.zst_block.specs.Blocks.{Has}
use Rattle.zst_dir.specs.Rows.{Rows}
use Rattle.zst_image.specs.Bodies.{free_by}
use Rattle.zst_image.specs.Reads.{Reads, bound_of}
use Rattle.zst_image.specs.declared.pool_state.PoolState.{PoolState}
use Rattle.zst_model.specs.declared.refusals.faults.Quantity.TheVariants as quantities
use Rattle.zst_model.specs.declared.refusals.plan_fault.PlanFault.TheVariants as plans
use Rattle.zst_model.specs.declared.refusals.refusal.Refusal.{Refusal}
use Rattle.zst_model.specs.pools.KeptPool.{kept_of}
use Rattle.zst_model.specs.pools.Pool.{Pool}
use Rattle.zst_plan.specs.declared.receive.RecvAsk.{RecvAsk}
use Rattle.zst_pool.specs.Calls.{IsAtRest, IsCallFault, IsUnderWay}
use Rattle.zst_pool.specs.Partials.{without_unkept}
use Rattle.zst_pool.specs.declared.fault.PoolFault.{PoolFault}
use Rattle.zst_pool.specs.declared.fault.PoolFault.TheVariants as pools
use Rattle.zst_pool.proofs.PoolsAtRest.{begun, since}
use Rattle.zst_reader.specs.StandsFor.{StandsFor}
use Rattle.zst_reader.specs.declared.reader.Reader.{Reader}
use Rattle.zst_record.specs.Heads.{Covered, size_of}
use Rattle.zst_stream.specs.Reading.{Reading, complete, reading, waiting}
use Rattle.zst_tree.specs.Indices.{Blocks}
use Rattle.zst_recv.specs.Answers.{Feeds, is_done}
use Rattle.zst_reader.specs.InputReads.{stream_limit}
use Rattle.zst_recv.specs.Faults.{IsFeedFault, keeps_before, recv_refusal}
use Rattle.zst_recv.specs.Feeds.{fed_piece, new_records}
use Rattle.zst_recv.specs.ReceiveSteps.{Stage, Waits, Lives, Ends, Batch, at_stage, is_kept, left_by, pool_of, put}
use Rattle.zst_recv.specs.Commits.{Puts}
use Rattle.zst_recv.specs.Stages.{HasRead, IsStage, IsBatch, LivesOn, RecvFits, StageFits, StandsBehind, WaitsAtBegin, fed_of, has_partial, is_live, kept_without, keeps_partial, point_in, received_at, stage_behind, waits_at}
use Rattle.zst_recv.specs.TakenRecords.{ReadFault, TakesAll, fault_in, taken_of}
use Rattle.zst_recv.specs.declared.batch.Batch as batches
use Rattle.zst_recv.specs.declared.fault.RecvFault.{RecvFault}
use Rattle.zst_recv.specs.declared.fault.RecvFault.TheVariants as faults
use Rattle.zst_recv.specs.declared.recv.FeedReport as coded_recv
use Rattle.zst_recv.specs.declared.recv.Recv.{Recv}
use Rattle.zst_recv.specs.declared.stage.Stage as coded
use Rattle.zst_recv.specs.declared.stage.Stage.TheVariants as stages
use Rattle.zst_recv.proofs.HandedRecords.{fed_within}
use Rattle.zst_recv.proofs.RecordCounts.{applied_within, few_records}
use Rattle.zst_recv.proofs.BatchStages.{IsBegun}
use Rattle.zst_recv.proofs.FeedAnswers.{IsDue, due_some, fell, gives, moments_after, moments_before, stopped_behind, unput}
use Rattle.zst_block.proofs.BlocksLaws.{Has-spared}
use Rattle.zst_recv.proofs.CommitLemmas.{stage_later, stage_more}
use Rattle.zst_recv.proofs.PieceStages.{begun_then, done_is, goes_on_so, left_is, outcome_is, point_is, used_is}

-- ---- how a feed begins

module _ (old one : DiskState) (kept same : PoolState) (space : FreeSectors) (disk : one ≡ old) (stays : same ≡ kept) (free : space ≡ free_by kept.body) where
  pub first_way : {tight : Bool} (running : Pool) → IsAtRest tight old kept running → IsUnderWay tight old one space same running
  first_way {tight = tight} running rested =
      subst (λ (d : DiskState). IsUnderWay tight old d space same running) (sym disk)
      (subst (λ (k : PoolState). IsUnderWay tight old old space k running) (sym stays) (begun old kept running rested space free))

  pub first_stage : (tight : Bool) (number : ℕ) (code : coded.Stage) (stage : Stage) → IsStage (bound_of tight number) (Has old.seen (free_by kept.body)) code stage → IsStage (bound_of tight (number + 1)) (Has one.seen space) code stage
  first_stage tight number code stage is =
      stage_later tight number (Has one.seen space) code stage
      (subst (λ (d : DiskState). IsStage (bound_of tight number) (Has d.seen space) code stage) (sym disk) (subst (λ (s : FreeSectors). IsStage (bound_of tight number) (Has old.seen s) code stage) (sym free) is))

-- ---- what is left

-- a receive that is over has no partial state under way
pub over_leaves : (code : coded.Stage) (target : List ℕ) (kept : PoolState) → is_live code ≡ false → kept ≡ kept_without (has_partial code) target kept
over_leaves stages.Waits target kept over = refl
over_leaves (stages.Lives flags row) target kept over = absurd (cc over)
over_leaves (stages.Ends row) target kept over = refl
over_leaves (stages.Done received) target kept over = refl
over_leaves stages.Over target kept over = refl

pub left_rests : {tight : Bool} (bound : Option ℕ) (has : Blocks) (rows : Rows) (target : List ℕ) (code : coded.Stage) (stage : Stage) (running : Pool) (now : DiskState) (after : PoolState) (held : Bool) → held ≡ has_partial code
    → IsStage bound has code stage → LivesOn rows target code → IsAtRest tight now after (cond held (without_unkept target running) running) → IsAtRest tight now after (left_by stage running)
left_rests {tight = tight} bound has rows target code stage running now after held holds is fits rests =
    subst (IsAtRest tight now after) (ap (λ (b : Bool). cond b (without_unkept target running) running) holds ∙ left_is bound has rows target code stage running is fits) rests

pub kept_is : (bound : Option ℕ) (has : Blocks) (code : coded.Stage) (stage : Stage) → IsStage bound has code stage → keeps_partial code ≡ is_kept stage
kept_is bound has stages.Waits Waits is = refl
kept_is bound has stages.Waits (Lives flags partial) is = absurd is
kept_is bound has stages.Waits (Ends partial) is = absurd is
kept_is bound has (stages.Lives flags row) Waits is = absurd is
kept_is bound has (stages.Lives flags row) (Lives stated partial) is = sym is.1.named.keep
kept_is bound has (stages.Lives flags row) (Ends partial) is = absurd is
kept_is bound has (stages.Ends row) Waits is = absurd is
kept_is bound has (stages.Ends row) (Lives flags partial) is = absurd is
kept_is bound has (stages.Ends row) (Ends partial) is = refl
kept_is bound has (stages.Done received) stage is = absurd is
kept_is bound has stages.Over stage is = absurd is

-- ---- how it stands behind its commit

pub by_test : (test : Bool) (P : Type 0) → (test ≡ true → P) → (test ≡ false → P) → P
by_test true P here otherwise = here refl
by_test false P here otherwise = otherwise refl

-- what was written into free sectors leaves a partial state that was there
pub untaken_stands : (bound : Option ℕ) {tight : Bool} (old now : DiskState) (space : FreeSectors) (kept : PoolState) (running : Pool) → IsUnderWay tight old now space kept running → (code : coded.Stage) (stage : Stage)
    → IsStage bound (Has old.seen (free_by kept.body)) code stage → IsStage bound (Has now.seen (free_by kept.body)) code stage
untaken_stands bound old now space kept running way code stage is =
    stage_more bound old.seen (free_by kept.body) now.seen (free_by kept.body) (λ ptr bytes has. Has-spared (free_by kept.body) old.seen now.seen ptr bytes way.fills.seen has) code stage is

-- a stage without a partial state stands over any blocks
pub loose : (one other : Option ℕ) (has more : Blocks) (code : coded.Stage) (stage : Stage) → has_partial code ≡ false → is_done stage ≡ false → IsStage one has code stage → IsStage other more code stage
loose one other has more stages.Waits Waits none goes is = is
loose one other has more stages.Waits (Lives flags partial) none goes is = absurd is
loose one other has more stages.Waits (Ends partial) none goes is = absurd is
loose one other has more (stages.Lives flags row) stage none goes is = absurd cc
loose one other has more (stages.Ends row) Waits none goes is = absurd is
loose one other has more (stages.Ends row) (Lives flags partial) none goes is = absurd is
loose one other has more (stages.Ends row) (Ends partial) none goes is = absurd cc
loose one other has more (stages.Done received) stage none goes is = absurd is
loose one other has more stages.Over stage none goes is = absurd is

pub live_behind : (code : coded.Stage) (done : Bool) → done ≡ not (is_live code) → is_live (stage_behind code) ≡ not done
live_behind stages.Waits done is = ap not (sym is)
live_behind (stages.Lives flags row) done is = ap not (sym is)
live_behind (stages.Ends row) done is = ap not (sym is)
live_behind (stages.Done received) done is = ap not (sym is)
live_behind stages.Over done is = ap not (sym is)

-- a receive that goes on is in its ranges
pub behind_fits : (rows : Rows) (recv : Recv) (reader : Reader) (target : List ℕ) (code : coded.Stage) → recv.ask.target ≡ target → recv.stage ≡ stage_behind code → recv.reader ≡ reader → LivesOn rows target code
    → HasRead reader code → RecvFits rows recv
behind_fits rows recv reader target code asked behind same fits reads = record {
  stage = subst (λ (t : List ℕ). LivesOn rows t recv.stage) (sym asked) (subst (LivesOn rows target) (sym behind) (by_code code fits));
  reads = subst (λ (r : Reader). HasRead r recv.stage) (sym same) (subst (HasRead reader) (sym behind) has);
}
  where
    by_code : (s : coded.Stage) → LivesOn rows target s → LivesOn rows target (stage_behind s)
    by_code stages.Waits fits = tt
    by_code (stages.Lives flags row) fits = fits
    by_code (stages.Ends row) fits = tt
    by_code (stages.Done received) fits = tt
    by_code stages.Over fits = tt

    stands_so : (handed : List Covered) (s : coded.Stage) → StandsBehind handed s → StandsBehind handed (stage_behind s)
    stands_so handed stages.Waits is = is
    stands_so handed (stages.Lives flags row) is = is
    stands_so handed (stages.Ends row) is = tt
    stands_so handed (stages.Done received) is = tt
    stands_so handed stages.Over is = tt

    has : HasRead reader (stage_behind code)
    has = record { text = reads.text; bytes = reads.bytes; handed = reads.handed; stands = reads.stands; behind = stands_so reads.handed code reads.behind }

-- so is one that is over
pub over_fits : (rows : Rows) (recv : Recv) (reader : Reader) → recv.stage ≡ stages.Over → recv.reader ≡ reader → HasRead reader stages.Over → RecvFits rows recv
over_fits rows recv reader over same reads = record {
  stage = subst (LivesOn rows recv.ask.target) (sym over) tt;
  reads = subst (λ (r : Reader). HasRead r recv.stage) (sym same) (subst (HasRead reader) (sym over) reads);
}

pub fits_within : (rows : Rows) (recv : Recv) → RecvFits rows recv → fed_of recv ≤ stream_limit
fits_within rows recv fits = fed_within recv.reader recv.stage fits.reads

-- one that is live can be fed
pub live_fits : (rows : Rows) (target : List ℕ) (code : coded.Stage) → is_live code ≡ true → LivesOn rows target code → StageFits rows target code
live_fits rows target stages.Waits live fits = tt
live_fits rows target (stages.Lives flags row) live fits = fits
live_fits rows target (stages.Ends row) live fits = absurd cc
live_fits rows target (stages.Done received) live fits = absurd cc
live_fits rows target stages.Over live fits = absurd cc

-- and one that then goes on no more has its snapshot
pub received_then : (rows : Rows) (target : List ℕ) (code : coded.Stage) → StageFits rows target code → is_live code ≡ false → IsSome (received_at (stage_behind code))
received_then rows target stages.Waits fits over = absurd cc
received_then rows target (stages.Lives flags row) fits over = absurd cc
received_then rows target (stages.Ends row) fits over = refl
received_then rows target (stages.Done received) fits over = absurd fits
received_then rows target stages.Over fits over = absurd fits

-- which is the target's
pub received_for : (rows : Rows) (target : List ℕ) (code : coded.Stage) → StageFits rows target code → IfSome (received_at (stage_behind code)) (λ made. made.target ≡ target)
received_for rows target stages.Waits fits = tt
received_for rows target (stages.Lives flags row) fits = tt
received_for rows target (stages.Ends row) fits = fits.of_target
received_for rows target (stages.Done received) fits = absurd fits
received_for rows target stages.Over fits = absurd fits

-- where it still waits nothing was taken
pub waits_behind : (code : coded.Stage) → waits_at (stage_behind code) ≡ true → waits_at code ≡ true
waits_behind stages.Waits is = is
waits_behind (stages.Lives flags row) is = is
waits_behind (stages.Ends row) is = is
waits_behind (stages.Done received) is = is
waits_behind stages.Over is = is

pub both_false : (one other : Bool) → other ≡ false → (one && other) ≡ false
both_false true other is = is
both_false false other is = refl

-- ---- refusals

-- a refusal of a commit is one that a feed may answer
pub known_call : (fault : PoolFault) → IsCallFault fault → IsFeedFault (faults.Pool fault)
known_call (pools.Plan fault) is = tt
known_call (pools.CannotApply fault) is = absurd is
known_call (pools.Redacted object block) is = absurd is
known_call (pools.Full need largest) is = tt
known_call (pools.Damaged sector stated found) is = absurd is
known_call pools.DiskFault is = tt
known_call pools.Failed is = absurd is
known_call pools.OutOfMemory is = tt

-- none says that the disk failed before
pub still_open : (result : Result coded_recv.FeedReport RecvFault) → IfErr result IsFeedFault → result ≡ Err (faults.Pool pools.Failed) → ⊥
still_open result known is = subst (λ (r : Result coded_recv.FeedReport RecvFault). IfErr r IsFeedFault) is known

-- ---- the ends

module _ (tight : Bool) (old last : DiskState) (after : PoolState) (recv : Recv) (text piece : List ℕ) (stage : Stage) (running : Pool) where
  -- the stream would be too long
  pub too_long : last ≡ old → IsAtRest tight old after (left_by stage running) → stream_limit < length text + length piece → (fault : RecvFault)
      → fault ≡ faults.Pool (pools.Plan (plans.Limit quantities.Stream stream_limit)) → Feeds tight old last after recv text piece stage running (Err fault)
  too_long same rests long fault is =
      subst (λ (f : RecvFault). Feeds tight old last after recv text piece stage running (Err f)) (sym is)
      (subst (λ (d : DiskState). Feeds tight old d after recv text piece stage running (Err (faults.Pool (pools.Plan (plans.Limit quantities.Stream stream_limit))))) (sym same)
      (record { moments = Leaves-none old (λ c. Reads tight (kept_of running) c ⊎ Reads tight (kept_of (pool_of (fed_piece recv.ask text piece stage running))) c); answer = (refl, long, rests) }))

  -- no memory was left
  pub no_memory : last ≡ old → IsAtRest tight old after (left_by stage running) → (fault : RecvFault) → fault ≡ faults.Pool pools.OutOfMemory → Feeds tight old last after recv text piece stage running (Err fault)
  no_memory same rests fault is =
      subst (λ (f : RecvFault). Feeds tight old last after recv text piece stage running (Err f)) (sym is)
      (subst (λ (d : DiskState). Feeds tight old d after recv text piece stage running (Err (faults.Pool pools.OutOfMemory))) (sym same)
      (record { moments = Leaves-none old (λ c. Reads tight (kept_of running) c ⊎ Reads tight (kept_of (pool_of (fed_piece recv.ask text piece stage running))) c); answer = rests }))

  -- the piece wasn't read
  pub lost : (ask : RecvAsk) (two : DiskState) (kept : PoolState) (space : FreeSectors) (given fault : RecvFault) → recv.ask ≡ ask → IsUnderWay tight old two space kept running → last ≡ two → given ≡ fault → ReadFault (fault_in ask running text piece (at_stage stage)) fault
      → (fault_in ask running text piece (at_stage stage) ≡ Some (recv_refusal fault) → (keeps_before fault && is_kept (taken_of ask running text piece (at_stage stage)).batch.stage) ≡ false)
      → ((need largest : ℕ) → fault ≡ faults.Pool (pools.Full need largest) → largest < need) → IsAtRest tight two after (left_by stage running) → Feeds tight old last after recv text piece stage running (Err given)
  lost ask two kept space given fault asked way same is told none full rests =
      let here = subst (λ (a : RecvAsk). ReadFault (fault_in a running text piece (at_stage stage)) fault
      × (fault_in a running text piece (at_stage stage) ≡ Some (recv_refusal fault) → (keeps_before fault && is_kept (taken_of a running text piece (at_stage stage)).batch.stage) ≡ false)) (sym asked) (told, none) in
      subst (λ (f : RecvFault). Feeds tight old last after recv text piece stage running (Err f)) (sym is)
      (subst (λ (d : DiskState). Feeds tight old d after recv text piece stage running (Err fault)) (sym same)
      (record {
        moments = moments_before recv.ask text piece stage running tight old two (since old two space kept running way);
        answer = fell recv.ask text piece stage running tight two after recv rests fault here.0 here.1 full;
      }))

  -- its commit was refused
  pub unmade : (ask : RecvAsk) (two : DiskState) (kept : PoolState) (first : Option Refusal) (given : RecvFault) (fault : PoolFault) → recv.ask ≡ ask → IsDue ask text piece stage running first
      → Puts tight old two kept running (put (taken_of ask running text piece (at_stage stage)).batch running) (Err fault) → last ≡ two → given ≡ faults.Pool fault
      → (IsAtRest tight two kept running → IsAtRest tight two after (left_by stage running)) → Feeds tight old last after recv text piece stage running (Err given)
  unmade ask two kept first given fault asked due puts same is rests =
      let here = subst (λ (a : RecvAsk). IsDue a text piece stage running first × Puts tight old two kept running (put (taken_of a running text piece (at_stage stage)).batch running) (Err fault)) (sym asked) (due, puts) in
      let put = here.1 in
      subst (λ (f : RecvFault). Feeds tight old last after recv text piece stage running (Err f)) (sym is)
      (subst (λ (d : DiskState). Feeds tight old d after recv text piece stage running (Err (faults.Pool fault))) (sym same)
      (record {
        moments = moments_after recv.ask text piece stage running tight old two first here.0 put.moments;
        answer = unput recv.ask text piece stage running tight two after recv (IsAtRest tight two kept running) rests first here.0 fault put.answer;
      }))

  -- the records before a fault were committed
  pub stopped : (fault : RecvFault) → ReadFault (fault_in recv.ask running text piece (at_stage stage)) fault → keeps_before fault ≡ true
      → (fault_in recv.ask running text piece (at_stage stage) ≡ Some (recv_refusal fault) → is_kept (taken_of recv.ask running text piece (at_stage stage)).batch.stage ≡ true)
      → Puts tight old last after running (put (taken_of recv.ask running text piece (at_stage stage)).batch running) (Ok tt) → Feeds tight old last after recv text piece stage running (Err fault)
  stopped fault told keeps stands puts =
      let put = puts.answer in
      record {
        moments = moments_after recv.ask text piece stage running tight old last (Some (recv_refusal fault)) (due_some recv.ask text piece stage running fault told keeps stands) puts.moments;
        answer = stopped_behind recv.ask text piece stage running tight last after recv put.0 put.1 put.2 fault told keeps stands;
      }

  -- all of it was taken and committed
  module _ (handed : List Covered) (was : reading text ≡ record { covered = handed; outcome = waiting }) (front : (rest : List Covered) × ((reading (text ++ piece)).covered ≡ handed ++ rest)) (live : is_done stage ≡ false)
      (waits : WaitsAtBegin handed stage) (has : Blocks) (code : batches.Batch) (reader : Reader) (bound : Option ℕ) (takes : TakesAll recv.ask running reader text piece (IsBatch bound has code) (at_stage stage)) where
    abbrev made : Batch
    made = (taken_of recv.ask running text piece (at_stage stage)).batch

    begun_so : IsBegun (reading (text ++ piece)).covered (reading (text ++ piece)).outcome made.stage
    begun_so = begun_then recv.ask running text piece stage handed was front live waits takes.whole

    any : ((reading (text ++ piece)).outcome ≡ waiting) ⊎ ((reading (text ++ piece)).outcome ≡ complete)
    any = outcome_is recv.ask running text piece stage handed was front takes.whole

    -- the count of what was applied is one of 64 bits
    sizes_are : ((reading (text ++ piece)).outcome ≡ waiting) ⊎ ((reading (text ++ piece)).outcome ≡ complete) → sum_by (λ c. size_of c.head) (reading (text ++ piece)).covered ≤ 2 ^ 62
    sizes_are (inl wait) =
        let w = takes.waits wait in
        let same : (reading (text ++ piece)).covered ≡ w.0 = ap (λ (r : Reading). r.covered) w.1.whole in
        subst (λ (l : List Covered). sum_by (λ c. size_of c.head) l ≤ 2 ^ 62) (sym same) (omega (arith, w.1.stands.sizes, w.1.stands.bounded))
    sizes_are (inr end) = let e = takes.ends end in omega (arith, e.1.stands.sizes, e.1.stands.bounded)

    few : made.applied ≤ 2 ^ 62
    few =
        omega (arith, applied_within recv.ask running (new_records text piece) (at_stage stage), length-drop (length (reading text).covered) (reading (text ++ piece)).covered, few_records (reading (text ++ piece)).covered, sizes_are any)

    counted : min made.applied (2 ^ 64 - 1) ≡ made.applied
    counted = omega (arith, few)

    pub fed_so : (fed : coded_recv.FeedReport) → Puts tight old last after running (put made running) (Ok tt) → recv.reader ≡ reader → recv.stage ≡ stage_behind code.stage
        → ((next : Pool) → put made running ≡ Ok next → is_done made.stage ≡ false → IsStage (bound_of tight next.number) (Has last.seen (free_by after.body)) code.stage made.stage)
        → (is_live code.stage ≡ true → fed.used ≡ length piece)
        → ((read : List ℕ) (all : List Covered) → StandsFor reader read all → is_live code.stage ≡ false → fed.used ≡ sum_by (λ c. size_of c.head) all - length text)
        → fed.applied ≡ code.applied → fed.point ≡ point_in code.stage → fed.done ≡ not (is_live code.stage) → Feeds tight old last after recv text piece stage running (Ok fed)
    fed_so fed puts same behind stands all ends applied point done =
        let put = puts.answer in
        let outcome = (reading (text ++ piece)).outcome in
        record {
          moments = moments_after recv.ask text piece stage running tight old last None takes.whole puts.moments;
          answer = record {
            next = put.0;
            after = made.stage;
            definition_is = gives recv.ask text piece stage running None put.0 takes.whole put.1;
            rests = put.2;
            goes_on = goes_on_so (bound_of tight put.0.number) last after recv (text ++ piece) code.stage reader same behind (reading (text ++ piece)).covered outcome refl any takes.waits made.stage begun_so bound has takes.is.stage (stands put.0 put.1);
            tells = record {
              used =
                  used_is (reading (text ++ piece)).covered outcome any text piece bound has code.stage made.stage fed.used takes.is.stage begun_so all
                  (λ whole over. let read = takes.ends whole in ends read.0 (reading (text ++ piece)).covered read.1.stands over);
              applied = applied ∙ takes.is.applied ∙ counted;
              point = point ∙ point_is bound has code.stage made.stage takes.is.stage;
              done = done ∙ done_is bound has code.stage made.stage takes.is.stage;
            };
          };
        }
