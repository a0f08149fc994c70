-- What settles a run and what then follows it, one after another.
use Rattle.std.proofs.Common.{◌≡◌, ℕ, zero, suc, ◌<◌, Bool, true, false, List, [], ◌∷◌, ◌++◌, refl, sym, ap, ◌∙◌, subst, arith, Result, Ok, Err, Option}
use Rattle.std.specs.Prelude.{None, OnErr, OnOk}
use Rattle.std.proofs.lemmas.List.{append-nil}
use Rattle.zst_outside.specs.Images.{DiskState}
use Rattle.zst_space.specs.FreeSectors.{FreeSectors}
use Rattle.zst_block.specs.Blocks.{FillsFree, Has, SparesTaken}
use Rattle.zst_block.specs.declared.fault.BlockFault.{BlockFault}
use Rattle.zst_dir.specs.Rows.{Rows}
use Rattle.zst_model.specs.declared.refusals.plan_fault.PlanFault.{PlanFault}
use Rattle.zst_model.specs.declared.refusals.refusal.Refusal.{Refusal}
use Rattle.zst_model.specs.pools.Pool.{Pool}
use Rattle.zst_plan.specs.declared.receive.RecvAsk.{RecvAsk}
use Rattle.zst_pool.specs.declared.fault.PoolFault.TheVariants as pools
use Rattle.zst_record.specs.Heads.{Covered}
use Rattle.zst_record.specs.declared.head.Head.{Head}
use Rattle.zst_recv.specs.Batches.{Gathers, Moves, MovesOn, MovesRun, PlansBegin}
use Rattle.zst_recv.specs.Costs.{Spends}
use Rattle.zst_recv.specs.Damage.{ComesFrom}
use Rattle.zst_recv.specs.Faults.{stop_at}
use Rattle.zst_recv.specs.Plans.{is_planned}
use Rattle.zst_recv.specs.PutOffWrites.{HasObjectAt, IsDue, IsPutOff, JoinsRun, Passes, SpendsFirst, StandsBetween}
use Rattle.zst_recv.specs.ReceiveSteps.{Batch, Ends, Lives, Stage, Waits, batch_by, batch_of, taken}
use Rattle.zst_recv.specs.Stages.{IsBatch, IsStage, has_partial, is_live, waits_at}
use Rattle.zst_recv.specs.TakenRecords.{AreTaken, Takes, TakeFault}
use Rattle.zst_recv.specs.declared.batch.Batch as batches
use Rattle.zst_recv.specs.declared.block_run.BlockRun.{BlockRun}
use Rattle.zst_recv.specs.declared.fault.RecvFault.{RecvFault}
use Rattle.zst_recv.specs.declared.fault.RecvFault.TheVariants as faults
use Rattle.zst_recv.specs.declared.stage.Stage as coded
use Rattle.zst_recv.specs.declared.stage.Stage.TheVariants as stages
use Rattle.zst_recv.proofs.BatchMoves.{gathers_none, partial_begun, partial_lives}
use Rattle.zst_recv.proofs.CostLemmas.{spends_idle, spends_then}
use Rattle.zst_recv.proofs.DrainLemmas.{batch_then}
use Rattle.zst_recv.proofs.RecordEffects.{partial_stays}
use Rattle.zst_recv.proofs.SetOrigins.{same_trees}

-- ---- stages

no_both : {b : Bool} → b ≡ true → b ≡ false → ⊥
no_both {b} one other = let both : true ≡ false = sym one ∙ other in cc both

-- a partial state under way is none that waits
pub never_waits : (stage : coded.Stage) → has_partial stage ≡ true → waits_at stage ≡ true → ⊥
never_waits stage has waits = no_both waits (partial_begun stage has)

pub gathers_then : (rows : Rows) (target : List ℕ) (old mid new : batches.Batch) → Gathers rows target old mid → Gathers rows target mid new → Gathers rows target old new
gathers_then rows target old mid new first second = record {
  fits = λ fits. second.fits (first.fits fits);
  idle = λ none. let same = second.idle none in same ∙ first.idle (ap (λ (b : batches.Batch). b.taken) (sym same) ∙ none);
  waits = λ waits. let same = second.waits waits in same ∙ first.waits (ap (λ (b : batches.Batch). waits_at b.stage) (sym same) ∙ waits);
}

-- what is so whatever is answered
on_ok : {T E : Type 0} (result : Result T E) (P : Type 0) → P → OnOk result P
on_ok (Ok value) P is = is
on_ok (Err fault) P is = tt

-- ---- so many records that were put off were applied
module _ {A : Type 0} (rows : Rows) (target : List ℕ) (count : ℕ) (old mid : batches.Batch) (alive : 0 < count → has_partial old.stage ≡ true) where
  module _ (result : Result A RecvFault) (run : MovesRun rows target count old mid result) where
    kind_same : {T : Type 0} (kind : coded.Stage → T) → (0 < count → kind mid.stage ≡ kind old.stage) → kind mid.stage ≡ kind old.stage
    kind_same kind some = by count refl
      where
        by : (n : ℕ) → count ≡ n → kind mid.stage ≡ kind old.stage
        by zero none = ap (λ (b : batches.Batch). kind b.stage) (run.none none)
        by (suc n) is = some (omega (arith, is))

    pub live_same : is_live mid.stage ≡ is_live old.stage
    live_same = kind_same is_live (λ some. partial_lives mid.stage (run.lives some) ∙ sym (partial_lives old.stage (alive some)))

    pub waits_same : waits_at mid.stage ≡ waits_at old.stage
    waits_same = kind_same waits_at (λ some. partial_begun mid.stage (run.lives some) ∙ sym (partial_begun old.stage (alive some)))

    pub waited_same : waits_at old.stage ≡ true → mid ≡ old
    waited_same waits = run.gathers.waits (waits_same ∙ waits)

    -- and nothing else is done
    pub moves_alone : (head : Head) → StandsBetween head → MovesOn rows target head old mid result
    moves_alone head between = record {
      gathers = run.gathers;
      waited = λ waits. on_err result (waited_same waits);
      begins = on_ok result _ (λ begin. absurd (no_both begin between.no_begin));
      lives = λ has. sym live_same ∙ partial_lives mid.stage has;
      ends = on_ok result _ (λ end. absurd (no_both end between.no_end));
      over = λ live over. absurd (no_both live (sym live_same ∙ over));
    }
      where
        on_err : {T E : Type 0} (result : Result T E) {P : Type 0} → P → OnErr result P
        on_err (Ok value) is = tt
        on_err (Err fault) is = is

  -- or a block stopped it
  pub moves_stopped : (head : Head) (fault : RecvFault) {B : Type 0} → MovesRun {A = A} rows target count old mid (Err fault) → MovesOn {A = B} rows target head old mid (Err fault)
  moves_stopped head fault run = record {
    gathers = run.gathers;
    waited = λ waits. run.stays;
    begins = tt;
    lives = λ has. sym (live_same (Err fault) run) ∙ partial_lives mid.stage has;
    ends = tt;
    over = λ live over. absurd (no_both live (sym (live_same (Err fault) run) ∙ over));
  }

  -- then something stopped
  pub moves_failed : (head : Head) (value : A) (fault : RecvFault) {B : Type 0} → MovesRun rows target count old mid (Ok value) → MovesOn {A = B} rows target head old mid (Err fault)
  moves_failed head value fault run = record {
    gathers = run.gathers;
    waited = λ waits. waited_same (Ok value) run waits;
    begins = tt;
    lives = λ has. sym (live_same (Ok value) run) ∙ partial_lives mid.stage has;
    ends = tt;
    over = λ live over. absurd (no_both live (sym (live_same (Ok value) run) ∙ over));
  }

  -- then a record was taken
  pub moves_taken : (head : Head) (value : A) (new : batches.Batch) {B : Type 0} (result : Result B RecvFault) → MovesRun rows target count old mid (Ok value) → Moves rows target head mid new result → MovesOn rows target head old new result
  moves_taken head value new result run moves = record {
    gathers = gathers_then rows target old mid new run.gathers moves.gathers;
    waited = λ waits. subst (λ (b : batches.Batch). OnErr result (new ≡ b)) (waited_same (Ok value) run waits) moves.stays;
    begins = moves.begins;
    lives = λ has. sym (live_same (Ok value) run) ∙ moves.lives has;
    ends = on_ok result _ moves.ends;
    over = λ live over. moves.over (live_same (Ok value) run ∙ live) over;
  }

-- a record is put off behind others
pub moves_put : (rows : Rows) (target : List ℕ) (head : Head) (batch : batches.Batch) → StandsBetween head → MovesOn {A = Unit {0}} rows target head batch batch (Ok tt)
moves_put rows target head batch between = record {
  gathers = gathers_none rows target batch;
  waited = λ waits. tt;
  begins = λ begin. absurd (no_both begin between.no_begin);
  lives = partial_lives batch.stage;
  ends = λ end. absurd (no_both end between.no_end);
  over = λ live over. absurd (no_both live over);
}

-- ---- plans

-- no plan is asked where a partial state is under way
pub plans_never : (rows : Rows) (ask : RecvAsk) (head : Head) (stage : coded.Stage) (result : Result (Unit {0}) RecvFault) → has_partial stage ≡ true
    → ((fault : PlanFault) → result ≡ Err (faults.Pool (pools.Plan fault)) → is_planned fault ≡ false) → PlansBegin rows ask head (waits_at stage) result
plans_never rows ask head stage result has unplanned = record {
  planned = λ running header len begins was named tells. absurd (never_waits stage has was);
  because = λ fault kind told. absurd (no_both kind (unplanned fault told));
}

-- ---- what stands

-- blocks that are written leave a batch
pub batch_still : (bound : Option ℕ) (old new : DiskState) (space less : FreeSectors) (fills : FillsFree old space new less) (batch : batches.Batch) (work : Batch) → IsBatch bound (Has old.seen space) batch work → IsBatch bound (Has new.seen less) batch work
batch_still bound old new space less fills batch work is = record { stage = still batch.stage work.stage is.stage; rolls = is.rolls; taken = is.taken; applied = is.applied }
  where
    still : (stage : coded.Stage) (plain : Stage) → IsStage bound (Has old.seen space) stage plain → IsStage bound (Has new.seen less) stage plain
    still stages.Waits Waits is = tt
    still stages.Waits (Lives flags partial) is = is
    still stages.Waits (Ends partial) is = is
    still (stages.Lives flags row) Waits is = is
    still (stages.Lives flags row) (Lives stated partial) is = (is.0, partial_stays bound old new space less row partial fills is.1)
    still (stages.Lives flags row) (Ends partial) is = is
    still (stages.Ends row) Waits is = is
    still (stages.Ends row) (Lives flags partial) is = is
    still (stages.Ends row) (Ends partial) is = partial_stays bound old new space less row partial fills is
    still (stages.Done received) plain is = is
    still stages.Over plain is = is

-- and its set
pub comes_still : (rows : Rows) (ask : RecvAsk) (text : List ℕ) (old new : DiskState) (space less : FreeSectors) → FillsFree old space new less → (stage : coded.Stage) → ComesFrom rows ask text (SparesTaken space old.seen) old.size stage (SparesTaken less new.seen) stage
comes_still rows ask text old new space less fills stages.Waits = tt
comes_still rows ask text old new space less fills (stages.Lives flags row) = (row.objects, refl, same_trees old new space less fills row.objects)
comes_still rows ask text old new space less fills (stages.Ends row) = tt
comes_still rows ask text old new space less fills (stages.Done received) = tt
comes_still rows ask text old new space less fills stages.Over = tt

-- ---- faults of the disk

-- what stops records that the definition takes may stop at others
pub stops_any : {A B : Type 0} (one : A) (definition : Result B Refusal) (fault : RecvFault) → TakeFault {A = A} (Ok one) fault → TakeFault definition fault
stops_any one definition (faults.Pool (pools.Plan fault)) stops = absurd cc
stops_any one definition (faults.Pool (pools.CannotApply fault)) stops = stops
stops_any one definition (faults.Pool (pools.Redacted object block)) stops = stops
stops_any one definition (faults.Pool (pools.Full need largest)) stops = tt
stops_any one definition (faults.Pool (pools.Damaged sector stated found)) stops = stops
stops_any one definition (faults.Pool pools.DiskFault) stops = tt
stops_any one definition (faults.Pool pools.Failed) stops = stops
stops_any one definition (faults.Pool pools.OutOfMemory) stops = stops
stops_any one definition (faults.Stream fault) stops = stops
stops_any one definition (faults.CannotApply index fault) stops = absurd cc

-- and is a block's
pub stops_block : {A : Type 0} (one : A) (fault : RecvFault) → TakeFault {A = A} (Ok one) fault → stop_at fault ≡ None → ⊥
stops_block one (faults.Pool (pools.Plan fault)) stops none = cc
stops_block one (faults.Pool (pools.CannotApply fault)) stops none = stops
stops_block one (faults.Pool (pools.Redacted object block)) stops none = stops
stops_block one (faults.Pool (pools.Full need largest)) stops none = cc
stops_block one (faults.Pool (pools.Damaged sector stated found)) stops none = stops
stops_block one (faults.Pool pools.DiskFault) stops none = cc
stops_block one (faults.Pool pools.Failed) stops none = stops
stops_block one (faults.Pool pools.OutOfMemory) stops none = stops
stops_block one (faults.Stream fault) stops none = stops
stops_block one (faults.CannotApply index fault) stops none = cc

-- ---- what is due

-- nothing
pub due_none : (run : BlockRun) (work : Batch) → IsPutOff run [] → IsDue run [] work
due_none run work none = record { put_off = none; there = λ some. absurd (let zero_is : 0 ≡ run.count = none.count_is in omega (arith, zero_is, some)) }

-- one record more
pub due_more : (old new : BlockRun) (records : List Covered) (c : Covered) (work : Batch) → IsDue old records work → JoinsRun old new c true → IsDue new (records ++ c ∷ []) work
due_more old new records c work due joins = record {
  put_off = joins.put_off refl records due.put_off;
  there = λ some. subst (λ (n : ℕ). HasObjectAt work.stage n new.size) (sym joins.same.object_is) (subst (λ (n : ℕ). HasObjectAt work.stage old.object n) (sym joins.same.size_is) (due.there (joins.some refl)));
}

-- ---- records that pass
module _ (ask : RecvAsk) (pool : Pool) where
  pub taken_none : (work : Batch) → AreTaken ask pool [] work work
  unfolding batch_of
  taken_none work = refl

  pub taken_more : (records more : List Covered) (work mid after : Batch) → AreTaken ask pool records work mid → AreTaken ask pool more mid after → AreTaken ask pool (records ++ more) work after
  taken_more records more work mid after first second = batch_then ask pool more records work mid first ∙ second

  pub taken_by : (records : List Covered) (next : Covered) (work mid after : Batch) → AreTaken ask pool records work mid → taken ask pool next mid ≡ Ok after → AreTaken ask pool (records ++ next ∷ []) work after
  unfolding batch_of
  taken_by records next work mid after first is = batch_then ask pool (next ∷ []) records work mid first ∙ ap (λ (r : Result Batch Refusal). batch_by r mid (batch_of ask pool [])) is

  -- all that is put off was taken, and then a record was or wasn't
  pub passes_taken : (run : BlockRun) (records : List Covered) (next : Covered) (Is : Batch → Type 0) (work mid : Batch) (result : Result (Unit {0}) RecvFault) → IsPutOff run [] → AreTaken ask pool records work mid
      → Takes Is mid (taken ask pool next mid) result → Passes ask pool run records next Is work result
  passes_taken run records next Is work mid (Ok done) none were takes = record {
    first = records ++ next ∷ [];
    put_off = [];
    all = append-nil (records ++ next ∷ []);
    after = takes.0;
    were_taken = taken_by records next work mid takes.0 were takes.1;
    is = takes.2;
    due = due_none run takes.0 none;
  }
  passes_taken run records next Is work mid (Err fault) none were takes = record { after = mid; were_taken = were; refused = takes.0; is = λ none. takes.1 }

-- ---- what they spend

-- all of them
pub spends_all : (run : BlockRun) (records : List Covered) (old new : FreeSectors) (stop : Option BlockFault) → IsPutOff run [] → Spends records old new stop → SpendsFirst run records old new stop
spends_all run records old new stop none spends = record { first = records; put_off = []; all = append-nil records; are_put_off = none; spends = spends }

-- none
pub spends_put : (run : BlockRun) (records : List Covered) (space : FreeSectors) → IsPutOff run records → SpendsFirst run records space space None
spends_put run records space put = record { first = []; put_off = records; all = refl; are_put_off = put; spends = spends_idle [] space None refl }

-- and then nothing more
pub spends_on : (records : List Covered) (old mid new : FreeSectors) → Spends records old mid None → Spends [] mid new None → Spends records old new None
spends_on records old mid new first second = subst (λ (cs : List Covered). Spends cs old new None) (append-nil records) (spends_then records [] old mid new None first second)

-- those that were put off, and one is put off
pub spends_begun : (run : BlockRun) (records : List Covered) (c : Covered) (old mid new : FreeSectors) → IsPutOff run (c ∷ []) → Spends records old mid None → Spends [] mid new None → SpendsFirst run (records ++ c ∷ []) old new None
spends_begun run records c old mid new put first second = record { first = records; put_off = c ∷ []; all = refl; are_put_off = put; spends = spends_on records old mid new first second }
