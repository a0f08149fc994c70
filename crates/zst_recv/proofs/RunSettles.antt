-- What is put off is taken: of a batch and of what the definition makes of its work.
use Rattle.std.proofs.Common.{◌≡◌, ◌==◌, ℕ, zero, suc, ◌+◌, ◌-◌, ◌*◌, ◌^◌, ◌<◌, Bool, true, false, min, List, [], ◌∷◌, length, Option, refl, sym, ap, ◌∙◌, subst, arith, Result, Ok, Err}
use Rattle.zst_dir.specs.Rows.{Rows}
use Rattle.zst_dir.specs.declared.rows.Partial.{Partial as Row}
use Rattle.zst_image.specs.Reads.{PartialIs}
use Rattle.zst_model.specs.pools.Pool.{Partial, Pool}
use Rattle.zst_plan.specs.declared.receive.RecvAsk.{RecvAsk}
use Rattle.zst_record.specs.Heads.{Covered}
use Rattle.zst_record.specs.declared.head.Head.TheVariants as heads
use Rattle.zst_tree.specs.Indices.{Blocks}
use Rattle.zst_recv.specs.Batches.{MovesRun}
use Rattle.zst_recv.specs.PutOffWrites.{HasObject, HasObjectAt, IsDue, Settles, WritesRun, bytes_of}
use Rattle.zst_recv.specs.ReceiveSteps.{Batch, Lives, Stage}
use Rattle.zst_recv.specs.Stages.{CanPutFor, IsBatch, has_partial}
use Rattle.zst_recv.specs.TakenRecords.{AreTaken}
use Rattle.zst_recv.specs.declared.batch.Batch as batches
use Rattle.zst_recv.specs.declared.block_run.BlockRun.{BlockRun}
use Rattle.zst_recv.specs.declared.fault.RecvFault.{RecvFault}
use Rattle.zst_recv.specs.declared.stage.Stage.TheVariants as stages
use Rattle.zst_recv.proofs.BatchMoves.{moves_gone}
use Rattle.zst_recv.proofs.PassedRuns.{stops_any, taken_none}
use Rattle.zst_recv.proofs.WriteRuns.{run_work, taken_run}

-- some is put off where it isn't so that nothing is
pub none_is : (count : ℕ) (test : Bool) → test ≡ (count == 0) → test ≡ false → 0 < count
none_is zero test is not = let both : true ≡ false = sym is ∙ not in absurd (cc both)
none_is (suc count) test is not = omega arith

-- nothing is put off
pub settles_none : (ask : RecvAsk) (running : Pool) (run : BlockRun) (records : List Covered) (Is : Batch → Type 0) (work : Batch) → IsDue run records work → run.count ≡ 0 → Is work → Settles ask running records Is work (Ok tt)
settles_none ask running run [] Is work due none is = record { after = work; were_taken = taken_none ask running work; ends = is }
settles_none ask running run (c ∷ records) Is work due none is = let counts = due.put_off.count_is in absurd (omega (arith, counts, none))

-- the object of what is put off is in the partial state that is under way
pub has_there : (run : BlockRun) (records : List Covered) (work : Batch) (flags : ℕ) (state : Partial) → IsDue run records work → 0 < run.count → work.stage ≡ Lives flags state → HasObject state.objects run.object run.size
has_there run records work flags state due some stage = subst (λ (s : Stage). HasObjectAt s run.object run.size) stage (due.there some)

module _ (ask : RecvAsk) (running : Pool) (number flags : ℕ) (number_is : number ≡ running.number + 1) (bound : Option ℕ) (has : Blocks) (run : BlockRun) (row : Row) where
  -- the definition takes them
  due_taken : (records : List Covered) (work : Batch) (state : Partial) (result : Result (Unit {0}) RecvFault) (due : IsDue run records work) → 0 < run.count → work.stage ≡ Lives flags state
      → (writes : WritesRun number run records (PartialIs bound has row) state result)
      → AreTaken ask running records work (run_work ask running number flags number_is work state writes.objects run.object ((run.first + run.count) * run.size) (length records))
  due_taken [] work state result due some stage writes = let counts = due.put_off.count_is in absurd (omega (arith, counts, some))
  due_taken (c ∷ records) work state result due some stage writes =
      let counts = due.put_off.count_is in
      taken_run ask running number flags number_is run.object run.size run.first (run.first + run.count) (bytes_of run) c records work state writes.objects (omega (arith, counts)) due.put_off.writes stage writes.received_is

  module _ (records : List Covered) (batch : batches.Batch) (work : Batch) (state : Partial) (due : IsDue run records work) (some : 0 < run.count) (stage : work.stage ≡ Lives flags state) where
    pub settles_run : (applied : ℕ) → WritesRun number run records (PartialIs bound has row) state (Ok tt) → batch.rolls ≡ work.rolls → batch.applied ≡ min work.applied (2 ^ 64 - 1) → applied ≡ min (batch.applied + run.count) (2 ^ 64 - 1)
        → Settles ask running records (IsBatch bound has (record { stage = stages.Lives flags row; rolls = batch.rolls; taken = true; applied = applied })) work (Ok tt)
    settles_run applied writes rolls count more =
        let counts = due.put_off.count_is in
        record {
          after = run_work ask running number flags number_is work state writes.objects run.object ((run.first + run.count) * run.size) (length records);
          were_taken = due_taken records work state (Ok tt) due some stage writes;
          ends = record { stage = (refl, writes.ends); rolls = rolls; taken = refl; applied = omega (arith, counts, count, more) };
        }

    -- or a block stopped it
    pub settles_stopped : (Is : Batch → Type 0) (fault : RecvFault) → WritesRun number run records (PartialIs bound has row) state (Err fault) → Settles ask running records Is work (Err fault)
    settles_stopped Is fault writes = record {
      after = run_work ask running number flags number_is work state writes.objects run.object ((run.first + run.count) * run.size) (length records);
      were_taken = due_taken records work state (Err fault) due some stage writes;
      ends = stops_any _ (Ok _) fault writes.ends;
    }

-- what they make of a batch
pub moves_run : (rows : Rows) (target : List ℕ) (count : ℕ) (old new : batches.Batch) (flags : ℕ) (row next : Row) → 0 < count → old.stage ≡ stages.Lives flags row → new.stage ≡ stages.Lives flags next → new.taken ≡ true
    → (CanPutFor rows target row → CanPutFor rows target next) → MovesRun {A = Unit {0}} rows target count old new (Ok tt)
moves_run rows target count old new flags row next some lived lives taken puts =
    let moves = moves_gone {A = Unit {0}} rows target (heads.Spill 0 0 0) old new tt flags row next lived lives taken refl puts in
    record {
      gathers = moves.gathers;
      stays = tt;
      none = λ none. absurd (omega (arith, none, some));
      some = tt;
      lives = λ _. ap has_partial lives;
    }
